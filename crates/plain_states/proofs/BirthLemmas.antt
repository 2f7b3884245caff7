-- The model's birth, by the cells and versions that it leaves.
use Rattle.std.proofs.Common.{◌≡◌, ◌≢◌, ℕ, zero, suc, ◌+◌, ◌-◌, ◌<◌, ◌≤◌, ◌⊎◌, inl, inr, Bool, true, false, if◌then◌else◌, ◌==◌, List, [], ◌∷◌, ◌++◌, Option, Some, None, length, slice_index, slice_get, option_map, refl, sym, ap, subst, ◌∙◌, arith, eqb-true, eq-eqb}
use Rattle.std.proofs.lemmas.Bool.{cases_lt, lt-ltb}
use Rattle.std.proofs.lemmas.List.{length-set}
use Rattle.base_types.specs.declared.histories.Answer.TheVariants.{Quiet}
use Rattle.base_types.specs.declared.histories.Entry.{Entry}
use Rattle.base_types.specs.declared.histories.Event.TheVariants.{Birth}
use Rattle.model_kernel.specs.Changes.{Access, Change, accessed, acts, carried, carried_by, changed, joined, ordered, touches_of}
use Rattle.model_kernel.specs.State.{Supply, AtlasState, Cell, AtlasCell, ContainerCell, LocusCell, KernelState}
use Rattle.plain_states.specs.Born.{entry_of_container, entry_of_locus, risen}
use Rattle.plain_states.specs.Events.{Makes, state_with}
use Rattle.plain_states.specs.Plains.{cells_by, container_cell, container_of, locus_cell, locus_of}
use Rattle.plain_states.specs.declared.plain.PlainContainer.{PlainContainer}
use Rattle.plain_states.specs.declared.plain.PlainLocus.{PlainLocus}
use Rattle.plain_states.proofs.CellLemmas.{high_cell, low_container, risen as risen_at}

-- WRITES OF TWO AND OF THREE ENTITIES

abbrev pub access : ℕ → Cell → Access
access x k = record { entity = x; new = Some k }

abbrev pub two_writes : Cell → ℕ → Cell → List Access
two_writes a n k = access 0 a ∷ access n k ∷ []

abbrev pub three_writes : Cell → ℕ → Cell → ℕ → Cell → List Access
three_writes a h j n k = access 0 a ∷ access h j ∷ access n k ∷ []

two_ordered : (a : Cell) (n : ℕ) (k : Cell) → 0 < n → ordered (two_writes a n k) ≡ two_writes a n k
two_ordered a n k lt = rw (lt-ltb 0 n lt) refl

three_ordered : (a : Cell) (h : ℕ) (j : Cell) (n : ℕ) (k : Cell) → 0 < h → h < n → ordered (three_writes a h j n k) ≡ three_writes a h j n k
three_ordered a h j n k pos lt = rw (lt-ltb h n lt) (rw (lt-ltb 0 h pos) refl)

abbrev pub cell_left : KernelState → List Access → ℕ → Option Access → Cell
cell_left w accesses x o = (accessed (w x) (joined w (touches_of w accesses)) o).cell

abbrev pub version_left : KernelState → List Access → ℕ → Option Access → ℕ
version_left w accesses x o = (accessed (w x) (joined w (touches_of w accesses)) o).version

two_cells : (w : KernelState) (a : Cell) (n : ℕ) (k : Cell) (x : ℕ) → (changed w (two_writes a n k) x).cell ≡ (if 0 == x then a else if n == x then k else (w x).cell)
unfolding changed
two_cells w a n k x = elim (0 == x) as (λ b. cell_left w (two_writes a n k) x (if b then Some (access 0 a) else if n == x then Some (access n k) else None) ≡ (if b then a else if n == x then k else (w x).cell)) [
  | true ↦ refl
  | false ↦ elim (n == x) as (λ b. cell_left w (two_writes a n k) x (if b then Some (access n k) else None) ≡ (if b then k else (w x).cell)) [ true ↦ refl | false ↦ refl ]
]

two_versions : (w : KernelState) (a : Cell) (n : ℕ) (k : Cell) (x : ℕ) → (changed w (two_writes a n k) x).version ≡ (if 0 == x then (w x).version + 1 else if n == x then (w x).version + 1 else (w x).version)
unfolding changed
two_versions w a n k x = elim (0 == x) as (λ b. version_left w (two_writes a n k) x (if b then Some (access 0 a) else if n == x then Some (access n k) else None) ≡ (if b then (w x).version + 1 else if n == x then (w x).version + 1 else (w x).version)) [
  | true ↦ refl
  | false ↦ elim (n == x) as (λ b. version_left w (two_writes a n k) x (if b then Some (access n k) else None) ≡ (if b then (w x).version + 1 else (w x).version)) [ true ↦ refl | false ↦ refl ]
]

three_cells : (w : KernelState) (a : Cell) (h : ℕ) (j : Cell) (n : ℕ) (k : Cell) (x : ℕ) → (changed w (three_writes a h j n k) x).cell ≡ (if 0 == x then a else if h == x then j else if n == x then k else (w x).cell)
unfolding changed
three_cells w a h j n k x =
    elim (0 == x) as (λ b. cell_left w (three_writes a h j n k) x (if b then Some (access 0 a) else if h == x then Some (access h j) else if n == x then Some (access n k) else None) ≡ (if b then a else if h == x then j else if n == x then k else (w x).cell)) [
      | true ↦ refl
      | false ↦ elim (h == x) as (λ b. cell_left w (three_writes a h j n k) x (if b then Some (access h j) else if n == x then Some (access n k) else None) ≡ (if b then j else if n == x then k else (w x).cell)) [
        | true ↦ refl
        | false ↦ elim (n == x) as (λ b. cell_left w (three_writes a h j n k) x (if b then Some (access n k) else None) ≡ (if b then k else (w x).cell)) [ true ↦ refl | false ↦ refl ]
      ]
    ]

three_versions : (w : KernelState) (a : Cell) (h : ℕ) (j : Cell) (n : ℕ) (k : Cell) (x : ℕ) → (changed w (three_writes a h j n k) x).version ≡ (if 0 == x then (w x).version + 1 else if h == x then (w x).version + 1 else if n == x then (w x).version + 1 else (w x).version)
unfolding changed
three_versions w a h j n k x =
    elim (0 == x) as (λ b. version_left w (three_writes a h j n k) x (if b then Some (access 0 a) else if h == x then Some (access h j) else if n == x then Some (access n k) else None) ≡ (if b then (w x).version + 1 else if h == x then (w x).version + 1 else if n == x then (w x).version + 1 else (w x).version)) [
      | true ↦ refl
      | false ↦ elim (h == x) as (λ b. version_left w (three_writes a h j n k) x (if b then Some (access h j) else if n == x then Some (access n k) else None) ≡ (if b then (w x).version + 1 else if n == x then (w x).version + 1 else (w x).version)) [
        | true ↦ refl
        | false ↦ elim (n == x) as (λ b. version_left w (three_writes a h j n k) x (if b then Some (access n k) else None) ≡ (if b then (w x).version + 1 else (w x).version)) [ true ↦ refl | false ↦ refl ]
      ]
    ]

-- VERSIONS

two_tests : (a b : Bool) (u v w : ℕ) → (a ≡ true → b ≡ true → ⊥) → v ≡ (if a then u + 1 else u) → w ≡ (if b then v + 1 else v) → w ≡ (if a then u + 1 else if b then u + 1 else u)
two_tests true true u v w apart e f = absurd (apart refl refl)
two_tests true false u v w apart e f = f ∙ e
two_tests false true u v w apart e f = f ∙ ap (λ n. n + 1) e
two_tests false false u v w apart e f = f ∙ e

never_both : (m n x : ℕ) → m < n → (m == x) ≡ true → (n == x) ≡ true → ⊥
never_both m n x lt e f =
    let p : m ≡ x = eqb-true m x e in
    let q : n ≡ x = eqb-true n x f in
    omega arith

pub two_risen : (us : List ℕ) (n x : ℕ) → length us ≡ 64 → 0 < n → n < 64 → slice_index (risen (risen us 0) n) x ≡ (if 0 == x then slice_index us x + 1 else if n == x then slice_index us x + 1 else slice_index us x)
two_risen us n x len pos lt =
    two_tests (0 == x) (n == x) (slice_index us x) _ _ (never_both 0 n x pos) (risen_at us 0 x (omega arith)) (risen_at (risen us 0) n x (rw length-set (omega arith)))

three_tests : (a b c : Bool) (u v w y : ℕ) → (a ≡ true → c ≡ true → ⊥) → (b ≡ true → c ≡ true → ⊥) → w ≡ (if a then u + 1 else if b then u + 1 else u) → y ≡ (if c then w + 1 else w) → y ≡ (if a then u + 1 else if b then u + 1 else if c then u + 1 else u)
three_tests true b true u v w y apart far e f = absurd (apart refl refl)
three_tests true b false u v w y apart far e f = f ∙ e
three_tests false true true u v w y apart far e f = absurd (far refl refl)
three_tests false true false u v w y apart far e f = f ∙ e
three_tests false false true u v w y apart far e f = f ∙ ap (λ n. n + 1) e
three_tests false false false u v w y apart far e f = f ∙ e

pub three_risen : (us : List ℕ) (h n x : ℕ) → length us ≡ 64 → 0 < h → h < n → n < 64
    → slice_index (risen (risen (risen us 0) h) n) x ≡ (if 0 == x then slice_index us x + 1 else if h == x then slice_index us x + 1 else if n == x then slice_index us x + 1 else slice_index us x)
three_risen us h n x len pos lt small =
    three_tests (0 == x) (h == x) (n == x) (slice_index us x) 0 _ _ (never_both 0 n x (omega arith)) (never_both h n x lt) (two_risen us h x len pos (omega arith))
    (risen_at (risen (risen us 0) h) n x (rw length-set (rw length-set (omega arith))))

-- BIRTHS

pub makes_two : (f : KernelState → Option (ℕ × Change)) (old new : ℕ → Cell) (us vs : List ℕ) (a : Cell) (n : ℕ) (k : Cell) (e : Entry) → 0 < n
    → ((stamps : ℕ → ℕ → ℕ) → f (state_with old us stamps) ≡ Some (n, record { accesses = two_writes a n k; answer = Quiet }))
    → e ≡ entry_of_container us n
    → ((x : ℕ) → new x ≡ (if 0 == x then a else if n == x then k else old x))
    → ((x : ℕ) → slice_index vs x ≡ (if 0 == x then slice_index us x + 1 else if n == x then slice_index us x + 1 else slice_index us x))
    → Makes (acts Birth f) old us e new vs
makes_two f old new us vs a n k e pos is entry cells versions stamps =
    let w = state_with old us stamps in (
      changed w (two_writes a n k),
      ap (option_map (λ (c : ℕ × Change). carried w Birth c.0 c.1)) (is stamps) ∙ (λ i. Some (carried_by w Birth n (two_ordered a n k pos i) Quiet)) ∙ (λ i. Some (sym entry i, changed w (two_writes a n k))),
      record { cells = λ x. two_cells w a n k x ∙ sym (cells x); numbers = λ x. two_versions w a n k x ∙ sym (versions x) },
    )

pub makes_three : (f : KernelState → Option (ℕ × Change)) (old new : ℕ → Cell) (us vs : List ℕ) (a : Cell) (h : ℕ) (j : Cell) (n : ℕ) (k : Cell) (e : Entry) → 0 < h → h < n
    → ((stamps : ℕ → ℕ → ℕ) → f (state_with old us stamps) ≡ Some (n, record { accesses = three_writes a h j n k; answer = Quiet }))
    → e ≡ entry_of_locus us h n
    → ((x : ℕ) → new x ≡ (if 0 == x then a else if h == x then j else if n == x then k else old x))
    → ((x : ℕ) → slice_index vs x ≡ (if 0 == x then slice_index us x + 1 else if h == x then slice_index us x + 1 else if n == x then slice_index us x + 1 else slice_index us x))
    → Makes (acts Birth f) old us e new vs
makes_three f old new us vs a h j n k e pos lt is entry cells versions stamps =
    let w = state_with old us stamps in (
      changed w (three_writes a h j n k),
      ap (option_map (λ (c : ℕ × Change). carried w Birth c.0 c.1)) (is stamps) ∙ (λ i. Some (carried_by w Birth n (three_ordered a h j n k pos lt i) Quiet)) ∙ (λ i. Some (sym entry i, changed w (three_writes a h j n k))),
      record { cells = λ x. three_cells w a h j n k x ∙ sym (cells x); numbers = λ x. three_versions w a h j n k x ∙ sym (versions x) },
    )

-- CELLS OF A LONGER LIST

slice_get_end : {A : Type 0} (xs : List A) (y : A) (i : ℕ) → i ≡ length xs → slice_get (xs ++ y ∷ []) i ≡ Some y
slice_get_end [] y zero e = refl
slice_get_end [] y (suc i) e = absurd (omega arith)
slice_get_end (x ∷ xs) y zero e = absurd (omega arith)
slice_get_end (x ∷ xs) y (suc i) e = slice_get_end xs y i (omega arith)

slice_get_before : {A : Type 0} (xs : List A) (y : A) (i : ℕ) → i ≢ length xs → slice_get (xs ++ y ∷ []) i ≡ slice_get xs i
slice_get_before [] y zero apart = absurd (apart refl)
slice_get_before [] y (suc i) apart = refl
slice_get_before (x ∷ xs) y zero apart = refl
slice_get_before (x ∷ xs) y (suc i) apart = slice_get_before xs y i (λ e. apart (ap suc e))

pub container_grown : (s : Supply) (a b : AtlasState) (cs : List PlainContainer) (ls : List PlainLocus) (c : PlainContainer) (n x : ℕ) → n ≡ length cs + 1 → n < 41
    → cells_by s b (cs ++ c ∷ []) ls x ≡ (if 0 == x then AtlasCell b else if n == x then ContainerCell (container_of s c) else cells_by s a cs ls x)
container_grown s a b cs ls c n x at small =
    elim (0 == x) as (λ t. (0 == x) ≡ t → cells_by s b (cs ++ c ∷ []) ls x ≡ (if t then AtlasCell b else if n == x then ContainerCell (container_of s c) else cells_by s a cs ls x)) [
      | true ↦ λ is. subst (λ x. cells_by s b (cs ++ c ∷ []) ls x ≡ AtlasCell b) (eqb-true 0 x is) refl
      | false ↦ λ pos. elim (n == x) as (λ t. (n == x) ≡ t → cells_by s b (cs ++ c ∷ []) ls x ≡ (if t then ContainerCell (container_of s c) else cells_by s a cs ls x)) [
        | true ↦ λ is.
            let e : n ≡ x = eqb-true n x is in
            low_container s b (cs ++ c ∷ []) ls x (omega arith) (omega arith) ∙ ap (container_cell s) (slice_get_end cs c (x - 1) (omega arith))
        | false ↦ λ is. other (cases_lt x 41) (λ e. let t = eq-eqb 0 x (sym e) in cc) (λ e. let t = eq-eqb n x e in cc)
      ] refl
    ] refl
  where
    other : (x < 41) ⊎ (41 ≤ x) → x ≢ 0 → n ≢ x → cells_by s b (cs ++ c ∷ []) ls x ≡ cells_by s a cs ls x
    other (inl low) pos apart =
        low_container s b (cs ++ c ∷ []) ls x (omega arith) low ∙ ap (container_cell s) (slice_get_before cs c (x - 1) (λ e. apart (omega arith))) ∙ sym (low_container s a cs ls x (omega arith) low)
    other (inr high) pos apart = high_cell s b (cs ++ c ∷ []) ls x high ∙ sym (high_cell s a cs ls x high)

pub locus_grown : (s : Supply) (a b : AtlasState) (cs : List PlainContainer) (ls : List PlainLocus) (l : PlainLocus) (h n x : ℕ) → 0 < h → h < 41 → n ≡ length ls + 41
    → cells_by s b cs (ls ++ l ∷ []) x ≡ (if 0 == x then AtlasCell b else if h == x then cells_by s a cs ls h else if n == x then LocusCell (locus_of l) else cells_by s a cs ls x)
locus_grown s a b cs ls l h n x pos low at =
    elim (0 == x) as (λ t. (0 == x) ≡ t → cells_by s b cs (ls ++ l ∷ []) x ≡ (if t then AtlasCell b else if h == x then cells_by s a cs ls h else if n == x then LocusCell (locus_of l) else cells_by s a cs ls x)) [
      | true ↦ λ is. subst (λ x. cells_by s b cs (ls ++ l ∷ []) x ≡ AtlasCell b) (eqb-true 0 x is) refl
      | false ↦ λ nonzero. elim (h == x) as (λ t. (h == x) ≡ t → cells_by s b cs (ls ++ l ∷ []) x ≡ (if t then cells_by s a cs ls h else if n == x then LocusCell (locus_of l) else cells_by s a cs ls x)) [
        | true ↦ λ is.
            let e : h ≡ x = eqb-true h x is in
            container_there x (omega arith) (omega arith) ∙ ap (cells_by s a cs ls) (sym e)
        | false ↦ λ far. elim (n == x) as (λ t. (n == x) ≡ t → cells_by s b cs (ls ++ l ∷ []) x ≡ (if t then LocusCell (locus_of l) else cells_by s a cs ls x)) [
          | true ↦ λ is.
              let e : n ≡ x = eqb-true n x is in
              high_cell s b cs (ls ++ l ∷ []) x (omega arith) ∙ ap locus_cell (slice_get_end ls l (x - 41) (omega arith))
          | false ↦ λ is. other (cases_lt x 41) (λ e. let t = eq-eqb 0 x (sym e) in cc) (λ e. let t = eq-eqb n x e in cc)
        ] refl
      ] refl
    ] refl
  where
    container_there : (x : ℕ) → 0 < x → x < 41 → cells_by s b cs (ls ++ l ∷ []) x ≡ cells_by s a cs ls x
    container_there x p q = low_container s b cs (ls ++ l ∷ []) x p q ∙ sym (low_container s a cs ls x p q)

    other : (x < 41) ⊎ (41 ≤ x) → x ≢ 0 → n ≢ x → cells_by s b cs (ls ++ l ∷ []) x ≡ cells_by s a cs ls x
    other (inl under) nonzero apart = container_there x (omega arith) under
    other (inr high) nonzero apart = high_cell s b cs (ls ++ l ∷ []) x high ∙ ap locus_cell (slice_get_before ls l (x - 41) (λ e. apart (omega arith))) ∙ sym (high_cell s a cs ls x high)
