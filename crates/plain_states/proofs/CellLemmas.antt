-- The cells and versions of plain states, after a container or a locus changed.
use Rattle.std.proofs.Common.{◌≡◌, ◌≢◌, ℕ, zero, suc, ◌+◌, ◌-◌, ◌<◌, ◌≤◌, ◌⊎◌, inl, inr, ⊎_elim, true, false, if◌then◌else◌, ◌==◌, nat_lt, List, [], ◌∷◌, Some, None, slice_index, slice_get, slice_set, length, refl, sym, ap, subst, ◌∙◌, arith, eqb-true, eq-eqb}
use Rattle.std.proofs.lemmas.Bool.{cases_lt}
use Rattle.std.proofs.lemmas.Bool.Decides.{nat_tests}
use Rattle.std.proofs.lemmas.List.{get_or-set_same, get_or-set_other}
use Rattle.model_kernel.specs.State.{Supply, AtlasState, ContainerCell, LocusCell}
use Rattle.base_types.specs.declared.instructions.Condition.{Condition}
use Rattle.base_types.specs.declared.instructions.Condition.TheVariants.{Running, Stopped, Halted}
use Rattle.model_kernel.specs.Steps.{if_running, running}
use Rattle.plain_states.specs.Lists.{IsIdleIn}
use Rattle.plain_states.specs.Plains.{cells_by, container_of, locus_of, container_cell, locus_cell}
use Rattle.plain_states.specs.declared.plain.PlainContainer.{PlainContainer}
use Rattle.plain_states.specs.declared.plain.PlainLocus.{PlainLocus}

-- LISTS

pub slice_get-set_same : {A : Type 0} (xs : List A) (i : ℕ) (x : A) → i < length xs → slice_get (slice_set xs i x) i ≡ Some x
slice_get-set_same [] i x h = absurd (omega arith)
slice_get-set_same (y ∷ ys) zero x h = refl
slice_get-set_same (y ∷ ys) (suc i) x h = slice_get-set_same ys i x (omega arith)

pub slice_get-set_other : {A : Type 0} (xs : List A) (i j : ℕ) (x : A) → i ≢ j → slice_get (slice_set xs i x) j ≡ slice_get xs j
slice_get-set_other [] i j x h = refl
slice_get-set_other (y ∷ ys) zero zero x h = absurd (h refl)
slice_get-set_other (y ∷ ys) zero (suc j) x h = refl
slice_get-set_other (y ∷ ys) (suc i) zero x h = refl
slice_get-set_other (y ∷ ys) (suc i) (suc j) x h = slice_get-set_other ys i j x (λ e. h (ap suc e))

-- the version of one entity rises
pub risen : (us : List ℕ) (l x : ℕ) → l < length us → slice_index (slice_set us l (slice_index us l + 1)) x ≡ (if l == x then slice_index us x + 1 else slice_index us x)
risen us l x h =
    elim (l == x) as (λ b. (l == x) ≡ b → slice_index (slice_set us l (slice_index us l + 1)) x ≡ (if b then slice_index us x + 1 else slice_index us x)) [
      | true ↦ λ is. subst (λ x. slice_index (slice_set us l (slice_index us l + 1)) x ≡ slice_index us x + 1) (eqb-true l x is) (get_or-set_same us l _ 0 h)
      | false ↦ λ is. get_or-set_other us l x _ 0 (λ e. let t = eq-eqb l x (sym e) in cc)
    ] refl

-- CELLS BY NUMBER

pub high_cell : (s : Supply) (a : AtlasState) (cs : List PlainContainer) (ls : List PlainLocus) (x : ℕ) → 41 ≤ x → cells_by s a cs ls x ≡ locus_cell (slice_get ls (x - 41))
high_cell s a cs ls x h =
    let z : (x == 0) ≡ false = grind (arith, nat_tests) in
    let b : nat_lt x 41 ≡ false = grind (arith, nat_tests) in
    rw (z, b) refl

pub low_cell : (s : Supply) (a : AtlasState) (cs : List PlainContainer) (ls ms : List PlainLocus) (x : ℕ) → x < 41 → cells_by s a cs ls x ≡ cells_by s a cs ms x
low_cell s a cs ls ms x h =
    let b : nat_lt x 41 ≡ true = grind (arith, nat_tests) in
    rw b refl

pub low_container : (s : Supply) (a : AtlasState) (cs : List PlainContainer) (ls : List PlainLocus) (x : ℕ) → 0 < x → x < 41 → cells_by s a cs ls x ≡ container_cell s (slice_get cs (x - 1))
low_container s a cs ls x h k =
    let z : (x == 0) ≡ false = grind (arith, nat_tests) in
    let b : nat_lt x 41 ≡ true = grind (arith, nat_tests) in
    rw (z, b) refl

pub cell_at_container : (s : Supply) (a : AtlasState) (cs : List PlainContainer) (ls : List PlainLocus) (i : ℕ) (c : PlainContainer) (x : ℕ)
    → i + 1 ≡ x → i < 40 → slice_get cs i ≡ Some c → cells_by s a cs ls x ≡ ContainerCell (container_of s c)
cell_at_container s a cs ls i c x at k is =
    low_container s a cs ls x (omega arith) (omega arith) ∙ ap (λ n. container_cell s (slice_get cs n)) (let b : x - 1 ≡ i = omega arith in b) ∙ ap (container_cell s) is

pub cell_at_locus : (s : Supply) (a : AtlasState) (cs : List PlainContainer) (ls : List PlainLocus) (j : ℕ) (m : PlainLocus) (x : ℕ)
    → j + 41 ≡ x → slice_get ls j ≡ Some m → cells_by s a cs ls x ≡ LocusCell (locus_of m)
cell_at_locus s a cs ls j m x at is =
    high_cell s a cs ls x (omega arith) ∙ ap (λ n. locus_cell (slice_get ls n)) (let b : x - 41 ≡ j = omega arith in b) ∙ ap locus_cell is

-- CHANGES

-- one locus changes
pub locus_set : (s : Supply) (a : AtlasState) (cs : List PlainContainer) (ls : List PlainLocus) (j : ℕ) (m : PlainLocus) (x : ℕ) → j < length ls
    → cells_by s a cs (slice_set ls j m) x ≡ (if j + 41 == x then LocusCell (locus_of m) else cells_by s a cs ls x)
locus_set s a cs ls j m x h =
    elim (j + 41 == x) as (λ b. (j + 41 == x) ≡ b → cells_by s a cs (slice_set ls j m) x ≡ (if b then LocusCell (locus_of m) else cells_by s a cs ls x)) [
      | true ↦ λ is.
          let at : j + 41 ≡ x = eqb-true (j + 41) x is in
          let back : x - 41 ≡ j = omega arith in
          high_cell s a cs (slice_set ls j m) x (omega arith) ∙ ap (λ k. locus_cell (slice_get (slice_set ls j m) k)) back ∙ ap locus_cell (slice_get-set_same ls j m h)
      | false ↦ λ is. ⊎_elim {C = cells_by s a cs (slice_set ls j m) x ≡ cells_by s a cs ls x}
          (λ (low : x < 41). low_cell s a cs (slice_set ls j m) ls x low)
          (λ (high : 41 ≤ x).
          let apart : j ≢ x - 41 = λ e. let bad : j + 41 ≡ x = omega arith in let t = eq-eqb (j + 41) x bad in cc in
          high_cell s a cs (slice_set ls j m) x high ∙ ap locus_cell (slice_get-set_other ls j (x - 41) m apart) ∙ sym (high_cell s a cs ls x high))
          (cases_lt x 41)
    ] refl

-- one container changes
pub container_set : (s : Supply) (a : AtlasState) (cs : List PlainContainer) (ls : List PlainLocus) (i : ℕ) (m : PlainContainer) (x : ℕ) → i < length cs → i < 40
    → cells_by s a (slice_set cs i m) ls x ≡ (if i + 1 == x then ContainerCell (container_of s m) else cells_by s a cs ls x)
container_set s a cs ls i m x h small =
    elim (i + 1 == x) as (λ b. (i + 1 == x) ≡ b → cells_by s a (slice_set cs i m) ls x ≡ (if b then ContainerCell (container_of s m) else cells_by s a cs ls x)) [
      | true ↦ λ is.
          let at : i + 1 ≡ x = eqb-true (i + 1) x is in
          let back : x - 1 ≡ i = omega arith in
          low_container s a (slice_set cs i m) ls x (omega arith) (omega arith) ∙ ap (λ k. container_cell s (slice_get (slice_set cs i m) k)) back ∙ ap (container_cell s) (slice_get-set_same cs i m h)
      | false ↦ λ is. other (cases_lt x 41) (cases_lt 0 x) (λ e. let t = eq-eqb (i + 1) x e in cc)
    ] refl
  where
    other : (x < 41) ⊎ (41 ≤ x) → (0 < x) ⊎ (x ≤ 0) → (i + 1 ≢ x) → cells_by s a (slice_set cs i m) ls x ≡ cells_by s a cs ls x
    other (inr high) z apart = high_cell s a (slice_set cs i m) ls x high ∙ sym (high_cell s a cs ls x high)
    other (inl low) (inl pos) apart =
        let far : i ≢ x - 1 = λ e. apart (omega arith) in
        low_container s a (slice_set cs i m) ls x pos low ∙ ap (container_cell s) (slice_get-set_other cs i (x - 1) m far) ∙ sym (low_container s a cs ls x pos low)
    other (inl low) (inr zero') apart = let e : 0 ≡ x = omega arith in subst (λ x. cells_by s a (slice_set cs i m) ls x ≡ cells_by s a cs ls x) e refl

-- a container and a locus change
pub both_set : (s : Supply) (a : AtlasState) (cs : List PlainContainer) (ls : List PlainLocus) (i j : ℕ) (c : PlainContainer) (m : PlainLocus) (y : ℕ) → i < length cs → i < 40 → j < length ls
    → cells_by s a (slice_set cs i c) (slice_set ls j m) y ≡ (if i + 1 == y then ContainerCell (container_of s c) else if j + 41 == y then LocusCell (locus_of m) else cells_by s a cs ls y)
both_set s a cs ls i j c m y h k g =
    container_set s a cs (slice_set ls j m) i c y h k ∙ (λ t. if i + 1 == y then ContainerCell (container_of s c) else locus_set s a cs ls j m y g t)

-- where both are as they were, all is
pub both_same : (s : Supply) (a : AtlasState) (cs : List PlainContainer) (ls : List PlainLocus) (i j : ℕ) (b c : PlainContainer) (l m : PlainLocus) (y : ℕ) → i < length cs → i < 40 → j < length ls
    → slice_get cs i ≡ Some b → slice_get ls j ≡ Some l → container_of s c ≡ container_of s b → locus_of m ≡ locus_of l
    → cells_by s a (slice_set cs i c) (slice_set ls j m) y ≡ cells_by s a cs ls y
both_same s a cs ls i j b c l m y h k g is is' ec em =
    both_set s a cs ls i j c m y h k g ∙
    elim (i + 1 == y) as (λ t. (i + 1 == y) ≡ t → (if t then ContainerCell (container_of s c) else if j + 41 == y then LocusCell (locus_of m) else cells_by s a cs ls y) ≡ cells_by s a cs ls y) [
      | true ↦ λ at. ap ContainerCell ec ∙ sym (cell_at_container s a cs ls i b y (eqb-true _ _ at) k is)
      | false ↦ λ _. elim (j + 41 == y) as (λ t. (j + 41 == y) ≡ t → (if t then LocusCell (locus_of m) else cells_by s a cs ls y) ≡ cells_by s a cs ls y) [
        | true ↦ λ at. ap LocusCell em ∙ sym (cell_at_locus s a cs ls j l y (eqb-true _ _ at) is')
        | false ↦ λ _. refl
      ] refl
    ] refl

-- IDLE LOCI

-- a locus that isn't running is idle
pub idle_at : (ls : List PlainLocus) (j n : ℕ) (l : PlainLocus) → j + 41 ≡ n → slice_get ls j ≡ Some l → (l.condition ≡ Running → ⊥) → IsIdleIn ls n
idle_at ls j n l at is apart high =
    let back : n - 41 ≡ j = omega arith in
    ap (λ k. running (locus_cell (slice_get ls k))) back ∙ ap (λ o. running (locus_cell o)) is ∙ by_condition l.condition apart
  where
    by_condition : (k : Condition) → (k ≡ Running → ⊥) → if_running (locus_of l) k ≡ None
    by_condition Running apart = absurd (apart refl)
    by_condition Stopped apart = refl
    by_condition Halted apart = refl
