-- The cell of an entity after a change: the accesses write it one after another.
use Rattle.std.proofs.Common.{◌≡◌, ℕ, ◌<◌, true, false, if◌then◌else◌, ◌==◌, nat_lt, List, [], ◌∷◌, Option, Some, None, is_some, unwrap_or, refl, sym, ap, subst, ◌∙◌, arith, eqb-true}
use Rattle.std.proofs.lemmas.Bool.{ltb-true}
use Rattle.base_types.specs.Touches.{AllTouches, IsRising}
use Rattle.model_kernel.specs.State.{Cell, EntityState, KernelState}
use Rattle.model_kernel.specs.Changes.{Access, merged, insert_access, ordered, touches_of, joined, access_at, written, accessed, changed}
use Rattle.model_kernel.proofs.Carried.{ordered_rising}

-- what the accesses write to x, in order
abbrev pub cell_with : List Access → ℕ → Cell → Cell
cell_with [] x c = c
cell_with (m ∷ accesses) x c = cell_with accesses x (if m.entity == x then unwrap_or m.new c else c)

-- one access over a later one
abbrev pub over : Access → Option Access → Option Access
over m None = Some m
over m (Some n) = Some (merged m n)

-- what the ordered accesses have at x
abbrev pub last_at : List Access → ℕ → Option Access
last_at [] x = None
last_at (m ∷ accesses) x = if m.entity == x then over m (last_at accesses x) else last_at accesses x

none_below : (w : KernelState) (k x : ℕ) (accesses : List Access) → AllTouches (λ u. k < u.entity) (touches_of w accesses) → x ≡ k → access_at accesses x ≡ None
none_below w k x [] h e = refl
none_below w k x (n ∷ accesses) h e =
    elim (n.entity == x) as (λ b. (n.entity == x) ≡ b → (if b then Some n else access_at accesses x) ≡ None) [
      | true ↦ λ is. (let at = eqb-true _ _ is in let above = h.0 in absurd (omega arith))
      | false ↦ λ is. none_below w k x accesses h.1 e
    ] refl

-- two accesses of one entity are one
merged_at : (m n : Access) (x : ℕ) (rest : Option Access) → m.entity ≡ n.entity
    → (if (merged m n).entity == x then Some (merged m n) else rest) ≡ (if m.entity == x then over m (if n.entity == x then Some n else rest) else if n.entity == x then Some n else rest)
merged_at m n x rest e =
    let k : (merged m n).entity ≡ n.entity = elim (is_some n.new) as (λ b. (if◌then◌else◌ {A = Access} b n m).entity ≡ n.entity) [ true ↦ refl | false ↦ e ] in
    let p : ((merged m n).entity == x) ≡ (n.entity == x) = ap (λ y. y == x) k in
    let q : (n.entity == x) ≡ (m.entity == x) = ap (λ y. y == x) (sym e) in
    let here : (if n.entity == x then Some (merged m n) else rest) ≡ (if n.entity == x then over m (if n.entity == x then Some n else rest) else if n.entity == x then Some n else rest) =
    (elim (n.entity == x) as (λ b. (if b then Some (merged m n) else rest) ≡ (if b then over m (if b then Some n else rest) else if b then Some n else rest)) [ true ↦ refl | false ↦ refl ]) in
    (λ i. if p i then Some (merged m n) else rest) ∙ here ∙ (λ i. if q i then over m (if n.entity == x then Some n else rest) else if n.entity == x then Some n else rest)

inserted_at : (w : KernelState) (m : Access) (accesses : List Access) (x : ℕ) → IsRising (touches_of w accesses)
    → access_at (insert_access m accesses) x ≡ (if m.entity == x then over m (access_at accesses x) else access_at accesses x)
inserted_at w m [] x rising = refl
inserted_at w m (n ∷ accesses) x rising =
    elim (nat_lt m.entity n.entity) as (λ b. nat_lt m.entity n.entity ≡ b → access_at (if b then m ∷ n ∷ accesses else if m.entity == n.entity then merged m n ∷ accesses else n ∷ insert_access m accesses) x ≡ (if m.entity == x then over m (access_at (n ∷ accesses) x) else access_at (n ∷ accesses) x)) [
      | true ↦ λ less. elim (m.entity == x) as (λ b. (m.entity == x) ≡ b → (if b then Some m else access_at (n ∷ accesses) x) ≡ (if b then over m (access_at (n ∷ accesses) x) else access_at (n ∷ accesses) x)) [
        | true ↦ λ is. (
            let at : m.entity ≡ x = eqb-true _ _ is in
            let lt : m.entity < n.entity = ltb-true _ _ less in
            let none : access_at (n ∷ accesses) x ≡ None = first_past lt at in
            ap (over m) (sym none))
        | false ↦ λ is. refl
      ] refl
      | false ↦ λ more. elim (m.entity == n.entity) as (λ b. (m.entity == n.entity) ≡ b → access_at (if b then merged m n ∷ accesses else n ∷ insert_access m accesses) x ≡ (if m.entity == x then over m (access_at (n ∷ accesses) x) else access_at (n ∷ accesses) x)) [
        | true ↦ λ same. merged_at m n x (access_at accesses x) (eqb-true _ _ same)
        | false ↦ λ other. (
            let ne = other in
            elim (n.entity == x) as (λ b. (n.entity == x) ≡ b → (if b then Some n else access_at (insert_access m accesses) x) ≡ (if m.entity == x then over m (if b then Some n else access_at accesses x) else (if b then Some n else access_at accesses x))) [
              | true ↦ λ at. (
                  let e : n.entity ≡ x = eqb-true _ _ at in
                  let no : (m.entity == x) ≡ false = subst (λ y. (m.entity == y) ≡ false) e other in
                  rw no refl)
              | false ↦ λ at. inserted_at w m accesses x rising.1
            ] refl)
      ] refl
    ] refl
  where
    first_past : m.entity < n.entity → m.entity ≡ x → access_at (n ∷ accesses) x ≡ None
    first_past lt at = elim (n.entity == x) as (λ b. (n.entity == x) ≡ b → (if b then Some n else access_at accesses x) ≡ None) [
      | true ↦ λ is. (let e = eqb-true _ _ is in absurd (omega arith))
      | false ↦ λ is. none_below w m.entity x accesses (above_less m.entity n.entity accesses lt rising.0) (sym at)
    ] refl
      where
        above_less : (j k : ℕ) (ns : List Access) → j < k → AllTouches (λ u. k < u.entity) (touches_of w ns) → AllTouches (λ u. j < u.entity) (touches_of w ns)
        above_less j k [] lt h = tt
        above_less j k (q ∷ ns) lt h = ((let a = h.0 in omega arith), above_less j k ns lt h.1)

ordered_at : (w : KernelState) (accesses : List Access) (x : ℕ) → access_at (ordered accesses) x ≡ last_at accesses x
ordered_at w [] x = refl
ordered_at w (m ∷ accesses) x =
    inserted_at w m (ordered accesses) x (ordered_rising w accesses)
    ∙ (λ i. if m.entity == x then over m (ordered_at w accesses x i) else ordered_at w accesses x i)

-- the cell that an access leaves
abbrev pub cell_after : Cell → Option Access → Cell
cell_after c None = c
cell_after c (Some m) = unwrap_or m.new c

over_leaves : (m : Access) (o : Option Access) (c : Cell) → cell_after c (over m o) ≡ cell_after (unwrap_or m.new c) o
over_leaves m None c = refl
over_leaves m (Some n) c = by_new n.new refl
  where
    by_new : (new : Option Cell) → n.new ≡ new → unwrap_or (merged m n).new c ≡ unwrap_or n.new (unwrap_or m.new c)
    by_new None is = (
        let at : merged m n ≡ m = ap (λ (o : Option Cell). if◌then◌else◌ {A = Access} (is_some o) n m) is in
        ap (λ (k : Access). unwrap_or k.new c) at ∙ ap (λ (o : Option Cell). unwrap_or o (unwrap_or m.new c)) (sym is))
    by_new (Some d) is = (
        let at : merged m n ≡ n = ap (λ (o : Option Cell). if◌then◌else◌ {A = Access} (is_some o) n m) is in
        ap (λ (k : Access). unwrap_or k.new c) at ∙ ap (λ (o : Option Cell). unwrap_or o c) is ∙ ap (λ (o : Option Cell). unwrap_or o (unwrap_or m.new c)) (sym is))

last_leaves : (accesses : List Access) (x : ℕ) (c : Cell) → cell_after c (last_at accesses x) ≡ cell_with accesses x c
last_leaves [] x c = refl
last_leaves (m ∷ accesses) x c =
    elim (m.entity == x) as (λ b. cell_after c (if b then over m (last_at accesses x) else last_at accesses x) ≡ cell_with accesses x (if b then unwrap_or m.new c else c)) [
      | true ↦ over_leaves m (last_at accesses x) c ∙ last_leaves accesses x (unwrap_or m.new c)
      | false ↦ last_leaves accesses x c
    ]

accessed_cell : (e : EntityState) (stamp : ℕ → ℕ) (o : Option Access) → (accessed e stamp o).cell ≡ cell_after e.cell o
accessed_cell e stamp None = refl
accessed_cell e stamp (Some m) = by_new m.new
  where
    by_new : (new : Option Cell) → (written e stamp new).cell ≡ unwrap_or new e.cell
    by_new None = refl
    by_new (Some d) = refl

-- the cell after a change
pub changed_cell : (w : KernelState) (accesses : List Access) (x : ℕ) → (changed w (ordered accesses) x).cell ≡ cell_with accesses x (w x).cell
unfolding changed
changed_cell w accesses x =
    accessed_cell (w x) (joined w (touches_of w (ordered accesses))) (access_at (ordered accesses) x)
    ∙ ap (cell_after (w x).cell) (ordered_at w accesses x)
    ∙ last_leaves accesses x (w x).cell
