-- The model's step, by the act of its locus and what the act makes.
use Rattle.std.proofs.Common.{◌≡◌, ℕ, ◌+◌, ◌<◌, ◌≤◌, true, false, if◌then◌else◌, ◌==◌, nat_lt, List, [], ◌∷◌, length, Option, Some, None, slice_index, slice_set, option_map, unwrap_or, is_some, refl, sym, ap, subst, ◌∙◌, arith, eqb-true, eq-eqb}
use Rattle.std.proofs.lemmas.Bool.{lt-ltb}
use Rattle.std.proofs.lemmas.Bool.Decides.{nat_tests}
use Rattle.std.proofs.lemmas.List.{get_or-set_same, get_or-set_other, length-set}
use Rattle.base_types.specs.declared.histories.Entry.{Entry}
use Rattle.base_types.specs.declared.histories.Event.TheVariants.{Step}
use Rattle.model_kernel.specs.Acts.{Act, wanted}
use Rattle.model_kernel.specs.Changes.{Access, Change, access_at, accessed, carried, carried_by, changed, insert_access, joined, ordered, touches_of, written}
use Rattle.model_kernel.specs.Outcomes.{Outcome}
use Rattle.model_kernel.specs.State.{Supply, LocusState, Cell, EntityState, KernelState}
use Rattle.model_kernel.specs.Steps.{accesses_of, change_by, change_of, numbered_change, outcome_in, running, step, step_change}
use Rattle.plain_states.specs.Entries.{raised, step_entry, touches_by, versions_after}
use Rattle.plain_states.specs.Events.{StepsTo, state_with}
use Rattle.plain_states.specs.declared.entries.Mark.{Mark}

-- WHAT AN ACCESS MAKES

abbrev pub cell_by : Option Access → Cell → Cell
cell_by None k = k
cell_by (Some a) k = unwrap_or a.new k

abbrev pub version_by : Option Access → ℕ → ℕ
version_by None v = v
version_by (Some a) v = if is_some a.new then v + 1 else v

written_cell : (e : EntityState) (stamp : ℕ → ℕ) (c : Option Cell) → (written e stamp c).cell ≡ unwrap_or c e.cell
written_cell e stamp None = refl
written_cell e stamp (Some k) = refl

written_version : (e : EntityState) (stamp : ℕ → ℕ) (c : Option Cell) → (written e stamp c).version ≡ (if is_some c then e.version + 1 else e.version)
written_version e stamp None = refl
written_version e stamp (Some k) = refl

accessed_cell : (e : EntityState) (stamp : ℕ → ℕ) (o : Option Access) → (accessed e stamp o).cell ≡ cell_by o e.cell
accessed_cell e stamp None = refl
accessed_cell e stamp (Some a) = written_cell e stamp a.new

accessed_version : (e : EntityState) (stamp : ℕ → ℕ) (o : Option Access) → (accessed e stamp o).version ≡ version_by o e.version
accessed_version e stamp None = refl
accessed_version e stamp (Some a) = written_version e stamp a.new

changed_cell : (w : KernelState) (accesses : List Access) (x : ℕ) → (changed w accesses x).cell ≡ cell_by (access_at accesses x) (w x).cell
unfolding changed
changed_cell w accesses x = accessed_cell (w x) (joined w (touches_of w accesses)) (access_at accesses x)

changed_version : (w : KernelState) (accesses : List Access) (x : ℕ) → (changed w accesses x).version ≡ version_by (access_at accesses x) (w x).version
unfolding changed
changed_version w accesses x = accessed_version (w x) (joined w (touches_of w accesses)) (access_at accesses x)

-- MARKS

abbrev pub mark_of : Access → Mark
mark_of a = record { entity = a.entity; wrote = is_some a.new }

abbrev pub marks_of : List Access → List Mark
marks_of [] = []
marks_of (a ∷ accesses) = mark_of a ∷ marks_of accesses

touches_marked : (old : ℕ → Cell) (us : List ℕ) (stamps : ℕ → ℕ → ℕ) (accesses : List Access) → touches_of (state_with old us stamps) accesses ≡ touches_by us (marks_of accesses)
touches_marked old us stamps [] = refl
touches_marked old us stamps (a ∷ accesses) = ap (λ ts. record { version = if is_some a.new then slice_index us a.entity + 1 else slice_index us a.entity; entity = a.entity; wrote = is_some a.new } ∷ ts) (touches_marked old us stamps accesses)

-- ONE STEP

step_change_by : (s : Supply) (w : KernelState) (l : ℕ) (st : LocusState) (act : Act) (o : Outcome) (accesses : List Access)
    → running (w l).cell ≡ Some st → wanted l st ≡ act → outcome_in s st act w ≡ o → ordered (accesses_of l act o) ≡ accesses
    → step s l w ≡ Some (carried_by w Step l accesses o.answer)
unfolding step_change change_of
step_change_by s w l st act o accesses run wants makes order =
    let change : change_of s w l st ≡ change_by l act o = ap (λ (a : Act). change_by l a (outcome_in s st a w)) wants ∙ ap (change_by l act) makes in
    ap (λ (o : Option LocusState). option_map (λ (c : ℕ × Change). carried w Step c.0 c.1) (option_map (numbered_change s l w) o)) run
    ∙ ap (λ (c : Change). Some (carried w Step l c)) change
    ∙ ap (λ (accesses : List Access). Some (carried_by w Step l accesses o.answer)) order

-- a running locus steps by its act, over what the act touches in order
pub steps_by : (s : Supply) (old new : ℕ → Cell) (us vs : List ℕ) (l : ℕ) (st : LocusState) (act : Act) (o : Outcome) (accesses : List Access) (e : Entry)
    → running (old l) ≡ Some st → wanted l st ≡ act → ((stamps : ℕ → ℕ → ℕ) → outcome_in s st act (state_with old us stamps) ≡ o) → ordered (accesses_of l act o) ≡ accesses
    → e ≡ step_entry us l (marks_of accesses) o.answer
    → ((x : ℕ) → new x ≡ cell_by (access_at accesses x) (old x))
    → ((x : ℕ) → slice_index vs x ≡ version_by (access_at accesses x) (slice_index us x))
    → StepsTo s l old us e new vs
steps_by s old new us vs l st act o accesses e run wants makes order entry cells versions stamps =
    let w = state_with old us stamps in
    let touched = touches_marked old us stamps accesses in (
      changed w accesses,
      step_change_by s w l st act o accesses run wants (makes stamps) order
          ∙ (λ j. Some (record { event = Step; actor = l; touched = touched j; version = 0; answer = o.answer }, changed w accesses))
          ∙ (λ j. Some (sym entry j, changed w accesses)),
      record { cells = λ x. changed_cell w accesses x ∙ sym (cells x); numbers = λ x. changed_version w accesses x ∙ sym (versions x) },
    )

-- ACCESSES IN ORDER

-- each is of a greater entity than the one before, the first than x
abbrev pub Beyond : ℕ → List Access → Type 0
Beyond x [] = Unit {0}
Beyond x (a ∷ accesses) = (x < a.entity) × Beyond a.entity accesses

abbrev pub Rises : List Access → Type 0
Rises [] = Unit {0}
Rises (a ∷ accesses) = Beyond a.entity accesses

not_beyond : (x y : ℕ) (accesses : List Access) → Beyond x accesses → y ≤ x → access_at accesses y ≡ None
not_beyond x y [] h le = refl
not_beyond x y (a ∷ accesses) h le =
    let lt : x < a.entity = h.0 in
    let far : (a.entity == y) ≡ false = grind (arith, nat_tests) in
    rw far (not_beyond a.entity y accesses h.1 (omega arith))

beyond_ordered : (x : ℕ) (accesses : List Access) → Beyond x accesses → ordered accesses ≡ accesses
beyond_ordered x [] h = refl
beyond_ordered x (a ∷ []) h = refl
beyond_ordered x (a ∷ b ∷ accesses) h =
    let lt : a.entity < b.entity = h.1.0 in
    ap (insert_access a) (beyond_ordered a.entity (b ∷ accesses) h.1) ∙ rw (lt-ltb a.entity b.entity lt) refl

-- accesses that rise are in order
pub rising_ordered : (accesses : List Access) → Rises accesses → ordered accesses ≡ accesses
rising_ordered [] h = refl
rising_ordered (a ∷ []) h = refl
rising_ordered (a ∷ b ∷ accesses) h =
    let lt : a.entity < b.entity = h.0 in
    ap (insert_access a) (beyond_ordered a.entity (b ∷ accesses) h) ∙ rw (lt-ltb a.entity b.entity lt) refl

-- two accesses, the greater one first
pub ordered_swapped : (a b : Access) → b.entity < a.entity → ordered (a ∷ b ∷ []) ≡ b ∷ a ∷ []
ordered_swapped a b lt =
    let no : nat_lt a.entity b.entity ≡ false = grind (arith, nat_tests) in
    let far : (a.entity == b.entity) ≡ false = grind (arith, nat_tests) in
    rw (no, far) refl

-- three accesses, the last of which goes between
pub ordered_between : (a b c : Access) → a.entity < c.entity → c.entity < b.entity → ordered (a ∷ b ∷ c ∷ []) ≡ a ∷ c ∷ b ∷ []
ordered_between a b c lt more = ap (insert_access a) (ordered_swapped b c more) ∙ rw (lt-ltb a.entity c.entity lt) refl

-- VERSIONS AFTER

raised_here : (us : List ℕ) (a : Access) → a.entity < length us → slice_index (raised us (mark_of a)) a.entity ≡ version_by (Some a) (slice_index us a.entity)
raised_here us a lt =
    elim (is_some a.new) as (λ b. slice_index (if b then slice_set us a.entity (slice_index us a.entity + 1) else us) a.entity ≡ (if b then slice_index us a.entity + 1 else slice_index us a.entity)) [
      | true ↦ get_or-set_same us a.entity _ 0 lt
      | false ↦ refl
    ]

pub raised_other : (us : List ℕ) (m : Mark) (y : ℕ) → (m.entity ≡ y → ⊥) → slice_index (raised us m) y ≡ slice_index us y
raised_other us m y apart =
    elim m.wrote as (λ b. slice_index (if b then slice_set us m.entity (slice_index us m.entity + 1) else us) y ≡ slice_index us y) [
      | true ↦ get_or-set_other us m.entity y _ 0 (λ e. apart (sym e))
      | false ↦ refl
    ]

raised_length : (us : List ℕ) (m : Mark) → length (raised us m) ≡ length us
raised_length us m = elim m.wrote as (λ b. length (if b then slice_set us m.entity (slice_index us m.entity + 1) else us) ≡ length us) [ true ↦ length-set us m.entity _ | false ↦ refl ]

abbrev pub AreWithin : List Access → ℕ → Type 0
AreWithin [] n = Unit {0}
AreWithin (a ∷ accesses) n = (a.entity < n) × AreWithin accesses n

-- an access that rises gives each written entity the next version
pub versions_by : (accesses : List Access) (us : List ℕ) (y : ℕ) → Rises accesses → AreWithin accesses (length us)
    → slice_index (versions_after us (marks_of accesses)) y ≡ version_by (access_at accesses y) (slice_index us y)
versions_by [] us y rises within = refl
versions_by (a ∷ accesses) us y rises within =
    let rest = versions_by accesses (raised us (mark_of a)) y (tail accesses rises) (subst (AreWithin accesses) (sym (raised_length us (mark_of a))) within.1) in
    rest ∙
    elim (a.entity == y) as (λ b. (a.entity == y) ≡ b → version_by (access_at accesses y) (slice_index (raised us (mark_of a)) y) ≡ version_by (if b then Some a else access_at accesses y) (slice_index us y)) [
      | true ↦ λ is.
          let e : a.entity ≡ y = eqb-true a.entity y is in
          let none : access_at accesses y ≡ None = not_beyond a.entity y accesses rises (omega arith) in
          ap (λ (o : Option Access). version_by o (slice_index (raised us (mark_of a)) y)) none
          ∙ subst (λ y. slice_index (raised us (mark_of a)) y ≡ version_by (Some a) (slice_index us y)) e (raised_here us a within.0)
      | false ↦ λ is.
          let apart : a.entity ≡ y → ⊥ = λ e. let t = eq-eqb a.entity y e in cc in
          ap (version_by (access_at accesses y)) (raised_other us (mark_of a) y apart)
    ] refl
  where
    tail : (accesses : List Access) → Beyond a.entity accesses → Rises accesses
    tail [] h = tt
    tail (b ∷ rest) h = h.1
