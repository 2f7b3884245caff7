-- What a step over the table says in the words of a running kernel.
use Rattle.std.proofs.Common.{◌≡◌, ◌↔◌, inl, inr, ℕ, ◌+◌, ◌<◌, ◌≤◌, ◌==◌, if◌then◌else◌, Bool, true, false, List, length, slice_get, Option, Some, None, Result, Ok, Err, IfOk, IsErrOf, OnOk, refl, sym, ap, subst, ◌∙◌, arith, eq-eqb}
use Rattle.std.proofs.lemmas.Option.{same_Some, slice_get_cases, slice_get_within}
use Rattle.edge_disk.specs.declared.disk.Disk.{Ghosts}
use Rattle.base_types.specs.declared.histories.Entry.{Entry}
use Rattle.table_births.specs.model_kernel.Histories.{Run}
use Rattle.table_births.specs.model_kernel.State.{Supply, AtlasCell, NotBorn, empty_state, no_atlas}
use Rattle.table_births.specs.page_store.declared.faults.PageFault.{PageFault}
use Rattle.table_births.specs.cell_clocks.declared.Clock.{Clock}
use Rattle.kernel_commits.specs.store_books.Books.{kept_names}
use Rattle.kernel_commits.specs.store_snapshots.Paging.{GoesByPages}
use Rattle.kernel_commits.specs.store_facts.State.{State, books}
use Rattle.table_births.specs.cell_states.declared.cells.Cell.{Cell}
use Rattle.table_births.specs.cell_states.declared.cells.Wish.{Wish}
use Rattle.table_births.specs.cell_states.Wishes.{HasWish}
use Rattle.table_births.specs.cell_plans.Plans.{idle_of}
use Rattle.table_births.specs.cell_plans.declared.idle.Idle.{Idle as AnIdle}
use Rattle.table_births.specs.cell_plans.declared.idle.Idle.TheVariants.{Absent}
use Rattle.table_births.specs.table_laws.Steps.{EntersStep, GoesOn, StaysAtFault}
use Rattle.table_births.specs.table_laws.Tables.{AreClean, HasNews, HasTableWishes, IsOrderly, entity_in, left_of, state_in, tables_in}
use Rattle.kernel_commits.specs.kernel_record_facts.Cells.{words_on}
use Rattle.table_births.specs.table_steps.declared.stepping.Made.{Made}
use Rattle.table_births.specs.table_steps.declared.stepping.StepFault.{StepFault}
use Rattle.table_births.specs.table_steps.declared.stepping.StepFault.TheVariants.{Idle, Paging}
use Rattle.kernel_commits.specs.kernel_invariant.Beginnings.{Beginning}
use Rattle.kernel_commits.specs.kernel_views.Events.{StepsOver, StopsOver}
use Rattle.kernel_core_facts.specs.Leaving.{LeavesInOrder}

no_fault : (m : Made) (f : StepFault) → IsErrOf {T = Made} {E = StepFault} (Ok m) f → ⊥
no_fault m f is = cc

-- a table has a cell at each number below its length
cell_at : (cs : List Cell) (x : ℕ) → x < length cs → (c : Cell) × (slice_get cs x ≡ Some c)
cell_at cs x lt = elim (slice_get_cases cs x).1 as (λ _. (c : Cell) × (slice_get cs x ≡ Some c)) [
  | inl k ↦ (k.0, k.2)
  | inr past ↦ absurd (let far = past.0 in omega (arith, lt, far))
]

-- no cell is one of an entity that is absent
empty_absent : (left x : ℕ) → idle_of left (empty_state x).cell ≡ Some Absent
empty_absent left x = by (x == 0)
  where
    by : (t : Bool) → idle_of left (if t then AtlasCell no_atlas else NotBorn) ≡ Some Absent
    by true = refl
    by false = refl

locus_at : (s : Supply) (words : ℕ → List ℕ) (me : ℕ) (cs : List Cell) (o : Option Cell) → slice_get cs me ≡ o
    → (idle_of (left_of (slice_get cs me)) (state_in s words cs me).cell ≡ Some Absent → ⊥) → (c : Cell) × (slice_get cs me ≡ Some c)
locus_at s words me cs (Some c) is there = (c, is)
locus_at s words me cs None is there = absurd (there (ap (λ o. idle_of (left_of o) (entity_in s words me o).cell) is ∙ empty_absent 0 me))

-- a wish that the run has is had of a cell with the same clock, wish and steps left
same_wish : (steps : ℕ) (r : Run) (c d : Cell) → d.clock ≡ c.clock → d.wish ≡ c.wish → d.left ≡ c.left → HasWish steps r c → HasWish steps r d
same_wish steps r c d clock wish left has = record {
  newest = ap (λ (k : Clock). r.newest k.entity) clock ∙ has.newest ∙ ap (λ (w : Wish). w.newest) (sym wish);
  by_step = ap (λ (k : Clock). r.by_step k.entity) clock ∙ has.by_step ∙ ap (λ (w : Wish). w.by_step) (sym wish);
  asked = ap (λ (k : Clock). r.asked k.entity) clock ∙ has.asked ∙ ap (λ (w : Wish). w.asked) (sym wish);
  left = (
      let here = ap (λ (k : Clock). r.steps k.entity) clock in
      let had = has.left in
      omega (arith, here, had, left));
}

module _ {D : Type 0} (disks : Ghosts D)
    (s : Supply) (me : ℕ) (cs cs' : List Cell) (old new : State D) (before : IsOrderly (books old).held cs) (after : IsOrderly (books new).held cs')
    (pages : GoesByPages disks old new)
    (one_write : (books new).begun ≤ (books old).begun + 1) where
  abbrev words : ℕ → List ℕ
  words = words_on (disks.reading old.disk)

  abbrev words' : ℕ → List ℕ
  words' = words_on (disks.reading new.disk)

  abbrev Stays : Type 0
  Stays = StaysAtFault disks.tells s words words' cs cs'

  -- what was idle is as it was
  abbrev Still : Type 0
  Still = (cs' ≡ cs) × (new ≡ old)

  -- A STEP THAT WAS MADE
  module _ (news : HasNews (kept_names (books old)) (tables_in cs) (tables_in cs')) (b : Beginning) (same : b.supply ≡ s) (working : (books old).shut ≡ false) where
    over : (e : Entry) → (c : Cell) × (slice_get cs me ≡ Some c) → GoesOn s words words' me cs cs' e → EntersStep me cs cs' e → (books new).shut ≡ (books old).shut
        → StepsOver disks b me cs cs' old new e
    over e c goes enters same_shut =
        let count = before.numbers.len in
        let count' = after.numbers.len in
        let within = slice_get_within cs me c.0 c.1 in
        let d = cell_at cs' me (omega (arith, within, count, count')) in
        let fewer : d.0.left + 1 ≡ c.0.left = ap (λ t. d.0.left + (if t then 1 else 0)) (sym (eq-eqb me me refl)) ∙ enters.left me c.0 d.0 c.1 d.1 in
        record {
          goes = subst (λ (z : Supply). GoesOn z words words' me cs cs' e) (sym same) goes;
          orderly = after;
          news = news;
          before = (books old).begun;
          after = (books new).begun;
          pages = pages.only;
          one_write = one_write;
          working = same_shut ∙ working;
          locus = c.0;
          at = c.1;
          left = omega (arith, fewer);
        }

    pub steps_over : (r : Result Made StepFault) → (IsErrOf r (Idle Absent) ↔ (idle_of (left_of (slice_get cs me)) (state_in s words cs me).cell ≡ Some Absent)) → IfOk r (λ m. GoesOn s words words' me cs cs' m.entry) → IfOk r (λ m. EntersStep me cs cs' m.entry) → OnOk r ((books new).shut ≡ (books old).shut)
        → IfOk r (λ m. StepsOver disks b me cs cs' old new m.entry)
    steps_over (Ok m) absent goes enters same_shut = over m.entry (locus_at s words me cs (slice_get cs me) refl (λ none. no_fault m (Idle Absent) (absent.1 none))) goes enters same_shut
    steps_over (Err f) absent goes enters same_shut = tt

  -- A FAULT
  wishes_stay : Stays → (steps : ℕ) (r : Run) → HasTableWishes steps r cs → HasTableWishes steps r cs'
  wishes_stay stays steps r has x d is =
      let count = before.numbers.len in
      let count' = after.numbers.len in
      let within = slice_get_within cs' x d is in
      let c = cell_at cs x (omega (arith, within, count, count')) in
      let k = stays.same x c.0 d c.1 is in
      same_wish steps r c.0 d k.0 k.1 k.2 (has x c.0 c.1)

  pub stops_over : (b : Beginning) → disks.tells → b.supply ≡ s → Stays → StopsOver disks b cs cs' old new
  stops_over b told same stays = record {
    numbers = after.numbers;
    state = subst (λ (z : Supply). state_in z words' cs' ≡ state_in z words cs) (sym same) (stays.state told);
    wishes = wishes_stay stays;
    before = (books old).begun;
    after = (books new).begun;
    pages = pages.only;
  }

  -- WHATEVER CAME OF IT
  Versions : Type 0
  Versions = (x : ℕ) (c d : Cell) → slice_get cs x ≡ Some c → slice_get cs' x ≡ Some d → (c.clock.version ≤ d.clock.version) × (d.clock.version ≤ c.clock.version + 1)

  same_version : (c d : Cell) → d.clock ≡ c.clock → (c.clock.version ≤ d.clock.version) × (d.clock.version ≤ c.clock.version + 1)
  same_version c d same = (let is = ap (λ (k : Clock). k.version) same in (omega (arith, is), omega (arith, is)))

  versions_by : (r : Result Made StepFault) → IfOk r (λ m. EntersStep me cs cs' m.entry) → ((why : AnIdle) → IsErrOf r (Idle why) → Still) → ((f : PageFault) → IsErrOf r (Paging f) → Stays) → Versions
  unfolding Versions
  versions_by (Ok e) enters still faulted x c d was is = enters.versions x c d was is
  versions_by (Err (Idle why)) enters still faulted x c d was is =
      let same = ap (λ (ks : List Cell). slice_get ks x) (still why refl).0 in
      same_version c d (ap (λ (k : Cell). k.clock) (same_Some d c (sym is ∙ same ∙ was)))
  versions_by (Err (Paging f)) enters still faulted x c d was is = same_version c d ((faulted f refl).same x c d was is).0

  pub leaves : (r : Result Made StepFault) → IfOk r (λ m. EntersStep me cs cs' m.entry) → ((why : AnIdle) → IsErrOf r (Idle why) → Still) → ((f : PageFault) → IsErrOf r (Paging f) → Stays)
      → LeavesInOrder disks cs cs' old new
  unfolding Versions
  leaves r enters still faulted = record { orderly = after; versions = versions_by r enters still faulted; pages = pages; one_write = one_write }

  pub stays_clean : (r : Result Made StepFault) → disks.tells → AreClean s words cs → IfOk r (λ m. GoesOn s words words' me cs cs' m.entry) → ((why : AnIdle) → IsErrOf r (Idle why) → Still)
      → ((f : PageFault) → IsErrOf r (Paging f) → Stays) → AreClean s words' cs'
  stays_clean (Ok e) told clean goes still faulted = goes.clean clean
  stays_clean (Err (Idle why)) told clean goes still faulted =
      let same = still why refl in
      subst (λ (st : State D). AreClean s (words_on (disks.reading st.disk)) cs') (sym same.1) (subst (AreClean s words) (sym same.0) clean)
  stays_clean (Err (Paging f)) told clean goes still faulted = (faulted f refl).clean told clean
