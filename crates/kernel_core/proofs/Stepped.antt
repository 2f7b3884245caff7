-- A step over a kernel's parts: what it leaves of them, whatever the disk tells, and of a run.
use Rattle.std.proofs.Common.{◌≡◌, ◌⊎◌, ◌↔◌, inl, inr, ℕ, ◌+◌, ◌<◌, ◌≤◌, true, false, not, ◌&&◌, nat_lt, List, [], ◌∷◌, ◌++◌, length, slice_get, Option, Some, None, is_some, Ok, Err, refl, sym, ap, subst, ◌∙◌, arith, length-append}
use Rattle.std.specs.Prelude.{IsErrOf}
use Rattle.std.proofs.lemmas.Bool.{and_parts}
use Rattle.std.proofs.lemmas.Option.{slice_get_within}
use Rattle.edge_disk.specs.declared.disk.Disk.{Ghosts}
use Rattle.edge_disk.specs.Image.{Image}
use Rattle.edge_disk.specs.declared.disk.NoBlocks.{NoBlocks}
use Rattle.base_types.specs.declared.histories.Entry.{Entry}
use Rattle.base_types.specs.declared.histories.Event.{Event}
use Rattle.script_types.specs.model_kernel.Histories.{May, Run, goes_on}
use Rattle.script_types.specs.model_kernel.Serial.{can_step}
use Rattle.script_types.specs.model_kernel.State.{KernelState, Supply, empty_state}
use Rattle.script_types.specs.model_kernel.Steps.{running, step}
use Rattle.kernel_core_facts.specs.page_memory.Calls.{IsCausedBy}
use Rattle.page_store.specs.declared.faults.PageFault.{PageFault}
use Rattle.page_store.specs.declared.faults.PageFault.TheVariants as page
use Rattle.kernel_core_facts.specs.store_books.Books.{free_in}
use Rattle.kernel_core_facts.specs.store_facts.State.{State, books}
use Rattle.kernel_core_facts.specs.cell_states.declared.cells.Cell.{Cell}
use Rattle.kernel_core_facts.specs.cell_plans.Plans.{idle_of}
use Rattle.kernel_core_facts.specs.cell_plans.declared.idle.Idle.{Idle as AnIdle}
use Rattle.kernel_core_facts.specs.table_laws.Steps.{EntersStep}
use Rattle.kernel_core_facts.specs.table_laws.Tables.{AreClean, IsOrderly, entity_in, left_of, state_in}
use Rattle.kernel_core_facts.specs.kernel_record_facts.Cells.{words_on}
use Rattle.kernel_core_facts.specs.table_steps.Wanting.{HasNext, TurnsOne, WantsWord}
use Rattle.kernel_core_facts.specs.table_steps.declared.stepping.Made.{Made as Step}
use Rattle.kernel_core_facts.specs.table_steps.declared.stepping.StepFault.{StepFault}
use Rattle.kernel_core_facts.specs.table_steps.declared.stepping.StepFault.TheVariants.{Idle, Paging}
use Rattle.kernel_core_facts.specs.kernel_invariant.Beginnings.{Beginning, run_of, state_after}
use Rattle.kernel_core_facts.specs.kernel_invariant.Live.{IsCalm}
use Rattle.kernel_core_facts.proofs.kernel_laws_lemmas.Going.{event_runs, stop_lives}
use Rattle.kernel_core_facts.specs.kernel_block_laws.Room.{enough_blocks}
use Rattle.kernel_core_facts.proofs.kernel_block_laws_lemmas.Enough.{calm_whole}
use Rattle.kernel_core_facts.specs.kernel_views.Events.{StepsOver, StopsOver}
use Rattle.kernel_core_facts.specs.kernel_views.Views.{FollowsRun, newest_at, view_of}
use Rattle.kernel_core_facts.proofs.kernel_views_lemmas.Following.{cells_follow}
use Rattle.kernel_core_facts.proofs.kernel_views_lemmas.Legal.{run_next}
use Rattle.kernel_core_facts.proofs.kernel_views_lemmas.Stepping.{clean_on, made_event}
use Rattle.kernel_core_facts.proofs.kernel_views_lemmas.Stopping.{stops}
use Rattle.kernel_core_facts.specs.cell_looks.Looking.{IsWordStep}
use Rattle.kernel_core_facts.specs.model_serial.Serial.{IsBehind, IsCalm as IsQuiet, kept_behind, look, written_in}
use Rattle.kernel_core_facts.proofs.model_serial_lemmas.Calm.{step_behind, step_entry, step_may}
use Rattle.kernel_core_facts.proofs.model_serial_lemmas.Rounds.{step_some}
use Rattle.kernel_core_facts.proofs.model_serial_turns_lemmas.Looks.{look_made}
use Rattle.kernel_core_facts.specs.Leaving.{LeavesInOrder}
use Rattle.kernel_core_facts.specs.kernel_book_laws.Matching.{Rises, newest_of, version_at, version_of}
use Rattle.kernel_core_facts.proofs.kernel_book_laws_lemmas.Keeping.{rises}
use Rattle.kernel_core_facts.specs.kernel_commit_facts.Parts.{Noted, Parts, StandsAs, parts_of}
use Rattle.kernel_core_facts.specs.kernel_commit_facts.Lacking.{LacksBlocks, LacksIn, MayWant}
use Rattle.kernel_core_facts.specs.kernel_commit_facts.Pieces.{CountsWithin}
use Rattle.kernel_core_facts.specs.kernel_commit_facts.Short.{AreWithin, IsPageWanting, IsShortFor, WantsPage}
use Rattle.kernel_core_facts.specs.kernel_commit_facts.Steady.{IsSteady, entries_taken, steps_to_come}
use Rattle.kernel_core_facts.specs.Stepping.{HasCause, IsOfOpen, StepsInRun, idle_at, stop_by}
use Rattle.kernel_core_facts.specs.Looked.{StepsOnce}
use Rattle.kernel_core_facts.specs.declared.looked.Looked.TheVariants.{Idle as IdleFor, Made}
use Rattle.kernel_core_facts.specs.kernel_invariant.declared.stopping.Stopped.TheVariants as reason
use Rattle.kernel_core_facts.proofs.kernel_commit_facts_lemmas.Dues.{due_first}
use Rattle.kernel_core_facts.proofs.kernel_commit_facts_lemmas.Enough.{none_lacks}
use Rattle.kernel_core_facts.proofs.kernel_commit_facts_lemmas.Room.{steps_within, taken_next}
use Rattle.kernel_core_facts.proofs.kernel_commit_facts_lemmas.Within.{page_within}
use Rattle.kernel_core_facts.proofs.table_laws_lemmas.Idling.{can_by, empty_idle, empty_stays, high_by}
use Rattle.kernel_core_facts.proofs.kernel_commit_facts_lemmas.StepRoom.{step_room, step_spare}
use Rattle.kernel_core_facts.proofs.Paired.{both_or}
use Rattle.kernel_core.proofs.Answered.{absent_none, err_not, err_why, fault_is, idle_by, idle_for, made_not, no_fault, no_idle, no_paging, none_by, not_false, not_true, page_is, stop_is}

cell_or : (cs : List Cell) (x : ℕ) → ((c : Cell) × (slice_get cs x ≡ Some c)) ⊎ (slice_get cs x ≡ None)
cell_or cs x = by (slice_get cs x) refl
  where
    by : (o : Option Cell) → slice_get cs x ≡ o → ((c : Cell) × (slice_get cs x ≡ Some c)) ⊎ (slice_get cs x ≡ None)
    by (Some c) is = inl (c, is)
    by None is = inr is

module _ {D : Type 0} (disks : Ghosts D)
    (counts_later : (disk : D) (s t : ℕ) (c : Image) → disks.tells → s ≤ t → disks.left_since disk t c → disks.left_since disk s c)
    (only_now : (disk : D) (c : Image) → disks.tells → disks.left_since disk (disks.clock disk) c → disks.may_leave disk c)
    (s : Supply) (me : ℕ) (cs cs' : List Cell) (st st' : State D) (noted : Noted)
    (k : IsSteady disks (parts_of st cs noted))
    (leaves : LeavesInOrder disks cs cs' st st')
    (clean' : disks.tells → AreClean s (words_on (disks.reading st'.disk)) cs') where
  abbrev old : Parts D
  old = parts_of st cs noted

  before : IsOrderly (books st).held cs
  before = k.sound.matches.orderly

  counts_on : CountsWithin disks 1 st st'
  counts_on = record { few = leaves.one_write; counts = leaves.pages.only.counts; later = leaves.pages.later; same_count = leaves.pages.only.same_count }

  -- idle in a run
  module _ (b : Beginning) (stands : StandsAs disks b old) where
    abbrev words : ℕ → List ℕ
    words = words_on (disks.reading st.disk)

    abbrev r : Run
    r = run_of b noted.entries

    follow : FollowsRun b words cs noted.entries
    follow = cells_follow b noted.entries (disks.reading st.disk) cs stands.orderly.numbers (books st) noted.marks None stands.runs.follows

    left_is : (c : Cell) → slice_get cs me ≡ Some c → r.steps me + c.left ≡ b.script.steps
    left_is c at =
        let h = (follow.wishes me c at).left in
        let same = ap r.steps (stands.orderly.numbers.each me c at) in
        omega (arith, h, same)

    empty_cell : slice_get cs me ≡ None → (r.state me).cell ≡ (empty_state me).cell
    empty_cell none = sym (ap (λ (w : KernelState). (w me).cell) follow.state) ∙ ap (λ o. (entity_in b.supply words me o).cell) none

    can_is : is_some (idle_at b.supply words me cs) ≡ not (can_step b.script r me)
    can_is = elim (cell_or cs me) as (λ _. is_some (idle_at b.supply words me cs) ≡ not (can_step b.script r me)) [
      | inl h ↦ ap (λ o. is_some (idle_of (left_of o) (state_in b.supply words cs me).cell)) h.1
          ∙ (ap (λ (w : KernelState). is_some (idle_of h.0.left (w me).cell)) follow.state
          ∙ can_by (r.state me).cell h.0.left (r.steps me) b.script.steps (left_is h.0 h.1))
      | inr none ↦ ap (λ o. is_some (idle_of (left_of o) (entity_in b.supply words me o).cell)) none
          ∙ (ap is_some (empty_idle me)
          ∙ sym (ap not (ap (λ k. is_some (running k) && nat_lt (r.steps me) b.script.steps) (empty_cell none) ∙ ap (λ t. t && nat_lt (r.steps me) b.script.steps) (empty_stays me))))
    ]

  -- A STEP THAT WAS MADE
  module _ (m : Step) (idle : (z : Supply) (ws : ℕ → List ℕ) (why : AnIdle) → IsErrOf {T = Step} {E = StepFault} (Ok m) (Idle why) ↔ (idle_at z ws me cs ≡ Some why))
      (wants : (n : NoBlocks) → IsErrOf {T = Step} {E = StepFault} (Ok m) (Paging (page.NoBlocks n)) ↔ WantsPage me old n)
      (enters : EntersStep me cs cs' m.entry) (next : HasNext me cs m.instr) (same_shut : (books st').shut ≡ (books st).shut)
      (over : (b : Beginning) → disks.tells → b.supply ≡ s → (books st).shut ≡ false → StepsOver disks b me cs cs' st st' m.entry) where
    abbrev e : Entry
    e = m.entry

    abbrev new : Parts D
    new = parts_of st' cs' (record noted { entries = noted.entries ++ e ∷ [] })

    not_idle : (z : Supply) (ws : ℕ → List ℕ) → idle_at z ws me cs ≡ None
    not_idle z ws = none_by (idle_at z ws me cs) (λ why is. no_fault m (Idle why) ((idle z ws why).1 is))

    at_me : (c : Cell) × (slice_get cs me ≡ Some c)
    at_me = elim (cell_or cs me) as (λ _. (c : Cell) × (slice_get cs me ≡ Some c)) [
      | inl h ↦ h
      | inr none ↦ absurd (absent_none (sym (ap (λ o. idle_of (left_of o) (entity_in s (words_on (disks.reading st.disk)) me o).cell) none ∙ empty_idle me) ∙ not_idle s (words_on (disks.reading st.disk))))
    ]

    low : me < 64
    low = let within = slice_get_within cs me at_me.0 at_me.1 in let count = before.numbers.len in omega (arith, within, count)

    high : 40 < me
    high = high_by s (words_on (disks.reading st.disk)) me at_me.0.left at_me.0.part (before.kinds me at_me.0 at_me.1)
        (sym (ap (λ o. idle_of (left_of o) (entity_in s (words_on (disks.reading st.disk)) me o).cell) at_me.1) ∙ not_idle s (words_on (disks.reading st.disk)))

    same_len : length cs' ≡ length cs
    same_len = let a = before.numbers.len in let b = leaves.orderly.numbers.len in omega (arith, a, b)

    rising : Rises cs cs'
    rising = record {
      versions = λ x. elim (both_or cs cs' same_len x) as (λ _. version_of cs x ≤ version_of cs' x) [
        | inl h ↦ (
            let up = (enters.versions x h.0 h.1 h.2 h.3).0 in
            let old : version_of cs x ≡ h.0.clock.version = ap version_at h.2 in
            let new : version_of cs' x ≡ h.1.clock.version = ap version_at h.3 in
            omega (arith, up, old, new))
        | inr h ↦ (let old : version_of cs x ≡ 0 = ap version_at h.0 in omega (arith, old))
      ];
      newest = λ x. elim (both_or cs cs' same_len x) as (λ _. newest_of cs' x ≡ newest_of cs x) [
        | inl h ↦ ap newest_at h.3 ∙ (enters.newest x h.0 h.1 h.2 h.3 ∙ sym (ap newest_at h.2))
        | inr h ↦ ap newest_at h.1 ∙ sym (ap newest_at h.0)
      ];
    }

    next_version : (x : ℕ) → version_of cs' x ≤ version_of cs x + 1
    next_version x = elim (both_or cs cs' same_len x) as (λ _. version_of cs' x ≤ version_of cs x + 1) [
      | inl h ↦ (
          let up = (enters.versions x h.0 h.1 h.2 h.3).1 in
          let old : version_of cs x ≡ h.0.clock.version = ap version_at h.2 in
          let new : version_of cs' x ≡ h.1.clock.version = ap version_at h.3 in
          omega (arith, up, old, new))
      | inr h ↦ (let new : version_of cs' x ≡ 0 = ap version_at h.1 in omega (arith, new))
    ]

    longer : length (noted.entries ++ e ∷ []) ≡ length noted.entries + 1
    longer = length-append noted.entries (e ∷ [])

    same_epoch : (books st').place.epoch ≡ (books st).place.epoch
    same_epoch = ap (λ p. p.epoch) leaves.pages.only.same_place

    steady_on : IsSteady disks new
    steady_on = record {
      sound = record {
        matches = rises (λ _. 4) (books st) (books st') cs cs' k.sound.matches (record { same_logged = leaves.pages.only.same_logged; same_found = leaves.pages.only.same_found }) leaves.orderly rising;
        working = same_shut ∙ k.sound.working;
        true_books = λ told. leaves.pages.only.true_books told (k.sound.true_books told);
      };
      few = record {
        versions = λ x. (let was = k.few.versions x in let up = next_version x in let more = longer in omega (arith, was, up, more));
        epoch = (let was = k.few.epoch in let same = same_epoch in let more = longer in omega (arith, was, same, more));
        marks = (let was = k.few.marks in let more = longer in omega (arith, was, more));
        room = (
            let was = k.few.room in
            let less = step_room me cs cs' e before.numbers leaves.orderly.numbers high enters low in
            let more = taken_next noted.entries e in
            omega (arith, was, less, more));
        small = k.few.small;
      };
    }

    -- a Stable may follow
    spare : steps_to_come cs' + entries_taken (noted.entries ++ e ∷ []) < noted.room
    spare =
        let was = k.few.room in
        let within = steps_within cs in
        let less = step_spare me cs cs' e before.numbers leaves.orderly.numbers high enters low in
        let more = taken_next noted.entries e in
        omega (arith, was, within, less, more)

    module _ (told : disks.tells) (b : Beginning) (same : b.supply ≡ s) (stands : StandsAs disks b old) (calm : IsCalm b noted.entries) where
      step_is : StepsOver disks b me cs cs' st st' e
      step_is = over b told same k.sound.working

      made : step b.supply me (r b stands).state ≡ Some (e, state_in b.supply (words_on (disks.reading st'.disk)) cs')
      made = ap (step b.supply me) (sym (follow b stands).state) ∙ step_is.goes.step

      can : can_step b.script (r b stands) me ≡ true
      can = not_false (can_step b.script (r b stands) me) (sym (ap is_some (not_idle b.supply (words b stands))) ∙ can_is b stands)

      quiet : IsQuiet b.policy (r b stands)
      quiet = record { owed = calm.nothing_owed; short = calm_whole b noted.entries stands.runs.begins stands.runs.legal calm.nothing_owed; tried = calm.not_tried; due = calm.nothing_due }

      few_steps : (r b stands).steps me < b.script.steps
      few_steps =
          let sum = left_is b stands at_me.0 at_me.1 in
          let some = step_is.left in
          let same_cell : at_me.0.left ≡ step_is.locus.left = ap left_of (sym at_me.1 ∙ step_is.at) in
          omega (arith, sum, some, same_cell)

      may : May b.supply b.policy b.script (r b stands) e
      may = step_may b.supply b.policy b.script (r b stands) me (e, state_in b.supply (words_on (disks.reading st'.disk)) cs') quiet calm.births_made few_steps made

      runs_on : StepsInRun disks b me e old new
      runs_on = record {
        stands = record {
          runs = event_runs b disks counts_later only_now (view_of disks.reading b cs st noted.entries noted.marks None) _ st.disk st'.disk stands.runs e
              (made_event disks b me cs cs' st st' noted.entries noted.marks e told stands calm step_is);
          orderly = step_is.orderly;
          clean = clean_on disks b me cs cs' st st' noted.entries noted.marks e told stands calm step_is;
        };
        state = state_in b.supply (words_on (disks.reading st'.disk)) cs';
        is = made;
        can = can;
        behind = subst (λ (q : Run). IsBehind b.policy q (written_in e.touched)) (sym (run_next b noted.entries e))
            (step_behind b.supply b.policy b.script (r b stands) e quiet (step_entry b.supply b.policy b.script (r b stands) me (e, state_in b.supply (words_on (disks.reading st'.disk)) cs') made).0 may);
      }

    pub once_made : StepsOnce disks s me old new (Ok (Made m))
    once_made = record {
      idle = λ z ws why. ((λ is. absurd (no_fault m (Idle why) ((idle z ws why).1 is))), (λ is. absurd (made_not m why is)));
      still = λ why is. absurd (made_not m why is);
      made = record { enters = enters; entries = refl; marks = refl; room = refl; spare = spare };
      next = next;
      failed = tt;
      short = λ n. ((λ is. absurd (cc is)), (λ short. absurd (no_fault m (Paging (page.NoBlocks n)) ((wants n).1 short))));
      steady = steady_on;
      clean = clean';
      counts = counts_on;
      run = runs_on;
      enough = λ told b same stands calm n is. absurd (cc is);
    }

  -- NONE, where the locus is idle
  idle_once : (why : AnIdle) → ((z : Supply) (ws : ℕ → List ℕ) (w : AnIdle) → IsErrOf {T = Step} {E = StepFault} (Err (Idle why)) (Idle w) ↔ (idle_at z ws me cs ≡ Some w)) → cs' ≡ cs → st' ≡ st
      → ((n : NoBlocks) → IsErrOf {T = Step} {E = StepFault} (Err (Idle why)) (Paging (page.NoBlocks n)) ↔ WantsPage me old n)
      → StepsOnce disks s me old (parts_of st' cs' noted) (Ok (IdleFor why))
  idle_once why idle same_cells same_store wants = record {
    idle = λ z ws w. ((λ is. idle_for why w ((idle z ws w).1 is)), (λ is. (idle z ws w).0 (idle_by why w is)));
    still = λ w is. same_parts;
    made = tt;
    next = tt;
    failed = tt;
    short = λ n. ((λ is. absurd (cc is)), (λ short. absurd (no_paging why (page.NoBlocks n) ((wants n).1 short))));
    steady = subst (IsSteady disks) (sym same_parts) k;
    clean = clean';
    counts = counts_on;
    run = λ told b same stands calm. not_true (can_step b.script (r b stands) me) (sym (ap is_some ((idle b.supply (words b stands) why).0 refl)) ∙ can_is b stands);
    enough = λ told b same stands calm n is. absurd (cc is);
  }
    where
      same_parts : parts_of st' cs' noted ≡ old
      same_parts = ap (λ q. parts_of q cs' noted) same_store ∙ ap (λ q. parts_of st q noted) same_cells

  pub once_idle : (f : StepFault) (why : AnIdle) → f ≡ Idle why → ((z : Supply) (ws : ℕ → List ℕ) (w : AnIdle) → IsErrOf {T = Step} {E = StepFault} (Err f) (Idle w) ↔ (idle_at z ws me cs ≡ Some w))
      → ((w : AnIdle) → IsErrOf {T = Step} {E = StepFault} (Err f) (Idle w) → (cs' ≡ cs) × (st' ≡ st))
      → ((n : NoBlocks) → IsErrOf {T = Step} {E = StepFault} (Err f) (Paging (page.NoBlocks n)) ↔ WantsPage me old n)
      → StepsOnce disks s me old (parts_of st' cs' noted) (Ok (IdleFor why))
  once_idle f why is idle still wants =
      idle_once why (subst (λ f. (z : Supply) (ws : ℕ → List ℕ) (w : AnIdle) → IsErrOf {T = Step} {E = StepFault} (Err f) (Idle w) ↔ (idle_at z ws me cs ≡ Some w)) is idle)
      (still why (fault_is f (Idle why) is)).0 (still why (fault_is f (Idle why) is)).1
      (subst (λ f. (n : NoBlocks) → IsErrOf {T = Step} {E = StepFault} (Err f) (Paging (page.NoBlocks n)) ↔ WantsPage me old n) is wants)

  -- A FAULT
  cause_by : (f : PageFault) → IsCausedBy (free_in (books st)) (disks.faults st.disk) (disks.faults st'.disk) (books st).shut (books st').shut f
      → ((n : NoBlocks) → f ≡ page.NoBlocks n → IsPageWanting me old (parts_of st' cs' noted) n) → HasCause disks me old (parts_of st' cs' noted) (stop_by f)
  cause_by (page.NoBlocks n) c wants = wants n refl
  cause_by page.ReadFault c wants = c.0
  cause_by page.WriteFault c wants = c.0
  cause_by page.Shut c wants = absurd (let w = k.sound.working in cc (w, c))

  open_by : (f : PageFault) → IsCausedBy (free_in (books st)) (disks.faults st.disk) (disks.faults st'.disk) (books st).shut (books st').shut f → IsOfOpen f
  open_by (page.NoBlocks n) c = tt
  open_by page.ReadFault c = tt
  open_by page.WriteFault c = tt
  open_by page.Shut c = absurd (let w = k.sound.working in cc (w, c))

  -- the store works, so that it isn't shut
  pub open_fault : (g : StepFault) (f : PageFault) → g ≡ Paging f
      → ((q : PageFault) → IsErrOf {T = Step} {E = StepFault} (Err g) (Paging q) → IsCausedBy (free_in (books st)) (disks.faults st.disk) (disks.faults st'.disk) (books st).shut (books st').shut q) → IsOfOpen f
  open_fault g f is cause = open_by f (cause f (fault_is g (Paging f) is))

  -- a page is short of a block only where the image lacks them
  short_by : (f : PageFault) → IsCausedBy (free_in (books st)) (disks.faults st.disk) (disks.faults st'.disk) (books st).shut (books st').shut f
      → disks.tells → (b : Beginning) → StandsAs disks b old → IsCalm b noted.entries
      → (n : NoBlocks) → err_why (stop_by f) ≡ err_why (reason.NoBlocks n) → LacksBlocks b (parts_of st' cs' noted)
  short_by (page.NoBlocks m) c told b stands calm n is =
      subst (λ count. count < enough_blocks (state_after b noted.entries)) (sym leaves.pages.only.same_count)
      (none_lacks disks b old told stands (calm_whole b noted.entries stands.runs.begins stands.runs.legal calm.nothing_owed) c.0)
  short_by page.ReadFault c told b stands calm n is = absurd (cc is)
  short_by page.WriteFault c told b stands calm n is = absurd (cc is)
  short_by page.Shut c told b stands calm n is = absurd (cc is)

  -- the step is defined, and reads or writes a word
  module _ (none : (z : Supply) (ws : ℕ → List ℕ) → idle_at z ws me cs ≡ None) (at_word : WantsWord me cs)
      (b : Beginning) (stands : StandsAs disks b old) where
    abbrev all : List Entry
    all = look b.supply b.policy b.script (r b stands) me

    can_step_here : can_step b.script (r b stands) me ≡ true
    can_step_here = not_false (can_step b.script (r b stands) me) (sym (ap is_some (none b.supply (words b stands))) ∙ can_is b stands)

    steps_here : (made : Entry × KernelState) × (step b.supply me (r b stands).state ≡ Some made)
    steps_here = step_some b.supply b.policy b.script me (r b stands).state (and_parts (is_some (running ((r b stands).state me).cell)) (nat_lt ((r b stands).steps me) b.script.steps) can_step_here).0

    word_step : IsWordStep (state_after b noted.entries) steps_here.0.0
    word_step = subst (λ (w : KernelState). IsWordStep w steps_here.0.0) stands.runs.follows.state
        (at_word b.supply (words b stands) steps_here.0 (ap (step b.supply me) (follow b stands).state ∙ steps_here.1))

    -- it is due, and short of a block
    step_lacks : disks.tells → (n : NoBlocks) → LacksBlocks b (parts_of st' cs' noted) → IsPageWanting me old (parts_of st' cs' noted) n → LacksIn disks b n all noted.entries (parts_of st' cs' noted)
    step_lacks told n lacks wants =
        let made = steps_here.0 in
        let entry = step_entry b.supply b.policy b.script (r b stands) me made steps_here.1 in
        let behind : Run = goes_on b.supply b.script (r b stands) made.0 in
        record {
          lacks = lacks;
          due = due_first b made.0 (kept_behind b.supply b.policy b.script behind (written_in made.0.touched) behind.owed) all noted.entries noted.entries
              (sym (look_made b.supply b.policy b.script (r b stands) me made.0 made.1 behind.owed can_step_here steps_here.1 refl))
              (subst (λ (v : Event). MayWant b noted.entries made.0 v) (sym entry.0) word_step) refl;
          short = subst (λ (v : Event). IsShortFor disks (parts_of st' cs' noted) n made.0 v) (sym entry.0)
              (old, subst (λ (x : ℕ). IsPageWanting x old (parts_of st' cs' noted) n) (sym entry.1) wants);
          within = subst (λ (count : ℕ). AreWithin (state_after b noted.entries) count n) (sym leaves.pages.only.same_count) (page_within disks b old told stands k.sound.matches.few n wants.short.short.short.none_free wants.short.short.short.numbers);
        }

  failed_once : (f : PageFault) → ((z : Supply) (ws : ℕ → List ℕ) (w : AnIdle) → IsErrOf {T = Step} {E = StepFault} (Err (Paging f)) (Idle w) ↔ (idle_at z ws me cs ≡ Some w))
      → IsCausedBy (free_in (books st)) (disks.faults st.disk) (disks.faults st'.disk) (books st).shut (books st').shut f
      → ((b : Beginning) → disks.tells → b.supply ≡ s → StopsOver disks b cs cs' st st') → WantsWord me cs
      → ((n : NoBlocks) → IsErrOf {T = Step} {E = StepFault} (Err (Paging f)) (Paging (page.NoBlocks n)) ↔ WantsPage me old n)
      → ((n : NoBlocks) → IsErrOf {T = Step} {E = StepFault} (Err (Paging f)) (Paging (page.NoBlocks n)) → TurnsOne cs cs' × (st' ≡ st))
      → StepsOnce disks s me old (parts_of st' cs' noted) (Err (stop_by f))
  failed_once f idle cause over at_word wants turned = record {
    idle = λ z ws w. ((λ is. absurd (no_idle f w ((idle z ws w).1 is))), (λ is. absurd (err_not (stop_by f) w is)));
    still = λ w is. absurd (err_not (stop_by f) w is);
    made = tt;
    next = tt;
    failed = record { noted = refl; orderly = leaves.orderly; cause = cause_by f cause wanting };
    short = λ n. (
      (λ is. (wants n).0 (fault_is (Paging f) (Paging (page.NoBlocks n)) (ap Paging (stop_is f n is)))),
      (λ short. ap (λ g. err_why (stop_by g)) (page_is f (page.NoBlocks n) ((wants n).1 short))),
    );
    steady = tt;
    clean = clean';
    counts = counts_on;
    run = λ told b same stands calm.
        stop_lives b disks counts_later only_now (view_of disks.reading b cs st noted.entries noted.marks None) _ st.disk st'.disk stands.runs
        (stops disks b cs cs' st st' noted.entries noted.marks (stop_by f) stands (over b told same));
    enough = λ told b same stands calm n is.
        let none : (z : Supply) (ws : ℕ → List ℕ) → idle_at z ws me cs ≡ None = λ z ws. none_by (idle_at z ws me cs) (λ why here. no_idle f why ((idle z ws why).1 here)) in
        step_lacks none at_word b stands told n (short_by f cause told b stands calm n is) (wanting n (stop_is f n is));
  }
    where
      wanting : (n : NoBlocks) → f ≡ page.NoBlocks n → IsPageWanting me old (parts_of st' cs' noted) n
      wanting n is =
          let failed = fault_is (Paging f) (Paging (page.NoBlocks n)) (ap Paging is) in
          let still = turned n failed in
          record { short = (wants n).0 failed; turned = still.0; same_store = still.1; same_noted = refl }

  pub once_failed : (g : StepFault) (f : PageFault) → g ≡ Paging f → ((z : Supply) (ws : ℕ → List ℕ) (w : AnIdle) → IsErrOf {T = Step} {E = StepFault} (Err g) (Idle w) ↔ (idle_at z ws me cs ≡ Some w))
      → ((q : PageFault) → IsErrOf {T = Step} {E = StepFault} (Err g) (Paging q) → IsCausedBy (free_in (books st)) (disks.faults st.disk) (disks.faults st'.disk) (books st).shut (books st').shut q)
      → ((b : Beginning) (q : PageFault) → disks.tells → b.supply ≡ s → IsErrOf {T = Step} {E = StepFault} (Err g) (Paging q) → StopsOver disks b cs cs' st st')
      → ((q : PageFault) → IsErrOf {T = Step} {E = StepFault} (Err g) (Paging q) → WantsWord me cs)
      → ((n : NoBlocks) → IsErrOf {T = Step} {E = StepFault} (Err g) (Paging (page.NoBlocks n)) ↔ WantsPage me old n)
      → ((n : NoBlocks) → IsErrOf {T = Step} {E = StepFault} (Err g) (Paging (page.NoBlocks n)) → TurnsOne cs cs' × (st' ≡ st))
      → StepsOnce disks s me old (parts_of st' cs' noted) (Err (stop_by f))
  once_failed g f is idle cause over at_word wants turned =
      failed_once f (subst (λ f. (z : Supply) (ws : ℕ → List ℕ) (w : AnIdle) → IsErrOf {T = Step} {E = StepFault} (Err f) (Idle w) ↔ (idle_at z ws me cs ≡ Some w)) is idle)
      (cause f (fault_is g (Paging f) is)) (λ b told same. over b f told same (fault_is g (Paging f) is)) (at_word f (fault_is g (Paging f) is))
      (subst (λ f. (n : NoBlocks) → IsErrOf {T = Step} {E = StepFault} (Err f) (Paging (page.NoBlocks n)) ↔ WantsPage me old n) is wants)
      (subst (λ f. (n : NoBlocks) → IsErrOf {T = Step} {E = StepFault} (Err f) (Paging (page.NoBlocks n)) → TurnsOne cs cs' × (st' ≡ st)) is turned)
