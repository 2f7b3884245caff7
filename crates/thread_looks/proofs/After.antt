-- A look by what its step came to, and the Snaps behind it.
use Rattle.std.proofs.Common.{◌≡◌, ◌⊎◌, inl, inr, ℕ, ◌*◌, ◌+◌, Bool, false, List, if◌then◌else◌, Some, None, Ok, Err, refl, sym, ap, subst, ◌∙◌, arith}
use Rattle.std.specs.Prelude.{IfOk, IsErrOf, Result, ⊤}
use Rattle.edge_disk.specs.declared.disk.Disk.{Ghosts}
use Rattle.edge_disk.specs.declared.disk.NoBlocks.{NoBlocks}
use Rattle.base_types.specs.declared.histories.Entry.{Entry}
use Rattle.kernel_core_facts.specs.table_births.model_kernel.Histories.{Policy}
use Rattle.kernel_core_facts.specs.table_births.model_kernel.State.{Supply}
use Rattle.kernel_core_facts.specs.cell_plans.declared.idle.Idle.{Idle as AnIdle}
use Rattle.kernel_core_facts.specs.table_steps.declared.stepping.Made.{Made as Step}
use Rattle.kernel_core_facts.specs.kernel_invariant.Beginnings.{Beginning, run_of}
use Rattle.kernel_core_facts.specs.kernel_invariant.Live.{IsCalm}
use Rattle.kernel_core_facts.specs.kernel_commit_facts.Parts.{Noted, Parts, StandsAs}
use Rattle.kernel_core_facts.specs.kernel_commit_facts.Short.{AreShortBehind}
use Rattle.kernel_core_facts.specs.kernel_commit_facts.Steady.{IsSteady}
use Rattle.kernel_core_facts.specs.kernel_commits.Stops.{LeavesStopped}
use Rattle.kernel_core_facts.specs.kernel_commits.Telling.{AddsNoTried, CommitsNote, TriesAtWrite}
use Rattle.kernel_core_facts.specs.kernel_invariant.declared.stopping.Stopped.{Stopped}
use Rattle.kernel_core_facts.specs.kernel_invariant.declared.stopping.Stopped.TheVariants as reason
use Rattle.kernel_core_facts.specs.model_serial.Serial.{written_in}
use Rattle.kernel_core_facts.specs.Looking.{LooksInRun}
use Rattle.kernel_core_facts.specs.Stepping.{is_owing}
use Rattle.kernel_core_facts.proofs.kernel_commit_facts_lemmas.Counting.{CountsWithin-fewer, CountsWithin-then}
use Rattle.kernel_core_facts.proofs.kernel_commits_lemmas.Telling.{adds_none, adds_then}
use Rattle.kernel_core_facts.proofs.kernel_commits_lemmas.Wishing.{err_over}
use Rattle.kernel_core_facts.proofs.LookMade.{free_then, lacks_behind_step, look_behind_step, look_still, owes_is, owes_then, part_at_step, part_behind_step}
use Rattle.kernel_core.proofs.LookMade.{rose_at, rose_behind, step_untried}
use Rattle.thread_commits.specs.Snapping.{SnapsWritten}
use Rattle.thread_looks.specs.Behind.{KeepsBehind}
use Rattle.thread_looks.specs.Looking.{LooksAsSerial}
use Rattle.thread_looks.proofs.Ends.{ok_look}
use Rattle.kernel_core_facts.specs.Looked.{IfMade, StepsOnce}
use Rattle.kernel_core_facts.specs.declared.looked.Looked.{Looked}
use Rattle.kernel_core_facts.specs.declared.looked.Looked.TheVariants.{Idle, Made}

abbrev err_look : Stopped → Result Looked Stopped
err_look why = Err why

stopped_for : (why : Stopped) (n : NoBlocks) → IsErrOf (err_look why) (reason.NoBlocks n) → Some why ≡ Some (reason.NoBlocks n)
stopped_for why n is = let same : why ≡ reason.NoBlocks n = cc is in ap (λ (w : Stopped). Some w) same

-- the same fault of a call that answers another thing
over_faults : {T : Type 0} (why : Stopped) → (IsErrOf (err_look why) reason.ReadFault) ⊎ (IsErrOf (err_look why) reason.WriteFault) → (IsErrOf {T = T} (Err why) reason.ReadFault) ⊎ (IsErrOf {T = T} (Err why) reason.WriteFault)
over_faults {T = T} why failed = elim failed as (λ _. (IsErrOf {T = T} (Err why) reason.ReadFault) ⊎ (IsErrOf {T = T} (Err why) reason.WriteFault)) [
  | inl is ↦ inl (err_over Looked T why reason.ReadFault is)
  | inr is ↦ inr (err_over Looked T why reason.WriteFault is)
]

no_faults : {P : Type 0} (o : Looked) → (IsErrOf (ok_look o) reason.ReadFault) ⊎ (IsErrOf (ok_look o) reason.WriteFault) → P
no_faults {P = P} o failed = elim failed as (λ _. P) [
  | inl is ↦ absurd (cc is)
  | inr is ↦ absurd (cc is)
]

tries_none : (why : Stopped) (old new : List Entry) → new ≡ old → TriesAtWrite (err_look why) old new
tries_none (reason.NoBlocks n) old new same = adds_none old new same
tries_none reason.ReadFault old new same = adds_none old new same
tries_none reason.WriteFault old new same = tt

tries_behind : (why : Stopped) (old mid new : List Entry) → AddsNoTried old mid → CommitsNote {T = ⊤} (Err why) mid new → TriesAtWrite (err_look why) old new
tries_behind (reason.NoBlocks n) old mid new first more = adds_then old mid new first more
tries_behind reason.ReadFault old mid new first more = absurd more
tries_behind reason.WriteFault old mid new first more = tt

-- Snaps are what comes behind a step that owes no Stable
pub snaps_behind : {D : Type 0} (disks : Ghosts D) (policy : Policy) (e : Entry) (r : Result ⊤ Stopped) (mid new : Parts D)
    → SnapsWritten disks policy (written_in e.touched) r mid new → KeepsBehind disks policy false e r mid new
snaps_behind disks policy e r mid new snaps = record {
  steady = snaps.steady;
  stopped = snaps.stopped;
  notes = snaps.notes;
  stabilised = λ yes. absurd (cc yes);
  stable = λ yes. absurd (cc yes);
  snaps = λ no. snaps.run;
  stable_part = λ yes. absurd (cc yes);
  snaps_part = λ no. snaps.part;
  enough = λ told b owes free n is. snaps.enough told b (free refl) n is;
  clean = snaps.clean;
  counts = snaps.counts;
}

module _ {D : Type 0} (disks : Ghosts D) (supply : Supply) (policy : Policy) (me : ℕ) (old mid : Parts D) where
  -- NONE WAS MADE
  pub look_idle : (why : AnIdle) → IsSteady disks old → StepsOnce disks supply me old mid (Ok (Idle why)) → LooksAsSerial disks supply policy me old mid (Ok (Idle why))
  look_idle why steady step = record {
    idle = step.idle;
    still = step.still;
    steady = step.steady;
    made = tt;
    stopped = record { stopped = tt; wanting = λ n wants. absurd (let is = (step.short n).1 wants in cc is) };
    tries = adds_none old.noted.entries mid.noted.entries (ap (λ (p : Parts D). p.noted.entries) (step.still why refl));
    run = λ told b same_supply same_policy stands calm. subst (λ (p : Parts D). LooksInRun disks b policy me (ok_look (Idle why)) old p) (sym (step.still why refl))
        (look_still disks b policy same_policy me old stands calm (step.run told b same_supply stands calm) (ok_look (Idle why)) (Idle why) refl);
    part = λ told b same_supply same_policy stands calm. tt;
    enough = λ told b same_supply same_policy stands calm n is. absurd (cc is);
    faults = no_faults (Idle why);
    clean = step.clean;
    counts = CountsWithin-fewer disks 1 (1 + 64 * 1556) old.store mid.store (omega arith) step.counts;
  }

  -- IT STOPPED AT ITS STEP
  pub look_failed : (why : Stopped) → StepsOnce disks supply me old mid (Err why) → LooksAsSerial disks supply policy me old mid (Err why)
  look_failed why step = record {
    idle = step.idle;
    still = step.still;
    steady = tt;
    made = tt;
    stopped = record { stopped = inl step.failed; wanting = λ n wants. stopped_for why n ((step.short n).1 wants) };
    tries = tries_none why old.noted.entries mid.noted.entries (ap (λ (n : Noted). n.entries) step.failed.noted);
    run = λ told b same_supply same_policy stands calm. record { stands = tt; calm = tt; entries = tt; lives = step.run told b same_supply stands calm };
    part = λ told b same_supply same_policy stands calm. part_at_step disks b policy same_policy me old stands calm mid step.failed.noted;
    enough = λ told b same_supply same_policy stands calm n is. step.enough told b same_supply stands calm n is;
    faults = λ failed. rose_at disks me old mid why step.failed.cause (over_faults why failed);
    clean = λ told. tt;
    counts = CountsWithin-fewer disks 1 (1 + 64 * 1556) old.store mid.store (omega arith) step.counts;
  }

  -- A STEP WAS MADE, which owes a Stable or not, with what it owes behind it
  module _ (m : Step) (step : StepsOnce disks supply me old mid (Ok (Made m))) (owes : Bool) (owing : is_owing m.instr m.entry.answer ≡ owes) (new : Parts D) where
    module _ (r : Result ⊤ Stopped) (keeps : KeepsBehind disks policy owes m.entry r mid new) (b : Beginning) (told : disks.tells) (same_supply : b.supply ≡ supply) (same_policy : b.policy ≡ policy)
        (stands : StandsAs disks b old) (calm : IsCalm b old.noted.entries) where
      owed : (run_of b mid.noted.entries).owed ≡ (if owes then Some me else None)
      owed = owes_is disks b policy same_policy me old stands calm mid m.entry step.made (step.run told b same_supply stands calm) m.instr step.next ∙ ap (λ t. if t then Some me else None) owing

      look_run : LooksInRun disks b policy me r old new
      look_run = look_behind_step disks b policy same_policy me old stands calm mid m.entry step.made (step.run told b same_supply stands calm) owes owed r new
          keeps.stabilised (λ yes. keeps.stable yes told b) (λ no. keeps.snaps no told b)

    pub kept_ended : KeepsBehind disks policy owes m.entry (Ok tt) mid new → LooksAsSerial disks supply policy me old new (Ok (Made m))
    kept_ended keeps = record {
      idle = step.idle;
      still = λ why is. absurd (cc is);
      steady = keeps.steady;
      made = record { mid = mid; stepped = step.made; behind = keeps.notes };
      stopped = record { stopped = tt; wanting = λ n wants. absurd (let is = (step.short n).1 wants in cc is) };
      tries = adds_then old.noted.entries mid.noted.entries new.noted.entries (step_untried disks me old mid m.entry step.made) keeps.notes;
      run = λ told b same_supply same_policy stands calm.
          let l = look_run (Ok tt) keeps b told same_supply same_policy stands calm in
          record { stands = l.stands; calm = l.calm; entries = l.entries; lives = tt };
      part = λ told b same_supply same_policy stands calm. tt;
      enough = λ told b same_supply same_policy stands calm n is. absurd (cc is);
      faults = no_faults (Made m);
      clean = λ told. keeps.clean told supply (step.clean told);
      counts = CountsWithin-then disks 1 (64 * 1556) old.store mid.store new.store step.counts keeps.counts;
    }

    pub kept_stopped : (why : Stopped) → KeepsBehind disks policy owes m.entry (Err why) mid new → LooksAsSerial disks supply policy me old new (Err why)
    kept_stopped why keeps = record {
      idle = λ z words w. ((λ is. absurd (let none = (step.idle z words w).0 is in cc none)), (λ is. absurd (cc is)));
      still = λ w is. absurd (cc is);
      steady = tt;
      made = tt;
      stopped = record {
        stopped = inr (record {
          mid = mid;
          entry = m.entry;
          stepped = step.made;
          instr = m.instr;
          next = step.next;
          leaves = subst (λ t. LeavesStopped disks.faults (AreShortBehind disks policy t (written_in m.entry.touched) new) mid new why) (sym owing) keeps.stopped;
        });
        wanting = λ n wants. absurd (let is = (step.short n).1 wants in cc is);
      };
      tries = tries_behind why old.noted.entries mid.noted.entries new.noted.entries (step_untried disks me old mid m.entry step.made) keeps.notes;
      run = λ told b same_supply same_policy stands calm.
          let l = look_run (Err why) keeps b told same_supply same_policy stands calm in
          record { stands = tt; calm = tt; entries = tt; lives = l.lives };
      part = λ told b same_supply same_policy stands calm.
          part_behind_step disks b policy same_policy me old stands calm mid m.entry step.made (step.run told b same_supply stands calm) owes
          (owed (Err why) keeps b told same_supply same_policy stands calm) new.noted.entries (λ yes. keeps.stable_part yes told b) (λ no. keeps.snaps_part no told b);
      enough = λ told b same_supply same_policy stands calm n is.
          let o = owed (Err why) keeps b told same_supply same_policy stands calm in
          let run = step.run told b same_supply stands calm in
          lacks_behind_step disks b policy same_policy me old stands calm mid m.entry step.made run owes o new n
          (keeps.enough told b (owes_then disks b policy same_policy me old stands calm mid m.entry step.made run owes o)
          (free_then disks b policy same_policy me old stands calm mid m.entry step.made run owes o)
          n (err_over Looked ⊤ why (reason.NoBlocks n) is));
      faults = λ failed. rose_behind disks.faults old mid new why step.counts.later keeps.counts.later keeps.stopped.cause (over_faults why failed);
      clean = λ told. tt;
      counts = CountsWithin-then disks 1 (64 * 1556) old.store mid.store new.store step.counts keeps.counts;
    }

  -- one that owes none
  module _ (m : Step) (step : StepsOnce disks supply me old mid (Ok (Made m))) (free : is_owing m.instr m.entry.answer ≡ false) (new : Parts D) where
    pub look_ended : SnapsWritten disks policy (written_in m.entry.touched) (Ok tt) mid new → LooksAsSerial disks supply policy me old new (Ok (Made m))
    look_ended snaps = kept_ended m step false free new (snaps_behind disks policy m.entry (Ok tt) mid new snaps)

    pub look_stopped : (why : Stopped) → SnapsWritten disks policy (written_in m.entry.touched) (Err why) mid new → LooksAsSerial disks supply policy me old new (Err why)
    look_stopped why snaps = kept_stopped m step false free new why (snaps_behind disks policy m.entry (Err why) mid new snaps)

-- THE SAME, by what the step came to
module _ {D : Type 0} (disks : Ghosts D) (supply : Supply) (policy : Policy) (me : ℕ) (old mid : Parts D) (came : Result Looked Stopped) (step : StepsOnce disks supply me old mid came) where
  pub came_idle : (o : Looked) (why : AnIdle) → came ≡ Ok o → o ≡ Idle why → IsSteady disks old → LooksAsSerial disks supply policy me old mid (Ok (Idle why))
  came_idle o why is idle steady = look_idle disks supply policy me old mid why steady (subst (StepsOnce disks supply me old mid) (is ∙ ap ok_look idle) step)

  pub came_failed : (why : Stopped) → came ≡ Err why → LooksAsSerial disks supply policy me old mid (Err why)
  came_failed why is = look_failed disks supply policy me old mid why (subst (StepsOnce disks supply me old mid) is step)

  module _ (o : Looked) (m : Step) (is : came ≡ Ok o) (made : o ≡ Made m) (free : IfOk came (λ q. IfMade q (λ n. is_owing n.instr n.entry.answer ≡ false))) (new : Parts D)
      (r : Result ⊤ Stopped) (snaps : SnapsWritten disks policy (written_in m.entry.touched) r mid new) where
    as_made : StepsOnce disks supply me old mid (Ok (Made m))
    as_made = subst (StepsOnce disks supply me old mid) (is ∙ ap ok_look made) step

    is_free : is_owing m.instr m.entry.answer ≡ false
    is_free = subst (λ (q : Result Looked Stopped). IfOk q (λ p. IfMade p (λ n. is_owing n.instr n.entry.answer ≡ false))) (is ∙ ap ok_look made) free

    pub came_ended : r ≡ Ok tt → LooksAsSerial disks supply policy me old new (Ok (Made m))
    came_ended ok = look_ended disks supply policy me old mid m as_made is_free new (subst (λ (q : Result ⊤ Stopped). SnapsWritten disks policy (written_in m.entry.touched) q mid new) ok snaps)

    pub came_stopped : (why : Stopped) → r ≡ Err why → LooksAsSerial disks supply policy me old new (Err why)
    came_stopped why err = look_stopped disks supply policy me old mid m as_made is_free new why (subst (λ (q : Result ⊤ Stopped). SnapsWritten disks policy (written_in m.entry.touched) q mid new) err snaps)
