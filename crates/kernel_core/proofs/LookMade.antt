-- What a look came to, told by what its step came to.
use Rattle.std.proofs.Common.{◌≡◌, ◌⊎◌, inl, inr, ℕ, ◌≤◌, List, Some, Ok, Err, ap, subst}
use Rattle.std.specs.Prelude.{◌↔◌, IsErrOf, Result, ⊤}
use Rattle.edge_disk.proofs.Ticks.{Rose-before}
use Rattle.edge_disk.specs.Counts.{Rose}
use Rattle.edge_disk.specs.declared.disk.Disk.{Ghosts}
use Rattle.edge_disk.specs.declared.disk.NoBlocks.{NoBlocks}
use Rattle.base_types.specs.declared.histories.Entry.{Entry}
use Rattle.script_types.specs.model_kernel.Histories.{Policy}
use Rattle.kernel_core_facts.specs.kernel_invariant.Beginnings.{Beginning}
use Rattle.kernel_core_facts.specs.kernel_invariant.Live.{IsCalm}
use Rattle.kernel_core_facts.specs.model_serial.Serial.{look}
use Rattle.kernel_core_facts.specs.kernel_commit_facts.Parts.{Parts, StandsAs}
use Rattle.kernel_core_facts.specs.Looking.{LooksInRun}
use Rattle.kernel_core_facts.specs.declared.looked.Looked.{Looked}
use Rattle.kernel_core_facts.specs.declared.looked.Looked.TheVariants.{Idle, Made}
use Rattle.kernel_core_facts.specs.cell_plans.declared.idle.Idle.{Idle as AnIdle}
use Rattle.kernel_core_facts.specs.Stepping.{HasCause, HasStepped}
use Rattle.kernel_core_facts.specs.table_steps.declared.stepping.Made.{Made as Step}
use Rattle.kernel_core_facts.specs.kernel_commits.Stops.{IsCause}
use Rattle.kernel_core_facts.specs.kernel_commits.Telling.{AddsNoTried, CommitsNote, TriesAtWrite}
use Rattle.kernel_core_facts.proofs.kernel_commits_lemmas.Telling.{adds_none, adds_one, adds_then}
use Rattle.kernel_core_facts.specs.kernel_invariant.declared.stopping.Stopped.{Stopped}
use Rattle.kernel_core_facts.specs.kernel_invariant.declared.stopping.Stopped.TheVariants as reason

abbrev pub ok_look : Looked → Result Looked Stopped
ok_look look = Ok look

abbrev pub err_result : Stopped → Result Looked Stopped
err_result why = Err why

-- what ended well wanted no block, and what failed for want of some has stopped for them
pub never_wanting : {P : Type 0} (o : Looked) (n : NoBlocks) → IsErrOf (ok_look o) (reason.NoBlocks n) → P
never_wanting o n is = absurd (cc is)

pub stopped_for : (why : Stopped) (n : NoBlocks) → IsErrOf (err_result why) (reason.NoBlocks n) → Some why ≡ Some (reason.NoBlocks n)
stopped_for why n is = let same : why ≡ reason.NoBlocks n = cc is in ap (λ (w : Stopped). Some w) same

-- a step was made, so there is no reason why none was
pub idle_behind : (m : Step) (why : Stopped) (w : AnIdle) (P : Type 0) → (P ↔ (ok_look (Made m) ≡ ok_look (Idle w))) → P ↔ (err_result why ≡ ok_look (Idle w))
idle_behind m why w P h = ((λ p. absurd (let is = h.0 p in cc is)), (λ is. absurd (cc is)))

-- a step is no Tried
pub step_untried : {D : Type 0} (disks : Ghosts D) (me : ℕ) (old mid : Parts D) (e : Entry) → HasStepped disks me old mid e → AddsNoTried old.noted.entries mid.noted.entries
step_untried disks me old mid e h = adds_one old.noted.entries mid.noted.entries e h.entries (λ tried. let event = h.enters.event in cc (event, tried))

-- what was noted of a step, and behind it by commits that failed
pub tries_look : (why : Stopped) (old mid new : List Entry) → AddsNoTried old mid → CommitsNote {T = ⊤} (Err why) mid new → TriesAtWrite (err_result why) old new
tries_look (reason.NoBlocks n) old mid new first more = adds_then old mid new first more
tries_look reason.ReadFault old mid new first more = absurd more
tries_look reason.WriteFault old mid new first more = tt

-- nothing was noted
pub tries_none : (why : Stopped) (old new : List Entry) → new ≡ old → TriesAtWrite (err_result why) old new
tries_none (reason.NoBlocks n) old new same = adds_none old new same
tries_none reason.ReadFault old new same = adds_none old new same
tries_none reason.WriteFault old new same = tt

-- where it ended well no fault came
pub no_faults : {P : Type 0} (o : Looked) → (IsErrOf (ok_look o) reason.ReadFault) ⊎ (IsErrOf (ok_look o) reason.WriteFault) → P
no_faults {P = P} o failed = elim failed as (λ _. P) [
  | inl is ↦ absurd (cc is)
  | inr is ↦ absurd (cc is)
]

-- a fault of the disk behind the step is one of the look
pub rose_behind : {D : Type 0} (faults : D → ℕ) (old mid new : Parts D) (why : Stopped) → faults old.store.disk ≤ faults mid.store.disk → faults mid.store.disk ≤ faults new.store.disk
    → IsCause faults mid new why → (IsErrOf (err_result why) reason.ReadFault) ⊎ (IsErrOf (err_result why) reason.WriteFault) → Rose (faults old.store.disk) (faults new.store.disk)
rose_behind faults old mid new (reason.NoBlocks n) before later cause failed = elim failed as (λ _. Rose (faults old.store.disk) (faults new.store.disk)) [
  | inl is ↦ absurd (cc is)
  | inr is ↦ absurd (cc is)
]
rose_behind faults old mid new reason.ReadFault before later cause failed = Rose-before (faults old.store.disk) (faults mid.store.disk) (faults new.store.disk) before later cause
rose_behind faults old mid new reason.WriteFault before later cause failed = Rose-before (faults old.store.disk) (faults mid.store.disk) (faults new.store.disk) before later cause

-- and one of the step is
pub rose_at : {D : Type 0} (disks : Ghosts D) (me : ℕ) (old new : Parts D) (why : Stopped) → HasCause disks me old new why
    → (IsErrOf (err_result why) reason.ReadFault) ⊎ (IsErrOf (err_result why) reason.WriteFault) → Rose (disks.faults old.store.disk) (disks.faults new.store.disk)
rose_at disks me old new (reason.NoBlocks n) cause failed = elim failed as (λ _. Rose (disks.faults old.store.disk) (disks.faults new.store.disk)) [
  | inl is ↦ absurd (cc is)
  | inr is ↦ absurd (cc is)
]
rose_at disks me old new reason.ReadFault cause failed = cause
rose_at disks me old new reason.WriteFault cause failed = cause

module _ {D : Type 0} (disks : Ghosts D)
    (b : Beginning) (policy : Policy) (same : b.policy ≡ policy) (me : ℕ) (old : Parts D)
    (stands : StandsAs disks b old) (calm : IsCalm b old.noted.entries) where
  -- told by what the look came to
  pub ok_stepped : (r : Result ⊤ Stopped) (y : ⊤) (m : Step) (new : Parts D) → r ≡ Ok y → LooksInRun disks b policy me r old new → LooksInRun disks b policy me (ok_look (Made m)) old new
  ok_stepped r y m new is looks =
      let l = subst (λ q. LooksInRun disks b policy me q old new) is looks in
      record { stands = l.stands; calm = l.calm; entries = l.entries; lives = tt }

  pub err_stepped : (r : Result ⊤ Stopped) (why : Stopped) (new : Parts D) → r ≡ Err why → LooksInRun disks b policy me r old new → LooksInRun disks b policy me (err_result why) old new
  err_stepped r why new is looks =
      let l = subst (λ q. LooksInRun disks b policy me q old new) is looks in
      record { stands = tt; calm = tt; entries = tt; lives = l.lives }
