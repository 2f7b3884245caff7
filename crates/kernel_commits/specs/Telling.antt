-- What a kernel's call answers, and in which a Tried is noted.
use Rattle.std.specs.Prelude.{◌≡◌, ◌≢◌, List, ◌++◌, All, Option, None, Some, Ok, Err, Result}
use Rattle.base_types.specs.declared.histories.Entry.{Entry}
use Rattle.base_types.specs.declared.histories.Event.TheVariants.{Tried}
use Rattle.kernel_commits.specs.declared.stopping.Stop.{Stop}
use Rattle.kernel_commits.specs.declared.stopping.Stop.TheVariants as stop
use Rattle.kernel_commit_facts.specs.kernel_invariant.declared.stopping.Stopped.{Stopped}
use Rattle.kernel_commit_facts.specs.kernel_invariant.declared.stopping.Stopped.TheVariants as reason

-- what the call that stopped the kernel answers
abbrev pub told : Stopped → Stop
told (reason.NoBlocks n) = stop.NoBlocks n
told reason.ReadFault = stop.ReadFault
told reason.WriteFault = stop.WriteFault

-- WHAT EACH LATER CALL ANSWERS: the same numbers, or that the kernel is shut by a fault of the disk
abbrev pub told_again : Stopped → Stop
told_again (reason.NoBlocks n) = stop.NoBlocks n
told_again reason.ReadFault = stop.Shut
told_again reason.WriteFault = stop.Shut

abbrev pub told_by : {T : Type 0} → Result T Stopped → Result T Stop
told_by (Ok y) = Ok y
told_by (Err why) = Err (told why)

-- AS A CALL ANSWERS, SO THE KERNEL STANDS: it goes on, or has stopped for what is told; Shut comes of no call that stops it
abbrev pub Tells : {T : Type 0} → Result T Stop → Option Stopped → Type 0
Tells (Ok y) kept = kept ≡ None
Tells (Err (stop.Idle why)) kept = kept ≡ None
Tells (Err (stop.NoBlocks n)) kept = kept ≡ Some (reason.NoBlocks n)
Tells (Err stop.ReadFault) kept = kept ≡ Some reason.ReadFault
Tells (Err stop.WriteFault) kept = kept ≡ Some reason.WriteFault
Tells (Err stop.Shut) kept = ⊥

-- of a call that makes records alone: want of blocks, or a write that failed, of which this holds
abbrev pub FailsByWrite : Type 0 → Stop → Type 0
FailsByWrite P (stop.Idle why) = ⊥
FailsByWrite P (stop.NoBlocks n) = Unit {0}
FailsByWrite P stop.ReadFault = ⊥
FailsByWrite P stop.WriteFault = P
FailsByWrite P stop.Shut = ⊥

-- of a step, too: a read or a write that failed, of which this holds
abbrev pub FailsByDisk : Type 0 → Stop → Type 0
FailsByDisk P (stop.Idle why) = Unit {0}
FailsByDisk P (stop.NoBlocks n) = Unit {0}
FailsByDisk P stop.ReadFault = P
FailsByDisk P stop.WriteFault = P
FailsByDisk P stop.Shut = ⊥

-- what came behind the old history has no Tried
pub record AddsNoTried (old new : List Entry) : Type 0 where
  pub part : List Entry
  pub entries : new ≡ old ++ part
  pub untried : All (λ (e : Entry). e.event ≢ Tried) part

-- WHAT COMMITS NOTE: a Tried only where a write failed, and they read nothing
abbrev pub CommitsNote : {T : Type 0} → Result T Stopped → List Entry → List Entry → Type 0
CommitsNote (Ok y) old new = AddsNoTried old new
CommitsNote (Err (reason.NoBlocks n)) old new = AddsNoTried old new
CommitsNote (Err reason.ReadFault) old new = ⊥
CommitsNote (Err reason.WriteFault) old new = Unit {0}

-- A TRIED IS NOTED ONLY where a write failed
abbrev pub TriesAtWrite : {T : Type 0} → Result T Stopped → List Entry → List Entry → Type 0
TriesAtWrite (Ok y) old new = AddsNoTried old new
TriesAtWrite (Err (reason.NoBlocks n)) old new = AddsNoTried old new
TriesAtWrite (Err reason.ReadFault) old new = AddsNoTried old new
TriesAtWrite (Err reason.WriteFault) old new = Unit {0}

-- the same of what is answered
abbrev pub TriesByAnswer : {T : Type 0} → Result T Stop → List Entry → List Entry → Type 0
TriesByAnswer (Ok y) old new = AddsNoTried old new
TriesByAnswer (Err (stop.Idle why)) old new = AddsNoTried old new
TriesByAnswer (Err (stop.NoBlocks n)) old new = AddsNoTried old new
TriesByAnswer (Err stop.ReadFault) old new = AddsNoTried old new
TriesByAnswer (Err stop.WriteFault) old new = Unit {0}
TriesByAnswer (Err stop.Shut) old new = AddsNoTried old new
