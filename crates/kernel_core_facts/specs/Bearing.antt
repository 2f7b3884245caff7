-- The births of a script over a kernel's cells, and the Stable behind them.
use Rattle.std.specs.Prelude.{◌≡◌, ◌≢◌, ◌↔◌, ◌+◌, ◌≤◌, true, false, List, [], ◌∷◌, ◌++◌, Some, length, IfErr, IsErrOf, OnErr, OnOk, Result, ⊤}
use Rattle.edge_disk.specs.declared.disk.Disk.{Ghosts}
use Rattle.edge_disk.specs.declared.disk.NoBlocks.{NoBlocks}
use Rattle.base_types.specs.declared.histories.Entry.{Entry}
use Rattle.base_types.specs.declared.histories.Event.TheVariants.{Stable}
use Rattle.table_births.specs.model_kernel.Histories.{births_owed, mark}
use Rattle.table_births.specs.model_kernel.Scripts.{Script}
use Rattle.table_births.specs.model_kernel.Steps.{atlas_in}
use Rattle.table_births.specs.model_births.Fitting.{Fits}
use Rattle.kernel_commits.specs.model_serial.Serial.{IsBehind, opening}
use Rattle.kernel_commits.specs.model_serial_turns.Turns.{IsBearing}
use Rattle.table_births.specs.cell_states.declared.cells.Cell.{Cell}
use Rattle.kernel_commits.specs.kernel_invariant.Beginnings.{Beginning, run_of}
use Rattle.kernel_commits.specs.kernel_invariant.Live.{IsCalm}
use Rattle.table_births.specs.Births.{BearsQuietly, NoBirthLeft, atlas_state_in, count_born}
use Rattle.kernel_commits.specs.kernel_commit_facts.Parts.{LivesAs, Noted, Parts, StandsAs}
use Rattle.kernel_commits.specs.kernel_commit_facts.Lacking.{LacksIn}
use Rattle.kernel_commits.specs.kernel_commit_facts.Pieces.{StopsIn}
use Rattle.kernel_commits.specs.kernel_commit_facts.Stabilising.{AreShort, HasStabilised}
use Rattle.kernel_commits.specs.kernel_commit_facts.Steady.{IsSteady, entries_to_come}
use Rattle.kernel_commits.specs.kernel_invariant.declared.stopping.Stopped.{Stopped}
use Rattle.kernel_commits.specs.kernel_invariant.declared.stopping.Stopped.TheVariants as reason

-- ONE BIRTH of the script, with its entry noted
pub record HasBorne (script : Script) (cs cs' : List Cell) (noted noted' : Noted) : Type 0 where
  pub entry : Entry
  pub bears : BearsQuietly script cs cs' entry
  pub same : noted' ≡ record noted { entries = noted.entries ++ entry ∷ [] }

-- births of the script, one after another, with these entries
abbrev pub AreBirths : Script → List Cell → List Entry → List Cell → Type 0
AreBirths script cs [] cs' = cs' ≡ cs
AreBirths script cs (e ∷ es) cs' = (mid : List Cell) × BearsQuietly script cs mid e × AreBirths script mid es cs'

-- the births are made and noted, beside a store that stays as it is
pub record HasBorneSome {D : Type 0} (script : Script) (old new : Parts D) : Type 0 where
  pub entries : List Entry
  pub births : AreBirths script old.cells entries new.cells
  pub noted : new.noted ≡ record old.noted { entries = old.noted.entries ++ entries }
  pub store : new.store ≡ old.store

-- ALL BIRTHS that were left
pub record HasBorneAll {D : Type 0} (script : Script) (old new : Parts D) : Type 0 where
  pub made : HasBorneSome script old new
  pub none : NoBirthLeft script new.cells

-- THE OPENING, whatever the disk tells: all births that were left, and behind them the atlas's Stable, if anything is noted
pub record HasOpened {D : Type 0} (script : Script) (old new : Parts D) : Type 0 where
  pub mid : Parts D
  pub borne : HasBorneAll script old mid
  pub nothing : mid.noted.entries ≡ [] → new ≡ mid
  pub stabilised : mid.noted.entries ≢ [] → HasStabilised 0 mid new

-- THE BLOCKS ARE TOO FEW, which is told so, exactly where the Stable is made and fewer are free than its records need, behind all births;
-- then nothing else is changed
pub record IsShortBehind {D : Type 0} (script : Script) (short : NoBlocks → Type 0) (old new : Parts D) : Type 0 where
  pub mid : Parts D
  pub borne : HasBorneAll script old mid
  pub exact : (n : NoBlocks) → short n ↔ ((mid.noted.entries ≢ []) × AreShort mid n)
  pub untouched : (n : NoBlocks) → short n → new ≡ mid

-- THE KERNEL IS IN ITS BIRTHS, whatever the disk tells: it is steady, has noted no more entries than there are entities, and has the
-- room for births still
pub record IsInBirths {D : Type 0} (disks : Ghosts D) (p : Parts D) : Type 0 where
  pub steady : IsSteady disks p
  pub few : length p.noted.entries ≤ count_born (atlas_state_in p.cells)
  pub room : entries_to_come p.cells + 200 ≤ p.noted.room

-- all births were made, and a Stable of the atlas is owed, with which the opening is complete
pub record AwaitsStable (b : Beginning) (es : List Entry) : Type 0 where
  pub owed : (run_of b es).owed ≡ Some 0
  pub behind : IsBehind b.policy (run_of b es) []
  pub complete : es ++ mark Stable 0 0 ∷ [] ≡ opening b.supply b.script b.state

-- WHERE THE RUN IS: a birth is next; or none is, and their Stable is, if one was made
pub record IsAmongBirths (b : Beginning) (es : List Entry) : Type 0 where
  pub fits : Fits (atlas_in (b.state 0).cell) b.script
  pub next : births_owed b.script (run_of b es) ≡ true → IsBearing b.supply b.script b.state es
  pub over : births_owed b.script (run_of b es) ≡ false → es ≢ [] → AwaitsStable b es

module _ {D : Type 0} (disks : Ghosts D) where
  -- the kernel goes on among the births of its run
  pub record RunsInBirths (b : Beginning) (p : Parts D) : Type 0 where
    pub stands : StandsAs disks b p
    pub among : IsAmongBirths b p.noted.entries

  -- WHAT COMES OF THE OPENING in the run: the kernel goes on at rest, behind the births and their Stable; or is live where it stopped,
  -- with a part of them, and short of blocks only where the image lacks them
  pub record OpensRun (b : Beginning) (result : Result ⊤ Stopped) (new : Parts D) : Type 0 where
    pub stands : OnOk result (StandsAs disks b new)
    pub calm : OnOk result (IsCalm b new.noted.entries)
    pub complete : OnOk result (new.noted.entries ≡ opening b.supply b.script b.state)
    pub part : OnErr result (StopsIn b (opening b.supply b.script b.state) [] new.noted.entries)
    pub enough : (n : NoBlocks) → IsErrOf result (reason.NoBlocks n) → LacksIn disks b n (opening b.supply b.script b.state) [] new
    pub lives : IfErr result (λ why. LivesAs disks b new (Some why))
