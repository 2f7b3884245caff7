-- A kernel behind looks at some loci.
use Rattle.std.specs.Prelude.{◌≡◌, ◌∷◌, ◌++◌, ℕ, List, Option, None, Some, Result}
use Rattle.std.specs.Result.{result_err}
use Rattle.edge_disk.specs.declared.disk.Disk.{Ghosts}
use Rattle.base_types.specs.declared.histories.Entry.{Entry}
use Rattle.thread_stables.specs.kernel_core_facts.Kernels.{Held, Lives}
use Rattle.thread_desk.specs.kernel_core.kernel_invariant.Beginnings.{Beginning}
use Rattle.thread_desk.specs.kernel_core.kernel_invariant.declared.stopping.Stopped.{Stopped}
use Rattle.thread_stables.specs.kernel_core_facts.declared.looked.Looked.{Looked}
use Rattle.thread_desk.specs.Alongs.{ComesNext, LooksAt, WasStoppedIn}

-- why the kernel has stopped behind what came of a look; it goes on where none was made
abbrev pub stop_in : Option (Result Looked Stopped) → Option Stopped
stop_in None = None
stop_in (Some came) = result_err came

-- the piece that comes next is the births, or it is the look at one of these loci, behind the looks at those before it
abbrev pub IsOneOf : {b : Beginning} {front all : List Entry} → List ℕ → ComesNext b front all → Type 0
IsOneOf looked (ComesNext.Births empty is) = Unit {0}
IsOneOf looked (ComesNext.Look before locus at is) = (later : List ℕ) × (looked ≡ before ++ locus ∷ later)

-- THE KERNEL IS BEHIND LOOKS at these loci, one after another: it is live, so that its history is legal; while it goes on its history is the births
-- with their Stable and a look at each of these; and where it was stopped, it was in one of these pieces, behind exactly those before it
pub record IsBehindLooks {D : Type 0} (disks : Ghosts D) (b : Beginning) (looked : List ℕ) (k : Held D) : Type 0 where
  pub lives : Lives disks b k
  pub looks : k.stop ≡ None → LooksAt b looked k.parts.noted.entries
  pub stopped : (why : Stopped) → k.stop ≡ Some why → (s : WasStoppedIn disks b why k.parts) × IsOneOf looked s.next
