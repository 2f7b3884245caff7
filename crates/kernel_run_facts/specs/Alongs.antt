-- Where a kernel whose loci are looked at in any order stands in its run.
use Rattle.std.specs.Prelude.{◌≡◌, ℕ, List, [], None, Some}
use Rattle.edge_disk.specs.declared.disk.Disk.{Ghosts}
use Rattle.edge_disk.specs.declared.disk.NoBlocks.{NoBlocks}
use Rattle.base_types.specs.declared.histories.Entry.{Entry}
use Rattle.kernel_core.specs.kernel_commit_facts.Lacking.{LacksIn}
use Rattle.kernel_core.specs.kernel_commit_facts.Parts.{Parts}
use Rattle.kernel_core.specs.kernel_commit_facts.Pieces.{StopsIn}
use Rattle.kernel_core.specs.kernel_invariant.Beginnings.{Beginning, run_of}
use Rattle.kernel_core.specs.kernel_invariant.declared.stopping.Stopped.{Stopped}
use Rattle.kernel_core.specs.kernel_invariant.declared.stopping.Stopped.TheVariants as reason
use Rattle.kernel_core.specs.model_serial.Serial.{look, opening}
use Rattle.kernel_core.specs.model_serial_turns.Turns.{HasLooked}
use Rattle.kernel_core.specs.kernel_core_facts.Kernels.{Held}

-- these entries are those of the births, and of a look at each of these loci, one behind the other
abbrev pub LooksAt : Beginning → List ℕ → List Entry → Type 0
LooksAt b looked es = HasLooked b.supply b.policy b.script b.state looked es

-- ONE PIECE MORE behind these entries: the births with their Stable, where there are none, or a look at a locus
pub data ComesNext (b : Beginning) (front all : List Entry) : Type 0 where
  Births : front ≡ [] → all ≡ opening b.supply b.script b.state → ComesNext b front all
  Look : (looked : List ℕ) → (locus : ℕ) → LooksAt b looked front → all ≡ look b.supply b.policy b.script (run_of b front) locus → ComesNext b front all

module _ {D : Type 0} (disks : Ghosts D) (b : Beginning) where
  -- THE KERNEL WAS STOPPED in a piece, of which a part came; and for want of blocks only where the image lacks them, and the next entry is short of
  -- them. Both numbers
  pub record WasStoppedIn (why : Stopped) (p : Parts D) : Type 0 where
    pub front : List Entry
    pub all : List Entry
    pub next : ComesNext b front all
    pub part : StopsIn b all front p.noted.entries
    pub enough : (n : NoBlocks) → why ≡ reason.NoBlocks n → LacksIn disks b n all front p

  -- THE KERNEL IS ALONG A SERIAL RUN: behind looks at some loci, in some order; or it was stopped in the piece behind such
  pub record IsAlong (k : Held D) : Type 0 where
    pub looks : k.stop ≡ None → (looked : List ℕ) × LooksAt b looked k.parts.noted.entries
    pub stopped : (why : Stopped) → k.stop ≡ Some why → WasStoppedIn why k.parts
