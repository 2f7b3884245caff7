-- What outlives the loss of the first node.
use Rattle.std.specs.Prelude.{◌≡◌, ℕ, ◌≤◌, List, filter}
use Rattle.edge_disk.specs.Image.{Image}
use Rattle.base_types.specs.declared.histories.Entry.{Entry}
use Rattle.node_shipments.specs.kernel_invariant.Beginnings.{Beginning, state_after}
use Rattle.node_shipments.specs.kernel_invariant.image_meaning.Meaning.{Means}
use Rattle.node_shipments.specs.kernel_invariant.model_kernel.Histories.{event_of}
use Rattle.node_shipments.specs.kernel_invariant.model_kernel.Parts.{after, is_event, part_of}
use Rattle.node_shipments.specs.kernel_invariant.model_kernel.State.{KernelState}

-- THE IMAGE MEANS a state of the run in which all that the front holds has happened: that of a part that has each event of the front, and of each
-- entity at least its version there
pub record Outlives (b : Beginning) (es fs : List Entry) (c : Image) : Type 0 where
  pub state : KernelState
  pub means : Means b.supply c state
  pub cut : ℕ → ℕ
  pub part : state ≡ after (event_of b.supply b.script) b.state (part_of cut es)
  pub events : part_of cut fs ≡ filter (λ f. is_event f.event) fs
  pub versions : (x : ℕ) → (state_after b fs x).version ≤ cut x
