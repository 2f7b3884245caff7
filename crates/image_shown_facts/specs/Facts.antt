-- What the facts of an image say.
use Rattle.std.specs.Prelude.{ℕ, List}
use Rattle.edge_disk.specs.Image.{Image}
use Rattle.image_plain.specs.plain_states.Events.{Has}
use Rattle.image_plain.specs.plain_states.Plains.{cells_of}
use Rattle.image_plain.specs.plain_states.declared.plain.Plain.{Plain}
use Rattle.image_facts.specs.model_kernel.State.{KernelState, Supply}
use Rattle.image_state_laws.specs.image_meaning.Meaning.{Means}

-- THE IMAGE IS ACCEPTED, and means a state with these cells and versions
pub record MeansState (s : Supply) (image : Image) (plain : Plain) (versions : List ℕ) : Type 0 where
  pub state : KernelState
  pub means : Means s image state
  pub has : Has state (cells_of s plain) versions
