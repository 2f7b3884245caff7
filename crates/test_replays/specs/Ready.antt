-- A plain state from which events can be made.
use Rattle.script_types.specs.model_kernel.Soundness.{IsSound}
use Rattle.script_types.specs.model_kernel.State.{Supply}
use Rattle.plain_states.specs.Born.{AreEdges}
use Rattle.plain_states.specs.Plains.{cells_of}
use Rattle.plain_states.specs.declared.plain.Plain.{Plain}

-- it is sound, whatever the supplier, and its edges ascend
pub record IsReady (p : Plain) : Type 0 where
  pub sound : (s : Supply) → IsSound (cells_of s p)
  pub edges : AreEdges p.atlas.edges.items
