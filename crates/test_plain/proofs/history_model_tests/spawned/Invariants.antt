use Rattle.plain_steps.specs.model_kernel.Soundness.{IsSound}
use Rattle.plain_steps.specs.model_kernel.State.{Supply}
use Rattle.plain_states.specs.Born.{AreEdges}
use Rattle.plain_states.specs.Plains.{cells_of}
use Rattle.test_plain.proofs.history_model_tests.spawned.Given as goal

abbrev pub invariant-loop-name : goal.invariant-loop-name
invariant-loop-name g l = record { sound : (s : Supply) → IsSound (cells_of s l.state); edges : AreEdges l.state.atlas.edges.items }
