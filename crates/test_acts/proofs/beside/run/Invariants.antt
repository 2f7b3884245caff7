use Rattle.plain_states.specs.model_kernel.Soundness.{IsSound}
use Rattle.plain_states.specs.Born.{AreEdges}
use Rattle.plain_states.specs.Plains.{cells_of}
use Rattle.test_acts.proofs.beside.run.Given as goal

abbrev pub invariant-loop-n : goal.invariant-loop-n
invariant-loop-n g l = record { sound : IsSound (cells_of (λ tag page place. tag) l.state); edges : AreEdges l.state.atlas.edges.items }
