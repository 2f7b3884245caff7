use Rattle.plain_steps.specs.model_kernel.Soundness.{IsSound}
use Rattle.plain_states.specs.Born.{AreEdges}
use Rattle.plain_states.specs.Plains.{cells_of}
use Rattle.test_plain.proofs.history_model_tests.last_answer.Given as goal

abbrev pub invariant-loop : goal.invariant-loop
invariant-loop g l = record { sound : IsSound (cells_of (λ tag page place. 0) l.state); edges : AreEdges l.state.atlas.edges.items }
