use Rattle.edge_managers.specs.Managers.{counted_word}
use Rattle.plain_runs.proofs.plain_facts_lemmas.Suppliers.{sound_any}
use Rattle.test_replays.proofs.replays.Replay.step.Goals as goal

pub counted_step-requires-clause-sound : goal.counted_step-requires-clause-sound
counted_step-requires-clause-sound c = c.self.invariant.sound counted_word

pub counted_step-requires-clause-edges : goal.counted_step-requires-clause-edges
counted_step-requires-clause-edges c = c.self.invariant.edges

pub invariant_of-self : goal.invariant_of-self
invariant_of-self c = record { sound = λ t. sound_any counted_word t c.counted_step.new.state c.counted_step.ensures.sound; edges = c.counted_step.ensures.edges }
