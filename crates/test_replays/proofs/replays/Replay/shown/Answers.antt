use Rattle.edge_managers.specs.Managers.{counted_word}
use Rattle.test_replays.proofs.replays.Replay.shown.Goals as goal

pub shown_of-requires : goal.shown_of-requires
shown_of-requires c = c.self.invariant.sound counted_word
