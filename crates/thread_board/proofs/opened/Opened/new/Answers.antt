use Rattle.thread_board.proofs.Splitting.{begins}
use Rattle.thread_board.proofs.opened.Opened.new.Goals as goal

pub of_words-requires : goal.of_words-requires
of_words-requires g c = begins g.C.Line.stops
