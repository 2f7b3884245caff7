use Rattle.thread_ties.proofs.Giving.{begins}
use Rattle.thread_ties.proofs.opened.Opened.new.Goals as goal

pub of_words-requires : goal.of_words-requires
of_words-requires g c = begins
