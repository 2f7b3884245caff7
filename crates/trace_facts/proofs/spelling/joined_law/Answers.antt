-- Piece by piece.
use Rattle.trace_facts.proofs.Joined.{spelled-append}
use Rattle.trace_facts.proofs.spelling.joined_law.Goals as goal

pub returns : goal.returns
returns c = spelled-append
