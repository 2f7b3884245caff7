use Rattle.trace_own_laws.proofs.Feeds.{count_feeds}
use Rattle.trace_own_laws.proofs.line_count_law.Goals as goal

pub returns : goal.returns
returns c = count_feeds
