-- The names of a sound state are short.
use Rattle.plain_show.proofs.Shorts.{sound_short}
use Rattle.plain_show.proofs.shows.names_of.Goals as goal

pub returns-clause-short : goal.returns-clause-short
returns-clause-short g c = sound_short g.s c.args.state.now c.requires
