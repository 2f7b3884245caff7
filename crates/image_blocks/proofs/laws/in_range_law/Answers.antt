use Rattle.image_blocks.proofs.Ranges.{ascending_law, in_range_law}
use Rattle.image_blocks.proofs.laws.in_range_law.Goals as goal

pub returns-clause-range : goal.returns-clause-range
returns-clause-range c = in_range_law

pub returns-clause-ascending : goal.returns-clause-ascending
returns-clause-ascending c = ascending_law
