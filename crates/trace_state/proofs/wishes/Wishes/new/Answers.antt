-- A list of one mark has it everywhere.
use Rattle.std.proofs.Common.{false}
use Rattle.data_stamps.proofs.Blanks.{get_or-replicate_all}
use Rattle.trace_state.proofs.wishes.Wishes.new.Goals as goal

pub returns-clause-by_step : goal.returns-clause-by_step
returns-clause-by_step c = λ x. get_or-replicate_all 64 x false

pub returns-clause-asked : goal.returns-clause-asked
returns-clause-asked c = λ x. get_or-replicate_all 64 x false

pub returns-clause-was_full : goal.returns-clause-was_full
returns-clause-was_full c = λ x. get_or-replicate_all 64 x false

pub returns-clause-full : goal.returns-clause-full
returns-clause-full c = λ x. get_or-replicate_all 64 x false
