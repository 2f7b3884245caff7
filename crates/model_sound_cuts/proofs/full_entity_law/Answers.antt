use Rattle.model_sound_cuts.proofs.Cuts.{due_greatest, full_told, wish_cases}
use Rattle.model_sound_cuts.proofs.full_entity_law.Goals as goal

pub returns-clause-full : goal.returns-clause-full
returns-clause-full c s policy script w es q x k g = full_told s policy script w es k q g x

pub returns-clause-wish : goal.returns-clause-wish
returns-clause-wish c s policy script w es x k = wish_cases s policy script w es k x

pub returns-clause-due : goal.returns-clause-due
returns-clause-due c s policy script w es x k = due_greatest s policy script w es k x
