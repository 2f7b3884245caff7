-- Regions that cover a page.
use Rattle.std.proofs.Common.{◌≡◌, Bool, true, false, None, refl}
use Rattle.model_acts.specs.base_types.declared.instructions.Reply.{Reply}
use Rattle.model_sound_steps.specs.model_kernel.Words.{unless}

-- a test that doesn't refuse holds
pub passes : (b : Bool) (why : Reply) → unless b why ≡ None → b ≡ true
passes true why e = refl
passes false why e = cc
