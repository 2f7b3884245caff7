use Rattle.std.proofs.Common.{string_bytes, ◌∙◌}
use Rattle.hopper_top.specs.Leaving.{workers_word}
use Rattle.hopper_top.proofs.Serial.{any_in_map}
use Rattle.hopper_top.proofs.serving.has_workers.Goals as goal

pub returns : goal.returns
returns c = c.any_is_workers.ensures ∙ any_in_map workers_word string_bytes c.args.words.now
