-- The search finds a known name.
use Rattle.std.proofs.Common.{◌∙◌, rules, tests}
use Rattle.std.proofs.lemmas.Iterator.{YieldsList-from_slice}
use Rattle.std.proofs.lemmas.Iterator.Search.{any_from_yields_List}
use Rattle.script_types.specs.model_kernel.Scripts.{text_eq}
use Rattle.script_meaning.proofs.Lists.{any_of_map}
use Rattle.script_reading.proofs.fields.is_key.Goals as goal

pub returns : goal.returns
returns c =
    any_from_yields_List (λ known. text_eq c.args.name.now known.now) _ _ _ c.any.ensures.ran (YieldsList-from_slice c.args.names.now cc) (λ x b q k. search (rules, tests))
    ∙ any_of_map (text_eq c.args.name.now) (λ known. known.now) c.args.names.now
