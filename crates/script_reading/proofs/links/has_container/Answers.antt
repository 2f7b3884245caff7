-- The search finds a container of the name.
use Rattle.std.proofs.Common.{◌∙◌, string_bytes, rules, tests}
use Rattle.std.proofs.lemmas.Iterator.{YieldsList-from_slice}
use Rattle.std.proofs.lemmas.Iterator.Search.{any_from_yields_List}
use Rattle.script_types.specs.model_kernel.Scripts.{ContainerTable, text_eq}
use Rattle.script_types.specs.Scripts.{container_of}
use Rattle.script_meaning.proofs.Lists.{any_of_two_maps}
use Rattle.script_reading.proofs.links.has_container.Goals as goal

pub returns : goal.returns
returns c =
    any_from_yields_List (λ t. text_eq c.args.name.now (string_bytes t.name)) _ _ _ c.any.ensures.ran (YieldsList-from_slice c.args.containers.now cc) (λ x b q k. search (rules, tests))
    ∙ any_of_two_maps (text_eq c.args.name.now) (λ (t : ContainerTable). t.name) container_of c.args.containers.now
