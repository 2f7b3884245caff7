-- The search finds a region that overlaps.
use Rattle.std.proofs.Common.{◌∙◌, not, rules, tests}
use Rattle.std.proofs.lemmas.Iterator.{YieldsList-from_slice}
use Rattle.std.proofs.lemmas.Iterator.Search.{all_from_yields_List}
use Rattle.script_meaning.specs.Meaning.{overlap}
use Rattle.script_types.specs.Scripts.{region_of}
use Rattle.script_reading.specs.Views.{region_form_of}
use Rattle.script_meaning.proofs.Lists.{all_of_map}
use Rattle.script_reading.proofs.links.is_apart.Goals as goal

pub returns : goal.returns
returns c =
    let form = region_form_of c.args.words.now in
    all_from_yields_List (λ r. not (overlap form (region_of r))) _ _ _ c.all.ensures.ran (YieldsList-from_slice c.args.before.now cc) (λ x b q k. search (rules, tests))
    ∙ all_of_map (λ s. not (overlap form s)) region_of c.args.before.now
