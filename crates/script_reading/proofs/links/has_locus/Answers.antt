-- The search finds a locus of the name.
use Rattle.std.proofs.Common.{◌∙◌, string_bytes, rules, tests}
use Rattle.std.proofs.lemmas.Iterator.{YieldsList-from_slice}
use Rattle.std.proofs.lemmas.Iterator.Search.{any_from_yields_List}
use Rattle.script_types.specs.model_kernel.Scripts.{LocusTable, text_eq}
use Rattle.script_types.specs.Scripts.{locus_of}
use Rattle.script_meaning.proofs.Lists.{any_of_two_maps}
use Rattle.script_reading.proofs.links.has_locus.Goals as goal

pub returns : goal.returns
returns c =
    any_from_yields_List (λ t. text_eq c.args.name.now (string_bytes t.name)) _ _ _ c.any.ensures.ran (YieldsList-from_slice c.args.loci.now cc) (λ x b q k. search (rules, tests))
    ∙ any_of_two_maps (text_eq c.args.name.now) (λ (t : LocusTable). t.name) locus_of c.args.loci.now
