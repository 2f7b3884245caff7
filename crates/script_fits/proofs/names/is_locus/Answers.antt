use Rattle.std.proofs.Common.{◌≡◌, Some, sym, ap, ◌∙◌}
use Rattle.script_types.specs.model_kernel.Scripts.{number_of}
use Rattle.act_atlas_laws.specs.act_calls.Calls.{atlas_state}
use Rattle.act_atlas_laws.proofs.NameLaws.{numbers_same}
use Rattle.act_atlas_laws.proofs.ByKind.{locus_test, no_locus}
use Rattle.script_fits.proofs.names.is_locus.Goals as goal

pub returns-in-Some : goal.returns-in-Some
returns-in-Some c =
    let d = c.args.atlas.now in
    let name = c.args.name.now in
    let n = c.number.result in
    let at : number_of (atlas_state d) name ≡ Some n = sym (numbers_same d name) ∙ sym c.find.ensures ∙ c.in-Some.is ∙ ap Some (sym c.number.ensures.number) in
    sym (locus_test d name n c.requires at)

pub returns-in-None : goal.returns-in-None
returns-in-None c =
    let d = c.args.atlas.now in
    let name = c.args.name.now in
    sym (no_locus d name c.requires (sym (numbers_same d name) ∙ sym c.find.ensures ∙ c.in-None.is))
