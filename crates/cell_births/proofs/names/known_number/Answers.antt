use Rattle.std.proofs.Common.{Some, unwrap_or, if◌then◌else◌, ap, ◌∙◌}
use Rattle.script_types.specs.model_kernel.Scripts.{number_of}
use Rattle.script_fits.specs.act_calls.Calls.{atlas_state}
use Rattle.script_fits.proofs.act_atlas_laws_lemmas.NameLaws.{numbers_same}
use Rattle.cell_births.proofs.names.known_number.Goals as goal

pub returns : goal.returns
returns c =
    let a = atlas_state c.args.atlas.now in
    let name = c.args.name.now in
    c.unwrap_or.ensures ∙ ap (λ o. unwrap_or o 0) (c.find.ensures ∙ numbers_same c.args.atlas.now name ∙ ap (λ b. if b then Some c.args.newborn else number_of a name) c.if-is_same.ensures)
