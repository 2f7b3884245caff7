use Rattle.std.proofs.Common.{is_some, ap, ◌∙◌}
use Rattle.act_atlas_laws.proofs.NameLaws.{numbers_same}
use Rattle.script_fits.proofs.names.is_known.Goals as goal

pub returns : goal.returns
returns c = c.is_some.ensures ∙ ap is_some (c.find.ensures ∙ numbers_same c.args.atlas.now c.args.name.now)
