use Rattle.std.proofs.Common.{sym, ◌∙◌}
use Rattle.model_acts.specs.Views.{view_of}
use Rattle.model_acts.proofs.Shown.{private_shows}
use Rattle.model_acts.proofs.looks.next_address.Goals as goal

pub moved-requires : goal.moved-requires
moved-requires c = private_shows (view_of c.args.l.now) _ c.in-Some-private_at.p c.requires.privates (sym c.private_at.ensures ∙ c.in-Some-private_at.is)
