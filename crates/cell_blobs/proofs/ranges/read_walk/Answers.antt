use Rattle.std.proofs.Common.{◌<◌, ◌^◌, sym, subst, ◌∙◌}
use Rattle.base_types.specs.declared.instructions.Walk.{Walk}
use Rattle.cell_blobs.proofs.ranges.read_walk.Goals as goal
use Rattle.std.proofs.lemmas.Option.{same_Some}

pub returns-in-Some : goal.returns-in-Some
returns-in-Some c x e = subst (λ (w : Walk). w.address < 2 ^ 64) (same_Some _ _ (sym c.in-Some.is ∙ e)) c.fits_word.ensures
