use Rattle.std.proofs.Common.{◌≡◌, ◌<◌, Some, None, sym, subst, ◌∙◌, arith}
use Rattle.std.specs.List.{All}
use Rattle.std.proofs.lemmas.List.{take_all}
use Rattle.std.proofs.lemmas.List.Elements.{All-more}
use Rattle.base_types.specs.declared.capabilities.Cap.{Cap}
use Rattle.cell_blobs.specs.Ranges.{HasByteRights}
use Rattle.cell_blobs.proofs.ranges.read_rights.Goals.{in-Some, in-None}
use Rattle.cell_blobs.proofs.ranges.read_rights.Goals as goal
use Rattle.std.proofs.lemmas.Option.{same_Some}

pub loop-held-preserved : goal.loop-held-preserved
loop-held-preserved c =
    All-more HasByteRights c.args.caps.now c.loop-held.held-index c.held-item.result c.loop-held-test.true c.loop-held.invariant (elim c.match-held.branch [
      | in-Some w ↦ λ x e. subst (λ (k : Cap). k.rights.0 < 256) (same_Some _ _ (sym w.in-Some.is ∙ c.held-item.is ∙ e)) w.fits_byte.ensures
      | in-None w ↦ λ x e. (let clash : None ≡ Some x = sym w.in-None.is ∙ c.held-item.is ∙ e in absurd (cc clash))
    ])

pub returns : goal.returns
returns c = subst (All HasByteRights) (take_all c.loop-held.held-index c.args.caps.now (let past = c.loop-held-test.false in omega (arith, past))) c.loop-held.invariant
