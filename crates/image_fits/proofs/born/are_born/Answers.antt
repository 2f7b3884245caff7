use Rattle.blob_atlas.specs.act_calls.Calls.{atlas_state}
use Rattle.std.proofs.Common.{sym, ap, ◌∙◌, subst, Bool}
use Rattle.std.specs.Prelude.{◌↔◌, IsTrue}
use Rattle.std.specs.List.{list_all}
use Rattle.image_fit_facts.specs.image_meaning.Fits.{NamesBorn}
use Rattle.image_fit_facts.specs.Ties.{slot_born}
use Rattle.image_fit_facts.proofs.Naming.{named_all}
use Rattle.image_fits.proofs.born.are_born.Goals as goal

pub returns : goal.returns
returns c =
    let a = atlas_state c.args.atlas.now in
    subst (λ (b : Bool). IsTrue b ↔ NamesBorn a c.args.caps.now) (sym (c.all_born.ensures ∙ ap (list_all (slot_born a)) c.slots.ensures.all)) (named_all a c.args.caps.now)
