use Rattle.std.proofs.Common.{sym, ap, ◌∙◌, subst, Bool, ◌&&◌}
use Rattle.std.specs.Prelude.{◌↔◌, IsTrue}
use Rattle.std.specs.List.{list_all}
use Rattle.base_types.specs.declared.capabilities.Region.{Region}
use Rattle.act_alone.specs.model_kernel.Soundness.{is_born_container}
use Rattle.image_fit_facts.specs.image_meaning.Fits.{IsTiedContainer}
use Rattle.blob_atlas.specs.act_calls.Calls.{atlas_state}
use Rattle.act_alone.specs.Loci.{container_with}
use Rattle.image_fits.specs.Chosen.{no_words}
use Rattle.image_fit_facts.proofs.Naming.{tied_container}
use Rattle.image_fits.proofs.ties.ties_container.Goals as goal

pub returns : goal.returns
returns c =
    let a = atlas_state c.args.atlas.now in
    let state = container_with no_words c.args.head.now in
    let named = c.are_born-named.result in
    subst (λ (b : Bool). IsTrue (b && named) ↔ IsTiedContainer a state)
    (sym (c.all_shown-shown.ensures ∙ ap (list_all (λ (r : Region). is_born_container a r.target)) c.as_slice.ensures.all))
    (tied_container a state named c.are_born-named.ensures)
