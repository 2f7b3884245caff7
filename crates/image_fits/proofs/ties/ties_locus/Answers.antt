use Rattle.std.proofs.Common.{ap, ◌∙◌}
use Rattle.std.specs.List.{list_all}
use Rattle.blob_atlas.specs.act_calls.Calls.{atlas_state}
use Rattle.act_alone.specs.Loci.{locus_of}
use Rattle.image_fit_facts.proofs.Naming.{is_called, is_private, tied_locus_by}
use Rattle.image_fits.proofs.ties.ties_locus.Goals as goal

pub returns : goal.returns
returns c =
    let a = atlas_state c.args.atlas.now in
    tied_locus_by a (locus_of c.args.locus.now) _ _ _ _ _ c.is_born_container-hosted.ensures
    (c.all_called-called.ensures ∙ ap (list_all (is_called a)) c.as_slice.ensures.calls)
    (c.all_private-private.ensures ∙ ap (list_all (is_private a)) c.as_slice-2.ensures.privates)
    c.are_born-named.ensures c.ties_walk-walking.ensures
