use Rattle.std.proofs.Common.{sym, ap, ◌∙◌}
use Rattle.act_invoke.specs.model_kernel.Outcomes.{unmap}
use Rattle.act_invoke.specs.act_alone.Loci.{locus_of, container_with}
use Rattle.act_invoke.proofs.Entered.{instr_is}
use Rattle.act_calls.specs.Calls.{is_unmap, atlas_state}
use Rattle.act_calls.proofs.BirthLemmas.{atlas_as}
use Rattle.act_calls.proofs.MapLemmas.{unmap_shape, unmap_made}
use Rattle.act_calls.proofs.mappings.unmap.Goals as goal

pub unreachable-requires : goal.unreachable-requires
unreachable-requires c =
    let l = locus_of c.args.locus.now in
    unmap_shape c.args.instr (ap is_unmap c.requires.instr ∙ instr_is is_unmap l c.args.number c.requires.wants) (λ d a. c.in_default.not-Unmap d a)

pub returns : goal.returns
returns c me s words =
    let l = locus_of c.args.locus.now in
    let a = atlas_state c.args.atlas.now in
    let h = container_with words c.args.from.now in
    let i = c.in-Unmap in
    let is = sym c.requires.instr ∙ i.is in
    atlas_as _ _ _ _ _ _ _ (unmap_made l c.args.number i.field-0 i.a c.requires.wants is me s a h ∙ ap (unmap l a c.args.number h) (sym c.register-page.ensures)) (c.unmap_at.ensures words)
