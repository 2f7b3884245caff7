use Rattle.std.proofs.Common.{◌-◌, ◌<◌, not, List, Some, filter, find, refl, sym, ap, ◌∙◌, subst}
use Rattle.base_types.specs.declared.capabilities.Region.{Region}
use Rattle.base_types.specs.declared.instructions.Reply.TheVariants.{NoRegion}
use Rattle.act_invoke.specs.model_kernel.State.{ContainerCell}
use Rattle.act_invoke.specs.model_kernel.Outcomes.{edge_put, with_atlas}
use Rattle.act_invoke.specs.data_regions.Regions.{begins_at}
use Rattle.act_invoke.specs.act_alone.Loci.{locus_of, container_with}
use Rattle.act_calls.specs.Calls.{atlas_state}
use Rattle.act_calls.proofs.BirthLemmas.{atlas_refused}
use Rattle.act_calls.proofs.CallLemmas.{on_err}
use Rattle.act_calls.proofs.MapLemmas.{unmap_none, unmap_some, ok_none, ok_some, done_at, found_counted, edge_state, atlas_done}
use Rattle.act_calls.proofs.mappings.unmap_at.Goals as goal

pub returns-in_default : goal.returns-in_default
returns-in_default c words =
    let l = locus_of c.args.locus.now in
    let a = atlas_state c.args.atlas.now in
    let h = container_with words c.args.from.now in
    let none = ok_none (find (begins_at c.args.page) h.regions) NoRegion c.remove.result c.remove.ensures.answer c.in_default.not-Ok in
    let same = on_err c.remove.result c.in_default.not-Ok c.remove.ensures.refused in
    atlas_refused _ l _ NoRegion _ a a _ (unmap_none l a c.args.number h c.args.page none ∙ ap (λ (q : List Region). with_atlas l NoRegion a (Some (ContainerCell (record h { regions = q })))) (sym same)) c.reply_with.ensures.locus c.reply_with.ensures.reply refl

pub unlink-requires : goal.unlink-requires
unlink-requires c =
    let rs = c.args.from.now.regions in
    let r = c.in-Ok.region in
    let some = ok_some (find (begins_at c.args.page) rs) NoRegion c.remove.result r c.remove.ensures.answer c.in-Ok.is in
    subst (λ n. 0 < n) (sym (c.requires.counted r.target)) (found_counted c.args.page rs r some)

pub returns : goal.returns
returns c words =
    let l = locus_of c.args.locus.now in
    let a = atlas_state c.args.atlas.now in
    let h = container_with words c.args.from.now in
    let r = c.in-Ok.region in
    let some = ok_some (find (begins_at c.args.page) h.regions) NoRegion c.remove.result r c.remove.ensures.answer c.in-Ok.is in
    let regions = done_at c.remove.result r c.in-Ok.is c.remove.ensures.ok in
    atlas_done _ l _ _ (edge_put a c.args.number r.target (a.edges c.args.number r.target - 1)) _ (ContainerCell (record h { regions = filter (λ s. not (begins_at c.args.page s)) h.regions })) _ (unmap_some l a c.args.number h c.args.page r some)
    c.reply_with-2.ensures.locus c.reply_with-2.ensures.reply (edge_state c.args.atlas.now c.unlink.new.self c.args.number r.target _ c.unlink.ensures.count c.unlink.ensures.edge) (ap (λ (q : List Region). ContainerCell (record h { regions = q })) regions)
