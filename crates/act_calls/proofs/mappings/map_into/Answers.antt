use Rattle.std.proofs.Common.{◌+◌, List, refl, sym, ap, ◌∙◌}
use Rattle.base_types.specs.declared.capabilities.Region.{Region}
use Rattle.base_types.specs.declared.instructions.Reply.TheVariants.{NoPage, Overlap, Circle, ListFull}
use Rattle.act_invoke.specs.model_kernel.State.{ContainerCell}
use Rattle.act_invoke.specs.model_kernel.Outcomes.{edge_put}
use Rattle.act_invoke.specs.model_kernel.Words.{insert_region}
use Rattle.act_invoke.specs.act_alone.Loci.{locus_of, container_with}
use Rattle.act_calls.specs.Calls.{atlas_state}
use Rattle.act_calls.proofs.BirthLemmas.{atlas_refused}
use Rattle.act_calls.proofs.MapLemmas.{map_past, map_meets, map_circle, map_full, map_done, closes, stays_open, no_path, never_err, has_room, is_filled, added, edge_state, atlas_done}
use Rattle.act_calls.proofs.mappings.map_into.Goals as goal

pub returns-then-region-into : goal.returns-then-region-into
returns-then-region-into c words =
    let l = locus_of c.args.locus.now in
    let a = atlas_state c.args.atlas.now in
    let h = container_with words c.args.into.now in
    atlas_refused _ l _ NoPage _ a a _ (map_past l a c.args.number h c.args.region c.if-region-into.true) c.reply_with.ensures.locus c.reply_with.ensures.reply refl

pub returns-then-overlaps : goal.returns-then-overlaps
returns-then-overlaps c words =
    let l = locus_of c.args.locus.now in
    let a = atlas_state c.args.atlas.now in
    let h = container_with words c.args.into.now in
    atlas_refused _ l _ Overlap _ a a _ (map_meets l a c.args.number h c.args.region c.if-region-into.false (sym c.overlaps.ensures ∙ c.if-overlaps.true)) c.reply_with-then-overlaps.ensures.locus c.reply_with-then-overlaps.ensures.reply refl

pub returns-then-closes_circle : goal.returns-then-closes_circle
returns-then-closes_circle c words =
    let l = locus_of c.args.locus.now in
    let a = atlas_state c.args.atlas.now in
    let h = container_with words c.args.into.now in
    let r = c.args.region in
    let path = closes c.args.atlas.now c.args.number r.target c.closes_circle.result c.closes_circle.ensures.inside c.if-closes_circle.true c.closes_circle.ensures.circle in
    atlas_refused _ l _ Circle _ a a _ (map_circle l a c.args.number h r c.if-region-into.false (sym c.overlaps.ensures ∙ c.if-overlaps.false) path) c.reply_with-then-closes_circle.ensures.locus c.reply_with-then-closes_circle.ensures.reply refl

pub returns-then-is_full : goal.returns-then-is_full
returns-then-is_full c words =
    let l = locus_of c.args.locus.now in
    let a = atlas_state c.args.atlas.now in
    let h = container_with words c.args.into.now in
    let r = c.args.region in
    let free = stays_open c.args.atlas.now c.args.number r.target c.closes_circle.result c.if-closes_circle.false c.closes_circle.ensures.open in
    let none = no_path c.args.atlas.now c.args.number r.target c.closes_circle.ensures.inside free in
    atlas_refused _ l _ ListFull _ a a _ (map_full l a c.args.number h r c.if-region-into.false (sym c.overlaps.ensures ∙ c.if-overlaps.false) none (is_filled _ c.is_full.result c.if-is_full.true c.is_full.ensures.full))
    c.reply_with-then-is_full.ensures.locus c.reply_with-then-is_full.ensures.reply refl

pub returns : goal.returns
returns c words =
    let l = locus_of c.args.locus.now in
    let a = atlas_state c.args.atlas.now in
    let h = container_with words c.args.into.now in
    let r = c.args.region in
    let apart = sym c.overlaps.ensures ∙ c.if-overlaps.false in
    let free = stays_open c.args.atlas.now c.args.number r.target c.closes_circle.result c.if-closes_circle.false c.closes_circle.ensures.open in
    let none = no_path c.args.atlas.now c.args.number r.target c.closes_circle.ensures.inside free in
    let few = has_room _ c.is_full.result c.if-is_full.false c.is_full.ensures.full c.is_full.ensures.few in
    let names = never_err c.link-linked.result c.link-linked.ensures.circle free c.link-linked.ensures.ok in
    let edges = never_err c.link-linked.result c.link-linked.ensures.circle free c.link-linked.ensures.edge in
    let regions = added r h.regions c.add-added.new.self c.add-added.result apart few c.add-added.ensures.answer c.add-added.ensures.ok in
    atlas_done _ l _ _ (edge_put a c.args.number r.target (a.edges c.args.number r.target + 1)) _ (ContainerCell (record h { regions = insert_region r h.regions })) _ (map_done l a c.args.number h r c.if-region-into.false apart none few)
    c.reply_with-2.ensures.locus c.reply_with-2.ensures.reply (edge_state c.args.atlas.now c.link-linked.new.self c.args.number r.target _ names edges) (ap (λ (q : List Region). ContainerCell (record h { regions = q })) regions)
