use Rattle.std.proofs.Common.{◌<◌, ap, sym, subst, ◌∙◌}
use Rattle.std.specs.Prelude.{count_by, slice_index}
use Rattle.std.proofs.lemmas.Bool.{lt-ltb, ltb-true}
use Rattle.node_shipments.specs.kernel_invariant.model_cut_laws.Records.{is_rec_from}
use Rattle.node_standby.proofs.Kept.{kept_many}
use Rattle.kernel_views.specs.store_snapshots.store_facts.State.{books}
use Rattle.node_standby.proofs.standby.has_room.Goals as goal

pub returns : goal.returns
returns g c =
    let listed = ap (count_by (is_rec_from (slice_index c.cut.result.0))) c.recs.ensures in
    let same = c.count_from-kept.ensures ∙ (listed ∙ kept_many (books c.args.store.now) c.cut.result.0 c.cut.ensures) in
    (λ t. let lt = ltb-true c.count_from-kept.result 640 t in subst (λ n. n < 640) same lt, λ lt. lt-ltb c.count_from-kept.result 640 (subst (λ n. n < 640) (sym same) lt))
