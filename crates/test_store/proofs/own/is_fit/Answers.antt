use Rattle.std.proofs.Common.{◌≡◌, ◌<◌, List, sym, ap, subst, ◌∙◌, arith}
use Rattle.std.specs.Prelude.{All, slice_index}
use Rattle.std.proofs.lemmas.Bool.{ltb-true}
use Rattle.base_types.specs.declared.records.Rec.{Rec}
use Rattle.store_snapshots.specs.store_facts.State.{books}
use Rattle.test_store.proofs.Kept.{kept_many}
use Rattle.test_store.proofs.own.is_fit.Goals as goal

pub returns : goal.returns
returns g c is = record {
  blob_is = (let len = c.len.ensures.len in let some = c.if-len-eq0.false in omega (arith, len, some));
  own = ap (slice_index c.args.stamp.now) (sym c.number.ensures.number) ∙ c.if-stamp-number.false;
  newer = (
    (let some = c.if-version-eq0.false in omega (arith, some)),
    subst (λ (rs : List Rec). All (λ r. r.entity ≡ c.args.entity → r.version < c.args.version) rs) c.recs-2.ensures (c.is_newer.ensures c.if-not-is_newer.false),
  );
  room =
      (let many = kept_many (books c.args.store.now) c.cut-cut.result.0 c.recs.result.now c.count_kept-kept.result c.recs.ensures c.cut-cut.ensures c.count_kept-kept.ensures in
      let low = ltb-true c.count_kept-kept.result 640 is in
      omega (arith, many, low));
}
