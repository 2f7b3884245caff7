use Rattle.std.proofs.Common.{◌≡◌, ◌≤◌, List, [], ◌∷◌, length, Result, Ok, Err, IfOk, refl, subst, arith, rules}
use Rattle.base_types.specs.declared.records.Rec.{Rec}
use Rattle.edge_disk.specs.Image.{Image}
use Rattle.kernel_views.specs.store_snapshots.store_facts.image_blocks.Logs.{HasRecords}
use Rattle.node_standby.proofs.standby.Standby.open.Goals as goal

any_ok : {T E : Type 0} {P : Type 0} (r : Result T E) → P → IfOk r (λ _. P)
any_ok (Ok x) p = p
any_ok (Err e) p = tt

no_items : (recs : List Rec) → length recs ≤ 0 → recs ≡ []
no_items [] le = refl
no_items (r ∷ recs) le = absurd (omega (arith, le))

pub returns-then-used-gt0-clause-cause : goal.returns-then-used-gt0-clause-cause
returns-then-used-gt0-clause-cause g c t = record {
  recs = c.in-Ok.synced.log.recs.items;
  has = subst (λ (i : Image). HasRecords c.in-Ok.synced.log.recs.items i) (c.in-Ok.ensures.syncs.same_reading t) (c.in-Ok.ensures.synced.has_log t).has;
  many = search rules;
  some = c.if-used-gt0.true;
}

pub returns-clause-image : goal.returns-clause-image
returns-clause-image g c t =
    let long : length c.in-Ok.synced.log.recs.items ≡ c.len-used.result = search rules in
    let none = no_items c.in-Ok.synced.log.recs.items (let le = c.if-used-gt0.false in omega (arith, le, long)) in
    any_ok c.over.result (subst (λ (i : Image). HasRecords [] i) (c.in-Ok.ensures.syncs.same_reading t)
    (subst (λ (rs : List Rec). HasRecords rs (g.D.Disk.reading c.in-Ok.synced.disk)) none (c.in-Ok.ensures.synced.has_log t).has))
