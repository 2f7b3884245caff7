use Rattle.std.proofs.Common.{◌≡◌, count_by, nat_le, take}
use Rattle.std.specs.Prelude.{slice_index}
use Rattle.base_types.specs.declared.records.Rec.{Rec}
use Rattle.test_store.proofs.own.count_kept.Given as goal

abbrev pub invariant-loop-rec : goal.invariant-loop-rec
invariant-loop-rec l = l.kept ≡ count_by (λ (r : Rec). nat_le (slice_index l.cut.0 r.entity) r.version) (take l.rec-index l.recs)
