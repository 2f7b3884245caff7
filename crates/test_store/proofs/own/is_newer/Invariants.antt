use Rattle.std.proofs.Common.{◌≡◌, ℕ, ◌<◌, get_or}
use Rattle.base_types.specs.declared.records.Rec.{Rec}
use Rattle.test_store.proofs.own.is_newer.Given as goal

abbrev pub invariant-loop-rec : goal.invariant-loop-rec
invariant-loop-rec l = (k : ℕ) → (d : Rec) → k < l.rec-index → (get_or l.recs k d).entity ≡ l.entity → (get_or l.recs k d).version < l.version
