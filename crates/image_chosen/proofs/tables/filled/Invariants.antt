use Rattle.std.proofs.Common.{◌≡◌, ℕ, ◌<◌, ◌≤◌, length}
use Rattle.std.specs.Prelude.{slice_index}
use Rattle.image_chosen.proofs.tables.filled.Given as goal

abbrev pub invariant-loop-page : goal.invariant-loop-page
invariant-loop-page l = record {
  long : length l.table.0 ≡ 256;
  below : (page : ℕ) → page < l.page → slice_index l.table.0 page ≡ slice_index l.blocks page;
  above : (page : ℕ) → l.page ≤ page → slice_index l.table.0 page ≡ 0;
}
