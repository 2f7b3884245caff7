-- What a checker keeps of what the rules of a legal run look at.
use Rattle.std.specs.Prelude.{◌≡◌, ℕ, ◌<◌, slice_index}
use Rattle.data_cut_facts.specs.Records.{choice}
use Rattle.data_cut_facts.specs.model_cut_laws.Agreeing.{from_cut}
use Rattle.data_cut_facts.specs.model_cut_laws.Records.{commits_of}
use Rattle.plain_runs.specs.model_kernel.Histories.{Run, is_full}
use Rattle.trace_state.specs.Clocks.{clock_at}
use Rattle.data_cut_facts.specs.Searches.{mark_at}
use Rattle.trace_state.specs.declared.clocks.Clocks.{Clocks}
use Rattle.trace_state.specs.declared.cuts.Cuts.{Cuts}
use Rattle.trace_state.specs.declared.wishes.Wishes.{Wishes}

-- the clocks of the state
pub record HasClocks (r : Run) (c : Clocks) : Type 0 where
  pub clocks : (x y : ℕ) → x < 64 → clock_at c x y ≡ (r.state x).stamp y

-- what wishes rest on
pub record HasWishes (r : Run) (w : Wishes) : Type 0 where
  pub newest : (x : ℕ) → x < 64 → r.newest x ≡ slice_index w.newest x
  pub by_step : (x : ℕ) → x < 64 → r.by_step x ≡ mark_at w.by_step x
  pub asked : (x : ℕ) → x < 64 → r.asked x ≡ mark_at w.asked x
  pub was_full : (x : ℕ) → x < 64 → r.was_full x ≡ mark_at w.was_full x
  pub full : (x : ℕ) → x < 64 → is_full r x ≡ mark_at w.full x

-- the cut, and the commits at or above it
pub record HasCuts (r : Run) (c : Cuts) : Type 0 where
  pub start : (x : ℕ) → choice c.start x ≡ r.start x
  pub cut : (x : ℕ) → choice c.cut x ≡ r.cut x
  pub recs : commits_of c.recs.items ≡ from_cut r.cut r.commits
