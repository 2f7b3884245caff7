use Rattle.std.proofs.Common.{arith, refl, ◌≡◌, None, IfSome, sym, subst, ℕ, ◌<◌, Option, List}
use Rattle.data_stamps.proofs.Blanks.{get_or-replicate_all}
use Rattle.base_types.specs.declared.records.Rec.{Rec}
use Rattle.data_cut_facts.specs.Searches.{IsOf, IsLastOf}
use Rattle.data_cuts.proofs.chains.Chains.of.Goals as goal

-- of no record none is the last
none_yet : (low : ℕ → ℕ) (recs : List Rec) (x : ℕ) (o : Option ℕ) → o ≡ None → IsLastOf low recs 0 x o
none_yet low recs x o is = record {
  one = subst (λ (p : Option ℕ). IfSome p (λ k. (k < 0) × IsOf low recs x k)) (sym is) tt;
  last = λ j lt. absurd (omega arith);
}

pub loop-i-init : goal.loop-i-init
loop-i-init c = record {
  sizes = (refl, refl);
  newest = λ x low. none_yet _ _ x _ (get_or-replicate_all 64 x None);
  before = λ i lt. absurd (omega arith);
  entities = λ k lt. absurd (omega arith);
}
