-- The words of a container that are kept.
use Rattle.std.proofs.Common.{◌≡◌, ℕ, ◌≤◌, Option, Some, None, refl, ap, arith, unwrap_or}
use Rattle.std.specs.BTreeMap.{BTreeMap, get}
use Rattle.std.specs.Ordering.{nat_cmp}
use Rattle.image_facts.specs.model_kernel.Outcomes.{supplied}
use Rattle.image_facts.specs.model_kernel.State.{Supply}
use Rattle.image_plain.specs.Words.{words_with}
use Rattle.image_shown_facts.specs.Words.{IsSparse}

module _ (s : Supply) (tag : ℕ) where
  -- nothing is kept from the end on
  none_kept : (end : ℕ) (m : BTreeMap ℕ ℕ) (address : ℕ) → IsSparse s tag end m → end ≤ address → get nat_cmp m address ≡ None
  none_kept end m address sparse past = by (get nat_cmp m address) refl
    where
      by : (o : Option ℕ) → get nat_cmp m address ≡ o → get nat_cmp m address ≡ None
      by None is = is
      by (Some w) is = absurd (let lt = sparse.below address w is in omega (arith, lt, past))

  -- so the words there are the supplier's
  pub supplied_past : (end : ℕ) (m : BTreeMap ℕ ℕ) (address : ℕ) → IsSparse s tag end m → end ≤ address → words_with s tag m address ≡ supplied s tag address
  supplied_past end m address sparse past = ap (λ (o : Option ℕ). unwrap_or o (supplied s tag address)) (none_kept end m address sparse past)
