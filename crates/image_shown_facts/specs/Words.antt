-- The words of a container that are kept: those that differ from the supplier's.
use Rattle.std.specs.Prelude.{◌≡◌, ◌≢◌, ℕ, ◌<◌, Some}
use Rattle.std.specs.BTreeMap.{BTreeMap, get}
use Rattle.std.specs.Ordering.{nat_cmp}
use Rattle.image_facts.specs.model_kernel.Outcomes.{supplied}
use Rattle.image_facts.specs.model_kernel.State.{Supply}

-- each word that is kept stands below this address, and isn't the supplier's
pub record IsSparse (s : Supply) (tag end : ℕ) (words : BTreeMap ℕ ℕ) : Type 0 where
  pub below : (address word : ℕ) → get nat_cmp words address ≡ Some word → address < end
  pub differs : (address word : ℕ) → get nat_cmp words address ≡ Some word → word ≢ supplied s tag address
