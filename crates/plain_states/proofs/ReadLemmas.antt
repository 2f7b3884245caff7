-- Registers that a mapping reads.
use Rattle.std.proofs.Common.{◌≡◌, ℕ, ◌+◌, ◌<◌, ◌≤◌, true, ◌&&◌, nat_lt, nat_le, None, arith}
use Rattle.std.proofs.lemmas.Bool.Decides.{nat_tests}
use Rattle.model_kernel.specs.Refusals.{no_page, reg}
use Rattle.model_kernel.specs.State.{LocusState}
use Rattle.model_act_facts.proofs.ReadLemmas.{passes}

within : (a b n : ℕ) → (nat_lt 0 n && nat_le (a + n) 256 && nat_le (b + n) 256) ≡ true → (0 < n) × (a + n ≤ 256) × (b + n ≤ 256)
within a b n e = (grind (arith, nat_tests), grind (arith, nat_tests), grind (arith, nat_tests))

-- what a mapping that the pages don't refuse reads
pub pages_within : (l : LocusState) (a b n : ℕ) → no_page l a b n ≡ None → (0 < reg l n) × (reg l a + reg l n ≤ 256) × (reg l b + reg l n ≤ 256)
pages_within l a b n e = within (reg l a) (reg l b) (reg l n) (passes _ _ e)
