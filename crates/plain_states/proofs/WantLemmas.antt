-- What acts, by the number of a plain state.
use Rattle.std.proofs.Common.{◌≡◌, ℕ, List}
use Rattle.model_kernel.specs.Acts.{Act, wanted}
use Rattle.plain_states.specs.Lists.{IsActingAt}
use Rattle.plain_states.specs.Plains.{locus_of}
use Rattle.plain_states.specs.declared.plain.PlainLocus.{PlainLocus}

-- the same locus wants the same act, told otherwise
pub acting_as : (ls : List PlainLocus) (n j : ℕ) (act told : Act) (h : IsActingAt ls n j act) → (wanted n (locus_of h.locus) ≡ act → wanted n (locus_of h.locus) ≡ told) → IsActingAt ls n j told
acting_as ls n j act told h f = record { at = h.at; locus = h.locus; is = h.is; runs = h.runs; wants = f h.wants }
