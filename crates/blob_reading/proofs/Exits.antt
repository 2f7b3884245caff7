-- What the exit of a `?` hands on.
use Rattle.std.proofs.Common.{◌≡◌, ℕ, sym, subst, Result, Ok, Err}
use Rattle.std.specs.Result.{IfErr, IsErrAnd}

-- the same error
pub hands_on : {T E : Type 0} {e : E} (Q : E → Type 0) (r : Result T E) → IsErrAnd r (λ x. x ≡ e) → Q e → IfErr r Q
hands_on Q (Ok x) h q = absurd h
hands_on Q (Err x) h q = subst Q (sym h) q

-- bounds under the names that the code has for them
pub bounds_as : (P : ℕ → ℕ → Type 0) {a b c d : ℕ} → a ≡ c → b ≡ d → P a b → P c d
bounds_as P {b = b} {c = c} first second p = subst (λ n. P c n) second (subst (λ n. P n b) first p)
