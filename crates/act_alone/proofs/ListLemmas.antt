-- The last call of a chain, and the calls before it.
use Rattle.std.proofs.Common.{◌≡◌, ℕ, zero, suc, ◌-◌, ◌<◌, ◌≤◌, List, [], ◌∷◌, length, take, get_or, Some, slice_get, refl, sym, ap, ◌∙◌, arith}
use Rattle.std.proofs.lemmas.Option.{slice_get-get_or}
use Rattle.base_types.specs.declared.instructions.Call.{Call}
use Rattle.model_kernel.specs.Words.{last_call, but_last}

last_taken : (calls : List Call) (n : ℕ) → n < length calls → last_call (take (suc n) calls) ≡ slice_get calls n
last_taken [] n lt = absurd (omega arith)
last_taken (c ∷ rest) zero lt = refl
last_taken (c ∷ []) (suc n) lt = absurd (omega arith)
last_taken (c ∷ d ∷ rest) (suc n) lt = last_taken (d ∷ rest) n (omega arith)

rest_taken : (calls : List Call) (n : ℕ) → n < length calls → but_last (take (suc n) calls) ≡ take n calls
rest_taken [] n lt = absurd (omega arith)
rest_taken (c ∷ rest) zero lt = refl
rest_taken (c ∷ []) (suc n) lt = absurd (omega arith)
rest_taken (c ∷ d ∷ rest) (suc n) lt = ap (λ z. c ∷ z) (rest_taken (d ∷ rest) n (omega arith))

pub last_popped : (calls : List Call) (len : ℕ) (d : Call) → 0 < len → len ≤ length calls → Some (get_or calls (len - 1) d) ≡ last_call (take len calls)
last_popped calls len d some few =
    let same : suc (len - 1) ≡ len = omega arith in
    sym (slice_get-get_or calls (len - 1) d (omega arith)) ∙ sym (last_taken calls (len - 1) (omega arith)) ∙ ap (λ n. last_call (take n calls)) same

pub rest_popped : (calls : List Call) (len : ℕ) → 0 < len → len ≤ length calls → take (len - 1) calls ≡ but_last (take len calls)
rest_popped calls len some few =
    let same : suc (len - 1) ≡ len = omega arith in
    sym (rest_taken calls (len - 1) (omega arith)) ∙ ap (λ n. but_last (take n calls)) same
