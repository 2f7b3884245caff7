-- The numbers below one, touches that write, and private regions in their order.
use Rattle.std.proofs.Common.{◌≡◌, ℕ, zero, suc, ◌-◌, ◌<◌, Bool, true, false, ◌&&◌, ◌||◌, ◌==◌, nat_lt, if◌then◌else◌, inl, inr, List, [], ◌∷◌, length, get_or, refl, sym, ap, ◌∙◌, arith}
use Rattle.std.specs.List.{All, list_any}
use Rattle.std.proofs.lemmas.Bool.{cases_lt}
use Rattle.std.proofs.lemmas.List.{get_or-append_right, get_or_append_left, length-append}
use Rattle.std.proofs.lemmas.List.Elements.{All-cons, All-head, All-tail}
use Rattle.base_types.specs.Edges.{upto}
use Rattle.base_types.specs.declared.capabilities.Private.{Private}
use Rattle.base_types.specs.declared.histories.Touch.{Touch}
use Rattle.model_kernel.specs.Outcomes.{insert_private}

-- THE NUMBERS BELOW n

pub upto_len : (n : ℕ) → length (upto n) ≡ n
upto_len zero = refl
upto_len (suc n) = length-append (upto n) (n ∷ []) ∙ (let e = upto_len n in omega (arith, e))

pub upto_get : (n i : ℕ) → i < n → get_or (upto n) i 0 ≡ i
upto_get zero i lt = absurd (omega (arith, lt))
upto_get (suc n) i lt = elim (cases_lt i n) as (λ _. get_or (upto (suc n)) i 0 ≡ i) [
  | inl low ↦ (let len = upto_len n in get_or_append_left (upto n) (n ∷ []) 0 i (omega (arith, low, len)) ∙ upto_get n i low)
  | inr high ↦
      (let len = upto_len n in
      let is : i ≡ n = omega (arith, lt, high) in
      get_or-append_right (upto n) (n ∷ []) n i 0 len high ∙ (ap (λ (k : ℕ). get_or (n ∷ []) k 0) (let e : i - n ≡ 0 = omega (arith, is) in e) ∙ sym is))
]

-- TOUCHES

-- what is written is touched
pub written_touched : (ts : List Touch) (x : ℕ) → list_any (λ t. t.entity == x && t.wrote) ts ≡ true → list_any (λ t. t.entity == x) ts ≡ true
written_touched [] x is = is
written_touched (t ∷ ts) x is = by_test (t.entity == x) t.wrote (written_touched ts x) is
  where
    by_test : (a b : Bool) {c d : Bool} → (c ≡ true → d ≡ true) → ((a && b) || c) ≡ true → (a || d) ≡ true
    by_test true b go h = refl
    by_test false b go h = go h

-- PRIVATE REGIONS

-- what holds of all, and of one more
pub all_private : (P : Private → Type 0) (p : Private) (ps : List Private) → P p → All P ps → All P (insert_private p ps)
all_private P p [] h all = All-cons P p [] h all
all_private P p (q ∷ ps) h all =
    elim (nat_lt p.made q.made || p.made == q.made && nat_lt p.region.at q.region.at) as (λ b. All P (if b then p ∷ q ∷ ps else q ∷ insert_private p ps)) [
      | true ↦ All-cons P p (q ∷ ps) h all
      | false ↦ All-cons P q (insert_private p ps) (All-head P q ps all) (all_private P p ps h (All-tail P q ps all))
    ]
