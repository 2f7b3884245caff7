-- Blocks that were taken and given back: which are held is as before.
use Rattle.std.proofs.Common.{◌≡◌, ◌≢◌, ℕ, zero, suc, ◌<◌, ◌⊎◌, inl, inr, Bool, true, false, ◌||◌, List, take, refl, sym, ap, subst, ◌∙◌, arith}
use Rattle.std.specs.Prelude.{slice_index}
use Rattle.std.proofs.lemmas.Bool.{cases_eq, cases_lt}
use Rattle.std.proofs.lemmas.List.{get_or-take}
use Rattle.data_blocks.specs.Ledger.{Ledger, is_held, is_named}
use Rattle.store_facts.specs.Taking.{HasReleased, HasTaken}

-- a number is one of the first so many, or none of them
pub among_or_not : (blocks : List ℕ) (many n : ℕ) → ((i : ℕ) × (i < many) × (n ≡ slice_index blocks i)) ⊎ ((i : ℕ) → i < many → n ≢ slice_index blocks i)
among_or_not blocks zero n = inr (λ i lt same. omega (arith, lt))
among_or_not blocks (suc many) n = elim (cases_eq n (slice_index blocks many)) as (λ _. ((i : ℕ) × (i < suc many) × (n ≡ slice_index blocks i)) ⊎ ((i : ℕ) → i < suc many → n ≢ slice_index blocks i)) [
  | inl same ↦ inl (many, omega arith, same)
  | inr apart ↦ elim (among_or_not blocks many n) as (λ _. ((i : ℕ) × (i < suc many) × (n ≡ slice_index blocks i)) ⊎ ((i : ℕ) → i < suc many → n ≢ slice_index blocks i)) [
    | inl found ↦ inl (found.0, (let lt = found.1 in omega (arith, lt)), found.2)
    | inr none ↦ inr (λ i lt same. elim (cases_lt i many) as (λ _. ⊥) [
      | inl below ↦ none i below same
      | inr past ↦ apart (subst (λ (k : ℕ). n ≡ slice_index blocks k) (let e : i ≡ many = omega (arith, lt, past) in e) same)
    ])
  ]
]

unheld : (held named : Bool) → (held || named) ≡ false → held ≡ false
unheld true named e = absurd (let clash : true ≡ false = e in cc clash)
unheld false named e = refl

-- what is held is as before
pub held_back : (old mid now new : Ledger) (many : ℕ) (blocks : List ℕ) → HasTaken many old mid blocks → now.held ≡ mid.held → HasReleased many now new (take many blocks) → (n : ℕ) → is_held new n ≡ is_held old n
held_back old mid now new many blocks t same r n = elim (among_or_not blocks many n) as (λ _. is_held new n ≡ is_held old n) [
  | inl found ↦
      let here : n ≡ slice_index (take many blocks) found.0 = found.2 ∙ sym (get_or-take many blocks found.0 0 found.1) in
      let gone : is_held new n ≡ false = ap (is_held new) here ∙ r.gone found.0 found.1 in
      let free : is_held old n ≡ false = ap (is_held old) found.2 ∙ unheld (is_held old (slice_index blocks found.0)) (is_named old (slice_index blocks found.0)) (t.unused found.0 found.1) in
      gone ∙ sym free
  | inr none ↦
      r.others n (λ i lt is. none i lt (is ∙ get_or-take many blocks i 0 lt))
      ∙ (ap (λ (l : Ledger). is_held l n) (ap (λ (h : List Bool). record now { held = h }) same) ∙ t.others n none)
]
