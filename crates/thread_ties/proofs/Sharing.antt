-- Fragments that are given out one by one, and those that came back.
use Rattle.std.proofs.Common.{◌≡◌, ℕ, zero, suc, ◌+◌, ◌<◌, false, List, [], ◌∷◌, map, length, Some, refl, ap, ◌∙◌, subst, arith}
use Rattle.thread_ties.specs.declared.views.Piece.{Piece}
use Rattle.thread_ties.specs.declared.views.View.{View}
use Rattle.thread_ties.specs.Rules.{AllHeld, first_of, numbers, numbered, shown}
use Rattle.thread_history.specs.Rules.{AllDiffer, is_among}
use Rattle.thread_ties.specs.Seats.{IsFragment}
use Rattle.thread_ties.specs.Sides.{AllAgree, AllWithin, fragments_of, numbers_of}
use Rattle.std.specs.Prelude.{slice_get}
use Rattle.std.proofs.lemmas.Option.{slice_get_within}
use Rattle.thread_ties.proofs.Lists.{none_here}

module _ {V : Type 0} where
  -- GIVEN OUT
  pub first_is : (v : View V) (ps : List (Piece V)) → v ≡ record { leads = false; values = []; pieces = first_of ps } → 0 < length ps → IsFragment v
  first_is v [] is lt = absurd (omega arith)
  first_is v (p ∷ ps) is lt = (p, is)

  pub length_numbered : (n : ℕ) (vs : List V) → length (numbered n vs) ≡ length vs
  length_numbered n [] = refl
  length_numbered n (v ∷ vs) = ap suc (length_numbered (suc n) vs)

  -- COME BACK
  numbers_same : (ps : List (Piece V)) → numbers ps ≡ numbers_of (map shown ps)
  numbers_same [] = refl
  numbers_same (p ∷ ps) = ap (λ ns. p.number ∷ ns) (numbers_same ps)

  pub all_differ : (vs : List V) (ps : List (Piece V)) → AllHeld vs ps → AllDiffer (numbers_of (map shown ps))
  all_differ vs [] held = tt
  all_differ vs (p ∷ ps) held = (subst (λ ns. is_among p.number ns ≡ false) (numbers_same ps) held.1, all_differ vs ps held.2)

  pub all_agree : (vs : List V) (ps : List (Piece V)) → AllHeld vs ps → AllAgree vs (map shown ps)
  all_agree vs [] held = tt
  all_agree vs (p ∷ ps) held = (held.0, all_agree vs ps held.2)

  pub all_within : (vs : List V) (ps : List (Piece V)) → AllHeld vs ps → AllWithin vs (map shown ps)
  all_within vs [] held = tt
  all_within vs (p ∷ ps) held = (slice_get_within vs p.number p.value held.0, all_within vs ps held.2)

  -- BY THEIR NUMBERS
  get_numbered : (n k : ℕ) (vs : List V) (v : V) → slice_get vs k ≡ Some v → slice_get (map shown (numbered n vs)) k ≡ Some (record { number = n + k; value = Some v })
  get_numbered n k [] v is = absurd (none_here v is)
  get_numbered n zero (u ∷ us) v is =
      let same : n ≡ n + 0 = omega arith in
      (λ i. Some (record { number = same i; value = is i }))
  get_numbered n (suc k) (u ∷ us) v is =
      let same : suc n + k ≡ n + suc k = omega arith in
      get_numbered (suc n) k us v is ∙ ap (λ (m : ℕ). Some (record { number = m; value = Some v })) same

  pub get_fragment : (vs : List V) (k : ℕ) (v : V) → slice_get vs k ≡ Some v → slice_get (fragments_of vs) k ≡ Some (record { number = k; value = Some v })
  get_fragment vs k v is =
      let same : 0 + k ≡ k = omega arith in
      get_numbered 0 k vs v is ∙ ap (λ (m : ℕ). Some (record { number = m; value = Some v })) same
