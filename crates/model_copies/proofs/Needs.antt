-- Two commits that need each other: either alone is not taken, and both are.
use Rattle.std.proofs.Common.{◌≡◌, ◌≢◌, ℕ, ◌<◌, ◌≤◌, Bool, true, false, ◌==◌, ◌⊎◌, inl, inr, List, [], ◌∷◌, ◌++◌, refl, sym, subst, ◌∙◌, arith, eqb-true, eq-eqb}
use Rattle.std.proofs.lemmas.Bool.{false≢true}
use Rattle.model_sound_states.specs.model_kernel.Choices.{Among, Commit, IsGreatest}
use Rattle.model_sound_states.specs.model_run_laws.model_cut_laws.Agreeing.{nothing}
use Rattle.model_sound_states.proofs.model_run_laws_lemmas.model_cut_laws_lemmas.Joins.{Among-map, Takes}
use Rattle.model_copies.specs.Needing.{AreAtMost, NeedEachOther}

-- one of a longer list
pub later : (P : Commit → Type 0) (cs ds : List Commit) → Among ds P → Among (cs ++ ds) P
later P [] ds h = h
later P (c ∷ cs) ds h = inr (later P cs ds h)

pub sooner : (P : Commit → Type 0) (cs ds : List Commit) → Among cs P → Among (cs ++ ds) P
sooner P [] ds h = elim h [ ]
sooner P (c ∷ cs) ds (inl h) = inl h
sooner P (c ∷ cs) ds (inr h) = inr (sooner P cs ds h)

pub of_both : (P : Commit → Type 0) (cs ds : List Commit) → Among (cs ++ ds) P → Among cs P ⊎ Among ds P
of_both P [] ds h = inr h
of_both P (c ∷ cs) ds (inl h) = inl (inl h)
of_both P (c ∷ cs) ds (inr h) = elim (of_both P cs ds h) as (λ _. Among (c ∷ cs) P ⊎ Among ds P) [ inl k ↦ inl (inr k) | inr k ↦ inr k ]

-- what a choice takes of these is at most p
at_most : (p r : ℕ → ℕ) (cs : List Commit) (x : ℕ) → AreAtMost p cs → Among cs (Takes r x) → r x ≤ p x
at_most p r [] x most h = elim h [ ]
at_most p r (c ∷ cs) x most (inl h) = (let le = subst (λ y. c.version ≤ p y) h.0 most.0 in let at = h.1 in omega (arith, le, at))
at_most p r (c ∷ cs) x most (inr h) = at_most p r cs x most.1 h

module _ (p q : ℕ → ℕ) (cs : List Commit) (a b : Commit) (g : IsGreatest nothing cs p) (most : AreAtMost p cs) (n : NeedEachOther p q a b) where
  -- what a choice takes besides two commits is at most p
  low : (r : ℕ → ℕ) (ds : List Commit) (x : ℕ) → (r x ≡ 0) ⊎ Among (cs ++ ds) (Takes r x) → (r x ≤ p x) ⊎ Among ds (Takes r x)
  low r ds x (inl zero_is) = inl (omega (arith, zero_is))
  low r ds x (inr among) = elim (of_both (Takes r x) cs ds among) as (λ _. (r x ≤ p x) ⊎ Among ds (Takes r x)) [
    | inl old ↦ inl (at_most p r cs x most old)
    | inr new ↦ inr new
  ]

  -- one alone isn't taken
  alone : (c : Commit) (other : ℕ) → c.entity ≢ other → p other < c.stamp other → IsGreatest nothing (cs ++ c ∷ []) p
  alone c other apart needs = record {
    closed = λ x. elim (g.closed x) as (λ _. (p x ≡ 0) ⊎ Among (cs ++ c ∷ []) (Takes p x)) [ inl h ↦ inl h | inr h ↦ inr (sooner (Takes p x) cs (c ∷ []) h) ];
    greatest = λ r closed x. elim (low r (c ∷ []) x (closed x)) as (λ _. r x ≤ p x) [
      | inl le ↦ le
      | inr new ↦ elim new as (λ _. r x ≤ p x) [
        | inl t ↦ (
            let above : p other < r other = (let le = t.2 other in omega (arith, needs, le)) in
            absurd (elim (low r (c ∷ []) other (closed other)) as (λ _. ⊥) [
              | inl le ↦ (let bad : r other ≤ p other = le in let no : ⊥ = omega (arith, bad, above) in no)
              | inr also ↦ elim also as (λ _. ⊥) [ inl u ↦ apart u.0 | inr none ↦ none ]
            ]))
        | inr none ↦ absurd none
      ]
    ];
  }

  pub first_alone : IsGreatest nothing (cs ++ a ∷ []) p
  first_alone = alone a b.entity n.apart n.first_needs

  pub second_alone : IsGreatest nothing (cs ++ b ∷ []) p
  second_alone = alone b a.entity (λ e. n.apart (sym e)) n.second_needs

  -- both
  rises : (x : ℕ) → p x ≤ q x
  rises x = by_first (a.entity == x) refl
    where
      by_second : (t : Bool) → (b.entity == x) ≡ t → (a.entity == x) ≡ false → p x ≤ q x
      by_second true e f = (let at = eqb-true b.entity x e in let le = subst (λ y. p y ≤ b.version) at n.second in let is = subst (λ y. q y ≡ b.version) at n.at_second in omega (arith, le, is))
      by_second false e f = (let same = n.others x (λ h. false≢true (sym f ∙ eq-eqb a.entity x h)) (λ h. false≢true (sym e ∙ eq-eqb b.entity x h)) in omega (arith, same))

      by_first : (t : Bool) → (a.entity == x) ≡ t → p x ≤ q x
      by_first true e = (let at = eqb-true a.entity x e in let le = subst (λ y. p y ≤ a.version) at n.first in let is = subst (λ y. q y ≡ a.version) at n.at_first in omega (arith, le, is))
      by_first false e = by_second (b.entity == x) refl e

  takes_higher : (x : ℕ) → q x ≡ p x → (c : Commit) → Takes p x c → Takes q x c
  takes_higher x same c t = (t.0, t.1 ∙ sym same, λ y. (let le = t.2 y in let up = rises y in omega (arith, le, up)))

  pub both_taken : IsGreatest nothing (cs ++ a ∷ b ∷ []) q
  both_taken = record { closed = λ x. closed_first x (a.entity == x) refl; greatest = λ r closed x. highest r x (low r (a ∷ b ∷ []) x (closed x)) }
    where
      closed_second : (x : ℕ) (t : Bool) → (b.entity == x) ≡ t → (a.entity == x) ≡ false → (q x ≡ 0) ⊎ Among (cs ++ a ∷ b ∷ []) (Takes q x)
      closed_second x true e f = (let at = eqb-true b.entity x e in inr (later (Takes q x) cs (a ∷ b ∷ []) (inr (inl (at, sym (subst (λ y. q y ≡ b.version) at n.at_second), n.second_below)))))
      closed_second x false e f =
          let same : q x ≡ p x = n.others x (λ h. false≢true (sym f ∙ eq-eqb a.entity x h)) (λ h. false≢true (sym e ∙ eq-eqb b.entity x h)) in
          elim (g.closed x) as (λ _. (q x ≡ 0) ⊎ Among (cs ++ a ∷ b ∷ []) (Takes q x)) [
            | inl h ↦ inl (same ∙ h)
            | inr h ↦ inr (sooner (Takes q x) cs (a ∷ b ∷ []) (Among-map (Takes p x) (Takes q x) cs (takes_higher x same) h))
          ]

      closed_first : (x : ℕ) (t : Bool) → (a.entity == x) ≡ t → (q x ≡ 0) ⊎ Among (cs ++ a ∷ b ∷ []) (Takes q x)
      closed_first x true e = (let at = eqb-true a.entity x e in inr (later (Takes q x) cs (a ∷ b ∷ []) (inl (at, sym (subst (λ y. q y ≡ a.version) at n.at_first), n.first_below))))
      closed_first x false e = closed_second x (b.entity == x) refl e

      highest : (r : ℕ → ℕ) (x : ℕ) → (r x ≤ p x) ⊎ Among (a ∷ b ∷ []) (Takes r x) → r x ≤ q x
      highest r x (inl le) = (let up = rises x in omega (arith, le, up))
      highest r x (inr (inl t)) = (let is = subst (λ y. q y ≡ a.version) t.0 n.at_first in let at = t.1 in omega (arith, is, at))
      highest r x (inr (inr (inl t))) = (let is = subst (λ y. q y ≡ b.version) t.0 n.at_second in let at = t.1 in omega (arith, is, at))
      highest r x (inr (inr (inr none))) = elim none [ ]
