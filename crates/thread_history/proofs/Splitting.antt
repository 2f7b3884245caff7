-- Making the table, a load and a split keep the rule.
use Rattle.std.proofs.Common.{◌≡◌, ◌≢◌, ℕ, zero, suc, Bool, true, false, cond, List, [], ◌∷◌, length, set, refl, ap, sym, ◌∙◌, subst, ⊎_elim, arith}
use mathlib.Core.Option.{some, some-ne-none, some-injective, none}
use mathlib.Core.List.{IsPrefix}
use lib.ListN.{get_elem?}
use Rattle.thread_history.specs.declared.views.View.{View}
use Rattle.thread_history.specs.declared.views.Role.{Role}
use Rattle.thread_history.specs.declared.views.Role.TheVariants.{Chronicler, Share, Note, NoteOf, Spent}
use Rattle.atomic_table.specs.Table.{step, keeps, opening, Allows, Splits}
use Rattle.atomic_table.proofs.Lists.{set_again}
use Rattle.thread_history.specs.Rules.{Story, Knows, Fits, AllFit, IsTold, IsKept, IsChroniclers, opening_view, Looked, Shows, concerning, note_left, note_right, note_role, note_list, AllDiffer}
use Rattle.thread_history.proofs.Lists.{prefix_self, prefix_nil, prefix_trans, set_same, concerning_prefix}
use Rattle.thread_history.proofs.Fitting.{at_end, off, all_fit_set, known, chronicle_set, chronicle_more}

module _ {A : Type 0} (concerns : A → ℕ → Bool) where
  -- MAKING
  abbrev first_story : Story A
  first_story = record { chronicler = 0; since = []; told = λ x. []; lists = λ x. []; owner = λ x. 0; shares = 0; enroller = 0; back = [] }

  pub begins : (kept : List A) (n : ℕ) → n ≡ length kept → IsKept concerns kept (opening (n ∷ 0 ∷ 0 ∷ []) [] opening_view)
  begins kept n is = (
    first_story,
    0,
    ap (λ (k : ℕ). k ∷ 0 ∷ 0 ∷ []) (omega arith),
    record { told_is = λ x. prefix_nil []; appended = λ x. prefix_nil []; unborn = λ x le. refl; back_differ = tt; back_drawn = λ x le. refl },
    one,
    (opening_view, refl, refl),
  )
    where
      one : (j : ℕ) (v : View A) → get_elem? (opening_view ∷ []) j ≡ some v → Fits first_story j v
      one zero v e = subst (Fits first_story 0) (some-injective _ _ e) ((refl, refl, (λ x. refl), prefix_nil [], refl), (λ k. (refl, refl)))
      one (suc j) v e = absurd (some-ne-none v (sym e))

  -- A LOAD
  shows : (t : Story A) (id : ℕ) (v : View A) → IsTold concerns t → (r : Role) → Knows t id v r → Shows concerns v r
  shows t id v told Chronicler k = (subst (λ es. IsPrefix v.shown es) (sym k.1) k.3, subst AllDiffer (sym k.4) told.back_differ)
  shows t id v told (Share x) k =
      subst (λ l. IsPrefix (concerning concerns x v.since) l) (sym k.3)
      (prefix_trans _ _ _ (concerning_prefix concerns x v.since t.since k.2) (prefix_trans _ _ _ (told.appended x) (told.told_is x)))
  shows t id v told Note k = tt
  shows t id v told (NoteOf x) k = tt
  shows t id v told Spent k = tt

  pub looks : (kept : List A) (slots id i : ℕ) (v : View A) (c : List (ℕ × Unit {0})) → Allows (IsKept concerns kept) slots id (v, c) i (λ n. n) (Looked concerns (step slots i 0 0 none) (v, c))
  looks kept slots id i v c s h homes at fits =
      let words = set_same s.words i ∙ h.2 in
      let fit = h.4 id v at in
      (v, keeps, tt, (h.0, h.1, words, h.3, subst (λ l. AllFit h.0 l) (sym (set_again s.views id v at)) h.4, subst (λ l. IsChroniclers h.0.chronicler l) (sym (set_again s.views id v at)) h.5), (refl, shows h.0 id v h.3 v.role fit.0))

  -- A SPLIT
  abbrev with_enroller : Story A → ℕ → Story A
  with_enroller t n = record { chronicler = t.chronicler; since = t.since; told = t.told; lists = t.lists; owner = t.owner; shares = t.shares; enroller = n; back = t.back }

  -- who may enrol changes nothing else
  knows_still : (t : Story A) (n id : ℕ) (v : View A) (r : Role) → Knows t id v r → Knows (with_enroller t n) id v r
  knows_still t n id v Chronicler k = k
  knows_still t n id v (Share x) k = k
  knows_still t n id v Note k = k
  knows_still t n id v (NoteOf x) k = k
  knows_still t n id v Spent k = k

  left_knows : (t : Story A) (id : ℕ) (v : View A) (r : Role) → Knows t id v r → Knows t id (note_left v) r
  left_knows t id v Chronicler k = k
  left_knows t id v (Share x) k = k
  left_knows t id v Note k = k
  left_knows t id v (NoteOf x) k = k
  left_knows t id v Spent k = k

  right_knows : (t : Story A) (id j : ℕ) (v w : View A) (r : Role) → w.since ≡ v.since → w.list ≡ note_list r v.list → Knows t id v r → Knows t j w (note_role r)
  right_knows t id j v w Chronicler since list k = subst (λ es. IsPrefix es t.since) (sym since) (known t id v Chronicler k)
  right_knows t id j v w (Share x) since list k =
      (k.0, subst (λ es. IsPrefix es t.since) (sym since) k.2, subst (λ l. IsPrefix l (t.lists x)) (sym (list ∙ k.3)) (prefix_self (t.lists x)))
  right_knows t id j v w Note since list k = subst (λ es. IsPrefix es t.since) (sym since) k
  right_knows t id j v w (NoteOf x) since list k = subst (λ es. IsPrefix es t.since) (sym since) k.1
  right_knows t id j v w Spent since list k = subst (λ es. IsPrefix es t.since) (sym since) k

  -- the seat that may enrol, after the seat id cut off the seat next
  abbrev enroller_after : Bool → ℕ → ℕ → ℕ
  enroller_after b next was = cond b next was

  module _ (t : Story A) (views : List (View A)) (id : ℕ) (v : View A) (all : AllFit t views) (at : get_elem? views id ≡ some v) where
    -- the others may not enrol where this one may
    split_others : (b : Bool) → v.enrols ≡ b → (next j : ℕ) (u : View A) → j ≢ id → Fits t j u → Fits (with_enroller t (enroller_after b next t.enroller)) j u
    split_others true is next j u apart fit = (knows_still t next j u u.role fit.0, λ k. absurd (apart ((fit.1 k).0 ∙ sym ((all id v at).1 is).0)))
    split_others false is next j u apart fit = (knows_still t t.enroller j u u.role fit.0, λ k. fit.1 k)

    split_right : (b : Bool) → v.enrols ≡ b → (next : ℕ) → Fits (with_enroller t (enroller_after b next t.enroller)) next (note_right v)
    split_right true is next = (knows_still t next next (note_right v) (note_role v.role) (right_knows t id next v (note_right v) v.role refl refl (all id v at).0), λ k. (refl, ((all id v at).1 is).1))
    split_right false is next = (knows_still t t.enroller next (note_right v) (note_role v.role) (right_knows t id next v (note_right v) v.role refl refl (all id v at).0), λ k. off (sym is ∙ k))

    split_left : (n : ℕ) → Fits (with_enroller t n) id (note_left v)
    split_left n = (knows_still t n id (note_left v) v.role (left_knows t id v v.role (all id v at).0), λ k. off k)

  told_still : (t : Story A) (n : ℕ) → IsTold concerns t → IsTold concerns (with_enroller t n)
  told_still t n h = record { told_is = h.told_is; appended = h.appended; unborn = h.unborn; back_differ = h.back_differ; back_drawn = h.back_drawn }

  pub splits : (kept : List A) (id : ℕ) (v : View A) → Splits (IsKept concerns kept) id v (note_left v) (note_right v)
  splits kept id v s h at =
      let next = length (set s.views id (note_left v)) in
      let n = enroller_after v.enrols next h.0.enroller in
      let now = with_enroller h.0 n in
      let lefts : AllFit now (set s.views id (note_left v)) = all_fit_set h.0 now s.views id (note_left v) h.4 (λ j u apart fit. split_others h.0 s.views id v h.4 at v.enrols refl next j u apart fit) (split_left h.0 s.views id v h.4 at n) in (
        now,
        h.1,
        h.2,
        told_still h.0 n h.3,
        λ j u e. ⊎_elim
            (λ was. lefts j u was)
            (λ (new : (j ≡ next) × (note_right v ≡ u)). subst (λ (y : ℕ × View A). Fits now y.0 y.1) (λ i. (sym new.0 i, new.1 i)) (split_right h.0 s.views id v h.4 at v.enrols refl next))
            (at_end (set s.views id (note_left v)) (note_right v) u j e),
        chronicle_more (set s.views id (note_left v)) h.0.chronicler (note_right v) (chronicle_set s.views h.0.chronicler id v (note_left v) at (λ r. r) h.5),
      )
