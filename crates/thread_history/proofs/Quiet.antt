-- One view is the chronicle's, and no later item concerns a share whose lock is free.
use Rattle.std.proofs.Common.{◌≡◌, ◌+◌, ◌<◌, ◌≤◌, ℕ, Bool, List, [], ◌∷◌, length, refl, ⊎_elim, sym, ap, ◌∙◌, subst}
use Rattle.std.specs.Prelude.{slice_index}
use mathlib.Core.List.{IsPrefix}
use Rattle.thread_history.specs.declared.views.Role.TheVariants.{Chronicler, NoteOf, Share}
use Rattle.thread_history.specs.Rules.{Knows, concerning, told_of}
use Rattle.thread_history.specs.Quiet.{AreKnown, AreShares, AreTold, IsOneChronicle, IsQuiet}
use Rattle.thread_history.proofs.Fitting.{known}
use Rattle.thread_history.proofs.Lists.{prefix_trans, prefix_both, concerning_prefix}

module _ {A : Type 0} (concerns : A → ℕ → Bool) where
  pub quiet : IsQuiet concerns
  quiet kept s h x seat other v u at share there is =
      let t = h.0 in
      let k : Knows t seat v (Share x) = subst (Knows t seat v) share.role (h.4 seat v at).0 in
      let l : Knows t other u Chronicler = subst (Knows t other u) is (h.4 other u there).0 in
      let within : IsPrefix (concerning concerns x t.since) (concerning concerns x v.since) =
      subst (IsPrefix (concerning concerns x t.since)) (sym k.3 ∙ share.list) (prefix_trans _ _ _ (h.3.appended x) (h.3.told_is x)) in
      let same : concerning concerns x t.since ≡ concerning concerns x v.since = prefix_both _ _ within (concerning_prefix concerns x v.since t.since k.2) in
      (subst (IsPrefix v.since) (sym l.1) k.2, ap (concerning concerns x) l.1 ∙ same)

  pub one_chronicle : IsOneChronicle concerns
  one_chronicle kept s h = (h.0.chronicler, h.5.0, h.5.1, h.5.2, λ other v at is. (subst (Knows h.0 other v) is (h.4 other v at).0).0)

  empty_begun : (xs ys : List A) → IsPrefix xs ys → ys ≡ [] → xs ≡ []
  empty_begun [] ys p e = refl
  empty_begun (x ∷ xs) ys p e = absurd (cc (p.1, e))

  pub shares_hold : AreShares concerns
  shares_hold kept s h =
      let t = h.0 in
      let drawn : slice_index s.words 2 ≡ t.shares = ap (λ ws. slice_index ws 2) h.2 in (
        (λ x seat other v u at is there also. let k = subst (Knows t seat v) is (h.4 seat v at).0 in let l = subst (Knows t other u) also (h.4 other u there).0 in sym k.1 ∙ l.1),
        (λ x seat v at is. subst (λ n. x < n) (sym drawn)
            (⊎_elim
            (λ (e : v.role ≡ Share x). (subst (Knows t seat v) e (h.4 seat v at).0).0)
            (λ (e : v.role ≡ NoteOf x). (subst (Knows t seat v) e (h.4 seat v at).0).0)
            is)),
        (λ x seat v at is le. let k = subst (Knows t seat v) is (h.4 seat v at).0 in
            k.2 x ∙ empty_begun (t.told x) (t.lists x) (h.3.told_is x) (h.3.unborn x (subst (λ n. n ≤ x) drawn le))),
      )

  pub known_hold : AreKnown concerns
  known_hold kept s h other u there is =
      let l = subst (Knows h.0 other u) is (h.4 other u there).0 in (
        ap (λ ws. slice_index ws 0) h.2 ∙ ap (λ es. length kept + length es) (sym l.1),
        (λ seat v at. subst (IsPrefix v.since) (sym l.1) (known h.0 seat v v.role (h.4 seat v at).0)),
      )

  pub told_hold : AreTold concerns
  told_hold kept s h other u there is x =
      let t = h.0 in
      let l = subst (Knows t other u) is (h.4 other u there).0 in (
        subst (λ m. IsPrefix (concerning concerns x u.since) m) (sym (l.2 x)) (subst (λ es. IsPrefix (concerning concerns x es) (t.told x)) (sym l.1) (h.3.appended x)),
        (λ seat v at share. let k = subst (Knows t seat v) share (h.4 seat v at).0 in (
          subst (λ m. IsPrefix (told_of u.told x) m) (sym k.3) (subst (λ m. IsPrefix m (t.lists x)) (sym (l.2 x)) (h.3.told_is x)),
          (λ note w at_note of. subst (λ m. IsPrefix w.list m) (sym k.3) (subst (Knows t note w) of (h.4 note w at_note).0).2),
        )),
      )
