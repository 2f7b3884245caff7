-- Each step that adds one to a word keeps the rule.
use Rattle.std.proofs.Common.{◌≡◌, ◌≢◌, ℕ, ◌+◌, ◌%◌, ◌^◌, ◌<◌, Bool, true, false, cond, length-append, List, [], ◌∷◌, ◌++◌, length, set, refl, ap, sym, ◌∙◌, subst, Option, Some, arith}
use Rattle.std.specs.Prelude.{slice_index}
use Rattle.std.proofs.lemmas.List.{append-nil}
use mathlib.Core.Option.{none}
use mathlib.Core.List.{IsPrefix}
use Rattle.thread_history.specs.declared.views.View.{View}
use Rattle.thread_history.specs.declared.views.Role.{Role}
use Rattle.thread_history.specs.declared.views.Role.TheVariants.{Chronicler, Share, Note, NoteOf, Spent}
use Rattle.atomic_table.specs.Table.{step, keeps, Allows}
use Rattle.thread_history.specs.Rules.{Story, Knows, IsKept, IsTaken, concerning, share_view, announced_view, appended_view, Enrolled, Announced, Appended}
use Rattle.thread_history.specs.Seats.{IsToldNext}
use Rattle.thread_history.proofs.Lists.{prefix_push, concerning-push, at_number, at_number_of, raised}
use Rattle.thread_history.proofs.Fitting.{all_fit_set, known, chronicle_set}

module _ {A : Type 0} (concerns : A → ℕ → Bool) where
  -- DRAWING A NUMBER
  abbrev enrolled : Story A → ℕ → Story A
  enrolled t id = record { chronicler = t.chronicler; since = t.since; told = t.told; lists = t.lists; owner = at_number t.owner t.shares id; shares = t.shares + 1; enroller = t.enroller; back = t.back }

  enrol_others : (t : Story A) (id j : ℕ) (u : View A) (q : Role) → Knows t j u q → Knows (enrolled t id) j u q
  enrol_others t id j u Chronicler h = h
  enrol_others t id j u (Share x) h = (omega (arith, h.0), at_number_of (λ o. o ≡ j) t.owner t.shares id x (λ e. absurd (omega (arith, h.0))) (λ ne. h.1), h.2, h.3, h.4)
  enrol_others t id j u Note h = h
  enrol_others t id j u (NoteOf x) h = (omega (arith, h.0), h.1, h.2)
  enrol_others t id j u Spent h = h

  pub enrols : (kept : List A) (slots id : ℕ) (v : View A) (c : List (ℕ × Unit {0})) → v.role ≡ Note → v.enrols ≡ true → v.shares < 2 ^ 62
      → Allows (IsKept concerns kept) slots id (v, c) 2 (λ n. (n + 1) % 2 ^ 64) (Enrolled (step slots 2 1 0 none) (v, c))
  enrols kept slots id v c note may few s h homes at fits =
      let t = h.0 in
      let found : ℕ = slice_index s.words 2 in
      let is : found ≡ t.shares = ap (λ ws. slice_index ws 2) h.2 in
      let mine = h.4 id v at in
      let own = mine.1 may in
      let same : found ≡ v.shares = is ∙ sym own.1 in
      let words = ap (λ ws. set ws 2 ((slice_index ws 2 + 1) % 2 ^ 64)) h.2 ∙ ap (λ (k : ℕ). (length kept + length t.since) ∷ h.1 ∷ k ∷ []) (raised t.shares (omega (arith, few, own.1))) in
      let w = share_view found v in
      let now = enrolled t id in
      let since : IsPrefix v.since t.since = known t id v v.role mine.0 in (
        w,
        keeps,
        tt,
        (
          now,
          h.1,
          words,
          record { told_is = h.3.told_is; appended = h.3.appended; unborn = λ x le. h.3.unborn x (omega arith); back_differ = h.3.back_differ; back_drawn = λ x le. h.3.back_drawn x (omega arith) },
          all_fit_set t now s.views id w h.4
              (λ j u apart fit. (enrol_others t id j u u.role fit.0, λ k. absurd (apart ((fit.1 k).0 ∙ sym own.0)))) (
                (omega (arith, is), at_number_of (λ o. o ≡ id) t.owner t.shares id found (λ e. refl) (λ ne. absurd (ne is)), since, sym (h.3.unborn found (omega (arith, is))), h.3.back_drawn found (omega (arith, is))),
                λ k. (own.0, ap (λ (n : ℕ). n + 1) is),
              ),
          chronicle_set s.views t.chronicler id v w at (λ r. absurd (subst IsTaken (sym note ∙ r) tt)) h.5,
        ),
        (refl, same),
      )

  -- ANNOUNCING
  abbrev announced : Story A → ℕ → A → Story A
  announced t x e = record { chronicler = t.chronicler; since = t.since; told = t.told; lists = at_number t.lists x (t.lists x ++ e ∷ []); owner = t.owner; shares = t.shares; enroller = t.enroller; back = t.back }

  -- each list is a beginning of what it is after
  list_grows : (t : Story A) (x y : ℕ) (e : A) (l : List A) → IsPrefix l (t.lists y) → IsPrefix l (at_number t.lists x (t.lists x ++ e ∷ []) y)
  list_grows t x y e l p = at_number_of (λ m. IsPrefix l m) t.lists x (t.lists x ++ e ∷ []) y (λ is. prefix_push l (t.lists x) e (subst (λ k. IsPrefix l (t.lists k)) is p)) (λ ne. p)

  announce_others : (t : Story A) (x id j : ℕ) (e : A) (u : View A) → t.owner x ≡ id → j ≢ id → (q : Role) → Knows t j u q → Knows (announced t x e) j u q
  announce_others t x id j e u own apart Chronicler h = h
  announce_others t x id j e u own apart (Share y) h =
      (h.0, h.1, h.2, at_number_of (λ m. u.list ≡ m) t.lists x (t.lists x ++ e ∷ []) y (λ is. absurd (apart (sym h.1 ∙ ap t.owner is ∙ own))) (λ ne. h.3), h.4)
  announce_others t x id j e u own apart Note h = h
  announce_others t x id j e u own apart (NoteOf y) h = (h.0, h.1, list_grows t x y e u.list h.2)
  announce_others t x id j e u own apart Spent h = h

  pub announces : (kept : List A) (slots id x : ℕ) (v : View A) (c : List (ℕ × Unit {0})) (next : Option A) (e : A) → next ≡ Some e → v.role ≡ Share x
      → Allows (IsKept concerns kept) slots id (v, c) 1 (λ n. (n + 1) % 2 ^ 64) (Announced next (step slots 1 1 0 none) (v, c))
  announces kept slots id x v c next e named share s h homes at fits =
      let t = h.0 in
      let mine = h.4 id v at in
      let k : Knows t id v (Share x) = subst (Knows t id v) share mine.0 in
      let words = ap (λ ws. set ws 1 ((slice_index ws 1 + 1) % 2 ^ 64)) h.2 in
      let now = announced t x e in
      let w = announced_view e v in
      let list : v.list ++ e ∷ [] ≡ now.lists x = at_number_of (λ m. v.list ++ e ∷ [] ≡ m) t.lists x (t.lists x ++ e ∷ []) x (λ is. ap (λ l. l ++ e ∷ []) k.3) (λ ne. absurd (ne refl)) in (
        w,
        keeps,
        tt,
        (
          now,
          (h.1 + 1) % 2 ^ 64,
          words,
          record {
            told_is = λ y. list_grows t x y e (t.told y) (h.3.told_is y);
            appended = h.3.appended;
            unborn = λ y le. at_number_of (λ m. m ≡ []) t.lists x (t.lists x ++ e ∷ []) y (λ is. absurd (omega (arith, k.0))) (λ ne. h.3.unborn y le);
            back_differ = h.3.back_differ;
            back_drawn = h.3.back_drawn;
          },
          all_fit_set t now s.views id w h.4
              (λ j u apart fit. (announce_others t x id j e u k.1 apart u.role fit.0, fit.1))
              (subst (Knows now id w) (sym share) (k.0, k.1, k.2, list, k.4), mine.1),
          chronicle_set s.views t.chronicler id v w at (λ r. r) h.5,
        ),
        (λ f same. let is : e ≡ f = cc (named, same) in ap (λ g. (announced_view g v, c)) is),
      )

  -- APPENDING
  abbrev with_since : Story A → List A → Story A
  with_since t es = record { chronicler = t.chronicler; since = es; told = t.told; lists = t.lists; owner = t.owner; shares = t.shares; enroller = t.enroller; back = t.back }

  append_others : (t : Story A) (id j : ℕ) (e : A) (u : View A) → id ≡ t.chronicler → j ≢ id → (q : Role) → Knows t j u q → Knows (with_since t (t.since ++ e ∷ [])) j u q
  append_others t id j e u is apart Chronicler h = absurd (apart (h.0 ∙ sym is))
  append_others t id j e u is apart (Share x) h = (h.0, h.1, prefix_push u.since t.since e h.2, h.3, h.4)
  append_others t id j e u is apart Note h = prefix_push u.since t.since e h
  append_others t id j e u is apart (NoteOf x) h = (h.0, prefix_push u.since t.since e h.1, h.2)
  append_others t id j e u is apart Spent h = prefix_push u.since t.since e h

  append_told : (x : ℕ) (es told : List A) (e : A) → IsPrefix (concerning concerns x es) told → (concerns e x ≡ true → IsPrefix (concerning concerns x es ++ e ∷ []) told) → IsPrefix (concerning concerns x (es ++ e ∷ [])) told
  append_told x es told e was next = subst (λ l. IsPrefix l told) (sym (concerning-push concerns x es e)) (by_test (concerns e x) refl)
    where
      by_test : (b : Bool) → concerns e x ≡ b → IsPrefix (concerning concerns x es ++ cond b (e ∷ []) []) told
      by_test true is = next is
      by_test false is = subst (λ l. IsPrefix l told) (sym (append-nil (concerning concerns x es))) was

  pub appends : (kept : List A) (slots id : ℕ) (v : View A) (c : List (ℕ × Unit {0})) (next : Option A) (e : A) → next ≡ Some e → v.role ≡ Chronicler → length kept + length v.since < 2 ^ 62 → IsToldNext concerns e v
      → Allows (IsKept concerns kept) slots id (v, c) 0 (λ n. (n + 1) % 2 ^ 64) (Appended next (step slots 0 1 0 none) (v, c))
  appends kept slots id v c next e named role room told s h homes at fits =
      let t = h.0 in
      let mine = h.4 id v at in
      let k : Knows t id v Chronicler = subst (Knows t id v) role mine.0 in
      let long : length v.since ≡ length t.since = ap length k.1 in
      let more : length kept + length (t.since ++ e ∷ []) ≡ (length kept + length t.since) + 1 = omega (arith, length-append t.since (e ∷ [])) in
      let words = ap (λ ws. set ws 0 ((slice_index ws 0 + 1) % 2 ^ 64)) h.2 ∙ ap (λ (n : ℕ). n ∷ h.1 ∷ t.shares ∷ []) (raised (length kept + length t.since) (omega (arith, room, long)) ∙ sym more) in
      let now = with_since t (t.since ++ e ∷ []) in
      let w = appended_view e v in (
        w,
        keeps,
        tt,
        (
          now,
          h.1,
          words,
          record {
            told_is = h.3.told_is;
            appended = λ x. append_told x t.since (t.told x) e (h.3.appended x) (λ is. subst (λ es. IsPrefix (concerning concerns x es ++ e ∷ []) (t.told x)) k.1 (subst (λ l. IsPrefix (concerning concerns x v.since ++ e ∷ []) l) (k.2 x) (told x is)));
            unborn = h.3.unborn;
            back_differ = h.3.back_differ;
            back_drawn = h.3.back_drawn;
          },
          all_fit_set t now s.views id w h.4
              (λ j u apart fit. (append_others t id j e u k.0 apart u.role fit.0, fit.1))
              (subst (Knows now id w) (sym role) (k.0, ap (λ es. es ++ e ∷ []) k.1, k.2, prefix_push v.shown t.since e k.3, k.4), mine.1),
          chronicle_set s.views t.chronicler id v w at (λ r. r) h.5,
        ),
        (λ f same. let is : e ≡ f = cc (named, same) in ap (λ g. (appended_view g v, c)) is),
      )
