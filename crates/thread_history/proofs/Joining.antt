-- A join keeps the rule.
use Rattle.std.proofs.Common.{◌≡◌, ◌≢◌, ℕ, ◌≤◌, Bool, true, false, true≢false, cond, ◌||◌, ◌==◌, ne_eqb, List, set, refl, ap, sym, ◌∙◌, subst, ⊎_elim, arith}
use mathlib.Core.Option.{some}
use mathlib.Core.List.{IsPrefix}
use mathlib.Core.Logic.{dite}
use native.Mathlib.Decide.{ℕ_discrete}
use lib.ListN.{get_elem?}
use Rattle.thread_history.specs.declared.views.View.{View}
use Rattle.thread_history.specs.declared.views.Role.{Role}
use Rattle.thread_history.specs.declared.views.Role.TheVariants.{Chronicler, Share, Note, NoteOf, Spent}
use Rattle.atomic_table.specs.Table.{Joins}
use Rattle.atomic_table.proofs.Lists.{at_set}
use Rattle.thread_history.specs.Rules.{Story, Knows, IsTold, IsKept, IsTaken, told_of, tell, told_with, since_with, with_note, spent_view, longer, back_with, AllDiffer, is_among}
use Rattle.thread_history.proofs.Lists.{prefix_self, prefix_nil, prefix_trans, tell_here, tell_else, longer_of, longer_over}
use Rattle.thread_history.proofs.Fitting.{off, all_fit_set_two, known, chronicle_set, chronicle_spent}

module _ {A : Type 0} (concerns : A → ℕ → Bool) where
  -- what was told, after a join into a view of that role
  abbrev told_now : Role → (ℕ → List A) → List (List A) → ℕ → List A
  told_now Chronicler f ls x = told_of ls x
  told_now (Share y) f ls x = f x
  told_now Note f ls x = f x
  told_now (NoteOf y) f ls x = f x
  told_now Spent f ls x = f x

  -- the shares that came back, after a join into a view of that role
  abbrev back_now : Role → List ℕ → List ℕ → List ℕ
  back_now Chronicler was now = now
  back_now (Share y) was now = was
  back_now Note was now = was
  back_now (NoteOf y) was now = was
  back_now Spent was now = was

  abbrev joined : Story A → ℕ → View A → View A → Story A
  joined t id v w = record {
    chronicler = t.chronicler;
    since = t.since;
    told = told_now v.role t.told (told_with v.role w.role v.told w.list);
    lists = t.lists;
    owner = t.owner;
    shares = t.shares;
    enroller = cond w.enrols id t.enroller;
    back = back_now v.role t.back (back_with v.role w.role v.back);
  }

  -- what is told of x after a note stands between what was told and what its share announced
  told_between : (t : Story A) (other : ℕ) (w : View A) (ls : List (List A)) → IsTold concerns t → ((x : ℕ) → told_of ls x ≡ t.told x) → (r : Role) → Knows t other w r → (x : ℕ)
      → IsPrefix (t.told x) (told_of (told_with Chronicler r ls w.list) x) × IsPrefix (told_of (told_with Chronicler r ls w.list) x) (t.lists x)
  told_between t other w ls told same (NoteOf y) k x = dite (ℕ_discrete x y) here elsewhere
    where
      Between : List A → Type 0
      Between l = IsPrefix (t.told x) l × IsPrefix l (t.lists x)

      here : x ≡ y → Between (told_of (tell ls y (longer (told_of ls y) w.list)) x)
      here e =
          let at : told_of (tell ls y (longer (told_of ls y) w.list)) x ≡ longer (t.told x) w.list = ap (λ k. told_of (tell ls y (longer (told_of ls y) w.list)) k) e ∙ tell_here ls y (longer (told_of ls y) w.list) ∙ ap (λ l. longer l w.list) (same y ∙ ap t.told (sym e)) in
          let q : IsPrefix w.list (t.lists x) = subst (λ k. IsPrefix w.list (t.lists k)) (sym e) k.2 in
          subst Between (sym at) (longer_over (t.told x) w.list (t.lists x) (told.told_is x) q, longer_of (λ l. IsPrefix l (t.lists x)) (t.told x) w.list (told.told_is x) q)

      elsewhere : x ≢ y → Between (told_of (tell ls y (longer (told_of ls y) w.list)) x)
      elsewhere n = subst Between (sym (tell_else ls y x (longer (told_of ls y) w.list) n ∙ same x)) (prefix_self (t.told x), told.told_is x)
  told_between t other w ls told same Chronicler k x = subst (λ l. IsPrefix (t.told x) l × IsPrefix l (t.lists x)) (sym (same x)) (prefix_self (t.told x), told.told_is x)
  told_between t other w ls told same (Share y) k x = subst (λ l. IsPrefix (t.told x) l × IsPrefix l (t.lists x)) (sym (same x)) (prefix_self (t.told x), told.told_is x)
  told_between t other w ls told same Note k x = subst (λ l. IsPrefix (t.told x) l × IsPrefix l (t.lists x)) (sym (same x)) (prefix_self (t.told x), told.told_is x)
  told_between t other w ls told same Spent k x = subst (λ l. IsPrefix (t.told x) l × IsPrefix l (t.lists x)) (sym (same x)) (prefix_self (t.told x), told.told_is x)

  -- the story with another telling
  abbrev with_told : Story A → (ℕ → List A) → ℕ → List ℕ → Story A
  with_told t f n b = record { chronicler = t.chronicler; since = t.since; told = f; lists = t.lists; owner = t.owner; shares = t.shares; enroller = n; back = b }

  or_false : (a b : Bool) → a ≡ false → b ≡ false → (a || b) ≡ false
  or_false true b p q = absurd (true≢false p)
  or_false false b p q = q

  -- what holds of the shares that came back
  abbrev AreBack : ℕ → List ℕ → Type 0
  AreBack shares back = AllDiffer back × ((x : ℕ) → shares ≤ x → is_among x back ≡ false)

  back_told : (t : Story A) (other : ℕ) (w : View A) (bs : List ℕ) → AreBack t.shares t.back → bs ≡ t.back → (q : Role) → Knows t other w q → AreBack t.shares (back_with Chronicler q bs)
  back_told t other w bs h is (Share x) k =
      ((subst (λ l. is_among x l ≡ false) (sym is) k.4, subst AllDiffer (sym is) h.0), (λ z le. or_false (x == z) (is_among z bs) (ne_eqb x z (λ e. omega (arith, k.0, e, le))) (subst (λ l. is_among z l ≡ false) (sym is) (h.1 z le))))
  back_told t other w bs h is Chronicler k = subst (AreBack t.shares) (sym is) h
  back_told t other w bs h is Note k = subst (AreBack t.shares) (sym is) h
  back_told t other w bs h is (NoteOf x) k = subst (AreBack t.shares) (sym is) h
  back_told t other w bs h is Spent k = subst (AreBack t.shares) (sym is) h

  join_told : (t : Story A) (id other n : ℕ) (v w : View A) → IsTold concerns t → (r : Role) → Knows t id v r → Knows t other w w.role
      → IsTold concerns (with_told t (told_now r t.told (told_with r w.role v.told w.list)) n (back_now r t.back (back_with r w.role v.back)))
  join_told t id other n v w told Chronicler k there =
      let mid = told_between t other w v.told told k.2 w.role there in
      let back = back_told t other w v.back (told.back_differ, told.back_drawn) k.4 w.role there in
      record { told_is = λ x. (mid x).1; appended = λ x. prefix_trans _ _ _ (told.appended x) (mid x).0; unborn = told.unborn; back_differ = back.0; back_drawn = back.1 }
  join_told t id other n v w told (Share y) k there = record { told_is = told.told_is; appended = told.appended; unborn = told.unborn; back_differ = told.back_differ; back_drawn = told.back_drawn }
  join_told t id other n v w told Note k there = record { told_is = told.told_is; appended = told.appended; unborn = told.unborn; back_differ = told.back_differ; back_drawn = told.back_drawn }
  join_told t id other n v w told (NoteOf y) k there = record { told_is = told.told_is; appended = told.appended; unborn = told.unborn; back_differ = told.back_differ; back_drawn = told.back_drawn }
  join_told t id other n v w told Spent k there = record { told_is = told.told_is; appended = told.appended; unborn = told.unborn; back_differ = told.back_differ; back_drawn = told.back_drawn }

  join_mine : (t : Story A) (id n : ℕ) (v w both : View A) → both.list ≡ v.list → both.shown ≡ w.since → IsPrefix w.since t.since → (r : Role) → both.since ≡ since_with r v.since w.since → both.told ≡ told_with r w.role v.told w.list → both.back ≡ back_with r w.role v.back → Knows t id v r
      → Knows (with_told t (told_now r t.told (told_with r w.role v.told w.list)) n (back_now r t.back (back_with r w.role v.back))) id both r
  join_mine t id n v w both list shown there Chronicler since told back k = (k.0, since ∙ k.1, (λ x. ap (λ ls. told_of ls x) told), subst (λ l. IsPrefix l t.since) (sym shown) there, back)
  join_mine t id n v w both list shown there (Share y) since told back k = (k.0, k.1, subst (λ l. IsPrefix l t.since) (sym since) (longer_of (λ l. IsPrefix l t.since) v.since w.since k.2 there), list ∙ k.3, k.4)
  join_mine t id n v w both list shown there Note since told back k = subst (λ l. IsPrefix l t.since) (sym since) k
  join_mine t id n v w both list shown there (NoteOf y) since told back k = (k.0, subst (λ l. IsPrefix l t.since) (sym since) k.1, subst (λ l. IsPrefix l (t.lists y)) (sym list) k.2)
  join_mine t id n v w both list shown there Spent since told back k = subst (λ l. IsPrefix l t.since) (sym since) k

  -- a share that stays is not among those that came back
  back_still : (t : Story A) (id other j : ℕ) (v w : View A) (y : ℕ) → j ≢ other → t.owner y ≡ j → is_among y t.back ≡ false → (r : Role) → Knows t id v r → (q : Role) → Knows t other w q
      → is_among y (back_now r t.back (back_with r q v.back)) ≡ false
  back_still t id other j v w y apart own was Chronicler k (Share x) h =
      or_false (x == y) (is_among y v.back) (ne_eqb x y (λ e. apart (sym own ∙ ap t.owner (sym e) ∙ h.1))) (subst (λ l. is_among y l ≡ false) (sym k.4) was)
  back_still t id other j v w y apart own was Chronicler k Chronicler h = subst (λ l. is_among y l ≡ false) (sym k.4) was
  back_still t id other j v w y apart own was Chronicler k Note h = subst (λ l. is_among y l ≡ false) (sym k.4) was
  back_still t id other j v w y apart own was Chronicler k (NoteOf x) h = subst (λ l. is_among y l ≡ false) (sym k.4) was
  back_still t id other j v w y apart own was Chronicler k Spent h = subst (λ l. is_among y l ≡ false) (sym k.4) was
  back_still t id other j v w y apart own was (Share x) k q h = was
  back_still t id other j v w y apart own was Note k q h = was
  back_still t id other j v w y apart own was (NoteOf x) k q h = was
  back_still t id other j v w y apart own was Spent k q h = was

  -- another seat knows no less, as there is one chronicle
  join_others : (t : Story A) (id other j n : ℕ) (v w u : View A) (ls : List (List A)) → j ≢ id → j ≢ other → (r : Role) → Knows t id v r → Knows t other w w.role → (q : Role) → Knows t j u q
      → Knows (with_told t (told_now r t.told ls) n (back_now r t.back (back_with r w.role v.back))) j u q
  join_others t id other j n v w u ls apart off_other Chronicler k there Chronicler h = absurd (apart (h.0 ∙ sym k.0))
  join_others t id other j n v w u ls apart off_other (Share y) k there Chronicler h = h
  join_others t id other j n v w u ls apart off_other Note k there Chronicler h = h
  join_others t id other j n v w u ls apart off_other (NoteOf y) k there Chronicler h = h
  join_others t id other j n v w u ls apart off_other Spent k there Chronicler h = h
  join_others t id other j n v w u ls apart off_other r k there (Share x) h = (h.0, h.1, h.2, h.3, back_still t id other j v w x off_other h.1 h.4 r k w.role there)
  join_others t id other j n v w u ls apart off_other r k there Note h = h
  join_others t id other j n v w u ls apart off_other r k there (NoteOf x) h = h
  join_others t id other j n v w u ls apart off_other r k there Spent h = h

  enrols_mine : (b c : Bool) (id was vs ws shares : ℕ) → (b ≡ true → (id ≡ was) × (vs ≡ shares)) → (c ≡ true → ws ≡ shares) → (b || c) ≡ true → (id ≡ cond c id was) × (cond c ws vs ≡ shares)
  enrols_mine b true id was vs ws shares mine theirs k = (refl, theirs refl)
  enrols_mine true false id was vs ws shares mine theirs k = mine refl
  enrols_mine false false id was vs ws shares mine theirs k = off k

  enrols_others : (c : Bool) (id j other was us shares : ℕ) → j ≢ other → (c ≡ true → other ≡ was) → (j ≡ was) × (us ≡ shares) → (j ≡ cond c id was) × (us ≡ shares)
  enrols_others true id j other was us shares apart theirs h = absurd (apart (h.0 ∙ sym (theirs refl)))
  enrols_others false id j other was us shares apart theirs h = h

  pub joins : (kept : List A) (id other : ℕ) (v w : View A) → IsTaken w.role → Joins (IsKept concerns kept) id v other w (with_note v w) spent_view
  joins kept id other v w taken s h at apart there =
      let t = h.0 in
      let n = cond w.enrols id t.enroller in
      let mine = h.4 id v at in
      let it : get_elem? s.views other ≡ some w = ⊎_elim (λ (x : (other ≡ id) × (with_note v w ≡ w)). absurd (apart x.0)) (λ (x : (other ≢ id) × (get_elem? s.views other ≡ some w)). x.1) (at_set s.views id other (with_note v w) w there) in
      let theirs = h.4 other w it in
      let now = joined t id v w in (
        now,
        h.1,
        h.2,
        join_told t id other n v w h.3 v.role mine.0 theirs.0,
        all_fit_set_two t now s.views id other (with_note v w) spent_view h.4
            (λ j u far off_other fit. (join_others t id other j n v w u (told_with v.role w.role v.told w.list) far off_other v.role mine.0 theirs.0 u.role fit.0, λ k. enrols_others w.enrols id j other t.enroller u.shares t.shares off_other (λ c. (theirs.1 c).0) (fit.1 k)))
            (join_mine t id n v w (with_note v w) refl refl (known t other w w.role theirs.0) v.role refl refl refl mine.0, λ k. enrols_mine v.enrols w.enrols id t.enroller v.shares w.shares t.shares mine.1 (λ c. (theirs.1 c).1) k)
            (prefix_nil t.since, λ k. off k),
        chronicle_spent (set s.views id (with_note v w)) t.chronicler other w spent_view there taken (chronicle_set s.views t.chronicler id v (with_note v w) at (λ r. r) h.5),
      )
