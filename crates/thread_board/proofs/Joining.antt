-- A join keeps the rule.
use Rattle.std.proofs.Common.{◌≡◌, ◌≢◌, ℕ, ◌≤◌, Bool, true, false, true≢false, ◌||◌, ◌==◌, ne_eqb, List, set, refl, ap, sym, ◌∙◌, subst, ⊎_elim, arith}
use mathlib.Core.Option.{some}
use lib.ListN.{get_elem?}
use Rattle.thread_board.specs.declared.views.View.{View}
use Rattle.thread_board.specs.declared.views.Role.{Role}
use Rattle.thread_board.specs.declared.views.Role.TheVariants.{Note, Commits, Items, Pass}
use Rattle.atomic_table.specs.Table.{Joins}
use Rattle.atomic_table.proofs.Lists.{at_set}
use Rattle.thread_board.specs.Rules.{Story, Knows, Fits, IsTale, IsTaken, IsNoted, first_view, with_note, back_with, commits_with, items_with}
use Rattle.thread_board.proofs.Beginnings.{begun_with, begun_first}
use Rattle.thread_history.specs.Rules.{AllDiffer, is_among}
use Rattle.thread_history.proofs.Fitting.{all_set_two, there_set}

or_false : (a b : Bool) → a ≡ false → b ≡ false → (a || b) ≡ false
or_false true b p q = absurd (true≢false p)
or_false false b p q = q

-- the passes that came back, after a join into a view of that role
abbrev back_now : Role → List ℕ → List ℕ → List ℕ
back_now Note was now = was
back_now Commits was now = was
back_now Items was now = now
back_now (Pass n) was now = was

abbrev AreBack : ℕ → List ℕ → Type 0
AreBack passes back = AllDiffer back × ((n : ℕ) → passes ≤ n → is_among n back ≡ false)

module _ {C T : Type 0} (stops : C → Bool) where
  abbrev with_back : Story C T → List ℕ → Story C T
  with_back t b = record { commits = t.commits; items = t.items; passes = t.passes; owner = t.owner; back = b }

  back_told : (t : Story C T) (other : ℕ) (w : View C T) (bs : List ℕ) → AreBack t.passes t.back → bs ≡ t.back → (q : Role) → Knows t other w q → AreBack t.passes (back_with Items q bs)
  back_told t other w bs h is (Pass n) k =
      ((subst (λ l. is_among n l ≡ false) (sym is) k.3, subst AllDiffer (sym is) h.0), (λ z le. or_false (n == z) (is_among z bs) (ne_eqb n z (λ e. omega (arith, k.1, e, le))) (subst (λ l. is_among z l ≡ false) (sym is) (h.1 z le))))
  back_told t other w bs h is Note k = subst (AreBack t.passes) (sym is) h
  back_told t other w bs h is Commits k = subst (AreBack t.passes) (sym is) h
  back_told t other w bs h is Items k = subst (AreBack t.passes) (sym is) h

  same_tale : (t : Story C T) → IsTale stops t → IsTale stops (with_back t t.back)
  same_tale t tale = record { no_commits = tale.no_commits; no_items = tale.no_items; stops_last = tale.stops_last; few_passes = tale.few_passes; few_items = tale.few_items; back_differ = tale.back_differ; back_drawn = tale.back_drawn }

  join_tale : (t : Story C T) (id other : ℕ) (v w : View C T) → IsTale stops t → (r : Role) → Knows t id v r → Knows t other w w.role → IsTale stops (with_back t (back_now r t.back (back_with r w.role v.back)))
  join_tale t id other v w tale Note k there = same_tale t tale
  join_tale t id other v w tale Commits k there = same_tale t tale
  join_tale t id other v w tale (Pass n) k there = same_tale t tale
  join_tale t id other v w tale Items k there =
      let back = back_told t other w v.back (tale.back_differ, tale.back_drawn) k.3 w.role there in
      record { no_commits = tale.no_commits; no_items = λ le. absurd (omega (arith, le, k.0)); stops_last = tale.stops_last; few_passes = tale.few_passes; few_items = tale.few_items; back_differ = back.0; back_drawn = back.1 }

  join_mine : (t : Story C T) (id : ℕ) (v w both : View C T) (r : Role) → both.commits ≡ commits_with r v.commits w.commits → both.items ≡ items_with r v.items w.items → both.back ≡ back_with r w.role v.back → Knows t id v r
      → Knows (with_back t (back_now r t.back (back_with r w.role v.back))) id both r
  join_mine t id v w both Note commits items back k = back ∙ k
  join_mine t id v w both Commits commits items back k = (k.0, k.1, commits ∙ k.2)
  join_mine t id v w both Items commits items back k = (k.0, k.1, items ∙ k.2, back)
  join_mine t id v w both (Pass n) commits items back k = k

  -- a pass that stays is not among those that came back
  back_still : (t : Story C T) (id other j : ℕ) (v w : View C T) (n : ℕ) → j ≢ other → t.owner n ≡ j → is_among n t.back ≡ false → (r : Role) → Knows t id v r → (q : Role) → Knows t other w q
      → is_among n (back_now r t.back (back_with r q v.back)) ≡ false
  back_still t id other j v w n apart own was Items k (Pass m) h =
      or_false (m == n) (is_among n v.back) (ne_eqb m n (λ e. apart (sym own ∙ ap t.owner (sym e) ∙ h.2))) (subst (λ l. is_among n l ≡ false) (sym k.3) was)
  back_still t id other j v w n apart own was Items k Note h = subst (λ l. is_among n l ≡ false) (sym k.3) was
  back_still t id other j v w n apart own was Items k Commits h = subst (λ l. is_among n l ≡ false) (sym k.3) was
  back_still t id other j v w n apart own was Items k Items h = subst (λ l. is_among n l ≡ false) (sym k.3) was
  back_still t id other j v w n apart own was Note k q h = was
  back_still t id other j v w n apart own was Commits k q h = was
  back_still t id other j v w n apart own was (Pass m) k q h = was

  -- another seat knows no less, as one alone writes items
  join_others : (t : Story C T) (id other j : ℕ) (v w u : View C T) → j ≢ id → j ≢ other → (r : Role) → Knows t id v r → Knows t other w w.role → (q : Role) → Knows t j u q
      → Knows (with_back t (back_now r t.back (back_with r w.role v.back))) j u q
  join_others t id other j v w u apart off_other r k there Note h = h
  join_others t id other j v w u apart off_other r k there Commits h = h
  join_others t id other j v w u apart off_other r k there (Pass n) h = (h.0, h.1, h.2, back_still t id other j v w n off_other h.2 h.3 r k w.role there)
  join_others t id other j v w u apart off_other Items k there Items h = absurd (apart (sym h.1 ∙ k.1))
  join_others t id other j v w u apart off_other Note k there Items h = h
  join_others t id other j v w u apart off_other Commits k there Items h = h
  join_others t id other j v w u apart off_other (Pass n) k there Items h = h

  pub joins : (id other : ℕ) (v w : View C T) → IsTaken w.role → Joins (IsNoted stops) id v other w (with_note v w) first_view
  joins id other v w taken s h at apart there =
      let t = h.0 in
      let both = with_note v w in
      let mine = h.3 id v at in
      let it : get_elem? s.views other ≡ some w = ⊎_elim (λ (x : (other ≡ id) × (both ≡ w)). absurd (apart x.0)) (λ (x : (other ≢ id) × (get_elem? s.views other ≡ some w)). x.1) (at_set s.views id other both w there) in
      let theirs = h.3 other w it in
      let now = with_back t (back_now v.role t.back (back_with v.role w.role v.back)) in (
        now,
        h.1,
        join_tale t id other v w h.2 v.role mine.0 theirs.0,
        all_set_two (Fits t) (Fits now) s.views id other both first_view h.3
            (λ j u far off_other fit. (join_others t id other j v w u far off_other v.role mine.0 theirs.0 u.role fit.0, record { commits = fit.1.commits; items = fit.1.items; shown_commits = fit.1.shown_commits; shown_items = fit.1.shown_items }))
            (join_mine t id v w both v.role refl refl refl mine.0, let b = begun_with t v w mine.1 theirs.1 in record { commits = b.commits; items = b.items; shown_commits = b.shown_commits; shown_items = b.shown_items })
            (refl, begun_first now),
        record {
          commits = λ lt. stays Commits (λ (is : w.role ≡ Commits). subst IsTaken is taken) (t.owner 0) (h.4.commits lt);
          items = λ lt. stays Items (λ (is : w.role ≡ Items). subst IsTaken is taken) (t.owner 1) (h.4.items lt);
        },
      )
    where
      -- a writer's view stays
      stays : (r : Role) → (w.role ≡ r → ⊥) → (seat : ℕ) → (u : View C T) × (get_elem? s.views seat ≡ some u) × (u.role ≡ r)
          → (u : View C T) × (get_elem? (set (set s.views id (with_note v w)) other first_view) seat ≡ some u) × (u.role ≡ r)
      stays r not seat is =
          there_set (λ (u : View C T). u.role ≡ r) (set s.views id (with_note v w)) seat other w first_view there (λ e. absurd (not e))
          (there_set (λ (u : View C T). u.role ≡ r) s.views seat id v (with_note v w) at (λ e. e) is)
