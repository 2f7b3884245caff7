-- A line or an item more keeps the rule.
use Rattle.std.proofs.Common.{◌≡◌, ◌≢◌, ℕ, ◌+◌, ◌%◌, ◌^◌, ◌<◌, Bool, false, length-append, List, [], ◌∷◌, ◌++◌, length, set, ap, sym, ◌∙◌, subst, Option, Some, arith}
use Rattle.std.specs.Prelude.{slice_index}
use mathlib.Core.Option.{none}
use mathlib.Core.List.{IsPrefix}
use Rattle.thread_board.specs.declared.views.View.{View}
use Rattle.thread_board.specs.declared.views.PassItem.{PassItem}
use Rattle.thread_board.specs.declared.views.Role.{Role}
use Rattle.thread_board.specs.declared.views.Role.TheVariants.{Note, Commits, Items, Pass}
use Rattle.atomic_table.specs.Table.{step, keeps, Allows}
use Rattle.thread_board.specs.Lines.{StopsLast, has_stop}
use Rattle.thread_board.specs.Rules.{Story, Knows, Fits, IsBegun, IsNoted, Committed, ItemNoted, with_line, with_item}
use Rattle.thread_board.proofs.Beginnings.{stops_push}
use Rattle.thread_history.proofs.Lists.{prefix_push, prefix_self, raised}
use Rattle.thread_history.proofs.Fitting.{all_set, there_set}

module _ {C T : Type 0} (stops : C → Bool) where
  -- A LINE
  abbrev with_commits : Story C T → List C → Story C T
  with_commits t cs = record { commits = cs; items = t.items; passes = t.passes; owner = t.owner; back = t.back }

  commit_others : (t : Story C T) (id j : ℕ) (cs : List C) (u : View C T) → t.owner 0 ≡ id → j ≢ id → (q : Role) → Knows t j u q → Knows (with_commits t cs) j u q
  commit_others t id j cs u own apart Note h = h
  commit_others t id j cs u own apart Commits h = absurd (apart (sym h.1 ∙ own))
  commit_others t id j cs u own apart Items h = h
  commit_others t id j cs u own apart (Pass n) h = h

  commit_begun : (t : Story C T) (c : C) (v : View C T) → IsBegun t v → IsBegun (with_commits t (t.commits ++ c ∷ [])) v
  commit_begun t c v b = record { commits = prefix_push v.commits t.commits c b.commits; items = b.items; shown_commits = prefix_push v.shown_commits t.commits c b.shown_commits; shown_items = b.shown_items }

  pub commits : (slots id : ℕ) (v : View C T) (c : List (ℕ × Unit {0})) (next : Option C) (e : C) → next ≡ Some e → v.role ≡ Commits → has_stop stops v.commits ≡ false → length v.commits < 2 ^ 62
      → Allows (IsNoted stops) slots id (v, c) 0 (λ n. (n + 1) % 2 ^ 64) (Committed next (step slots 0 1 0 none) (v, c))
  commits slots id v c next e named role goes few s h homes at fits =
      let t = h.0 in
      let mine = h.3 id v at in
      let k : Knows t id v Commits = subst (Knows t id v) role mine.0 in
      let long : length v.commits ≡ length t.commits = ap length k.2 in
      let more : length (t.commits ++ e ∷ []) ≡ length t.commits + 1 = length-append t.commits (e ∷ []) in
      let words = ap (λ ws. set ws 0 ((slice_index ws 0 + 1) % 2 ^ 64)) h.1 ∙ ap (λ (n : ℕ). n ∷ t.passes ∷ length t.items ∷ []) (raised (length t.commits) (omega (arith, few, long)) ∙ sym more) in
      let now = with_commits t (t.commits ++ e ∷ []) in
      let w = with_line e v in
      let whole : v.commits ++ e ∷ [] ≡ t.commits ++ e ∷ [] = ap (λ l. l ++ e ∷ []) k.2 in
      let b = commit_begun t e v mine.1 in (
        w,
        keeps,
        tt,
        (
          now,
          words,
          record {
            no_commits = λ is. absurd (omega (arith, is, k.0));
            no_items = h.2.no_items;
            stops_last = subst (λ l. StopsLast stops (l ++ e ∷ [])) k.2 (stops_push stops v.commits e goes);
            few_passes = h.2.few_passes;
            few_items = h.2.few_items;
            back_differ = h.2.back_differ;
            back_drawn = h.2.back_drawn;
          },
          all_set (Fits t) (Fits now) s.views id w h.3
              (λ j u apart fit. (commit_others t id j (t.commits ++ e ∷ []) u k.1 apart u.role fit.0, commit_begun t e u fit.1))
              (subst (Knows now id w) (sym role) (k.0, k.1, whole), record { commits = subst (λ l. IsPrefix l (t.commits ++ e ∷ [])) (sym whole) (prefix_self (t.commits ++ e ∷ [])); items = b.items; shown_commits = b.shown_commits; shown_items = b.shown_items }),
          record {
            commits = λ lt. there_set (λ (u : View C T). u.role ≡ Commits) s.views (t.owner 0) id v w at (λ r. r) (h.4.commits lt);
            items = λ lt. there_set (λ (u : View C T). u.role ≡ Items) s.views (t.owner 1) id v w at (λ r. r) (h.4.items lt);
          },
        ),
        (λ f same. let is : e ≡ f = cc (named, same) in ap (λ g. (with_line g v, c)) is),
      )

  -- AN ITEM
  abbrev with_items : Story C T → List (PassItem T) → Story C T
  with_items t is = record { commits = t.commits; items = is; passes = t.passes; owner = t.owner; back = t.back }

  item_others : (t : Story C T) (id j : ℕ) (is : List (PassItem T)) (u : View C T) → t.owner 1 ≡ id → j ≢ id → (q : Role) → Knows t j u q → Knows (with_items t is) j u q
  item_others t id j is u own apart Note h = h
  item_others t id j is u own apart Commits h = h
  item_others t id j is u own apart Items h = absurd (apart (sym h.1 ∙ own))
  item_others t id j is u own apart (Pass n) h = h

  item_begun : (t : Story C T) (i : PassItem T) (v : View C T) → IsBegun t v → IsBegun (with_items t (t.items ++ i ∷ [])) v
  item_begun t i v b = record { commits = b.commits; items = prefix_push v.items t.items i b.items; shown_commits = b.shown_commits; shown_items = prefix_push v.shown_items t.items i b.shown_items }

  pub adds_item : (slots id : ℕ) (v : View C T) (c : List (ℕ × Unit {0})) (next : Option (PassItem T)) (i : PassItem T) → next ≡ Some i → v.role ≡ Items → length v.items < 2 ^ 62
      → Allows (IsNoted stops) slots id (v, c) 2 (λ n. (n + 1) % 2 ^ 64) (ItemNoted next (step slots 2 1 0 none) (v, c))
  adds_item slots id v c next i named role few s h homes at fits =
      let t = h.0 in
      let mine = h.3 id v at in
      let k : Knows t id v Items = subst (Knows t id v) role mine.0 in
      let long : length v.items ≡ length t.items = ap length k.2 in
      let more : length (t.items ++ i ∷ []) ≡ length t.items + 1 = length-append t.items (i ∷ []) in
      let words = ap (λ ws. set ws 2 ((slice_index ws 2 + 1) % 2 ^ 64)) h.1 ∙ ap (λ (n : ℕ). length t.commits ∷ t.passes ∷ n ∷ []) (raised (length t.items) (omega (arith, few, long)) ∙ sym more) in
      let now = with_items t (t.items ++ i ∷ []) in
      let w = with_item i v in
      let whole : v.items ++ i ∷ [] ≡ t.items ++ i ∷ [] = ap (λ l. l ++ i ∷ []) k.2 in
      let b = item_begun t i v mine.1 in (
        w,
        keeps,
        tt,
        (
          now,
          words,
          record {
            no_commits = h.2.no_commits;
            no_items = λ le. absurd (omega (arith, le, k.0));
            stops_last = h.2.stops_last;
            few_passes = h.2.few_passes;
            few_items = omega (arith, few, long, more);
            back_differ = h.2.back_differ;
            back_drawn = h.2.back_drawn;
          },
          all_set (Fits t) (Fits now) s.views id w h.3
              (λ j u apart fit. (item_others t id j (t.items ++ i ∷ []) u k.1 apart u.role fit.0, item_begun t i u fit.1))
              (subst (Knows now id w) (sym role) (k.0, k.1, whole, k.3), record { commits = b.commits; items = subst (λ l. IsPrefix l (t.items ++ i ∷ [])) (sym whole) (prefix_self (t.items ++ i ∷ [])); shown_commits = b.shown_commits; shown_items = b.shown_items }),
          record {
            commits = λ lt. there_set (λ (u : View C T). u.role ≡ Commits) s.views (t.owner 0) id v w at (λ r. r) (h.4.commits lt);
            items = λ lt. there_set (λ (u : View C T). u.role ≡ Items) s.views (t.owner 1) id v w at (λ r. r) (h.4.items lt);
          },
        ),
        (λ f same. let is : i ≡ f = cc (named, same) in ap (λ g. (with_item g v, c)) is),
      )
