-- The blocks have one owner behind a commit too.
use Rattle.std.proofs.Common.{◌≡◌, ℕ, zero, suc, ◌≤◌, ◌<◌, Bool, true, false, ◌||◌, nat_le, if◌then◌else◌, inl, inr, ◌⊎◌, List, [], ◌∷◌, ◌++◌, filter, refl, sym, ap, subst, ◌∙◌, arith}
use Rattle.std.specs.Prelude.{Contains, slice_index}
use Rattle.std.proofs.lemmas.Bool.{false≢true, le-leb, leb-true}
use Rattle.kernel_invariant.specs.model_kernel.Choices.{Commit, IsBelow, IsGreatest}
use Rattle.kernel_invariant.proofs.model_kernel_lemmas.Lowering.{greatest_is, rising_cut}
use Rattle.kernel_invariant.specs.model_cut_laws.Agreeing.{from_cut, nothing}
use Rattle.kernel_invariant.specs.model_cut_laws.Records.{commit_of, commits_of}
use Rattle.kernel_invariant.proofs.model_cut_laws_lemmas.Filters.{kept}
use Rattle.kernel_invariant.proofs.model_cut_laws_lemmas.Joins.{same_greatest}
use Rattle.base_types.specs.declared.records.Rec.{Rec}
use Rattle.kernel_invariant.specs.image_facts.Bodies.{blob_blocks}
use Rattle.kernel_invariant.specs.image_facts.Layout.{pool_at}
use Rattle.kernel_invariant.specs.image_facts.Logs.{AreFitting}
use Rattle.kernel_invariant.proofs.image_meaning_lemmas.Choosing.{from_commits}
use Rattle.kernel_invariant.proofs.image_meaning_lemmas.Resting.{one_of}
use Rattle.kernel_invariant.specs.store_books.Books.{Books, Logged, cut_in, is_used, kept_in, kept_names, logged_recs, names, recs_in}
use Rattle.kernel_invariant.specs.store_books.Owning.{AreOwned, NamesPage}
use Rattle.kernel_invariant.proofs.Apart.{any_passes, page_names}
use Rattle.kernel_invariant.proofs.Growing.{fitting_narrow, recs_more}
use Rattle.kernel_invariant.proofs.store_told_lemmas.Naming.{behind, first_in}
use Rattle.kernel_invariant.proofs.Pages.{of_more}
use Rattle.kernel_block_laws.specs.Owning.{PutsRecord}
use Rattle.kernel_invariant.proofs.store_books_lemmas.Owners.{place_in}

-- FILTERS

of_filter : (f : Logged → Bool) (ls : List Logged) (m : Logged) → Contains (filter f ls) m → Contains ls m × (f m ≡ true)
of_filter f [] m (i, lt, at) = absurd (omega (arith, lt))
of_filter f (l ∷ ls) m within = by_test (f l) refl within (of_filter f ls m)
  where
    by_test : (t : Bool) → f l ≡ t → Contains (if t then l ∷ filter f ls else filter f ls) m → (Contains (filter f ls) m → Contains ls m × (f m ≡ true)) → Contains (l ∷ ls) m × (f m ≡ true)
    by_test true e (zero, lt, at) rest = (subst (Contains (l ∷ ls)) at (first_in l ls), ap f (sym at) ∙ e)
    by_test true e (suc i, lt, at) rest = (let h = rest (i, omega (arith, lt), at) in (behind l m ls h.0, h.1))
    by_test false e within rest = (let h = rest within in (behind l m ls h.0, h.1))

in_filter : (f : Logged → Bool) (ls : List Logged) (m : Logged) → Contains ls m → f m ≡ true → Contains (filter f ls) m
in_filter f [] m (i, lt, at) h = absurd (omega (arith, lt))
in_filter f (l ∷ ls) m (zero, lt, at) h = by_test (f l) (ap f at ∙ h)
  where
    by_test : (t : Bool) → t ≡ true → Contains (if t then l ∷ filter f ls else filter f ls) m
    by_test true e = subst (Contains (l ∷ filter f ls)) at (first_in l (filter f ls))
    by_test false e = absurd (false≢true e)
in_filter f (l ∷ ls) m (suc i, lt, at) h = by_test (f l) (in_filter f ls m (i, omega (arith, lt), at) h)
  where
    by_test : (t : Bool) → Contains (filter f ls) m → Contains (if t then l ∷ filter f ls else filter f ls) m
    by_test true rest = behind l m (filter f ls) rest
    by_test false rest = rest

-- WHAT IS KEPT BEHIND A COMMIT

module _ (count : ℕ) (old new : Books) (l : Logged) (log : (new.logged ≡ old.logged ++ l ∷ []) ⊎ (new.logged ≡ kept_in old ++ l ∷ [])) (fit : AreFitting count (recs_in old)) (more : AreFitting count (recs_in new)) where
  old_greatest : IsGreatest nothing (commits_of (recs_in old)) (cut_in old)
  old_greatest = greatest_is nothing (commits_of (recs_in old)) (fitting_narrow count (recs_in old) fit)

  new_greatest : IsGreatest nothing (commits_of (recs_in new)) (cut_in new)
  new_greatest = greatest_is nothing (commits_of (recs_in new)) (fitting_narrow count (recs_in new) more)

  kept_recs_by : (f : Rec → Bool) (ls : List Logged) → logged_recs (filter (λ (m : Logged). f m.rec) ls) ≡ filter f (logged_recs ls)
  kept_recs_by f [] = refl
  kept_recs_by f (m ∷ ms) = by_test (f m.rec) (kept_recs_by f ms)
    where
      by_test : (t : Bool) → logged_recs (filter (λ (k : Logged). f k.rec) ms) ≡ filter f (logged_recs ms)
          → logged_recs (if t then m ∷ filter (λ (k : Logged). f k.rec) ms else filter (λ (k : Logged). f k.rec) ms) ≡ (if t then m.rec ∷ filter f (logged_recs ms) else filter f (logged_recs ms))
      by_test true rest = ap (λ (rs : List Rec). m.rec ∷ rs) rest
      by_test false rest = rest

  kept_commits : commits_of (logged_recs (kept_in old)) ≡ from_cut (cut_in old) (commits_of (recs_in old))
  kept_commits = ap commits_of (kept_recs_by (λ r. nat_le (cut_in old r.entity) r.version) old.logged) ∙ sym (from_commits (cut_in old) (recs_in old))

  kept_greatest : IsGreatest nothing (commits_of (logged_recs (kept_in old))) (cut_in old)
  kept_greatest =
      same_greatest nothing (cut_in old) (commits_of (recs_in old)) (commits_of (logged_recs (kept_in old)))
      (kept (cut_in old) (commits_of (recs_in old)) ∙ ap (from_cut (cut_in old)) (sym kept_commits)) old_greatest

  cut_rises : IsBelow (cut_in old) (cut_in new)
  cut_rises = elim log as (λ _. IsBelow (cut_in old) (cut_in new)) [
    | inl is ↦ rising_cut nothing (commits_of (recs_in old)) (commit_of l.rec ∷ []) (cut_in old) (cut_in new) old_greatest
        (subst (λ (cs : List Commit). IsGreatest nothing cs (cut_in new)) (ap (λ (ls : List Logged). commits_of (logged_recs ls)) is ∙ recs_more old.logged l) new_greatest)
    | inr is ↦ rising_cut nothing (commits_of (logged_recs (kept_in old))) (commit_of l.rec ∷ []) (cut_in old) (cut_in new) kept_greatest
        (subst (λ (cs : List Commit). IsGreatest nothing cs (cut_in new)) (ap (λ (ls : List Logged). commits_of (logged_recs ls)) is ∙ recs_more (kept_in old) l) new_greatest)
  ]

  -- each kept record was kept before, or is the new one
  pub kept_before : (m : Logged) → Contains (kept_in new) m → Contains (kept_in old) m ⊎ (l ≡ m)
  kept_before m within =
      let h = of_filter (λ (k : Logged). nat_le (cut_in new k.rec.entity) k.rec.version) new.logged m within in
      let high = leb-true (cut_in new m.rec.entity) m.rec.version h.1 in
      let rise = cut_rises m.rec.entity in
      let above : nat_le (cut_in old m.rec.entity) m.rec.version ≡ true = le-leb (cut_in old m.rec.entity) m.rec.version (omega (arith, high, rise)) in
      elim log as (λ _. Contains (kept_in old) m ⊎ (l ≡ m)) [
        | inl is ↦ elim (of_more old.logged l m (subst (λ (ls : List Logged). Contains ls m) is h.0)) as (λ _. Contains (kept_in old) m ⊎ (l ≡ m)) [
          | inl was ↦ inl (in_filter (λ (k : Logged). nat_le (cut_in old k.rec.entity) k.rec.version) old.logged m was above)
          | inr new ↦ inr new
        ]
        | inr is ↦ of_more (kept_in old) l m (subst (λ (ls : List Logged). Contains ls m) is h.0)
      ]

-- OWNERS

module _ (count : ℕ) (old new : Books) (tables : ℕ → List ℕ) (l : Logged) (o : AreOwned old tables) (fit : AreFitting count (recs_in old)) (more : AreFitting count (recs_in new)) (p : PutsRecord old new tables l) where
  was_kept : (m : Logged) → Contains (kept_in new) m → Contains (kept_in old) m ⊎ (l ≡ m)
  was_kept = kept_before count old new l p.log fit more

  -- a page of the new record is of its entity's working table
  new_page : (n : ℕ) → NamesPage l.table n → NamesPage (tables l.rec.entity) n
  new_page n (some, within) =
      let at = place_in l.table n within in
      let there : slice_index (tables l.rec.entity) at.0 ≡ n = sym (p.table at.0) ∙ at.1 in
      (some, subst (Contains (tables l.rec.entity)) there (one_of (tables l.rec.entity) at.0 (λ none. some (sym there ∙ none))))

  new_held : (n : ℕ) → NamesPage l.table n → old.held n ≡ true
  new_held n named = (o.held n).1 (l.rec.entity, new_page n named)

  fresh_held : (n : ℕ) → Contains (blob_blocks l.rec) n → old.held n ≡ true → ⊥
  fresh_held n within held = false≢true (sym (p.fresh n within) ∙ ap (λ t. t || kept_names old n) held)

  fresh_kept : (m : Logged) (n : ℕ) → Contains (kept_in old) m → NamesPage m.table n → Contains (blob_blocks l.rec) n → ⊥
  fresh_kept m n within named blob = false≢true (sym (p.fresh n blob) ∙ used)
    where
      or_right : (s t : Bool) → t ≡ true → (s || t) ≡ true
      or_right true t h = refl
      or_right false t h = h

      used : is_used old n ≡ true
      used = or_right (old.held n) (kept_names old n) (or_right old.found _ (any_passes (names n) (kept_in old) m within (page_names m n named)))

  held_back : (n : ℕ) → new.held n ≡ true → old.held n ≡ true
  held_back n held = ap (λ (h : ℕ → Bool). h n) (sym p.held) ∙ held

  pub owned_more : AreOwned new tables
  owned_more = record {
    held = λ n. (λ held. (o.held n).0 (held_back n held), λ named. ap (λ (h : ℕ → Bool). h n) p.held ∙ (o.held n).1 named);
    once = o.once;
    not_blob = λ k m n within too named blob. elim (was_kept k within) as (λ _. ⊥) [
      | inl was ↦ elim (was_kept m too) as (λ _. ⊥) [
        | inl also ↦ o.not_blob k m n was also named blob
        | inr is ↦ fresh_kept k n was named (subst (λ (q : Logged). Contains (blob_blocks q.rec) n) (sym is) blob)
      ]
      | inr is ↦ (let mine : NamesPage l.table n = subst (λ (q : Logged). NamesPage q.table n) (sym is) named in elim (was_kept m too) as (λ _. ⊥) [
        | inl also ↦ o.not_held_blob m n also blob (new_held n mine)
        | inr at ↦ fresh_held n (subst (λ (q : Logged). Contains (blob_blocks q.rec) n) (sym at) blob) (new_held n mine)
      ])
    ];
    not_held_blob = λ k n within blob held. elim (was_kept k within) as (λ _. ⊥) [
      | inl was ↦ o.not_held_blob k n was blob (held_back n held)
      | inr is ↦ fresh_held n (subst (λ (q : Logged). Contains (blob_blocks q.rec) n) (sym is) blob) (held_back n held)
    ];
    kept_once = λ k m i j within too some same. elim (was_kept k within) as (λ _. (k.rec.entity ≡ m.rec.entity) × (i ≡ j)) [
      | inl was ↦ elim (was_kept m too) as (λ _. (k.rec.entity ≡ m.rec.entity) × (i ≡ j)) [
        | inl also ↦ o.kept_once k m i j was also some same
        | inr is ↦ subst (λ (q : Logged). (k.rec.entity ≡ q.rec.entity) × (i ≡ j)) is
            (o.kept_own k l.rec.entity i j was some (same ∙ (ap (λ (q : Logged). slice_index q.table j) (sym is) ∙ p.table j)))
      ]
      | inr is ↦ (let mine : slice_index l.table i ≡ slice_index m.table j = ap (λ (q : Logged). slice_index q.table i) is ∙ same in elim (was_kept m too) as (λ _. (k.rec.entity ≡ m.rec.entity) × (i ≡ j)) [
        | inl also ↦ (
            let there = o.kept_own m l.rec.entity j i also (λ none. some (same ∙ none)) (sym mine ∙ p.table i) in
            (ap (λ (q : Logged). q.rec.entity) (sym is) ∙ sym there.0, sym there.1))
        | inr at ↦ (
            let other : slice_index m.table j ≡ slice_index (tables l.rec.entity) j = ap (λ (q : Logged). slice_index q.table j) (sym at) ∙ p.table j in
            let both = o.once l.rec.entity l.rec.entity i j (λ none. some (ap (λ (q : Logged). slice_index q.table i) (sym is) ∙ (p.table i ∙ none))) (sym (p.table i) ∙ (mine ∙ other)) in
            (ap (λ (q : Logged). q.rec.entity) (sym is ∙ at), both.1))
      ])
    ];
    kept_own = λ k y i j within some same. elim (was_kept k within) as (λ _. (k.rec.entity ≡ y) × (i ≡ j)) [
      | inl was ↦ o.kept_own k y i j was some same
      | inr is ↦ (
          let here : slice_index k.table i ≡ slice_index (tables l.rec.entity) i = ap (λ (q : Logged). slice_index q.table i) (sym is) ∙ p.table i in
          let both = o.once l.rec.entity y i j (λ none. some (here ∙ none)) (sym here ∙ same) in
          (ap (λ (q : Logged). q.rec.entity) (sym is) ∙ both.0, both.1))
    ];
    kept_pool = λ k n within named. elim (was_kept k within) as (λ _. (pool_at ≤ n) × (n < new.count)) [
      | inl was ↦ (let at = o.kept_pool k n was named in let same = p.count in (at.0, (let lt = at.1 in omega (arith, lt, same))))
      | inr is ↦ (let at = p.pool n (new_held n (subst (λ (q : Logged). NamesPage q.table n) (sym is) named)) in let same = p.count in (at.0, (let lt = at.1 in omega (arith, lt, same))))
    ];
  }
