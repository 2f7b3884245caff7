-- What is stored behind a commit are the kept records of its books.
use Rattle.std.proofs.Common.{◌≡◌, ℕ, ◌≤◌, Bool, true, false, ◌==◌, nat_lt, if◌then◌else◌, List, [], ◌∷◌, ◌++◌, map, filter, refl, sym, ap, subst, ◌∙◌, arith}
use Rattle.std.specs.List.{AllByRecursion, flat_map}
use Rattle.std.proofs.lemmas.Bool.{and_parts, le-leb, leb-true}
use Rattle.std.proofs.lemmas.List.{map-append}
use Rattle.edge_disk.specs.declared.disk.Disk.{Ghosts}
use Rattle.edge_disk.specs.Disk.{Only}
use Rattle.edge_disk.specs.Image.{Image, block_at}
use Rattle.base_types.specs.declared.records.Rec.{Rec}
use Rattle.store_books.proofs.model_kernel_lemmas.Lowering.{greatest_is}
use Rattle.store_books.specs.model_kernel.Choices.{IsBelow, IsClosedChoice}
use Rattle.store_books.specs.model_cut_laws.Agreeing.{nothing}
use Rattle.store_books.specs.model_cut_laws.Records.{commits_of}
use Rattle.store_books.specs.image_facts.Layout.{slot_count}
use Rattle.store_books.specs.image_facts.Logs.{AreFitting}
use Rattle.store_books.specs.image_blocks.Logs.{HasLog, Place}
use Rattle.store_books.specs.image_meaning.Parts.{cut_of}
use Rattle.store_books.specs.image_meaning.Stores.{IsFound, IsHeld, Page}
use Rattle.store_books.specs.log_facts.Areas.{SameAreas}
use Rattle.store_books.specs.log_turn.Standing.{epoch_of, place_of, used_of}
use Rattle.store_books.specs.log_turn.declared.areas.Areas.{Areas}
use Rattle.store_books.specs.Books.{AreSmall, AreStored, Books, IsApart, IsBeforePool, Logged, cut_in, is_small, kept_for, kept_in, kept_of, logged_recs, page_for, recs_in}
use Rattle.store_books.proofs.Keeping.{at_or_above, kept_agree}
use Rattle.store_commit.specs.Ready.{AreAt, TrueAfterLaw, books_after, next_in, roomy_logged}
use Rattle.store_commit.specs.Storing.{HasLogged, new_of, roomy_log}
use Rattle.store_commit.proofs.Agreeing.{greatest_kept}
use Rattle.store_commit.proofs.Choosing.{closed_below}
use Rattle.store_commit.proofs.Committing.{either}
use Rattle.store_commit.proofs.Fitting.{narrow_fit}
use Rattle.store_commit.proofs.Readying.{logged_is, ready_law}
use Rattle.store_commit.proofs.Stays.{all_more, all_weaker}
use Rattle.store_commit.proofs.Unused.{pages_all}

-- LISTS

all_front : {X : Type 0} (P : X → Type 0) (xs : List X) (x : X) → AllByRecursion P (xs ++ x ∷ []) → AllByRecursion P xs × P x
all_front P [] x all = (tt, all.0)
all_front P (y ∷ xs) x all = (let rest = all_front P xs x all.1 in ((all.0, rest.0), rest.1))

all_mapped : {X Y : Type 0} (P : Y → Type 0) (f : X → Y) (xs : List X) → AllByRecursion P (map f xs) → AllByRecursion (λ x. P (f x)) xs
all_mapped P f [] all = tt
all_mapped P f (x ∷ xs) all = (all.0, all_mapped P f xs all.1)

map_holds : {X Y : Type 0} (P : Y → Type 0) (f : X → Y) (xs : List X) → AllByRecursion (λ x. P (f x)) xs → AllByRecursion P (map f xs)
map_holds P f [] all = tt
map_holds P f (x ∷ xs) all = (all.0, map_holds P f xs all.1)

module _ {X : Type 0} (P : X → Type 0) (test : X → Bool) where
  unfilter_one : (x : X) (xs : List X) (b : Bool) → test x ≡ b → (AllByRecursion P (filter test xs) → AllByRecursion (λ y. test y ≡ true → P y) xs) → AllByRecursion P (if b then x ∷ filter test xs else filter test xs)
      → AllByRecursion (λ y. test y ≡ true → P y) (x ∷ xs)
  unfilter_one x xs true e rest all = (λ _. all.0, rest all.1)
  unfilter_one x xs false e rest all = (λ passes. (let clash : false ≡ true = sym e ∙ passes in absurd (cc clash)), rest all)

  -- what holds of those that pass
  all_unfilter : (xs : List X) → AllByRecursion P (filter test xs) → AllByRecursion (λ y. test y ≡ true → P y) xs
  all_unfilter [] all = tt
  all_unfilter (x ∷ xs) all = unfilter_one x xs (test x) refl (all_unfilter xs) all

  refilter_one : (higher : X → Bool) (x : X) (xs : List X) (b : Bool) → higher x ≡ b → (higher x ≡ true → test x ≡ true) → (test x ≡ true → P x) → AllByRecursion P (filter higher xs)
      → AllByRecursion P (if b then x ∷ filter higher xs else filter higher xs)
  refilter_one higher x xs true e lower one rest = (one (lower e), rest)
  refilter_one higher x xs false e lower one rest = rest

  -- holds of those that pass a test that fewer pass
  all_refilter : (higher : X → Bool) → ((x : X) → higher x ≡ true → test x ≡ true) → (xs : List X) → AllByRecursion (λ y. test y ≡ true → P y) xs → AllByRecursion P (filter higher xs)
  all_refilter higher lower [] all = tt
  all_refilter higher lower (x ∷ xs) all = refilter_one higher x xs (higher x) refl (lower x) all.0 (all_refilter higher lower xs all.1)

-- ONE RECORD, in another image

page_moves : (these : ℕ → Type 0) (n : ℕ) (old new : Image) (before after : List Page) (zero_is : Bool)
    → (AllByRecursion (λ (p : Page). these p.block → ⊥) before → AllByRecursion (λ (p : Page). these p.block → ⊥) after)
    → AllByRecursion (λ (p : Page). these p.block → ⊥) ((if zero_is then [] else record { block = n; bytes = block_at old n } ∷ []) ++ before)
    → AllByRecursion (λ (p : Page). these p.block → ⊥) ((if zero_is then [] else record { block = n; bytes = block_at new n } ∷ []) ++ after)
page_moves these n old new before after true rest all = rest all
page_moves these n old new before after false rest all = (all.0, rest all.1)

pages_move : (these : ℕ → Type 0) (old new : Image) (table : List ℕ) → AllByRecursion (λ (p : Page). these p.block → ⊥) (flat_map (page_for old) table) → AllByRecursion (λ (p : Page). these p.block → ⊥) (flat_map (page_for new) table)
pages_move these old new [] all = tt
pages_move these old new (n ∷ table) all = page_moves these n old new (flat_map (page_for old) table) (flat_map (page_for new) table) (n == 0) (pages_move these old new table) all

-- apart from the areas, and held, as the image has it
pub record IsSafe (image : Image) (l : Logged) : Type 0 where
  pub apart : IsApart IsBeforePool (kept_for image l)
  pub held : IsHeld image (kept_for image l)

safe_now : (old new : Image) (l : Logged) → IsApart IsBeforePool (kept_for old l) → IsHeld new (kept_for old l) → IsSafe new l
safe_now old new l apart held = record {
  apart = record { blob = apart.blob; pages = pages_move IsBeforePool old new l.table apart.pages };
  held = record { blob = refl; rest = held.rest; pages = pages_all (IsFound new) new l.table (λ n some there. refl); components = held.components };
}

-- the new one, whose blob and pages are these
safe_new : (old new : Image) (r : Rec) (bytes table : List ℕ) → IsApart IsBeforePool (record { rec = r; blob = bytes; pages = flat_map (page_for old) table }) → IsHeld new (record { rec = r; blob = bytes; pages = flat_map (page_for old) table })
    → IsSafe new (record { rec = r; table = table })
safe_new old new r bytes table apart held = record {
  apart = record { blob = apart.blob; pages = pages_move IsBeforePool old new table apart.pages };
  held = record { blob = refl; rest = held.rest; pages = pages_all (IsFound new) new table (λ n some there. refl); components = held.components };
}

all_both : (image new : Image) (ls : List Logged) → AllByRecursion (λ l. IsApart IsBeforePool (kept_for image l)) ls → AllByRecursion (λ l. IsHeld new (kept_for image l)) ls → AllByRecursion (IsSafe new) ls
all_both image new [] apart held = tt
all_both image new (l ∷ ls) apart held = (safe_now image new l apart.0 held.0, all_both image new ls apart.1 held.1)

raised : (cut p : ℕ → ℕ) → IsBelow cut p → (l : Logged) → at_or_above p l ≡ true → at_or_above cut l ≡ true
raised cut p below l h = le-leb (cut l.rec.entity) l.rec.version (let a : p l.rec.entity ≤ l.rec.version = leb-true (p l.rec.entity) l.rec.version h in let b : cut l.rec.entity ≤ p l.rec.entity = below l.rec.entity in omega (arith, a, b))

roomy_recs : (lt : Bool) (ls ks : List Logged) (r : Rec) (table : List ℕ) → logged_recs ((if lt then ls else ks) ++ record { rec = r; table = table } ∷ []) ≡ (if lt then logged_recs ls else logged_recs ks) ++ r ∷ []
roomy_recs true ls ks r table = map-append (λ (l : Logged). l.rec) ls (record { rec = r; table = table } ∷ [])
roomy_recs false ls ks r table = map-append (λ (l : Logged). l.rec) ks (record { rec = r; table = table } ∷ [])

module _ {D : Type 0} (disks : Ghosts D) (reads_now : (d : D) → disks.may_leave d (disks.reading d)) (b : Books) (areas after : Areas) (old new : D) (r : Rec) (blob : List (List ℕ)) (bytes table : List ℕ)
    (small : Bool) (has : AreAt disks b areas old) (are_small : AreSmall b)
    (logged : HasLogged disks b.count after (roomy_log (used_of areas) (recs_in b) (logged_recs (kept_in b)) ++ r ∷ []) (kept_of (disks.reading old) b ++ new_of (next_in (disks.reading old) b bytes table) r ∷ []) new)
    (only : Only (disks.reading new) (disks.may_leave new)) where
  recs_are : recs_in (books_after b areas after r table small) ≡ roomy_log (used_of areas) (recs_in b) (logged_recs (kept_in b)) ++ r ∷ []
  recs_are = roomy_recs (nat_lt (used_of areas) slot_count) b.logged (kept_in b) r table

  fits : AreFitting b.count (recs_in (books_after b areas after r table small))
  fits = subst (AreFitting b.count) (sym recs_are) logged.stored.fit

  -- the choice didn't fall
  rises : IsBelow (cut_in b) (cut_in (books_after b areas after r table small))
  rises =
      let narrow = narrow_fit b.count (recs_in b) (has.true_books.stored are_small has.working).fit in
      let greatest = greatest_is nothing (commits_of (recs_in b)) narrow in
      let kept_closed : IsClosedChoice nothing (commits_of (logged_recs (kept_in b))) (cut_in b) = subst (λ (rs : List Rec). IsClosedChoice nothing (commits_of rs) (cut_in b)) (sym (logged_is (disks.reading old) b)) (greatest_kept (cut_in b) (recs_in b) greatest).closed in
      let closed : IsClosedChoice nothing (commits_of (roomy_log (used_of areas) (recs_in b) (logged_recs (kept_in b)))) (cut_in b) =
      either (λ (rs : List Rec). IsClosedChoice nothing (commits_of rs) (cut_in b)) (nat_lt (used_of areas) slot_count) (recs_in b) (logged_recs (kept_in b)) greatest.closed kept_closed in
      subst (λ (rs : List Rec). IsBelow (cut_in b) (cut_of rs)) (sym recs_are) (closed_below (roomy_log (used_of areas) (recs_in b) (logged_recs (kept_in b))) r (cut_in b) closed (narrow_fit b.count (roomy_log (used_of areas) (recs_in b) (logged_recs (kept_in b)) ++ r ∷ []) logged.stored.fit))

  kept_safe : AllByRecursion (IsSafe (disks.reading new)) (kept_in b) × IsSafe (disks.reading new) (record { rec = r; table = table })
  kept_safe =
      let apart = all_front (IsApart IsBeforePool) (kept_of (disks.reading old) b) (new_of (next_in (disks.reading old) b bytes table) r) logged.stored.pool in
      let held = all_front (IsHeld (disks.reading new)) (kept_of (disks.reading old) b) (new_of (next_in (disks.reading old) b bytes table) r) (logged.stored.held (disks.reading new) (reads_now new)) in (
        all_both (disks.reading old) (disks.reading new) (kept_in b) (all_mapped (IsApart IsBeforePool) (kept_for (disks.reading old)) (kept_in b) apart.0) (all_mapped (IsHeld (disks.reading new)) (kept_for (disks.reading old)) (kept_in b) held.0),
        safe_new (disks.reading old) (disks.reading new) r bytes table apart.1 held.1,
      )

  now_safe : AllByRecursion (IsSafe (disks.reading new)) (kept_in (books_after b areas after r table small))
  now_safe =
      let passing : Logged → Type 0 = λ l. at_or_above (cut_in b) l ≡ true → IsSafe (disks.reading new) l in
      let all : AllByRecursion passing b.logged = all_unfilter (IsSafe (disks.reading new)) (at_or_above (cut_in b)) b.logged kept_safe.0 in
      let turned : AllByRecursion passing (kept_in b) = all_weaker (IsSafe (disks.reading new)) passing (kept_in b) (λ l safe _. safe) kept_safe.0 in
      let behind : AllByRecursion passing (roomy_logged (used_of areas) b) = either (AllByRecursion passing) (nat_lt (used_of areas) slot_count) b.logged (kept_in b) all turned in
      all_refilter (IsSafe (disks.reading new)) (at_or_above (cut_in b)) (at_or_above (cut_in (books_after b areas after r table small))) (raised (cut_in b) (cut_in (books_after b areas after r table small)) rises)
      (roomy_logged (used_of areas) b ++ record { rec = r; table = table } ∷ [])
      (all_more passing (roomy_logged (used_of areas) b) (record { rec = r; table = table }) behind (λ _. kept_safe.1))

  pub stored_now : AreStored disks b.count (place_of after) (recs_in (books_after b areas after r table small)) (kept_of (disks.reading new) (books_after b areas after r table small)) new
  stored_now = record {
    fit = fits;
    agree = kept_agree (disks.reading new) (books_after b areas after r table small) (narrow_fit b.count (recs_in (books_after b areas after r table small)) fits);
    pool = map_holds (IsApart IsBeforePool) (kept_for (disks.reading new)) (kept_in (books_after b areas after r table small)) (all_weaker (IsSafe (disks.reading new)) (λ l. IsApart IsBeforePool (kept_for (disks.reading new) l)) (kept_in (books_after b areas after r table small)) (λ l safe. safe.apart) now_safe);
    left = λ c may. subst (λ (rs : List Rec). HasLog (place_of after) rs c × SameAreas (disks.reading new) c) (sym recs_are) (logged.stored.left c may);
    front = logged.stored.front;
    held = λ c may. subst (λ (i : Image). AllByRecursion (IsHeld i) (kept_of (disks.reading new) (books_after b areas after r table small))) (sym (only c may))
        (map_holds (IsHeld (disks.reading new)) (kept_for (disks.reading new)) (kept_in (books_after b areas after r table small)) (all_weaker (IsSafe (disks.reading new)) (λ l. IsHeld (disks.reading new) (kept_for (disks.reading new) l)) (kept_in (books_after b areas after r table small)) (λ l safe. safe.held) now_safe));
  }

-- true books stay true
pub true_after : {D : Type 0} (disks : Ghosts D) → ((d : D) → disks.may_leave d (disks.reading d)) → TrueAfterLaw disks
true_after disks reads_now b areas after old new r blob bytes table at can done =
    let same : logged_recs (roomy_logged (used_of areas) b ++ record { rec = r; table = table } ∷ []) ≡ roomy_log (used_of areas) (recs_in b) (logged_recs (kept_in b)) ++ r ∷ [] = roomy_recs (nat_lt (used_of areas) slot_count) b.logged (kept_in b) r table in
    record {
      log = λ working. subst (λ (rs : List Rec). HasLog (place_of after) rs (disks.reading new)) (sym same) done.stands.log;
      left = λ working c may. subst (λ (rs : List Rec). HasLog (place_of after) rs c × SameAreas (disks.reading new) c) (sym same) (done.stands.left c may);
      stored = λ are_small working.
          let both = and_parts b.small (is_small r) are_small.recs in
          let low = are_small.epoch in
          let place : epoch_of areas ≡ b.place.epoch = ap (λ (p : Place). p.epoch) at.place in
          let before : AreSmall b = record { recs = both.0; epoch = (let le = done.epoch in omega (arith, low, le, place)) } in
          stored_now disks reads_now b areas after old new r blob bytes table (is_small r) at before (done.stored (ready_law disks b areas old r blob bytes table at before (can both.1))) done.stable;
    }
