-- A store with true books is ready for a commit.
use Rattle.std.proofs.Common.{◌≡◌, ◌≢◌, ℕ, ◌≤◌, Bool, true, false, ◌||◌, inl, inr, List, [], ◌∷◌, ◌++◌, length, map, Contains, refl, sym, ap, subst, ◌∙◌, arith}
use Rattle.std.specs.Prelude.{slice_index}
use Rattle.std.specs.List.{flat_map, list_any}
use Rattle.std.proofs.lemmas.List.{map-append, get_or_default}
use Rattle.edge_disk.specs.Image.{Image}
use Rattle.base_types.specs.declared.records.Rec.{Rec}
use Rattle.store_books.proofs.model_kernel_lemmas.Lowering.{greatest_is}
use Rattle.store_books.specs.model_cut_laws.Agreeing.{nothing}
use Rattle.store_books.specs.model_cut_laws.Records.{AgreeInRecs, commits_of, recs_from}
use Rattle.store_books.specs.image_facts.Bodies.{blocks_for}
use Rattle.store_books.specs.image_facts.Layout.{pool_at}
use Rattle.store_books.specs.image_facts.Logs.{AreFitting, IsFitting}
use Rattle.store_books.specs.image_blocks.Logs.{Place}
use Rattle.store_books.proofs.image_facts_lemmas.Fits.{fitting_law}
use Rattle.store_books.specs.image_meaning.Parts.{cut_of}
use Rattle.store_books.specs.image_meaning.Stores.{IsFound, Kept, Page, recs_of}
use Rattle.store_books.specs.log_turn.Standing.{epoch_of}
use Rattle.store_books.specs.log_turn.declared.areas.Areas.{Areas}
use Rattle.store_books.specs.Books.{AreApartFrom, AreSmall, AreStored, Books, Logged, cut_in, is_used, kept_for, kept_in, kept_names, kept_of, logged_recs, names, page_for, recs_in}
use Rattle.store_books.proofs.Keeping.{kept_recs}
use Rattle.store_commit.specs.Agreed.{AreAgreed}
use Rattle.store_commit.specs.Ready.{AreAt, CanCommit, ReadyLaw, next_in}
use Rattle.store_commit.specs.Storing.{IsBehind, IsBlobBlock, IsCommitBlock, IsNext, IsReady}
use Rattle.store_commit.proofs.Agreeing.{are_agreed}
use Rattle.store_commit.proofs.Choosing.{cut_rises}
use Rattle.store_commit.proofs.Fitting.{fit_more, fits_kept, kept_fit, narrow_fit}
use Rattle.store_commit.proofs.Unused.{apart_unnamed, pages_all}
use Rattle.std.proofs.lemmas.Bool.{or_parts}
use Rattle.edge_disk.specs.declared.disk.Disk.{Ghosts}

recs_logged : (image : Image) (ls : List Logged) → recs_of (map (kept_for image) ls) ≡ logged_recs ls
recs_logged image [] = refl
recs_logged image (l ∷ ls) = ap (λ (rs : List Rec). l.rec ∷ rs) (recs_logged image ls)

-- the kept records of the books
pub logged_is : (image : Image) (b : Books) → logged_recs (kept_in b) ≡ recs_from (cut_in b) (recs_in b)
logged_is image b = sym (recs_logged image (kept_in b)) ∙ kept_recs image b

module _ {D : Type 0} (disks : Ghosts D) (b : Books) (areas : Areas) (disk : D) (has : AreAt disks b areas disk) (small : AreSmall b) (r : Rec) (blob : List (List ℕ)) (bytes table : List ℕ) (can : CanCommit b r blob bytes table) where
  stored : AreStored disks b.count b.place (recs_in b) (kept_of (disks.reading disk) b) disk
  stored = has.true_books.stored small has.working

  fitting : IsFitting b.count (recs_in b) r
  fitting = fitting_law b.count (recs_in b) r can.count can.range

  fit_all : AreFitting b.count (recs_in b ++ r ∷ [])
  fit_all = fit_more b.count (recs_in b) r stored.fit fitting

  agreed : AreAgreed (recs_in b) (recs_from (cut_in b) (recs_in b)) r
  agreed =
      let narrow = narrow_fit b.count (recs_in b) stored.fit in
      let more = narrow_fit b.count (recs_in b ++ r ∷ []) fit_all in
      are_agreed (recs_in b) r (cut_in b) (cut_of (recs_in b ++ r ∷ [])) (greatest_is nothing (commits_of (recs_in b)) narrow) (greatest_is nothing (commits_of (recs_in b ++ r ∷ [])) more) (cut_rises (recs_in b) r narrow more)

  -- the kept records of the books
  kept_is : recs_of (kept_of (disks.reading disk) b) ≡ recs_from (cut_in b) (recs_in b)
  kept_is = kept_recs (disks.reading disk) b

  more_is : recs_of (kept_of (disks.reading disk) b ++ record { rec = r; blob = bytes; pages = flat_map (page_for (disks.reading disk)) table } ∷ []) ≡ recs_from (cut_in b) (recs_in b) ++ r ∷ []
  more_is = map-append (λ (k : Kept). k.rec) (kept_of (disks.reading disk) b) (record { rec = r; blob = bytes; pages = flat_map (page_for (disks.reading disk)) table } ∷ []) ∙ ap (λ (rs : List Rec). rs ++ r ∷ []) kept_is

  kept_fits : AreFitting b.count (recs_from (cut_in b) (recs_in b))
  kept_fits = kept_fit b.count (cut_in b) (recs_in b) stored.fit

  behind : IsBehind b.count (recs_in b) (kept_of (disks.reading disk) b) (record { rec = r; blob = bytes; pages = flat_map (page_for (disks.reading disk)) table })
  behind = record { fit = fit_all; agree = subst (λ (rs : List Rec). AgreeInRecs (recs_in b ++ r ∷ []) rs) (sym more_is) agreed.agree_more }

  kept_behind : IsBehind b.count (logged_recs (kept_in b)) (kept_of (disks.reading disk) b) (record { rec = r; blob = bytes; pages = flat_map (page_for (disks.reading disk)) table })
  kept_behind = record {
    fit = subst (λ (rs : List Rec). AreFitting b.count (rs ++ r ∷ [])) (sym (logged_is (disks.reading disk) b)) (fit_more b.count (recs_from (cut_in b) (recs_in b)) r kept_fits (fits_kept b.count (cut_in b) (recs_in b) r stored.fit fitting));
    agree = subst (λ (rs : List Rec). AgreeInRecs (logged_recs (kept_in b) ++ r ∷ []) rs) (sym more_is)
        (subst (λ (rs : List Rec). AgreeInRecs (rs ++ r ∷ []) (recs_from (cut_in b) (recs_in b) ++ r ∷ [])) (sym (logged_is (disks.reading disk) b)) agreed.kept_agree_more);
  }

  -- the blocks
  unused : (n : ℕ) → IsBlobBlock r (length blob) n → is_used b n ≡ false
  unused n (i, lt, is) = subst (λ (m : ℕ). is_used b m ≡ false) (sym is) (can.free i lt)

  from_pool : (n : ℕ) → IsBlobBlock r (length blob) n → pool_at ≤ n
  from_pool n (i, lt, is) = (let low = (can.range.needed i (let m = can.many in omega (arith, lt, m))).0 in omega (arith, low, is))

  unnamed_by : (n : ℕ) (found named : Bool) → (found || named) ≡ false → named ≡ false
  unnamed_by n true named e = absurd (let clash : true ≡ false = e in cc clash)
  unnamed_by n false named e = e

  free : AreApartFrom (IsBlobBlock r (length blob)) (kept_of (disks.reading disk) b)
  free = apart_unnamed (disks.reading disk) (IsBlobBlock r (length blob)) (kept_in b) (λ n here zero_is. let low = from_pool n here in absurd (omega (arith, low, zero_is)))
      (λ n here. unnamed_by n b.found (list_any (names n) (kept_in b)) (or_parts (b.held n) (kept_names b n) (unused n here)).1)

  page_held : (n : ℕ) → n ≢ 0 → Contains table n → b.held n ≡ true
  page_held n some (i, lt, is) =
      let at : slice_index table i ≡ n = get_or_default table i 0 n lt ∙ is in
      subst (λ (m : ℕ). b.held m ≡ true) at (can.pages i (λ zero_is. some (sym at ∙ zero_is)))

  page_apart : (n : ℕ) → n ≢ 0 → Contains table n → IsCommitBlock r (length blob) n → ⊥
  page_apart n some there (inl low) = absurd (let from = can.held n (page_held n some there) in omega (arith, from, low))
  page_apart n some there (inr here) = (let clash : true ≡ false = sym (page_held n some there) ∙ (or_parts (b.held n) (kept_names b n) (unused n here)).0 in cc clash)

  next : IsNext b.count (recs_in b) (logged_recs (kept_in b)) (record { rec = r; blob = bytes; pages = flat_map (page_for (disks.reading disk)) table }) blob (kept_of (disks.reading disk) b) (disks.reading disk)
  next = record {
    blob_is = record {
      many = can.many;
      listed = (let n = can.range.numbers in let m = few_blocks r.length can.range.lengths.1 in omega (arith, n, m));
      spelled = can.spelled;
      rest = can.rest;
      components = can.range.components;
    };
    free = free;
    pages_apart = pages_all (λ (p : Page). IsCommitBlock r (length blob) p.block → ⊥) (disks.reading disk) table page_apart;
    pages = pages_all (IsFound (disks.reading disk)) (disks.reading disk) table (λ n some there. refl);
    behind = behind;
    kept_fit = subst (AreFitting b.count) (sym (logged_is (disks.reading disk) b)) kept_fits;
    kept_agree = subst (λ (rs : List Rec). AgreeInRecs (logged_recs (kept_in b)) rs) (sym kept_is) (subst (λ (rs : List Rec). AgreeInRecs rs (recs_from (cut_in b) (recs_in b))) (sym (logged_is (disks.reading disk) b)) agreed.kept_agree);
    kept_behind = kept_behind;
  }
    where
      few_blocks : (len : ℕ) → len ≤ 8192 → blocks_for len ≤ 8
      few_blocks len le = grind (arith, le)

  ready : IsReady disks (next_in (disks.reading disk) b bytes table) areas (logged_recs (kept_in b)) r blob disk
  ready = record {
    logged = record { used = has.used; stored = subst (λ (p : Place). AreStored disks b.count p (recs_in b) (kept_of (disks.reading disk) b) disk) (sym has.place) stored };
    epoch = (let low = small.epoch in let same : epoch_of areas ≡ b.place.epoch = ap (λ (p : Place). p.epoch) has.place in omega (arith, low, same));
    next = next;
  }

pub ready_law : {D : Type 0} (disks : Ghosts D) → ReadyLaw disks
ready_law disks b areas disk r blob bytes table has small can = ready disks b areas disk has small r blob bytes table can
