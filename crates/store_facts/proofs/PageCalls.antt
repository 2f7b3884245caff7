-- The calls on pages, over what a store shows.
use Rattle.std.proofs.Common.{◌≡◌, ◌≢◌, ℕ, zero, suc, ◌+◌, ◌-◌, ◌<◌, ◌≤◌, ◌||◌, ◌==◌, Bool, true, false, not, if◌then◌else◌, ◌⊎◌, inl, inr, List, [], ◌∷◌, count_by, filter, length, set, refl, sym, ap, subst, ◌∙◌, arith, eq-eqb}
use Rattle.std.specs.Prelude.{IfOk, OnOk, Result, Ok, Err, slice_index_or}
use Rattle.std.specs.Result.{is_err}
use Rattle.std.specs.List.{list_any, range_with_len}
use Rattle.std.proofs.lemmas.Bool.{cases_eq, false≢true}
use Rattle.std.proofs.lemmas.List.{get_or-set_other, get_or-set_same}
use Rattle.std.proofs.lemmas.List.Sums.{length-filter}
use Rattle.edge_disk.specs.Disks.{TimePasses}
use Rattle.edge_disk.specs.declared.disk.Disk.{Ghosts}
use Rattle.edge_tally.specs.Counts.{CountsOn}
use Rattle.edge_tally.proofs.Counting.{CountsOn-stay}
use Rattle.edge_disk.specs.Disk.{Tears}
use Rattle.edge_disk.specs.Image.{Image, SameOutside, block_at}
use Rattle.edge_disk.proofs.Images.{SameOutside-refl}
use Rattle.edge_disk.proofs.Phases.{Moments}
use Rattle.page_store.specs.model_kernel.Words.{put}
use Rattle.log_reading.proofs.image_facts_lemmas.Firsts.{ne_test}
use Rattle.log_reading.specs.image_facts.Layout.{pool_at}
use Rattle.log_reading.specs.image_blocks.Logs.{Place}
use Rattle.log_reading.specs.log_facts.Reads.{ReadsOnly}
use Rattle.page_words.specs.log_turn.Standing.{HasCounted, begun_of}
use Rattle.page_words.specs.log_turn.declared.areas.Areas.{Areas}
use Rattle.data_blocks.specs.Ledger.{Ledger, is_held}
use Rattle.page_words.specs.store_books.Between.{OnlyPages}
use Rattle.page_words.specs.store_books.Books.{Books, free_in, is_used, kept_in, kept_names, names, words_of_bytes}
use Rattle.store_facts.specs.State.{IsWhole, State, books}
use Rattle.store_facts.proofs.Holding.{with_held}
use Rattle.store_commit.proofs.Paged.{HasPaged, paged_between, with_counts}

-- MARKS as functions

pub held_put : (marks : List Bool) (block : ℕ) (mark : Bool) → block < length marks → (λ n. slice_index_or (set marks block mark) n false) ≡ put (λ n. slice_index_or marks n false) block mark
held_put marks block mark within = λ i n. each n i
  where
    each : (n : ℕ) → slice_index_or (set marks block mark) n false ≡ (if n == block then mark else slice_index_or marks n false)
    each n = elim (cases_eq n block) as (λ _. slice_index_or (set marks block mark) n false ≡ (if n == block then mark else slice_index_or marks n false)) [
      | inl same ↦
          ap (λ k. slice_index_or (set marks block mark) k false) same ∙ (get_or-set_same marks block mark false within ∙ sym (ap (λ (b : Bool). if b then mark else slice_index_or marks n false) (eq-eqb n block same)))
      | inr apart ↦ get_or-set_other marks block n mark false apart ∙ sym (ap (λ (b : Bool). if b then mark else slice_index_or marks n false) (ne_test n block apart))
    ]

-- of a block that was taken
pub taken_put : {E : Type 0} (r : Result ℕ E) (marks : List Bool) (new : ℕ → Bool) → IfOk r (λ n. (n < length marks) × (new ≡ (λ k. slice_index_or (set marks n true) k false))) → IfOk r (λ n. new ≡ put (λ k. slice_index_or marks k false) n true)
taken_put (Ok n) marks new both = both.1 ∙ held_put marks n true both.0
taken_put (Err e) marks new both = tt

pub taken_within : {E : Type 0} (r : Result ℕ E) (old new : Ledger) → length old.held ≡ old.end → IfOk r (λ n. new ≡ record old { held = set old.held n true }) → IfOk r (λ n. (old.first ≤ n) × (n < old.end))
    → IfOk r (λ n. (n < length old.held) × (is_held new ≡ (λ k. slice_index_or (set old.held n true) k false)))
taken_within (Ok n) old new marked taken range = ((let high = range.1 in omega (arith, high, marked)), ap is_held taken)
taken_within (Err e) old new marked taken range = tt

-- HOW MANY ARE FREE

same_from : (p q : ℕ → Bool) (from n : ℕ) → ((k : ℕ) → from ≤ k → q k ≡ p k) → length (filter q (range_with_len from n)) ≡ length (filter p (range_with_len from n))
same_from p q from zero same = refl
same_from p q from (suc n) same = one_same from (q from) (p from) _ _ (same from (omega arith)) (same_from p q (from + 1) n (λ k low. same k (omega (arith, low))))
  where
    one_same : (x : ℕ) (b c : Bool) (xs ys : List ℕ) → b ≡ c → length xs ≡ length ys → length (if b then x ∷ xs else xs) ≡ length (if c then x ∷ ys else ys)
    one_same x b true xs ys e len = ap (λ (t : Bool). length (if t then x ∷ xs else xs)) e ∙ ap suc len
    one_same x b false xs ys e len = ap (λ (t : Bool). length (if t then x ∷ xs else xs)) e ∙ len

-- one more passes
one_more : (p q : ℕ → Bool) (block from n : ℕ) → p block ≡ false → q block ≡ true → ((k : ℕ) → k ≢ block → q k ≡ p k) → from ≤ block → block < from + n → length (filter q (range_with_len from n)) ≡ length (filter p (range_with_len from n)) + 1
one_more p q block from zero out_old in_new same low high = absurd (omega (arith, low, high))
one_more p q block from (suc n) out_old in_new same low high = by_place (cases_eq from block) (λ above. one_more p q block (from + 1) n out_old in_new same (omega (arith, above)) (omega (arith, high)))
  where
    here : (x : ℕ) (b c : Bool) (xs ys : List ℕ) → b ≡ true → c ≡ false → length xs ≡ length ys → length (if b then x ∷ xs else xs) ≡ length (if c then x ∷ ys else ys) + 1
    here x true true xs ys b c len = absurd (false≢true (sym c))
    here x true false xs ys b c len = omega (arith, len)
    here x false c xs ys b is len = absurd (false≢true b)

    later : (x : ℕ) (b c : Bool) (xs ys : List ℕ) → b ≡ c → length xs ≡ length ys + 1 → length (if b then x ∷ xs else xs) ≡ length (if c then x ∷ ys else ys) + 1
    later x true true xs ys e len = omega (arith, len)
    later x true false xs ys e len = absurd (false≢true (sym e))
    later x false true xs ys e len = absurd (false≢true e)
    later x false false xs ys e len = len

    by_place : (from ≡ block) ⊎ (from ≢ block) → (from < block → length (filter q (range_with_len (from + 1) n)) ≡ length (filter p (range_with_len (from + 1) n)) + 1) → length (filter q (range_with_len from (suc n))) ≡ length (filter p (range_with_len from (suc n))) + 1
    by_place (inl is) rest = here from (q from) (p from) _ _ (ap q is ∙ in_new) (ap p is ∙ out_old) (same_from p q (from + 1) n (λ k above. same k (λ e. absurd (omega (arith, e, is, above)))))
    by_place (inr apart) rest = later from (q from) (p from) _ _ (same from apart) (rest (omega (arith, apart, low)))

not_used : (h h' k : Bool) → h ≡ true → h' ≡ false → (not (h || k) ≡ false) × (not (h' || k) ≡ not k)
not_used true h' k one two = (refl, ap (λ (b : Bool). not (b || k)) two)
not_used false h' k one two = absurd (false≢true one)

-- where a block is given back
pub free_given : {D : Type 0} (block_count : D → ℕ) (st : State D) (block : ℕ) → IsWhole block_count st → is_held st.blocks block ≡ true
    → free_in (books (with_held st (set st.blocks.held block false))) ≡ (if kept_names (books st) block then free_in (books st) else free_in (books st) + 1)
free_given block_count st block w held = by_kept (kept_names (books st) block) refl
  where
    new : Books
    new = books (with_held st (set st.blocks.held block false))

    range : (pool_at ≤ block) × (block < st.blocks.end)
    range = w.held block held

    gone : is_held (record st.blocks { held = set st.blocks.held block false }) block ≡ false
    gone = get_or-set_same st.blocks.held block false false (let high = range.1 in let len = w.marked in omega (arith, high, len))

    others : (k : ℕ) → k ≢ block → not (is_used new k) ≡ not (is_used (books st) k)
    others k apart = ap (λ (b : Bool). not (b || kept_names (books st) k)) (get_or-set_other st.blocks.held block k false false apart)

    by_kept : (k : Bool) → kept_names (books st) block ≡ k → free_in new ≡ (if k then free_in (books st) else free_in (books st) + 1)
    by_kept true kept =
        let both = not_used (is_held st.blocks block) (is_held (record st.blocks { held = set st.blocks.held block false }) block) (kept_names (books st) block) held gone in
        let each : (k : ℕ) → not (is_used new k) ≡ not (is_used (books st) k) = λ k. elim (cases_eq k block) as (λ _. not (is_used new k) ≡ not (is_used (books st) k)) [
          | inl is ↦ ap (λ (n : ℕ). not (is_used new n)) is ∙ (both.1 ∙ (ap not kept ∙ sym (ap (λ (n : ℕ). not (is_used (books st) n)) is ∙ both.0)))
          | inr apart ↦ others k apart
        ] in
        ap (λ (p : ℕ → Bool). count_by p (range_with_len pool_at (st.blocks.end - pool_at))) (λ i k. each k i)
    by_kept false kept =
        let both = not_used (is_held st.blocks block) (is_held (record st.blocks { held = set st.blocks.held block false }) block) (kept_names (books st) block) held gone in
        sym (length-filter (λ n. not (is_used new n)) (range_with_len pool_at (st.blocks.end - pool_at)))
        ∙ (one_more (λ n. not (is_used (books st) n)) (λ n. not (is_used new n)) block pool_at (st.blocks.end - pool_at) both.0 (both.1 ∙ ap not kept) others range.0 (let low = range.0 in let high = range.1 in omega (arith, low, high))
        ∙ ap (λ (n : ℕ). n + 1) (length-filter (λ n. not (is_used (books st) n)) (range_with_len pool_at (st.blocks.end - pool_at))))

-- A READ

module _ {D : Type 0} (disks : Ghosts D) (laws : disks.tells → Moments disks) where
  read_paged : (b : Books) (old new : D) → ReadsOnly disks old new → HasPaged disks (λ n. ⊥) b b.begun old new
  read_paged b old new reads = record {
    moved = λ t. record {
      same = subst (λ (i : Image). SameOutside (λ n. ⊥) (disks.reading old) i) (sym (reads.same_reading t)) (SameOutside-refl (λ n. ⊥) (disks.reading old));
      stop = λ c may. (c, reads.stop t c may, SameOutside-refl (λ n. ⊥) c);
      pool = λ n none. absurd none;
      unnamed = λ n none. absurd none;
    };
    time = reads.time;
    counts = subst (λ k. CountsOn (disks.clock old) k b.begun b.begun) (sym reads.same_clock) (CountsOn-stay (disks.clock old) b.begun);
  }

  pub read_between : (b : Books) (shut : Bool) (old new : D) → b.shut ≡ false → ReadsOnly disks old new
      → OnlyPages disks old new b (with_counts b shut b.begun) b.begun b.begun
  read_between b shut old new working reads = paged_between disks laws (λ n. ⊥) b shut b.begun old new working (read_paged b old new reads)

  -- A WRITE into a block of the pool that no kept record names

  unnamed_by : (found any : Bool) → (found || any) ≡ false → any ≡ false
  unnamed_by true any e = absurd (false≢true (sym e))
  unnamed_by false any e = e

  pub write_between : (st : State D) (areas : Areas) (block : ℕ) (shut : Bool) (new : D) → st.shut ≡ false → HasCounted st.areas areas → pool_at ≤ block → kept_names (books st) block ≡ false
      → (disks.tells → SameOutside (λ n. n ≡ block) (disks.reading st.disk) (disks.reading new)) → (disks.tells → Tears disks.may_leave block st.disk new) → (disks.tells → TimePasses disks st.disk new)
      → CountsOn (disks.clock st.disk) (disks.clock new) (begun_of st.areas) (begun_of areas)
      → OnlyPages disks st.disk new (books st) (books (record st { disk = new; areas = areas; shut = shut })) (books st).begun (begun_of areas)
  write_between st areas block shut new working counted low not_kept same stop time counts =
      subst (λ (p : Place). OnlyPages disks st.disk new (books st) (record (books st) { place = p; shut = shut; begun = begun_of areas }) (books st).begun (begun_of areas)) (sym counted.same_place)
      (paged_between disks laws (λ n. n ≡ block) (books st) shut (begun_of areas) st.disk new working (record {
        moved = λ t. record {
          same = same t;
          stop = stop t;
          pool = λ n is. (omega (arith, low, is));
          unnamed = λ n is. subst (λ k. list_any (names k) (kept_in (books st)) ≡ false) (sym is) (unnamed_by (books st).found (list_any (names block) (kept_in (books st))) not_kept);
        };
        time = time;
        counts = counts;
      }))

-- the words of a block that differs nowhere else
pub words_same : (these : ℕ → Type 0) (old new : Image) (n : ℕ) → SameOutside these old new → (these n → ⊥) → words_of_bytes (block_at new n) ≡ words_of_bytes (block_at old n)
words_same these old new n same out = ap words_of_bytes (same.same n out)

pub words_read : (old new : Image) (n : ℕ) → new ≡ old → words_of_bytes (block_at new n) ≡ words_of_bytes (block_at old n)
words_read old new n same = ap (λ (i : Image). words_of_bytes (block_at i n)) same

pub words_written : (old new : Image) (block : ℕ) (bytes page : List ℕ) → new ≡ set old block bytes → block < length old → words_of_bytes bytes ≡ page → words_of_bytes (block_at new block) ≡ page
words_written old new block bytes page wrote within is = ap (λ (i : Image). words_of_bytes (block_at i block)) wrote ∙ (ap words_of_bytes (get_or-set_same old block bytes [] within) ∙ is)

-- of a call that didn't fail
pub worked : {T E P : Type 0} (r : Result T E) → is_err r ≡ false → OnOk r P → P
worked (Ok x) e p = p
worked (Err x) e p = absurd (false≢true (sym e))
