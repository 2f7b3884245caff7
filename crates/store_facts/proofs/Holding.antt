-- Blocks that are held and given back, and how many are free.
use Rattle.std.proofs.Common.{◌≡◌, ◌≢◌, ℕ, ◌<◌, ◌≤◌, ◌-◌, Bool, true, false, not, ◌||◌, List, length, filter, nat_lt, count_by, refl, sym, ap, subst, ◌∙◌, arith}
use Rattle.std.specs.Prelude.{slice_index, IfErr, IfOk, Result, Ok, Err}
use Rattle.std.specs.List.{list_any, range_with_len}
use Rattle.std.proofs.lemmas.List.Sums.{length-filter}
use Rattle.edge_disk.specs.Image.{Image}
use Rattle.page_store.proofs.model_kernel_lemmas.Lowering.{greatest_is, greatest_one}
use Rattle.data_cuts.specs.model_cut_laws.Agreeing.{nothing}
use Rattle.data_cuts.specs.model_cut_laws.Records.{commits_of}
use Rattle.log_reading.specs.image_facts.Layout.{pool_at}
use Rattle.data_blocks.specs.Ledger.{Ledger, is_held, is_named, is_unused, unused_blocks}
use Rattle.page_words.specs.store_books.Between.{Between-stay, OnlyPages}
use Rattle.page_words.specs.store_books.Books.{Logged, cut_in, free_in, is_used, kept_in, kept_names, names, recs_in}
use Rattle.store_facts.specs.Shelves.{is_from}
use Rattle.store_facts.specs.State.{IsWhole, State, books}
use Rattle.store_facts.proofs.Wanted.{uses_named}
use Rattle.std.proofs.lemmas.Bool.{or_parts}
use Rattle.edge_disk.specs.declared.disk.Disk.{Ghosts}

free_by : {D : Type 0} (st : State D) → st.blocks.first ≡ pool_at → ((n : ℕ) → is_named st.blocks n ≡ kept_names (books st) n) → length (unused_blocks st.blocks) ≡ free_in (books st)
free_by st first named =
    let same : is_unused st.blocks ≡ (λ n. not (is_used (books st) n)) = λ i n. each n i in
    length-filter (is_unused st.blocks) (range_with_len st.blocks.first (st.blocks.end - st.blocks.first))
    ∙ (ap (λ (p : ℕ → Bool). count_by p (range_with_len st.blocks.first (st.blocks.end - st.blocks.first))) same
    ∙ ap (λ (k : ℕ). count_by (λ n. not (is_used (books st) n)) (range_with_len k (st.blocks.end - k))) first)
  where
    each : (n : ℕ) → is_unused st.blocks n ≡ not (is_used (books st) n)
    each n = ap (λ (b : Bool). not (is_held st.blocks n || b)) (named n)

-- the choice is the books', and so are the records that are kept
pub cut_is : {D : Type 0} (block_count : D → ℕ) (st : State D) → IsWhole block_count st → slice_index st.cut.0 ≡ cut_in (books st)
cut_is block_count st w =
    greatest_one nothing (commits_of (recs_in (books st))) (slice_index st.cut.0) (cut_in (books st)) w.kept.greatest (greatest_is nothing (commits_of (recs_in (books st))) w.kept.narrow)

pub kept_is : {D : Type 0} (block_count : D → ℕ) (st : State D) → IsWhole block_count st → st.kept ≡ kept_in (books st)
kept_is block_count st w = w.kept.kept ∙ ap (λ (cut : ℕ → ℕ). filter (is_from cut) st.log) (cut_is block_count st w)

-- a block is named exactly where a kept record names it
named_by : (found a b : Bool) → (found ≡ false → a ≡ b) → (found || a) ≡ (found || b)
named_by true a b same = refl
named_by false a b same = same refl

pub named_is : {D : Type 0} (block_count : D → ℕ) (st : State D) → IsWhole block_count st → (n : ℕ) → is_named st.blocks n ≡ kept_names (books st) n
named_is block_count st w n =
    named_by st.blocks.all_named (nat_lt 0 (slice_index st.blocks.names n)) (list_any (names n) (kept_in (books st)))
    (λ read. ap (nat_lt 0) ((w.listed read).counted n) ∙ (uses_named n st.kept ∙ ap (λ (ls : List Logged). list_any (names n) ls) (kept_is block_count st w)))

pub free_is : {D : Type 0} (block_count : D → ℕ) (st : State D) → IsWhole block_count st → length (unused_blocks st.blocks) ≡ free_in (books st)
free_is block_count st w = free_by st w.first (named_is block_count st w)

-- and so it is with other marks
pub free_moves : {D : Type 0} (block_count : D → ℕ) (st : State D) (l : Ledger) (marks : List Bool) → IsWhole block_count st → l ≡ record st.blocks { held = marks } → length (unused_blocks l) ≡ free_in (books (record st { blocks = l }))
free_moves block_count st l marks w is =
    subst (λ (k : Ledger). length (unused_blocks k) ≡ free_in (books (record st { blocks = k }))) (sym is) (free_by (record st { blocks = record st.blocks { held = marks } }) w.first (named_is block_count st w))

pub err_weaker : {T E : Type 0} (r : Result T E) (P Q : E → Type 0) → ((e : E) → P e → Q e) → IfErr r P → IfErr r Q
err_weaker (Ok x) P Q f p = tt
err_weaker (Err e) P Q f p = f e p

-- the store with other marks
abbrev pub with_held : {D : Type 0} → State D → List Bool → State D
with_held st marks = record st { blocks = record st.blocks { held = marks } }

module _ {D : Type 0} (disks : Ghosts D) where
  -- nothing was committed, and nothing done to the disk
  pub held_between : (st : State D) (marks : List Bool) → ((c : Image) → disks.tells → disks.left_since st.disk (disks.clock st.disk) c → disks.may_leave st.disk c)
      → OnlyPages disks st.disk st.disk (books st) (books (with_held st marks)) (books st).begun (books st).begun
  held_between st marks only_now =
      let s = Between-stay disks st.disk (books st) (books st).begun only_now in
      record {
        same_logged = refl;
        same_place = refl;
        same_small = refl;
        same_count = refl;
        same_found = refl;
        same_kept = λ told. refl;
        true_books = λ told right. record { log = right.log; left = right.left; stored = λ small working. right.stored (record { recs = small.recs; epoch = small.epoch }) working };
        shut = λ shut. (shut, refl);
        moments = s.moments;
        later = s.later;
        begun = s.begun;
        written = s.written;
        few = s.few;
        counts = s.counts;
      }

module _ {D : Type 0} (disks : Ghosts D) where
  -- where only the marks of the ledger are others
  pub held_by : (st : State D) (l : Ledger) (marks : List Bool) → l ≡ record st.blocks { held = marks } → ((c : Image) → disks.tells → disks.left_since st.disk (disks.clock st.disk) c → disks.may_leave st.disk c)
      → OnlyPages disks st.disk st.disk (books st) (books (record st { blocks = l })) (books st).begun (books st).begun
  held_by st l marks is only_now =
      subst (λ (k : Ledger). OnlyPages disks st.disk st.disk (books st) (books (record st { blocks = k })) (books st).begun (books st).begun) (sym is)
      (held_between disks st marks only_now)

-- of a block that was taken, or where none was, only marks are others
pub marks_of : {E : Type 0} (P : Type 0) (Q : E → Type 0) (r : Result ℕ E) (old new : Ledger) (f : ℕ → List Bool) → IfOk r (λ n. new ≡ record old { held = f n }) → IfErr r (λ e. P × Q e × (new ≡ old)) → (marks : List Bool) × (new ≡ record old { held = marks })
marks_of P Q (Ok n) old new f taken none = (f n, taken)
marks_of P Q (Err e) old new f taken none = (old.held, none.2)

pub fresh_by : {D E : Type 0} (block_count : D → ℕ) (st : State D) → IsWhole block_count st → (r : Result ℕ E) → IfOk r (λ n. (is_held st.blocks n || is_named st.blocks n) ≡ false) → IfOk r (λ n. (st.blocks.first ≤ n) × (n < st.blocks.end))
    → IfOk r (λ n. (is_held st.blocks n ≡ false) × (kept_names (books st) n ≡ false) × (n ≢ 0))
fresh_by block_count st w (Err e) unused range = tt
fresh_by block_count st w (Ok n) unused range =
    let both = or_parts (is_held st.blocks n) (is_named st.blocks n) unused in
    (both.0, sym (named_is block_count st w n) ∙ both.1, λ zero_is. let low = range.0 in let first = w.first in absurd (omega (arith, low, first, zero_is)))
