-- Blocks of pages that are held.
use Rattle.std.proofs.Common.{◌≡◌, ◌≢◌, ℕ, zero, suc, ◌+◌, ◌<◌, ◌≤◌, ◌||◌, ◌==◌, not, Bool, true, false, List, [], ◌∷◌, length, set, take, get_or, inl, inr, refl, sym, ap, subst, ◌∙◌, arith, eqb-true}
use Rattle.std.specs.Prelude.{All, slice_index}
use Rattle.std.specs.List.{list_any}
use Rattle.std.proofs.Math.Bool.{or-false, or_assoc}
use Rattle.std.proofs.lemmas.Bool.{and_parts, cases_eq, false≢true, or_cases}
use Rattle.std.proofs.lemmas.List.{get_or-set_other, get_or-set_same, length-set}
use Rattle.std.proofs.lemmas.List.Folds.{list_any_more}
use Rattle.log_reading.specs.image_facts.Layout.{pool_at}
use Rattle.data_blocks.specs.Ledger.{Ledger, is_held}
use Rattle.page_words.specs.store_books.Books.{Logged}
use Rattle.store_facts.specs.Holds.{HasHeld, names_page}
use Rattle.store_facts.specs.Keeping.{AreListed}
use Rattle.store_facts.specs.Naming.{IsPlace, IsPlaced, is_use}
use Rattle.store_facts.specs.State.{IsWhole, State}
use Rattle.store_facts.proofs.Counting.{use_other, use_same, use_zero}
use Rattle.store_facts.proofs.Holding.{with_held}

-- nothing more
pub held_none : (more : ℕ → Bool) (l : Ledger) → ((n : ℕ) → more n ≡ false) → HasHeld more l l
held_none more l none = record { only = refl; same_size = refl; held = λ n. sym (ap (λ (b : Bool). is_held l n || b) (none n) ∙ or-false (is_held l n)) }

-- those of one thing more
pub held_more : {X : Type 0} (test : ℕ → X → Bool) (xs : List X) (i : ℕ) (d : X) (old mid new : Ledger) → i < length xs → HasHeld (λ n. list_any (test n) (take i xs)) old mid → HasHeld (λ n. test n (get_or xs i d)) mid new
    → HasHeld (λ n. list_any (test n) (take (i + 1) xs)) old new
held_more test xs i d old mid new lt so_far one = record {
  only = one.only ∙ ap (λ (l : Ledger). record l { held = new.held }) so_far.only;
  same_size = one.same_size ∙ so_far.same_size;
  held = λ n.
      one.held n
      ∙ (ap (λ (b : Bool). b || test n (get_or xs i d)) (so_far.held n)
      ∙ (or_assoc (is_held old n) (list_any (test n) (take i xs)) (test n (get_or xs i d)) ∙ ap (λ (b : Bool). is_held old n || b) (sym (list_any_more (test n) xs i d lt))));
}

-- a block is of the range still, and has a mark
pub place_held : (more : ℕ → Bool) (blocks : List ℕ) (i : ℕ) (old mid : Ledger) → All (IsPlace old.first old.end) blocks → HasHeld more old mid → i < length blocks → slice_index blocks i ≢ 0 → (mid.first ≤ slice_index blocks i) × (slice_index blocks i < mid.end)
place_held more blocks i old mid places h lt some =
    let there = places i 0 lt some in
    let first : mid.first ≡ old.first = ap (λ (l : Ledger). l.first) h.only in
    let end : mid.end ≡ old.end = ap (λ (l : Ledger). l.end) h.only in
    (let low = there.0 in omega (arith, low, first), let high = there.1 in omega (arith, high, end))

pub marked_still : (more : ℕ → Bool) (old mid : Ledger) → HasHeld more old mid → length old.held ≡ old.end → length mid.held ≡ mid.end
marked_still more old mid h marked = h.same_size ∙ (marked ∙ sym (ap (λ (l : Ledger). l.end) h.only))

pub places_still : (more : ℕ → Bool) (old mid : Ledger) (blocks : List ℕ) → HasHeld more old mid → All (IsPlace old.first old.end) blocks → All (IsPlace mid.first mid.end) blocks
places_still more old mid blocks h places =
    subst (λ (n : ℕ). All (IsPlace n mid.end) blocks) (sym (ap (λ (l : Ledger). l.first) h.only)) (subst (λ (n : ℕ). All (IsPlace old.first n) blocks) (sym (ap (λ (l : Ledger). l.end) h.only)) places)

-- one block
pub held_one : (old new : Ledger) (block : ℕ) → new ≡ record old { held = set old.held block true } → block < length old.held → block ≢ 0 → HasHeld (λ n. is_use n block) old new
held_one old new block is within some = subst (λ (l : Ledger). HasHeld (λ n. is_use n block) old l) (sym is) (record {
  only = refl;
  same_size = length-set old.held block true;
  held = λ n. elim (cases_eq n block) as (λ _. get_or (set old.held block true) n false ≡ (is_held old n || is_use n block)) [
    | inl same ↦
        ap (λ (k : ℕ). get_or (set old.held block true) k false) same
        ∙ (get_or-set_same old.held block true false within ∙ (or_true (is_held old n) ∙ ap (λ (b : Bool). is_held old n || b) (sym (use_same n block some (sym same)))))
    | inr apart ↦ get_or-set_other old.held block n true false apart ∙ (sym (or-false (is_held old n)) ∙ ap (λ (b : Bool). is_held old n || b) (sym (use_other n block apart)))
  ];
})
  where
    or_true : (b : Bool) → true ≡ (b || true)
    or_true true = refl
    or_true false = refl

pub held_zero : (l : Ledger) (block : ℕ) → block ≡ 0 → HasHeld (λ n. is_use n block) l l
held_zero l block is = held_none (λ n. is_use n block) l (λ n. use_zero n block is)

-- THE BLOCKS ARE IN THE RANGE

place_used : (first end n m : ℕ) → IsPlace first end m → is_use n m ≡ true → (first ≤ n) × (n < end)
place_used first end n m place is =
    let both = and_parts (not (m == 0)) (m == n) is in
    let same : m ≡ n = eqb-true m n both.1 in
    subst (λ (k : ℕ). (first ≤ k) × (k < end)) same (place (λ zero_is. false≢true (sym (ap (λ (k : ℕ). not (k == 0)) zero_is) ∙ both.0)))

any_placed : (first end n : ℕ) (table : List ℕ) → All (IsPlace first end) table → list_any (is_use n) table ≡ true → (first ≤ n) × (n < end)
any_placed first end n [] placed is = absurd (false≢true is)
any_placed first end n (m ∷ table) placed is = elim (or_cases (is_use n m) (list_any (is_use n) table) is) as (λ _. (first ≤ n) × (n < end)) [
  | inl here ↦ place_used first end n m (placed zero m (omega arith)) here
  | inr later ↦ any_placed first end n table (λ i d lt. placed (suc i) d (omega (arith, lt))) later
]

rows_placed : (first end n : ℕ) (rows : List Logged) → All (IsPlaced first end) rows → list_any (names_page n) rows ≡ true → (first ≤ n) × (n < end)
rows_placed first end n [] placed is = absurd (false≢true is)
rows_placed first end n (l ∷ rows) placed is = elim (or_cases (names_page n l) (list_any (names_page n) rows) is) as (λ _. (first ≤ n) × (n < end)) [
  | inl here ↦ any_placed first end n l.table (placed zero l (omega arith)).table here
  | inr later ↦ rows_placed first end n rows (λ i d lt. placed (suc i) d (omega (arith, lt))) later
]

-- A STORE STAYS WHOLE where the pages of its kept records are held

marks_whole : {D : Type 0} (block_count : D → ℕ) (st : State D) (marks : List Bool) → IsWhole block_count st → length marks ≡ length st.blocks.held → ((n : ℕ) → get_or marks n false ≡ true → (pool_at ≤ n) × (n < st.blocks.end)) → IsWhole block_count (with_held st marks)
marks_whole block_count st marks w same range = record {
  within = w.within;
  enough = w.enough;
  most = w.most;
  first = w.first;
  sized = w.sized;
  marked = same ∙ w.marked;
  held = range;
  few = w.few;
  kept = w.kept;
  listed = λ read. (let l = w.listed read in record { placed = l.placed; counted = l.counted });
  working = w.working;
  used = w.used;
}

pub held_whole : {D : Type 0} (block_count : D → ℕ) (st : State D) (ledger : Ledger) → IsWhole block_count st → AreListed st.blocks st.kept → HasHeld (λ n. list_any (names_page n) st.kept) st.blocks ledger → IsWhole block_count (record st { blocks = ledger })
held_whole block_count st ledger w listed h =
    subst (λ (l : Ledger). IsWhole block_count (record st { blocks = l })) (sym h.only) (marks_whole block_count st ledger.held w h.same_size (λ n is. elim (or_cases (is_held st.blocks n) (list_any (names_page n) st.kept) (sym (h.held n) ∙ is)) as (λ _. (pool_at ≤ n) × (n < st.blocks.end)) [
      | inl before ↦ w.held n before
      | inr more ↦ subst (λ (first : ℕ). (first ≤ n) × (n < st.blocks.end)) w.first (rows_placed st.blocks.first st.blocks.end n st.kept listed.placed more)
    ]))
