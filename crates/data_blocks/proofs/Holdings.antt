-- Which blocks of a ledger are free after one was taken or given back.
use Rattle.std.proofs.Common.{◌≡◌, ◌≢◌, ℕ, zero, suc, ◌+◌, ◌-◌, ◌<◌, ◌≤◌, Bool, true, false, not, ◌||◌, if◌then◌else◌, eqb, ltb, List, [], ◌∷◌, length, get_or, replicate, set, filter, Contains, refl, sym, ap, ◌∙◌, arith}
use Rattle.std.specs.Prelude.{slice_index, slice_index_or}
use Rattle.std.specs.List.{range_with_len}
use Rattle.std.proofs.lemmas.Bool.Decides.{nat_tests}
use Rattle.std.proofs.lemmas.List.{get_or-set_same, get_or-set_other, length-replicate, length-set}
use Rattle.data_blocks.specs.Ledger.{IsKept, Ledger, is_held, is_named, is_unused, ledger_of, unused_blocks}
use Rattle.data_blocks.specs.Pool.{Pool, Takes, with_block, without_block}
use Rattle.data_blocks.proofs.Blocks.{Passes, passing, passing_all, passing_none, passing_with, passing_within, passing_without, with_block_first}

-- a list without what isn't in it
without_absent : (block : ℕ) (xs : List ℕ) → (Contains xs block → ⊥) → without_block block xs ≡ xs
without_absent block [] out = refl
without_absent block (x ∷ xs) out =
    let apart : x ≢ block = λ is. out (0, omega arith, is) in
    let no : eqb x block ≡ false = grind (arith, nat_tests) in
    let rest = without_absent block xs (λ (i, lt, is). out (suc i, omega (arith, lt), is)) in
    rw (no, rest) refl

-- a free block passes the test
pub free_passes : (p : ℕ → Bool) (from n block : ℕ) → Contains (passing p from n) block → Passes p from n block
free_passes p from n block (i, within, is) =
    let found : Passes p from n (get_or (passing p from n) i block) = passing_within p from n i block within in
    record { low = omega (arith, found.low, is); high = omega (arith, found.high, is); passes = sym (ap p is) ∙ found.passes }

use_apart : (held : Bool) (named : Bool) → (not (held || named)) ≡ true → (held || named) ≡ false
use_apart true named e = absurd (let clash : false ≡ true = e in cc clash)
use_apart false true e = absurd (let clash : false ≡ true = e in cc clash)
use_apart false false e = refl

-- what is said of a free block
pub record IsUnused (l : Ledger) (block : ℕ) : Type 0 where
  pub low : l.first ≤ block
  pub high : block < l.end
  pub unused : (is_held l block || is_named l block) ≡ false

module _ (pool : Pool) (held : List Bool) (names : List ℕ) (all_named : Bool) (kept : IsKept pool held names all_named) (pool' : Pool) (block : ℕ) (first : pool'.first ≡ pool.first) (end : pool'.end ≡ pool.end) where
  -- A BLOCK THAT IS TAKEN
  module _ (lowest : pool.blocks ≡ block ∷ pool'.blocks) (takes : Takes block pool pool') where
    pub taken_unused : IsUnused (ledger_of pool held names all_named) block
    taken_unused =
        let there : Contains (unused_blocks (ledger_of pool held names all_named)) block = rw (← kept.free) takes.was_free in
        let passes = free_passes (is_unused (ledger_of pool held names all_named)) pool.first (pool.end - pool.first) block there in
        record {
          low = passes.low;
          high = omega (arith, passes.low, passes.high);
          unused = use_apart (slice_index_or held block false) (is_named (ledger_of pool held names all_named) block) passes.passes;
        }

    pub taken_kept : IsKept pool' (set held block true) names all_named
    taken_kept =
        let u = taken_unused in
        let within : block < length held = omega (arith, u.high, kept.marks) in
        record {
          marks = length-set held block true ∙ (kept.marks ∙ sym end);
          counts = kept.counts ∙ sym end;
          free = tail_free within;
        }
      where
        tail_free : block < length held → pool'.blocks ≡ unused_blocks (ledger_of pool' (set held block true) names all_named)
        tail_free within =
            let q : ℕ → Bool = is_unused (ledger_of pool (set held block true) names all_named) in
            let mine : slice_index_or (set held block true) block false ≡ true = get_or-set_same held block true false within in
            let now_used : q block ≡ false = ap (λ (b : Bool). not (b || is_named (ledger_of pool held names all_named) block)) mine in
            let others : (k : ℕ) → k ≢ block → q k ≡ is_unused (ledger_of pool held names all_named) k = λ k apart. ap (λ (b : Bool). not (b || is_named (ledger_of pool held names all_named) k)) (get_or-set_other held block k true false apart) in
            let range : List ℕ = range_with_len pool.first (pool.end - pool.first) in
            let fewer : filter q range ≡ without_block block (unused_blocks (ledger_of pool held names all_named)) = passing_without (is_unused (ledger_of pool held names all_named)) q block now_used others range in
            let gone : Contains pool'.blocks block → ⊥ = λ there. ((takes.free_now block).0 there).1 refl in
            let same_block : eqb block block ≡ true = grind (arith, nat_tests) in
            let back : without_block block (block ∷ pool'.blocks) ≡ pool'.blocks = rw same_block (without_absent block pool'.blocks gone) in
            sym (ap (λ (r : List ℕ). filter q r) (rw (first, end) refl) ∙ (fewer ∙ (ap (without_block block) (sym kept.free) ∙ (ap (without_block block) lowest ∙ back))))

-- A BLOCK THAT IS GIVEN BACK
module _ (pool : Pool) (held : List Bool) (names : List ℕ) (all_named : Bool) (kept : IsKept pool held names all_named) (block : ℕ) (low : pool.first ≤ block) (high : block < pool.end) (is_held : slice_index_or held block false ≡ true) where
  was_used : is_unused (ledger_of pool held names all_named) block ≡ false
  was_used = ap (λ (b : Bool). not (b || is_named (ledger_of pool held names all_named) block)) is_held

  -- it isn't free
  pub given_not_free : Contains pool.blocks block → ⊥
  given_not_free there =
      let inside : Contains (unused_blocks (ledger_of pool held names all_named)) block = rw (← kept.free) there in
      let passes = free_passes (is_unused (ledger_of pool held names all_named)) pool.first (pool.end - pool.first) block inside in
      let clash : false ≡ true = sym was_used ∙ passes.passes in absurd (cc clash)

  others : (k : ℕ) → k ≢ block → is_unused (ledger_of pool (set held block false) names all_named) k ≡ is_unused (ledger_of pool held names all_named) k
  others k apart = ap (λ (b : Bool). not (b || is_named (ledger_of pool held names all_named) k)) (get_or-set_other held block k false false apart)

  now : is_unused (ledger_of pool (set held block false) names all_named) block ≡ not (is_named (ledger_of pool held names all_named) block)
  now = ap (λ (b : Bool). not (b || is_named (ledger_of pool held names all_named) block)) (get_or-set_same held block false false (omega (arith, high, kept.marks)))

  -- unless it is named it is free
  pub given_kept : is_named (ledger_of pool held names all_named) block ≡ false → IsKept (record pool { blocks = with_block block pool.blocks }) (set held block false) names all_named
  given_kept unnamed = record {
    marks = length-set held block false ∙ kept.marks;
    counts = kept.counts;
    free = ap (with_block block) kept.free ∙ sym (passing_with (is_unused (ledger_of pool held names all_named)) (is_unused (ledger_of pool (set held block false) names all_named)) pool.first (pool.end - pool.first) block low (omega (arith, low, high)) was_used
        (now ∙ ap not unnamed) others);
  }

-- NOTHING IS HELD, and all count as named
all_used : (held : Bool) → not (held || true) ≡ false
all_used true = refl
all_used false = refl

pub none_kept : (pool : Pool) (held : List Bool) (names : List ℕ) → length held ≡ pool.end → length names ≡ pool.end → pool.blocks ≡ [] → IsKept pool held names true
none_kept pool held names marks counts none = record {
  marks = marks;
  counts = counts;
  free = none ∙ sym (passing_none (is_unused (ledger_of pool held names true)) pool.first (pool.end - pool.first) (λ k. all_used (slice_index_or held k false)));
}

-- and none is named

replicated : {A : Type 0} (n i : ℕ) (a : A) → get_or (replicate n a) i a ≡ a
replicated zero i a = refl
replicated (suc n) zero a = refl
replicated (suc n) (suc i) a = replicated n i a

pub all_kept : (pool : Pool) (count : ℕ) → count ≡ pool.end → pool.blocks ≡ range_with_len pool.first (pool.end - pool.first) → IsKept pool (replicate count false) (replicate count 0) false
all_kept pool count is blocks = record {
  marks = length-replicate count false ∙ is;
  counts = length-replicate count 0 ∙ is;
  free = blocks ∙ sym (passing_all (is_unused (ledger_of pool (replicate count false) (replicate count 0) false)) pool.first (pool.end - pool.first) (λ k low high. unmarked k));
}
  where
    unmarked : (k : ℕ) → is_unused (ledger_of pool (replicate count false) (replicate count 0) false) k ≡ true
    unmarked k = ap (λ (h : Bool). not (h || ltb 0 (slice_index (replicate count 0) k))) (replicated count k false) ∙ ap (λ (n : ℕ). not (ltb 0 n)) (replicated count k 0)

-- A BLOCK THAT IS NAMED, or named once less

pub unnamed : (all_named named : Bool) (count : ℕ) → all_named ≡ false → (0 < count → named ≡ true) → named ≡ false → (all_named || ltb 0 count) ≡ false
unnamed true named count all tell not_named = absurd (let clash : false ≡ true = sym all in cc clash)
unnamed false named zero all tell not_named = refl
unnamed false named (suc count) all tell not_named = absurd (let yes = tell (omega arith) in let clash : false ≡ true = sym not_named ∙ yes in cc clash)

pub named_used : (h a : Bool) (n : ℕ) → 0 < n → not (h || (a || ltb 0 n)) ≡ false
named_used true a n some = refl
named_used false true n some = refl
named_used false false n some = (let is : ltb 0 n ≡ true = grind (arith, nat_tests) in ap not is)

pub last_unused : (h a named : Bool) (n : ℕ) → h ≡ false → a ≡ false → (0 < n → named ≡ true) → named ≡ false → not (h || (a || ltb 0 n)) ≡ true
last_unused true a named n held all tell not_named = absurd (let clash : false ≡ true = sym held in cc clash)
last_unused false a named n held all tell not_named = ap not (unnamed a named n all tell not_named)

module _ (pool : Pool) (held : List Bool) (names : List ℕ) (all_named : Bool) (kept : IsKept pool held names all_named) (block count : ℕ) (low : pool.first ≤ block) (high : block < pool.end) where
  others_named : (k : ℕ) → k ≢ block → is_unused (ledger_of pool held (set names block count) all_named) k ≡ is_unused (ledger_of pool held names all_named) k
  others_named k apart = ap (λ (n : ℕ). not (slice_index_or held k false || (all_named || ltb 0 n))) (get_or-set_other names block k count 0 apart)

  now_named : is_unused (ledger_of pool held (set names block count) all_named) block ≡ not (slice_index_or held block false || (all_named || ltb 0 count))
  now_named = ap (λ (n : ℕ). not (slice_index_or held block false || (all_named || ltb 0 n))) (get_or-set_same names block count 0 (omega (arith, high, kept.counts)))

  with_names : (pool' : Pool) → pool'.end ≡ pool.end → pool'.blocks ≡ unused_blocks (ledger_of pool' held (set names block count) all_named) → IsKept pool' held (set names block count) all_named
  with_names pool' end free = record { marks = kept.marks ∙ sym end; counts = length-set names block count ∙ (kept.counts ∙ sym end); free = free }

  -- it isn't free any more
  pub named_kept : (pool' : Pool) → pool'.first ≡ pool.first → pool'.end ≡ pool.end → pool'.blocks ≡ without_block block pool.blocks → 0 < count → IsKept pool' held (set names block count) all_named
  named_kept pool' first end fewer some =
      let q : ℕ → Bool = is_unused (ledger_of pool held (set names block count) all_named) in
      let range : List ℕ = range_with_len pool.first (pool.end - pool.first) in
      let used : q block ≡ false = now_named ∙ named_used (slice_index_or held block false) all_named count some in
      let left : filter q range ≡ without_block block (unused_blocks (ledger_of pool held names all_named)) = passing_without (is_unused (ledger_of pool held names all_named)) q block used others_named range in
      with_names pool' end (fewer ∙ (ap (without_block block) kept.free ∙ (sym left ∙ ap (λ (r : List ℕ). filter q r) (rw (first, end) refl))))

  -- a block that isn't free stays out of the pool
  pub named_before : (Contains pool.blocks block → ⊥) → 0 < count → IsKept pool held (set names block count) all_named
  named_before out some = named_kept pool refl refl (sym (without_absent block pool.blocks out)) some

  -- named for the last time, it is free
  pub unnamed_free : is_unused (ledger_of pool held names all_named) block ≡ false → not (slice_index_or held block false || (all_named || ltb 0 count)) ≡ true
      → IsKept (record pool { blocks = with_block block pool.blocks }) held (set names block count) all_named
  unnamed_free was free =
      with_names (record pool { blocks = with_block block pool.blocks }) refl
      (ap (with_block block) kept.free ∙ sym (passing_with (is_unused (ledger_of pool held names all_named)) (is_unused (ledger_of pool held (set names block count) all_named)) pool.first (pool.end - pool.first) block low (omega (arith, low, high)) was (now_named ∙ free) others_named))

  -- a block that is named isn't free
  pub named_not_unused : 0 < slice_index names block → is_unused (ledger_of pool held names all_named) block ≡ false
  named_not_unused some = named_used (slice_index_or held block false) all_named (slice_index names block) some

  -- what isn't unused isn't free
  pub used_not_free : is_unused (ledger_of pool held names all_named) block ≡ false → Contains pool.blocks block → ⊥
  used_not_free was there =
      let inside : Contains (unused_blocks (ledger_of pool held names all_named)) block = rw (← kept.free) there in
      let passes = free_passes (is_unused (ledger_of pool held names all_named)) pool.first (pool.end - pool.first) block inside in
      let clash : false ≡ true = sym was ∙ passes.passes in absurd (cc clash)

-- A BLOCK THAT IS HELD from now on
module _ (pool : Pool) (held : List Bool) (names : List ℕ) (all_named : Bool) (kept : IsKept pool held names all_named) (block : ℕ) (high : block < pool.end) where
  others_held : (k : ℕ) → k ≢ block → is_unused (ledger_of pool (set held block true) names all_named) k ≡ is_unused (ledger_of pool held names all_named) k
  others_held k apart = ap (λ (b : Bool). not (b || is_named (ledger_of pool held names all_named) k)) (get_or-set_other held block k true false apart)

  pub held_kept : (pool' : Pool) → pool'.first ≡ pool.first → pool'.end ≡ pool.end → pool'.blocks ≡ without_block block pool.blocks → IsKept pool' (set held block true) names all_named
  held_kept pool' first end fewer =
      let q : ℕ → Bool = is_unused (ledger_of pool (set held block true) names all_named) in
      let range : List ℕ = range_with_len pool.first (pool.end - pool.first) in
      let used : q block ≡ false = ap (λ (b : Bool). not (b || is_named (ledger_of pool held names all_named) block)) (get_or-set_same held block true false (omega (arith, high, kept.marks))) in
      let left : filter q range ≡ without_block block (unused_blocks (ledger_of pool held names all_named)) = passing_without (is_unused (ledger_of pool held names all_named)) q block used others_held range in
      record {
        marks = length-set held block true ∙ (kept.marks ∙ sym end);
        counts = kept.counts ∙ sym end;
        free = fewer ∙ (ap (without_block block) kept.free ∙ (sym left ∙ ap (λ (r : List ℕ). filter q r) (rw (first, end) refl)));
      }

  pub held_before : (Contains pool.blocks block → ⊥) → IsKept pool (set held block true) names all_named
  held_before out = held_kept pool refl refl (sym (without_absent block pool.blocks out))

-- NOT ALL COUNT AS NAMED any more: from some block on those that are unused are free
pub record AreFreedFrom (first end : ℕ) (held : List Bool) (names : List ℕ) (pool : Pool) (i : ℕ) : Type 0 where
  pub same_first : pool.first ≡ first
  pub same_end : pool.end ≡ end
  pub freed : pool.blocks ≡ passing (is_unused (ledger_of pool held names false)) i (end - i)

module _ (first end : ℕ) (held : List Bool) (names : List ℕ) (pool : Pool) (i : ℕ) (h : AreFreedFrom first end held names pool (i + 1)) (high : i < end) where
  -- a block before them isn't free
  pub not_freed : Contains pool.blocks i → ⊥
  not_freed there =
      let inside : Contains (passing (is_unused (ledger_of pool held names false)) (i + 1) (end - (i + 1))) i = rw (← h.freed) there in
      let passes = free_passes (is_unused (ledger_of pool held names false)) (i + 1) (end - (i + 1)) i inside in
      let low = passes.low in omega (arith, low)

  one_less : end - i ≡ suc (end - (i + 1))
  one_less = omega (arith, high)

  by_here : (b : Bool) → is_unused (ledger_of pool held names false) i ≡ b → passing (is_unused (ledger_of pool held names false)) i (suc (end - (i + 1))) ≡ (if b then i ∷ passing (is_unused (ledger_of pool held names false)) (i + 1) (end - (i + 1)) else passing (is_unused (ledger_of pool held names false)) (i + 1) (end - (i + 1)))
  by_here b e = rw e refl

  pub freed_more : is_unused (ledger_of pool held names false) i ≡ true → AreFreedFrom first end held names (record pool { blocks = with_block i pool.blocks }) i
  freed_more unused = record {
    same_first = h.same_first;
    same_end = h.same_end;
    freed =
        ap (with_block i) h.freed
        ∙ (with_block_first (is_unused (ledger_of pool held names false)) (i + 1) (end - (i + 1)) i (omega arith)
        ∙ (sym (by_here true unused) ∙ ap (passing (is_unused (ledger_of pool held names false)) i) (sym one_less)));
  }

  pub freed_same : is_unused (ledger_of pool held names false) i ≡ false → AreFreedFrom first end held names pool i
  freed_same used = record {
    same_first = h.same_first;
    same_end = h.same_end;
    freed = h.freed ∙ (sym (by_here false used) ∙ ap (passing (is_unused (ledger_of pool held names false)) i) (sym one_less));
  }

-- none yet
pub freed_none : (first end i : ℕ) (held : List Bool) (names : List ℕ) (pool : Pool) → pool.first ≡ first → pool.end ≡ end → end ≤ i → pool.blocks ≡ [] → AreFreedFrom first end held names pool i
freed_none first end i held names pool same_first same_end past none = record {
  same_first = same_first;
  same_end = same_end;
  freed = none ∙ ap (passing (is_unused (ledger_of pool held names false)) i) (let e : 0 ≡ end - i = omega (arith, past) in e);
}

-- where all count as named none is free
pub none_free : (pool : Pool) (held : List Bool) (names : List ℕ) → IsKept pool held names true → pool.blocks ≡ []
none_free pool held names kept = kept.free ∙ passing_none (is_unused (ledger_of pool held names true)) pool.first (pool.end - pool.first) (λ k. all_used (slice_index_or held k false))

-- a block that is marked, or counted, isn't unused
pub marked_used : (held : List Bool) (names : List ℕ) (pool : Pool) (i : ℕ) → slice_index_or held i false ≡ true → is_unused (ledger_of pool held names false) i ≡ false
marked_used held names pool i marked = ap (λ (b : Bool). not (b || is_named (ledger_of pool held names false) i)) marked

pub counted_used : (held : List Bool) (names : List ℕ) (pool : Pool) (i : ℕ) → 0 < slice_index names i → is_unused (ledger_of pool held names false) i ≡ false
counted_used held names pool i some = named_used (slice_index_or held i false) false (slice_index names i) some
