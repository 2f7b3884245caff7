-- One page more is copied, or has no block.
use Rattle.std.proofs.Common.{◌≡◌, ◌≢◌, ℕ, ◌+◌, ◌<◌, ◌≤◌, ◌==◌, not, ◌||◌, IsTrue, Bool, true, false, cond, inl, inr, List, [], ◌∷◌, zero, suc, length, take, refl, sym, ap, subst, ◌∙◌, arith, eq-eqb, eqb-true}
use Rattle.std.specs.Prelude.{slice_index}
use Rattle.std.proofs.lemmas.Bool.{cases_lt}
use Rattle.std.proofs.Math.Seq.{take-length}
use Rattle.std.proofs.lemmas.List.{get_or_past}
use Rattle.std.proofs.lemmas.List.Sums.{count_by_more_no, count_by_more_yes, sum_by-cons}
use Rattle.page_store.specs.declared.store.PageStore.{Ghosts}
use Rattle.page_store.specs.model_kernel.Words.{put}
use Rattle.page_placing.specs.Placing.{PlacesOne, TakesBlocks}
use Rattle.page_placing.specs.Copying.{AreCopied, CopiesOne, blocks_in}
use Rattle.page_placing.proofs.Placed.{by_eq, here, none_taken, stay_words, taken_more, there, used_then}

pub count_none : (from : List ℕ) (i : ℕ) → i < length from → slice_index from i ≡ 0 → blocks_in (take (i + 1) from) ≡ blocks_in (take i from)
count_none from i lt is = count_by_more_no (λ n. not (n == 0)) from i 0 lt (ap not (eq-eqb (slice_index from i) 0 is))

pub count_some : (from : List ℕ) (i : ℕ) → i < length from → slice_index from i ≢ 0 → blocks_in (take (i + 1) from) ≡ blocks_in (take i from) + 1
count_some from i lt some = count_by_more_yes (λ n. not (n == 0)) from i 0 lt (by_test (slice_index from i == 0) refl)
  where
    by_test : (t : Bool) → (slice_index from i == 0) ≡ t → not (slice_index from i == 0) ≡ true
    by_test true e = absurd (some (eqb-true (slice_index from i) 0 e))
    by_test false e = ap not e

-- as many as there are, at most
pub count_below : (from : List ℕ) (i : ℕ) → blocks_in (take i from) ≤ blocks_in from
count_below from zero = omega arith
count_below [] (suc i) = omega arith
count_below (x ∷ from) (suc i) =
    let rest = count_below from i in
    let first = sum_by-cons (λ y. cond (not (y == 0)) 1 0) x (take i from) in
    let all = sum_by-cons (λ y. cond (not (y == 0)) 1 0) x from in
    omega (arith, rest, first, all)

module _ {B : Type 0} (stores : Ghosts B) (from : List ℕ) where
  -- of the pages below a number exactly those that have a block are copied
  pub record CopiedBelow (below : ℕ) (table : List ℕ) (old new : B) : Type 0 where
    pub each : (p : ℕ) → p < below → slice_index from p ≢ 0 → slice_index table p ≢ 0
    pub none : (p : ℕ) → slice_index table p ≢ 0 → (p < below) × (slice_index from p ≢ 0)
    pub words_are : stores.tells → (p : ℕ) → slice_index table p ≢ 0 → stores.words new (slice_index table p) ≡ stores.words old (slice_index from p)
    pub taken : TakesBlocks stores (blocks_in (take below from)) table old new

  -- and so all of them
  pub copied_all : (below : ℕ) (table : List ℕ) (old new : B) → length from ≡ below → CopiedBelow below table old new → AreCopied stores from table old new
  copied_all below table old new long w = record {
    each = λ p some. elim (cases_lt p below) as (λ _. slice_index table p ≢ 0) [
      | inl lt ↦ w.each p lt some
      | inr past ↦ absurd (some (get_or_past from p 0 (omega (arith, past, long))))
    ];
    none = λ p some. (w.none p some).1;
    words_are = w.words_are;
    taken = subst (λ (xs : List ℕ). TakesBlocks stores (blocks_in xs) table old new) (ap (λ (n : ℕ). take n from) (sym long) ∙ take-length from) w.taken;
  }

  pub none_copied : (table : List ℕ) (b : B) → ((p : ℕ) → slice_index table p ≡ 0) → CopiedBelow 0 table b b
  none_copied table b empty = record {
    each = λ p lt some. absurd (omega (arith, lt));
    none = λ p some. absurd (some (empty p));
    words_are = λ t p some. absurd (some (empty p));
    taken = none_taken stores table b empty;
  }

  -- a page was read, and nothing changed
  pub record Reads (old new : B) : Type 0 where
    pub held : stores.held new ≡ stores.held old
    pub kept : stores.kept_names new ≡ stores.kept_names old
    pub free : stores.free new ≡ stores.free old
    pub words : stores.tells → (n : ℕ) → IsTrue (stores.held old n || stores.kept_names old n) → stores.words new n ≡ stores.words old n

  -- a page that is put behind a read, seen from before it
  pub placed_read : (page : ℕ) (words these table then_table : List ℕ) (old read new : B) → Reads old read → (stores.tells → these ≡ words) → PlacesOne stores page these table then_table read new
      → PlacesOne stores page words table then_table old new
  placed_read page words these table then_table old read new reads same one = record {
    block = one.block;
    some = one.some;
    within = one.within;
    is_set = one.is_set;
    was_free = ap (λ (f : ℕ → Bool). f one.block) (sym reads.held) ∙ one.was_free;
    not_kept = ap (λ (f : ℕ → Bool). f one.block) (sym reads.kept) ∙ one.not_kept;
    is_held = one.is_held ∙ ap (λ (f : ℕ → Bool). put f one.block true) reads.held;
    same_kept = one.same_kept ∙ reads.kept;
    words_are = λ t. one.words_are t ∙ same t;
    same_words = λ t n used no. one.same_words t n (used_then stores old read (λ m held. ap (λ (f : ℕ → Bool). f m) reads.held ∙ held) reads.kept n used) no ∙ reads.words t n used;
    free_is = (let a = one.free_is in let b = reads.free in omega (arith, a, b));
  }

  module _ (i : ℕ) (table then_table : List ℕ) (old mid new : B) (w : CopiedBelow i table old mid) (step : CopiesOne stores from i table then_table mid new)
      (used : (p : ℕ) → slice_index from p ≢ 0 → IsTrue (stores.held old (slice_index from p) || stores.kept_names old (slice_index from p))) (in_from : i < length from) where
    -- a page without a block has none
    copied_none : slice_index from i ≡ 0 → CopiedBelow (i + 1) table old mid
    copied_none is = record {
      each = λ p lt some. by_eq p i (λ same. absurd (some (ap (slice_index from) same ∙ is))) (λ other. w.each p (omega (arith, lt, other)) some);
      none = λ p some. (let m = w.none p some in let lt = m.0 in (omega (arith, lt), m.1));
      words_are = w.words_are;
      taken = subst (λ (k : ℕ). TakesBlocks stores k table old mid) (sym (count_none from i in_from is)) w.taken;
    }

    was_none : slice_index table i ≡ 0
    was_none = by_eq (slice_index table i) 0 (λ is. is) (λ has. (let m = w.none i has in let lt = m.0 in absurd (omega (arith, lt))))

    module _ (some : slice_index from i ≢ 0) where
      abbrev these : List ℕ
      these = stores.words mid (slice_index from i)

      at_here : slice_index then_table i ≡ (step.one some).block
      at_here = here stores (blocks_in (take i from)) i these table then_table old mid new w.taken (step.one some) was_none

      at_there : (p : ℕ) → p ≢ i → slice_index then_table p ≡ slice_index table p
      at_there = there stores (blocks_in (take i from)) i these table then_table old mid new w.taken (step.one some) was_none

      copied_one : CopiedBelow (i + 1) then_table old new
      copied_one = record {
        each = λ p lt has. by_eq p i
            (λ same none. (step.one some).some (sym (ap (slice_index then_table) same ∙ at_here) ∙ none))
            (λ other none. w.each p (omega (arith, lt, other)) has (sym (at_there p other) ∙ none));
        none = λ p has. by_eq p i
            (λ same. (omega (arith, same), (λ none. some (ap (slice_index from) (sym same) ∙ none))))
            (λ other. (let m = w.none p (λ none. has (at_there p other ∙ none)) in let lt = m.0 in (omega (arith, lt), m.1)));
        words_are = λ t p has. by_eq p i
            (λ same. ap (λ k. stores.words new (slice_index then_table k)) same ∙ (ap (stores.words new) at_here ∙ ((step.one some).words_are t
            ∙ (w.taken.same_words t (slice_index from i) (used i some) (λ no. no) ∙ ap (λ k. stores.words old (slice_index from k)) (sym same)))))
            (λ other. (let was : slice_index table p ≢ 0 = (λ none. has (at_there p other ∙ none)) in
            ap (stores.words new) (at_there p other)
            ∙ (stay_words stores (blocks_in (take i from)) i these table then_table old mid new w.taken (step.one some) was_none t p was ∙ w.words_are t p was)));
        taken = subst (λ (k : ℕ). TakesBlocks stores k then_table old new) (sym (count_some from i in_from some))
            (taken_more stores (blocks_in (take i from)) i these table then_table old mid new w.taken (step.one some) was_none);
      }

    pub copied_more : CopiedBelow (i + 1) then_table old new
    copied_more = by_eq (slice_index from i) 0
        (λ is. (let same = step.none is in subst (λ (t : List ℕ). CopiedBelow (i + 1) t old new) (sym same.0) (subst (CopiedBelow (i + 1) table old) (sym same.1) (copied_none is))))
        copied_one
