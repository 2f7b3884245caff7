-- One given page more is written.
use Rattle.std.proofs.Common.{◌≡◌, ◌≢◌, ℕ, ◌+◌, ◌<◌, List, Some, sym, ap, ◌∙◌, arith}
use Rattle.std.specs.Prelude.{slice_get, slice_index}
use Rattle.page_store.specs.declared.store.PageStore.{Ghosts}
use Rattle.page_placing.specs.declared.writing.PageWords.{PageWords}
use Rattle.page_placing.specs.Placing.{PlacesOne}
use Rattle.page_placing.specs.Writing.{AreAscending, AreWritten}
use Rattle.page_placing.proofs.Placed.{by_eq, here, none_taken, stay_words, taken_more, there}

some_is : {A : Type 0} (x y : A) → Some x ≡ Some y → x ≡ y
some_is x y e = cc

module _ {B : Type 0} (stores : Ghosts B) (pages : List PageWords) where
  pub none_written : (table : List ℕ) (b : B) → ((p : ℕ) → slice_index table p ≡ 0) → AreWritten stores pages 0 table b b
  none_written table b empty = record {
    each = λ k q lt at. absurd (omega (arith, lt));
    none = λ p some. absurd (some (empty p));
    words_are = λ t k q lt at. absurd (omega (arith, lt));
    taken = none_taken stores table b empty;
  }

  module _ (many : ℕ) (table then_table : List ℕ) (old mid new : B) (q : PageWords) (w : AreWritten stores pages many table old mid) (one : PlacesOne stores q.page q.words table then_table mid new)
      (ascending : AreAscending pages) (at : slice_get pages many ≡ Some q) where
    -- before it, the page had no block
    was_none : slice_index table q.page ≡ 0
    was_none = by_eq (slice_index table q.page) 0 (λ is. is) (λ has.
        let m = w.none q.page has in
        let less : m.1.page < q.page = ascending m.0 many m.1 q m.2 m.3 at in
        let same : m.1.page ≡ q.page = m.4 in
        let no : ⊥ = omega (arith, less, same) in absurd no)

    at_here : slice_index then_table q.page ≡ one.block
    at_here = here stores many q.page q.words table then_table old mid new w.taken one was_none

    at_there : (p : ℕ) → p ≢ q.page → slice_index then_table p ≡ slice_index table p
    at_there = there stores many q.page q.words table then_table old mid new w.taken one was_none

    -- the page is the last of them
    is_last : (k : ℕ) (p : PageWords) → k ≡ many → slice_get pages k ≡ Some p → p ≡ q
    is_last k p same is = some_is p q (sym is ∙ (ap (slice_get pages) same ∙ at))

    not_last : (k : ℕ) (p : PageWords) → k < many → slice_get pages k ≡ Some p → p.page ≢ q.page
    not_last k p below is = (let less : p.page < q.page = ascending k many p q below is at in λ e. (let no : ⊥ = omega (arith, less, e) in no))

    pub written_more : AreWritten stores pages (many + 1) then_table old new
    written_more = record {
      each = λ k p lt is. by_eq k many
          (λ same. (let now : slice_index then_table p.page ≡ one.block = ap (λ (x : PageWords). slice_index then_table x.page) (is_last k p same is) ∙ at_here in λ none. one.some (sym now ∙ none)))
          (λ other. (let below : k < many = omega (arith, lt, other) in
          λ none. w.each k p below is (sym (at_there p.page (not_last k p below is)) ∙ none)));
      none = λ p has. by_eq p q.page
          (λ same. (many, q, omega arith, at, sym same))
          (λ other. (let m = w.none p (λ none. has (at_there p other ∙ none)) in let lt = m.2 in (m.0, m.1, omega (arith, lt), m.3, m.4)));
      words_are = λ t k p lt is. by_eq k many
          (λ same. (let last = is_last k p same is in
          ap (λ (x : PageWords). stores.words new (slice_index then_table x.page)) last ∙ (ap (stores.words new) at_here ∙ (one.words_are t ∙ ap (λ (x : PageWords). x.words) (sym last)))))
          (λ other. (let below : k < many = omega (arith, lt, other) in
          ap (stores.words new) (at_there p.page (not_last k p below is))
          ∙ (stay_words stores many q.page q.words table then_table old mid new w.taken one was_none t p.page (w.each k p below is) ∙ w.words_are t k p below is)));
      taken = taken_more stores many q.page q.words table then_table old mid new w.taken one was_none;
    }
