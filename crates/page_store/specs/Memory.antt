-- How a page store in memory keeps its blocks.
use Rattle.std.specs.Prelude.{◌≡◌, ℕ, ◌-◌, ◌<◌, Bool, true, false, not, ◌||◌, ◌==◌, if◌then◌else◌, IsTrue, List, [], length, slice_index_or}
use Rattle.std.proofs.Common.{sym, ap, ◌∙◌, inl, inr}
use Rattle.std.proofs.lemmas.Bool.{cases_lt}
use Rattle.std.proofs.lemmas.List.{get_or_past}
use Rattle.page_store.specs.declared.page.Page.{Page}

-- a place that no block has
abbrev pub no_page : Page
no_page = record { held = false; words = [] }

abbrev pub place_at : List Page → ℕ → Page
place_at pages place = slice_index_or pages place no_page

-- the block with this number: the first has number 1
abbrev pub block_at : List Page → ℕ → Page
block_at pages n = if n == 0 then no_page else place_at pages (n - 1)

abbrev pub is_held : List Page → ℕ → Bool
is_held pages n = (block_at pages n).held

abbrev pub words_at : List Page → ℕ → List ℕ
words_at pages n = (block_at pages n).words

abbrev pub is_free : Page → Bool
is_free page = not page.held

-- every block has 128 words
abbrev pub AreWhole : List Page → Type 0
AreWhole pages = (place : ℕ) → place < length pages → length (place_at pages place).words ≡ 128

-- a block that is held, and that no record can name, has 128 words
pub whole_at : (pages : List Page) (n : ℕ) → AreWhole pages → IsTrue (is_held pages n || false) → length (words_at pages n) ≡ 128
whole_at pages n whole held = by_test (n == 0) held
  where
    by_test : (zero : Bool) → IsTrue ((if zero then no_page else place_at pages (n - 1)).held || false) → length (if zero then no_page else place_at pages (n - 1)).words ≡ 128
    by_test true held = let clash : false ≡ true = held in absurd (cc clash)
    by_test false held = elim (cases_lt (n - 1) (length pages)) [
      | inl within ↦ whole (n - 1) within
      | inr past ↦
          let clash : false ≡ true = sym (ap (λ (p : Page). p.held || false) (get_or_past pages (n - 1) no_page past)) ∙ held in absurd (cc clash)
    ]
