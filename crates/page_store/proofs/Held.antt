-- What a write to one block changes of what is held and of the words.
use Rattle.std.proofs.Common.{◌≡◌, ◌≢◌, ℕ, suc, ◌+◌, ◌-◌, ◌<◌, true, false, not, cond, eqb, List, [], ◌∷◌, length, get_or, set, refl, sym, ap, ◌∙◌, inl, inr, count_by, zero-add, arith}
use Rattle.std.proofs.lemmas.Bool.{cases_eq, cases_lt}
use Rattle.std.proofs.lemmas.Bool.Decides.{nat_tests}
use Rattle.std.proofs.lemmas.List.{get_or_default, get_or_past, get_or-set_same, get_or-set_other}
use Rattle.std.proofs.lemmas.List.Sums.{sum_by-set, sum_by-cons}
use Rattle.page_store.specs.declared.page.Page.{Page}
use Rattle.page_store.specs.Memory.{no_page, place_at, block_at, is_held, is_free}

-- the block with a number above 0
at_place : (pages : List Page) (n : ℕ) → n ≢ 0 → block_at pages n ≡ place_at pages (n - 1)
at_place pages n apart = let no : eqb n 0 ≡ false = grind (arith, nat_tests) in rw no refl

-- a block that is held has a number above 0
pub held_above : (pages : List Page) (n : ℕ) → is_held pages n ≡ true → 0 < n
held_above pages n held = elim (cases_eq n 0) [
  | inl zero ↦ let clash : false ≡ true = sym (ap (is_held pages) zero) ∙ held in absurd (cc clash)
  | inr apart ↦ omega arith
]

-- and a place among them
pub held_within : (pages : List Page) (n : ℕ) → is_held pages n ≡ true → n - 1 < length pages
held_within pages n held = elim (cases_lt (n - 1) (length pages)) [
  | inl within ↦ within
  | inr past ↦
      let above = held_above pages n held in
      let gone = at_place pages n (omega arith) ∙ get_or_past pages (n - 1) no_page past in
      let clash : false ≡ true = sym (ap (λ (p : Page). p.held) gone) ∙ held in absurd (cc clash)
]

module _ (pages : List Page) (block : ℕ) (page : Page) (above : 0 < block) (within : block - 1 < length pages) where
  pub block_same : block_at (set pages (block - 1) page) block ≡ page
  block_same = at_place (set pages (block - 1) page) block (omega arith) ∙ get_or-set_same pages (block - 1) page no_page within

  pub block_other : (other : ℕ) → other ≢ block → block_at (set pages (block - 1) page) other ≡ block_at pages other
  block_other other apart = elim (cases_eq other 0) [
    | inl zero ↦ ap (block_at (set pages (block - 1) page)) zero ∙ sym (ap (block_at pages) zero)
    | inr some ↦
        at_place (set pages (block - 1) page) other some ∙ get_or-set_other pages (block - 1) (other - 1) page no_page (λ e. apart (omega arith)) ∙ sym (at_place pages other some)
  ]

  -- where it is held as before, all are
  pub held_kept : page.held ≡ is_held pages block → is_held (set pages (block - 1) page) ≡ is_held pages
  held_kept same_mark = λ i n. each n i
    where
      each : (n : ℕ) → is_held (set pages (block - 1) page) n ≡ is_held pages n
      each n = elim (cases_eq n block) [
        | inl same ↦ ap (is_held (set pages (block - 1) page)) same ∙ ap (λ (p : Page). p.held) block_same ∙ same_mark ∙ sym (ap (is_held pages) same)
        | inr apart ↦ ap (λ (p : Page). p.held) (block_other n apart)
      ]

  counted : Page → ℕ
  counted p = cond (is_free p) 1 0

  free_set : count_by is_free (set pages (block - 1) page) + counted (place_at pages (block - 1)) ≡ count_by is_free pages + counted page
  unfolding counted
  free_set = sum_by-set (λ p. cond (is_free p) 1 0) pages (block - 1) page no_page within

  held_counts : (p : Page) → p.held ≡ true → counted p ≡ 0
  unfolding counted
  held_counts p held = ap (λ b. cond (not b) 1 0) held

  -- as many where it is held as before
  pub free_kept : is_held pages block ≡ true → page.held ≡ true → count_by is_free (set pages (block - 1) page) ≡ count_by is_free pages
  free_kept was now =
      let before : (place_at pages (block - 1)).held ≡ true = sym (ap (λ (p : Page). p.held) (at_place pages block (omega arith))) ∙ was in
      omega (arith, free_set, held_counts (place_at pages (block - 1)) before, held_counts page now)

-- where all are held, none is free
pub none_free : (pages : List Page) → ((place : ℕ) → place < length pages → (place_at pages place).held ≡ true) → count_by is_free pages ≡ 0
none_free [] held = refl
none_free (p ∷ pages) held =
    let first : p.held ≡ true = held 0 (omega arith) in
    let rest = none_free pages (λ place inside. held (suc place) (omega arith)) in
    sum_by-cons (λ q. cond (is_free q) 1 0) p pages ∙ ap (λ b. cond (not b) 1 0 + count_by is_free pages) first ∙ zero-add (count_by is_free pages) ∙ rest

-- where none is held, all are free
pub all_free : (pages : List Page) → ((place : ℕ) → (place_at pages place).held ≡ false) → count_by is_free pages ≡ length pages
all_free [] free = refl
all_free (p ∷ pages) free =
    let first : p.held ≡ false = free 0 in
    let rest = all_free pages (λ place. free (suc place)) in
    sum_by-cons (λ q. cond (is_free q) 1 0) p pages ∙ ap (λ b. cond (not b) 1 0 + count_by is_free pages) first ∙ omega (arith, rest)

pub none_held : (pages : List Page) → ((place : ℕ) → (place_at pages place).held ≡ false) → (n : ℕ) → is_held pages n ≡ false
none_held pages free n = elim (cases_eq n 0) [
  | inl zero ↦ ap (is_held pages) zero
  | inr some ↦ ap (λ (p : Page). p.held) (at_place pages n some) ∙ free (n - 1)
]

-- the block that is read at a held block's place is held
pub held_item : (pages : List Page) (n : ℕ) (page : Page) → page ≡ get_or pages (n - 1) page → is_held pages n ≡ true → page.held ≡ true
held_item pages n page is held =
    let above = held_above pages n held in
    let read = is ∙ get_or_default pages (n - 1) page no_page (held_within pages n held) ∙ sym (at_place pages n (omega arith)) in
    ap (λ (p : Page). p.held) read ∙ held
