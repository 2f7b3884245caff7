-- The words of a container, page by page.
use Rattle.std.proofs.Common.{◌≡◌, ◌≢◌, ℕ, ◌+◌, ◌-◌, ◌*◌, ◌/◌, ◌%◌, ◌<◌, ◌≤◌, Bool, if◌then◌else◌, List, length, min, sym, ap, subst, ◌∙◌, ⊎_elim, arith}
use Rattle.std.specs.BTreeMap.{BTreeMap}
use Rattle.std.specs.Prelude.{slice_index, take}
use Rattle.std.proofs.lemmas.Bool.{cases_lt, ne_eqb}
use Rattle.std.proofs.lemmas.List.{get_or-map, get_or-take, get_or_past, length-take}
use Rattle.base_types.specs.Edges.{upto}
use Rattle.image_facts.specs.model_kernel.State.{Supply}
use Rattle.image_facts.proofs.model_kernel_lemmas.Lists.{upto_get, upto_len}
use Rattle.image_facts.specs.Bodies.{number_at}
use Rattle.image_state_laws.specs.image_meaning.Parts.{word_in, words_in}
use Rattle.image_plain.specs.Words.{words_with}
use Rattle.page_words.specs.store_books.Books.{words_of_bytes}
use Rattle.image_shown_facts.specs.States.{AreOnDisk}
use Rattle.image_shown_facts.specs.Words.{IsSparse}
use Rattle.image_shown_facts.proofs.Keeping.{supplied_past}

-- a word of a block
number_in : (bytes : List ℕ) (k : ℕ) → k < 128 → slice_index (words_of_bytes bytes) k ≡ number_at (8 * k) 8 bytes
number_in bytes k lt =
    let len = upto_len 128 in
    get_or-map (λ i. number_at (8 * i) 8 bytes) (upto 128) k 0 0 (omega (arith, lt, len)) ∙ ap (λ i. number_at (8 * i) 8 bytes) (upto_get 128 k lt)

-- is the word of its page
pub block_word : (s : Supply) (tag : ℕ) (f : ℕ → List ℕ) (block page k : ℕ) (words : List ℕ) → block ≢ 0 → words ≡ words_of_bytes (f block) → k < 128
    → slice_index words k ≡ word_in s tag f block (128 * page + k)
block_word s tag f block page k words some is lt =
    let place : k ≡ (128 * page + k) % 128 = omega (arith, lt) in
    ap (λ (ws : List ℕ). slice_index ws k) is ∙ (number_in (f block) k lt ∙ (ap (λ (n : ℕ). number_at (8 * n) 8 (f block)) place
    ∙ sym (ap (λ (b : Bool). if b then s tag ((128 * page + k) / 128) ((128 * page + k) % 128) else number_at (8 * ((128 * page + k) % 128)) 8 (f block)) (ne_eqb block 0 some))))

-- the block of a page is one of a disk's
pub there_at : (n m pages page : ℕ) (blocks : List ℕ) → length blocks ≡ 256 → page < min pages 256 → n ≡ m → AreOnDisk n (take pages blocks) → slice_index blocks page ≢ 0 → slice_index blocks page < m
there_at n m pages page blocks long lt same on some =
    let len = length-take pages blocks in
    let at : slice_index (take pages blocks) page ≡ slice_index blocks page = get_or-take pages blocks page 0 (omega (arith, lt)) in
    let low : slice_index (take pages blocks) page < n = on page 0 (omega (arith, lt, len, long)) (λ zero. some (sym at ∙ zero)) in
    omega (arith, low, at, same)

module _ (s : Supply) (tag : ℕ) (f : ℕ → List ℕ) (blocks : List ℕ) where
  -- the words of the pages before one are read
  abbrev pub ReadTo : ℕ → BTreeMap ℕ ℕ → Type 0
  ReadTo page m = (a : ℕ) → a < 128 * page → words_with s tag m a ≡ words_in s tag f blocks a

  -- those of one more page
  pub page_read : (m n : BTreeMap ℕ ℕ) (page block : ℕ) → block ≡ slice_index blocks page → ReadTo page m
      → ((k : ℕ) → k < 128 → words_with s tag n (128 * page + k) ≡ word_in s tag f block (128 * page + k))
      → ((a : ℕ) → a < 128 * page → words_with s tag n a ≡ words_with s tag m a) → ReadTo (page + 1) n
  page_read m n page block is before here same a lt = ⊎_elim
      (λ (low : a < 128 * page). same a low ∙ before a low)
      (λ (high : 128 * page ≤ a).
      let at : 128 * page + (a - 128 * page) ≡ a = omega (arith, high) in
      let few : a - 128 * page < 128 = omega (arith, high, lt) in
      let place : page ≡ a / 128 = omega (arith, high, lt) in
      subst (λ (b : ℕ). words_with s tag n b ≡ word_in s tag f block b) at (here (a - 128 * page) few)
      ∙ ap (λ (b : ℕ). word_in s tag f b a) (is ∙ ap (slice_index blocks) place))
      (cases_lt a (128 * page))

  -- and those of all pages
  pub all_read : (m : BTreeMap ℕ ℕ) (pages n : ℕ) → length blocks ≡ 256 → n ≡ min pages 256 → IsSparse s tag (128 * n) m → ReadTo n m
      → (a : ℕ) → words_with s tag m a ≡ words_in s tag f (take pages blocks) a
  all_read m pages n long is sparse read a = ⊎_elim
      (λ (low : a < 128 * n).
      let within : a / 128 < pages = omega (arith, low, is) in
      let same : slice_index (take pages blocks) (a / 128) ≡ slice_index blocks (a / 128) = get_or-take pages blocks (a / 128) 0 within in
      read a low ∙ sym (ap (λ (b : ℕ). word_in s tag f b a) same))
      (λ (high : 128 * n ≤ a).
      let len = length-take pages blocks in
      let none : slice_index (take pages blocks) (a / 128) ≡ 0 = get_or_past (take pages blocks) (a / 128) 0 (omega (arith, high, is, long, len)) in
      supplied_past s tag (128 * n) m a sparse high ∙ sym (ap (λ (b : ℕ). word_in s tag f b a) none))
      (cases_lt a (128 * n))
