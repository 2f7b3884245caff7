-- One bit of the words is written, and the free blocks change as they should.
use Rattle.std.proofs.Common.{◌≡◌, ◌≢◌, ℕ, ◌+◌, ◌-◌, ◌*◌, ◌/◌, ◌%◌, ◌^◌, ◌<◌, ◌≤◌, true, false, eqb, List, [], ◌∷◌, length, get_or, set, Contains, min, replicate, w64, sym, ap, ◌∙◌, inl, inr, arith}
use Rattle.std.proofs.lemmas.Bool.{cases_eq, cases_lt}
use Rattle.std.proofs.lemmas.Bool.Decides.{nat_tests}
use Rattle.std.proofs.lemmas.List.{get_or_past, get_or-set_same, get_or-set_other, get_or-replicate, length-replicate}
use Rattle.std.proofs.lemmas.Nat.Bits.{bit_at-zero, bit_at-lt, bit_at-trailing_zeros}
use Rattle.std.specs.Int.{bit_at, trailing_zeros}
use Rattle.std.proofs.lemmas.List.FromFn.{length-range_with_len}
use Rattle.std.specs.List.{range_with_len}
use Rattle.data_blocks.specs.Pool.{with_block, without_block, IsOrdered}
use Rattle.data_blocks.specs.Bits.{bit_of, is_set, free_blocks, pool_of, WritesBit, IsSound}
use Rattle.data_blocks.proofs.Blocks.{passing_lowest, passing_with, passing_without, passing_all, passing_none, passing_within, passing_ascends, passing_contains, length-with_block, length-passing}

-- a word is written in which all bits but one stay
pub writes_bit : (words : List ℕ) (block word bit : ℕ) → block / 64 < length words → bit_at word (block % 64) ≡ bit → ((i : ℕ) → i < 64 → i ≢ block % 64 → bit_at word i ≡ bit_at (get_or words (block / 64) 0) i) → WritesBit words (set words (block / 64) word) block bit
writes_bit words block word bit within here others = record {
  written = ap (λ w. bit_at w (block % 64)) (get_or-set_same words (block / 64) word 0 within) ∙ here;
  others = λ other differs. elim (cases_eq (other / 64) (block / 64)) [
    | inl same ↦
        ap (λ i. bit_at (get_or (set words (block / 64) word) i 0) (other % 64)) same
        ∙ ap (λ w. bit_at w (other % 64)) (get_or-set_same words (block / 64) word 0 within)
        ∙ others (other % 64) (omega arith) (λ e. differs (omega arith))
        ∙ ap (λ i. bit_at (get_or words i 0) (other % 64)) (sym same)
    | inr apart ↦ ap (λ w. bit_at w (other % 64)) (get_or-set_other words (block / 64) (other / 64) word 0 apart)
  ];
}

-- the bits of a word past the end are clear
pub bit_past : (words : List ℕ) (block : ℕ) → length words ≤ block / 64 → bit_of words block ≡ 0
bit_past words block past = ap (λ w. bit_at w (block % 64)) (get_or_past words (block / 64) 0 past) ∙ bit_at-zero (block % 64)

-- the bit at a place of a word
bit_of_at : (words : List ℕ) (at place : ℕ) → place < 64 → bit_of words (at * 64 + place) ≡ bit_at (get_or words at 0) place
bit_of_at words at place within =
    let word : (at * 64 + place) / 64 ≡ at = omega arith in
    let rest : (at * 64 + place) % 64 ≡ place = omega arith in
    ap (λ i. bit_at (get_or words i 0) ((at * 64 + place) % 64)) word ∙ ap (bit_at (get_or words at 0)) rest

-- the lowest bit of the first word that isn't 0
module _ (words : List ℕ) (at : ℕ) (some : get_or words at 0 ≡ 0 → ⊥) (fits : get_or words at 0 < 2 ^ 64) where
  pub lowest_is_set : bit_of words (at * 64 + trailing_zeros w64 (get_or words at 0)) ≡ 1
  lowest_is_set =
      let low = bit_at-trailing_zeros w64 (get_or words at 0) (omega arith) fits in
      bit_of_at words at (trailing_zeros w64 (get_or words at 0)) low.0 ∙ low.1

  pub lowest_is_first : ((block : ℕ) → block < 64 * at → bit_of words block ≡ 0) → (other : ℕ) → other < at * 64 + trailing_zeros w64 (get_or words at 0) → bit_of words other ≡ 0
  lowest_is_first before other below =
      let low = bit_at-trailing_zeros w64 (get_or words at 0) (omega arith) fits in
      let place : trailing_zeros w64 (get_or words at 0) < 64 = low.0 in
      elim (cases_lt other (64 * at)) [
        | inl earlier ↦ before other earlier
        | inr here ↦
            let word : other / 64 ≡ at = omega arith in
            ap (λ i. bit_at (get_or words i 0) (other % 64)) word ∙ low.2 (other % 64) (omega arith)
      ]

pub set_test : (words : List ℕ) (block : ℕ) → bit_of words block ≡ 1 → is_set words block ≡ true
set_test words block e = ap (λ n. eqb n 1) e

clear_test : (words : List ℕ) (block : ℕ) → bit_of words block ≡ 0 → is_set words block ≡ false
clear_test words block e = ap (λ n. eqb n 1) e

same_test : (words words' : List ℕ) (block : ℕ) → bit_of words' block ≡ bit_of words block → is_set words' block ≡ is_set words block
same_test words words' block e = ap (λ n. eqb n 1) e

pub set_from_test : (words : List ℕ) (block : ℕ) → is_set words block ≡ true → bit_of words block ≡ 1
set_from_test words block e = grind (arith, nat_tests)

module _ (words : List ℕ) (first end free hint : ℕ) (sound : IsSound words first end free hint) where
  -- a block is free exactly where its bit is set
  pub free_set : (block : ℕ) → bit_of words block ≡ 1 → Contains (free_blocks words first end) block
  free_set block on =
      let within = sound.within block on in
      passing_contains (is_set words) first (end - first) block within.0 (omega (arith, within.1)) (set_test words block on)

  pub set_free : (block : ℕ) → Contains (free_blocks words first end) block → bit_of words block ≡ 1
  set_free block there =
      let found = passing_within (is_set words) first (end - first) there.0 block there.1 in
      set_from_test words block (sym (ap (is_set words) there.2) ∙ found.passes)

  pub ordered : IsOrdered (pool_of words first end)
  ordered = record {
    few = sound.few;
    ascending = passing_ascends (is_set words) first (end - first);
    within = λ block there. sound.within block (set_free block there);
  }

  pub some_free : (block : ℕ) → bit_of words block ≡ 1 → 0 < free
  some_free block on = let there = free_set block on in omega (arith, there.1, sound.counted)

  pub word_of : (block : ℕ) → block < end → block / 64 < length words
  word_of block below = omega (arith, sound.all_blocks)

  -- none is free where no bit is set
  pub none_free : ((block : ℕ) → bit_of words block ≡ 0) → free_blocks words first end ≡ []
  none_free none = passing_none (is_set words) first (end - first) (λ k. clear_test words k (none k))

  module _ (words' : List ℕ) (block : ℕ) (len : length words' ≡ length words) (on : bit_of words block ≡ 1) (writes : WritesBit words words' block 0) where
    still_within : (b : ℕ) → bit_of words' b ≡ 1 → (first ≤ b) × (b < end)
    still_within b e = elim (cases_eq b block) [
      | inl same ↦ let clash = sym writes.written ∙ ap (bit_of words') (sym same) ∙ e in absurd (cc clash)
      | inr differs ↦ sound.within b (sym (writes.others b differs) ∙ e)
    ]

    pub back : free_blocks words first end ≡ with_block block (free_blocks words' first end)
    back =
        let within = sound.within block on in
        passing_with (is_set words') (is_set words) first (end - first) block within.0 (omega (arith, within.1)) (clear_test words' block writes.written) (set_test words block on)
        (λ k differs. same_test words' words k (sym (writes.others k differs)))

    fewer : free - 1 ≡ length (free_blocks words' first end)
    fewer = omega (arith, sound.counted, ap length back, length-with_block block (free_blocks words' first end))

    -- the block is taken, and the hint stays
    pub sound_taken : IsSound words' first end (free - 1) hint
    sound_taken = record {
      few = sound.few;
      all_blocks = len ∙ sound.all_blocks;
      within = still_within;
      counted = fewer;
      hinted = λ b below. elim (cases_eq b block) [
        | inl same ↦ ap (bit_of words') same ∙ writes.written
        | inr differs ↦ writes.others b differs ∙ sound.hinted b below
      ];
    }

    pub taken_blocks : free_blocks words' first end ≡ without_block block (free_blocks words first end)
    taken_blocks = passing_without (is_set words) (is_set words') block (clear_test words' block writes.written) (λ k differs. same_test words words' k (writes.others k differs)) (range_with_len first (end - first))

    module _ (lowest : (b : ℕ) → b < block → bit_of words b ≡ 0) where
      -- the lowest block is taken, and the hint moves to its word
      pub sound_lowest : IsSound words' first end (free - 1) (block / 64)
      sound_lowest = record {
        few = sound.few;
        all_blocks = len ∙ sound.all_blocks;
        within = still_within;
        counted = fewer;
        hinted = λ b below. elim (cases_eq b block) [
          | inl same ↦ ap (bit_of words') same ∙ writes.written
          | inr differs ↦ writes.others b differs ∙ lowest b (omega arith)
        ];
      }

      pub lowest_blocks : free_blocks words first end ≡ block ∷ free_blocks words' first end
      lowest_blocks =
          let within = sound.within block on in
          passing_lowest (is_set words) (is_set words') first (end - first) block within.0 (omega (arith, within.1)) (set_test words block on) (clear_test words' block writes.written)
          (λ k below. clear_test words k (lowest k below)) (λ k differs. same_test words words' k (writes.others k differs))

  module _ (words' : List ℕ) (block : ℕ) (len : length words' ≡ length words) (low : first ≤ block) (high : block < end) (off : bit_of words block ≡ 0) (writes : WritesBit words words' block 1) where
    pub given_blocks : free_blocks words' first end ≡ with_block block (free_blocks words first end)
    given_blocks =
        passing_with (is_set words) (is_set words') first (end - first) block low (omega arith) (clear_test words block off) (set_test words' block writes.written)
        (λ k differs. same_test words words' k (writes.others k differs))

    -- the block is free again, and the hint is no later than its word
    pub sound_given : IsSound words' first end (free + 1) (min hint (block / 64))
    sound_given = record {
      few = sound.few;
      all_blocks = len ∙ sound.all_blocks;
      within = λ b e. elim (cases_eq b block) [
        | inl same ↦ (omega arith, omega arith)
        | inr differs ↦ sound.within b (sym (writes.others b differs) ∙ e)
      ];
      counted = omega (arith, sound.counted, ap length given_blocks, length-with_block block (free_blocks words first end));
      hinted = λ b below. elim (cases_eq b block) [
        | inl same ↦ absurd (omega arith)
        | inr differs ↦ writes.others b differs ∙ sound.hinted b (omega arith)
      ];
    }

    -- as many as the range has are free at most
    pub few_given : free + 1 ≤ end - first
    few_given =
        omega (arith, sound.counted, ap length given_blocks, length-with_block block (free_blocks words first end), length-passing (is_set words') first (end - first))

  -- a bit that isn't set is clear
  pub clear_unless_free : (block : ℕ) → (Contains (free_blocks words first end) block → ⊥) → bit_of words block ≡ 0
  clear_unless_free block taken = elim (cases_eq (bit_of words block) 1) [
    | inl on ↦ absurd (taken (free_set block on))
    | inr off ↦ omega (arith, bit_at-lt (get_or words (block / 64) 0) (block % 64))
  ]

-- a pool with no bit set
pub sound_none : (words : List ℕ) (first end : ℕ) → end < 2 ^ 32 → length words ≡ end / 64 + 1 → ((b : ℕ) → bit_of words b ≡ 0) → IsSound words first end 0 0
sound_none words first end few len none = record {
  few = few;
  all_blocks = len;
  within = λ b e. let clash = sym (none b) ∙ e in absurd (cc clash);
  counted = sym (ap length (passing_none (is_set words) first (end - first) (λ k. clear_test words k (none k))));
  hinted = λ b below. none b;
}

-- no bit of zeros is set
pub zeros_clear : (n block : ℕ) → bit_of (replicate n 0) block ≡ 0
zeros_clear n block = elim (cases_lt (block / 64) n) [
  | inl within ↦ ap (λ w. bit_at w (block % 64)) (get_or-replicate n (block / 64) 0 0 within) ∙ bit_at-zero (block % 64)
  | inr past ↦ bit_past (replicate n 0) block (omega (arith, length-replicate {A = ℕ} n 0))
]

pub all_free : (words : List ℕ) (first end : ℕ) → ((b : ℕ) → first ≤ b → b < end → bit_of words b ≡ 1) → free_blocks words first end ≡ range_with_len first (end - first)
all_free words first end on = passing_all (is_set words) first (end - first) (λ k low high. set_test words k (on k low (omega arith)))

-- a new pool, whose bits are set for the blocks of the range alone
pub sound_new : (words : List ℕ) (first end : ℕ) → end < 2 ^ 32 → length words ≡ end / 64 + 1 → ((b : ℕ) → first ≤ b → b < end → bit_of words b ≡ 1) → ((b : ℕ) → b < first → bit_of words b ≡ 0) → ((b : ℕ) → end ≤ b → bit_of words b ≡ 0) → IsSound words first end (end - first) (first / 64)
sound_new words first end few len on before after = record {
  few = few;
  all_blocks = len;
  within = λ b e. (
    elim (cases_lt b first) [
      | inl below ↦ let clash = sym (before b below) ∙ e in absurd (cc clash)
      | inr above ↦ above
    ],
    elim (cases_lt b end) [
      | inl below ↦ below
      | inr past ↦ let clash = sym (after b past) ∙ e in absurd (cc clash)
    ],
  );
  counted = sym (ap length (all_free words first end on) ∙ length-range_with_len first (end - first));
  hinted = λ b below. before b (omega arith);
}
