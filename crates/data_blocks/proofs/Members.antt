-- Which blocks are free after one was taken or given back.
use Rattle.std.proofs.Common.{◌≡◌, ◌≢◌, ◌⊎◌, ℕ, ◌+◌, ◌-◌, ◌/◌, ◌<◌, ◌≤◌, List, length, min, Contains, sym, ap, ◌∙◌, inl, inr, arith}
use Rattle.std.proofs.lemmas.Bool.{cases_eq}
use Rattle.data_blocks.specs.Pool.{Takes, Gives}
use Rattle.data_blocks.specs.Bits.{bit_of, free_blocks, pool_of, WritesBit, IsSound}
use Rattle.data_blocks.proofs.Blocks.{length-with_block}
use Rattle.data_blocks.proofs.BitLemmas.{free_set, set_free, sound_taken, sound_given, given_blocks, back}

module _ (words : List ℕ) (first end free hint : ℕ) (sound : IsSound words first end free hint) (words' : List ℕ) (block : ℕ) (len : length words' ≡ length words) where
  -- the block is taken, and no other
  pub members_taken : bit_of words block ≡ 1 → WritesBit words words' block 0 → Takes block (pool_of words first end) (pool_of words' first end)
  members_taken on writes = record {
    was_free = free_set words first end free hint sound block on;
    free_now = λ other. (
      λ there.
          let on' = set_free words' first end (free - 1) hint sound' other there in
          let apart : other ≢ block = λ same. (let clash = sym writes.written ∙ ap (bit_of words') (sym same) ∙ on' in cc clash) in
          (free_set words first end free hint sound other (sym (writes.others other apart) ∙ on'), apart),
      λ (there, apart). free_set words' first end (free - 1) hint sound' other (writes.others other apart ∙ set_free words first end free hint sound other there),
    );
    fewer = omega (arith, ap length (back words first end free hint sound words' block len on writes), length-with_block block (free_blocks words' first end));
  }
    where
      sound' : IsSound words' first end (free - 1) hint
      sound' = sound_taken words first end free hint sound words' block len on writes

  -- the block is given back, and no other
  pub members_given : first ≤ block → block < end → bit_of words block ≡ 0 → WritesBit words words' block 1 → Gives block (pool_of words first end) (pool_of words' first end)
  members_given low high off writes = record {
    free_now = λ other. (
      λ there. by_other other (set_free words' first end (free + 1) (min hint (block / 64)) sound' other there),
      λ either. elim either [
        | inl same ↦ free_set words' first end (free + 1) (min hint (block / 64)) sound' other (ap (bit_of words') same ∙ writes.written)
        | inr there ↦
            let was = set_free words first end free hint sound other there in
            let apart : other ≢ block = λ same. (let clash = sym off ∙ ap (bit_of words) (sym same) ∙ was in cc clash) in
            free_set words' first end (free + 1) (min hint (block / 64)) sound' other (writes.others other apart ∙ was)
      ],
    );
    more = ap length (given_blocks words first end free hint sound words' block len low high off writes) ∙ length-with_block block (free_blocks words first end);
  }
    where
      sound' : IsSound words' first end (free + 1) (min hint (block / 64))
      sound' = sound_given words first end free hint sound words' block len low high off writes

      by_other : (other : ℕ) → bit_of words' other ≡ 1 → (other ≡ block) ⊎ Contains (free_blocks words first end) other
      by_other other on' = elim (cases_eq other block) [
        | inl same ↦ inl same
        | inr apart ↦ inr (free_set words first end free hint sound other (sym (writes.others other apart) ∙ on'))
      ]
