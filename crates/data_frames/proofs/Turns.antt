-- The way of the clock's hand round the keys.
use Rattle.std.proofs.Common.{◌≡◌, ◌≢◌, ◌⊎◌, ℕ, ◌+◌, ◌<◌, ◌≤◌, Bool, true, false, not, length, Option, Some, None, min, refl, sym, ap, subst, ◌∙◌, inl, inr, arith}
use Rattle.std.proofs.lemmas.Bool.{cases_eq, cases_lt}
use Rattle.std.proofs.lemmas.Bool.Decides.{nat_tests}
use Rattle.std.proofs.lemmas.List.{get_or_past}
use Rattle.slab.specs.Slab.{Slab, get}
use Rattle.data_frames.specs.declared.clock.Frame.{Frame}
use Rattle.data_frames.specs.FrameTable.{comes_before}
use Rattle.data_frames.specs.Held.{used_of, is_unused, Spares, IsBehind, HavePassed, NoneBehind, PassesTo, AllCleared, IsFirstKey}

-- the next is not one of those so far
next_ahead : (start keys steps key : ℕ) → start ≤ keys → steps < keys → key < keys → (key ≡ start + steps) ⊎ (key + keys ≡ start + steps) → IsBehind start keys steps key → ⊥
next_ahead start keys steps key le more inside at behind = by_side behind.is at
  where
    by_side : ((start ≤ key) × (key < start + steps)) ⊎ (key + keys < start + steps) → (key ≡ start + steps) ⊎ (key + keys ≡ start + steps) → ⊥
    by_side (inl (low, high)) (inl e) = omega arith
    by_side (inl (low, high)) (inr e) = omega arith
    by_side (inr low) (inl e) = omega arith
    by_side (inr low) (inr e) = omega arith

-- after a whole round it is all
all_behind : (start keys steps k : ℕ) → keys ≤ steps → k < keys → IsBehind start keys steps k
all_behind start keys steps k round inside = record {
  within = inside;
  is = elim (cases_lt k start) [
    | inl below ↦ inr (omega arith)
    | inr above ↦ inl (above, omega arith)
  ];
}

-- a key comes before the next exactly where it is one of those so far
module _ (hand keys steps key k : ℕ) (inside : key < keys) (k_inside : k < keys) (more : steps < keys) where
  pub before_behind : (key ≡ min hand keys + steps) ⊎ (key + keys ≡ min hand keys + steps) → comes_before hand k key ≡ true → IsBehind (min hand keys) keys steps k
  before_behind at test = record { within = k_inside; is = by_side at }
    where
      by_side : (key ≡ min hand keys + steps) ⊎ (key + keys ≡ min hand keys + steps) → ((min hand keys ≤ k) × (k < min hand keys + steps)) ⊎ (k + keys < min hand keys + steps)
      by_side (inl e) = grind (arith, nat_tests)
      by_side (inr e) = grind (arith, nat_tests)

  pub behind_before : (key ≡ min hand keys + steps) ⊎ (key + keys ≡ min hand keys + steps) → IsBehind (min hand keys) keys steps k → comes_before hand k key ≡ true
  behind_before at behind = by_side at behind.is
    where
      by_side : (key ≡ min hand keys + steps) ⊎ (key + keys ≡ min hand keys + steps) → ((min hand keys ≤ k) × (k < min hand keys + steps)) ⊎ (k + keys < min hand keys + steps) → comes_before hand k key ≡ true
      by_side (inl e) (inl (low, high)) = grind (arith, nat_tests)
      by_side (inl e) (inr low) = grind (arith, nat_tests)
      by_side (inr e) (inl (low, high)) = grind (arith, nat_tests)
      by_side (inr e) (inr low) = grind (arith, nat_tests)

-- a frame's key is one of the keys
key_inside : (held : Slab Frame) (keys k : ℕ) (f : Frame) → length held.slots ≤ keys → get held k ≡ Some f → k < keys
key_inside held keys k f few there = elim (cases_lt k keys) [
  | inl within ↦ within
  | inr past ↦ let gone = sym (get_or_past held.slots k None (omega arith)) ∙ there in absurd (cc gone)
]

pub all_cleared : (start keys steps : ℕ) (old new : Slab Frame) → length old.slots ≤ keys → keys ≤ steps → HavePassed start keys steps old new → AllCleared old new
all_cleared start keys steps old new few round have = λ k f there. have.passed k f there (all_behind start keys steps k round (key_inside old keys k f few there))

module _ (hand keys steps key : ℕ) (inside : key < keys) (more : steps < keys) (at : (key ≡ min hand keys + steps) ⊎ (key + keys ≡ min hand keys + steps)) where
  -- the first frame that is found
  pub first_key : (held : Slab Frame) → length held.slots ≤ keys → NoneBehind (min hand keys) keys steps held → IsFirstKey hand key held
  first_key held few none = λ k f there. by_test k f there (comes_before hand k key) refl
    where
      by_test : (k : ℕ) (f : Frame) → get held k ≡ Some f → (b : Bool) → comes_before hand k key ≡ b → comes_before hand k key ≡ false
      by_test k f there true e = absurd (none k f there (before_behind hand keys steps key k inside (key_inside held keys k f few there) more at e))
      by_test k f there false e = e

  -- the first frame without a mark
  module _ (old held new : Slab Frame) (few : length old.slots ≤ keys) (have : HavePassed (min hand keys) keys steps old held) (spares : Spares key held new) (unused : is_unused (get held key) ≡ true) where
    ahead : IsBehind (min hand keys) keys steps key → ⊥
    ahead = next_ahead (min hand keys) keys steps key (omega arith) more inside at

    by_frame : (o : Option Frame) → is_unused o ≡ true → used_of o ≡ false
    by_frame None e = refl
    by_frame (Some f) e = by_mark f.used e
      where
        by_mark : (b : Bool) → not b ≡ true → b ≡ false
        by_mark true e = absurd (cc e)
        by_mark false e = refl

    was_unused : used_of (get old key) ≡ false
    was_unused = sym (have.others key ahead) ∙ by_frame (get held key) unused

    pub passes_to : PassesTo hand key old new
    passes_to = record {
      unused = was_unused;
      passed = λ k f there test.
          let behind = before_behind hand keys steps key k inside (key_inside old keys k f few there) more at test in
          let apart : k ≢ key = λ same. ahead (subst (IsBehind (min hand keys) keys steps) same behind) in
          let have_k = have.passed k f there behind in
          (have_k.0, ap used_of (spares.others k apart) ∙ have_k.1);
      others = λ k test. elim (cases_eq k key) [
        | inl same ↦ ap (λ j. used_of (get new j)) same ∙ spares.cleared ∙ sym was_unused ∙ sym (ap (λ j. used_of (get old j)) same)
        | inr apart ↦
            ap used_of (spares.others k apart)
            ∙ have.others k (λ behind. let clash = sym (behind_before hand keys steps key k inside behind.within more at behind) ∙ test in cc clash)
      ];
    }
