-- The names of a sound state are short.
use Rattle.std.proofs.Common.{◌≡◌, ℕ, ◌+◌, ◌<◌, ◌≤◌, Bool, true, false, ◌&&◌, ◌||◌, nat_le, IsTrue, List, [], ◌∷◌, length, All, decimal, refl, ap, subst, arith}
use Rattle.std.specs.List.{list_all}
use Rattle.std.proofs.lemmas.Bool.Decides.{nat_tests}
use Rattle.std.proofs.lemmas.Fmt.{length-decimal-le}
use Rattle.std.proofs.lemmas.List.Elements.{All-cons}
use Rattle.model_kernel.specs.Outcomes.{made_name}
use Rattle.model_kernel.specs.Scripts.{text_eq}
use Rattle.model_kernel.specs.Soundness.{IsSound, are_names_from, begins_with_letter, is_given_name, is_name_byte, is_name_of}
use Rattle.model_kernel.specs.State.{Text, AtlasState, Cell, AtlasCell}
use Rattle.plain_states.proofs.model_sound_steps_lemmas.MadeNames.{text_same}

left_true : (a b : Bool) → IsTrue (a && b) → IsTrue a
left_true true b h = refl
left_true false b h = h

right_true : (a b : Bool) → IsTrue (a && b) → IsTrue b
right_true true b h = h
right_true false b h = absurd (no h)
  where
    no : IsTrue false → ⊥
    no h = cc

given_short : (name : Text) → IsTrue (is_given_name name) → length name ≤ 24
given_short name h =
    let front = begins_with_letter name && list_all is_name_byte name in
    let few : IsTrue (nat_le (length name) 24) = right_true front (nat_le (length name) 24) (left_true (front && nat_le (length name) 24) _ h) in
    grind (arith, nat_tests)

made_short : (n : ℕ) (name : Text) → n < 64 → text_eq name (made_name n) ≡ true → length name ≤ 24
made_short n name few h =
    let same : length name ≡ length (made_name n) = ap length (text_same name (made_name n) h) in
    let more : length (made_name n) ≡ 1 + length (decimal n) = omega arith in
    let digits : length (decimal n) ≤ 2 = length-decimal-le 2 n (omega arith) (omega arith) (omega arith) in
    omega arith

name_short : (n : ℕ) (name : Text) → n < 64 → IsTrue (is_name_of n name) → length name ≤ 24
name_short n name few h =
    elim (is_given_name name) as (λ b. is_given_name name ≡ b → IsTrue (b || text_eq name (made_name n)) → length name ≤ 24) [
      | true ↦ λ is e. given_short name is
      | false ↦ λ is e. made_short n name few e
    ] refl h

names_short : (n : ℕ) (names : List Text) → n + length names ≤ 64 → IsTrue (are_names_from n names) → All (λ (name : Text). length name ≤ 24) names
names_short n [] few h = λ k d inside. absurd (omega arith)
names_short n (name ∷ names) few h =
    All-cons (λ (name : Text). length name ≤ 24) name names (name_short n name (omega arith) (left_true (is_name_of n name) _ h)) (names_short (n + 1) names (omega arith) (right_true (is_name_of n name) _ h))

pub sound_short : (cells : ℕ → Cell) (a : AtlasState) → IsSound cells → cells 0 ≡ AtlasCell a → All (λ (name : Text). length name ≤ 24) a.loci
sound_short cells a sound is =
    let same : sound.0 ≡ a = cc in
    subst (λ (b : AtlasState). All (λ (name : Text). length name ≤ 24) b.loci) same (names_short 41 sound.0.loci (let few = sound.1.names.few_loci in omega arith) sound.1.names.loci)
