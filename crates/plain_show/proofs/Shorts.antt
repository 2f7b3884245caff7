-- Names and rights are short.
use Rattle.std.proofs.Common.{◌≡◌, ℕ, zero, suc, ◌+◌, ◌-◌, ◌≤◌, ◌==◌, Bool, true, false, if◌then◌else◌, nat_lt, List, [], ◌∷◌, length, slice_get, unwrap_or, arith}
use Rattle.plain_states.proofs.model_kernel_lemmas.Basics.{and_left, and_right}
use Rattle.plain_states.proofs.model_kernel_lemmas.Names.{name_short}
use Rattle.plain_states.specs.model_kernel.Scripts.{atlas_name}
use Rattle.plain_states.specs.model_kernel.Soundness.{IsSound, IsSoundAtlas, are_names_from, is_name_of}
use Rattle.plain_states.specs.model_kernel.State.{AtlasState, Supply, Text}
use Rattle.plain_states.specs.Plains.{atlas_of, cells_of}
use Rattle.plain_states.specs.declared.plain.Plain.{Plain}
use Rattle.plain_states.proofs.SoundLemmas.{sound_here}
use Rattle.line_text.specs.Lines.{HasShortNames, name_in}
use Rattle.base_instructions.proofs.Lines.{rights_len}

-- RIGHTS

-- for a line with rights
pub ruleset short_rights = (rights_len)

-- NAMES

name_at : (n : ℕ) (names : List Text) (i : ℕ) → n + length names ≤ 100 → are_names_from n names ≡ true → length (unwrap_or (slice_get names i) []) ≤ 24
name_at n [] i small h = omega arith
name_at n (name ∷ names) zero small h = name_short n name (omega (arith, small)) (and_left (is_name_of n name) (are_names_from (n + 1) names) h)
name_at n (name ∷ names) (suc i) small h = name_at (n + 1) names i (omega (arith, small)) (and_right (is_name_of n name) (are_names_from (n + 1) names) h)

atlas_short : (a : AtlasState) → IsSoundAtlas a → HasShortNames a
unfolding name_in
atlas_short a h x = by_tests (x == 0) (nat_lt x 41)
  where
    by_tests : (b c : Bool) → length (if b then atlas_name else if c then unwrap_or (slice_get a.containers (x - 1)) [] else unwrap_or (slice_get a.loci (x - 41)) []) ≤ 24
    by_tests true c = omega arith
    by_tests false true = name_at 1 a.containers (x - 1) (let few = h.few_containers in omega (arith, few)) h.containers
    by_tests false false = name_at 41 a.loci (x - 41) (let few = h.few_loci in omega (arith, few)) h.loci

-- the names of a sound plain state
pub sound_short : (s : Supply) (p : Plain) → IsSound (cells_of s p) → HasShortNames (atlas_of p.atlas)
sound_short s p sound = atlas_short (atlas_of p.atlas) (sound_here s (atlas_of p.atlas) p.containers.items p.loci.items sound).names
