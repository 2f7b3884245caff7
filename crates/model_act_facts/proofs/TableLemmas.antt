-- Regions, capabilities and edges of tables.
use Rattle.std.proofs.Common.{◌≡◌, ℕ, suc, ◌+◌, ◌<◌, ◌≤◌, nat_lt, if◌then◌else◌, true, false, not, List, [], ◌∷◌, Some, Option, drop, get_or, length, map, set, refl, sym, ap, ◌∙◌, arith}
use Rattle.std.specs.List.{insert, position_or_len}
use Rattle.std.proofs.lemmas.List.{at_drop_more, get_or-map, length-map}
use Rattle.model_acts.specs.base_types.declared.capabilities.Region.{Region}
use Rattle.model_sound_steps.specs.model_kernel.Births.{caps_from, number_or_0, region_from, regions_from}
use Rattle.model_sound_steps.specs.model_kernel.Refusals.{rights_with}
use Rattle.model_sound_steps.specs.model_kernel.Scripts.{CapTable, RegionTable}
use Rattle.model_sound_steps.specs.model_kernel.State.{Text}
use Rattle.model_sound_steps.specs.model_kernel.Words.{insert_region}

-- a function of what is left of a mapped list, one step on
mapped_more : {X T Y : Type 0} (F : List T → Y) (f : X → T) (xs : List X) (i : ℕ) (x : X) → i < length xs → x ≡ get_or xs i x → F (drop i (map f xs)) ≡ F (f x ∷ drop (i + 1) (map f xs))
mapped_more F f xs i x lt is =
    at_drop_more F (map f xs) i (f x) (rw length-map lt) ∙ ap (λ t. F (t ∷ drop (i + 1) (map f xs))) (get_or-map f xs i x (f x) lt ∙ ap f (sym is))

pub regions_more : {X : Type 0} (number : Text → Option ℕ) (f : X → RegionTable) (xs : List X) (i j : ℕ) (x : X) → j + 1 ≡ i → i ≤ length xs → x ≡ get_or xs j x
    → regions_from number (drop j (map f xs)) ≡ insert_region (region_from number (f x)) (regions_from number (drop i (map f xs)))
regions_more number f xs i j x e le is =
    mapped_more (regions_from number) f xs j x (omega arith) is ∙ ap (λ k. insert_region (region_from number (f x)) (regions_from number (drop k (map f xs)))) e

pub caps_more : {X : Type 0} (number : Text → Option ℕ) (f : X → CapTable) (xs : List X) (i j : ℕ) (x : X) → j + 1 ≡ i → i ≤ length xs → x ≡ get_or xs j x
    → caps_from number j (drop j (map f xs)) ≡ set (caps_from number i (drop i (map f xs))) j (Some (record { entity = number_or_0 number (f x).entity; rights = rights_with (f x).rights }))
caps_more number f xs i j x e le is =
    mapped_more (caps_from number j) f xs j x (omega arith) is
    ∙ ap (λ k. set (caps_from number k (drop k (map f xs))) j (Some (record { entity = number_or_0 number (f x).entity; rights = rights_with (f x).rights }))) e

-- a region goes before the first one that begins behind it, or to the end
pub inserted_at : (r : Region) (rs : List Region) → insert rs (position_or_len (λ s. nat_lt r.at s.at) rs) r ≡ insert_region r rs
inserted_at r [] = refl
inserted_at r (s ∷ rs) =
    let n = position_or_len (λ s. nat_lt r.at s.at) rs in
    elim (nat_lt r.at s.at) as (λ b. insert (s ∷ rs) (if not b then 1 + n else 0) r ≡ (if b then r ∷ s ∷ rs else s ∷ insert_region r rs)) [
      | true ↦ refl
      | false ↦ let e : 1 + n ≡ suc n = omega arith in rw e (ap (λ l. s ∷ l) (inserted_at r rs))
    ]
