-- Capabilities and regions of tables, taken from the last on.
use Rattle.std.proofs.Common.{◌≡◌, ℕ, zero, suc, ◌+◌, ◌<◌, ◌≤◌, Bool, true, false, not, IsTrue, List, [], ◌∷◌, Some, Option, Result, OnOk, drop, get_or, length, map, set, refl, sym, ap, subst, ◌∙◌, arith}
use Rattle.std.specs.List.{All, list_any}
use Rattle.std.proofs.lemmas.List.{at_drop_more, get_or-map, length-map, length-drop}
use Rattle.std.proofs.lemmas.List.Elements.{All-weaker}
use Rattle.std.proofs.lemmas.List.Folds.{list_any_none}
use Rattle.base_types.specs.declared.capabilities.Region.{Region}
use Rattle.base_types.specs.declared.instructions.Reply.{Reply}
use Rattle.script_types.specs.model_kernel.Births.{caps_from, number_or_0, region_from, regions_from}
use Rattle.script_types.specs.model_kernel.Refusals.{rights_with}
use Rattle.script_types.specs.model_kernel.Scripts.{CapTable, RegionTable}
use Rattle.script_types.specs.model_kernel.State.{Text}
use Rattle.script_types.specs.model_kernel.Words.{overlaps}
use Rattle.script_types.specs.Rules.{AreAllApart, AreApart, IsRegionTable}
use Rattle.script_fits.proofs.model_sound_runs_lemmas.Tables.{all_regions, length_regions}
use Rattle.data_regions.specs.Regions.{IsRegion, add_answer, insert_region}
use Rattle.script_fits.proofs.act_calls_lemmas.MapLemmas.{added}

-- a mapped list from a place on, one item more
from_place : {X T : Type 0} (f : X → T) (xs : List X) (i j : ℕ) (x : X) → j + 1 ≡ i → i ≤ length xs → x ≡ get_or xs j x → drop j (map f xs) ≡ f x ∷ drop i (map f xs)
from_place f xs i j x e le is =
    at_drop_more (λ ts. ts) (map f xs) j (f x) (rw length-map (omega arith)) ∙ ap (λ t. t ∷ drop (j + 1) (map f xs)) (get_or-map f xs j x (f x) (omega arith) ∙ ap f (sym is)) ∙ ap (λ k. f x ∷ drop k (map f xs)) e

pub caps_more : {X : Type 0} (number : Text → Option ℕ) (f : X → CapTable) (xs : List X) (i j : ℕ) (x : X) → j + 1 ≡ i → i ≤ length xs → x ≡ get_or xs j x
    → caps_from number j (drop j (map f xs)) ≡ set (caps_from number i (drop i (map f xs))) j (Some (record { entity = number_or_0 number (f x).entity; rights = rights_with (f x).rights }))
caps_more number f xs i j x e le is =
    ap (caps_from number j) (from_place f xs i j x e le is)
    ∙ ap (λ k. set (caps_from number k (drop i (map f xs))) j (Some (record { entity = number_or_0 number (f x).entity; rights = rights_with (f x).rights }))) e

-- tables of regions in range, none of which overlap
pub record AreRegionTables (known : List Text) (pages : ℕ) (ts : List RegionTable) : Type 0 where
  pub few : length ts ≤ 16
  pub small : pages ≤ 256
  pub ranges : All (IsRegionTable known pages) ts
  pub apart : AreAllApart ts

pub range_at : {X : Type 0} (known : List Text) (pages : ℕ) (f : X → RegionTable) (xs : List X) (j : ℕ) (x : X) → All (IsRegionTable known pages) (map f xs) → j < length xs → x ≡ get_or xs j x → IsRegionTable known pages (f x)
range_at known pages f xs j x all lt is =
    subst (IsRegionTable known pages) (get_or-map f xs j x (f x) lt ∙ ap f (sym is)) (all j (f x) (rw length-map lt))

pub in_range : (number : Text → Option ℕ) (known : List Text) (pages : ℕ) (t : RegionTable) → pages ≤ 256 → IsRegionTable known pages t → IsRegion (region_from number t)
in_range number known pages t small h = (h.some, omega (arith, h.at, small), h.from)

apart_from : (j : ℕ) (ts : List RegionTable) → AreAllApart ts → AreAllApart (drop j ts)
apart_from zero ts h = h
apart_from (suc j) [] h = h
apart_from (suc j) (t ∷ ts) h = apart_from j ts h.1

none_met : (number : Text → Option ℕ) (t : RegionTable) (ts : List RegionTable) → All (AreApart t) ts → list_any (overlaps (region_from number t)) (regions_from number ts) ≡ false
none_met number t ts all =
    let r = region_from number t in
    list_any_none (overlaps r) (regions_from number ts)
    (all_regions (λ (s : Region). overlaps r s ≡ false) number ts (All-weaker (AreApart t) (λ (u : RegionTable). overlaps r (region_from number u) ≡ false) (λ u h. off _ h) ts all))
  where
    off : (b : Bool) → IsTrue (not b) → b ≡ false
    off false e = refl
    off true e = cc

-- the region of the table before these finds room, and stands apart from theirs
pub regions_more : {X : Type 0} (number : Text → Option ℕ) (known : List Text) (pages : ℕ) (f : X → RegionTable) (xs : List X) (i j : ℕ) (x : X) (result : Result (Unit {0}) Reply) (new : List Region)
    → j + 1 ≡ i → i ≤ length xs → x ≡ get_or xs j x → AreRegionTables known pages (map f xs)
    → result ≡ add_answer 16 (region_from number (f x)) (regions_from number (drop i (map f xs)))
    → OnOk result (new ≡ insert_region (region_from number (f x)) (regions_from number (drop i (map f xs))))
    → new ≡ regions_from number (drop j (map f xs))
regions_more number known pages f xs i j x result new e le is tables answer done =
    let rest = drop i (map f xs) in
    let here = from_place f xs i j x e le is in
    let apart : AreAllApart (f x ∷ rest) = subst AreAllApart here (apart_from j (map f xs) tables.apart) in
    let few : length (regions_from number rest) < 16 = room in
    added (region_from number (f x)) (regions_from number rest) new result (none_met number (f x) rest apart.0) few answer done ∙ ap (regions_from number) (sym here)
  where
    room : length (regions_from number (drop i (map f xs))) < 16
    room =
        let count = length_regions number (drop i (map f xs)) in
        let left = length-drop i (map f xs) in
        let all : length (map f xs) ≡ length xs = length-map xs f in
        omega (arith, count, left, all, tables.few)
