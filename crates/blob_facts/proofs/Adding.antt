-- A region behind all others is added at the end.
use Rattle.std.proofs.Common.{◌≡◌, ◌<◌, ◌≤◌, ℕ, ◌+◌, ◌&&◌, ◌||◌, true, false, nat_lt, if◌then◌else◌, List, [], ◌∷◌, ◌++◌, length, Ok, refl, ap, ◌∙◌, arith}
use Rattle.std.proofs.lemmas.Bool.Decides.{nat_tests}
use Rattle.std.specs.List.{list_any}
use Rattle.act_atlas_laws.specs.base_types.declared.capabilities.Region.{Region}
use Rattle.act_atlas_laws.specs.data_regions.Regions.{add_answer, insert_region, overlaps}

abbrev pub AllEnd : ℕ → List Region → Type 0
AllEnd least [] = Unit {0}
AllEnd least (r ∷ rs) = (r.at + r.count ≤ least) × AllEnd least rs

pub later_end : (low high : ℕ) → low ≤ high → (rs : List Region) → AllEnd low rs → AllEnd high rs
later_end low high le [] all = tt
later_end low high le (r ∷ rs) all = ((let h = all.0 in omega (arith, h, le)), later_end low high le rs all.1)

pub one_behind : (least high : ℕ) (r : Region) → least ≤ r.at → r.at + r.count ≤ high → (rs : List Region) → AllEnd least rs → AllEnd high (rs ++ r ∷ [])
one_behind least high r low le [] all = (le, tt)
one_behind least high r low le (s ∷ rs) all = ((let h = all.0 in omega (arith, h, le, low)), one_behind least high r low le rs all.1)

not_below : (x y : ℕ) → y ≤ x → nat_lt x y ≡ false
not_below x y le = grind (arith, nat_tests)

pub none_overlap : (r : Region) (rs : List Region) → AllEnd r.at rs → list_any (overlaps r) rs ≡ false
none_overlap r [] all = refl
none_overlap r (s ∷ rs) all =
    let e : nat_lt r.at (s.at + s.count) ≡ false = not_below r.at (s.at + s.count) all.0 in
    ap (λ b. (b && nat_lt s.at (r.at + r.count)) || list_any (overlaps r) rs) e ∙ none_overlap r rs all.1

pub at_end : (r : Region) (rs : List Region) → AllEnd r.at rs → insert_region r rs ≡ rs ++ r ∷ []
at_end r [] all = refl
at_end r (s ∷ rs) all =
    let h = all.0 in
    ap (λ b. if b then r ∷ s ∷ rs else s ∷ insert_region r rs) (not_below r.at s.at (omega (arith, h))) ∙ ap (λ (l : List Region). s ∷ l) (at_end r rs all.1)

pub has_room : (most : ℕ) (r : Region) (rs : List Region) → AllEnd r.at rs → length rs < most → add_answer most r rs ≡ Ok tt
has_room most r rs all few =
    let e : nat_lt (length rs) most ≡ true = grind (arith, nat_tests) in
    rw (none_overlap r rs all, e) refl
