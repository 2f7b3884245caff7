-- Regions that are added from the last to the first are the same list again.
use Rattle.std.proofs.Common.{◌≡◌, ℕ, zero, suc, ◌+◌, ◌<◌, ◌≤◌, Bool, true, false, ◌&&◌, ◌||◌, nat_lt, if◌then◌else◌, List, [], ◌∷◌, drop, get_or, length, Ok, Err, Result, OnOk, refl, sym, ap, subst, ◌∙◌, arith, drop-cons, length-drop}
use Rattle.std.specs.List.{list_any}
use Rattle.std.proofs.lemmas.Bool.Decides.{nat_tests}
use Rattle.base_types.specs.declared.capabilities.Region.{Region}
use Rattle.base_types.specs.declared.instructions.Reply.{Reply}
use Rattle.base_types.specs.declared.instructions.Reply.TheVariants.{Overlap as Overlapping, ListFull as Full}
use Rattle.data_regions.specs.Regions.{AllEndBefore, AreRegions, IsRegion, add_answer, insert_region, overlaps}
use Rattle.data_regions.proofs.RegionLemmas.{inserted_first}

and_false : (b : Bool) → (b && false) ≡ false
and_false true = refl
and_false false = refl

not_below : (x y : ℕ) → y ≤ x → nat_lt x y ≡ false
not_below x y le = grind (arith, nat_tests)

-- a region that ends before these begin overlaps none of them, and is put first
none_overlaps : (r : Region) (rest : List Region) → AllEndBefore r rest → list_any (overlaps r) rest ≡ false
none_overlaps r [] all = refl
none_overlaps r (s ∷ rest) all =
    let behind : nat_lt s.at (r.at + r.count) ≡ false = not_below s.at (r.at + r.count) all.0 in
    let apart : overlaps r s ≡ false = ap (λ b. nat_lt r.at (s.at + s.count) && b) behind ∙ and_false (nat_lt r.at (s.at + s.count)) in
    ap (λ b. b || list_any (overlaps r) rest) apart ∙ none_overlaps r rest all.1

put_first : (r : Region) (rest : List Region) → IsRegion r → AllEndBefore r rest → insert_region r rest ≡ r ∷ rest
put_first r [] is all = refl
put_first r (s ∷ rest) is all = inserted_first r s rest (let some = is.0 in let ends = all.0 in omega (arith, some, ends))

-- the regions from one on are regions
from_one : (rs : List Region) (i : ℕ) → AreRegions rs → AreRegions (drop i rs)
from_one rs zero all = all
from_one [] (suc i) all = tt
from_one (r ∷ rs) (suc i) all = from_one rs i all.2

module _ (rs : List Region) (all : AreRegions rs) (few : length rs ≤ 16) (i : ℕ) (d : Region) (lt : i < length rs) where
  abbrev r : Region
  r = get_or rs i d

  parts : AreRegions (r ∷ drop (suc i) rs)
  parts = subst AreRegions (drop-cons rs i d lt) (from_one rs i all)

  pub one_is : IsRegion r
  one_is = parts.0

  pub one_more : (result : Result (Unit {0}) Reply) (new : List Region) → result ≡ add_answer 16 r (drop (i + 1) rs) → OnOk result (new ≡ insert_region r (drop (i + 1) rs)) → new ≡ drop i rs
  one_more result new answer done =
      let rest : List Region = drop (i + 1) rs in
      let same : rest ≡ drop (suc i) rs = ap (λ n. drop n rs) (let e : i + 1 ≡ suc i = omega arith in e) in
      let before : AllEndBefore r rest = subst (AllEndBefore r) (sym same) parts.1 in
      let room : nat_lt (length rest) 16 ≡ true = in_room (length rest) (let len = length-drop (i + 1) rs in omega (arith, len, few, lt)) in
      let ok : result ≡ Ok tt = answer ∙ (ap (λ b. if b then Err Overlapping else (if nat_lt (length rest) 16 then Ok tt else Err Full)) (none_overlaps r rest before) ∙ ap (λ b. if b then Ok tt else Err Full) room) in
      on_ok result ok done ∙ (put_first r rest one_is before ∙ (ap (λ (xs : List Region). r ∷ xs) same ∙ sym (drop-cons rs i d lt)))
    where
      in_room : (n : ℕ) → n < 16 → nat_lt n 16 ≡ true
      in_room n few = grind (arith, nat_tests)

      on_ok : {P : Type 0} (a : Result (Unit {0}) Reply) → a ≡ Ok tt → OnOk a P → P
      on_ok {P = P} a is h = subst (λ (b : Result (Unit {0}) Reply). OnOk b P) is h
