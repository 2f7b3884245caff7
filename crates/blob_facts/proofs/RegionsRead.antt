-- A reader of regions, at each region.
use Rattle.std.proofs.Common.{◌≡◌, ◌<◌, ◌≤◌, ℕ, suc, ◌+◌, ◌-◌, min, List, [], ◌∷◌, ◌++◌, length, Result, refl, sym, subst, ◌∙◌, arith}
use Rattle.std.proofs.lemmas.List.{length-append}
use Rattle.std.specs.Prelude.{OnOk}
use Rattle.act_atlas_laws.specs.base_types.declared.capabilities.Region.{Region}
use Rattle.act_atlas_laws.specs.base_types.declared.instructions.Reply.{Reply}
use Rattle.act_atlas_laws.specs.data_regions.Regions.{add_answer, insert_region}
use Rattle.blob_facts.specs.Fields.{IsFound, IsRefused, Spells}
use Rattle.blob_facts.specs.Parts.{IsRegionIn}
use Rattle.blob_facts.proofs.Adding.{AllEnd, at_end, has_room, later_end, one_behind}
use Rattle.blob_facts.proofs.Items.{HasRead, all_read, none_yet, one_more, one_refused}
use Rattle.blob_facts.proofs.RegionFields.{region_tells}
use Rattle.blob_facts.proofs.RegionLists.{Item, Regions, end_of, room_behind}

module _ (pages count : ℕ) (bytes : List ℕ) where
  abbrev pub SoFar : ℕ → ℕ → List Region → List ℕ → Type 0
  SoFar place least rs rest =
      (length rs ≡ place) × (least + (count - place) ≤ pages) × AllEnd least rs × HasRead (Item pages) end_of count 0 bytes rs (count - place) least rest

  pub begun : (rs : List Region) → rs ≡ [] → count ≤ min pages 16 → SoFar 0 0 rs bytes
  begun rs none few =
      subst (λ (l : List Region). SoFar 0 0 l bytes) (sym none) (
        refl,
        omega (arith, few),
        tt,
        subst (λ n. HasRead (Item pages) end_of count 0 bytes [] n 0 bytes) (let e : count ≡ count - 0 = omega arith in e) (none_yet (Item pages) end_of count 0 bytes),
      )

  module _ (place least : ℕ) (rs : List Region) (rest behind : List ℕ) (size : pages ≤ 256) (more : place < count) (so_far : SoFar place least rs rest) where
    left_is : count - place ≡ suc (count - place - 1)
    left_is = omega (arith, more)

    still : HasRead (Item pages) end_of count 0 bytes rs (suc (count - place - 1)) least rest
    still = subst (λ n. HasRead (Item pages) end_of count 0 bytes rs n least rest) left_is so_far.3

    pub region_refused : IsRefused (Spells (IsRegionIn least (pages - (count - place - 1)))) rest behind → IsRefused (Spells (Regions pages count 0)) bytes behind
    region_refused r =
        let room = so_far.1 in
        one_refused (Item pages) end_of count 0 bytes rs (count - place - 1) least rest behind
        (λ v a f. room_behind pages size (count - place - 1) least v a (omega (arith, room, more)) f) still r

    pub ends_before : (r : Region) → IsFound (IsRegionIn least (pages - (count - place - 1))) rest r behind → AllEnd r.at rs
    ends_before r f = later_end least r.at f.spelled.low rs so_far.2

    pub added : (r : Region) (rs' : List Region) → IsFound (IsRegionIn least (pages - (count - place - 1))) rest r behind → rs' ≡ insert_region r rs → SoFar (place + 1) (r.at + r.count) rs' behind
    added r rs' f is =
        let room = so_far.1 in
        let low = f.spelled.low in
        let high = f.spelled.high in
        let len = so_far.0 in
        let e = length-append rs (r ∷ []) in
        subst (λ (l : List Region). SoFar (place + 1) (r.at + r.count) l behind) (sym (is ∙ at_end r rs (ends_before r f))) (
          omega (arith, e, len),
          omega (arith, high, room, more),
          one_behind least (r.at + r.count) r low (omega arith) rs so_far.2,
          subst (λ n. HasRead (Item pages) end_of count 0 bytes (rs ++ r ∷ []) n (r.at + r.count) behind) (let e : count - place - 1 ≡ count - (place + 1) = omega arith in e)
              (one_more (Item pages) end_of count 0 bytes rs (count - place - 1) least rest r behind (region_tells least (pages - (count - place - 1)) (omega (arith, size))) still f),
        )

  pub all_added : (place least : ℕ) (rs : List Region) (rest : List ℕ) → count ≤ place → SoFar place least rs rest → IsFound (Regions pages count 0) bytes rs rest
  all_added place least rs rest end so_far =
      all_read (Item pages) end_of count 0 bytes rs least rest (subst (λ n. HasRead (Item pages) end_of count 0 bytes rs n least rest) (let e : count - place ≡ 0 = omega (arith, end) in e) so_far.3)

-- what adding a region leaves, where there is room for it
pub put : (r : Region) (rs rs' : List Region) (result : Result (Unit {0}) Reply) → AllEnd r.at rs → length rs < 16 → result ≡ add_answer 16 r rs
    → OnOk result (rs' ≡ insert_region r rs) → rs' ≡ insert_region r rs
put r rs rs' result all few is ok = subst (λ (a : Result (Unit {0}) Reply). OnOk a (rs' ≡ insert_region r rs)) (is ∙ has_room 16 r rs all few) ok
