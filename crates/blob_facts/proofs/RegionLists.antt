-- The regions of a container, of which each leaves room for those behind it.
use Rattle.std.proofs.Common.{◌≡◌, ◌≤◌, ℕ, zero, suc, ◌+◌, ◌-◌, min, List, [], ◌∷◌, ◌++◌, length, refl, sym, ap, ◌∙◌, arith}
use Rattle.std.specs.Prelude.{All}
use Rattle.std.specs.List.{AllByRecursion, flat_map}
use Rattle.std.proofs.lemmas.List.Elements.{All-cons, All-nil}
use Rattle.act_atlas_laws.specs.base_types.declared.capabilities.Region.{Region}
use Rattle.blob_grammar.specs.model_kernel.Soundness.{AreApart}
use Rattle.blob_grammar.specs.Forms.{IsNumber}
use Rattle.blob_grammar.specs.Shapes.{IsRegionOver}
use Rattle.blob_grammar.specs.Spelling.{region_bytes}
use Rattle.blob_grammar.proofs.Telling.{each}
use Rattle.blob_facts.specs.Fields.{IsByteIn, IsFound, IsRefused, Items, Spells, Then}
use Rattle.blob_facts.specs.Parts.{AreRegionsOf, IsRegionIn}
use Rattle.blob_facts.proofs.Bytes.{byte_tells}
use Rattle.blob_facts.proofs.RegionFields.{region_with}
use Rattle.blob_facts.proofs.Sequences.{joined, refused_as, refused_here, refused_later}

abbrev pub end_of : ℕ → Region → ℕ
end_of least r = r.at + r.count

module _ (pages : ℕ) where
  -- with so many behind it
  abbrev pub Item : ℕ → ℕ → Region → List ℕ → Type 0
  Item least n = IsRegionIn least (pages - n)

  abbrev pub Regions : ℕ → ℕ → List Region → List ℕ → Type 0
  Regions = Items Item end_of

  -- there are some, where there is room
  pub some_regions : pages ≤ 256 → (n least : ℕ) → least + n ≤ pages → (b : List ℕ) × Spells (Regions n least) b
  some_regions size zero least room = ([], record { value = []; spelled = (refl, refl) })
  some_regions size (suc n) least room =
      let first : Region = region_with least 1 0 0 1 in
      let more = some_regions size n (least + 1) (omega (arith, room)) in (
        region_bytes first ++ more.0,
        record {
          value = first ∷ more.1.value;
          spelled = (
            region_bytes first,
            more.0,
            record {
              good = record { some = omega arith; at = omega (arith, room, size); from = omega arith; access = (omega arith, omega arith); target = omega arith };
              low = omega arith;
              high = omega (arith, room);
              is = refl;
            },
            more.1.spelled,
            refl,
          );
        },
      )

  pub room_behind : pages ≤ 256 → (n least : ℕ) (r : Region) (a : List ℕ) → n ≤ pages → Item least n r a → (b : List ℕ) × Spells (Regions n (end_of least r)) b
  room_behind size n least r a fits item = some_regions size n (r.at + r.count) (let h = item.high in omega (arith, h, fits))

  -- what so many regions from here on keep
  record AreGood (n least : ℕ) (rs : List Region) (y : List ℕ) : Type 0 where
    len : length rs ≡ n
    good : All (IsRegionOver IsNumber) rs
    inside : All (λ (r : Region). r.at + r.count ≤ pages) rs
    apart : AreApart rs
    behind : All (λ (r : Region). least ≤ r.at) rs
    is : y ≡ flat_map region_bytes rs

  later_all : (rs : List Region) (low high : ℕ) → low ≤ high → All (λ (r : Region). high ≤ r.at) rs → All (λ (r : Region). low ≤ r.at) rs
  later_all rs low high le all = λ i d lt. let h = all i d lt in omega (arith, h, le)

  are_good : (n least : ℕ) (rs : List Region) (y : List ℕ) → Regions n least rs y → AreGood n least rs y
  are_good zero least [] y h = record { len = refl; good = All-nil (IsRegionOver IsNumber); inside = All-nil (λ (r : Region). r.at + r.count ≤ pages); apart = tt; behind = All-nil (λ (r : Region). least ≤ r.at); is = h.1 }
  are_good zero least (r ∷ rs) y h = absurd (let e = ap length h.0 in omega (arith, e))
  are_good (suc n) least [] y h = absurd h
  are_good (suc n) least (r ∷ rs) y h =
      let more = are_good n (r.at + r.count) rs h.1 h.3 in
      let low = h.2.low in
      let high = h.2.high in
      let len = more.len in
      record {
        len = omega (arith, len);
        good = All-cons (IsRegionOver IsNumber) r rs h.2.good more.good;
        inside = All-cons (λ (s : Region). s.at + s.count ≤ pages) r rs (omega (arith, high)) more.inside;
        apart = (more.behind, more.apart);
        behind = All-cons (λ (s : Region). least ≤ s.at) r rs low (later_all rs least (r.at + r.count) (omega (arith, low)) more.behind);
        is = joined h.4 h.2.is more.is;
      }

  abbrev IsGood : Region → Type 0
  IsGood r = IsRegionOver IsNumber r × (r.at + r.count ≤ pages)

  room : (rs : List Region) (least : ℕ) → least ≤ pages → AllByRecursion IsGood rs → AreApart rs → AllByRecursion (λ (r : Region). least ≤ r.at) rs → least + length rs ≤ pages
  room [] least le good apart behind = omega (arith, le)
  room (r ∷ rs) least le good apart behind =
      let more = room rs (r.at + r.count) good.0.1 good.1 apart.1 (each (λ (s : Region). r.at + r.count ≤ s.at) rs apart.0) in
      let low = behind.0 in
      let some = good.0.0.some in
      omega (arith, more, low, some)

  as_items : (rs : List Region) (least : ℕ) → AllByRecursion IsGood rs → AreApart rs → AllByRecursion (λ (r : Region). least ≤ r.at) rs → Regions (length rs) least rs (flat_map region_bytes rs)
  as_items [] least good apart behind = (refl, refl)
  as_items (r ∷ rs) least good apart behind =
      let later = each (λ (s : Region). r.at + r.count ≤ s.at) rs apart.0 in
      let high = room rs (r.at + r.count) good.0.1 good.1 apart.1 later in (
        region_bytes r,
        flat_map region_bytes rs,
        record { good = good.0.0; low = behind.0; high = omega (arith, high); is = refl },
        as_items rs (r.at + r.count) good.1 apart.1 later,
        refl,
      )

  -- A LIST WITH ITS NUMBER
  abbrev pub Listed : List ℕ → Type 0
  Listed = Then (IsByteIn 0 (min pages 16)) (λ n. Spells (Regions n 0))

  regions_good : (n : ℕ) (rs : List Region) (y z : List ℕ) → n ≤ min pages 16 → Regions n 0 rs y → z ≡ n ∷ y → AreRegionsOf pages rs z
  regions_good n rs y z few items is =
      let g = are_good n 0 rs y items in
      let len = g.len in
      record { few = omega (arith, len, few); good = g.good; inside = g.inside; apart = g.apart; is = is ∙ (λ i. sym g.len i ∷ g.is i) }

  pub of_listed : (y : List ℕ) → Listed y → Spells (AreRegionsOf pages) y
  of_listed y l = record { value = l.followed.value; spelled = regions_good l.value l.followed.value l.behind y l.spelled.high l.followed.spelled (joined l.is l.spelled.is refl) }

  pub to_listed : (y : List ℕ) → Spells (AreRegionsOf pages) y → Listed y
  to_listed y s =
      let rs = s.value in
      let f = s.spelled in
      let good = each IsGood rs (λ i d lt. (f.good i d lt, f.inside i d lt)) in
      let behind = each (λ (r : Region). 0 ≤ r.at) rs (λ i d lt. omega arith) in
      let high = room rs 0 (omega arith) good f.apart behind in
      let few = f.few in
      record {
        value = length rs;
        front = length rs ∷ [];
        behind = flat_map region_bytes rs;
        spelled = record { low = omega arith; high = omega (arith, high, few); is = refl };
        followed = record { value = rs; spelled = as_items rs 0 good f.apart behind };
        is = f.is;
      }

  pub count_refused : pages ≤ 256 → {bytes behind : List ℕ} → IsRefused (Spells (IsByteIn 0 (min pages 16))) bytes behind → IsRefused (Spells (AreRegionsOf pages)) bytes behind
  count_refused size r = refused_as of_listed to_listed (refused_here (λ n a f. some_regions size n 0 (let h = f.high in omega (arith, h))) r)

  pub item_refused : {bytes rest behind : List ℕ} {n : ℕ} → IsFound (IsByteIn 0 (min pages 16)) bytes n rest → IsRefused (Spells (Regions n 0)) rest behind
      → IsRefused (Spells (AreRegionsOf pages)) bytes behind
  item_refused f r = refused_as of_listed to_listed (refused_later (byte_tells 0 (min pages 16)) f r)

  pub regions_found : (bytes rest behind : List ℕ) (n : ℕ) (rs : List Region) → IsFound (IsByteIn 0 (min pages 16)) bytes n rest → IsFound (Regions n 0) rest rs behind
      → IsFound (AreRegionsOf pages) bytes rs behind
  regions_found bytes rest behind n rs f g = record {
    front = n ∷ g.front;
    spelled = regions_good n rs g.front (n ∷ g.front) f.spelled.high g.spelled refl;
    is = joined f.is f.spelled.is g.is;
  }
