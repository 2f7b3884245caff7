-- Regions, field by field, and lists of them.
use Rattle.std.proofs.Common.{◌<◌, ◌≤◌, ℕ, ◌-◌, ◌^◌, List, [], ◌∷◌, ◌++◌, refl, sym, ap, ◌∙◌, arith}
use Rattle.byteorder.specs.Endian.{little_bytes}
use Rattle.act_atlas_laws.specs.base_types.declared.capabilities.Region.{Region}
use Rattle.blob_grammar.specs.Spelling.{region_bytes}
use Rattle.blob_grammar.proofs.Fields.{region}
use Rattle.blob_facts.specs.Fields.{IsByteIn, IsFound, IsNumberIn, IsRefused, Spells, Then}
use Rattle.blob_facts.specs.Parts.{IsRegionIn}
use Rattle.blob_facts.proofs.Bytes.{byte_tells, some_byte}
use Rattle.blob_facts.proofs.Numbers.{tells}
use Rattle.blob_facts.proofs.Sequences.{TellsApart, chain, joined, refused_as, refused_here, refused_later}

-- WHAT FOLLOWS each field
abbrev pub BehindTarget : ℕ → List ℕ → Type 0
BehindTarget count = Then (IsByteIn 0 (256 - count)) (λ _. Spells (IsByteIn 1 3))

abbrev pub BehindCount : ℕ → List ℕ → Type 0
BehindCount count = Then (IsByteIn 0 63) (λ _. BehindTarget count)

abbrev pub BehindAt : ℕ → ℕ → List ℕ → Type 0
BehindAt most at = Then (IsNumberIn 2 1 (most - at)) BehindCount

abbrev pub Fields : ℕ → ℕ → List ℕ → Type 0
Fields least most = Then (IsByteIn least (most - 1)) (BehindAt most)

behind_target : (count : ℕ) → (b : List ℕ) × BehindTarget count b
behind_target count = (
  0 ∷ 1 ∷ [],
  record {
    value = 0;
    front = 0 ∷ [];
    behind = 1 ∷ [];
    spelled = record { low = omega arith; high = omega arith; is = refl };
    followed = record { value = 1; spelled = record { low = omega arith; high = omega arith; is = refl } };
    is = refl;
  },
)

behind_count : (count : ℕ) → (b : List ℕ) × BehindCount count b
behind_count count =
    let on = behind_target count in
    (0 ∷ on.0, record { value = 0; front = 0 ∷ []; behind = on.0; spelled = record { low = omega arith; high = omega arith; is = refl }; followed = on.1; is = refl })

behind_at : (most at : ℕ) → 1 ≤ most - at → (b : List ℕ) × BehindAt most at b
behind_at most at room =
    let on = behind_count 1 in
    (little_bytes 2 1 ++ on.0, record { value = 1; front = little_bytes 2 1; behind = on.0; spelled = record { low = omega arith; high = room; is = refl }; followed = on.1; is = refl })

abbrev pub region_with : ℕ → ℕ → ℕ → ℕ → ℕ → Region
region_with at count target from access = record { at = at; count = count; target = target; from = from; rights = record { 0 = access } }

module _ (least most : ℕ) (some : least < most) (size : most ≤ 256) where
  region_of : (y : List ℕ) → Fields least most y → Spells (IsRegionIn least most) y
  region_of y f =
      let g = f.followed in
      let h = g.followed in
      let k = h.followed in
      let m = k.followed in
      let a1 = f.spelled.high in
      let a2 = g.spelled.low in
      let a3 = g.spelled.high in
      let a4 = h.spelled.high in
      let a5 = k.spelled.high in
      let a6 = m.spelled.high in
      record {
        value = region_with f.value g.value h.value k.value m.value;
        spelled = record {
          good = record { some = a2; at = omega (arith, a1, a3, size, some); from = omega (arith, a3, a5, size, a2); access = (m.spelled.low, omega (arith, a6)); target = omega (arith, a4) };
          low = f.spelled.low;
          high = omega (arith, a1, a3, some);
          is = joined f.is f.spelled.is (joined g.is g.spelled.is (joined h.is h.spelled.is (joined k.is k.spelled.is m.spelled.is)));
        };
      }

  fields_of : (y : List ℕ) → Spells (IsRegionIn least most) y → Fields least most y
  fields_of y s =
      let r = s.value in
      let f = s.spelled in
      let b1 = f.low in
      let b2 = f.high in
      let b3 = f.good.some in
      let b4 = f.good.from in
      let b5 = f.good.access in
      let b6 = b5.1 in
      let b7 = f.good.target in
      record {
        value = r.at;
        front = r.at ∷ [];
        behind = little_bytes 2 r.count ++ r.target ∷ r.from ∷ r.rights.0 ∷ [];
        spelled = record { low = b1; high = omega (arith, b2, b3); is = refl };
        followed = record {
          value = r.count;
          front = little_bytes 2 r.count;
          behind = r.target ∷ r.from ∷ r.rights.0 ∷ [];
          spelled = record { low = b3; high = omega (arith, b2); is = refl };
          followed = record {
            value = r.target;
            front = r.target ∷ [];
            behind = r.from ∷ r.rights.0 ∷ [];
            spelled = record { low = omega arith; high = omega (arith, b7); is = refl };
            followed = record {
              value = r.from;
              front = r.from ∷ [];
              behind = r.rights.0 ∷ [];
              spelled = record { low = omega arith; high = omega (arith, b4); is = refl };
              followed = record { value = r.rights.0; spelled = record { low = b5.0; high = omega (arith, b6); is = refl } };
              is = refl;
            };
            is = refl;
          };
          is = refl;
        };
        is = f.is;
      }

  count_fits : (at : ℕ) → most - at < 256 ^ 2
  count_fits at = omega (arith, size)

  room_at : (at : ℕ) (a : List ℕ) → IsByteIn least (most - 1) at a → 1 ≤ most - at
  room_at at a f = let h = f.high in omega (arith, h, some)

  module _ (bytes b1 b2 b3 b4 behind : List ℕ) (at count target from : ℕ) where
    pub region_found : (access : ℕ) → IsFound (IsByteIn least (most - 1)) bytes at b1 → IsFound (IsNumberIn 2 1 (most - at)) b1 count b2 → IsFound (IsByteIn 0 63) b2 target b3
        → IsFound (IsByteIn 0 (256 - count)) b3 from b4 → IsFound (IsByteIn 1 3) b4 access behind → IsFound (IsRegionIn least most) bytes (region_with at count target from access) behind
    region_found access f g h k m =
        let a1 = f.spelled.high in
        let a2 = g.spelled.low in
        let a3 = g.spelled.high in
        let a4 = h.spelled.high in
        let a5 = k.spelled.high in
        let a6 = m.spelled.high in
        record {
          front = region_bytes (region_with at count target from access);
          spelled = record {
            good = record { some = a2; at = omega (arith, a1, a3, size, some); from = omega (arith, a3, a5, size, a2); access = (m.spelled.low, omega (arith, a6)); target = omega (arith, a4) };
            low = f.spelled.low;
            high = omega (arith, a1, a3, some);
            is = refl;
          };
          is =
              chain (little_bytes 2 count ++ target ∷ from ∷ access ∷ []) behind f.is f.spelled.is
              (chain (target ∷ from ∷ access ∷ []) behind g.is g.spelled.is
              (chain (from ∷ access ∷ []) behind h.is h.spelled.is
              (chain (access ∷ []) behind k.is k.spelled.is (joined m.is m.spelled.is refl))));
        }

    pub at_refused : IsRefused (Spells (IsByteIn least (most - 1))) bytes behind → IsRefused (Spells (IsRegionIn least most)) bytes behind
    at_refused r = refused_as region_of fields_of (refused_here (λ v a f. behind_at most v (room_at v a f)) r)

    pub count_refused : IsFound (IsByteIn least (most - 1)) bytes at b1 → IsRefused (Spells (IsNumberIn 2 1 (most - at))) b1 behind → IsRefused (Spells (IsRegionIn least most)) bytes behind
    count_refused f r = refused_as region_of fields_of (refused_later (byte_tells least (most - 1)) f (refused_here (λ v a g. behind_count v) r))

    pub target_refused : IsFound (IsByteIn least (most - 1)) bytes at b1 → IsFound (IsNumberIn 2 1 (most - at)) b1 count b2
        → IsRefused (Spells (IsByteIn 0 63)) b2 behind → IsRefused (Spells (IsRegionIn least most)) bytes behind
    target_refused f g r =
        refused_as region_of fields_of (refused_later (byte_tells least (most - 1)) f (refused_later (tells 2 1 (most - at) (count_fits at)) g (refused_here (λ v a h. behind_target count) r)))

    pub from_refused : IsFound (IsByteIn least (most - 1)) bytes at b1 → IsFound (IsNumberIn 2 1 (most - at)) b1 count b2 → IsFound (IsByteIn 0 63) b2 target b3
        → IsRefused (Spells (IsByteIn 0 (256 - count))) b3 behind → IsRefused (Spells (IsRegionIn least most)) bytes behind
    from_refused f g h r =
        refused_as region_of fields_of (refused_later (byte_tells least (most - 1)) f (refused_later (tells 2 1 (most - at) (count_fits at)) g
        (refused_later (byte_tells 0 63) h (refused_here (λ v a k. some_byte 1 3 (omega arith)) r))))

    pub access_refused : IsFound (IsByteIn least (most - 1)) bytes at b1 → IsFound (IsNumberIn 2 1 (most - at)) b1 count b2 → IsFound (IsByteIn 0 63) b2 target b3
        → IsFound (IsByteIn 0 (256 - count)) b3 from b4 → IsRefused (Spells (IsByteIn 1 3)) b4 behind → IsRefused (Spells (IsRegionIn least most)) bytes behind
    access_refused f g h k r =
        refused_as region_of fields_of (refused_later (byte_tells least (most - 1)) f (refused_later (tells 2 1 (most - at) (count_fits at)) g
        (refused_later (byte_tells 0 63) h (refused_later (byte_tells 0 (256 - count)) k r))))

pub region_tells : (least most : ℕ) → most ≤ 256 → TellsApart (IsRegionIn least most)
region_tells least most size = record {
  told = λ v w a b x y f g same.
      let p = f.high in
      let q = g.high in
      (region v w (omega (arith, p, size)) (omega (arith, q, size))).told x y (ap (λ (l : List ℕ). l ++ x) (sym f.is) ∙ same ∙ ap (λ (l : List ℕ). l ++ y) g.is);
}
