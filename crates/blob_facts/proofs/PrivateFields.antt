-- A private region, field by field: from which host and page on it may stand, so that room is left for those that follow it.
use Rattle.std.proofs.Common.{◌≡◌, ◌<◌, ◌≤◌, ℕ, suc, ◌+◌, ◌-◌, ◌*◌, ◌==◌, nat_lt, if◌then◌else◌, true, false, List, [], ◌∷◌, ◌++◌, ◌⊎◌, inl, inr, refl, sym, ap, ◌∙◌, arith}
use Rattle.std.proofs.lemmas.Bool.Decides.{eqb_tells, leb_tells}
use Rattle.act_atlas_laws.specs.base_types.declared.capabilities.Private.{Private}
use Rattle.act_atlas_laws.specs.base_types.declared.capabilities.Region.{Region}
use Rattle.blob_grammar.specs.Spelling.{region_bytes}
use Rattle.blob_grammar.proofs.Fields.{private_region}
use Rattle.blob_facts.specs.Fields.{IsByteIn, IsFound, IsRefused, Spells, Then}
use Rattle.blob_facts.specs.Loci.{IsPrivateIn, end_page, first_page, least_host}
use Rattle.blob_facts.specs.Parts.{IsRegionIn}
use Rattle.blob_facts.proofs.Bytes.{byte_tells}
use Rattle.blob_facts.proofs.RegionFields.{region_with}
use Rattle.blob_facts.proofs.Sequences.{TellsApart, joined, refused_as, refused_here, refused_later}

-- THE BOUNDS, case by case
pub end_cases : (made left : ℕ) → ((made ≡ 63) × (end_page made left ≡ 256 - left)) ⊎ ((made ≡ 63 → ⊥) × (end_page made left ≡ 256))
end_cases made left = by (eqb_tells made 63)
  where
    by : (((made == 63) ≡ true) × (made ≡ 63)) ⊎ (((made == 63) ≡ false) × (made ≡ 63 → ⊥)) → ((made ≡ 63) × (end_page made left ≡ 256 - left)) ⊎ ((made ≡ 63 → ⊥) × (end_page made left ≡ 256))
    by (inl t) = inl (t.1, ap (λ b. if b then 256 - left else 256) t.0)
    by (inr t) = inr (t.1, ap (λ b. if b then 256 - left else 256) t.0)

pub first_cases : (host page made : ℕ) → ((made ≡ host) × (first_page host page made ≡ page)) ⊎ ((made ≡ host → ⊥) × (first_page host page made ≡ 0))
first_cases host page made = by (eqb_tells made host)
  where
    by : (((made == host) ≡ true) × (made ≡ host)) ⊎ (((made == host) ≡ false) × (made ≡ host → ⊥)) → ((made ≡ host) × (first_page host page made ≡ page)) ⊎ ((made ≡ host → ⊥) × (first_page host page made ≡ 0))
    by (inl t) = inl (t.1, ap (λ b. if b then page else 0) t.0)
    by (inr t) = inr (t.1, ap (λ b. if b then page else 0) t.0)

pub least_cases : (host page left : ℕ) → ((page < end_page host left) × (least_host host page left ≡ host)) ⊎ ((end_page host left ≤ page) × (least_host host page left ≡ host + 1))
least_cases host page left = by (leb_tells (suc page) (end_page host left))
  where
    by : ((nat_lt page (end_page host left) ≡ true) × (suc page ≤ end_page host left)) ⊎ ((nat_lt page (end_page host left) ≡ false) × (end_page host left < suc page))
        → ((page < end_page host left) × (least_host host page left ≡ host)) ⊎ ((end_page host left ≤ page) × (least_host host page left ≡ host + 1))
    by (inl t) = let h = t.1 in inl (omega (arith, h), ap (λ b. if b then host else host + 1) t.0)
    by (inr t) = let h = t.1 in inr (omega (arith, h), ap (λ b. if b then host else host + 1) t.0)

-- WHAT FOLLOWS from them
pub end_size : (made left : ℕ) → left < 16 → (1 ≤ end_page made left) × (end_page made left ≤ 256)
end_size made left few = by (end_cases made left)
  where
    by : ((made ≡ 63) × (end_page made left ≡ 256 - left)) ⊎ ((made ≡ 63 → ⊥) × (end_page made left ≡ 256)) → (1 ≤ end_page made left) × (end_page made left ≤ 256)
    by (inl t) = let e = t.1 in (omega (arith, e, few), omega (arith, e))
    by (inr t) = let e = t.1 in (omega (arith, e), omega (arith, e))

-- a region that ends before the page leaves room
pub leaves : (made left page : ℕ) → made < 64 → left < 16 → page ≤ end_page made left → page + left ≤ 256 * (64 - made)
leaves made left page number few low = by (end_cases made left)
  where
    by : ((made ≡ 63) × (end_page made left ≡ 256 - left)) ⊎ ((made ≡ 63 → ⊥) × (end_page made left ≡ 256)) → page + left ≤ 256 * (64 - made)
    by (inl t) = let e = t.1 in let m = t.0 in omega (arith, e, m, low, few)
    by (inr t) = let e = t.1 in let m = t.0 in omega (arith, e, m, low, few, number)

-- and where there is room it ends before the page
pub reaches : (made left page : ℕ) → made < 64 → page ≤ 256 → page + left ≤ 256 * (64 - made) → page ≤ end_page made left
reaches made left page number size room = by (end_cases made left)
  where
    by : ((made ≡ 63) × (end_page made left ≡ 256 - left)) ⊎ ((made ≡ 63 → ⊥) × (end_page made left ≡ 256)) → page ≤ end_page made left
    by (inl t) = let e = t.1 in let m = t.0 in omega (arith, e, m, room)
    by (inr t) = let e = t.1 in omega (arith, e, size)

abbrev pub private_with : ℕ → Region → Private
private_with made region = record { made = made; region = region }

some_region : (least most : ℕ) → least < most → most ≤ 256 → (b : List ℕ) × Spells (IsRegionIn least most) b
some_region least most some size = (
  region_bytes (region_with least 1 0 0 1),
  record {
    value = region_with least 1 0 0 1;
    spelled = record {
      good = record { some = omega arith; at = omega (arith, some, size); from = omega arith; access = (omega arith, omega arith); target = omega arith };
      low = omega arith;
      high = omega (arith, some);
      is = refl;
    };
  },
)

module _ (host page left : ℕ) (number : host < 64) (few : left < 16) (room : page + left + 1 ≤ 256 * (64 - host)) where
  pub region_room : (made : ℕ) → least_host host page left ≤ made → first_page host page made < end_page made left
  region_room made low = by (least_cases host page left) (first_cases host page made)
    where
      by : ((page < end_page host left) × (least_host host page left ≡ host)) ⊎ ((end_page host left ≤ page) × (least_host host page left ≡ host + 1))
          → ((made ≡ host) × (first_page host page made ≡ page)) ⊎ ((made ≡ host → ⊥) × (first_page host page made ≡ 0)) → first_page host page made < end_page made left
      by t (inr d) = let e = d.1 in let s = (end_size made left few).0 in omega (arith, e, s)
      by (inl t) (inl d) =
          let below = t.0 in
          let e = d.1 in
          let same : end_page made left ≡ end_page host left = ap (λ n. end_page n left) d.0 in
          omega (arith, below, e, same)
      by (inr t) (inl d) = let e = t.1 in let m = d.0 in absurd (omega (arith, e, m, low))

  host_below : host ≤ least_host host page left
  host_below = by (least_cases host page left)
    where
      by : ((page < end_page host left) × (least_host host page left ≡ host)) ⊎ ((end_page host left ≤ page) × (least_host host page left ≡ host + 1)) → host ≤ least_host host page left
      by (inl t) = let e = t.1 in omega (arith, e)
      by (inr t) = let e = t.1 in omega (arith, e)

  least_below : (p : Private) (a : List ℕ) → IsPrivateIn host page left p a → least_host host page left ≤ p.made
  least_below p a f = by (least_cases host page left) (first_cases host page p.made)
    where
      by : ((page < end_page host left) × (least_host host page left ≡ host)) ⊎ ((end_page host left ≤ page) × (least_host host page left ≡ host + 1))
          → ((p.made ≡ host) × (first_page host page p.made ≡ page)) ⊎ ((p.made ≡ host → ⊥) × (first_page host page p.made ≡ 0)) → least_host host page left ≤ p.made
      by (inl t) d = let e = t.1 in let h = f.behind in omega (arith, e, h)
      by (inr t) (inr d) = let e = t.1 in let h = f.behind in let m = d.0 in omega (arith, e, h, m)
      by (inr t) (inl d) =
          let full = t.0 in
          let e = d.1 in
          let low = f.low in
          let high = f.high in
          let some = f.good.region.some in
          let same : end_page p.made left ≡ end_page host left = ap (λ n. end_page n left) d.0 in
          absurd (omega (arith, full, e, low, high, some, same))

  -- THE FIELDS
  abbrev PrivateFields : List ℕ → Type 0
  PrivateFields = Then (IsByteIn (least_host host page left) 63) (λ made. Spells (IsRegionIn (first_page host page made) (end_page made left)))

  private_of : (y : List ℕ) → PrivateFields y → Spells (IsPrivateIn host page left) y
  private_of y f =
      let g = f.followed in
      let low = f.spelled.low in
      let high = f.spelled.high in
      let below = host_below in
      record {
        value = private_with f.value g.value;
        spelled = record {
          behind = omega (arith, low, below);
          good = record { made = omega (arith, high); region = g.spelled.good };
          low = g.spelled.low;
          high = g.spelled.high;
          is = joined f.is f.spelled.is g.spelled.is;
        };
      }

  fields_of : (y : List ℕ) → Spells (IsPrivateIn host page left) y → PrivateFields y
  fields_of y s =
      let p = s.value in
      let f = s.spelled in
      let small = f.good.made in
      record {
        value = p.made;
        front = p.made ∷ [];
        behind = region_bytes p.region;
        spelled = record { low = least_below p y f; high = omega (arith, small); is = refl };
        followed = record { value = p.region; spelled = record { good = f.good.region; low = f.low; high = f.high; is = refl } };
        is = f.is;
      }

  module _ (bytes rest behind : List ℕ) where
    pub made_refused : IsRefused (Spells (IsByteIn (least_host host page left) 63)) bytes behind → IsRefused (Spells (IsPrivateIn host page left)) bytes behind
    made_refused r =
        refused_as private_of fields_of (refused_here (λ v a f. some_region (first_page host page v) (end_page v left) (region_room v f.low) (end_size v left few).1) r)

    pub region_refused : (made : ℕ) → IsFound (IsByteIn (least_host host page left) 63) bytes made rest → IsRefused (Spells (IsRegionIn (first_page host page made) (end_page made left))) rest behind
        → IsRefused (Spells (IsPrivateIn host page left)) bytes behind
    region_refused made f r = refused_as private_of fields_of (refused_later (byte_tells (least_host host page left) 63) f r)

pub private_tells : (host page left : ℕ) → TellsApart (IsPrivateIn host page left)
private_tells host page left = record {
  told = λ v w a b x y f g same.
      let p = f.good.region.at in
      let q = g.good.region.at in
      (private_region v w (omega (arith, p)) (omega (arith, q))).told x y (ap (λ (l : List ℕ). l ++ x) (sym f.is) ∙ same ∙ ap (λ (l : List ℕ). l ++ y) g.is);
}
