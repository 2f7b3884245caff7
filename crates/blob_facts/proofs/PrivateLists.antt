-- Private regions, of which each leaves room for those behind it.
use Rattle.std.proofs.Common.{◌≡◌, ◌<◌, ◌≤◌, ℕ, zero, suc, ◌+◌, ◌-◌, ◌*◌, ◌^◌, List, [], ◌∷◌, ◌++◌, ◌⊎◌, inl, inr, length, refl, sym, ap, ◌∙◌, arith, get_or}
use Rattle.std.proofs.lemmas.Bool.Decides.{leb_tells}
use Rattle.std.specs.Prelude.{All, nat_le, true, false}
use Rattle.std.specs.List.{AllByRecursion, flat_map}
use Rattle.std.proofs.lemmas.List.Elements.{All-cons, All-nil}
use Rattle.act_atlas_laws.specs.base_types.declared.capabilities.Private.{Private}
use Rattle.blob_grammar.specs.model_kernel.Soundness.{AreOrdered, IsBefore}
use Rattle.blob_grammar.specs.Forms.{IsNumber}
use Rattle.blob_grammar.specs.Shapes.{IsPrivateOver}
use Rattle.blob_grammar.specs.Spelling.{private_bytes}
use Rattle.blob_grammar.proofs.Fields.{private_region}
use Rattle.blob_grammar.proofs.Telling.{each, list}
use Rattle.blob_facts.specs.Fields.{IsByteIn, IsFound, IsRefused, Items, Spells, Then}
use Rattle.blob_facts.specs.Loci.{ArePrivatesIn, IsPrivateIn, first_page}
use Rattle.blob_facts.proofs.Bytes.{byte_tells}
use Rattle.blob_facts.proofs.PrivateFields.{first_cases, leaves, private_with, reaches}
use Rattle.blob_facts.proofs.RegionFields.{region_with}
use Rattle.blob_facts.proofs.Sequences.{TellsApart, joined, refused_as, refused_here, refused_later}

-- where the regions before end
pub record Edge : Type 0 where
  pub host : ℕ
  pub page : ℕ

abbrev pub edge_of : Edge → Private → Edge
edge_of before p = record { host = p.made; page = p.region.at + p.region.count }

abbrev pub first_edge : Edge
first_edge = record { host = 0; page = 0 }

-- with so many behind it
abbrev pub Item : Edge → ℕ → Private → List ℕ → Type 0
Item before n = IsPrivateIn before.host before.page n

abbrev pub PrivateItems : ℕ → Edge → List Private → List ℕ → Type 0
PrivateItems = Items Item edge_of

-- so many find room behind the edge
pub record HasRoom (before : Edge) (n : ℕ) : Type 0 where
  pub number : before.host < 64
  pub size : before.page ≤ 256
  pub room : before.page + n ≤ 256 * (64 - before.host)

-- an item leaves room for those behind it
pub room_behind : (before : Edge) (n : ℕ) (p : Private) (a : List ℕ) → n < 16 → Item before n p a → HasRoom (edge_of before p) n
room_behind before n p a few f = record {
  number = f.good.made;
  size = f.good.region.at;
  room = leaves p.made n (p.region.at + p.region.count) f.good.made few f.high;
}

-- THERE ARE SOME, where there is room
abbrev small_private : ℕ → ℕ → Private
small_private host page = private_with host (region_with page 1 0 0 1)

small_item : (before : Edge) (n host page : ℕ) → before.host ≤ host → host < 64 → first_page before.host before.page host ≤ page → page + 1 ≤ 256 → page + 1 + n ≤ 256 * (64 - host)
    → Item before n (small_private host page) (private_bytes (small_private host page))
small_item before n host page behind number low size room = record {
  behind = behind;
  good = record { made = number; region = record { some = omega arith; at = size; from = omega arith; access = (omega arith, omega arith); target = omega arith } };
  low = low;
  high = reaches host n (page + 1) number size room;
  is = refl;
}

first_at : (host page made : ℕ) → made ≡ host → first_page host page made ≤ page
first_at host page made e = by (first_cases host page made)
  where
    by : ((made ≡ host) × (first_page host page made ≡ page)) ⊎ ((made ≡ host → ⊥) × (first_page host page made ≡ 0)) → first_page host page made ≤ page
    by (inl t) = let h = t.1 in omega (arith, h)
    by (inr t) = absurd (t.0 e)

first_other : (host page made n : ℕ) → (made ≡ host → ⊥) → first_page host page made ≤ n
first_other host page made n e = by (first_cases host page made)
  where
    by : ((made ≡ host) × (first_page host page made ≡ page)) ⊎ ((made ≡ host → ⊥) × (first_page host page made ≡ 0)) → first_page host page made ≤ n
    by (inl t) = absurd (e t.0)
    by (inr t) = let h = t.1 in omega (arith, h)

-- one that leaves the rest room
first_item : (n : ℕ) (before : Edge) → n < 16 → HasRoom before (suc n) → (p : Private) × Item before n p (private_bytes p)
first_item n before few room = by (leb_tells (before.page + 1) 256)
  where
    by : ((nat_le (before.page + 1) 256 ≡ true) × (before.page + 1 ≤ 256)) ⊎ ((nat_le (before.page + 1) 256 ≡ false) × (256 < before.page + 1)) → (p : Private) × Item before n p (private_bytes p)
    by (inl t) =
        let size = t.1 in
        let r = room.room in (
          small_private before.host before.page,
          small_item before n before.host before.page (omega arith) room.number (first_at before.host before.page before.host refl) size (omega (arith, r)),
        )
    by (inr t) =
        let full = t.1 in
        let r = room.room in
        let number = room.number in
        let size = room.size in (
          small_private (before.host + 1) 0,
          small_item before n (before.host + 1) 0 (omega arith) (omega (arith, full, r, number, size)) (first_other before.host before.page (before.host + 1) 0 (λ e. omega (arith, e))) (omega arith)
              (omega (arith, full, r, number, few, size)),
        )

pub some_privates : (n : ℕ) (before : Edge) → n ≤ 16 → HasRoom before n → (b : List ℕ) × Spells (PrivateItems n before) b
some_privates zero before few room = ([], record { value = []; spelled = (refl, refl) })
some_privates (suc n) before few room =
    let first = first_item n before (omega (arith, few)) room in
    let more = some_privates n (edge_of before first.0) (omega (arith, few)) (room_behind before n first.0 (private_bytes first.0) (omega (arith, few)) first.1) in
    (private_bytes first.0 ++ more.0, record { value = first.0 ∷ more.1.value; spelled = (private_bytes first.0, more.0, first.1, more.1.spelled, refl) })

-- WHAT SO MANY from the edge on keep
abbrev IsBehind : Edge → Private → Type 0
IsBehind before p = (before.host ≤ p.made) × (before.host ≡ p.made → before.page ≤ p.region.at)

pub record AreGood (n : ℕ) (before : Edge) (ps : List Private) (y : List ℕ) : Type 0 where
  pub len : length ps ≡ n
  pub good : All (IsPrivateOver IsNumber) ps
  pub ordered : AreOrdered ps
  pub behind : All (IsBehind before) ps
  pub is : y ≡ flat_map private_bytes ps

item_behind : (before : Edge) (n : ℕ) (p : Private) (a : List ℕ) → Item before n p a → IsBehind before p
item_behind before n p a f = (f.behind, λ e. by e (first_cases before.host before.page p.made))
  where
    by : before.host ≡ p.made → ((p.made ≡ before.host) × (first_page before.host before.page p.made ≡ before.page)) ⊎ ((p.made ≡ before.host → ⊥) × (first_page before.host before.page p.made ≡ 0)) → before.page ≤ p.region.at
    by e (inl t) = let h = t.1 in let low = f.low in omega (arith, h, low)
    by e (inr t) = absurd (t.0 (sym e))

later : (before : Edge) (p q : Private) → IsBehind before p → IsBefore p q → IsBehind before q
later before p q b c =
    let h = b.0 in
    let k = c.0 in (
      omega (arith, h, k),
      λ e.
          let m : before.host ≡ p.made = omega (arith, h, k, e) in
          let n : p.made ≡ q.made = omega (arith, h, k, e) in
          let x = b.1 m in
          let z = c.1 n in
          omega (arith, x, z),
    )

are_good : (n : ℕ) (before : Edge) (ps : List Private) (y : List ℕ) → PrivateItems n before ps y → AreGood n before ps y
are_good zero before [] y h = record { len = refl; good = All-nil (IsPrivateOver IsNumber); ordered = tt; behind = All-nil (IsBehind before); is = h.1 }
are_good zero before (p ∷ ps) y h = absurd (let e = ap length h.0 in omega (arith, e))
are_good (suc n) before [] y h = absurd h
are_good (suc n) before (p ∷ ps) y h =
    let more = are_good n (edge_of before p) ps h.1 h.3 in
    let first = item_behind before n p h.0 h.2 in
    let len = more.len in
    record {
      len = omega (arith, len);
      good = All-cons (IsPrivateOver IsNumber) p ps h.2.good more.good;
      ordered = (more.behind, more.ordered);
      behind = All-cons (IsBehind before) p ps first (λ i d lt. later before p (get_or ps i d) first (more.behind i d lt));
      is = joined h.4 h.2.is more.is;
    }

room_step : (before : Edge) (p : Private) (n : ℕ) → before.page ≤ 256 → IsPrivateOver IsNumber p → IsBehind before p → p.region.at + p.region.count + n ≤ 256 * (64 - p.made)
    → before.page + suc n ≤ 256 * (64 - before.host)
room_step before p n size good behind more = by (leb_tells (before.host + 1) p.made)
  where
    by : ((nat_le (before.host + 1) p.made ≡ true) × (before.host + 1 ≤ p.made)) ⊎ ((nat_le (before.host + 1) p.made ≡ false) × (p.made < before.host + 1)) → before.page + suc n ≤ 256 * (64 - before.host)
    by (inl t) =
        let above = t.1 in
        let some = good.region.some in
        let small = good.made in
        omega (arith, above, more, some, size, small)
    by (inr t) =
        let low = behind.0 in
        let below = t.1 in
        let same : before.host ≡ p.made = omega (arith, low, below) in
        let at = behind.1 same in
        let some = good.region.some in
        omega (arith, same, at, more, some)

room_for : (ps : List Private) (before : Edge) → before.host < 64 → before.page ≤ 256 → AllByRecursion (IsPrivateOver IsNumber) ps → AreOrdered ps → AllByRecursion (IsBehind before) ps
    → before.page + length ps ≤ 256 * (64 - before.host)
room_for [] before number size good ordered behind = omega (arith, number, size)
room_for (p ∷ ps) before number size good ordered behind =
    room_step before p (length ps) size good.0 behind.0 (room_for ps (edge_of before p) good.0.made good.0.region.at good.1 ordered.1 (each (IsBefore p) ps ordered.0))

as_items : (ps : List Private) (before : Edge) → AllByRecursion (IsPrivateOver IsNumber) ps → AreOrdered ps → AllByRecursion (IsBehind before) ps → PrivateItems (length ps) before ps (flat_map private_bytes ps)
as_items [] before good ordered behind = (refl, refl)
as_items (p ∷ ps) before good ordered behind =
    let after = each (IsBefore p) ps ordered.0 in
    let room = room_for ps (edge_of before p) good.0.made good.0.region.at good.1 ordered.1 after in (
      private_bytes p,
      flat_map private_bytes ps,
      record { behind = behind.0.0; good = good.0; low = low_at (first_cases before.host before.page p.made); high = reaches p.made (length ps) (p.region.at + p.region.count) good.0.made good.0.region.at room; is = refl },
      as_items ps (edge_of before p) good.1 ordered.1 after,
      refl,
    )
  where
    low_at : ((p.made ≡ before.host) × (first_page before.host before.page p.made ≡ before.page)) ⊎ ((p.made ≡ before.host → ⊥) × (first_page before.host before.page p.made ≡ 0)) → first_page before.host before.page p.made ≤ p.region.at
    low_at (inl t) = let h = t.1 in let at = behind.0.1 (sym t.0) in omega (arith, h, at)
    low_at (inr t) = let h = t.1 in omega (arith, h)

-- A LIST WITH ITS NUMBER
pub first_room : (n : ℕ) → n ≤ 16 → HasRoom first_edge n
first_room n few = record { number = omega arith; size = omega arith; room = omega (arith, few) }

module _ (least most : ℕ) where
  abbrev Numbered : List ℕ → Type 0
  Numbered = Then (IsByteIn least most) (λ n. Spells (PrivateItems n first_edge))

  privates_good : (n : ℕ) (ps : List Private) (y z : List ℕ) → least ≤ n → n ≤ most → PrivateItems n first_edge ps y → z ≡ n ∷ y → ArePrivatesIn least most ps z
  privates_good n ps y z some few items is =
      let g = are_good n first_edge ps y items in
      let len = g.len in
      record { some = omega (arith, len, some); few = omega (arith, len, few); good = g.good; ordered = g.ordered; is = is ∙ (λ i. sym g.len i ∷ g.is i) }

  of_numbered : (y : List ℕ) → Numbered y → Spells (ArePrivatesIn least most) y
  of_numbered y l = record { value = l.followed.value; spelled = privates_good l.value l.followed.value l.behind y l.spelled.low l.spelled.high l.followed.spelled (joined l.is l.spelled.is refl) }

  to_numbered : (y : List ℕ) → Spells (ArePrivatesIn least most) y → Numbered y
  to_numbered y s =
      let ps = s.value in
      let f = s.spelled in
      record {
        value = length ps;
        front = length ps ∷ [];
        behind = flat_map private_bytes ps;
        spelled = record { low = f.some; high = f.few; is = refl };
        followed = record { value = ps; spelled = as_items ps first_edge (each (IsPrivateOver IsNumber) ps f.good) f.ordered (each (IsBehind first_edge) ps (λ i d lt. (omega arith, λ e. omega arith))) };
        is = f.is;
      }

  pub some_list : least ≤ most → most ≤ 16 → (b : List ℕ) × Spells (ArePrivatesIn least most) b
  some_list some size =
      let on = some_privates least first_edge (omega (arith, some, size)) (first_room least (omega (arith, some, size))) in
      (least ∷ on.0, record { value = on.1.value; spelled = privates_good least on.1.value on.0 (least ∷ on.0) (omega arith) some on.1.spelled refl })

  pub count_refused : most ≤ 16 → (bytes behind : List ℕ) → IsRefused (Spells (IsByteIn least most)) bytes behind → IsRefused (Spells (ArePrivatesIn least most)) bytes behind
  count_refused size bytes behind r =
      refused_as of_numbered to_numbered (refused_here (λ n a f. let h = f.high in some_privates n first_edge (omega (arith, h, size)) (first_room n (omega (arith, h, size)))) r)

  pub item_refused : (bytes rest behind : List ℕ) (n : ℕ) → IsFound (IsByteIn least most) bytes n rest → IsRefused (Spells (PrivateItems n first_edge)) rest behind
      → IsRefused (Spells (ArePrivatesIn least most)) bytes behind
  item_refused bytes rest behind n f r = refused_as of_numbered to_numbered (refused_later (byte_tells least most) f r)

  pub privates_found : (bytes rest behind : List ℕ) (n : ℕ) (ps : List Private) → IsFound (IsByteIn least most) bytes n rest → IsFound (PrivateItems n first_edge) rest ps behind
      → IsFound (ArePrivatesIn least most) bytes ps behind
  privates_found bytes rest behind n ps f g = record {
    front = n ∷ g.front;
    spelled = privates_good n ps g.front (n ∷ g.front) f.spelled.low f.spelled.high g.spelled refl;
    is = joined f.is f.spelled.is g.is;
  }

abbrev IsShort : Private → Type 0
IsShort p = p.region.count < 256 ^ 2

short : (ps : List Private) → All (IsPrivateOver IsNumber) ps → AllByRecursion IsShort ps
short ps all = each IsShort ps (λ i d lt. let at = (all i d lt).region.at in omega (arith, at))

pub privates_tell : (least most : ℕ) → TellsApart (ArePrivatesIn least most)
privates_tell least most = record {
  told = λ v w a b x y f g same.
      (list private_bytes IsShort private_region v w (short v f.good) (short w g.good)).told x y
      (ap (λ (l : List ℕ). l ++ x) (sym f.is) ∙ same ∙ ap (λ (l : List ℕ). l ++ y) g.is);
}
