-- Capabilities by their slots: the slots of a list, and a list filled slot by slot.
use Rattle.std.proofs.Common.{◌≡◌, ◌<◌, ◌≤◌, ℕ, zero, suc, ◌+◌, ◌-◌, List, [], ◌∷◌, ◌++◌, length, replicate, slice_set, Option, Some, None, refl, sym, ap, subst, ◌∙◌, arith, append_assoc}
use Rattle.std.specs.Prelude.{drop, slice_get, slice_index}
use Rattle.std.specs.List.{AllByRecursion, flat_map}
use Rattle.std.proofs.lemmas.List.{length-set, append-nil}
use Rattle.act_atlas_laws.specs.base_types.declared.capabilities.Cap.{Cap}
use Rattle.blob_grammar.specs.Spelling.{Slot, slot_bytes, used_slots}
use Rattle.blob_facts.specs.Fields.{IsByteIn, IsFound, IsRefused, Items, Spells, Then}
use Rattle.blob_facts.specs.Parts.{AreCapsSpelled, IsSlotIn, slot_with}
use Rattle.blob_facts.proofs.Bytes.{byte_tells, some_byte}
use Rattle.blob_facts.proofs.Items.{HasRead, all_read, none_yet, one_more, one_refused}
use Rattle.blob_facts.proofs.Sequences.{TellsApart, chain, joined, refused_as, refused_here, refused_later}
use Rattle.blob_grammar.proofs.Sizes.{used_few}

-- ONE SLOT
abbrev pub SlotFields : ℕ → ℕ → List ℕ → Type 0
SlotFields least most = Then (IsByteIn least most) (λ _. Then (IsByteIn 0 63) (λ _. Spells (IsByteIn 0 255)))

behind_slot : (b : List ℕ) × Then (IsByteIn 0 63) (λ _. Spells (IsByteIn 0 255)) b
behind_slot = (
  0 ∷ 0 ∷ [],
  record {
    value = 0;
    front = 0 ∷ [];
    behind = 0 ∷ [];
    spelled = record { low = omega arith; high = omega arith; is = refl };
    followed = record { value = 0; spelled = record { low = omega arith; high = omega arith; is = refl } };
    is = refl;
  },
)

module _ (least most : ℕ) where
  slot_of : (y : List ℕ) → SlotFields least most y → Spells (IsSlotIn least most) y
  slot_of y f =
      let g = f.followed in
      let h = g.followed in
      let a = g.spelled.high in
      let b = h.spelled.high in
      record {
        value = slot_with f.value g.value h.value;
        spelled = record { low = f.spelled.low; high = f.spelled.high; entity = omega (arith, a); rights = omega (arith, b); is = joined f.is f.spelled.is (joined g.is g.spelled.is h.spelled.is) };
      }

  fields_of : (y : List ℕ) → Spells (IsSlotIn least most) y → SlotFields least most y
  fields_of y s =
      let v = s.value in
      let f = s.spelled in
      let a = f.entity in
      let b = f.rights in
      record {
        value = v.slot;
        front = v.slot ∷ [];
        behind = v.cap.entity ∷ v.cap.rights.0 ∷ [];
        spelled = record { low = f.low; high = f.high; is = refl };
        followed = record {
          value = v.cap.entity;
          front = v.cap.entity ∷ [];
          behind = v.cap.rights.0 ∷ [];
          spelled = record { low = omega arith; high = omega (arith, a); is = refl };
          followed = record { value = v.cap.rights.0; spelled = record { low = omega arith; high = omega (arith, b); is = refl } };
          is = refl;
        };
        is = f.is;
      }

  pub slot_tells : TellsApart (IsSlotIn least most)
  slot_tells = record {
    told = λ v w a b x y f g same.
        let e : slot_bytes v ++ x ≡ slot_bytes w ++ y = ap (λ (l : List ℕ). l ++ x) (sym f.is) ∙ same ∙ ap (λ (l : List ℕ). l ++ y) g.is in
        (λ i. record { slot = slice_index (e i) 0; cap = record { entity = slice_index (e i) 1; rights = record { 0 = slice_index (e i) 2 } } }, λ i. drop 3 (e i));
  }

  module _ (bytes b1 b2 behind : List ℕ) (slot entity : ℕ) where
    pub number_refused : IsRefused (Spells (IsByteIn least most)) bytes behind → IsRefused (Spells (IsSlotIn least most)) bytes behind
    number_refused r = refused_as slot_of fields_of (refused_here (λ v a f. behind_slot) r)

    pub entity_refused : IsFound (IsByteIn least most) bytes slot b1 → IsRefused (Spells (IsByteIn 0 63)) b1 behind → IsRefused (Spells (IsSlotIn least most)) bytes behind
    entity_refused f r = refused_as slot_of fields_of (refused_later (byte_tells least most) f (refused_here (λ v a g. some_byte 0 255 (omega arith)) r))

    pub rights_refused : IsFound (IsByteIn least most) bytes slot b1 → IsFound (IsByteIn 0 63) b1 entity b2 → IsRefused (Spells (IsByteIn 0 255)) b2 behind
        → IsRefused (Spells (IsSlotIn least most)) bytes behind
    rights_refused f g r = refused_as slot_of fields_of (refused_later (byte_tells least most) f (refused_later (byte_tells 0 63) g r))

    pub slot_found : (rights : ℕ) → IsFound (IsByteIn least most) bytes slot b1 → IsFound (IsByteIn 0 63) b1 entity b2 → IsFound (IsByteIn 0 255) b2 rights behind
        → IsFound (IsSlotIn least most) bytes (slot_with slot entity rights) behind
    slot_found rights f g h =
        let a = g.spelled.high in
        let b = h.spelled.high in
        record {
          front = slot ∷ entity ∷ rights ∷ [];
          spelled = record { low = f.spelled.low; high = f.spelled.high; entity = omega (arith, a); rights = omega (arith, b); is = refl };
          is = chain (entity ∷ rights ∷ []) behind f.is f.spelled.is (chain (rights ∷ []) behind g.is g.spelled.is (joined h.is h.spelled.is refl));
        }

-- LISTS OF SLOTS, ascending, of which each leaves room for those behind it
abbrev pub slot_after : ℕ → Slot → ℕ
slot_after least s = s.slot + 1

abbrev pub SlotItem : ℕ → ℕ → Slot → List ℕ → Type 0
SlotItem least n = IsSlotIn least (31 - n)

abbrev pub SlotList : ℕ → ℕ → List Slot → List ℕ → Type 0
SlotList = Items SlotItem slot_after

pub some_slots : (n least : ℕ) → least + n ≤ 32 → (b : List ℕ) × Spells (SlotList n least) b
some_slots zero least room = ([], record { value = []; spelled = (refl, refl) })
some_slots (suc n) least room =
    let more = some_slots n (least + 1) (omega (arith, room)) in (
      least ∷ 0 ∷ 0 ∷ more.0,
      record {
        value = slot_with least 0 0 ∷ more.1.value;
        spelled = (least ∷ 0 ∷ 0 ∷ [], more.0, record { low = omega arith; high = omega (arith, room); entity = omega arith; rights = omega arith; is = refl }, more.1.spelled, refl);
      },
    )

-- A LIST WHOSE SLOTS are these, and none from a slot on
abbrev IsGoodCap : Cap → Type 0
IsGoodCap cap = (cap.entity < 64) × (cap.rights.0 < 256)

abbrev IsGoodSlot : Slot → Type 0
IsGoodSlot s = IsGoodCap s.cap

abbrev NoneFrom : ℕ → List (Option Cap) → Type 0
NoneFrom least [] = Unit {0}
NoneFrom zero (c ∷ caps) = (c ≡ None) × NoneFrom zero caps
NoneFrom (suc least) (c ∷ caps) = NoneFrom least caps

pub record IsFilled (least : ℕ) (caps : List (Option Cap)) (ss : List Slot) : Type 0 where
  pub len : length caps ≡ 32
  pub slots : used_slots 0 caps ≡ ss
  pub none : NoneFrom least caps
  pub good : AllByRecursion IsGoodSlot ss

none_used : (n : ℕ) (caps : List (Option Cap)) → NoneFrom zero caps → used_slots n caps ≡ []
none_used n [] h = refl
none_used n (None ∷ caps) h = none_used (n + 1) caps h.1
none_used n (Some c ∷ caps) h = absurd (some_none h.0)
  where
    is_some : Option Cap → Type 0
    is_some None = ⊥
    is_some (Some c) = Unit {0}

    some_none : {c : Cap} → Some c ≡ None → ⊥
    some_none e = subst is_some e tt

set_used : (caps : List (Option Cap)) (n least i : ℕ) (cap : Cap) → NoneFrom least caps → least ≤ i → i < length caps
    → used_slots n (slice_set caps i (Some cap)) ≡ used_slots n caps ++ record { slot = n + i; cap = cap } ∷ []
set_used [] n least i cap h le lt = absurd (omega (arith, lt))
set_used (None ∷ caps) n zero zero cap h le lt =
    let none = none_used (n + 1) caps h.1 in
    let e : n ≡ n + 0 = omega arith in
    (λ i. record { slot = e i; cap = cap } ∷ none i) ∙ ap (λ (l : List Slot). l ++ record { slot = n + 0; cap = cap } ∷ []) (sym none)
set_used (Some d ∷ caps) n zero zero cap h le lt = ap (λ (l : List Slot). l) (absurd (let e = none_used 0 (Some d ∷ caps) h in let k = ap length e in omega (arith, k)))
set_used (c ∷ caps) n (suc least) zero cap h le lt = absurd (omega (arith, le))
set_used (None ∷ caps) n zero (suc i) cap h le lt =
    set_used caps (n + 1) zero i cap h.1 (omega arith) (omega (arith, lt)) ∙ (λ j. used_slots (n + 1) caps ++ record { slot = at j; cap = cap } ∷ [])
  where
    at : (n + 1) + i ≡ n + suc i
    at = omega arith
set_used (Some d ∷ caps) n zero (suc i) cap h le lt = absurd (let e = none_used 0 (Some d ∷ caps) h in let k = ap length e in omega (arith, k))
set_used (None ∷ caps) n (suc least) (suc i) cap h le lt =
    set_used caps (n + 1) least i cap h (omega (arith, le)) (omega (arith, lt)) ∙ (λ j. used_slots (n + 1) caps ++ record { slot = at j; cap = cap } ∷ [])
  where
    at : (n + 1) + i ≡ n + suc i
    at = omega arith
set_used (Some d ∷ caps) n (suc least) (suc i) cap h le lt =
    ap (λ (l : List Slot). record { slot = n; cap = d } ∷ l)
    (set_used caps (n + 1) least i cap h (omega (arith, le)) (omega (arith, lt)) ∙ (λ j. used_slots (n + 1) caps ++ record { slot = at j; cap = cap } ∷ []))
  where
    at : (n + 1) + i ≡ n + suc i
    at = omega arith

set_none : (caps : List (Option Cap)) (least i : ℕ) (c : Option Cap) → NoneFrom least caps → least ≤ i → NoneFrom (suc i) (slice_set caps i c)
set_none [] least i c h le = tt
set_none (d ∷ caps) zero zero c h le = h.1
set_none (d ∷ caps) (suc least) zero c h le = absurd (omega (arith, le))
set_none (d ∷ caps) zero (suc i) c h le = set_none caps zero i c h.1 (omega arith)
set_none (d ∷ caps) (suc least) (suc i) c h le = set_none caps least i c h (omega (arith, le))

one_good : (ss : List Slot) (s : Slot) → AllByRecursion IsGoodSlot ss → IsGoodSlot s → AllByRecursion IsGoodSlot (ss ++ s ∷ [])
one_good [] s all good = (good, tt)
one_good (t ∷ ss) s all good = (all.0, one_good ss s all.1 good)

pub fill : (least : ℕ) (caps : List (Option Cap)) (ss : List Slot) (s : Slot) → IsFilled least caps ss → least ≤ s.slot → s.slot < 32 → s.cap.entity < 64 → s.cap.rights.0 < 256
    → IsFilled (s.slot + 1) (slice_set caps s.slot (Some s.cap)) (ss ++ s ∷ [])
fill least caps ss s filled low high entity rights =
    let len = filled.len in
    record {
      len = length-set caps s.slot (Some s.cap) ∙ len;
      slots = set_used caps 0 least s.slot s.cap filled.none low (omega (arith, len, high)) ∙ (λ i. filled.slots i ++ record { slot = (let e : 0 + s.slot ≡ s.slot = omega arith in e) i; cap = s.cap } ∷ []);
      none = subst (λ n. NoneFrom n (slice_set caps s.slot (Some s.cap))) (let e : suc s.slot ≡ s.slot + 1 = omega arith in e) (set_none caps least s.slot (Some s.cap) filled.none low);
      good = one_good ss s filled.good (entity, rights);
    }

none_in : (n : ℕ) → NoneFrom 0 (replicate n None)
none_in zero = tt
none_in (suc n) = (refl, none_in n)

pub not_filled : IsFilled 0 (replicate 32 None) []
not_filled = record { len = refl; slots = refl; none = none_in 32; good = tt }

each_good : (caps : List (Option Cap)) (n : ℕ) → AllByRecursion IsGoodSlot (used_slots n caps) → (slot : ℕ) (cap : Cap) → slice_get caps slot ≡ Some (Some cap) → IsGoodCap cap
each_good [] n all slot cap e = absurd (no_cap e)
  where
    has : Option (Option Cap) → Type 0
    has None = ⊥
    has (Some c) = Unit {0}

    no_cap : {c : Option Cap} → None ≡ Some c → ⊥
    no_cap e = subst has (sym e) tt
each_good (None ∷ caps) n all zero cap e = absurd (no_cap e)
  where
    has : Option (Option Cap) → Type 0
    has None = ⊥
    has (Some None) = ⊥
    has (Some (Some c)) = Unit {0}

    empty_slot : Option (Option Cap)
    empty_slot = Some None

    no_cap : {c : Cap} → Some None ≡ Some (Some c) → ⊥
    no_cap e = subst has (sym e) tt
each_good (Some d ∷ caps) n all zero cap e = subst IsGoodCap (ap (λ (o : Option (Option Cap)). the_cap d o) e) all.0
  where
    the_cap : Cap → Option (Option Cap) → Cap
    the_cap d None = d
    the_cap d (Some None) = d
    the_cap d (Some (Some c)) = c
each_good (None ∷ caps) n all (suc slot) cap e = each_good caps (n + 1) all slot cap e
each_good (Some d ∷ caps) n all (suc slot) cap e = each_good caps (n + 1) all.1 slot cap e

pub caps_spelled : (least : ℕ) (caps : List (Option Cap)) (ss : List Slot) (y : List ℕ) → IsFilled least caps ss → y ≡ length ss ∷ flat_map slot_bytes ss → AreCapsSpelled caps y
caps_spelled least caps ss y filled is =
    let good = each_good caps 0 (subst (λ (l : List Slot). AllByRecursion IsGoodSlot l) (sym filled.slots) filled.good) in
    record {
      good = record { slots = filled.len; each = λ slot cap e. (good slot cap e).0 };
      rights = λ slot cap e. (good slot cap e).1;
      is = is ∙ (λ i. length (sym filled.slots i) ∷ flat_map slot_bytes (sym filled.slots i));
    }

-- LISTS AND THEIR SLOTS
slots_are : (n least : ℕ) (ss : List Slot) (y : List ℕ) → SlotList n least ss y → (length ss ≡ n) × (y ≡ flat_map slot_bytes ss)
slots_are zero least [] y h = (refl, h.1)
slots_are zero least (s ∷ ss) y h = absurd (let e = ap length h.0 in omega (arith, e))
slots_are (suc n) least [] y h = absurd h
slots_are (suc n) least (s ∷ ss) y h =
    let more = slots_are n (s.slot + 1) ss h.1 h.3 in
    let len = more.0 in
    (omega (arith, len), joined h.4 h.2.is more.1)

-- some list has these slots
filled_by : (n least : ℕ) (caps : List (Option Cap)) (before ss : List Slot) (y : List ℕ) → IsFilled least caps before → SlotList n least ss y
    → (end : ℕ) × (all : List (Option Cap)) × IsFilled end all (before ++ ss)
filled_by zero least caps before [] y filled h = (least, caps, subst (IsFilled least caps) (sym (append-nil before)) filled)
filled_by zero least caps before (s ∷ ss) y filled h = absurd (let e = ap length h.0 in omega (arith, e))
filled_by (suc n) least caps before [] y filled h = absurd h
filled_by (suc n) least caps before (s ∷ ss) y filled h =
    let high = h.2.high in
    let more = filled_by n (s.slot + 1) (slice_set caps s.slot (Some s.cap)) (before ++ s ∷ []) ss h.1
    (fill least caps before s filled h.2.low (omega (arith, high)) h.2.entity h.2.rights) h.3 in
    (more.0, more.1, subst (IsFilled more.0 more.1) (append_assoc before (s ∷ []) ss) more.2)

abbrev AllGood : List (Option Cap) → Type 0
AllGood [] = Unit {0}
AllGood (None ∷ caps) = AllGood caps
AllGood (Some c ∷ caps) = IsGoodCap c × AllGood caps

items_of : (caps : List (Option Cap)) (least n : ℕ) → n + length caps ≡ 32 → least ≤ n → AllGood caps
    → SlotList (length (used_slots n caps)) least (used_slots n caps) (flat_map slot_bytes (used_slots n caps))
items_of [] least n len le good = (refl, refl)
items_of (None ∷ caps) least n len le good = items_of caps least (n + 1) (omega (arith, len)) (omega (arith, le)) good
items_of (Some c ∷ caps) least n len le good =
    let few = used_few (n + 1) caps in (
      n ∷ c.entity ∷ c.rights.0 ∷ [],
      flat_map slot_bytes (used_slots (n + 1) caps),
      record { low = le; high = omega (arith, few, len); entity = good.0.0; rights = good.0.1; is = refl },
      items_of caps (n + 1) (n + 1) (omega (arith, len)) (omega arith) good.1,
      refl,
    )

all_good : (caps : List (Option Cap)) → ((slot : ℕ) (cap : Cap) → slice_get caps slot ≡ Some (Some cap) → IsGoodCap cap) → AllGood caps
all_good [] each = tt
all_good (None ∷ caps) each = all_good caps (λ slot cap e. each (suc slot) cap e)
all_good (Some c ∷ caps) each = (each 0 c refl, all_good caps (λ slot cap e. each (suc slot) cap e))

-- A LIST WITH THE NUMBER OF ITS SLOTS
abbrev pub ListedSlots : List ℕ → Type 0
ListedSlots = Then (IsByteIn 0 32) (λ n. Spells (SlotList n 0))

of_listed : (y : List ℕ) → ListedSlots y → Spells AreCapsSpelled y
of_listed y l =
    let ss = l.followed.value in
    let are = slots_are l.value 0 ss l.behind l.followed.spelled in
    let by = filled_by l.value 0 (replicate 32 None) [] ss l.behind not_filled l.followed.spelled in
    record { value = by.1; spelled = caps_spelled by.0 by.1 ss y by.2 (joined l.is l.spelled.is are.1 ∙ (λ i. sym are.0 i ∷ flat_map slot_bytes ss)) }

to_listed : (y : List ℕ) → Spells AreCapsSpelled y → ListedSlots y
to_listed y s =
    let caps = s.value in
    let len = s.spelled.good.slots in
    let few = used_few 0 caps in
    record {
      value = length (used_slots 0 caps);
      front = length (used_slots 0 caps) ∷ [];
      behind = flat_map slot_bytes (used_slots 0 caps);
      spelled = record { low = omega arith; high = omega (arith, few, len); is = refl };
      followed = record {
        value = used_slots 0 caps;
        spelled = items_of caps 0 0 (omega (arith, len)) (omega arith) (all_good caps (λ slot cap e. (s.spelled.good.each slot cap e, s.spelled.rights slot cap e)));
      };
      is = s.spelled.is;
    }

pub slots_refused : (bytes behind : List ℕ) → IsRefused (Spells (IsByteIn 0 32)) bytes behind → IsRefused (Spells AreCapsSpelled) bytes behind
slots_refused bytes behind r = refused_as of_listed to_listed (refused_here (λ n a f. some_slots n 0 (let h = f.high in omega (arith, h))) r)

-- A READER OF SLOTS, at each slot
module _ (count : ℕ) (bytes : List ℕ) where
  pub record SoFar (place least : ℕ) (caps : List (Option Cap)) (rest : List ℕ) : Type 0 where
    pub room : least + (count - place) ≤ 32
    pub filled : IsFilled least caps (used_slots 0 caps)
    pub has_read : HasRead SlotItem slot_after count 0 bytes (used_slots 0 caps) (count - place) least rest

  pub begun : (caps : List (Option Cap)) → caps ≡ replicate 32 None → count ≤ 32 → SoFar 0 0 caps bytes
  begun caps none few =
      subst (λ (l : List (Option Cap)). SoFar 0 0 l bytes) (sym none) (record {
        room = omega (arith, few);
        filled = not_filled;
        has_read = subst (λ n. HasRead SlotItem slot_after count 0 bytes [] n 0 bytes) (let e : count ≡ count - 0 = omega arith in e) (none_yet SlotItem slot_after count 0 bytes);
      })

  module _ (place least : ℕ) (caps : List (Option Cap)) (rest behind : List ℕ) (more : place < count) (so_far : SoFar place least caps rest) where
    still : HasRead SlotItem slot_after count 0 bytes (used_slots 0 caps) (suc (count - place - 1)) least rest
    still = subst (λ n. HasRead SlotItem slot_after count 0 bytes (used_slots 0 caps) n least rest) (let e : count - place ≡ suc (count - place - 1) = omega (arith, more) in e) so_far.has_read

    pub slot_refused : (before : List ℕ) → IsFound (IsByteIn 0 32) before count bytes → IsRefused (Spells (IsSlotIn least (31 - (count - place - 1)))) rest behind
        → IsRefused (Spells AreCapsSpelled) before behind
    slot_refused before f r =
        refused_as of_listed to_listed (refused_later (byte_tells 0 32) f
        (one_refused SlotItem slot_after count 0 bytes (used_slots 0 caps) (count - place - 1) least rest behind
        (λ v a g. some_slots (count - place - 1) (v.slot + 1) (let h = g.high in let room = so_far.room in omega (arith, h, room, more))) still r))

    pub added : (s : Slot) (caps' : List (Option Cap)) → IsFound (IsSlotIn least (31 - (count - place - 1))) rest s behind → caps' ≡ slice_set caps s.slot (Some s.cap)
        → SoFar (place + 1) (s.slot + 1) caps' behind
    added s caps' f is =
        let high = f.spelled.high in
        let room = so_far.room in
        let filled = fill least caps (used_slots 0 caps) s so_far.filled f.spelled.low (omega (arith, high)) f.spelled.entity f.spelled.rights in
        let slots : used_slots 0 (slice_set caps s.slot (Some s.cap)) ≡ used_slots 0 caps ++ s ∷ [] = filled.slots in
        subst (λ (l : List (Option Cap)). SoFar (place + 1) (s.slot + 1) l behind) (sym is) (record {
          room = omega (arith, high, room, more);
          filled = subst (IsFilled (s.slot + 1) (slice_set caps s.slot (Some s.cap))) (sym slots) filled;
          has_read =
              subst (λ (l : List Slot). HasRead SlotItem slot_after count 0 bytes l (count - (place + 1)) (s.slot + 1) behind) (sym slots)
              (subst (λ n. HasRead SlotItem slot_after count 0 bytes (used_slots 0 caps ++ s ∷ []) n (s.slot + 1) behind) (let e : count - place - 1 ≡ count - (place + 1) = omega arith in e)
              (one_more SlotItem slot_after count 0 bytes (used_slots 0 caps) (count - place - 1) least rest s behind (slot_tells least (31 - (count - place - 1))) still f));
        })

  pub caps_found : (place least : ℕ) (caps : List (Option Cap)) (rest before : List ℕ) → count ≤ place → IsFound (IsByteIn 0 32) before count bytes → SoFar place least caps rest
      → IsFound AreCapsSpelled before caps rest
  caps_found place least caps rest before end f so_far =
      let all = all_read SlotItem slot_after count 0 bytes (used_slots 0 caps) least rest
      (subst (λ n. HasRead SlotItem slot_after count 0 bytes (used_slots 0 caps) n least rest) (let e : count - place ≡ 0 = omega (arith, end) in e) so_far.has_read) in
      let are = slots_are count 0 (used_slots 0 caps) all.front all.spelled in
      record {
        front = count ∷ all.front;
        spelled = caps_spelled least caps (used_slots 0 caps) (count ∷ all.front) so_far.filled (λ i. sym are.0 i ∷ are.1 i);
        is = joined f.is f.spelled.is all.is;
      }
