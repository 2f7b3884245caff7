-- Records of entities as they are.
use Rattle.std.specs.Prelude.{◌≡◌, ℕ, Bool, List, [], ◌∷◌, ◌++◌, Option, filter, find, nat_lt, replicate, slice_index}
use Rattle.base_types.specs.Edges.{upto}
use Rattle.base_types.specs.declared.records.Rec.{Rec}
use Rattle.trace_state.specs.declared.cuts.Cuts.{Cuts}

-- the record is of this entity, at this version and with this clock
pub record IsRecordAt (versions : ℕ → ℕ) (clocks : ℕ → ℕ → ℕ) (x : ℕ) (rec : Rec) : Type 0 where
  pub entity : rec.entity ≡ x
  pub version : rec.version ≡ versions x
  pub stamp : (y : ℕ) → slice_index rec.stamp y ≡ clocks x y

-- the records are of these entities, in order
abbrev pub AreRecordsAt : (ℕ → ℕ) → (ℕ → ℕ → ℕ) → List ℕ → List Rec → Type 0
AreRecordsAt versions clocks [] [] = Unit {0}
AreRecordsAt versions clocks [] (rec ∷ recs) = ⊥
AreRecordsAt versions clocks (x ∷ xs) [] = ⊥
AreRecordsAt versions clocks (x ∷ xs) (rec ∷ recs) = IsRecordAt versions clocks x rec × AreRecordsAt versions clocks xs recs

-- the entity's version is above that of its newest commit
abbrev pub is_changed : List ℕ → List ℕ → ℕ → Bool
is_changed newest versions x = nat_lt (slice_index newest x) (slice_index versions x)

-- the first of the entities that have changed
unfoldable pub first_changed : List ℕ → List ℕ → Option ℕ
first_changed newest versions = find (is_changed newest versions) (upto 64)

-- the list goes on with the records of the entities below n that have changed
pub record Appends (newest versions : List ℕ) (clocks : ℕ → ℕ → ℕ) (n : ℕ) (old new : List Rec) : Type 0 where
  pub news : List Rec
  pub records : AreRecordsAt (slice_index versions) clocks (filter (is_changed newest versions) (upto n)) news
  pub list : new ≡ old ++ news

-- the cut is at these versions, and each entity that has one is on record
pub record Opens (versions : List ℕ) (clocks : ℕ → ℕ → ℕ) (c : Cuts) : Type 0 where
  pub start : c.start.0 ≡ versions
  pub cut : c.cut.0 ≡ versions
  pub recs : Appends (replicate 64 0) versions clocks 64 [] c.recs.items
