-- A record with blocks that were taken can be committed.
use Rattle.std.proofs.Common.{◌≡◌, inl, inr, ℕ, suc, ◌<◌, ◌≤◌, Bool, true, false, ◌||◌, ◌==◌, nat_le, if◌then◌else◌, List, [], ◌∷◌, length, take, drop, refl, sym, ap, subst, ◌∙◌, arith, eqb-true}
use Rattle.std.specs.Prelude.{All, slice_index}
use Rattle.std.specs.List.{concat, list_all, list_any}
use Rattle.std.proofs.lemmas.Bool.{and_parts, cases_lt, leb-true}
use Rattle.std.proofs.lemmas.List.{get_or-take, get_or_default, length-take}
use Rattle.std.proofs.lemmas.List.Elements.{All-from_get_or}
use Rattle.std.proofs.lemmas.List.Sums.{AllPass-from_list_all}
use Rattle.base_types.specs.declared.records.Rec.{Rec}
use Rattle.edge_disk.specs.Image.{Image}
use Rattle.log_reading.specs.image_facts.Bodies.{blob_blocks, blob_in, blocks_for}
use Rattle.log_reading.specs.image_facts.Checks.{last_version}
use Rattle.log_reading.specs.image_facts.Layout.{last_number, most_length, pool_at}
use Rattle.data_blocks.specs.Ledger.{Ledger, is_held}
use Rattle.page_words.specs.store_books.Books.{AreHeldPages, is_small, is_used, recs_in}
use Rattle.store_commit.specs.BlobBytes.{HoldsBytes}
use Rattle.store_commit.specs.Ready.{CanCommit}
use Rattle.store_commit.specs.Storing.{HasBlob, HasPlaces, IsBlobOf}
use Rattle.store_commit.proofs.Filling.{blob_reads}
use Rattle.page_words.specs.image_meaning.Stores.{Kept}
use Rattle.store_facts.proofs.Listing.{few_blocks}
use Rattle.store_facts.specs.Committed.{IsInFreeBlocks}
use Rattle.store_facts.specs.Naming.{IsPlace, IsPlaced}
use Rattle.store_facts.specs.State.{IsWhole, State, books}
use Rattle.store_facts.specs.Taking.{HasTaken}
use Rattle.store_facts.proofs.Holding.{named_is}

-- numbers that are small
pub small_version : (r : Rec) → is_small r ≡ true → r.version ≤ last_number
small_version r small = leb-true r.version last_number (and_parts (nat_le r.version last_number) (list_all (λ n. nat_le n last_number) r.stamp) small).0

pub small_component : (r : Rec) → is_small r ≡ true → (y : ℕ) → y < length r.stamp → slice_index r.stamp y ≤ last_number
small_component r small y lt =
    leb-true (slice_index r.stamp y) last_number
    (AllPass-from_list_all (λ n. nat_le n last_number) r.stamp (and_parts (nat_le r.version last_number) (list_all (λ n. nat_le n last_number) r.stamp) small).1 y 0 lt)

-- the last version of an entity, of records that are all below a version
last_by : (any here : Bool) (rest version v : ℕ) → rest < v → 1 ≤ v → (here ≡ true → version < v) → (if any then rest else if here then version else 0) < v
last_by true here rest version v below some one = below
last_by false true rest version v below some one = one refl
last_by false false rest version v below some one = some

pub last_below : (recs : List Rec) (x v : ℕ) → 1 ≤ v → All (λ (r : Rec). r.entity ≡ x → r.version < v) recs → last_version recs x < v
last_below [] x v some all = some
last_below (r ∷ rs) x v some all =
    last_by (list_any (λ (s : Rec). s.entity == x) rs) (r.entity == x) (last_version rs x) r.version v
    (last_below rs x v some (λ i d lt. all (suc i) d (omega (arith, lt)))) some (λ same. all 0 r (omega arith) (eqb-true r.entity x same))

-- the record's own numbers
pub record IsRecordOf (r : Rec) (bytes : List ℕ) (before : List Rec) : Type 0 where
  pub entity : r.entity < 64
  pub length_is : r.length ≡ length bytes
  pub some : 1 ≤ length bytes
  pub most : length bytes ≤ most_length
  pub first : 1 ≤ r.version
  pub newer : All (λ (q : Rec). q.entity ≡ r.entity → q.version < r.version) before
  pub own : slice_index r.stamp r.entity ≡ r.version
  pub components : length r.stamp ≡ 64
  pub places : length r.blocks ≡ 8

-- blocks that were taken weren't in use
pub taken_free : {D : Type 0} (block_count : D → ℕ) (st : State D) → IsWhole block_count st → (mid : Ledger) (many : ℕ) (blocks : List ℕ) → HasTaken many st.blocks mid blocks → (i : ℕ) → i < many → is_used (books st) (slice_index blocks i) ≡ false
taken_free block_count st w mid many blocks taken i lt = ap (λ (b : Bool). is_held st.blocks (slice_index blocks i) || b) (sym (named_is block_count st w (slice_index blocks i))) ∙ taken.unused i lt

pub in_free : {D : Type 0} (block_count : D → ℕ) (st : State D) → IsWhole block_count st → (mid : Ledger) (r : Rec) → HasTaken (blocks_for r.length) st.blocks mid r.blocks → IsInFreeBlocks (books st) r
in_free block_count st w mid r taken = record {
  fresh = λ n (k, lt, is).
      let inside : k < blocks_for r.length = (let len = length-take (blocks_for r.length) r.blocks in omega (arith, lt, len)) in
      let here : slice_index r.blocks k ≡ n = sym (get_or-take (blocks_for r.length) r.blocks k 0 inside) ∙ (get_or_default (blob_blocks r) k 0 n lt ∙ is) in
      subst (λ (m : ℕ). is_used (books st) m ≡ false) here (taken_free block_count st w mid (blocks_for r.length) r.blocks taken k inside);
  pool = w.held;
}

pub can_commit : {D : Type 0} (block_count : D → ℕ) (st : State D) → IsWhole block_count st → (r : Rec) (bytes : List ℕ) (blob : List (List ℕ)) (table : List ℕ) (after : Ledger)
    → HasTaken (blocks_for (length bytes)) st.blocks after r.blocks → IsRecordOf r bytes (recs_in (books st)) → is_small r ≡ true → HoldsBytes bytes blob → AreHeldPages (is_held st.blocks) table → CanCommit (books st) r blob bytes table
can_commit block_count st w r bytes blob table after taken is small holds pages =
    let same : blocks_for (length bytes) ≡ blocks_for r.length = ap blocks_for (sym is.length_is) in
    let len = is.length_is in
    record {
      count = w.most;
      range = record {
        entity = is.entity;
        lengths = ((let some = is.some in omega (arith, some, len)), (let most = is.most in omega (arith, most, len)));
        versions = (is.first, small_version r small);
        newer = last_below (recs_in (books st)) r.entity r.version is.first is.newer;
        components = is.components;
        own = is.own;
        small = λ y lt. small_component r small y (let all = is.components in omega (arith, lt, all));
        numbers = is.places;
        needed = λ i lt.
            let range = taken.range i (omega (arith, lt, same)) in
            let first = w.first in
            (let low = range.0 in omega (arith, low, first), range.1);
        different = λ i k lt less. taken.different i k (omega (arith, lt, same)) less;
        unused = λ i past. taken.behind i (omega (arith, past, same));
      };
      many = holds.many ∙ same;
      spelled = subst (λ (n : ℕ). take n (concat blob) ≡ bytes) (sym len) holds.spelled;
      rest = subst (λ (n : ℕ). All (λ x. x ≡ 0) (drop n (concat blob))) (sym len) holds.rest;
      free = λ i lt. taken_free block_count st w after (blocks_for (length bytes)) r.blocks taken i (let many = holds.many in omega (arith, lt, many));
      held = λ n is_held_n. (w.held n is_held_n).0;
      pages = pages;
    }

-- its blob reads as the bytes
pub blob_bytes : (r : Rec) (bytes : List ℕ) (blob : List (List ℕ)) (before : List Rec) (image : Image) → IsRecordOf r bytes before → HoldsBytes bytes blob → HasBlob r blob image → blob_in image r ≡ bytes
blob_bytes r bytes blob before image is holds has =
    let len = is.length_is in
    let new : Kept = record { rec = r; blob = bytes; pages = [] } in
    let spelled : IsBlobOf new blob = record {
      many = holds.many ∙ ap blocks_for (sym len);
      listed = (let all = is.places in let few = few_blocks r.length (let most = is.most in omega (arith, most, len)) in omega (arith, all, few));
      spelled = subst (λ (n : ℕ). take n (concat blob) ≡ bytes) (sym len) holds.spelled;
      rest = subst (λ (n : ℕ). All (λ x. x ≡ 0) (drop n (concat blob))) (sym len) holds.rest;
      components = is.components;
    } in
    ap (take r.length) (blob_reads new blob image spelled has) ∙ spelled.spelled

-- places stay so on a larger disk
pub places_within : (r : Rec) (many n m : ℕ) → HasPlaces r many n → n ≤ m → HasPlaces r many m
places_within r many n m p le = record { pool = p.pool; within = λ i lt. (let low = p.within i lt in omega (arith, low, le)); different = p.different }

-- blocks that were taken are places of the record
pub taken_places : (r : Rec) (many end : ℕ) (old mid : Ledger) → HasTaken many old mid r.blocks → pool_at ≤ old.first → old.end ≡ end → HasPlaces r many end
taken_places r many end old mid t low same = record {
  pool = λ i lt. (let range = t.range i lt in let first = range.0 in omega (arith, first, low));
  within = λ i lt. (let range = t.range i lt in let last = range.1 in omega (arith, last, same));
  different = λ i j lt less is. elim (cases_lt i j) as (λ _. i ≡ j) [
    | inl before ↦ absurd (t.different j i less before is)
    | inr past ↦ elim (cases_lt j i) as (λ _. i ≡ j) [
      | inl before ↦ absurd (t.different i j lt before (sym is))
      | inr above ↦ omega (arith, past, above)
    ]
  ];
}

-- and the record is placed, where its pages are held
pub taken_placed : {D : Type 0} (block_count : D → ℕ) (st : State D) → IsWhole block_count st → (mid : Ledger) (r : Rec) (table : List ℕ) → HasTaken (blocks_for r.length) st.blocks mid r.blocks → r.length ≤ most_length → AreHeldPages (is_held st.blocks) table → length table ≡ 256
    → IsPlaced mid.first mid.end (record { rec = r; table = table })
taken_placed block_count st w mid r table t most pages all =
    let first : mid.first ≡ st.blocks.first = ap (λ (l : Ledger). l.first) t.only in
    let end : mid.end ≡ st.blocks.end = ap (λ (l : Ledger). l.end) t.only in
    record {
      length_is = most;
      blob = All-from_get_or (IsPlace mid.first mid.end) (blob_blocks r) 0 (λ i lt some.
          let inside : i < blocks_for r.length = (let len = length-take (blocks_for r.length) r.blocks in omega (arith, lt, len)) in
          let here = get_or-take (blocks_for r.length) r.blocks i 0 inside in
          let range = t.range i inside in
          (let low = range.0 in omega (arith, low, first, here), let high = range.1 in omega (arith, high, end, here)));
      table = All-from_get_or (IsPlace mid.first mid.end) table 0 (λ i lt some.
          let range = w.held (slice_index table i) (pages i some) in
          let pool = w.first in
          (let low = range.0 in omega (arith, low, first, pool), let high = range.1 in omega (arith, high, end)));
      pages = all;
    }
