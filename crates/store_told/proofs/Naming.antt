-- The parts of kept records that a choice takes, and where their blocks are named.
use Rattle.std.proofs.Common.{◌≡◌, ◌≢◌, ℕ, suc, Bool, true, false, ◌&&◌, ◌==◌, if◌then◌else◌, List, [], ◌∷◌, Option, Some, None, refl, sym, ap, subst, ◌∙◌, arith, eqb-true}
use Rattle.std.specs.Prelude.{Contains, slice_index}
use Rattle.std.specs.List.{AllByRecursion}
use Rattle.store_books.specs.base_types.declared.records.Rec.{Rec}
use Rattle.store_books.proofs.model_kernel_lemmas.Basics.{and_left}
use Rattle.store_books.specs.image_facts.Bodies.{blob_blocks}
use Rattle.store_books.specs.image_meaning.Describing.{HasPage}
use Rattle.store_books.specs.image_meaning.Fits.{AreNamedOnce}
use Rattle.store_books.specs.image_meaning.Parts.{Part, chosen, chosen_by, cut_of, table_in}
use Rattle.store_books.specs.image_meaning.Stores.{Kept, recs_of}
use Rattle.store_books.proofs.image_meaning_lemmas.Firsts.{clash}
use Rattle.store_books.specs.model_kernel.State.{EntityState, Supply}
use Rattle.store_told.specs.Told.{ArePagesApart, IsToldRecord}
use Rattle.store_books.proofs.image_blocks_lemmas.Ranges.{rec_or}
use Rattle.store_books.proofs.Owners.{place_in, item_at}
use Rattle.store_books.proofs.image_meaning_lemmas.Fitting.{part_or}

pub behind : {A : Type 0} (x y : A) (ys : List A) → Contains ys y → Contains (x ∷ ys) y
behind x y ys (i, lt, at) = (suc i, omega (arith, lt), at)

pub first_in : {A : Type 0} (x : A) (xs : List A) → Contains (x ∷ xs) x
first_in x xs = (0, omega arith, refl)

module _ (s : Supply) (thing : ℕ → ℕ → EntityState) where
  -- what the records that a choice takes spell
  abbrev pub parts_by : (cut : ℕ → ℕ) (ks : List Kept) → AllByRecursion (IsToldRecord s thing) ks → ℕ → Option Part
  parts_by cut [] each x = None
  parts_by cut (k ∷ ks) (one, each) x = if k.rec.entity == x && k.rec.version == cut x then Some one.part else parts_by cut ks each x

  -- a kept record of the entity, which spells this part
  pub record IsPartOf (ks : List Kept) (x : ℕ) (part : Part) : Type 0 where
    pub kept : Kept
    pub within : Contains ks kept
    pub entity : kept.rec.entity ≡ x
    pub record_of : IsToldRecord s thing kept
    pub same : record_of.part ≡ part

  part_more : (k : Kept) (ks : List Kept) (x : ℕ) (part : Part) → IsPartOf ks x part → IsPartOf (k ∷ ks) x part
  part_more k ks x part p = record { kept = p.kept; within = behind k p.kept ks p.within; entity = p.entity; record_of = p.record_of; same = p.same }

  pub part_of_kept : (cut : ℕ → ℕ) (ks : List Kept) (each : AllByRecursion (IsToldRecord s thing) ks) (x : ℕ) (part : Part) → parts_by cut ks each x ≡ Some part → IsPartOf ks x part
  part_of_kept cut [] each x part is = clash None part refl is
  part_of_kept cut (k ∷ ks) (one, each) x part is = by_test (part_of_kept cut ks each x part) (k.rec.entity == x && k.rec.version == cut x) refl is
    where
      by_test : (parts_by cut ks each x ≡ Some part → IsPartOf ks x part) → (t : Bool) → (k.rec.entity == x && k.rec.version == cut x) ≡ t → (if t then Some one.part else parts_by cut ks each x) ≡ Some part → IsPartOf (k ∷ ks) x part
      by_test rest true e here = record {
        kept = k;
        within = first_in k ks;
        entity = eqb-true k.rec.entity x (and_left (k.rec.entity == x) (k.rec.version == cut x) e);
        record_of = one;
        same = ap (part_or part) here;
      }
      by_test rest false e later = part_more k ks x part (rest later)

  -- what is chosen is the record of a kept one
  pub chosen_of_kept : (cut : ℕ → ℕ) (ks : List Kept) (x : ℕ) (r : Rec) → chosen_by cut (recs_of ks) x ≡ Some r → (k : Kept) × Contains ks k × (k.rec ≡ r)
  chosen_of_kept cut [] x r is = clash None r refl is
  chosen_of_kept cut (k ∷ ks) x r is = go (chosen_of_kept cut ks x r) (k.rec.entity == x && k.rec.version == cut x) is
    where
      go : (chosen_by cut (recs_of ks) x ≡ Some r → (m : Kept) × Contains ks m × (m.rec ≡ r)) → (t : Bool) → (if t then Some k.rec else chosen_by cut (recs_of ks) x) ≡ Some r → (m : Kept) × Contains (k ∷ ks) m × (m.rec ≡ r)
      go rest true here = (k, first_in k ks, ap (rec_or r) here)
      go rest false later = (let m = rest later in (m.0, behind k m.0 ks m.1, m.2))

  module _ (count : ℕ) (cut : ℕ → ℕ) (ks : List Kept) (each : AllByRecursion (IsToldRecord s thing) ks) (apart : ArePagesApart count ks) where
    -- the block of a page in a part's table is one of its record's pages
    page_of : (x : ℕ) (part : Part) (p : IsPartOf ks x part) (page block : ℕ) → slice_index (table_in part) page ≡ block → block ≢ 0 → HasPage p.kept.pages block
    page_of x part p page block at some =
        let here : slice_index (table_in p.record_of.part) page ≡ block = ap (λ (q : Part). slice_index (table_in q) page) p.same ∙ at in
        subst (HasPage p.kept.pages) here (p.record_of.describes.spells.pages page (λ none. some (sym here ∙ none)))

    not_in_blob : (x : ℕ) (part : Part) (p : IsPartOf ks x part) (block y : ℕ) (r : Rec) → HasPage p.kept.pages block → chosen (recs_of ks) y ≡ Some r → Contains (blob_blocks r) block → ⊥
    not_in_blob x part p block y r has is within =
        let m = chosen_of_kept (cut_of (recs_of ks)) ks y r is in
        apart.not_blob p.kept m.0 block p.within m.1 has (subst (λ (q : Rec). Contains (blob_blocks q) block) (sym m.2) within)

    -- each page's block of the records that the choice takes is named once
    pub named_once : (x : ℕ) (part : Part) → parts_by cut ks each x ≡ Some part → AreNamedOnce count (recs_of ks) (parts_by cut ks each) x (table_in part)
    named_once x part is page block at some =
        let p = part_of_kept cut ks each x part is in
        let here : slice_index (table_in part) page ≡ block = item_at (table_in part) page block at in
        let has = page_of x part p page block here some in
        record {
          pool = apart.pool p.kept block p.within has;
          once = λ q there.
              let table : table_in p.record_of.part ≡ table_in part = ap table_in p.same in
              let mine : slice_index (table_in p.record_of.part) page ≡ block = ap (λ (t : List ℕ). slice_index t page) table ∙ here in
              let other : slice_index (table_in p.record_of.part) q ≡ block = ap (λ (t : List ℕ). slice_index t q) table ∙ item_at (table_in part) q block there in
              sym (p.record_of.once page q (λ none. some (sym mine ∙ none)) (mine ∙ sym other));
          blob = λ r mine within. not_in_blob x part p block x r has mine within;
          others = λ y differs. record {
            by_blob = λ r theirs within. not_in_blob x part p block y r has theirs within;
            by_table = λ q theirs within.
                let m = part_of_kept cut ks each y q theirs in
                let found = place_in (table_in q) block within in
                let too = page_of y q m found.0 block found.1 some in
                differs (sym m.entity ∙ (apart.own m.kept p.kept block m.within p.within too has ∙ p.entity));
          };
        }
