-- An image whose log chooses the same records, over the same pool, means the same.
use Rattle.std.proofs.Common.{◌≡◌, ◌≢◌, ℕ, ◌<◌, ◌≤◌, List, [], ◌∷◌, length, take, drop, Option, Some, None, refl, sym, ap, subst, ◌∙◌, ⊎_elim, arith}
use Rattle.std.specs.Prelude.{All, Contains, MatchOption, slice_index}
use Rattle.std.specs.List.{AllByRecursion}
use Rattle.std.specs.Option.{ForSome}
use Rattle.std.proofs.lemmas.Bool.{cases_lt}
use Rattle.std.proofs.lemmas.List.{get_or-take, get_or_past, length-take}
use Rattle.std.proofs.lemmas.Option.{slice_get-get_or}
use Rattle.edge_disk.specs.Image.{Image, SameOutside, block_at}
use Rattle.base_types.specs.declared.records.Rec.{Rec}
use Rattle.store_books.specs.model_kernel.State.{KernelState, Supply}
use Rattle.store_books.specs.image_facts.Bodies.{blob_blocks, blob_in, blob_room, blocks_for}
use Rattle.store_books.specs.image_facts.Checks.{count_in}
use Rattle.store_books.specs.image_blocks.Logs.{HasRecords}
use Rattle.store_books.specs.image_facts.Logs.{IsInRange}
use Rattle.store_books.proofs.image_blocks_lemmas.Ranges.{in_range_law}
use Rattle.store_books.specs.image_meaning.Fits.{AreNamedOnce, IsFit, IsNamedOnce}
use Rattle.store_books.specs.image_meaning.Meaning.{Means, entity_of}
use Rattle.store_books.specs.image_meaning.Parts.{IsSpelt, Part, Spells, cell_of, chosen, cut_of, table_in}
use Rattle.store_books.proofs.image_meaning_lemmas.Finding.{slot_of}
use Rattle.store_books.proofs.image_meaning_lemmas.Meaning.{cell_same}
use Rattle.store_books.specs.image_meaning.Stores.{IsHeld, Kept}
use Rattle.store_commit.proofs.Stays.{all_by_index, held_same}
use Rattle.store_books.specs.Books.{IsBeforePool}

-- the blocks of a record in range are of the pool
blob_high : (count : ℕ) (before : List Rec) (r : Rec) → IsInRange count before r → AllByRecursion (λ n. IsBeforePool n → ⊥) (blob_blocks r)
blob_high count before r range = all_by_index (λ n. IsBeforePool n → ⊥) (blob_blocks r) (λ i lt low.
    let len = length-take (blocks_for r.length) r.blocks in
    let here : i < blocks_for r.length = omega (arith, lt, len) in
    let at = get_or-take (blocks_for r.length) r.blocks i 0 here in
    let high = (range.needed i here).0 in
    absurd (omega (arith, low, at, high)))

module _ (s : Supply) (image c : Image) (v : KernelState) (m : Means s image v) (recs : List Rec) (has : HasRecords recs c) (again : (x : ℕ) → chosen recs x ≡ chosen m.accepted.recs x)
    (same : SameOutside IsBeforePool image c) (count : count_in c ≡ count_in image) where
  blob_same : (x : ℕ) (r : Rec) → chosen m.accepted.recs x ≡ Some r → All (λ b. b ≡ 0) (drop r.length (blob_room image r)) → IsHeld c (record { rec = r; blob = blob_in image r; pages = [] })
  blob_same x r is zeros =
      let at = slot_of (cut_of m.accepted.recs) x m.accepted.recs r is in
      let range : IsInRange (count_in image) (take at.0 m.accepted.recs) r = in_range_law m.accepted.recs image m.accepted.has at.0 r at.1 in
      let k : Kept = record { rec = r; blob = blob_in image r; pages = [] } in
      (held_same IsBeforePool image c same (k ∷ []) (record { blob = blob_high (count_in image) (take at.0 m.accepted.recs) r range; pages = tt }, tt)
      (record { blob = refl; rest = zeros; pages = tt; components = range.components }, tt)).0

  spelt_same : (x : ℕ) (o : Option Rec) → chosen m.accepted.recs x ≡ o → MatchOption o (m.accepted.parts x ≡ None) (λ r. (part : Part) × (m.accepted.parts x ≡ Some part) × IsSpelt image x r part)
      → MatchOption o (m.accepted.parts x ≡ None) (λ r. (part : Part) × (m.accepted.parts x ≡ Some part) × IsSpelt c x r part)
  spelt_same x None is none = none
  spelt_same x (Some r) is (part, at, spelt) =
      let held = blob_same x r is spelt.rest in
      (part, at, record { kind = spelt.kind; spells = subst (Spells part) (sym held.blob) spelt.spells; rest = held.rest })

  -- a page's block is of the pool
  page_high : (x : ℕ) (part : Part) → m.accepted.parts x ≡ Some part → (page : ℕ) → slice_index (table_in part) page ≢ 0 → IsBeforePool (slice_index (table_in part) page) → ⊥
  page_high x part at page some low = ⊎_elim
      (λ (lt : page < length (table_in part)).
      let high = (((m.accepted.fit x part at).blocks page (slice_index (table_in part) page) (slice_get-get_or (table_in part) page 0 lt) some).pool).0 in
      absurd (omega (arith, low, high)))
      (λ (past : length (table_in part) ≤ page). absurd (some (get_or_past (table_in part) page 0 past)))
      (cases_lt page (length (table_in part)))

  entity_same : (x : ℕ) (o : Option Rec) → MatchOption o (m.accepted.parts x ≡ None) (λ r. (part : Part) × (m.accepted.parts x ≡ Some part) × IsSpelt image x r part)
      → entity_of s (block_at c) x o (m.accepted.parts x) ≡ entity_of s (block_at image) x o (m.accepted.parts x)
  entity_same x None none = refl
  entity_same x (Some r) (part, at, spelt) =
      let cell : cell_of s (block_at c) part ≡ cell_of s (block_at image) part =
      cell_same s (block_at c) (block_at image) part (λ page some. same.same (slice_index (table_in part) page) (page_high x part at page some)) in
      subst (λ (p : Option Part). entity_of s (block_at c) x (Some r) p ≡ entity_of s (block_at image) x (Some r) p) (sym at)
      (λ i. record { cell = cell i; version = r.version; stamp = slice_index r.stamp })

  -- whose blocks stand once is told by the chosen records alone
  named_same : (x : ℕ) (table : List ℕ) → AreNamedOnce (count_in image) m.accepted.recs m.accepted.parts x table → AreNamedOnce (count_in image) recs m.accepted.parts x table
  named_same x table named page block at some =
      let once : IsNamedOnce (count_in image) m.accepted.recs m.accepted.parts x table page block = named page block at some in
      record {
        pool = once.pool;
        once = once.once;
        blob = subst (λ (o : Option Rec). ForSome o (λ r. Contains (blob_blocks r) block → ⊥)) (sym (again x)) once.blob;
        others = λ y apart. record {
          by_blob = subst (λ (o : Option Rec). ForSome o (λ r. Contains (blob_blocks r) block → ⊥)) (sym (again y)) (once.others y apart).by_blob;
          by_table = (once.others y apart).by_table;
        };
      }

  fit_same : (x : ℕ) (part : Part) → m.accepted.parts x ≡ Some part → IsFit (count_in image) recs m.accepted.parts x part
  fit_same x part at =
      let fit = m.accepted.fit x part at in
      record { atlas = fit.atlas; chosen_atlas = fit.chosen_atlas; named = fit.named; tied = fit.tied; blocks = named_same x (table_in part) fit.blocks }

  pub same_meaning : Means s c v
  same_meaning = record {
    accepted = record {
      recs = recs;
      has = has;
      parts = m.accepted.parts;
      spelt = λ x.
          subst (λ (o : Option Rec). MatchOption o (m.accepted.parts x ≡ None) (λ r. (part : Part) × (m.accepted.parts x ≡ Some part) × IsSpelt c x r part)) (sym (again x))
          (spelt_same x (chosen m.accepted.recs x) refl (m.accepted.spelt x));
      fit = subst (λ n. (x : ℕ) (part : Part) → m.accepted.parts x ≡ Some part → IsFit n recs m.accepted.parts x part) (sym count) fit_same;
    };
    is = m.is
        ∙ (λ i x.
        (sym (entity_same x (chosen m.accepted.recs x) (m.accepted.spelt x))
        ∙ ap (λ (o : Option Rec). entity_of s (block_at c) x o (m.accepted.parts x)) (sym (again x))) i);
  }
