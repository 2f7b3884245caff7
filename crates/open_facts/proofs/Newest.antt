-- Cells whose newest records are the chosen ones.
use Rattle.std.proofs.Common.{◌≡◌, ℕ, zero, suc, ◌<◌, ◌≤◌, List, [], ◌∷◌, length, Option, Some, None, refl, sym, ap, subst, ◌∙◌, ⊎_elim, arith}
use Rattle.std.specs.Prelude.{slice_get}
use Rattle.std.proofs.lemmas.Bool.{cases_lt}
use Rattle.std.proofs.lemmas.List.{get_or_past}
use Rattle.base_types.specs.declared.records.Rec.{Rec}
use Rattle.image_facts.specs.model_kernel.State.{EntityState, Supply}
use Rattle.table_opened.specs.image_meaning.Meaning.{entity_of}
use Rattle.table_opened.specs.image_meaning.Parts.{chosen}
use Rattle.kernel_views.specs.kernel_records.Keeping.{HasNewest}
use Rattle.table_opened.specs.image_fits.Chosen.{entity_at, part_in, record_in}
use Rattle.table_opened.specs.image_fits.Fits.{AreChosen}
use Rattle.table_opened.specs.image_fits.declared.chosen.ChosenEntity.{ChosenEntity}
use Rattle.table_opened.specs.cell_states.declared.cells.Cell.{Cell}
use Rattle.table_opened.specs.cell_states.declared.cells.Wish.{Wish}
use Rattle.kernel_views.specs.Views.{newest_at}
use Rattle.table_opened.specs.Opened.{AreChosenCells, IsChosenCell}
use Rattle.table_opened.proofs.Spread.{spread, spread_holds}
use Rattle.table_opened.specs.image_chosen.declared.parts.ImageParts.{ImageParts}
use Rattle.kernel_views.proofs.kernel_records_lemmas.Newest.{keeps_newest}
use Rattle.kernel_views.specs.store_facts.State.{State, books}
use Rattle.table_opened.specs.store_books.Books.{recs_in}
use Rattle.open_facts.specs.Images.{AreNewestIn, IsOpened}
use Rattle.open_facts.proofs.Stored.{same_lists}
use Rattle.kernel_views.proofs.kernel_records_lemmas.ChosenNewest.{row_below, row_newest, stamp_in, version_in}

-- CELLS

-- a cell's newest record is the chosen one
cell_newest : (s : Supply) (frames steps x : ℕ) (o : Option ChosenEntity) (c : Cell) → IsChosenCell frames steps x o c → c.wish.newest ≡ version_in (record_in o)
cell_newest s frames steps x o c is =
    let words : ℕ → List ℕ = λ n. [] in
    ap (λ (w : Wish). w.newest) is.wish ∙ (ap (λ (e : EntityState). e.version) (is.state s (λ n. spread (words n)) words (spread_holds words)) ∙ by_entity o)
  where
    by_entity : (o : Option ChosenEntity) → (entity_of s (λ n. spread []) x (record_in o) (part_in o)).version ≡ version_in (record_in o)
    by_entity None = refl
    by_entity (Some e) = refl

some_at : {X : Type 0} (xs : List X) (i : ℕ) → i < length xs → slice_get xs i ≡ None → ⊥
some_at [] i lt none = omega (arith, lt)
some_at (x ∷ xs) zero lt none = (let clash : Some x ≡ None = none in cc)
some_at (x ∷ xs) (suc i) lt none = some_at xs i (omega (arith, lt)) none

pub cells_newest : (frames steps : ℕ) (recs : List Rec) (es : List (Option ChosenEntity)) (cs : List Cell) → AreChosen recs es → AreChosenCells frames steps es cs → (x : ℕ) → newest_at (slice_get cs x) ≡ version_in (chosen recs x)
cells_newest frames steps recs es cs chosen_are are x = by_cell (slice_get cs x) refl
  where
    by_cell : (o : Option Cell) → slice_get cs x ≡ o → newest_at o ≡ version_in (chosen recs x)
    by_cell (Some c) is = cell_newest (λ t p a. 0) frames steps x (entity_at es x) c (are.each x c is) ∙ ap version_in (sym (chosen_are x))
    by_cell None is = ⊎_elim
        (λ (lt : x < length cs). absurd (some_at cs x lt is))
        (λ (past : length cs ≤ x).
        let none : entity_at es x ≡ None = get_or_past es x None (let len = are.len in omega (arith, past, len)) in
        sym (ap version_in (chosen_are x) ∙ ap (λ (o : Option ChosenEntity). version_in (record_in o)) none))
        (cases_lt x (length cs))

-- CELLS AND BOOKS
pub newest_in_books : {D : Type 0} (frames steps : ℕ) (st : State D) (parts : ImageParts) (cs : List Cell) → IsOpened st parts → AreChosenCells frames steps parts.entities.items cs → AreNewestIn (books st) cs
newest_in_books frames steps st parts cs o are =
    let recs : List Rec = o.log.recs.items in
    let n : ℕ → ℕ = λ x. newest_at (slice_get cs x) in
    let newest : (x : ℕ) → n x ≡ version_in (chosen recs x) = cells_newest frames steps recs parts.entities.items cs o.parts_are.chosen are in
    let has : HasNewest n (λ x. stamp_in (chosen recs x)) (recs_in (books st)) =
    subst (HasNewest n (λ x. stamp_in (chosen recs x))) (same_lists recs ∙ sym o.recs) (row_newest o.log.blocks recs o.known.in_range o.known.ascending n newest) in
    let below = row_below o.log.blocks recs o.known.in_range o.known.ascending n newest in
    record {
      stamps = λ x. stamp_in (chosen recs x);
      newest = has;
      below = below;
      few = (keeps_newest n (λ x. stamp_in (chosen recs x)) (books st) has below).each;
    }
