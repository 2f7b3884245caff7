use Rattle.std.proofs.Common.{◌≡◌, ◌+◌, ◌++◌, ◌∷◌, [], ℕ, List, Option, length, ap, sym, subst, ◌∙◌, arith}
use Rattle.std.specs.Prelude.{slice_set}
use Rattle.std.proofs.lemmas.List.{length-append, length-set}
use Rattle.kernel_record_facts.specs.cell_states.declared.cells.Cell.{Cell}
use Rattle.image_chosen.proofs.image_fits_lemmas.Choices.{read_at}
use Rattle.image_chosen.specs.image_fits.Chosen.{entity_at}
use Rattle.image_chosen.specs.image_fits.declared.chosen.ChosenEntity.{ChosenEntity}
use Rattle.table_opened.specs.Opened.{IsChosenCell}
use Rattle.table_opened.proofs.AllCells.{CellsTo, SameFrom, one_more, taken_out}
use Rattle.table_opened.proofs.table.chosen_cells.Goals as goal

pub loop-number-preserved : goal.loop-number-preserved
loop-number-preserved c =
    let so_far = c.loop-number.invariant in
    let es : List (Option ChosenEntity) = c.args.entities.items in
    let left : List (Option ChosenEntity) = c.loop-number.entities.items in
    let cs : List Cell = c.loop-number.cells.items in
    let n : ℕ = c.loop-number.number in
    let d : Cell = c.in_ok-cell.cell in
    let o : Option ChosenEntity = c.take-entity.result in
    let items : c.push.new.self.items ≡ cs ++ d ∷ [] = c.in_ok-push.ensures.items in
    let at : entity_at left n ≡ o =
    read_at left n c.index_mut.result.now (let low = c.loop-number-test.true in let size = so_far.size in omega (arith, low, size)) c.index_mut.ensures.value ∙ sym c.take-entity.ensures.value in
    let there : entity_at es n ≡ o = sym (so_far.ahead n (omega arith)) ∙ at in
    let here : IsChosenCell c.args.frames c.args.steps n o d = subst (λ (x : ℕ). IsChosenCell c.args.frames c.args.steps x o d) c.of.ensures c.in_ok-cell.ensures in
    record {
      long = (let was = so_far.long in let b = ap length items in let e = length-append cs (d ∷ []) in omega (arith, was, b, e));
      size = length-set left n c.take-entity.new.self ∙ so_far.size;
      ahead = subst (λ (p : Option ChosenEntity). SameFrom (n + 1) es (slice_set left n p)) (sym c.take-entity.ensures.after) (taken_out es left n so_far.ahead);
      cells = subst (CellsTo c.args.frames c.args.steps es) (sym items)
          (one_more c.args.frames c.args.steps es cs d n so_far.long so_far.cells (subst (λ (p : Option ChosenEntity). IsChosenCell c.args.frames c.args.steps n p d) (sym there) here));
    }
