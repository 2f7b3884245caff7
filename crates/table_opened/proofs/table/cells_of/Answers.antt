use Rattle.std.proofs.Common.{refl}
use Rattle.std.proofs.lemmas.Result.{IfOk-weaker}
use Rattle.table_opened.proofs.AllCells.{are_clean, have_frames, have_wishes, means, nothing, orderly, tables_are, unwritten}
use Rattle.table_opened.proofs.table.cells_of.Goals as goal

pub returns-clause-orderly : goal.returns-clause-orderly
returns-clause-orderly c count log held known are named =
    IfOk-weaker c.chosen_cells.result _ _ (λ cells all. orderly c.args.frames c.args.steps c.args.parts.entities.items cells.items all count log c.args.parts held refl known are named) c.chosen_cells.ensures

pub returns-clause-state : goal.returns-clause-state
returns-clause-state c log image s are accepted =
    IfOk-weaker c.chosen_cells.result _ _ (λ cells all. means c.args.frames c.args.steps c.args.parts.entities.items cells.items all log image s are.chosen accepted) c.chosen_cells.ensures

pub returns-clause-tables : goal.returns-clause-tables
returns-clause-tables c = IfOk-weaker c.chosen_cells.result _ _ (λ cells all. tables_are c.args.frames c.args.steps c.args.parts.entities.items cells.items all) c.chosen_cells.ensures

pub returns-clause-frames : goal.returns-clause-frames
returns-clause-frames c = IfOk-weaker c.chosen_cells.result _ _ (λ cells all. have_frames c.args.frames c.args.steps c.args.parts.entities.items cells.items all) c.chosen_cells.ensures

pub returns-clause-clean : goal.returns-clause-clean
returns-clause-clean c s words = IfOk-weaker c.chosen_cells.result _ _ (λ cells all. are_clean c.args.frames c.args.steps c.args.parts.entities.items cells.items all s words) c.chosen_cells.ensures

pub returns-clause-wishes : goal.returns-clause-wishes
returns-clause-wishes c s words = IfOk-weaker c.chosen_cells.result _ _ (λ cells all. have_wishes c.args.frames c.args.steps c.args.parts.entities.items cells.items all s words) c.chosen_cells.ensures

pub returns-clause-unwritten : goal.returns-clause-unwritten
returns-clause-unwritten c count log s words x known are =
    IfOk-weaker c.chosen_cells.result _ _ (λ cells all. unwritten c.args.frames c.args.steps c.args.parts.entities.items cells.items all count log s words x known are.chosen) c.chosen_cells.ensures

pub returns-clause-nothing : goal.returns-clause-nothing
returns-clause-nothing c log s words are none =
    IfOk-weaker c.chosen_cells.result _ _ (λ cells all. nothing c.args.frames c.args.steps c.args.parts.entities.items cells.items all log s words are.chosen none) c.chosen_cells.ensures
