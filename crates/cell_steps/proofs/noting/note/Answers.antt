use Rattle.std.proofs.Common.{sym}
use Rattle.cell_steps.proofs.noting.note.Goals as goal

pub returns : goal.returns
returns c = record {
  clock = c.note_step.ensures.clock;
  part = c.note_step.ensures.part;
  wish = λ steps r l v names. c.note_step.ensures.run steps r l v (sym (c.asked_for-asked.ensures l names));
}
