use Rattle.std.proofs.Common.{sym, ap, ◌∙◌}
use Rattle.thread_cells.specs.Locked.{Keeping}
use Rattle.thread_desk.proofs.sights.plan_of.Goals as goal

pub next_plan-requires : goal.next_plan-requires
next_plan-requires g c = record { ready = λ l is. c.requires.ready l (ap (λ (k : Keeping). k.cell.part) (sym c.cell.view_is) ∙ is) }
