-- No touch so far has a due wish.
use Rattle.std.proofs.Common.{◌≡◌, false, take}
use Rattle.std.specs.List.{list_any}
use Rattle.trace_steps.specs.Asking.{due_at}
use Rattle.trace_steps.proofs.wants.is_any_due.Given as goal

abbrev pub ghost-is_due : goal.ghost-is_due
ghost-is_due g a = g.p

abbrev pub invariant-loop-touch : goal.invariant-loop-touch
invariant-loop-touch g l = list_any (λ t. due_at g.p l.wishes l.everies l.versions t.entity) (take l.touch-index l.touched) ≡ false
