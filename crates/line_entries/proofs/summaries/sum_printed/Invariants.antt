-- The values so far are added up.
use Rattle.std.proofs.Common.{◌≡◌, ◌%◌, ◌^◌, sum_by, take}
use Rattle.line_entries.specs.Summaries.{value_printed}
use Rattle.line_entries.proofs.summaries.sum_printed.Given as goal

abbrev pub invariant-loop-entry : goal.invariant-loop-entry
invariant-loop-entry l = l.sum ≡ sum_by (λ e. value_printed e.answer) (take l.entry-index l.entries) % 2 ^ 64
