-- What a history counts.
use Rattle.std.specs.Prelude.{ℕ, ◌%◌, ◌^◌, Bool, true, false, List, ◌++◌, codes, decimal, length, count_by, sum_by}
use Rattle.base_types.specs.declared.histories.Answer.{Answer}
use Rattle.base_types.specs.declared.histories.Answer.TheVariants.{Quiet, Hop, Reply as Replied, Read, Print as Printed}
use Rattle.base_types.specs.declared.histories.Entry.{Entry}
use Rattle.base_types.specs.declared.histories.Event.{Event}
use Rattle.base_types.specs.declared.histories.Event.TheVariants.{Birth, Step, Snap as SnapEvent, Stable as StableEvent, Tried}
use Rattle.base_types.specs.declared.instructions.Reply.TheVariants.{Ok as AnsweredOk}
use Rattle.line_text.specs.model_kernel.Printing.{is_print}
use Rattle.line_text.specs.model_kernel.State.{Text}
use Rattle.line_text.specs.Lines.{line_end, word}

-- a reply other than Ok
abbrev pub is_refusal : Answer → Bool
is_refusal (Replied AnsweredOk) = false
is_refusal (Replied r) = true
is_refusal Quiet = false
is_refusal Hop = false
is_refusal (Read v) = false
is_refusal (Printed v) = false

abbrev pub is_snap : Event → Bool
is_snap SnapEvent = true
is_snap Birth = false
is_snap Step = false
is_snap StableEvent = false
is_snap Tried = false

abbrev pub is_stable : Event → Bool
is_stable StableEvent = true
is_stable Birth = false
is_stable Step = false
is_stable SnapEvent = false
is_stable Tried = false

abbrev pub value_printed : Answer → ℕ
value_printed (Printed v) = v
value_printed Quiet = 0
value_printed Hop = 0
value_printed (Replied r) = 0
value_printed (Read v) = 0

-- THE SUMMARY: how many entries, printed values, refusals, records and Stable entries there are, and the sum of the values modulo 2^64
abbrev pub summary_line : List Entry → Text
summary_line es =
    codes "entries" ++ word (decimal (length es))
    ++ word (codes "prints") ++ word (decimal (count_by (λ e. is_print e.answer) es))
    ++ word (codes "refused") ++ word (decimal (count_by (λ e. is_refusal e.answer) es))
    ++ word (codes "snaps") ++ word (decimal (count_by (λ e. is_snap e.event) es))
    ++ word (codes "stables") ++ word (decimal (count_by (λ e. is_stable e.event) es))
    ++ word (codes "sum") ++ word (decimal (sum_by (λ e. value_printed e.answer) es % 2 ^ 64))
    ++ line_end
