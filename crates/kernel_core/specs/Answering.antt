-- What a call of the kernel answers, by what a look came to.
use Rattle.std.specs.Prelude.{Ok, Err, Result}
use Rattle.base_types.specs.declared.histories.Entry.{Entry}
use Rattle.kernel_core_facts.specs.declared.looked.Looked.{Looked}
use Rattle.kernel_core_facts.specs.declared.looked.Looked.TheVariants.{Idle as IdleFor, Made}
use Rattle.kernel_core_facts.specs.kernel_commits.Telling.{told}
use Rattle.kernel_core_facts.specs.kernel_commits.declared.stopping.Stop.{Stop}
use Rattle.kernel_core_facts.specs.kernel_commits.declared.stopping.Stop.TheVariants as stop
use Rattle.kernel_core_facts.specs.kernel_invariant.declared.stopping.Stopped.{Stopped}

-- what a call of the kernel answers that came to this
abbrev pub answer_of : Looked → Result Entry Stop
answer_of (Made m) = Ok m.entry
answer_of (IdleFor why) = Err (stop.Idle why)

abbrev pub answer_by : Result Looked Stopped → Result Entry Stop
answer_by (Ok o) = answer_of o
answer_by (Err why) = Err (told why)
