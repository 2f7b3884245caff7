-- What a look in the desk answers.
use Rattle.std.specs.Prelude.{Result}
use Rattle.thread_desk_stables.specs.kernel_core_facts.kernel_invariant.declared.stopping.Stopped.{Stopped}
use Rattle.thread_desk_stables.specs.kernel_core_facts.declared.looked.Looked.{Looked}
use Rattle.thread_items.specs.declared.answers.Answer.{Answer}
use Rattle.thread_items.specs.declared.answers.Answer.TheVariants.{Came, Unfit, Full}

-- of a look that was made, or that told why the kernel had stopped
abbrev pub IfCame : Answer → (Result Looked Stopped → Type 0) → Type 0
IfCame (Came r) P = P r
IfCame Unfit P = Unit {0}
IfCame Full P = Unit {0}
