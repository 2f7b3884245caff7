use Rattle.std.proofs.Common.{sym, subst}
use Rattle.edge_managers.specs.Managers.{counted_word}
use Rattle.kernel_core.specs.kernel_core_facts.Kernels.{StaysClean}
use Rattle.thread_step_clients.proofs.tests.born.Goals as goal

pub returns-clause-clean : goal.returns-clause-clean
returns-clause-clean g c =
    subst (StaysClean g.D.Disk counted_word) (sym c.apart.ensures.parts) (c.births.ensures.clean counted_word (c.in-Ok-open_image.ensures.clean counted_word))
