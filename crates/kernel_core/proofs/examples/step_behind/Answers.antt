-- The kernel that was put together is the one that was taken apart, so its pages are as clean.
use Rattle.std.proofs.Common.{sym, subst}
use Rattle.kernel_core_facts.specs.Kernels.{StaysClean}
use Rattle.kernel_core.proofs.examples.step_behind.Goals as goal

pub step-answer-requires-clause-clean : goal.step-answer-requires-clause-clean
step-answer-requires-clause-clean g c = subst (StaysClean g.D.Disk (g.S.Supplier.word c.args.gate.now.supply)) (sym c.taken_apart-kernel.ensures) c.requires.clean
