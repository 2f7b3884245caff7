use Rattle.std.proofs.Common.{sym, subst, ◌∙◌}
use Rattle.edge_managers.specs.Managers.{counted_word}
use Rattle.kernel_core.specs.kernel_core_facts.Kernels.{StaysClean}
use Rattle.test_kernel.proofs.own.OwnKernel.rejoined.Goals as goal

pub invariant_of-result : goal.invariant_of-result
invariant_of-result g c = subst (StaysClean g.D.Disk counted_word) (sym (c.together.ensures ∙ c.apart.ensures.parts)) c.self.invariant
