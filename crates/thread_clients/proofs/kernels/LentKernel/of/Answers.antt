use Rattle.std.proofs.Common.{◌≡◌, List, sym, ap, subst, ◌∙◌}
use Rattle.thread_desk.specs.kernel_core.Parts.{held_of}
use Rattle.thread_stables.specs.kernel_core_facts.Kernels.{Held, IsKept}
use Rattle.thread_stables.specs.kernel_core_facts.cell_states.declared.cells.Cell.{Cell}
use Rattle.thread_clients.proofs.kernels.LentKernel.of.Goals as goal

pub invariant_of-result : goal.invariant_of-result
invariant_of-result g c =
    let a = c.apart-cells.result in
    let known : c.in_ok-all.all ≡ a.cells.items = c.in_ok-all.ensures.authority ∙ c.requires.ties.1 ∙ sym (ap (λ (k : Held g.row.D.Denot). k.parts.cells) c.apart-cells.ensures.parts) in (
      c.in_ok-locks.ensures.all,
      subst (λ (cs : List Cell). IsKept g.D.Disk (held_of a.store cs a.notes a.stopped)) (sym known) c.apart-cells.ensures.lawful,
    )
