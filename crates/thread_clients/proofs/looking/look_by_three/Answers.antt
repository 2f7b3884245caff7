use Rattle.std.proofs.Common.{ap, subst, ◌∙◌}
use Rattle.std.specs.Prelude.{IfSome}
use Rattle.thread_stables.specs.kernel_core_facts.kernel_commit_facts.Parts.{parts_of}
use Rattle.thread_cells.specs.Locked.{Keeping}
use Rattle.thread_stables.specs.thread_looks.Looking.{LooksAsSerial}
use Rattle.thread_clients.proofs.looking.look_by_three.Goals as goal

pub returns-clause-looks : goal.returns-clause-looks
returns-clause-looks g c =
    let core = c.args.core.now in
    let old = parts_of core.store core.all core.notes in
    let new = parts_of c.look_three.new.store c.look_three.new.all c.look_three.new.notes in
    let mine = ap (λ (k : Keeping). k.number) c.deref_mut.ensures.value ∙ c.in-Some.ensures.number in
    subst (λ n. IfSome c.look_three.result (LooksAsSerial g.D.Disk (g.S.Supplier.word c.args.gate.now.supply) (g.P.Policy.wish c.args.gate.now.policy) n old new)) mine c.look_three.ensures.looks
