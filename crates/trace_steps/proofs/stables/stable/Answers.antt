use Rattle.std.proofs.Common.{sym, subst, refl}
use Rattle.base_types.specs.declared.histories.Entry.{Entry}
use Rattle.base_types.specs.declared.histories.Event.TheVariants.{Stable as StableEvent}
use Rattle.trace_steps.specs.Standing.{Follows}
use Rattle.trace_steps.proofs.Stabling.{stable_may}
use Rattle.trace_steps.proofs.stables.stable.Goals as goal

pub returns-clause-some : goal.returns-clause-some
returns-clause-some g c = λ s script w es h.
    let x = c.args.actor in
    let owes = c.owes_stable.ensures.0 c.if-not-owes_stable.false in
    subst (λ (e : Entry). Follows s g.p script w es StableEvent x e c.take_stable.new.checker) (sym c.mark.ensures) (record {
      made = refl;
      by = refl;
      may = stable_may s g.p script w es c.args.checker.now h c.requires.0 x owes.0 owes.1;
      stands = c.in_ok-take_stable.ensures s script w es h;
    })
