use Rattle.std.proofs.Common.{true, ap, sym, subst, ◌∙◌, slice_index, refl}
use Rattle.std.proofs.lemmas.Bool.{false≢true}
use Rattle.base_types.specs.declared.histories.Entry.{Entry}
use Rattle.base_types.specs.declared.histories.Event.TheVariants.{Tried as TriedEvent}
use Rattle.plain_states.specs.model_kernel.Histories.{mark}
use Rattle.trace_steps.specs.Standing.{Follows}
use Rattle.trace_step_facts.specs.Standing.{run_of}
use Rattle.trace_steps.proofs.Marking.{try_commits, try_may, try_stands}
use Rattle.trace_steps.proofs.snaps.try_record.Goals as goal

pub returns-then-not-may_commit-clause-none : goal.returns-then-not-may_commit-clause-none
returns-then-not-may_commit-clause-none g c = λ s script w es h e ev by may.
    false≢true (sym c.if-not-may_commit.true ∙ (c.may_commit.ensures s script (run_of s script w es) h.keeps).1 (try_commits s g.p script (run_of s script w es) e c.args.entity ev by may))

pub returns-clause-some : goal.returns-clause-some
returns-clause-some g c = λ s script w es h.
    let x = c.args.entity in
    let old = c.args.checker.now in
    let may = (c.may_commit.ensures s script (run_of s script w es) h.keeps).0 c.if-not-may_commit.false in
    subst (λ (e : Entry). Follows s g.p script w es TriedEvent x e (record old { tried = true })) (sym (c.mark.ensures ∙ ap (λ n. mark TriedEvent x (slice_index old.versions n)) c.number.ensures.number)) (record {
      made = refl;
      by = refl;
      may = try_may s g.p script w es old h c.requires.1.1.1 x may;
      stands = try_stands s g.p script w es old h c.requires.1.1.1 x may;
    })
