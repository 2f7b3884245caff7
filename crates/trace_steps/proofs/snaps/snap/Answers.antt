use Rattle.std.proofs.Common.{ap, sym, subst, ◌∙◌, slice_index, refl}
use Rattle.std.proofs.lemmas.Bool.{false≢true}
use Rattle.base_types.specs.declared.histories.Entry.{Entry}
use Rattle.base_types.specs.declared.histories.Event.TheVariants.{Snap as SnapEvent}
use Rattle.plain_states.specs.model_kernel.Histories.{mark}
use Rattle.trace_steps.specs.Standing.{Follows}
use Rattle.trace_step_facts.specs.Standing.{run_of}
use Rattle.trace_steps.proofs.Marking.{snap_commits, snap_may}
use Rattle.trace_steps.proofs.snaps.snap.Goals as goal

pub returns-then-not-may_commit-clause-none : goal.returns-then-not-may_commit-clause-none
returns-then-not-may_commit-clause-none g c = λ s script w es h e ev by may.
    false≢true (sym c.if-not-may_commit.true ∙ (c.may_commit.ensures s script (run_of s script w es) h.keeps).1 (snap_commits s g.p script (run_of s script w es) e c.args.entity ev by may))

pub take_snap-requires : goal.take_snap-requires
take_snap-requires g c =
    let k = c.requires.1.1.1.1 in (
      record {
        supply = k.0;
        script = k.1;
        start = k.2.0;
        entries = k.2.1;
        stands = k.2.2;
        may = (c.may_commit.ensures k.0 k.1 (run_of k.0 k.1 k.2.0 k.2.1) k.2.2.keeps).0 c.if-not-may_commit.false;
      },
      c.requires.1.1.1.0,
    )

pub returns-clause-some : goal.returns-clause-some
returns-clause-some g c = λ s script w es h.
    let x = c.args.entity in
    let old = c.args.checker.now in
    let may = (c.may_commit.ensures s script (run_of s script w es) h.keeps).0 c.if-not-may_commit.false in
    subst (λ (e : Entry). Follows s g.p script w es SnapEvent x e c.take_snap.new.checker) (sym (c.mark.ensures ∙ ap (λ n. mark SnapEvent x (slice_index old.versions n)) c.number.ensures.number)) (record {
      made = refl;
      by = refl;
      may = snap_may s g.p script w es old h c.requires.1.1.1.0 x may;
      stands = c.in_ok-take_snap.ensures s script w es h may;
    })
