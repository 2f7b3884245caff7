use Rattle.std.proofs.Common.{◌≡◌, ◌≤◌, ◌∙◌, Err, sym, subst}
use Rattle.std.specs.Prelude.{OnOk, Result, ⊤}
use Rattle.kernel_run_facts.specs.declared.halts.Halt.{Halt}
use Rattle.node_mirror.proofs.Causes.{finish_cause, halt_kept, left_second}
use Rattle.node_mirror.proofs.running.end_with.Goals as goal
use Rattle.node_mirror.specs.Leaving.{EndsAs, EndsBy, LeavesStandby}
use Rattle.node_mirror.specs.declared.running.Mirrored.{Mirrored}
use Rattle.node_rounds.specs.Going.{AllShip}
use Rattle.node_rounds.proofs.node_standby_lemmas.Standing.{counts_stay}
use Rattle.node_rounds.specs.node_standby.Following.{Follows}

-- WHERE THE RUN IS OVER

pub finished-requires : goal.finished-requires
finished-requires g c = record { step = c.args.mirroring.kept.step }

pub returns-in-Ok-clause-lossless : goal.returns-in-Ok-clause-lossless
returns-in-Ok-clause-lossless g c = λ none. c.finished.ensures.lossless (c.args.mirroring.kept.same_loss ∙ none)

pub returns-in-Ok-clause-second : goal.returns-in-Ok-clause-second
returns-in-Ok-clause-second g c =
    let m = c.args.mirroring in
    left_second g.E.Disk g.N.Since.faults g.N.Since.loss m.line m.stop c.finished.result.standby c.finished.result.went m.kept c.finished.ensures.counts
    (finish_cause g.E.Disk g.N.Since.faults m.line.sender m.line.standby c.finished.result.standby c.finished.result.went c.finished.ensures.ends m.kept.later m.kept.shut c.finished.ensures.stops)

pub returns-in-Ok-clause-follows : goal.returns-in-Ok-clause-follows
returns-in-Ok-clause-follows g c = λ b es f ship.
    c.finished.ensures.follows b es f (subst (λ (q : Result ⊤ Halt). OnOk q (AllShip b es c.args.mirroring.line.sender)) c.in-Ok.is ship)

-- WHERE IT WAS HALTED

pub returns-in-Err-clause-ends : goal.returns-in-Err-clause-ends
returns-in-Err-clause-ends g c =
    subst (λ (q : Result ⊤ Halt). EndsAs q c.left.result.went) (sym c.in-Err.is) (subst (λ (r : Mirrored _). EndsAs (Err c.in-Err.why) r.went) (sym c.left.ensures) c.halt_as.ensures.ends)

pub returns-in-Err-clause-last : goal.returns-in-Err-clause-last
returns-in-Err-clause-last g c = subst (λ (r : Mirrored _). OnOk r.went (EndsBy c.args.mirroring.line r.offered r.standby.count)) (sym c.left.ensures) tt

pub returns-in-Err-clause-order : goal.returns-in-Err-clause-order
returns-in-Err-clause-order g c = subst (λ (r : Mirrored _). r.standby.count ≤ r.offered) (sym c.left.ensures) c.args.mirroring.kept.step.order.kept

pub returns-in-Err-clause-lossless : goal.returns-in-Err-clause-lossless
returns-in-Err-clause-lossless g c = λ none. subst (λ (r : Mirrored _). OnOk r.went (r.standby.count ≡ r.offered)) (sym c.left.ensures) tt

pub returns-in-Err-clause-second : goal.returns-in-Err-clause-second
returns-in-Err-clause-second g c =
    let m = c.args.mirroring in
    subst (λ (r : Mirrored _). LeavesStandby g.E.Disk g.N.Since.faults r.standby r.went) (sym c.left.ensures)
    (left_second g.E.Disk g.N.Since.faults g.N.Since.loss m.line m.stop m.line.standby (Err c.halt_as.result) m.kept (counts_stay g.E.Disk m.line.standby)
    (halt_kept g.E.Disk g.N.Since.faults m.line.standby c.halt_as.result m.stop m.kept.caused c.halt_as.ensures.from))

pub returns-in-Err-clause-follows : goal.returns-in-Err-clause-follows
returns-in-Err-clause-follows g c = λ b es f ship. subst (λ (r : Mirrored _). Follows b es g.E.Disk r.standby) (sym c.left.ensures) f
