use Rattle.std.proofs.Common.{◌≡◌, ◌≤◌, Ok, refl, sym, subst}
use Rattle.std.specs.Prelude.{IfErr, OnOk}
use Rattle.node_mirror.proofs.Rounds.{all_kept, ends_by}
use Rattle.node_mirror.proofs.running.finished.Goals as goal
use Rattle.node_mirror.specs.Leaving.{EndsAs, EndsBy}
use Rattle.node_mirror.specs.declared.running.Mirrored.{Mirrored}
use Rattle.node_mirror.specs.declared.stops.MirrorHalt.TheVariants as halt
use Rattle.node_rounds.specs.Going.{StopsRounds}
use Rattle.node_rounds.specs.declared.rounds.RoundStop.{RoundStop}
use Rattle.node_rounds.specs.node_standby.Following.{Follows}
use Rattle.node_rounds.specs.node_standby.Standing.{KeepsCount}
use Rattle.node_world.specs.Worlds.{offered}

pub returns-in-Ok-clause-ends : goal.returns-in-Ok-clause-ends
returns-in-Ok-clause-ends g c = subst (λ (r : Mirrored _). EndsAs (Ok tt) r.went) (sym c.left.ensures) tt

pub returns-in-Ok-clause-last : goal.returns-in-Ok-clause-last
returns-in-Ok-clause-last g c =
    subst (λ (r : Mirrored _). OnOk r.went (EndsBy c.args.line r.offered r.standby.count)) (sym c.left.ensures)
    (ends_by c.args.line c.finish.new.self (offered c.finish.new.self.sender) c.requires.step c.in-Ok.ensures.goes refl)

pub returns-in-Ok-clause-order : goal.returns-in-Ok-clause-order
returns-in-Ok-clause-order g c = subst (λ (r : Mirrored _). r.standby.count ≤ r.offered) (sym c.left.ensures) c.finish.ensures.step.order.kept

pub returns-in-Ok-clause-lossless : goal.returns-in-Ok-clause-lossless
returns-in-Ok-clause-lossless g c = λ none.
    subst (λ (r : Mirrored _). OnOk r.went (r.standby.count ≡ r.offered)) (sym c.left.ensures)
    (all_kept c.args.line c.finish.new.self (offered c.finish.new.self.sender) none c.requires.step c.in-Ok.ensures.goes refl)

pub returns-in-Ok-clause-counts : goal.returns-in-Ok-clause-counts
returns-in-Ok-clause-counts g c = subst (λ (r : Mirrored _). KeepsCount g.E.Disk c.args.line.standby r.standby) (sym c.left.ensures) c.finish.ensures.counts

pub returns-in-Ok-clause-stops : goal.returns-in-Ok-clause-stops
returns-in-Ok-clause-stops g c =
    subst (λ (r : Mirrored _). IfErr r.went (λ h. (why : RoundStop) → h ≡ halt.Round why → StopsRounds g.E.Disk c.args.line.sender c.args.line.standby r.standby why)) (sym c.left.ensures) tt

pub returns-in-Ok-clause-follows : goal.returns-in-Ok-clause-follows
returns-in-Ok-clause-follows g c = λ b es f ship. subst (λ (r : Mirrored _). Follows b es g.E.Disk r.standby) (sym c.left.ensures) (c.finish.ensures.follows b es f ship)

pub returns-in-Err-clause-ends : goal.returns-in-Err-clause-ends
returns-in-Err-clause-ends g c = subst (λ (r : Mirrored _). EndsAs (Ok tt) r.went) (sym c.left-in-Err.ensures) tt

pub returns-in-Err-clause-last : goal.returns-in-Err-clause-last
returns-in-Err-clause-last g c = subst (λ (r : Mirrored _). OnOk r.went (EndsBy c.args.line r.offered r.standby.count)) (sym c.left-in-Err.ensures) tt

pub returns-in-Err-clause-order : goal.returns-in-Err-clause-order
returns-in-Err-clause-order g c = subst (λ (r : Mirrored _). r.standby.count ≤ r.offered) (sym c.left-in-Err.ensures) c.finish.ensures.step.order.kept

pub returns-in-Err-clause-lossless : goal.returns-in-Err-clause-lossless
returns-in-Err-clause-lossless g c = λ none. subst (λ (r : Mirrored _). OnOk r.went (r.standby.count ≡ r.offered)) (sym c.left-in-Err.ensures) tt

pub returns-in-Err-clause-counts : goal.returns-in-Err-clause-counts
returns-in-Err-clause-counts g c = subst (λ (r : Mirrored _). KeepsCount g.E.Disk c.args.line.standby r.standby) (sym c.left-in-Err.ensures) c.finish.ensures.counts

pub returns-in-Err-clause-stops : goal.returns-in-Err-clause-stops
returns-in-Err-clause-stops g c =
    subst (λ (r : Mirrored _). IfErr r.went (λ h. (why : RoundStop) → h ≡ halt.Round why → StopsRounds g.E.Disk c.args.line.sender c.args.line.standby r.standby why)) (sym c.left-in-Err.ensures)
    (λ why is. (let same : c.in-Err.why ≡ why = cc is in subst (StopsRounds g.E.Disk c.args.line.sender c.args.line.standby c.finish.new.self.standby) same c.in-Err.ensures.stops))

pub returns-in-Err-clause-follows : goal.returns-in-Err-clause-follows
returns-in-Err-clause-follows g c = λ b es f ship. subst (λ (r : Mirrored _). Follows b es g.E.Disk r.standby) (sym c.left-in-Err.ensures) (c.finish.ensures.follows b es f ship)
