use Rattle.std.proofs.Common.{◌≡◌, ⊎_elim, false, true, refl, subst}
use Rattle.thread_runs.specs.declared.workers.Went.{Went}
use Rattle.thread_runs.specs.declared.workers.Went.TheVariants as went
use Rattle.thread_runs.specs.Parts.{WentOn}
use Rattle.thread_runs.proofs.Parting.{none_before, part_by}
use Rattle.thread_runs.proofs.workers.Worker.work.Goals as goal

pub loop-init : goal.loop-init
loop-init g c = (tt, tt, (0, none_before true c.pass-pass.result.items c.pass-pass.ensures.1))

pub loop-preserved : goal.loop-preserved
loop-preserved g c =
    let me = c.args.self.now.number in
    let workers = c.args.self.now.workers in
    (tt, tt, subst (λ (h : Went). WentOn me workers h c.turn.new.pass.items) c.in-Made.is (c.turn.ensures c.loop.invariant.2))

pub returns-in-Idle : goal.returns-in-Idle
returns-in-Idle g c =
    let me = c.args.self.now.number in
    let workers = c.args.self.now.workers in
    let items = c.turn.new.pass.items in
    let on = c.turn.ensures c.loop.invariant.2 in
    ⊎_elim (λ (is : c.turn.result ≡ went.Idle). part_by me workers went.Idle false items (subst (λ (h : Went). WentOn me workers h items) is on) refl)
    (λ is. part_by me workers went.Stopped false items (subst (λ (h : Went). WentOn me workers h items) is on) refl) c.in-Idle.is

pub returns-in-Lacked : goal.returns-in-Lacked
returns-in-Lacked g c =
    let me = c.args.self.now.number in
    let workers = c.args.self.now.workers in
    let items = c.turn.new.pass.items in
    part_by me workers went.Lacked true items (subst (λ (h : Went). WentOn me workers h items) c.in-Lacked.is (c.turn.ensures c.loop.invariant.2)) refl
