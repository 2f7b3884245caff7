use Rattle.std.proofs.Common.{suc, subst}
use Rattle.thread_runs.specs.declared.workers.Went.{Went}
use Rattle.thread_runs.specs.Parts.{IsRound}
use Rattle.thread_runs.proofs.Parting.{next_round}
use Rattle.thread_runs.proofs.workers.Worker.rounds.Goals as goal

pub loop-init : goal.loop-init
loop-init g c = λ before. before

pub loop-preserved : goal.loop-preserved
loop-preserved g c = λ start.
    let me = c.args.self.now.number in
    let workers = c.args.self.now.workers in
    let before = c.loop.pass.items in
    let items = c.round.new.pass.items in
    let so_far = c.loop.invariant start in
    (suc so_far.0, next_round me workers so_far.0 before items so_far.1 (subst (λ (h : Went). IsRound me workers h before items) c.in-Made.is c.round.ensures))

pub returns-in-Idle : goal.returns-in-Idle
returns-in-Idle g c = λ start.
    (c.loop.pass.items, c.loop.invariant start, subst (λ (h : Went). IsRound c.args.self.now.number c.args.self.now.workers h c.loop.pass.items c.round.new.pass.items) c.in-Idle.is c.round.ensures)

pub returns-in-Stopped : goal.returns-in-Stopped
returns-in-Stopped g c = λ start.
    (c.loop.pass.items, c.loop.invariant start, subst (λ (h : Went). IsRound c.args.self.now.number c.args.self.now.workers h c.loop.pass.items c.round.new.pass.items) c.in-Stopped.is c.round.ensures)

pub returns-in-Lacked : goal.returns-in-Lacked
returns-in-Lacked g c = λ start.
    (c.loop.pass.items, c.loop.invariant start, subst (λ (h : Went). IsRound c.args.self.now.number c.args.self.now.workers h c.loop.pass.items c.round.new.pass.items) c.in-Lacked.is c.round.ensures)
