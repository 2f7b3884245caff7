use Rattle.std.proofs.Common.{◌≡◌, ℕ, ◌*◌, replicate, subst, ◌∙◌, arith}
use Rattle.std.proofs.lemmas.Result.{IfErr-weaker, on_ok_weaker}
use Rattle.node_mirror.proofs.Rounds.{runs_last, runs_more, runs_offered, stops_then}
use Rattle.node_mirror.proofs.lines.Line.finish.Goals as goal
use Rattle.node_mirror.specs.Lines.{Runs}
use Rattle.node_rounds.proofs.Going.{ships_left}
use Rattle.node_rounds.specs.Going.{StopsRounds}
use Rattle.node_rounds.proofs.node_standby_lemmas.Standing.{counts_then}
use Rattle.node_world.specs.Worlds.{offered}

pub loop-preserved : goal.loop-preserved
loop-preserved g c =
    let i = c.loop.invariant in
    let old = c.args.self.now in
    let mid = c.loop.self in
    let new = c.rounds.new.self in
    let made : c.offered-made.result ≡ offered old.sender = c.offered-made.ensures.value in
    let goes : Runs (replicate c.offered-made.result (offered mid.sender)) mid new = c.in_default.ensures.goes in
    record {
      step = c.rounds.ensures.step;
      loss = c.rounds.ensures.loss ∙ i.loss;
      same = runs_offered c.offered-made.result mid new i.step goes ∙ i.same;
      goes =
          runs_more c.loop.counter (offered old.sender) (offered old.sender) old mid new i.loss i.goes
          (subst (λ (k : ℕ). Runs (replicate k (offered old.sender)) mid new) made (subst (λ (k : ℕ). Runs (replicate c.offered-made.result k) mid new) i.same goes));
      counts = counts_then g.E.Disk old.standby mid.standby new.standby i.counts c.rounds.ensures.counts;
      follows = λ b es f ship. c.rounds.ensures.follows b es (i.follows b es f ship) (ships_left b es old.sender mid.sender i.goes.sender ship);
    }

pub returns-in-Err-clause-stops : goal.returns-in-Err-clause-stops
returns-in-Err-clause-stops g c =
    let i = c.loop.invariant in
    stops_then g.E.Disk (replicate (c.loop.counter * offered c.args.self.now.sender) (offered c.args.self.now.sender)) c.args.self.now c.loop.self c.rounds.new.self.standby c.in-Err.stop i.goes i.counts c.in-Err.ensures.stops

pub returns-in-Err-clause-counts : goal.returns-in-Err-clause-counts
returns-in-Err-clause-counts g c = counts_then g.E.Disk c.args.self.now.standby c.loop.self.standby c.rounds.new.self.standby c.loop.invariant.counts c.rounds.ensures.counts

pub returns-in-Err-clause-follows : goal.returns-in-Err-clause-follows
returns-in-Err-clause-follows g c = λ b es f ship.
    let i = c.loop.invariant in
    c.rounds.ensures.follows b es (i.follows b es f ship) (ships_left b es c.args.self.now.sender c.loop.self.sender i.goes.sender ship)

pub returns-clause-goes : goal.returns-clause-goes
returns-clause-goes g c =
    let i = c.loop.invariant in
    let old = c.args.self.now in
    let mid = c.loop.self in
    let four : c.loop.counter ≡ 4 = (let past = c.loop-test.false in let le = c.loop.auto.counter-end in omega (arith, past, le)) in
    on_ok_weaker c.rounds-2.result (λ goes. runs_last c.loop.counter (offered old.sender) (offered old.sender) old mid c.rounds-2.new.self four i.loss i.goes (subst (λ (k : ℕ). Runs (replicate 1000 k) mid c.rounds-2.new.self) i.same goes)) c.rounds-2.ensures.goes

pub returns-clause-stops : goal.returns-clause-stops
returns-clause-stops g c =
    let i = c.loop.invariant in
    let old = c.args.self.now in
    let mid = c.loop.self in
    let st = c.rounds-2.new.self.standby in
    IfErr-weaker c.rounds-2.result (StopsRounds g.E.Disk mid.sender mid.standby st) (StopsRounds g.E.Disk old.sender old.standby st)
    (λ why s. stops_then g.E.Disk (replicate (c.loop.counter * offered old.sender) (offered old.sender)) old mid st why i.goes i.counts s) c.rounds-2.ensures.stops

pub returns-clause-counts : goal.returns-clause-counts
returns-clause-counts g c = counts_then g.E.Disk c.args.self.now.standby c.loop.self.standby c.rounds-2.new.self.standby c.loop.invariant.counts c.rounds-2.ensures.counts

pub returns-clause-follows : goal.returns-clause-follows
returns-clause-follows g c = λ b es f ship.
    let i = c.loop.invariant in
    c.rounds-2.ensures.follows b es (i.follows b es f ship) (ships_left b es c.args.self.now.sender c.loop.self.sender i.goes.sender ship)
