use Rattle.std.proofs.Common.{◌≡◌, ℕ, List, [], ◌∷◌, subst, ◌∙◌}
use Rattle.drawn_words.specs.Words.{words_of}
use Rattle.node_rounds.proofs.Going.{goes_same, goes_then, one_more, ships_left}
use Rattle.node_rounds.proofs.rounds.last_rounds.Goals as goal
use Rattle.node_rounds.specs.Going.{GoesBy}
use Rattle.node_standby.proofs.Standing.{counts_stay, counts_then}
use Rattle.node_world.specs.Worlds.{offered}

pub loop-preserved : goal.loop-preserved
loop-preserved g c =
    let i = c.loop.invariant in
    let old = c.args.sender.now in
    let one = c.in_default.ensures.round in
    record {
      step = c.round.ensures.step;
      same = goes_same c.args.loss (words_of c.loop.words) (words_of c.round.new.words) c.loop.sender c.round.new.sender c.loop.standby c.round.new.standby i.step one ∙ i.same;
      rounds =
          subst (λ (ns : List ℕ). GoesBy c.args.loss ns (words_of c.args.words.now) (words_of c.round.new.words) old c.round.new.sender c.args.standby.now c.round.new.standby) (one_more c.loop.counter (offered old))
          (goes_then c.args.loss _ (offered old ∷ []) (words_of c.args.words.now) (words_of c.loop.words) (words_of c.round.new.words) old c.loop.sender c.round.new.sender c.args.standby.now c.loop.standby c.round.new.standby i.rounds
          (subst (λ (m : ℕ). GoesBy c.args.loss (m ∷ []) (words_of c.loop.words) (words_of c.round.new.words) c.loop.sender c.round.new.sender c.loop.standby c.round.new.standby) i.same one));
      counts = counts_then g.D.Disk c.args.standby.now c.loop.standby c.round.new.standby i.counts c.round.ensures.counts;
      follows = λ b es follows ship. c.round.ensures.follows b es (i.follows b es follows ship) (ships_left b es old c.loop.sender i.rounds.sender ship);
    }

pub returns-in-Err-clause-counts : goal.returns-in-Err-clause-counts
returns-in-Err-clause-counts g c = counts_then g.D.Disk c.args.standby.now c.loop.standby c.round.new.standby c.loop.invariant.counts c.round.ensures.counts

pub returns-in-Err-clause-follows : goal.returns-in-Err-clause-follows
returns-in-Err-clause-follows g c = λ b es follows ship.
    c.round.ensures.follows b es (c.loop.invariant.follows b es follows ship) (ships_left b es c.args.sender.now c.loop.sender c.loop.invariant.rounds.sender ship)

pub returns-in-Err-clause-stops : goal.returns-in-Err-clause-stops
returns-in-Err-clause-stops g c =
    let i = c.loop.invariant in
    record {
      sender = c.loop.sender;
      was = i.rounds.sender;
      standing = c.loop.standby;
      counts = i.counts;
      left = c.round.ensures.counts;
      same = c.in-Err.ensures.err.1;
      stops = c.in-Err.ensures.stops;
    }
