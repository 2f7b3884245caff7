use Rattle.std.proofs.Common.{◌≡◌, ◌+◌, ◌-◌, ◌<◌, ◌≤◌, length, vec_len, arith}
use Rattle.script_types.specs.Scripts.{tables_of}
use Rattle.plain_runs.proofs.Beginning.{few_entries}
use Rattle.plain_runs.proofs.plays.finish.Goals as goal

pub loop-more-init : goal.loop-more-init
loop-more-init g c w h = h

pub record_next-requires : goal.record_next-requires
record_next-requires g c κs lives =
    let at = c.requires.1.1.1 in
    (λ a mem. lives a mem, (c.requires.1.0, (c.requires.1.1.0, (at.0, c.loop-more.history.items, c.loop-more.invariant at.0 at.1))))

pub loop-more-preserved : goal.loop-more-preserved
loop-more-preserved g c w h = c.record_next.ensures.records w (c.loop-more.invariant w h)

pub loop-more-smaller : goal.loop-more-smaller
loop-more-smaller g c =
    let at = c.requires.1.1.1 in
    let old = c.loop-more.history in
    let new = c.record_next.new.history in
    let stands = c.record_next.ensures.records at.0 (c.loop-more.invariant at.0 at.1) in
    let few : length new.items ≤ 1840064 = few_entries g.s (tables_of c.args.script.now) at.0 c.record_next.new.run new.items stands in
    let longer : length new.items ≡ length old.items + 1 = c.in_ok-more.ensures.longer c.if-not-more.false in
    let falls : 1840065 - vec_len new < 1840065 - vec_len old = omega (arith, few, longer, new.ok.0, old.ok.0) in
    falls

pub returns-in_err-more-clause-records : goal.returns-in_err-more-clause-records
returns-in_err-more-clause-records g c w h = c.record_next.ensures.records w (c.loop-more.invariant w h)

pub returns-then-not-more-clause-records : goal.returns-then-not-more-clause-records
returns-then-not-more-clause-records g c w h = c.record_next.ensures.records w (c.loop-more.invariant w h)

pub returns-then-not-more-clause-over : goal.returns-then-not-more-clause-over
returns-then-not-more-clause-over g c w h = c.in_ok-more.ensures.over c.if-not-more.true w (c.loop-more.invariant w h)
