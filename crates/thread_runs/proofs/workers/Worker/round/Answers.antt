use Rattle.std.proofs.Common.{◌≡◌, ◌≤◌, ◌-◌, ◌+◌, true, false, arith}
use Rattle.std.proofs.lemmas.Bool.Decides.{nat_tests}
use Rattle.thread_runs.specs.declared.workers.Went.TheVariants as went
use Rattle.thread_runs.specs.Parts.{AreLooks, loci_among}
use Rattle.thread_runs.proofs.Parting.{look_as, looks_as, no_looks, round_ends, turn_idle, turn_made, turn_other}
use Rattle.thread_runs.proofs.workers.Worker.round.Goals.{then-has+in-Idle, then-has+in-Made, else-has}
use Rattle.thread_runs.proofs.workers.Worker.round.Goals as goal

pub loop-number-init : goal.loop-number-init
loop-number-init g c = record { low = omega arith; looks = no_looks false c.args.pass.now.items }

pub loop-number-preserved : goal.loop-number-preserved
loop-number-preserved g c =
    let me = c.args.self.now.number in
    let workers = c.args.self.now.workers in
    let n = c.loop-number.number in
    let was = c.loop-number.invariant in
    let low : 41 ≤ n = was.low in
    let old = c.args.pass.now.items in
    let made = c.loop-number.made in
    let mid = c.loop-number.pass in
    let ls = loci_among me workers ((n + 1) - 41) in
    record {
      low = omega (arith, low);
      looks = elim c.if-has.branch as (λ _. AreLooks ls c.if-has.made old c.if-has.pass.items) [
        | then-has+in-Idle w ↦
            looks_as ls c.if-has.made made old c.if-has.pass w.look.new.pass w.made-is w.pass-is
            (turn_idle me workers n low c.has.result c.has.ensures w.if-has.true made old mid.items w.look.new.pass.items was.looks (look_as _ n w.look.result went.Idle mid.items w.look.new.pass.items w.of.ensures w.in-Idle.is w.look.ensures))
        | then-has+in-Made w ↦
            looks_as ls c.if-has.made true old c.if-has.pass w.look.new.pass w.made-is w.pass-is
            (turn_made me workers n low c.has.result c.has.ensures w.if-has.true made old mid.items w.look.new.pass.items was.looks (look_as _ n w.look.result went.Made mid.items w.look.new.pass.items w.of.ensures w.in-Made.is w.look.ensures))
        | else-has w ↦ looks_as ls c.if-has.made made old c.if-has.pass mid w.made-is w.pass-is (turn_other me workers n low c.has.result c.has.ensures w.if-has.false made old mid.items was.looks)
      ];
    }

pub returns-then-made : goal.returns-then-made
returns-then-made g c =
    let n = c.loop-number.number in
    let end : n ≡ 64 = grind (arith, nat_tests) in
    round_ends c.args.self.now.number c.args.self.now.workers n end c.loop-number.made c.args.pass.now.items c.loop-number.pass.items true c.if-made.true c.loop-number.invariant.looks

pub returns-else-made : goal.returns-else-made
returns-else-made g c =
    let n = c.loop-number.number in
    let end : n ≡ 64 = grind (arith, nat_tests) in
    round_ends c.args.self.now.number c.args.self.now.workers n end c.loop-number.made c.args.pass.now.items c.loop-number.pass.items false c.if-made.false c.loop-number.invariant.looks
