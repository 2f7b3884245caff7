use Rattle.std.proofs.Common.{◌≡◌, ◌≤◌, length, sym, ap, ◌∙◌, arith}
use Rattle.edge_disk.proofs.Phases.{IsImage-reading}
use Rattle.image_blocks.specs.image_facts.Bodies.{number_at}
use Rattle.log_facts.proofs.InRange.{count_most}
use Rattle.log_reading.proofs.Verdicts.{check_1-is}
use Rattle.log_reading.proofs.front.front_of.Goals as goal

pub returns-in-Ok-clause-front : goal.returns-in-Ok-clause-front
returns-in-Ok-clause-front g c t =
    let disk = g.met.D.Disk in
    let whole = IsImage-reading g.D.Disk t disk.reads_now disk.counts_now disk.whole c.args.disk.now in
    let len : length (g.D.Disk.reading c.args.disk.now) ≡ c.blocks-blocks.result = whole.len ∙ sym c.blocks-blocks.ensures in
    let block = c.in_ok-block.ensures.block t in
    (check_1-is (g.D.Disk.reading c.args.disk.now) c.blocks-blocks.result c.in_ok-block.block _ len c.if-blocks-eq0.false block c.in-Ok.ensures.good.0, c.in-Ok.ensures.good.1 ∙ ap (number_at 12 4) block)

pub returns-in-Err-clause-front : goal.returns-in-Err-clause-front
returns-in-Err-clause-front g c t =
    let disk = g.met.D.Disk in
    let whole = IsImage-reading g.D.Disk t disk.reads_now disk.counts_now disk.whole c.args.disk.now in
    let len : length (g.D.Disk.reading c.args.disk.now) ≡ c.blocks-blocks.result = whole.len ∙ sym c.blocks-blocks.ensures in
    check_1-is (g.D.Disk.reading c.args.disk.now) c.blocks-blocks.result c.in_ok-block.block _ len c.if-blocks-eq0.false (c.in_ok-block.ensures.block t) c.in-Err.ensures.bad

pub returns-in-Ok-clause-enough : goal.returns-in-Ok-clause-enough
returns-in-Ok-clause-enough g c =
    let least = c.in-Ok.ensures.count.0 in
    let within = c.in-Ok.ensures.count.1 in
    (omega (arith, least), omega (arith, within, c.blocks-blocks.ensures), count_most c.blocks-blocks.result c.in_ok-block.block c.in-Ok.count c.in-Ok.ensures.good.0 c.in-Ok.ensures.good.1)
