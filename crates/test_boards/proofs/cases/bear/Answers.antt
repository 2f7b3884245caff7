use Rattle.script_types.specs.Scripts.{tables_of}
use Rattle.test_boards.specs.contracts.quiet_disk.QuietDiskDisk.TheImpl.{ghosts}
use Rattle.test_boards.proofs.Counts.{caused_by_births}
use Rattle.test_boards.proofs.cases.bear.Goals as goal

pub returns : goal.returns
returns c =
    let n = c.births.ensures in
    caused_by_births ghosts (tables_of c.args.script.now) c.args.kernel.now c.births.new.self c.births.result (n.ends c.requires.going) (n.no_blocks c.requires.going) (n.fails c.requires.going) n.counts.later
