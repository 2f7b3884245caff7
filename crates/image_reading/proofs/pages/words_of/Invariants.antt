-- The words of the pages so far are kept.
use Rattle.std.proofs.Common.{◌≤◌, ◌*◌}
use Rattle.edge_disk.specs.Image.{block_at}
use Rattle.log_reading.specs.log_facts.Reads.{ReadsOnly}
use Rattle.image_shown_facts.specs.Words.{IsSparse}
use Rattle.image_shown_facts.proofs.Reading.{ReadTo}
use Rattle.image_reading.proofs.pages.words_of.Given as goal

abbrev pub ghost-take_page : goal.ghost-take_page
ghost-take_page g a = g.s

abbrev pub invariant-loop-page : goal.invariant-loop-page
invariant-loop-page g l =
    let disk = g.D.Disk in
    record {
      sparse : IsSparse g.s l.head.tag (128 * l.page) l.words;
      read : disk.tells → ReadTo g.s l.head.tag (block_at (disk.reading l.fn.disk)) l.blocks l.page l.words;
      later : disk.faults l.fn.disk ≤ disk.faults l.disk;
      same : ReadsOnly disk l.fn.disk l.disk;
    }
