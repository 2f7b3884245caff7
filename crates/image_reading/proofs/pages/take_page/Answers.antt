use Rattle.std.proofs.Common.{◌∙◌}
use Rattle.edge_disk.specs.Image.{block_at}
use Rattle.image_shown_facts.proofs.Reading.{block_word}
use Rattle.image_reading.proofs.pages.take_page.Goals as goal

pub returns-clause-here : goal.returns-clause-here
returns-clause-here g c t k lt =
    c.in_ok-keep_page.ensures.here k lt
    ∙ block_word g.s c.args.tag (block_at (g.D.Disk.reading c.args.disk.now)) c.args.block c.args.page k c.in_ok-page_words.page_words c.if-block-eq0.false (c.in_ok-page_words.ensures.words t) lt
