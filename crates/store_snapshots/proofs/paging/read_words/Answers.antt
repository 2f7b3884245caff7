use Rattle.std.proofs.Common.{◌≤◌, length, [], sym, ap, ◌∙◌, arith}
use Rattle.std.proofs.lemmas.List.{get_or_past}
use Rattle.edge_disk.proofs.Phases.{IsImage-reading}
use Rattle.store_facts.specs.store_books.Books.{words_of_bytes}
use Rattle.store_snapshots.proofs.paging.read_words.Goals as goal

pub returns-then-blocks-block-clause-words : goal.returns-then-blocks-block-clause-words
returns-then-blocks-block-clause-words g c t =
    let disk = g.met.D.Disk in
    let whole = IsImage-reading g.D.Disk t disk.reads_now disk.counts_now disk.whole c.args.disk.now in
    let past : length (g.D.Disk.reading c.args.disk.now) ≤ c.args.block = (let len = whole.len in let all = c.blocks-2.ensures in let le = c.if-blocks-block.true in omega (arith, len, all, le)) in
    sym (ap words_of_bytes (get_or_past (g.D.Disk.reading c.args.disk.now) c.args.block [] past))

pub returns-clause-words : goal.returns-clause-words
returns-clause-words g c t = c.words_in.ensures ∙ ap words_of_bytes (c.in_ok-read.ensures.block t)
