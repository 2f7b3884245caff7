use Rattle.std.proofs.Common.{◌++◌, List, filter, map, ap, ◌∙◌}
use Rattle.std.specs.Prelude.{slice_index}
use Rattle.store_facts.specs.store_books.Books.{Logged}
use Rattle.store_facts.specs.Opening.{unread}
use Rattle.store_facts.specs.Shelves.{is_from}
use Rattle.store_facts.proofs.Opened.{older_ascending, shelved_kept}
use Rattle.store_snapshots.proofs.opening.on_shelves.Goals as goal

pub greatest-cut-requires-clause-ascending : goal.greatest-cut-requires-clause-ascending
greatest-cut-requires-clause-ascending c = older_ascending c.args.recs.now c.requires.ascending

pub returns-clause-kept : goal.returns-clause-kept
returns-clause-kept c =
    shelved_kept c.args.blocks c.args.recs.now c.shelve.new.shelf c.keep_from.new.self (slice_index c.greatest-cut.result.0)
    (c.shelve.ensures ∙ ap (λ (l : List Logged). l ++ map unread c.args.recs.now) c.in_ok-log.ensures)
    (c.keep_from.ensures ∙ ap (λ (l : List Logged). filter (is_from (slice_index c.greatest-cut.result.0)) l) c.copy_from.ensures)
    c.greatest-cut.ensures c.requires.ascending c.requires.range
