use Rattle.thread_locks.proofs.Ending.{along_again, begun_again, clean_again, counted_again, kept_again, lives_again}
use Rattle.thread_locks.proofs.closing.kernel_of.Goals as goal

pub unlock_all-cells-requires-clause-all : goal.unlock_all-cells-requires-clause-all
unlock_all-cells-requires-clause-all g c = (c.close-closing.ensures.kernel.is_kept.orderly.numbers.len, c.requires.all)

pub together-requires : goal.together-requires
together-requires g c =
    let x = c.close-closing.result in
    record { lawful = kept_again g.D.Disk g.B.Board.begin g.B.Board.terms g.B.Run.kept c.args.desk.stores x.cells.values c.unlock_all-cells.result.items x.notes x.annals.since x.stopped x.store c.close-closing.ensures.kernel c.unlock_all-cells.ensures }

pub returns-clause-counted : goal.returns-clause-counted
returns-clause-counted g c =
    let x = c.close-closing.result in
    counted_again g.D.Disk g.B.Board.begin g.B.Board.terms g.B.Run.kept c.args.desk.stores x.cells.values c.unlock_all-cells.result.items x.notes x.annals.since x.stopped x.store c.close-closing.ensures.kernel c.unlock_all-cells.ensures
    c.together.result c.together.ensures

pub returns-clause-clean : goal.returns-clause-clean
returns-clause-clean g c =
    let x = c.close-closing.result in
    clean_again g.D.Disk g.B.Board.begin g.B.Board.terms g.B.Run.kept c.args.desk.stores x.cells.values c.unlock_all-cells.result.items x.notes x.annals.since x.stopped x.store c.close-closing.ensures.kernel c.unlock_all-cells.ensures
    c.together.result c.together.ensures

pub returns-clause-run : goal.returns-clause-run
returns-clause-run g c =
    let x = c.close-closing.result in
    lives_again g.D.Disk g.B.Board.begin g.B.Board.terms g.B.Run.kept c.args.desk.stores x.cells.values c.unlock_all-cells.result.items x.notes x.annals.since x.stopped x.store c.close-closing.ensures.kernel c.unlock_all-cells.ensures
    c.together.result c.together.ensures

pub returns-clause-along : goal.returns-clause-along
returns-clause-along g c =
    let x = c.close-closing.result in
    along_again g.D.Disk g.B.Board.begin g.B.Board.terms g.B.Run.kept c.args.desk.stores x.cells.values c.unlock_all-cells.result.items x.notes x.annals.since x.stopped x.store c.close-closing.ensures.kernel c.unlock_all-cells.ensures
    c.together.result c.together.ensures

pub returns-clause-whole : goal.returns-clause-whole
returns-clause-whole g c =
    let x = c.close-closing.result in
    begun_again g.D.Disk g.B.Board.begin g.B.Board.terms g.B.Run.kept c.args.desk.stores x.cells.values c.unlock_all-cells.result.items x.notes x.annals.since x.stopped x.store c.close-closing.ensures.kernel c.unlock_all-cells.ensures
    c.together.result c.together.ensures
