use Rattle.store_snapshots.specs.Paging.{GoesByPages-stay}
use Rattle.node_store.proofs.Delivered.{by_pages}
use Rattle.node_store.proofs.delivering.deliver_record.Goals as goal

pub returns-then-free-need-clause-any_moment : goal.returns-then-free-need-clause-any_moment
returns-then-free-need-clause-any_moment g c = λ t b es cs m may working.
    by_pages g.D.Disk b es cs m c.args.entity c.args.version c.args.stamp.now (g.S.Spelt.bytes c.args.part.now) c.args.pages.now c.args.store.now
    t may (c.requires.true_books t) working c.args.store.now
    (GoesByPages-stay g.D.Disk c.args.store.now (λ image told left. g.met.D.Disk.only_now c.args.store.now.disk image told left))

pub returns-clause-any_moment : goal.returns-clause-any_moment
returns-clause-any_moment g c = λ t b es cs m may working. c.put_shipped.ensures.any_moment t b es cs m may
