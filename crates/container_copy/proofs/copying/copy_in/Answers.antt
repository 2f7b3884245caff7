use Rattle.std.proofs.Common.{◌∙◌}
use Rattle.open_image.specs.store_facts.State.{books}
use Rattle.cell_copies.specs.cell_births.act_calls.Calls.{atlas_state}
use Rattle.container_copy.proofs.Ending.{cause_of, kept_by, named_in, number_in, stays}
use Rattle.container_copy.proofs.Lent.{in_order}
use Rattle.container_copy.proofs.copying.copy_in.Goals as goal

pub copy_at-requires-clause-order : goal.copy_at-requires-clause-order
copy_at-requires-clause-order g c =
    in_order c.args.store.now c.args.cells.now c.requires.table c.atlas_of.result.now c.args.name.now c.args.fresh.now c.in-Ok.numbers.0 c.in-Ok.numbers.1
    (record { directory = c.atlas_of.ensures; chosen = c.in-Ok.ensures.made })

pub returns-in-Err-clause-any_moment : goal.returns-in-Err-clause-any_moment
returns-in-Err-clause-any_moment g c = λ t s v k.
    stays g.D.Disk (λ d image told left. g.met.D.Disk.only_now d image told left) s c.args.name.now c.args.fresh.now v c.args.store.now c.args.cells.now t (c.requires.true_books t) c.requires.table.opened.working k

pub returns-in-Err-new-clause-any_moment : goal.returns-in-Err-new-clause-any_moment
returns-in-Err-new-clause-any_moment g c = λ t s v k.
    stays g.D.Disk (λ d image told left. g.met.D.Disk.only_now d image told left) s c.args.name.now c.args.fresh.now v c.args.store.now c.args.cells.now t (c.requires.true_books t) c.requires.table.opened.working k

pub returns-in-Ok-copy_at-clause-any_moment : goal.returns-in-Ok-copy_at-clause-any_moment
returns-in-Ok-copy_at-clause-any_moment g c = λ t s v k.
    c.copy_at.ensures.any_moment t s c.args.name.now v k
    (named_in s v (g.D.Disk.reading c.args.store.now.disk) (books c.args.store.now) c.args.cells.now k c.atlas_of.result.now c.atlas_of.ensures c.args.name.now c.in-Ok.numbers.0 c.in-Ok.ensures.made.named)

pub returns-in-Ok-copy_at-clause-made : goal.returns-in-Ok-copy_at-clause-made
returns-in-Ok-copy_at-clause-made g c = λ t s v k. record {
  copy = c.in-Ok-copy_at.ensures.done t s c.args.name.now v k
      (named_in s v (g.D.Disk.reading c.args.store.now.disk) (books c.args.store.now) c.args.cells.now k c.atlas_of.result.now c.atlas_of.ensures c.args.name.now c.in-Ok.numbers.0 c.in-Ok.ensures.made.named);
  number_is = λ l. c.of.ensures
      ∙ number_in s v (g.D.Disk.reading c.args.store.now.disk) (books c.args.store.now) c.args.cells.now k c.atlas_of.result.now c.atlas_of.ensures c.args.name.now c.args.fresh.now c.in-Ok.numbers.0 c.in-Ok.numbers.1 c.in-Ok.ensures.made _ l;
}

pub returns-clause-any_moment : goal.returns-clause-any_moment
returns-clause-any_moment g c = λ t s v k.
    c.copy_at.ensures.any_moment t s c.args.name.now v k
    (named_in s v (g.D.Disk.reading c.args.store.now.disk) (books c.args.store.now) c.args.cells.now k c.atlas_of.result.now c.atlas_of.ensures c.args.name.now c.in-Ok.numbers.0 c.in-Ok.ensures.made.named)

pub returns-clause-cause : goal.returns-clause-cause
returns-clause-cause g c = λ d has.
    cause_of (atlas_state d) c.args.cells.now c.args.name.now c.args.fresh.now (books c.args.store.now) (g.D.Disk.faults c.args.store.now.disk) (g.D.Disk.faults c.copy_at.new.store.disk) c.in-Err-copy_at.fault c.store_fault.result c.store_fault.ensures
    (λ m is. (let k = c.in-Err-copy_at.ensures.no_blocks m is in (k.1, k.2 c.atlas_of.result.now c.args.name.now (record { directory = c.atlas_of.ensures; chosen = c.in-Ok.ensures.made }))))
    (λ is. c.in-Err-copy_at.ensures.no_shut is) (λ e is which. c.in-Err-copy_at.ensures.failed e is which)

pub returns-clause-kept : goal.returns-clause-kept
returns-clause-kept g c =
    kept_by c.args.store.now c.copy_at.new.store c.in-Err-copy_at.fault c.store_fault.result c.store_fault.ensures (λ m is. (c.in-Err-copy_at.ensures.no_blocks m is).0) (λ is. c.in-Err-copy_at.ensures.no_shut is)

pub returns-in-Ok-copy_at-clause-room : goal.returns-in-Ok-copy_at-clause-room
returns-in-Ok-copy_at-clause-room g c =
    let k = c.in-Ok-copy_at.ensures.room in
    (k.0, k.1, k.2 c.atlas_of.result.now c.args.name.now (record { directory = c.atlas_of.ensures; chosen = c.in-Ok.ensures.made }))
