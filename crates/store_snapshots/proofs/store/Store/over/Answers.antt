use Rattle.std.proofs.Common.{List, map, sym, ap, subst, ◌∙◌}
use Rattle.base_types.specs.declared.records.Rec.{Rec}
use Rattle.edge_disk.proofs.Phases.{IsImage-reading}
use Rattle.store_facts.specs.log_facts.Logs.{AreInRange}
use Rattle.store_facts.specs.Opening.{fresh_ledger, unread}
use Rattle.store_facts.proofs.Opened.{empty_true, none_logged, over_log, synced_stands}
use Rattle.store_snapshots.proofs.store.Store.over.Goals as goal

pub on_shelves-requires-clause-range : goal.on_shelves-requires-clause-range
on_shelves-requires-clause-range g c = subst (λ (rs : List Rec). AreInRange c.args.synced.log.blocks rs) (sym c.deref.ensures.value) c.requires.known.in_range

pub returns-in-Ok-clause-over : goal.returns-in-Ok-clause-over
returns-in-Ok-clause-over g c =
    let log = c.args.synced.log in
    let shelved = c.in-Ok.shelved in
    over_log (g.D.Disk.block_count c.args.synced.disk) c.args.synced.disk log c.requires.known c.new-areas.result shelved.log shelved.kept shelved.cut shelved.blocks c.new-areas.ensures.area c.new-areas.ensures.epoch
    (c.in-Ok.ensures.log ∙ ap (λ (rs : List Rec). map unread rs) c.deref.ensures.value)
    (c.in-Ok.ensures.blocks ∙ ap (λ (rs : List Rec). fresh_ledger log.blocks rs) c.deref.ensures.value)
    c.in-Ok.ensures.kept

pub returns-in-Ok-clause-log : goal.returns-in-Ok-clause-log
returns-in-Ok-clause-log g c t =
    let disk = g.met.D.Disk in
    let synced = c.args.synced in
    let shelved = c.in-Ok.shelved in
    synced_stands g.D.Disk synced.disk synced.tally synced.log c.requires c.new-areas.result shelved.log shelved.kept shelved.cut shelved.blocks
    c.new-areas.ensures.area c.new-areas.ensures.epoch
    (c.in-Ok.ensures.log ∙ ap (λ (rs : List Rec). map unread rs) c.deref.ensures.value)
    (c.in-Ok.ensures.blocks ∙ ap (λ (rs : List Rec). fresh_ledger synced.log.blocks rs) c.deref.ensures.value)
    t (IsImage-reading g.D.Disk t disk.reads_now disk.counts_now disk.whole synced.disk)

pub returns-in-Ok-clause-empty : goal.returns-in-Ok-clause-empty
returns-in-Ok-clause-empty g c t none = empty_true g.D.Disk _ c.args.synced.disk (returns-in-Ok-clause-log g c t) (none_logged _ none)
