use Rattle.std.proofs.Common.{inr, ℕ, ◌≤◌, List, sym, subst}
use Rattle.cell_copies.specs.cell_births.act_calls.Calls.{atlas_state}
use Rattle.cell_copies.specs.cell_births.cell_states.declared.cells.Cell.{Cell}
use Rattle.open_image.specs.store_books.Books.{free_in}
use Rattle.open_image.specs.store_facts.State.{books}
use Rattle.open_image.specs.table_laws.Steps.{HasDirectory}
use Rattle.container_copy.specs.Copying.{StandsTable}
use Rattle.container_copy.specs.Leaving.{CopiesSince, HasCopyCause, HasTableCause, PutsCopy}
use Rattle.container_copy.specs.Needs.{TableNeeds}
use Rattle.container_copy.proofs.Ending.{directory_in, finds, foreign_only, image_cause, fault_opened, open_cause, stays_opened, short_of, since_both}
use Rattle.container_copy.proofs.Starting.{stands}
use Rattle.container_copy.proofs.copying.copy_container.Goals as goal

pub returns-in-Err-clause-cause : goal.returns-in-Err-clause-cause
returns-in-Err-clause-cause g c =
    open_cause g.D.Disk c.args.name.now c.args.fresh.now c.args.disk c.in-Err.fault.disk c.in-Err.fault.why c.opening_fault.result c.opening_fault.ensures c.in-Err.ensures.cause

pub returns-in-Err-clause-not_foreign : goal.returns-in-Err-clause-not_foreign
returns-in-Err-clause-not_foreign g c = λ t accepted bad is.
    c.in-Err.ensures.not_foreign t accepted bad (foreign_only c.in-Err.fault.why c.opening_fault.result bad c.opening_fault.ensures is)

pub returns-in-Err-clause-since : goal.returns-in-Err-clause-since
returns-in-Err-clause-since g c = λ t room.
    short_of g.D.Disk c.args.name.now c.args.fresh.now c.args.disk c.in-Err.fault.disk c.in-Err.fault.why c.opening_fault.result c.opening_fault.ensures (c.in-Err.ensures.since t room)

pub returns-in-Err-clause-refused : goal.returns-in-Err-clause-refused
returns-in-Err-clause-refused g c = λ bad is. c.in-Err.ensures.refused bad (foreign_only c.in-Err.fault.why c.opening_fault.result bad c.opening_fault.ensures is)

pub returns-in-Err-clause-kept : goal.returns-in-Err-clause-kept
returns-in-Err-clause-kept g c =
    fault_opened g.D.Disk c.args.disk c.in-Err.fault.disk c.in-Err.fault.why c.opening_fault.result c.opening_fault.ensures c.in-Err.ensures.begins (λ t room. c.in-Err.ensures.since t room)

pub returns-in-Ok-copied-clause-made : goal.returns-in-Ok-copied-clause-made
returns-in-Ok-copied-clause-made g c = λ t s v means low.
    let st = c.in-Ok.opened.0 in
    let k = stands g.D.Disk c.args.disk st c.in-Ok.opened.1.items t c.in-Ok.ensures.table (c.in-Ok.ensures.starts t) c.in-Ok.ensures.begins s v means low in
    let made = c.in-Ok-copied.ensures.made t s v (subst (λ (xs : List Cell). StandsTable s v (g.D.Disk.reading st.disk) (books st) xs) (sym c.as_mut_slice.ensures.value) k) in
    subst (λ (d : g.row.D.Denot). PutsCopy g.D.Disk s c.args.name.now c.args.fresh.now v d c.in-Ok-copied.number) (sym c.into_disk-disk.ensures) made

pub returns-in-Ok-copied-clause-since : goal.returns-in-Ok-copied-clause-since
returns-in-Ok-copied-clause-since g c = λ t room.
    let st = c.in-Ok.opened.0 in
    subst (λ (d : g.row.D.Denot). CopiesSince g.D.Disk c.args.name.now c.args.fresh.now c.args.disk d) (sym c.into_disk-disk.ensures)
    (since_both g.D.Disk g.met.D.Disk.counts_later c.args.name.now c.args.fresh.now c.args.disk st.disk c.copy_in-copied.new.store.disk t (c.in-Ok.ensures.since t room)
    (λ s v means low. c.copy_in-copied.ensures.any_moment t s v (subst (λ (xs : List Cell). StandsTable s v (g.D.Disk.reading st.disk) (books st) xs) (sym c.as_mut_slice.ensures.value)
    (stands g.D.Disk c.args.disk st c.in-Ok.opened.1.items t c.in-Ok.ensures.table (c.in-Ok.ensures.starts t) c.in-Ok.ensures.begins s v means low))))

pub returns-in-Ok-copied-clause-room : goal.returns-in-Ok-copied-clause-room
returns-in-Ok-copied-clause-room g c = λ t.
    let st = c.in-Ok.opened.0 in
    let cs : List Cell = c.in-Ok.opened.1.items in
    finds (g.D.Disk.reading c.args.disk) st cs c.in-Ok.ensures.table (c.in-Ok.ensures.means t) c.args.name.now c.args.fresh.now
    (subst (λ (xs : List Cell). (need : ℕ) × (need ≤ free_in (books st)) × TableNeeds xs c.args.name.now c.args.fresh.now need) c.as_mut_slice.ensures.value c.in-Ok-copied.ensures.room)

pub returns-clause-cause : goal.returns-clause-cause
returns-clause-cause g c =
    let st = c.in-Ok.opened.0 in
    let cs : List Cell = c.in-Ok.opened.1.items in
    let d = directory_in (books st).held cs c.in-Ok.ensures.table.orderly in
    let has : HasDirectory c.as_mut_slice.result.now d.0 = subst (λ (xs : List Cell). HasDirectory xs d.0) (sym c.as_mut_slice.ensures.value) d.1 in
    subst (λ (disk : g.row.D.Denot). HasCopyCause g.D.Disk c.args.name.now c.args.fresh.now c.args.disk disk c.in-Err-copied.why) (sym c.into_disk-disk.ensures)
    (image_cause g.D.Disk c.args.name.now c.args.fresh.now c.args.disk c.copy_in-copied.new.store.disk st cs c.in-Ok.ensures.table (λ t. c.in-Ok.ensures.means t) d.0 d.1 c.in-Ok.ensures.begins.later c.copy_in-copied.ensures.later
    c.in-Err-copied.why
    (subst (λ (xs : List Cell). HasTableCause (atlas_state d.0) xs c.args.name.now c.args.fresh.now (books st) (g.D.Disk.faults st.disk) (g.D.Disk.faults c.copy_in-copied.new.store.disk) c.in-Err-copied.why) c.as_mut_slice.ensures.value
    (c.in-Err-copied.ensures.cause d.0 has)))

pub returns-clause-not_foreign : goal.returns-clause-not_foreign
returns-clause-not_foreign g c = λ t accepted bad is.
    let st = c.in-Ok.opened.0 in
    let cs : List Cell = c.in-Ok.opened.1.items in
    let d = directory_in (books st).held cs c.in-Ok.ensures.table.orderly in
    let has : HasDirectory c.as_mut_slice.result.now d.0 = subst (λ (xs : List Cell). HasDirectory xs d.0) (sym c.as_mut_slice.ensures.value) d.1 in
    subst (HasTableCause (atlas_state d.0) c.as_mut_slice.result.now c.args.name.now c.args.fresh.now (books st) (g.D.Disk.faults st.disk) (g.D.Disk.faults c.copy_in-copied.new.store.disk)) is (c.in-Err-copied.ensures.cause d.0 has)

pub returns-clause-refused : goal.returns-clause-refused
returns-clause-refused g c = λ bad is.
    let st = c.in-Ok.opened.0 in
    let cs : List Cell = c.in-Ok.opened.1.items in
    let d = directory_in (books st).held cs c.in-Ok.ensures.table.orderly in
    let has : HasDirectory c.as_mut_slice.result.now d.0 = subst (λ (xs : List Cell). HasDirectory xs d.0) (sym c.as_mut_slice.ensures.value) d.1 in
    let no : ⊥ = subst (HasTableCause (atlas_state d.0) c.as_mut_slice.result.now c.args.name.now c.args.fresh.now (books st) (g.D.Disk.faults st.disk) (g.D.Disk.faults c.copy_in-copied.new.store.disk)) is (c.in-Err-copied.ensures.cause d.0 has) in
    absurd no

pub returns-clause-kept : goal.returns-clause-kept
returns-clause-kept g c =
    stays_opened g.D.Disk c.args.disk c.into_disk-disk.result c.in-Ok.opened.0 c.copy_in-copied.new.store c.in-Err-copied.why c.in-Ok.ensures.begins (λ t room. c.in-Ok.ensures.since t room) c.into_disk-disk.ensures c.in-Err-copied.ensures.kept

pub returns-clause-since : goal.returns-clause-since
returns-clause-since g c = λ t room.
    let st = c.in-Ok.opened.0 in
    inr (subst (λ (d : g.row.D.Denot). CopiesSince g.D.Disk c.args.name.now c.args.fresh.now c.args.disk d) (sym c.into_disk-disk.ensures)
    (since_both g.D.Disk g.met.D.Disk.counts_later c.args.name.now c.args.fresh.now c.args.disk st.disk c.copy_in-copied.new.store.disk t (c.in-Ok.ensures.since t room)
    (λ s v means low. c.copy_in-copied.ensures.any_moment t s v (subst (λ (xs : List Cell). StandsTable s v (g.D.Disk.reading st.disk) (books st) xs) (sym c.as_mut_slice.ensures.value)
    (stands g.D.Disk c.args.disk st c.in-Ok.opened.1.items t c.in-Ok.ensures.table (c.in-Ok.ensures.starts t) c.in-Ok.ensures.begins s v means low)))))
