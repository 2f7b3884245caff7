use Rattle.std.proofs.Common.{◌≡◌, Err, Ok, length, sym, subst, ◌∙◌, arith}
use Rattle.kernel_core_facts.specs.kernel_commit_facts.Parts.{Noted, parts_of}
use Rattle.kernel_core_facts.specs.table_laws.Tables.{AreClean}
use Rattle.kernel_core_facts.specs.kernel_record_facts.Cells.{words_on}
use Rattle.kernel_core_facts.specs.Looked.{StepsOnce}
use Rattle.kernel_core_facts.specs.declared.looked.Looked.TheVariants.{Made}
use Rattle.kernel_core_facts.specs.cell_plans.declared.idle.Idle.TheVariants.{Absent}
use Rattle.kernel_core_facts.specs.kernel_invariant.declared.stopping.Stopped.{Stopped}
use Rattle.kernel_core_facts.proofs.Paired.{few_writes}
use Rattle.kernel_core_facts.proofs.Stepping.{leaves, stays_clean, steps_over, stops_over}
use Rattle.kernel_core_facts.proofs.kernel_commits_lemmas.Answering.{refilled}
use Rattle.kernel_core.proofs.Inside.{clean_inside, once_outside, steady_inside}
use Rattle.kernel_core.proofs.Stepped.{once_failed, once_idle, once_made, open_fault}
use Rattle.kernel_core.proofs.stepping.step_core.Goals as goal

pub advance-requires-clause-orderly : goal.advance-requires-clause-orderly
advance-requires-clause-orderly g c =
    let d = g.D.Disk in
    let s = g.S.Supplier.word c.args.gate.now.supply in
    let me = c.args.me in
    let st = c.core.inside.store in
    let cs = c.core.inside.cells.items in
    let now = c.deref_mut.result.now in
    let n = c.core.inside.notes in
    let k = steady_inside d c.args.core.now st cs now n c.core.view_is c.deref_mut.ensures.value c.requires.steady in
    k.sound.matches.orderly

pub advance-requires-clause-few : goal.advance-requires-clause-few
advance-requires-clause-few g c =
    let d = g.D.Disk in
    let s = g.S.Supplier.word c.args.gate.now.supply in
    let me = c.args.me in
    let st = c.core.inside.store in
    let cs = c.core.inside.cells.items in
    let now = c.deref_mut.result.now in
    let n = c.core.inside.notes in
    let k = steady_inside d c.args.core.now st cs now n c.core.view_is c.deref_mut.ensures.value c.requires.steady in
    few_writes d (parts_of st now n) k

pub advance-requires-clause-clean : goal.advance-requires-clause-clean
advance-requires-clause-clean g c = λ told.
    clean_inside g.D.Disk (g.S.Supplier.word c.args.gate.now.supply) c.args.core.now c.core.inside.store c.core.inside.cells.items c.deref_mut.result.now c.core.inside.notes c.core.view_is c.deref_mut.ensures.value (c.requires.clean told)

pub returns-in-Ok : goal.returns-in-Ok
returns-in-Ok g c =
    let d = g.D.Disk in
    let s = g.S.Supplier.word c.args.gate.now.supply in
    let me = c.args.me in
    let st = c.core.inside.store in
    let cs = c.core.inside.cells.items in
    let now = c.deref_mut.result.now in
    let n = c.core.inside.notes in
    let k = steady_inside d c.args.core.now st cs now n c.core.view_is c.deref_mut.ensures.value c.requires.steady in
    let st' = c.advance.new.store in
    let cs' = c.advance.new.cells in
    let made = c.in-Ok.ensures in
    let orderly = k.sound.matches.orderly in
    let before = orderly.numbers.len in
    let after = made.orderly.numbers.len in
    let lasts : length cs' ≡ length now = omega (arith, before, after) in
    let whole = refilled c.core.inside.cells.len cs cs' (lasts ∙ c.deref_mut.ensures.len) in
    let left = leaves d s me now cs' st st' orderly made.orderly made.between made.one_write (Ok c.in-Ok.made) made.enters made.still made.faulted in
    let clean : d.tells → AreClean s (words_on (d.reading st'.disk)) cs' =
    λ told. stays_clean d s me now cs' st st' orderly made.orderly made.between made.one_write (Ok c.in-Ok.made) told (clean_inside d s c.args.core.now st cs now n c.core.view_is c.deref_mut.ensures.value (c.requires.clean told)) (made.step told) made.still made.faulted in
    once_outside d s me c.args.core.now st cs now n c.core.view_is c.deref_mut.ensures.value st' cs' _ c.push_entry.new.self (Ok (Made c.in-Ok.made)) whole
    (subst (λ (m : Noted). StepsOnce d s me (parts_of st now n) (parts_of st' cs' m) (Ok (Made c.in-Ok.made))) (sym c.push_entry.ensures)
    (once_made d g.met.D.Disk.counts_later g.met.D.Disk.only_now s me now cs' st st' n k left clean c.in-Ok.made made.idle made.no_blocks made.enters made.instr made.same_shut
    (λ b told same working. steps_over d s me now cs' st st' orderly made.orderly made.between made.one_write made.news b same working (Ok c.in-Ok.made) (made.idle s (words_on (d.reading st.disk)) Absent) (made.step told) made.enters made.same_shut)))

pub returns-in-Err-Idle : goal.returns-in-Err-Idle
returns-in-Err-Idle g c =
    let d = g.D.Disk in
    let s = g.S.Supplier.word c.args.gate.now.supply in
    let me = c.args.me in
    let st = c.core.inside.store in
    let cs = c.core.inside.cells.items in
    let now = c.deref_mut.result.now in
    let n = c.core.inside.notes in
    let k = steady_inside d c.args.core.now st cs now n c.core.view_is c.deref_mut.ensures.value c.requires.steady in
    let st' = c.advance.new.store in
    let cs' = c.advance.new.cells in
    let made = c.in-Err-Idle.ensures in
    let orderly = k.sound.matches.orderly in
    let before = orderly.numbers.len in
    let after = made.orderly.numbers.len in
    let lasts : length cs' ≡ length now = omega (arith, before, after) in
    let whole = refilled c.core.inside.cells.len cs cs' (lasts ∙ c.deref_mut.ensures.len) in
    let left = leaves d s me now cs' st st' orderly made.orderly made.between made.one_write (Err c.in-Err-Idle.field-0) made.enters made.still made.faulted in
    let clean : d.tells → AreClean s (words_on (d.reading st'.disk)) cs' =
    λ told. stays_clean d s me now cs' st st' orderly made.orderly made.between made.one_write (Err c.in-Err-Idle.field-0) told (clean_inside d s c.args.core.now st cs now n c.core.view_is c.deref_mut.ensures.value (c.requires.clean told)) (made.step told) made.still made.faulted in
    once_outside d s me c.args.core.now st cs now n c.core.view_is c.deref_mut.ensures.value st' cs' _ n (Ok (Rattle.kernel_core_facts.specs.declared.looked.Looked.TheVariants.Idle c.in-Err-Idle.why)) whole
    (once_idle d g.met.D.Disk.counts_later g.met.D.Disk.only_now s me now cs' st st' n k left clean c.in-Err-Idle.field-0 c.in-Err-Idle.why c.in-Err-Idle.field-0-is made.idle made.still made.no_blocks)

pub returns-in-Err-Paging : goal.returns-in-Err-Paging
returns-in-Err-Paging g c =
    let d = g.D.Disk in
    let s = g.S.Supplier.word c.args.gate.now.supply in
    let me = c.args.me in
    let st = c.core.inside.store in
    let cs = c.core.inside.cells.items in
    let now = c.deref_mut.result.now in
    let n = c.core.inside.notes in
    let k = steady_inside d c.args.core.now st cs now n c.core.view_is c.deref_mut.ensures.value c.requires.steady in
    let st' = c.advance.new.store in
    let cs' = c.advance.new.cells in
    let made = c.in-Err-Paging.ensures in
    let orderly = k.sound.matches.orderly in
    let before = orderly.numbers.len in
    let after = made.orderly.numbers.len in
    let lasts : length cs' ≡ length now = omega (arith, before, after) in
    let whole = refilled c.core.inside.cells.len cs cs' (lasts ∙ c.deref_mut.ensures.len) in
    let left = leaves d s me now cs' st st' orderly made.orderly made.between made.one_write (Err c.in-Err-Paging.field-0) made.enters made.still made.faulted in
    let clean : d.tells → AreClean s (words_on (d.reading st'.disk)) cs' =
    λ told. stays_clean d s me now cs' st st' orderly made.orderly made.between made.one_write (Err c.in-Err-Paging.field-0) told (clean_inside d s c.args.core.now st cs now n c.core.view_is c.deref_mut.ensures.value (c.requires.clean told)) (made.step told) made.still made.faulted in
    once_outside d s me c.args.core.now st cs now n c.core.view_is c.deref_mut.ensures.value st' cs' _ n (Err c.page_stop.result) whole
    (subst (λ (why : Stopped). StepsOnce d s me (parts_of st now n) (parts_of st' cs' n) (Err why)) (sym c.page_stop.ensures)
    (once_failed d g.met.D.Disk.counts_later g.met.D.Disk.only_now s me now cs' st st' n k left clean c.in-Err-Paging.field-0 c.in-Err-Paging.fault c.in-Err-Paging.field-0-is made.idle made.cause
    (λ b f told same is. stops_over d s me now cs' st st' orderly made.orderly made.between made.one_write b told same (made.faulted f is)) made.at_word made.no_blocks made.turned))

pub page_stop-requires : goal.page_stop-requires
page_stop-requires g c =
    let d = g.D.Disk in
    let s = g.S.Supplier.word c.args.gate.now.supply in
    let me = c.args.me in
    let st = c.core.inside.store in
    let cs = c.core.inside.cells.items in
    let now = c.deref_mut.result.now in
    let n = c.core.inside.notes in
    let k = steady_inside d c.args.core.now st cs now n c.core.view_is c.deref_mut.ensures.value c.requires.steady in
    let st' = c.advance.new.store in
    let cs' = c.advance.new.cells in
    let made = c.in-Err-Paging.ensures in
    let orderly = k.sound.matches.orderly in
    let before = orderly.numbers.len in
    let after = made.orderly.numbers.len in
    let lasts : length cs' ≡ length now = omega (arith, before, after) in
    let whole = refilled c.core.inside.cells.len cs cs' (lasts ∙ c.deref_mut.ensures.len) in
    let left = leaves d s me now cs' st st' orderly made.orderly made.between made.one_write (Err c.in-Err-Paging.field-0) made.enters made.still made.faulted in
    let clean : d.tells → AreClean s (words_on (d.reading st'.disk)) cs' =
    λ told. stays_clean d s me now cs' st st' orderly made.orderly made.between made.one_write (Err c.in-Err-Paging.field-0) told (clean_inside d s c.args.core.now st cs now n c.core.view_is c.deref_mut.ensures.value (c.requires.clean told)) (made.step told) made.still made.faulted in
    open_fault d g.met.D.Disk.counts_later g.met.D.Disk.only_now s me now cs' st st' n k left clean c.in-Err-Paging.field-0 c.in-Err-Paging.fault c.in-Err-Paging.field-0-is made.cause
