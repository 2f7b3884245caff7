use Rattle.std.proofs.Common.{[], sym, ap}
use Rattle.table_laws.specs.act_calls.Calls.{atlas_state}
use Rattle.thread_steps.specs.Lending.{touched_by}
use Rattle.thread_cell_steps.proofs.Advanced.{idle_by, unfit_by}
use Rattle.thread_cell_steps.proofs.Planned.{idle_planned, step_planned}
use Rattle.thread_cell_steps.proofs.Touching.{alone_fits, directory_in, wants_others}
use Rattle.thread_cell_steps.proofs.Shapes.{by_alone, may_alone}
use Rattle.thread_cell_steps.proofs.advancing.advance_one.Goals as goal

pub go_alone-requires : goal.go_alone-requires
go_alone-requires g c =
    let pages = g.K.PageStore in
    let s = g.S.Supplier.word c.args.gate.now.supply in
    let cs = c.args.all.now in
    let b = c.args.store.now in
    let may = c.requires.may in
    let l = c.args.locus.now in
    let at = c.requires.stand.0 in
    let f = directory_in (g.K.PageStore.held c.args.store.now) cs may.orderly l in
    let i = c.in-Ok.plan.instr in
    let r = c.in-Ok.plan.reach in
    let planned = step_planned l c.args.planned c.in-Ok.plan c.requires.planned c.in-Ok.is in
    let m = may_alone pages g.met.K.PageStore.stays s cs b may l at f.0 f.1 i r planned (ap (touched_by (atlas_state f.0)) (sym c.in-Alone.is)) in
    record { lent = m.lent; few = m.few; planned = planned }

pub returns-in-Err : goal.returns-in-Err
returns-in-Err g c =
    let pages = g.K.PageStore in
    let s = g.S.Supplier.word c.args.gate.now.supply in
    let cs = c.args.all.now in
    let b = c.args.store.now in
    let may = c.requires.may in
    let l = c.args.locus.now in
    let at = c.requires.stand.0 in
    idle_by pages g.met.K.PageStore.stays s cs b may l at c.in-Err.why (idle_planned l c.args.planned c.in-Err.why c.requires.planned c.in-Err.is) [] tt

pub returns-in-Alone : goal.returns-in-Alone
returns-in-Alone g c =
    let pages = g.K.PageStore in
    let s = g.S.Supplier.word c.args.gate.now.supply in
    let cs = c.args.all.now in
    let b = c.args.store.now in
    let may = c.requires.may in
    let l = c.args.locus.now in
    let at = c.requires.stand.0 in
    let f = directory_in (g.K.PageStore.held c.args.store.now) cs may.orderly l in
    let i = c.in-Ok.plan.instr in
    let r = c.in-Ok.plan.reach in
    let planned = step_planned l c.args.planned c.in-Ok.plan c.requires.planned c.in-Ok.is in
    by_alone pages g.met.K.PageStore.stays s cs b may l at f.0 f.1 i r planned (ap (touched_by (atlas_state f.0)) (sym c.in-Alone.is)) c.go_alone.new.locus c.go_alone.result c.go_alone.ensures

pub returns-in_default : goal.returns-in_default
returns-in_default g c =
    let pages = g.K.PageStore in
    let s = g.S.Supplier.word c.args.gate.now.supply in
    let cs = c.args.all.now in
    let b = c.args.store.now in
    let may = c.requires.may in
    let l = c.args.locus.now in
    let at = c.requires.stand.0 in
    let f = directory_in (g.K.PageStore.held c.args.store.now) cs may.orderly l in
    let i = c.in-Ok.plan.instr in
    let r = c.in-Ok.plan.reach in
    let planned = step_planned l c.args.planned c.in-Ok.plan c.requires.planned c.in-Ok.is in
    unfit_by pages g.met.K.PageStore.stays s cs b may l at [] (wants_others cs l at f.0 f.1 i r planned [] (λ fits. let own = alone_fits (atlas_state f.0) r fits in c.in_default.not-Alone own.0 own.1))
