use Rattle.std.proofs.Common.{[], ◌∷◌}
use Rattle.table_laws.specs.act_calls.Calls.{atlas_state}
use Rattle.table_laws.proofs.Facing.{ready_at}
use Rattle.thread_cell_steps.proofs.Advanced.{idle_by, unfit_by}
use Rattle.thread_cell_steps.proofs.Touching.{directory_in, shows_atlas, wants_others}
use Rattle.thread_cell_steps.proofs.Shapes.{by_both, may_both}
use Rattle.thread_cell_steps.proofs.advancing.advance_three.Goals as goal

pub next_plan-requires : goal.next_plan-requires
next_plan-requires g c =
    record { ready = λ k is. ready_at (g.K.PageStore.held c.args.store.now) c.args.all.now c.requires.may.orderly c.args.locus.now.clock.entity c.args.locus.now k c.requires.stand.0 is }

pub go_with_both-requires : goal.go_with_both-requires
go_with_both-requires g c =
    let pages = g.K.PageStore in
    let s = g.S.Supplier.word c.args.gate.now.supply in
    let cs = c.args.all.now in
    let b = c.args.store.now in
    let may = c.requires.may in
    let l = c.args.locus.now in
    let at = c.requires.stand.0 in
    let k = c.args.atlas.now in
    let o = c.args.other.now in
    let at_k = c.requires.stand.1.0 in
    let at_o = c.requires.stand.1.1.0 in
    let f = directory_in (g.K.PageStore.held c.args.store.now) cs may.orderly l in
    let i = c.in-Ok.plan.instr in
    let r = c.in-Ok.plan.reach in
    let planned = c.in-Ok.ensures.plans in
    let these = c.touches_two.ensures.fits c.if-not-touches_two.false (atlas_state f.0) (shows_atlas (g.K.PageStore.held c.args.store.now) cs may.orderly f.0 f.1 k at_k) in
    let m = may_both pages g.met.K.PageStore.stays s cs b may l at f.0 f.1 i r planned k o at_k at_o these in
    record { lent = m.lent; few = m.few; planned = planned }

pub returns-in-Err : goal.returns-in-Err
returns-in-Err g c =
    let pages = g.K.PageStore in
    let s = g.S.Supplier.word c.args.gate.now.supply in
    let cs = c.args.all.now in
    let b = c.args.store.now in
    let may = c.requires.may in
    let l = c.args.locus.now in
    let at = c.requires.stand.0 in
    let k = c.args.atlas.now in
    let o = c.args.other.now in
    let at_k = c.requires.stand.1.0 in
    let at_o = c.requires.stand.1.1.0 in
    idle_by pages g.met.K.PageStore.stays s cs b may l at c.in-Err.why c.in-Err.ensures.idle (k ∷ o ∷ []) (at_k, (at_o, tt))

pub returns-then-not-touches_two : goal.returns-then-not-touches_two
returns-then-not-touches_two g c =
    let pages = g.K.PageStore in
    let s = g.S.Supplier.word c.args.gate.now.supply in
    let cs = c.args.all.now in
    let b = c.args.store.now in
    let may = c.requires.may in
    let l = c.args.locus.now in
    let at = c.requires.stand.0 in
    let k = c.args.atlas.now in
    let o = c.args.other.now in
    let at_k = c.requires.stand.1.0 in
    let at_o = c.requires.stand.1.1.0 in
    let f = directory_in (g.K.PageStore.held c.args.store.now) cs may.orderly l in
    let i = c.in-Ok.plan.instr in
    let r = c.in-Ok.plan.reach in
    let planned = c.in-Ok.ensures.plans in
    unfit_by pages g.met.K.PageStore.stays s cs b may l at (k ∷ o ∷ []) (wants_others cs l at f.0 f.1 i r planned (k.clock.entity ∷ o.clock.entity ∷ [])
    (c.touches_two.ensures.unfit c.if-not-touches_two.true (atlas_state f.0) (shows_atlas (g.K.PageStore.held c.args.store.now) cs may.orderly f.0 f.1 k at_k)))

pub returns-else-not-touches_two : goal.returns-else-not-touches_two
returns-else-not-touches_two g c =
    let pages = g.K.PageStore in
    let s = g.S.Supplier.word c.args.gate.now.supply in
    let cs = c.args.all.now in
    let b = c.args.store.now in
    let may = c.requires.may in
    let l = c.args.locus.now in
    let at = c.requires.stand.0 in
    let k = c.args.atlas.now in
    let o = c.args.other.now in
    let at_k = c.requires.stand.1.0 in
    let at_o = c.requires.stand.1.1.0 in
    let f = directory_in (g.K.PageStore.held c.args.store.now) cs may.orderly l in
    let i = c.in-Ok.plan.instr in
    let r = c.in-Ok.plan.reach in
    let planned = c.in-Ok.ensures.plans in
    let these = c.touches_two.ensures.fits c.if-not-touches_two.false (atlas_state f.0) (shows_atlas (g.K.PageStore.held c.args.store.now) cs may.orderly f.0 f.1 k at_k) in
    by_both pages g.met.K.PageStore.stays s cs b may l at f.0 f.1 i r planned k o at_k at_o these c.go_with_both.new.locus c.go_with_both.new.atlas c.go_with_both.new.other c.go_with_both.result c.go_with_both.ensures
