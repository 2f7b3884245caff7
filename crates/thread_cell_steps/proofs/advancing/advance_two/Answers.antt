use Rattle.std.proofs.Common.{[], ◌∷◌, sym, subst, ◌∙◌}
use Rattle.table_laws.specs.act_calls.Calls.{atlas_state}
use Rattle.table_laws.specs.cell_plans.Plans.{IsPlanned}
use Rattle.table_laws.proofs.Facing.{ready_at}
use Rattle.thread_cell_steps.proofs.Advanced.{idle_by, unfit_by}
use Rattle.thread_cell_steps.proofs.Touching.{directory_in, shows_atlas, wants_others}
use Rattle.thread_cell_steps.proofs.Shapes.{by_atlas, by_beside, by_look, may_atlas, may_other}
use Rattle.thread_cell_steps.proofs.advancing.advance_two.Goals as goal

pub next_plan-requires : goal.next_plan-requires
next_plan-requires g c =
    record { ready = λ k is. ready_at (g.K.PageStore.held c.args.store.now) c.args.all.now c.requires.may.orderly c.args.locus.now.clock.entity c.args.locus.now k c.requires.stand.0 is }

pub go_with_atlas-requires : goal.go_with_atlas-requires
go_with_atlas-requires g c =
    let pages = g.K.PageStore in
    let s = g.S.Supplier.word c.args.gate.now.supply in
    let cs = c.args.all.now in
    let b = c.args.store.now in
    let may = c.requires.may in
    let l = c.args.locus.now in
    let at = c.requires.stand.0 in
    let o = c.args.other.now in
    let there = c.requires.stand.1.0 in
    let f = directory_in (g.K.PageStore.held c.args.store.now) cs may.orderly l in
    let i = c.in-Ok.plan.instr in
    let r = c.in-Ok.plan.reach in
    let planned = c.in-Ok.ensures.plans in
    let these = c.touches_one.ensures.fits c.if-not-touches_one.false (atlas_state f.0) (shows_atlas (g.K.PageStore.held c.args.store.now) cs may.orderly f.0 f.1 o there) in
    let m = may_atlas pages g.met.K.PageStore.stays s cs b may l at f.0 f.1 i r planned o there (sym c.number.ensures.number ∙ c.if-number-eq0.true) these in
    record { lent = m.lent; few = m.few; planned = planned }

pub go_look-requires : goal.go_look-requires
go_look-requires g c =
    let pages = g.K.PageStore in
    let s = g.S.Supplier.word c.args.gate.now.supply in
    let cs = c.args.all.now in
    let b = c.args.store.now in
    let may = c.requires.may in
    let l = c.args.locus.now in
    let at = c.requires.stand.0 in
    let o = c.args.other.now in
    let there = c.requires.stand.1.0 in
    let f = directory_in (g.K.PageStore.held c.args.store.now) cs may.orderly l in
    let i = c.in-Ok.plan.instr in
    let r = c.in-Ok.plan.reach in
    let planned = c.in-Ok.ensures.plans in
    let these = c.touches_one.ensures.fits c.if-not-touches_one.false (atlas_state f.0) (shows_atlas (g.K.PageStore.held c.args.store.now) cs may.orderly f.0 f.1 o there) in
    let m = may_other pages g.met.K.PageStore.stays s cs b may l at f.0 f.1 i r planned o there (λ none. c.if-number-eq0.false (c.number.ensures.number ∙ none)) these in
    let look = subst (IsPlanned l i) c.in-Look.is planned in
    record { keeps = c.requires.keeps; lent = m.lent; few = m.few; planned = (_, look); holds = m.given i _ look }

pub go_beside-requires : goal.go_beside-requires
go_beside-requires g c =
    let pages = g.K.PageStore in
    let s = g.S.Supplier.word c.args.gate.now.supply in
    let cs = c.args.all.now in
    let b = c.args.store.now in
    let may = c.requires.may in
    let l = c.args.locus.now in
    let at = c.requires.stand.0 in
    let o = c.args.other.now in
    let there = c.requires.stand.1.0 in
    let f = directory_in (g.K.PageStore.held c.args.store.now) cs may.orderly l in
    let i = c.in-Ok.plan.instr in
    let r = c.in-Ok.plan.reach in
    let planned = c.in-Ok.ensures.plans in
    let these = c.touches_one.ensures.fits c.if-not-touches_one.false (atlas_state f.0) (shows_atlas (g.K.PageStore.held c.args.store.now) cs may.orderly f.0 f.1 o there) in
    let m = may_other pages g.met.K.PageStore.stays s cs b may l at f.0 f.1 i r planned o there (λ none. c.if-number-eq0.false (c.number.ensures.number ∙ none)) these in
    record { lent = m.lent; few = m.few; planned = (r, planned, c.in_default.not-Look) }

pub returns-in-Err : goal.returns-in-Err
returns-in-Err g c =
    let pages = g.K.PageStore in
    let s = g.S.Supplier.word c.args.gate.now.supply in
    let cs = c.args.all.now in
    let b = c.args.store.now in
    let may = c.requires.may in
    let l = c.args.locus.now in
    let at = c.requires.stand.0 in
    let o = c.args.other.now in
    let there = c.requires.stand.1.0 in
    idle_by pages g.met.K.PageStore.stays s cs b may l at c.in-Err.why c.in-Err.ensures.idle (o ∷ []) (there, tt)

pub returns-then-not-touches_one : goal.returns-then-not-touches_one
returns-then-not-touches_one g c =
    let pages = g.K.PageStore in
    let s = g.S.Supplier.word c.args.gate.now.supply in
    let cs = c.args.all.now in
    let b = c.args.store.now in
    let may = c.requires.may in
    let l = c.args.locus.now in
    let at = c.requires.stand.0 in
    let o = c.args.other.now in
    let there = c.requires.stand.1.0 in
    let f = directory_in (g.K.PageStore.held c.args.store.now) cs may.orderly l in
    let i = c.in-Ok.plan.instr in
    let r = c.in-Ok.plan.reach in
    let planned = c.in-Ok.ensures.plans in
    unfit_by pages g.met.K.PageStore.stays s cs b may l at (o ∷ []) (wants_others cs l at f.0 f.1 i r planned (o.clock.entity ∷ [])
    (c.touches_one.ensures.unfit c.if-not-touches_one.true (atlas_state f.0) (shows_atlas (g.K.PageStore.held c.args.store.now) cs may.orderly f.0 f.1 o there)))

pub returns-then-number-eq0 : goal.returns-then-number-eq0
returns-then-number-eq0 g c =
    let pages = g.K.PageStore in
    let s = g.S.Supplier.word c.args.gate.now.supply in
    let cs = c.args.all.now in
    let b = c.args.store.now in
    let may = c.requires.may in
    let l = c.args.locus.now in
    let at = c.requires.stand.0 in
    let o = c.args.other.now in
    let there = c.requires.stand.1.0 in
    let f = directory_in (g.K.PageStore.held c.args.store.now) cs may.orderly l in
    let i = c.in-Ok.plan.instr in
    let r = c.in-Ok.plan.reach in
    let planned = c.in-Ok.ensures.plans in
    let these = c.touches_one.ensures.fits c.if-not-touches_one.false (atlas_state f.0) (shows_atlas (g.K.PageStore.held c.args.store.now) cs may.orderly f.0 f.1 o there) in
    by_atlas pages g.met.K.PageStore.stays s cs b may l at f.0 f.1 i r planned o there (sym c.number.ensures.number ∙ c.if-number-eq0.true) these c.go_with_atlas.new.locus c.go_with_atlas.new.atlas c.go_with_atlas.result c.go_with_atlas.ensures

pub returns-in-Look : goal.returns-in-Look
returns-in-Look g c =
    let pages = g.K.PageStore in
    let s = g.S.Supplier.word c.args.gate.now.supply in
    let cs = c.args.all.now in
    let b = c.args.store.now in
    let may = c.requires.may in
    let l = c.args.locus.now in
    let at = c.requires.stand.0 in
    let o = c.args.other.now in
    let there = c.requires.stand.1.0 in
    let f = directory_in (g.K.PageStore.held c.args.store.now) cs may.orderly l in
    let i = c.in-Ok.plan.instr in
    let r = c.in-Ok.plan.reach in
    let planned = c.in-Ok.ensures.plans in
    let these = c.touches_one.ensures.fits c.if-not-touches_one.false (atlas_state f.0) (shows_atlas (g.K.PageStore.held c.args.store.now) cs may.orderly f.0 f.1 o there) in
    by_look pages g.met.K.PageStore.stays s cs b may l at f.0 f.1 i r planned o there (λ none. c.if-number-eq0.false (c.number.ensures.number ∙ none)) these c.go_look.new.locus c.go_look.new.other c.go_look.ensures.numbers _ c.in-Look.is c.go_look.new.store
    c.go_look.result c.go_look.ensures.looks c.go_look.ensures.instr c.go_look.ensures.pages c.go_look.ensures.no_blocks

pub returns-in_default : goal.returns-in_default
returns-in_default g c =
    let pages = g.K.PageStore in
    let s = g.S.Supplier.word c.args.gate.now.supply in
    let cs = c.args.all.now in
    let b = c.args.store.now in
    let may = c.requires.may in
    let l = c.args.locus.now in
    let at = c.requires.stand.0 in
    let o = c.args.other.now in
    let there = c.requires.stand.1.0 in
    let f = directory_in (g.K.PageStore.held c.args.store.now) cs may.orderly l in
    let i = c.in-Ok.plan.instr in
    let r = c.in-Ok.plan.reach in
    let planned = c.in-Ok.ensures.plans in
    let these = c.touches_one.ensures.fits c.if-not-touches_one.false (atlas_state f.0) (shows_atlas (g.K.PageStore.held c.args.store.now) cs may.orderly f.0 f.1 o there) in
    by_beside pages g.met.K.PageStore.stays s cs b may l at f.0 f.1 i r planned o there (λ none. c.if-number-eq0.false (c.number.ensures.number ∙ none)) these c.go_beside.new.locus c.go_beside.new.other c.go_beside.ensures.numbers c.in_default.not-Look c.go_beside.result c.go_beside.ensures
