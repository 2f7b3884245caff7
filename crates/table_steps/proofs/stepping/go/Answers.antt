use Rattle.std.proofs.Common.{inl, sym, subst, ◌∙◌}
use Rattle.table_laws.specs.Steps.{IsPlannedAt}
use Rattle.table_steps.proofs.Planning.{own_planned}
use Rattle.table_steps.proofs.Short.{never_short}
use Rattle.table_steps.proofs.stepping.go.Goals as goal

pub go_alone-requires-clause-planned : goal.go_alone-requires-clause-planned
go_alone-requires-clause-planned g c =
    own_planned c.args.cells.now c.args.me c.args.instr c.in-Alone.act (subst (λ r. IsPlannedAt c.args.cells.now c.args.me c.args.instr r) c.in-Alone.is c.requires.planned)

pub returns-in-Alone-clause-step : goal.returns-in-Alone-clause-step
returns-in-Alone-clause-step g c told = c.go_alone.ensures.goes (g.S.Supplier.word c.args.gate.now.supply) (g.B.PageStore.words c.args.store.now)

pub returns-in-Alone-clause-orderly : goal.returns-in-Alone-clause-orderly
returns-in-Alone-clause-orderly g c = c.go_alone.ensures.orderly (g.B.PageStore.held c.args.store.now) c.requires.orderly

pub returns-in-Alone-clause-news : goal.returns-in-Alone-clause-news
returns-in-Alone-clause-news g c x page = inl (c.go_alone.ensures.blocks (g.B.PageStore.held c.args.store.now) c.requires.orderly x page)

pub returns-in-Beside-clause-step : goal.returns-in-Beside-clause-step
returns-in-Beside-clause-step g c told = c.go_beside.ensures.goes (g.S.Supplier.word c.args.gate.now.supply) (g.B.PageStore.words c.args.store.now)

pub returns-in-Beside-clause-orderly : goal.returns-in-Beside-clause-orderly
returns-in-Beside-clause-orderly g c = c.go_beside.ensures.orderly (g.B.PageStore.held c.args.store.now) c.requires.orderly

pub returns-in-Beside-clause-news : goal.returns-in-Beside-clause-news
returns-in-Beside-clause-news g c x page = inl (c.go_beside.ensures.blocks (g.B.PageStore.held c.args.store.now) c.requires.orderly x page)

pub returns-in-Mapping-clause-step : goal.returns-in-Mapping-clause-step
returns-in-Mapping-clause-step g c told = c.go_mapping.ensures.goes (g.S.Supplier.word c.args.gate.now.supply) (g.B.PageStore.words c.args.store.now)

pub returns-in-Mapping-clause-orderly : goal.returns-in-Mapping-clause-orderly
returns-in-Mapping-clause-orderly g c = c.go_mapping.ensures.orderly (g.B.PageStore.held c.args.store.now) c.requires.orderly

pub returns-in-Mapping-clause-news : goal.returns-in-Mapping-clause-news
returns-in-Mapping-clause-news g c x page = inl (c.go_mapping.ensures.blocks (g.B.PageStore.held c.args.store.now) c.requires.orderly x page)

pub returns-in-Make-clause-step : goal.returns-in-Make-clause-step
returns-in-Make-clause-step g c told = c.go_making.ensures.goes (g.S.Supplier.word c.args.gate.now.supply) (g.B.PageStore.words c.args.store.now)

pub returns-in-Make-clause-orderly : goal.returns-in-Make-clause-orderly
returns-in-Make-clause-orderly g c = c.go_making.ensures.orderly (g.B.PageStore.held c.args.store.now) c.requires.orderly

pub returns-in-Make-clause-news : goal.returns-in-Make-clause-news
returns-in-Make-clause-news g c x page = inl (c.go_making.ensures.blocks (g.B.PageStore.held c.args.store.now) c.requires.orderly x page)

pub returns-in-Spawn-clause-step : goal.returns-in-Spawn-clause-step
returns-in-Spawn-clause-step g c told = c.go_spawning.ensures.goes (g.S.Supplier.word c.args.gate.now.supply) (g.B.PageStore.words c.args.store.now)

pub returns-in-Spawn-clause-orderly : goal.returns-in-Spawn-clause-orderly
returns-in-Spawn-clause-orderly g c = c.go_spawning.ensures.orderly (g.B.PageStore.held c.args.store.now) c.requires.orderly

pub returns-in-Spawn-clause-news : goal.returns-in-Spawn-clause-news
returns-in-Spawn-clause-news g c x page = inl (c.go_spawning.ensures.blocks (g.B.PageStore.held c.args.store.now) c.requires.orderly x page)

pub returns-in-Alone-clause-no_blocks : goal.returns-in-Alone-clause-no_blocks
returns-in-Alone-clause-no_blocks g c =
    never_short _ (g.B.PageStore.kept_names c.args.store.now) (g.B.PageStore.free c.args.store.now) c.args.me c.args.cells.now c.args.instr c.args.reach c.requires.planned (λ x look. let clash = sym c.in-Alone.is ∙ look in absurd (cc clash))

pub returns-in-Beside-clause-no_blocks : goal.returns-in-Beside-clause-no_blocks
returns-in-Beside-clause-no_blocks g c =
    never_short _ (g.B.PageStore.kept_names c.args.store.now) (g.B.PageStore.free c.args.store.now) c.args.me c.args.cells.now c.args.instr c.args.reach c.requires.planned (λ x look. let clash = sym c.in-Beside.is ∙ look in absurd (cc clash))

pub returns-in-Mapping-clause-no_blocks : goal.returns-in-Mapping-clause-no_blocks
returns-in-Mapping-clause-no_blocks g c =
    never_short _ (g.B.PageStore.kept_names c.args.store.now) (g.B.PageStore.free c.args.store.now) c.args.me c.args.cells.now c.args.instr c.args.reach c.requires.planned (λ x look. let clash = sym c.in-Mapping.is ∙ look in absurd (cc clash))

pub returns-in-Make-clause-no_blocks : goal.returns-in-Make-clause-no_blocks
returns-in-Make-clause-no_blocks g c =
    never_short _ (g.B.PageStore.kept_names c.args.store.now) (g.B.PageStore.free c.args.store.now) c.args.me c.args.cells.now c.args.instr c.args.reach c.requires.planned (λ x look. let clash = sym c.in-Make.is ∙ look in absurd (cc clash))

pub returns-in-Spawn-clause-no_blocks : goal.returns-in-Spawn-clause-no_blocks
returns-in-Spawn-clause-no_blocks g c =
    never_short _ (g.B.PageStore.kept_names c.args.store.now) (g.B.PageStore.free c.args.store.now) c.args.me c.args.cells.now c.args.instr c.args.reach c.requires.planned (λ x look. let clash = sym c.in-Spawn.is ∙ look in absurd (cc clash))
