use Rattle.std.proofs.Common.{ℕ, List, []}
use Rattle.cell_clocks.specs.model_kernel.State.{Supply}
use Rattle.test_kernel.proofs.Closing.{founded_again, never_again}
use Rattle.std.proofs.lemmas.Bool.{false≢true}
use Rattle.std.proofs.Common.{sym, ◌∙◌}
use Rattle.test_kernel.proofs.snapped.snap_both.Goals as goal

-- what the supplier says and what blocks hold is beside the point
no_supply : Supply
no_supply tag page place = 0

no_words : ℕ → List ℕ
no_words n = []

pub snap_cell-requires-2-clause-founded : goal.snap_cell-requires-2-clause-founded
snap_cell-requires-2-clause-founded g c =
    founded_again (g.P.Policy.wish c.args.gate.now.policy) c.args.cell.now c.snap_cell.new.cell c.args.store.now c.snap_cell.new.store
    (λ s words is. (let all = c.in-Ok.ensures.none s words is in (all.1, all.2))) (λ s words is. (c.in-Ok.ensures.made s words is).1.recorded) no_supply no_words c.requires.founded

pub snap_cell-requires-2-clause-may : goal.snap_cell-requires-2-clause-may
snap_cell-requires-2-clause-may g c = λ s words is.
    absurd (false≢true (sym (never_again (g.P.Policy.wish c.args.gate.now.policy) c.args.cell.now c.snap_cell.new.cell c.args.store.now c.snap_cell.new.store
    (λ s words is. (let all = c.in-Ok.ensures.none s words is in (all.1, all.2))) (λ s words is. (c.in-Ok.ensures.made s words is).1.recorded) s words) ∙ is))

pub returns-in-Ok-snap_cell : goal.returns-in-Ok-snap_cell
returns-in-Ok-snap_cell g c =
    let none = c.in-Ok-snap_cell.ensures.none no_supply no_words (never_again (g.P.Policy.wish c.args.gate.now.policy) c.args.cell.now c.snap_cell.new.cell c.args.store.now c.snap_cell.new.store
    (λ s words is. (let all = c.in-Ok.ensures.none s words is in (all.1, all.2))) (λ s words is. (c.in-Ok.ensures.made s words is).1.recorded) no_supply no_words) in
    let same = none.0 in
    cc same
