use Rattle.std.proofs.Common.{◌≡◌, sym, ap, ◌∙◌, subst, slice_get, length, Some, refl, arith}
use Rattle.std.proofs.lemmas.Option.{same_Some, slice_get_read}
use Rattle.kernel_commit_facts.specs.cell_states.declared.cells.Cell.{Cell}
use Rattle.kernel_commit_facts.specs.cell_states.Cells.{HasCell, part_of}
use Rattle.kernel_commit_facts.specs.cell_states.Wishes.{HasWish, is_open}
use Rattle.kernel_commit_facts.specs.model_kernel.Histories.{has_wish}
use Rattle.kernel_commits.proofs.snapping.wishes_among.Goals as goal

pub is_wished-requires-clause-newest : goal.is_wished-requires-clause-newest
is_wished-requires-clause-newest g c =
    let cs = c.args.cells.now in
    let is : slice_get cs c.args.entity ≡ Some c.index-cells-number.result =
    ap (slice_get cs) (sym c.number.ensures.number) ∙ slice_get_read cs (length cs) c.number.result c.index-cells-number.result refl (omega arith) c.index-cells-number.is in
    (c.requires.founded c.args.entity c.index-cells-number.result is).past

pub returns-clause-there : goal.returns-clause-there
returns-clause-there g c =
    let cs = c.args.cells.now in
    (c.index-cells-number.result, ap (slice_get cs) (sym c.number.ensures.number) ∙ slice_get_read cs (length cs) c.number.result c.index-cells-number.result refl (omega arith) c.index-cells-number.is)

pub returns-clause-open : goal.returns-clause-open
returns-clause-open g c = λ s words a at.
    let cs = c.args.cells.now in
    let is : slice_get cs c.args.entity ≡ Some c.index-cells-number.result =
    ap (slice_get cs) (sym c.number.ensures.number) ∙ slice_get_read cs (length cs) c.number.result c.index-cells-number.result refl (omega arith) c.index-cells-number.is in
    subst (λ (k : Cell). c.is_wished.result ≡ is_open (g.P.Policy.wish c.args.gate.now.policy) (part_of s words k.part) k.clock.version k.wish)
    (same_Some c.index-cells-number.result a (sym is ∙ at)) (c.is_wished.ensures.open s words)

pub returns-clause-run : goal.returns-clause-run
returns-clause-run g c = λ s words steps r a at has wish.
    let cs = c.args.cells.now in
    let is : slice_get cs c.args.entity ≡ Some c.index-cells-number.result =
    ap (slice_get cs) (sym c.number.ensures.number) ∙ slice_get_read cs (length cs) c.number.result c.index-cells-number.result refl (omega arith) c.index-cells-number.is in
    let same = same_Some c.index-cells-number.result a (sym is ∙ at) in
    subst (λ (k : Cell). c.is_wished.result ≡ has_wish (g.P.Policy.wish c.args.gate.now.policy) r k.clock.entity) same
    (c.is_wished.ensures.run s words steps r (subst (HasCell s words r.state) (sym same) has) (subst (HasWish steps r) (sym same) wish))
