use Rattle.std.proofs.Common.{◌≡◌, sym, ap, ◌∙◌, subst, slice_get, slice_set, get_or, Some, arith}
use Rattle.std.proofs.lemmas.Option.{slice_get-get_or}
use Rattle.table_laws.specs.Steps.{StepsQuietly}
use Rattle.table_laws.proofs.Facing.{plan_of}
use Rattle.table_laws.proofs.Pairs.{alone_quiet}
use Rattle.table_laws.specs.cell_plans.declared.plans.Reach.TheVariants as reach
use Rattle.table_steps.proofs.besides.go_alone.Goals as goal

pub advance_alone-requires : goal.advance_alone-requires
advance_alone-requires c =
    let cs = c.args.cells.now in
    let a = get_or cs c.number.result c.index-cells-number.result in
    let is : slice_get cs c.args.me ≡ Some (get_or cs c.number.result c.index-cells-number.result) =
    ap (slice_get cs) (sym c.number.ensures.number) ∙ slice_get-get_or cs c.number.result c.index-cells-number.result (omega arith) in
    record { planned = plan_of c.requires.order.held cs c.requires.order.orderly c.args.me c.args.act.instr (reach.Alone c.args.act) c.requires.planned a is; few = c.requires.few c.args.me a is }

pub returns : goal.returns
returns c =
    let cs = c.args.cells.now in
    let a = get_or cs c.number.result c.index-cells-number.result in
    let is : slice_get cs c.args.me ≡ Some (get_or cs c.number.result c.index-cells-number.result) =
    ap (slice_get cs) (sym c.number.ensures.number) ∙ slice_get-get_or cs c.number.result c.index-cells-number.result (omega arith) in
    subst (λ n. StepsQuietly c.args.me cs (slice_set cs n c.advance_alone.new.locus) c.advance_alone.result) (sym c.number.ensures.number)
    (alone_quiet c.requires.order.held cs c.requires.order.orderly c.args.me c.args.act.instr c.args.act c.requires.planned a c.advance_alone.new.locus c.advance_alone.result is c.advance_alone.ensures.step c.advance_alone.ensures.entity)
