use Rattle.std.proofs.Common.{sym, ap, ◌∙◌}
use Rattle.act_invoke.specs.act_alone.Loci.{locus_of, container_with}
use Rattle.act_invoke.proofs.Entered.{instr_is}
use Rattle.act_calls.specs.Calls.{is_take}
use Rattle.act_calls.proofs.CallLemmas.{take_shape, take_made, made_as}
use Rattle.act_calls.proofs.sharing.take.Goals as goal

pub unreachable-requires : goal.unreachable-requires
unreachable-requires c =
    let l = locus_of c.args.locus.now in
    take_shape c.args.instr (ap is_take c.requires.instr ∙ instr_is is_take l c.requires.wants.0 c.requires.wants.1) (λ d k y. c.in_default.not-Take d k y)

pub returns : goal.returns
returns c me s a words =
    let l = locus_of c.args.locus.now in
    let h = container_with words c.args.head.now in
    let is = sym c.requires.instr ∙ c.in-Take.is in
    made_as _ _ _ _ _ (take_made l c.requires.wants.0 c.in-Take.d c.in-Take.field-1 c.in-Take.y c.requires.wants.1 is me s a h) (c.take_from.ensures words)
