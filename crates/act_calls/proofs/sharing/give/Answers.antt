use Rattle.std.proofs.Common.{sym, ap, ◌∙◌}
use Rattle.act_invoke.specs.act_alone.Loci.{locus_of, container_with}
use Rattle.act_invoke.proofs.Entered.{instr_is}
use Rattle.act_calls.specs.Calls.{is_give}
use Rattle.act_calls.proofs.CallLemmas.{give_shape, give_made, made_as}
use Rattle.act_calls.proofs.sharing.give.Goals as goal

pub unreachable-requires : goal.unreachable-requires
unreachable-requires c =
    let l = locus_of c.args.locus.now in
    give_shape c.args.instr (ap is_give c.requires.instr ∙ instr_is is_give l c.requires.wants.0 c.requires.wants.1) (λ d k r rights. c.in_default.not-Give d k r rights)

pub returns : goal.returns
returns c me s a words =
    let l = locus_of c.args.locus.now in
    let h = container_with words c.args.head.now in
    let i = c.in-Give in
    let is = sym c.requires.instr ∙ i.is in
    made_as _ _ _ _ _ (give_made l c.requires.wants.0 i.d i.field-1 i.s i.rights c.requires.wants.1 is me s a h) (c.give_to.ensures words)
