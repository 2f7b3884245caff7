use Rattle.std.proofs.Common.{refl, sym, ap, ◌∙◌}
use Rattle.base_types.specs.declared.instructions.Condition.{Condition}
use Rattle.base_types.specs.declared.instructions.Reply.TheVariants.{Ok}
use Rattle.act_invoke.specs.model_kernel.State.{LocusCell}
use Rattle.act_invoke.specs.model_kernel.Outcomes.{with_other}
use Rattle.act_invoke.specs.act_alone.Loci.{locus_of}
use Rattle.act_invoke.proofs.Entered.{within}
use Rattle.act_calls.specs.Calls.{is_go}
use Rattle.act_calls.proofs.CallLemmas.{other_made}
use Rattle.act_calls.proofs.ControlLemmas.{goes_other}
use Rattle.act_calls.proofs.control.go.Goals as goal

pub reply_with-requires : goal.reply_with-requires
reply_with-requires c = within is_go (locus_of c.args.locus.now) c.requires.wants.0 c.requires.ready c.requires.wants.1 refl

pub returns : goal.returns
returns c me x at apart s a =
    let l = locus_of c.args.locus.now in
    let m = locus_of c.args.other.now in
    let same = goes_other l c.requires.wants.0 x me c.requires.wants.1 at apart s a m ∙ ap (λ (k : Condition). with_other l Ok (LocusCell (record m { condition = k }))) (sym c.going_from-other.ensures) in
    other_made _ l _ Ok _ _ same c.reply_with.ensures.locus c.reply_with.ensures.reply
