use Rattle.std.proofs.Common.{refl}
use Rattle.base_types.specs.declared.instructions.Condition.TheVariants.{Stopped}
use Rattle.base_types.specs.declared.instructions.Reply.TheVariants.{Ok}
use Rattle.act_invoke.specs.act_alone.Loci.{locus_of}
use Rattle.act_invoke.proofs.Entered.{within}
use Rattle.act_calls.specs.Calls.{is_stop}
use Rattle.act_calls.proofs.CallLemmas.{own_made}
use Rattle.act_calls.proofs.ControlLemmas.{stops_self}
use Rattle.act_calls.proofs.control.stop_itself.Goals as goal

pub reply_with-requires : goal.reply_with-requires
reply_with-requires c = within is_stop (locus_of c.args.locus.now) c.requires.wants.0 c.requires.ready c.requires.wants.1 refl

pub returns : goal.returns
returns c me at s a cell =
    let l = locus_of c.args.locus.now in
    own_made _ (record l { condition = Stopped }) _ Ok _ (stops_self l c.requires.wants.0 me c.requires.wants.1 at s a cell) c.reply_with.ensures.locus c.reply_with.ensures.reply
