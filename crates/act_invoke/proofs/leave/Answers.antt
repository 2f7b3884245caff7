use Rattle.std.proofs.Common.{refl}
use Rattle.base_types.specs.declared.instructions.Reply.TheVariants.{NoEntry}
use Rattle.act_alone.specs.Loci.{locus_of, container_with}
use Rattle.act_invoke.specs.Entries.{is_leave}
use Rattle.act_invoke.proofs.Entered.{within, leave_none, leave_enters, invoked_refused, invoked_entered}
use Rattle.act_invoke.proofs.leave.Goals as goal

pub refuse-requires : goal.refuse-requires
refuse-requires c = within is_leave (locus_of c.args.locus.now) c.args.target c.requires.ready c.requires.wants refl

pub returns-in_default : goal.returns-in_default
returns-in_default c me s a words =
    let l = locus_of c.args.locus.now in
    let h = container_with words c.args.head.now in
    invoked_refused l h _ NoEntry _ (leave_none l c.args.target h c.requires.wants c.in_default.is) c.refuse.ensures.locus c.refuse.ensures.reply me s a

pub returns : goal.returns
returns c me s a words =
    let l = locus_of c.args.locus.now in
    let h = container_with words c.args.head.now in
    invoked_entered l h _ _ (leave_enters l c.args.target h c.in-Some.place c.requires.wants c.in-Some.is) (c.enter.ensures words) me s a
