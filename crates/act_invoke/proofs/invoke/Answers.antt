use Rattle.std.proofs.Common.{◌≤◌, ◌<◌, length, refl, ap, ◌∙◌}
use Rattle.base_types.specs.declared.instructions.Reply.TheVariants.{NoEntry, ListFull}
use Rattle.act_alone.specs.model_kernel.Outcomes.{enter}
use Rattle.act_alone.specs.Loci.{locus_of, container_with}
use Rattle.act_invoke.specs.Entries.{is_invoke}
use Rattle.act_invoke.proofs.Entered.{within, invoke_none, invoke_full, invoke_enters, invoked_refused, invoked_entered}
use Rattle.act_invoke.proofs.invoke.Goals as goal

pub refuse-requires : goal.refuse-requires
refuse-requires c = within is_invoke (locus_of c.args.locus.now) c.args.target c.requires.ready c.requires.wants refl

pub refuse-requires-then-as_slice-ge-MOST_CALLS : goal.refuse-requires-then-as_slice-ge-MOST_CALLS
refuse-requires-then-as_slice-ge-MOST_CALLS c = within is_invoke (locus_of c.args.locus.now) c.args.target c.requires.ready c.requires.wants refl

pub returns-in_default : goal.returns-in_default
returns-in_default c me s a words =
    let l = locus_of c.args.locus.now in
    let h = container_with words c.args.head.now in
    invoked_refused l h _ NoEntry _ (invoke_none l c.args.target h c.requires.wants c.in_default.is) c.refuse.ensures.locus c.refuse.ensures.reply me s a

pub returns-then-as_slice-ge-MOST_CALLS : goal.returns-then-as_slice-ge-MOST_CALLS
returns-then-as_slice-ge-MOST_CALLS c me s a words =
    let l = locus_of c.args.locus.now in
    let h = container_with words c.args.head.now in
    let full : 64 ≤ length l.chain = rw c.as_slice.ensures.calls at c.if-as_slice-ge-MOST_CALLS.true in
    invoked_refused l h _ ListFull _ (invoke_full l c.args.target h c.in-Some.entry c.requires.wants c.in-Some.is full) c.refuse-then-as_slice-ge-MOST_CALLS.ensures.locus c.refuse-then-as_slice-ge-MOST_CALLS.ensures.reply me s a

pub returns : goal.returns
returns c me s a words =
    let l = locus_of c.args.locus.now in
    let h = container_with words c.args.head.now in
    let few : length l.chain < 64 = rw c.as_slice.ensures.calls at c.if-as_slice-ge-MOST_CALLS.false in
    invoked_entered l h _ _ (invoke_enters l c.args.target h c.in-Some.entry c.requires.wants c.in-Some.is few) (c.enter.ensures words ∙ ap (λ ch. enter l c.args.target h c.in-Some.entry ch) c.push.ensures) me s a
