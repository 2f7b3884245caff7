use Rattle.std.proofs.Common.{Some, slice_set, ap, ◌∙◌}
use Rattle.base_types.specs.declared.instructions.Reply.TheVariants.{Ok, NoSlot, ListFull}
use Rattle.act_invoke.specs.model_kernel.Outcomes.{finish, set_reg}
use Rattle.act_invoke.specs.model_kernel.Refusals.{reg}
use Rattle.act_invoke.specs.act_alone.Loci.{locus_of, container_with}
use Rattle.act_calls.proofs.CallLemmas.{at_none, at_some, put_none, put_some, take_none, take_full, take_put, other_made, on_err}
use Rattle.act_calls.proofs.sharing.take_from.Goals as goal

pub returns-in_default : goal.returns-in_default
returns-in_default c words =
    let l = locus_of c.args.locus.now in
    let h = container_with words c.args.head.now in
    let y = reg l c.args.y in
    other_made _ l _ NoSlot _ _ (take_none l h c.args.d y (at_none h.caps c.register.result y c.at.result c.register.ensures c.at.ensures.found c.in_default.not-Ok)) c.reply_with.ensures.locus c.reply_with.ensures.reply

pub returns-in_default-put : goal.returns-in_default-put
returns-in_default-put c words =
    let l = locus_of c.args.locus.now in
    let h = container_with words c.args.head.now in
    let y = reg l c.args.y in
    let cap = c.in-Ok.cap in
    other_made _ l _ ListFull _ _
    (take_full l h c.args.d y cap (at_some h.caps c.register.result y c.at.result c.register.ensures c.at.ensures.found cap c.in-Ok.is) (put_none l.caps c.put.new.self cap c.put.result c.put.ensures.put c.in_default-put.not-Ok))
    (c.reply_with-in_default-put.ensures.locus ∙ ap (λ caps. finish (record l { caps = caps }) ListFull) (on_err c.put.result c.in_default-put.not-Ok c.put.ensures.refused)) c.reply_with-in_default-put.ensures.reply

pub returns : goal.returns
returns c words =
    let l = locus_of c.args.locus.now in
    let h = container_with words c.args.head.now in
    let y = reg l c.args.y in
    let cap = c.in-Ok.cap in
    let slot = c.in-Ok-put.slot in
    let put = put_some l.caps c.put.new.self cap c.put.result c.put.ensures.put slot c.in-Ok-put.is in
    let after = record (set_reg l c.args.d slot) { caps = slice_set l.caps slot (Some cap) } in
    other_made _ after _ Ok _ _ (take_put l h c.args.d y cap slot (at_some h.caps c.register.result y c.at.result c.register.ensures c.at.ensures.found cap c.in-Ok.is) put.free)
    (c.reply_with-2.ensures.locus ∙ ap (λ caps. finish (record (set_reg l c.args.d slot) { caps = caps }) Ok) put.now) c.reply_with-2.ensures.reply
