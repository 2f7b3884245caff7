use Rattle.std.proofs.Common.{◌≡◌, List, Option, Some, slice_set, bit_and, sym, ap, ◌∙◌}
use Rattle.base_types.specs.declared.capabilities.Cap.{Cap}
use Rattle.base_types.specs.declared.instructions.Reply.TheVariants.{Ok, ListFull}
use Rattle.act_invoke.specs.model_kernel.State.{ContainerCell}
use Rattle.act_invoke.specs.model_kernel.Outcomes.{with_other, set_reg, given_cap}
use Rattle.act_invoke.specs.model_kernel.Refusals.{entity_of, rights_of, rights_with}
use Rattle.act_invoke.specs.act_alone.Loci.{locus_of, container_with}
use Rattle.act_calls.proofs.CallLemmas.{put_none, put_some, give_full, give_put, other_made, on_err}
use Rattle.act_calls.proofs.sharing.give_to.Goals as goal

pub returns-in_default : goal.returns-in_default
returns-in_default c words =
    let l = locus_of c.args.locus.now in
    let h = container_with words c.args.head.now in
    let given = given_cap l c.args.s c.args.rights.0 in
    let cap : Cap = record { entity = c.named_entity.result; rights = rights_with (bit_and c.named_rights.result.0 c.args.rights.0) } in
    let caps = on_err c.put.result c.in_default.not-Ok c.put.ensures.refused in
    let same = give_full l h c.args.d given (put_none h.caps c.put.new.self cap c.put.result c.put.ensures.put c.in_default.not-Ok) in
    other_made _ l _ ListFull _ _ (same ∙ ap (λ (q : List (Option Cap)). with_other l ListFull (ContainerCell (record h { caps = q }))) (sym caps)) c.reply_with.ensures.locus c.reply_with.ensures.reply

pub returns : goal.returns
returns c words =
    let l = locus_of c.args.locus.now in
    let h = container_with words c.args.head.now in
    let given = given_cap l c.args.s c.args.rights.0 in
    let cap : Cap = record { entity = c.named_entity.result; rights = rights_with (bit_and c.named_rights.result.0 c.args.rights.0) } in
    let slot = c.in-Ok.slot in
    let entity = c.named_entity.ensures ∙ ap (λ v. entity_of v c.args.s) c.view-view.ensures in
    let rights = c.named_rights.ensures ∙ ap (λ v. rights_of v c.args.s) c.view-view.ensures in
    let is : cap ≡ given = λ i. record { entity = entity i; rights = rights_with (bit_and (rights i) c.args.rights.0) } in
    let put = put_some h.caps c.put.new.self cap c.put.result c.put.ensures.put slot c.in-Ok.is in
    let caps = put.now ∙ ap (λ (k : Cap). slice_set h.caps slot (Some k)) is in
    let after = set_reg l c.args.d slot in
    other_made _ after _ Ok _ _
    (give_put l h c.args.d given slot put.free ∙ ap (λ (q : List (Option Cap)). with_other after Ok (ContainerCell (record h { caps = q }))) (sym caps))
    c.reply_with-2.ensures.locus c.reply_with-2.ensures.reply
