use Rattle.std.proofs.Common.{◌≡◌, ap, ◌∙◌}
use Rattle.base_types.specs.declared.entities.Kind.TheVariants.{Container}
use Rattle.base_types.specs.declared.instructions.Reply.TheVariants.{Ok}
use Rattle.act_invoke.specs.model_kernel.State.{ContainerState}
use Rattle.act_invoke.specs.model_kernel.Outcomes.{finish, made_container, code_for, supplied}
use Rattle.act_invoke.specs.model_kernel.Refusals.{reg}
use Rattle.act_invoke.specs.act_alone.Loci.{locus_of, container_with}
use Rattle.act_calls.proofs.BirthLemmas.{new_state, birth_none, birth_some, make_refused, make_born}
use Rattle.act_calls.proofs.births.make_one.Goals as goal

pub returns-in_default : goal.returns-in_default
returns-in_default c s =
    let l = locus_of c.args.locus.now in
    make_refused s l _ c.args.atlas.now c.birth.new.self c.args.d (reg l c.args.n) (reg l c.args.t) c.args.entry _ (birth_none c.args.atlas.now c.birth.new.self Container c.birth.result c.birth.ensures.born c.in_default.not-Ok)
    c.reply_with.ensures.locus c.reply_with.ensures.reply

pub returns : goal.returns
returns c s =
    let l = locus_of c.args.locus.now in
    let h = c.new_head.result in
    let tag : h.tag ≡ reg l c.args.t = ap (λ (k : ContainerState). k.tag) (c.new_head.ensures (λ _. 0)) ∙ c.register-tag.ensures in
    let parts = c.new_head.ensures (supplied s h.tag) in
    let cell : container_with (supplied s h.tag) h ≡ made_container s l (reg l c.args.n) (reg l c.args.t) c.args.entry =
    parts ∙ (λ i. new_state (supplied s (tag i)) (c.register-pages.ensures i) (c.register-tag.ensures i) c.args.entry (code_for l c.args.entry)) in
    make_born s l _ c.args.atlas.now c.birth.new.self c.args.d (reg l c.args.n) (reg l c.args.t) c.args.entry c.in-Ok.number _ _ (birth_some c.args.atlas.now c.birth.new.self Container c.birth.result c.birth.ensures.born c.in-Ok.number c.in-Ok.is)
    cell (c.reply_with-2.ensures.locus ∙ ap (λ k. finish k Ok) c.hold.ensures) c.reply_with-2.ensures.reply
