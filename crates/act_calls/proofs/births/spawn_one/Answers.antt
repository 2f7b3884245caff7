use Rattle.std.proofs.Common.{ap, ◌∙◌}
use Rattle.base_types.specs.declared.entities.Kind.TheVariants.{Locus}
use Rattle.base_types.specs.declared.instructions.Reply.TheVariants.{Ok}
use Rattle.act_invoke.specs.model_kernel.Outcomes.{finish}
use Rattle.act_invoke.specs.act_alone.Loci.{locus_of}
use Rattle.act_calls.proofs.BirthLemmas.{birth_none, birth_some, spawn_refused, spawn_born}
use Rattle.act_calls.proofs.births.spawn_one.Goals as goal

pub returns-in_default : goal.returns-in_default
returns-in_default c =
    let l = locus_of c.args.locus.now in
    spawn_refused l _ c.args.atlas.now c.birth.new.self c.args.d c.args.p _ (birth_none c.args.atlas.now c.birth.new.self Locus c.birth.result c.birth.ensures.born c.in_default.not-Ok) c.reply_with.ensures.locus c.reply_with.ensures.reply

pub returns : goal.returns
returns c =
    let l = locus_of c.args.locus.now in
    spawn_born l _ c.args.atlas.now c.birth.new.self c.args.d c.args.p c.in-Ok.number _ _ (birth_some c.args.atlas.now c.birth.new.self Locus c.birth.result c.birth.ensures.born c.in-Ok.number c.in-Ok.is)
    c.spawned_from.ensures (c.reply_with-2.ensures.locus ∙ ap (λ k. finish k Ok) c.hold.ensures) c.reply_with-2.ensures.reply
