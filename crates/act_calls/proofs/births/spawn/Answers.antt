use Rattle.std.proofs.Common.{◌≡◌, sym, ap, ◌∙◌}
use Rattle.base_types.specs.declared.instructions.Instr.TheVariants.{Spawn}
use Rattle.act_invoke.specs.model_kernel.Refusals.{instr_at, refusal}
use Rattle.act_invoke.specs.act_alone.Loci.{locus_of}
use Rattle.act_invoke.proofs.model_act_facts_lemmas.Alone.{place_within}
use Rattle.act_calls.specs.Calls.{is_spawn}
use Rattle.act_calls.proofs.BirthLemmas.{birth_instr, birth_allowed, spawn_shape, spawn_allowed, spawn_made, atlas_as}
use Rattle.act_calls.proofs.births.spawn.Goals as goal

pub spawn_one-requires-clause-free : goal.spawn_one-requires-clause-free
spawn_one-requires-clause-free c =
    let l = locus_of c.args.locus.now in
    let i = c.in-Spawn in
    let is = sym c.requires.instr ∙ i.is in
    spawn_allowed l i.d i.p (ap (refusal l) (sym is) ∙ birth_allowed is_spawn l c.requires.wants)

pub spawn_one-requires-clause-place : goal.spawn_one-requires-clause-place
spawn_one-requires-clause-place c =
    let l = locus_of c.args.locus.now in
    let i = c.in-Spawn in
    let is : instr_at l ≡ Spawn i.d i.p = sym c.requires.instr ∙ i.is in
    place_within l c.requires.ready (λ halts. cc)

pub unreachable-requires : goal.unreachable-requires
unreachable-requires c =
    let l = locus_of c.args.locus.now in
    spawn_shape c.args.instr (ap is_spawn c.requires.instr ∙ birth_instr is_spawn l c.requires.wants) (λ d p. c.in_default.not-Spawn d p)

pub returns : goal.returns
returns c me s cell =
    let l = locus_of c.args.locus.now in
    let i = c.in-Spawn in
    let is = sym c.requires.instr ∙ i.is in
    atlas_as _ _ _ _ _ _ _ (spawn_made l i.d i.p c.requires.wants is me s _ cell) c.spawn_one.ensures
