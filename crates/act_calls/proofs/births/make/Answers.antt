use Rattle.std.proofs.Common.{◌≡◌, sym, ap, ◌∙◌}
use Rattle.base_types.specs.declared.instructions.Instr.TheVariants.{Make}
use Rattle.act_invoke.specs.model_kernel.Refusals.{instr_at, refusal}
use Rattle.act_invoke.specs.act_alone.Loci.{locus_of}
use Rattle.act_invoke.proofs.model_act_facts_lemmas.Alone.{place_within}
use Rattle.act_calls.specs.Calls.{is_make}
use Rattle.act_calls.proofs.BirthLemmas.{birth_instr, birth_allowed, make_shape, make_allowed, make_made, atlas_as}
use Rattle.act_calls.proofs.births.make.Goals as goal

pub make_one-requires-clause-some : goal.make_one-requires-clause-some
make_one-requires-clause-some c =
    let l = locus_of c.args.locus.now in
    let i = c.in-Make in
    let is = sym c.requires.instr ∙ i.is in
    (make_allowed l i.d i.n i.t i.entry (ap (refusal l) (sym is) ∙ birth_allowed is_make l c.requires.wants)).some

pub make_one-requires-clause-few : goal.make_one-requires-clause-few
make_one-requires-clause-few c =
    let l = locus_of c.args.locus.now in
    let i = c.in-Make in
    let is = sym c.requires.instr ∙ i.is in
    (make_allowed l i.d i.n i.t i.entry (ap (refusal l) (sym is) ∙ birth_allowed is_make l c.requires.wants)).few

pub make_one-requires-clause-free : goal.make_one-requires-clause-free
make_one-requires-clause-free c =
    let l = locus_of c.args.locus.now in
    let i = c.in-Make in
    let is = sym c.requires.instr ∙ i.is in
    (make_allowed l i.d i.n i.t i.entry (ap (refusal l) (sym is) ∙ birth_allowed is_make l c.requires.wants)).free

pub make_one-requires-clause-place : goal.make_one-requires-clause-place
make_one-requires-clause-place c =
    let l = locus_of c.args.locus.now in
    let i = c.in-Make in
    let is : instr_at l ≡ Make i.d i.n i.t i.entry = sym c.requires.instr ∙ i.is in
    place_within l c.requires.ready (λ halts. cc)

pub unreachable-requires : goal.unreachable-requires
unreachable-requires c =
    let l = locus_of c.args.locus.now in
    make_shape c.args.instr (ap is_make c.requires.instr ∙ birth_instr is_make l c.requires.wants) (λ d n t entry. c.in_default.not-Make d n t entry)

pub returns : goal.returns
returns c me s cell =
    let l = locus_of c.args.locus.now in
    let i = c.in-Make in
    let is = sym c.requires.instr ∙ i.is in
    atlas_as _ _ _ _ _ _ _ (make_made l i.d i.n i.t i.entry c.requires.wants is me s _ cell) (c.make_one.ensures s)
