use Rattle.std.proofs.Common.{None, Some, refl, ap, ◌∙◌}
use Rattle.base_types.specs.declared.entities.Kind.TheVariants.{Atlas, Container, Locus}
use Rattle.model_kernel.specs.Acts.{alone, bearing, beside, beside_and_atlas}
use Rattle.plain_states.specs.Plains.{locus_of}
use Rattle.model_acts.specs.Views.{act_of}
use Rattle.plain_states.proofs.WantLemmas.{acting_as}
use Rattle.plain_states.proofs.model_act_facts_lemmas.WantLemmas.{allowed_by, bears_by, wants_alone, wants_beside, wants_birth, wants_mapping, wants_refusal}
use Rattle.plain_steps.proofs.steps.carry_out.Goals as goal

pub step_refused-requires : goal.step_refused-requires
step_refused-requires g c =
    let r = c.requires.1.1.1 in
    let act = act_of c.args.act in
    let n = c.args.locus in
    (r.0, (r.1.0, (act.instr, acting_as c.args.state.now.loci.items n c.args.place act (alone act.instr (Some c.in-Some.reply)) r.1.1.1 (λ w. wants_refusal n (locus_of r.1.1.1.locus) act c.in-Some.reply w c.in-Some.is))))

pub step_mapping-requires : goal.step_mapping-requires
step_mapping-requires g c =
    let r = c.requires.1.1.1 in
    let act = act_of c.args.act in
    let n = c.args.locus in (
      r.0,
      (
        r.1.0,
        (
          r.1.1.0,
          acting_as c.args.state.now.loci.items n c.args.place act (beside_and_atlas act.instr c.in-Some-other.other) r.1.1.1
              (λ w. wants_mapping n (locus_of r.1.1.1.locus) act c.in-Some-other.other w c.in_default.is c.in-Some-other.is c.if-act.true),
        ),
      ),
    )

pub step_beside-requires : goal.step_beside-requires
step_beside-requires g c κs within =
    let r = c.requires.1.1.1 in
    let act = act_of c.args.act in
    let n = c.args.locus in (
      λ a mem. within a mem,
      (
        c.requires.1.0,
        (
          c.requires.1.1.0,
          (
            r.0,
            (
              r.1.0,
              acting_as c.args.state.now.loci.items n c.args.place act (beside act.instr c.in-Some-other.other) r.1.1.1
                  (λ w. wants_beside n (locus_of r.1.1.1.locus) act c.in-Some-other.other w c.in_default.is c.in-Some-other.is c.if-act.false),
            ),
          ),
        ),
      ),
    )

pub step_local-requires : goal.step_local-requires
step_local-requires g c =
    let r = c.requires.1.1.1 in
    let act = act_of c.args.act in
    let n = c.args.locus in (
      r.0,
      (
        r.1.0,
        acting_as c.args.state.now.loci.items n c.args.place act (alone act.instr None) r.1.1.1
            (λ w. wants_alone n (locus_of r.1.1.1.locus) act w c.in_default.is c.in_default-other.is c.in_default-newborn.is),
      ),
    )

pub step_make-requires : goal.step_make-requires
step_make-requires g c =
    let r = c.requires.1.1.1 in
    let act = act_of c.args.act in
    let n = c.args.locus in (
      r.0,
      (
        r.1.0,
        acting_as c.args.state.now.loci.items n c.args.place act (bearing act.instr Container) r.1.1.1
            (λ w. wants_birth n (locus_of r.1.1.1.locus) act Container w c.in_default.is c.in_default-other.is (c.in-Some-newborn.is ∙ ap (λ k. Some k) c.in-Container.is)),
      ),
    )

pub step_spawn-requires : goal.step_spawn-requires
step_spawn-requires g c =
    let r = c.requires.1.1.1 in
    let act = act_of c.args.act in
    let n = c.args.locus in (
      r.0,
      (
        r.1.0,
        acting_as c.args.state.now.loci.items n c.args.place act (bearing act.instr Locus) r.1.1.1
            (λ w. wants_birth n (locus_of r.1.1.1.locus) act Locus w c.in_default.is c.in_default-other.is (c.in-Some-newborn.is ∙ ap (λ k. Some k) c.in-Locus.is)),
      ),
    )

-- the atlas is never born
pub unreachable-requires : goal.unreachable-requires
unreachable-requires g c =
    let r = c.requires.1.1.1 in
    let act = act_of c.args.act in
    let n = c.args.locus in
    let l = locus_of r.1.1.1.locus in
    let wants = wants_birth n l act Atlas r.1.1.1.wants c.in_default.is c.in_default-other.is (c.in-Some-newborn.is ∙ ap (λ k. Some k) c.in-Atlas.is) in
    let free = allowed_by n l (bearing act.instr Atlas) wants refl in
    bears_by n l act.instr Atlas free.is (λ d m t e is kind. cc) (λ d p is kind. cc)
