use Rattle.std.proofs.Common.{◌≡◌, true, false, is_some, map, string_bytes, sym, ap, ◌∙◌, arith}
use Rattle.plain_steps.specs.model_kernel.Scripts.{container_named}
use Rattle.plain_states.specs.Plains.{atlas_of}
use Rattle.script_types.specs.Scripts.{locus_of}
use Rattle.plain_steps.proofs.plain_facts_lemmas.NextNames.{drop_end}
use Rattle.plain_runs.proofs.fitting.locus_clash.Goals as goal
use Rattle.plain_steps.specs.model_births.Misfits.{locus_clash}
use Rattle.plain_steps.proofs.model_births_lemmas.Clashing.{locus_here, locus_passed}

pub returns-then-is_some : goal.returns-then-is_some
returns-then-is_some c =
    let a = atlas_of c.args.atlas.now in
    let t = c.index-tables-i.result in
    let text : c.as_str-name.result.now ≡ string_bytes t.name = c.as_str-name.ensures.value in
    let is : is_some (container_named a (string_bytes t.name)) ≡ true = ap (λ x. is_some (container_named a x)) (sym text) ∙ ap is_some (sym c.container_named.ensures) ∙ sym c.is_some.ensures ∙ c.if-is_some.true in
    sym (sym c.loop-i.invariant ∙ locus_here a c.args.tables.now c.loop-i.i c.loop-i.i t (omega (arith, c.loop-i-test.true)) c.index-tables-i.is is)

pub loop-i-preserved : goal.loop-i-preserved
loop-i-preserved c =
    let a = atlas_of c.args.atlas.now in
    let t = c.index-tables-i.result in
    let text : c.as_str-name.result.now ≡ string_bytes t.name = c.as_str-name.ensures.value in
    let is : is_some (container_named a (string_bytes t.name)) ≡ false = ap (λ x. is_some (container_named a x)) (sym text) ∙ ap is_some (sym c.container_named.ensures) ∙ sym c.is_some.ensures ∙ c.if-is_some.false in
    sym (locus_passed a c.args.tables.now c.loop-i.i c.loop-i.i t (omega (arith, c.loop-i-test.true)) c.index-tables-i.is is) ∙ c.loop-i.invariant

pub returns : goal.returns
returns c = sym (sym c.loop-i.invariant ∙ ap (λ ts. locus_clash (atlas_of c.args.atlas.now) (map locus_of ts) c.loop-i.i) (drop_end c.args.tables.now c.loop-i.i (omega (arith, c.loop-i-test.false))))
