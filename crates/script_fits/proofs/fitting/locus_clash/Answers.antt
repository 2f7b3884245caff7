use Rattle.std.proofs.Common.{◌≡◌, true, false, is_some, map, string_bytes, sym, ap, ◌∙◌, arith}
use Rattle.script_types.specs.model_kernel.Scripts.{container_named}
use Rattle.act_atlas_laws.specs.act_calls.Calls.{atlas_state}
use Rattle.script_types.specs.Scripts.{locus_of}
use Rattle.model_births.specs.Misfits.{locus_clash}
use Rattle.model_births.proofs.Clashing.{locus_here, locus_passed}
use Rattle.std.proofs.lemmas.List.{drop_all}
use Rattle.script_fits.proofs.fitting.locus_clash.Goals as goal

pub returns-then-is_container : goal.returns-then-is_container
returns-then-is_container c =
    let a = atlas_state c.args.atlas.now in
    let t = c.index-tables-i.result in
    let text : c.as_str-name.result.now ≡ string_bytes t.name = c.as_str-name.ensures.value in
    let is : is_some (container_named a (string_bytes t.name)) ≡ true = ap (λ x. is_some (container_named a x)) (sym text) ∙ sym c.is_container.ensures ∙ c.if-is_container.true in
    sym (sym c.loop-i.invariant ∙ locus_here a c.args.tables.now c.loop-i.i c.loop-i.i t (omega (arith, c.loop-i-test.true)) c.index-tables-i.is is)

pub loop-i-preserved : goal.loop-i-preserved
loop-i-preserved c =
    let a = atlas_state c.args.atlas.now in
    let t = c.index-tables-i.result in
    let text : c.as_str-name.result.now ≡ string_bytes t.name = c.as_str-name.ensures.value in
    let is : is_some (container_named a (string_bytes t.name)) ≡ false = ap (λ x. is_some (container_named a x)) (sym text) ∙ sym c.is_container.ensures ∙ c.if-is_container.false in
    sym (locus_passed a c.args.tables.now c.loop-i.i c.loop-i.i t (omega (arith, c.loop-i-test.true)) c.index-tables-i.is is) ∙ c.loop-i.invariant

pub returns : goal.returns
returns c = sym (sym c.loop-i.invariant ∙ ap (λ ts. locus_clash (atlas_state c.args.atlas.now) (map locus_of ts) c.loop-i.i) (drop_all c.loop-i.i c.args.tables.now (omega (arith, c.loop-i-test.false))))
