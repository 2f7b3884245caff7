use Rattle.std.proofs.Common.{◌≡◌, true, false, is_some, map, string_bytes, sym, ap, ◌∙◌, arith}
use Rattle.script_types.specs.model_kernel.Scripts.{locus_named}
use Rattle.act_atlas_laws.specs.act_calls.Calls.{atlas_state}
use Rattle.script_types.specs.Scripts.{container_of}
use Rattle.model_births.specs.Misfits.{container_clash}
use Rattle.model_births.proofs.Clashing.{container_here, container_passed}
use Rattle.std.proofs.lemmas.List.{drop_all}
use Rattle.script_fits.proofs.fitting.container_clash.Goals as goal

pub returns-then-is_locus : goal.returns-then-is_locus
returns-then-is_locus c =
    let a = atlas_state c.args.atlas.now in
    let t = c.index-tables-i.result in
    let text : c.as_str-name.result.now ≡ string_bytes t.name = c.as_str-name.ensures.value in
    let is : is_some (locus_named a (string_bytes t.name)) ≡ true = ap (λ x. is_some (locus_named a x)) (sym text) ∙ sym c.is_locus.ensures ∙ c.if-is_locus.true in
    sym (sym c.loop-i.invariant ∙ container_here a c.args.tables.now c.loop-i.i c.loop-i.i t (omega (arith, c.loop-i-test.true)) c.index-tables-i.is is)

pub loop-i-preserved : goal.loop-i-preserved
loop-i-preserved c =
    let a = atlas_state c.args.atlas.now in
    let t = c.index-tables-i.result in
    let text : c.as_str-name.result.now ≡ string_bytes t.name = c.as_str-name.ensures.value in
    let is : is_some (locus_named a (string_bytes t.name)) ≡ false = ap (λ x. is_some (locus_named a x)) (sym text) ∙ sym c.is_locus.ensures ∙ c.if-is_locus.false in
    sym (container_passed a c.args.tables.now c.loop-i.i c.loop-i.i t (omega (arith, c.loop-i-test.true)) c.index-tables-i.is is) ∙ c.loop-i.invariant

pub returns : goal.returns
returns c = sym (sym c.loop-i.invariant ∙ ap (λ ts. container_clash (atlas_state c.args.atlas.now) (map container_of ts) c.loop-i.i) (drop_all c.loop-i.i c.args.tables.now (omega (arith, c.loop-i-test.false))))
