use Rattle.std.proofs.Common.{◌≡◌, ◌<◌, true, Some, is_some, length, map, slice_get, option_map, refl, sym, ap, ◌∙◌, arith}
use Rattle.std.proofs.lemmas.Option.{slice_get_read, slice_get_within}
use Rattle.std.proofs.lemmas.Option.{slice_get-map}
use Rattle.script_types.specs.model_kernel.Scripts.{number_of}
use Rattle.script_types.specs.Scripts.{container_of}
use Rattle.act_atlas_laws.specs.act_calls.Calls.{atlas_state}
use Rattle.model_births.proofs.Ahead.{container_more}
use Rattle.script_fits.proofs.tables.next_container.Goals as goal

pub loop-i-preserved : goal.loop-i-preserved
loop-i-preserved c =
    let a = atlas_state c.args.atlas.now in
    let ts = c.args.tables.now in
    let t = c.index-tables-i.result in
    let i = c.loop-i.i in
    let at : slice_get (map container_of ts) i ≡ Some (container_of t) = slice_get-map container_of ts i ∙ ap (option_map container_of) (slice_get_read ts (length ts) i t refl c.loop-i-test.true c.index-tables-i.is) in
    let known : is_some (number_of a (container_of t).name) ≡ true = ap (λ n. is_some (number_of a n)) (sym c.deref.ensures) ∙ sym c.if-not-is_known.ensures in
    container_more a (map container_of ts) i (container_of t) c.loop-i.invariant at known

pub returns-clause-new : goal.returns-clause-new
returns-clause-new c t at =
    let within : length c.args.tables.now < length c.args.tables.now = slice_get_within c.args.tables.now (length c.args.tables.now) t at in
    absurd (omega (arith, within))
