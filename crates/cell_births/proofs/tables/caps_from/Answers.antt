use Rattle.std.proofs.Common.{◌≡◌, ◌-◌, string_bytes, ap, ◌∙◌, arith}
use Rattle.script_types.specs.model_kernel.Births.{number_or_0}
use Rattle.script_types.specs.model_kernel.Scripts.{number_in}
use Rattle.script_types.specs.Scripts.{cap_of}
use Rattle.script_fits.specs.act_calls.Calls.{atlas_state}
use Rattle.cell_births.proofs.TableLists.{caps_more}
use Rattle.cell_births.proofs.tables.caps_from.Goals as goal

pub loop-slot-preserved : goal.loop-slot-preserved
loop-slot-preserved c =
    let number = number_in (atlas_state c.args.atlas.now) c.args.own.now c.args.newborn in
    let more = caps_more number cap_of c.args.tables.now c.loop-slot.slot (c.loop-slot.slot - 1) c.index-tables-slot.result (omega arith) (omega arith) c.index-tables-slot.is in
    let entity : c.known_number-entity.result ≡ number_or_0 number (string_bytes c.index-tables-slot.result.entity) = c.known_number-entity.ensures ∙ ap (number_or_0 number) c.deref.ensures in
    cc (c.loop-slot.invariant, c.set.ensures.set)
