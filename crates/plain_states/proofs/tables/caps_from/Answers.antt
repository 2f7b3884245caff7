use Rattle.std.proofs.Common.{◌≡◌, ◌-◌, string_bytes, ap, ◌∙◌, arith}
use Rattle.std.proofs.lemmas.List.{length-set}
use Rattle.model_kernel.specs.Births.{number_or_0}
use Rattle.model_kernel.specs.Scripts.{number_in}
use Rattle.script_types.specs.Scripts.{cap_of}
use Rattle.plain_states.specs.Plains.{atlas_of}
use Rattle.model_act_facts.proofs.TableLemmas.{caps_more}
use Rattle.plain_states.proofs.tables.caps_from.Goals as goal

pub loop-slot-preserved : goal.loop-slot-preserved
loop-slot-preserved c =
    let number = number_in (atlas_of c.args.atlas.now) c.args.own.now c.args.newborn in
    let more = caps_more number cap_of c.args.tables.now c.loop-slot.slot (c.loop-slot.slot - 1) c.index-tables-slot.result (omega arith) (omega arith) c.index-tables-slot.is in
    let entity : c.known_number-entity.result ≡ number_or_0 number (string_bytes c.index-tables-slot.result.entity) = c.known_number-entity.ensures ∙ ap (number_or_0 number) c.deref.ensures in
    record { slots = rw length-set c.loop-slot.invariant.slots; filled = cc (c.loop-slot.invariant.filled) }
