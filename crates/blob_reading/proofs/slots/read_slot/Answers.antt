use Rattle.std.proofs.Common.{[], sym, subst}
use Rattle.blob_facts.specs.Fields.{IsFound}
use Rattle.blob_facts.specs.Parts.{IsSlotIn, slot_with}
use Rattle.blob_reading.proofs.Exits.{hands_on}
use Rattle.blob_facts.proofs.SlotLists.{entity_refused, number_refused, rights_refused, slot_found}
use Rattle.blob_reading.proofs.slots.read_slot.Goals as goal

pub returns-in_err-slot-clause-refused : goal.returns-in_err-slot-clause-refused
returns-in_err-slot-clause-refused c =
    hands_on _ c.from_residual.result c.from_residual.ensures.1
    (number_refused c.args.least c.args.most c.args.bytes.now [] [] c.in_err-slot.field-0.0.rest.now 0 0 c.in_err-slot.ensures.refused)

pub returns-in_err-entity-clause-refused : goal.returns-in_err-entity-clause-refused
returns-in_err-entity-clause-refused c =
    hands_on _ c.from_residual-in_err-entity.result c.from_residual-in_err-entity.ensures.1
    (entity_refused c.args.least c.args.most c.args.bytes.now c.in_ok-slot.rest.now [] c.in_err-entity.field-0.0.rest.now c.in_ok-slot.slot 0 c.in_ok-slot.ensures.read c.in_err-entity.ensures.refused)

pub returns-in_err-rights-clause-refused : goal.returns-in_err-rights-clause-refused
returns-in_err-rights-clause-refused c =
    hands_on _ c.from_residual-in_err-rights.result c.from_residual-in_err-rights.ensures.1
    (rights_refused c.args.least c.args.most c.args.bytes.now c.in_ok-slot.rest.now c.in_ok-entity.rest.now c.in_err-rights.field-0.0.rest.now c.in_ok-slot.slot c.in_ok-entity.entity
    c.in_ok-slot.ensures.read c.in_ok-entity.ensures.read c.in_err-rights.ensures.refused)

pub returns-clause-read : goal.returns-clause-read
returns-clause-read c =
    subst (λ e. IsFound (IsSlotIn c.args.least c.args.most) c.args.bytes.now (slot_with c.in_ok-slot.slot e c.in_ok-rights.rights) c.in_ok-rights.rest.now) (sym c.of.ensures)
    (slot_found c.args.least c.args.most c.args.bytes.now c.in_ok-slot.rest.now c.in_ok-entity.rest.now c.in_ok-rights.rest.now c.in_ok-slot.slot c.in_ok-entity.entity c.in_ok-rights.rights
    c.in_ok-slot.ensures.read c.in_ok-entity.ensures.read c.in_ok-rights.ensures.read)
