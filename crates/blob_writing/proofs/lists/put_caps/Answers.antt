use Rattle.std.proofs.Common.{◌∙◌, ◌++◌, List, ◌∷◌, length, sym, ap, arith}
use Rattle.std.specs.List.{flat_map}
use Rattle.blob_grammar.specs.Spelling.{Slot, slot_bytes, used_slots}
use Rattle.blob_grammar.proofs.Lengths.{caps_most}
use Rattle.blob_facts.proofs.Used.{caps_written, slot_fits, slot_written, used_none}
use Rattle.blob_writing.proofs.lists.put_caps.Goals as goal
use Rattle.blob_writing.proofs.lists.put_caps.Goals.{in-Some, in-None}

pub put_slot-requires : goal.put_slot-requires
put_slot-requires c =
    let few = caps_most c.slots-caps.result.now c.args.list.now c.slots-caps.ensures.all c.slots-caps.ensures.slots in
    slot_fits c.loop-slot.slot c.slots-caps.result.now c.index-caps-slot.result c.in-Some.cap c.args.blob.now c.loop-slot.blob
    c.loop-slot-test.true (sym c.index-caps-slot.is ∙ c.in-Some.is) (omega (arith, few, c.requires)) c.loop-slot.invariant

pub loop-slot-preserved : goal.loop-slot-preserved
loop-slot-preserved c =
    elim c.match-held.branch [
      | in-Some w ↦ w.blob-is ∙ slot_written c.loop-slot.slot c.slots-caps.result.now c.index-caps-slot.result w.in-Some.cap c.args.blob.now c.loop-slot.blob w.put_slot.new.blob
          c.loop-slot-test.true (sym c.index-caps-slot.is ∙ w.in-Some.is) c.loop-slot.invariant w.put_slot.ensures
      | in-None w ↦ w.blob-is ∙ c.loop-slot.invariant ∙ ap (λ (l : List Slot). c.args.blob.now ++ length (used_slots 0 c.slots-caps.result.now) ∷ flat_map slot_bytes l)
          (sym (used_none c.loop-slot.slot c.slots-caps.result.now c.index-caps-slot.result c.loop-slot-test.true (sym c.index-caps-slot.is ∙ w.in-None.is)))
    ]

pub returns-clause-most : goal.returns-clause-most
returns-clause-most c =
    caps_written c.loop-slot.slot c.slots-caps.result.now c.args.blob.now c.loop-slot.blob c.loop-slot.invariant
    (caps_most c.slots-caps.result.now c.args.list.now c.slots-caps.ensures.all c.slots-caps.ensures.slots)
