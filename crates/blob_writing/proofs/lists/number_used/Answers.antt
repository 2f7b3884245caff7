use Rattle.std.proofs.Common.{◌∙◌, List, [], ◌∷◌, length, take, sym, ap, arith, length-append}
use Rattle.blob_grammar.specs.Spelling.{Slot, used_slots}
use Rattle.blob_facts.proofs.Used.{used_none, used_some}
use Rattle.blob_writing.proofs.lists.number_used.Goals as goal
use Rattle.blob_writing.proofs.lists.number_used.Goals.{in-Some, in-None}

pub loop-held-preserved : goal.loop-held-preserved
loop-held-preserved c =
    let i = c.loop-held.held-index in
    elim c.match-held.branch [
      | in-Some w ↦
          let more = used_some i c.args.caps.now c.held-item.result w.in-Some.field-0 c.loop-held-test.true (sym c.held-item.is ∙ w.in-Some.is) in
          let counted = ap (λ (l : List Slot). length l) more ∙ length-append (used_slots 0 (take i c.args.caps.now)) (record { slot = i; cap = w.in-Some.field-0 } ∷ []) in
          record { number = omega (arith, counted, w.used-is, c.loop-held.invariant.number); few = omega (arith, w.used-is, c.loop-held.invariant.few) }
      | in-None w ↦
          let same = ap (λ (l : List Slot). length l) (used_none i c.args.caps.now c.held-item.result c.loop-held-test.true (sym c.held-item.is ∙ w.in-None.is)) in
          record { number = omega (arith, same, w.used-is, c.loop-held.invariant.number); few = omega (arith, w.used-is, c.loop-held.invariant.few) }
    ]
