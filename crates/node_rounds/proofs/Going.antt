-- Rounds, one behind another.
use Rattle.std.proofs.Common.{◌≡◌, ℕ, ◌+◌, ◌≤◌, List, [], ◌∷◌, ◌++◌, Some, replicate, refl, sym, ap, subst, ◌∙◌, arith}
use Rattle.std.proofs.lemmas.List.{replicate-append-replicate}
use Rattle.base_types.specs.declared.histories.Entry.{Entry}
use Rattle.drawn_words.specs.Words.{Words}
use Rattle.node_draws.proofs.Courses.{order_round, rounds_append}
use Rattle.node_draws.specs.Courses.{Course, IsInOrder, rounds_of}
use Rattle.node_rounds.proofs.Heard.{heard_low, heard_offered, heard_twice, heard_up, packet_left}
use Rattle.node_rounds.specs.Going.{AllShip, AreInStep, GoesBy, course_in}
use Rattle.node_standby.specs.Standing.{Standing}
use Rattle.node_standby.specs.node_shipments.Parts.{Shipment}
use Rattle.node_standby.specs.node_shipments.kernel_invariant.Beginnings.{Beginning}
use Rattle.node_world.specs.Worlds.{Sending, after_heard, offered, packet_in}

pub goes_nowhere : {D : Type 0} (loss : ℕ) (ws : Words) (s : Sending Shipment) (st : Standing D) → GoesBy loss [] ws ws s s st st
goes_nowhere loss ws s st = record { course = refl; sender = sym (heard_low s s.acked (omega arith)) }

pub goes_then : {D : Type 0} (loss : ℕ) (ms ns : List ℕ) (ws vs us : Words) (s t u : Sending Shipment) (st tt' ut : Standing D)
    → GoesBy loss ms ws vs s t st tt' → GoesBy loss ns vs us t u tt' ut → GoesBy loss (ms ++ ns) ws us s u st ut
goes_then loss ms ns ws vs us s t u st tt' ut p q = record {
  course = q.course ∙ (ap (rounds_of loss ns) p.course ∙ sym (rounds_append loss ms ns _));
  sender = q.sender ∙ (ap (λ (v : Sending Shipment). after_heard v u.acked) p.sender ∙ heard_twice s t.acked u.acked up);
}
  where
    up : t.acked ≤ u.acked
    up = subst (λ (n : ℕ). t.acked ≤ n) (sym (ap (λ (v : Sending Shipment). v.acked) q.sender)) (heard_up t u.acked)

pub one_more : (n offers : ℕ) → replicate n offers ++ offers ∷ [] ≡ replicate (n + 1) offers
one_more n offers = replicate-append-replicate n 1 offers

-- what was offered goes on to ship the run
pub ships_left : (b : Beginning) (es : List Entry) (s t : Sending Shipment) → t ≡ after_heard s t.acked → AllShip b es s → AllShip b es t
ships_left b es s t same ship place x at = ship place x (packet_left s t.acked (place + 1) x (sym (ap (λ (v : Sending Shipment). packet_in v (place + 1)) same) ∙ at))

-- one round offers nothing
pub goes_same : {D : Type 0} (loss : ℕ) (ws ws' : Words) (s s' : Sending Shipment) (st st' : Standing D) → AreInStep s st → GoesBy loss (offered s ∷ []) ws ws' s s' st st' → offered s' ≡ offered s
goes_same loss ws ws' s s' st st' step goes =
    let order = subst (λ (c : Course). IsInOrder (offered s) c.tally) (sym goes.course) (order_round loss (offered s) (course_in ws s st) step.order).0 in
    let low = order.acked in
    let high = order.kept in
    ap (λ (t : Sending Shipment). offered t) goes.sender ∙ heard_offered s s'.acked (omega (arith, low, high))
