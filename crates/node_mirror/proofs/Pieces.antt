-- A line behind one look more.
use Rattle.std.proofs.Common.{◌≡◌, ℕ, Bool, true, false, nat_lt, if◌then◌else◌, List, [], ◌∷◌, ◌++◌, length, Ok, refl, sym, ap, ◌∙◌, arith}
use Rattle.std.specs.Prelude.{slice_get}
use Rattle.base_types.specs.declared.histories.Entry.{Entry}
use Rattle.drawn_words.specs.Words.{Words, words_of}
use Rattle.kernel_run_facts.specs.Watching.{IsNext}
use Rattle.node_looks.specs.kernel_watchers.Steps.{steps_at}
use Rattle.node_draws.proofs.Courses.{rounds_append}
use Rattle.node_draws.specs.Courses.{Course, rounds_of}
use Rattle.node_looks.proofs.Looks.{next_piece}
use Rattle.node_looks.specs.Looks.{commits_behind}
use Rattle.node_mirror.specs.Lines.{Runs}
use Rattle.node_mirror.specs.Mirrors.{Mirrors, at_start}
use Rattle.node_mirror.specs.Shipping.{ShipsNew}
use Rattle.node_mirror.specs.declared.lines.Line.{Line}
use Rattle.node_offers.specs.Offering.{OffersMore}
use Rattle.node_pages.specs.declared.faults.ShipFault.{ShipFault}
use Rattle.node_rounds.proofs.Going.{goes_same, ships_left}
use Rattle.node_rounds.proofs.Heard.{heard_offered}
use Rattle.node_rounds.specs.Going.{AreInStep, GoesBy, course_in}
use Rattle.node_rounds.specs.node_standby.Standing.{Standing}
use Rattle.node_rounds.specs.node_standby.node_shipments.Parts.{Shipment}
use Rattle.node_rounds.specs.node_standby.node_shipments.kernel_invariant.Beginnings.{Beginning, completed}
use Rattle.node_world.specs.Worlds.{Sending, offered}

-- a round or none offers nothing
same_offered : {E : Type 0} (loss : ℕ) (ws ws' : Words) (s s' : Sending Shipment) (st st' : Standing E) (due : Bool) → AreInStep s st
    → GoesBy loss (if due then offered s ∷ [] else []) ws ws' s s' st st' → offered s' ≡ offered s
same_offered loss ws ws' s s' st st' true step goes = goes_same loss ws ws' s s' st st' step goes
same_offered loss ws ws' s s' st st' false step goes =
    let e : s'.acked ≡ s.acked = ap (λ (c : Course). c.tally.acked) goes.course in
    let low = step.order.acked in
    let high = step.order.kept in
    ap (λ (t : Sending Shipment). offered t) goes.sender ∙ heard_offered s s'.acked (omega (arith, e, low, high))

-- how far the two are behind offers is how far they were
same_course : {E : Type 0} (ws : Words) (s s' : Sending Shipment) (st : Standing E) → OffersMore s s' → course_in ws s' st ≡ course_in ws s st
same_course ws s s' st more = (let e : s'.acked ≡ s.acked = ap (λ (t : Sending Shipment). t.acked) more.are in λ i. record { tally = record { acked = e i; kept = st.count }; words = ws })

module _ {E : Type 0} (words : Words) (b : Beginning) (es new : List Entry) (known known' : List ℕ) (noted : ℕ) (old mid line : Line E) (due : Bool) where
  -- how many are offered before the round behind the piece, if there is one
  due_now : noted ≡ length es → due ≡ nat_lt 0 (steps_at (slice_get new noted)) → offered mid.sender ≡ length (completed b new)
      → (if due then offered mid.sender ∷ [] else []) ≡ (if nat_lt 0 (steps_at (slice_get new (length es))) then length (completed b new) ∷ [] else [])
  due_now entries is all =
      ap (λ (t : Bool). if t then offered mid.sender ∷ [] else []) (is ∙ ap (λ (n : ℕ). nat_lt 0 (steps_at (slice_get new n))) entries)
      ∙ ap (λ (n : ℕ). if nat_lt 0 (steps_at (slice_get new (length es))) then n ∷ [] else []) all

  module _ (m : Mirrors words b es known noted old) (next : IsNext b es new) (ships : ShipsNew {E = ShipFault} b new known' mid.sender (Ok tt)) (more : OffersMore old.sender mid.sender)
      (st_same : mid.standby ≡ old.standby) (words_same : words_of mid.words ≡ words_of old.words) (loss_same : mid.loss ≡ old.loss) (step : AreInStep mid.sender mid.standby)
      (is : due ≡ nat_lt 0 (steps_at (slice_get new noted))) (goes : Runs (if due then offered mid.sender ∷ [] else []) mid line) (loss : line.loss ≡ mid.loss) where
    before : course_in (words_of mid.words) mid.sender mid.standby ≡ rounds_of old.loss (commits_behind b es) (at_start words)
    before =
        ap (λ (ws : Words). course_in ws mid.sender mid.standby) words_same ∙ (ap (λ (st : Standing E). course_in (words_of old.words) mid.sender st) st_same
        ∙ (same_course (words_of old.words) old.sender mid.sender old.standby more ∙ m.course))

    behind : commits_behind b es ++ (if due then offered mid.sender ∷ [] else []) ≡ commits_behind b new
    behind = ap (λ (ns : List ℕ). commits_behind b es ++ ns) (due_now m.entries is ships.all) ∙ sym (next_piece b es new next)

    same_loss : line.loss ≡ old.loss
    same_loss = loss ∙ loss_same

    -- ALL GOES ON behind the piece
    pub mirrored : Mirrors words b new known' (length new) line
    mirrored = record {
      entries = refl;
      knows = ships.knows;
      ships = ships_left b new mid.sender line.sender goes.sender ships.ships;
      all = same_offered mid.loss (words_of mid.words) (words_of line.words) mid.sender line.sender mid.standby line.standby due step goes ∙ ships.all;
      course =
          goes.course ∙ (ap (rounds_of mid.loss (if due then offered mid.sender ∷ [] else [])) before
          ∙ (ap (λ (n : ℕ). rounds_of n (if due then offered mid.sender ∷ [] else []) (rounds_of old.loss (commits_behind b es) (at_start words))) loss_same
          ∙ (sym (rounds_append old.loss (commits_behind b es) (if due then offered mid.sender ∷ [] else []) (at_start words))
          ∙ (ap (λ (ns : List ℕ). rounds_of old.loss ns (at_start words)) behind
          ∙ ap (λ (n : ℕ). rounds_of n (commits_behind b new) (at_start words)) (sym same_loss)))));
    }
