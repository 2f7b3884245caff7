-- Rounds over a line, one behind another.
use Rattle.std.proofs.Common.{◌≡◌, ◌≤◌, ◌+◌, ◌*◌, ℕ, List, ◌++◌, replicate, sym, ap, subst, ◌∙◌, arith}
use Rattle.std.proofs.lemmas.List.{replicate-append-replicate}
use Rattle.edge_disk.specs.declared.disk.Disk.{Ghosts}
use Rattle.drawn_words.specs.Words.{words_of}
use Rattle.node_draws.proofs.Courses.{lossless, order_rounds}
use Rattle.node_draws.specs.Courses.{Course, IsInOrder, Tally, rounds_of}
use Rattle.node_mirror.specs.Leaving.{EndsBy}
use Rattle.node_mirror.specs.Lines.{Runs}
use Rattle.node_mirror.specs.declared.lines.Line.{Line}
use Rattle.node_rounds.proofs.Going.{goes_then}
use Rattle.node_rounds.proofs.Heard.{heard_offered, heard_twice, heard_up}
use Rattle.node_rounds.specs.Going.{AreInStep, GoesBy, StopsRounds, course_in}
use Rattle.node_rounds.specs.declared.rounds.RoundStop.{RoundStop}
use Rattle.node_rounds.proofs.node_standby_lemmas.Standing.{counts_then}
use Rattle.node_rounds.specs.node_standby.Standing.{KeepsCount, Standing}
use Rattle.node_rounds.specs.node_standby.node_shipments.Parts.{Shipment}
use Rattle.node_world.specs.Worlds.{Sending, after_heard, offered}

module _ {E : Type 0} where
  pub runs_then : (ms ns : List ℕ) (a b c : Line E) → b.loss ≡ a.loss → Runs ms a b → Runs ns b c → Runs (ms ++ ns) a c
  runs_then ms ns a b c same p q =
      goes_then a.loss ms ns (words_of a.words) (words_of b.words) (words_of c.words) a.sender b.sender c.sender a.standby b.standby c.standby p
      (subst (λ (n : ℕ). GoesBy n ns (words_of b.words) (words_of c.words) b.sender c.sender b.standby c.standby) same q)

  -- so many, and as many again as are offered
  pub runs_more : (n k offers : ℕ) (a b c : Line E) → b.loss ≡ a.loss → Runs (replicate (n * k) offers) a b → Runs (replicate k offers) b c → Runs (replicate ((n + 1) * k) offers) a c
  runs_more n k offers a b c same p q =
      let sum : n * k + k ≡ (n + 1) * k = omega arith in
      subst (λ (ns : List ℕ). Runs ns a c) (replicate-append-replicate (n * k) k offers ∙ ap (λ (j : ℕ). replicate j offers) sum) (runs_then (replicate (n * k) offers) (replicate k offers) a b c same p q)

  -- and the last thousand
  pub runs_last : (n k offers : ℕ) (a b c : Line E) → n ≡ 4 → b.loss ≡ a.loss → Runs (replicate (n * k) offers) a b → Runs (replicate 1000 offers) b c → Runs (replicate (4 * k + 1000) offers) a c
  runs_last n k offers a b c four same p q =
      subst (λ (m : ℕ). Runs (replicate (m * k + 1000) offers) a c) four
      (subst (λ (ns : List ℕ). Runs ns a c) (replicate-append-replicate (n * k) 1000 offers) (runs_then (replicate (n * k) offers) (replicate 1000 offers) a b c same p q))

  in_order : (n : ℕ) (a b : Line E) → AreInStep a.sender a.standby → Runs (replicate n (offered a.sender)) a b → IsInOrder (offered a.sender) (record { acked = b.sender.acked; kept = b.standby.count })
  in_order n a b step goes =
      subst (λ (c : Course). IsInOrder (offered a.sender) c.tally) (sym goes.course) (order_rounds a.loss (offered a.sender) n (course_in (words_of a.words) a.sender a.standby) step.order).0

  -- they offer nothing
  pub runs_offered : (n : ℕ) (a b : Line E) → AreInStep a.sender a.standby → Runs (replicate n (offered a.sender)) a b → offered b.sender ≡ offered a.sender
  runs_offered n a b step goes =
      let order = in_order n a b step goes in
      let low = order.acked in
      let high = order.kept in
      ap (λ (t : Sending Shipment). offered t) goes.sender ∙ heard_offered a.sender b.sender.acked (omega (arith, low, high))

  -- rounds that were broken off behind others
  pub stops_then : (disks : Ghosts E) (ms : List ℕ) (a b : Line E) (st : Standing E) (why : RoundStop) → Runs ms a b → KeepsCount disks a.standby b.standby → StopsRounds disks b.sender b.standby st why
      → StopsRounds disks a.sender a.standby st why
  stops_then disks ms a b st why goes counts s = record {
    sender = s.sender;
    was = s.was ∙ (ap (λ (t : Sending Shipment). after_heard t s.sender.acked) goes.sender ∙ heard_twice a.sender b.sender.acked s.sender.acked up);
    standing = s.standing;
    counts = counts_then disks a.standby b.standby s.standing counts s.counts;
    left = s.left;
    same = s.same;
    stops = s.stops;
  }
    where
      up : b.sender.acked ≤ s.sender.acked
      up = subst (λ (n : ℕ). b.sender.acked ≤ n) (sym (ap (λ (t : Sending Shipment). t.acked) s.was)) (heard_up b.sender s.sender.acked)

  -- THE LAST ROUNDS tell what the standby took
  pub ends_by : (a b : Line E) (many : ℕ) → AreInStep a.sender a.standby → Runs (replicate (4 * offered a.sender + 1000) (offered a.sender)) a b → many ≡ offered b.sender → EndsBy a many b.standby.count
  ends_by a b many step goes is =
      let same : many ≡ offered a.sender = is ∙ runs_offered (4 * offered a.sender + 1000) a b step goes in
      record {
        offered_is = same;
        kept_is = ap (λ (c : Course). c.tally.kept) goes.course ∙ ap (λ (n : ℕ). (rounds_of a.loss (replicate (4 * n + 1000) n) (course_in (words_of a.words) a.sender a.standby)).tally.kept) (sym same);
      }

  -- and where nothing is lost it took all
  pub all_kept : (a b : Line E) (many : ℕ) → a.loss ≡ 0 → AreInStep a.sender a.standby → Runs (replicate (4 * offered a.sender + 1000) (offered a.sender)) a b → many ≡ offered b.sender → b.standby.count ≡ many
  all_kept a b many none step goes is =
      let same : many ≡ offered a.sender = is ∙ runs_offered (4 * offered a.sender + 1000) a b step goes in
      let start = course_in (words_of a.words) a.sender a.standby in
      ap (λ (c : Course). c.tally.kept) (goes.course ∙ ap (λ (n : ℕ). rounds_of n (replicate (4 * offered a.sender + 1000) (offered a.sender)) start) none)
      ∙ (ap (λ (t : Tally). t.kept) (lossless (offered a.sender) (4 * offered a.sender + 1000) start step.order (omega arith)) ∙ sym same)
