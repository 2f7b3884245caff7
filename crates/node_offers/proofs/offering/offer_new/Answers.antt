use Rattle.std.proofs.Common.{◌≡◌, ◌<◌, ℕ, List, length-set, ap, sym, subst, ◌∙◌, arith}
use Rattle.std.specs.Prelude.{slice_index}
use Rattle.node_newest.specs.kernel_core.kernel_book_laws.Matching.{newest_of}
use Rattle.node_newest.specs.kernel_core.kernel_commit_facts.Parts.{Noted}
use Rattle.node_newest.specs.kernel_core.kernel_core_facts.cell_states.declared.cells.Cell.{Cell}
use Rattle.node_offers.proofs.Known.{known_below, unknown_past}
use Rattle.node_offers.proofs.Lent.{lent_then}
use Rattle.node_offers.proofs.Offers.{more_then, new_all, new_front, newer_below, next_one}
use Rattle.node_offers.proofs.offering.offer_new.Goals as goal
use Rattle.node_offers.specs.Offering.{OffersNewest}
use Rattle.node_world.specs.Worlds.{Sending}

pub returns-in-Err-clause-lent : goal.returns-in-Err-clause-lent
returns-in-Err-clause-lent g c = lent_then g.D.Disk c.args.kernel.now c.loop-number.kernel c.offer_one.new.kernel c.loop-number.invariant.lent c.offer_one.ensures.lent

pub returns-in-Err-clause-offers : goal.returns-in-Err-clause-offers
returns-in-Err-clause-offers g c = λ told b before lives found.
    let es = c.args.kernel.now.parts.noted.entries in
    let known = slice_index c.args.known.now in
    let high = c.loop-number-test.true in
    new_front b es known before c.loop-number.number c.args.sender.now c.offer_one.new.sender c.loop-number.known c.in-Err.fault (omega (arith, high)) found
    (subst (λ (s : Sending _). OffersNewest b es (newer_below b es known c.loop-number.number) c.args.sender.now s) (sym c.in-Err.ensures.err) (c.loop-number.invariant.told told b lives))

pub loop-number-preserved : goal.loop-number-preserved
loop-number-preserved g c =
    let d = g.D.Disk in
    let i = c.loop-number.invariant in
    let n = c.loop-number.number in
    let high : n < 64 = (let lt = c.loop-number-test.true in omega (arith, lt)) in
    let same = ap (λ (x : Noted). x.entries) i.lent.notes in
    record {
      going = c.in-Ok.ensures.stop;
      long = length-set c.loop-number.known n c.in-Ok.version ∙ i.long;
      lent = lent_then d c.args.kernel.now c.loop-number.kernel c.offer_one.new.kernel i.lent c.offer_one.ensures.lent;
      more = more_then c.args.sender.now c.loop-number.sender c.offer_one.new.sender i.more c.offer_one.ensures.more;
      few = λ few. c.offer_one.ensures.few (i.few few);
      told = λ told b lives.
          next_one b c.args.kernel.now.parts.noted.entries (slice_index c.args.known.now) n (slice_index c.loop-number.known n) c.loop-number.kernel.parts.noted.entries c.args.sender.now c.loop-number.sender c.offer_one.new.sender
          same (i.unknown n (omega arith)) (i.told told b lives) (c.in-Ok.ensures.told told b (i.lent.lives told b lives));
      known = known_below c.loop-number.known (newest_of c.args.kernel.now.parts.cells) n c.in-Ok.version i.long high (c.in-Ok.ensures.known ∙ ap (λ (cs : List Cell). newest_of cs n) i.lent.cells) i.known;
      unknown = unknown_past c.loop-number.known (newest_of c.args.kernel.now.parts.cells) n c.in-Ok.version i.long high (slice_index c.args.known.now) i.unknown;
    }

pub returns-clause-offers : goal.returns-clause-offers
returns-clause-offers g c = λ told b before lives found.
    let es = c.args.kernel.now.parts.noted.entries in
    let known = slice_index c.args.known.now in
    let i = c.loop-number.invariant in
    let end : c.loop-number.number ≡ 64 = (let past = c.loop-number-test.false in let le = c.loop-number.auto.number-end in omega (arith, past, le)) in
    new_all b es known before c.args.sender.now c.loop-number.sender c.loop-number.known found
    (subst (λ (n : ℕ). OffersNewest b es (newer_below b es known n) c.args.sender.now c.loop-number.sender) end (i.told told b lives))
    (λ x low. i.known x (omega (arith, low, end)) ∙ c.shown_commits_law.ensures.cells b c.args.kernel.now x lives low)
