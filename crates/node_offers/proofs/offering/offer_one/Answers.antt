use Rattle.std.proofs.Common.{◌≡◌, ℕ, List, refl, ap, subst, ◌∙◌, arith}
use Rattle.node_newest.specs.kernel_core.kernel_book_laws.Matching.{newest_of}
use Rattle.node_newest.specs.kernel_core.kernel_core_facts.cell_states.declared.cells.Cell.{Cell}
use Rattle.model_new_commits.specs.model_run_rules.Newest.{newest_in}
use Rattle.node_offers.proofs.Offers.{known_none, newer_same}
use Rattle.node_offers.proofs.offering.offer_one.Goals as goal
use Rattle.node_offers.specs.Offering.{OffersNewest, if_newer}
use Rattle.node_newest.specs.node_shipments.kernel_invariant.Beginnings.{completed}

pub returns-in_ok-offer_newest-clause-told : goal.returns-in_ok-offer_newest-clause-told
returns-in_ok-offer_newest-clause-told g c = λ told b lives.
    let k = c.args.kernel.now in
    let es = k.parts.noted.entries in
    let n = c.args.number in
    let cells = c.cells.ensures in
    let same : c.newest_version-version.result ≡ newest_in (completed b es) n =
    c.newest_version-version.ensures ∙ (ap (λ (cs : List Cell). newest_of cs n) cells ∙ c.shown_commits_law.ensures.cells b k n lives c.requires.low) in
    let lt = c.if-known-version.true in
    subst (λ (xs : List ℕ). OffersNewest b es xs c.args.sender.now c.offer_newest.new.sender) (newer_same b es n c.args.known c.newest_version-version.result same (omega (arith, lt)))
    (subst (λ (x : ℕ). OffersNewest b es (if_newer b es 0 x) c.args.sender.now c.offer_newest.new.sender) c.of.ensures (c.in_ok-offer_newest.ensures.told told b lives))

pub returns-else-known-version-clause-told : goal.returns-else-known-version-clause-told
returns-else-known-version-clause-told g c = λ told b lives.
    let k = c.args.kernel.now in
    let n = c.args.number in
    let cells = c.cells.ensures in
    let same : c.newest_version-version.result ≡ newest_in (completed b k.parts.noted.entries) n =
    c.newest_version-version.ensures ∙ (ap (λ (cs : List Cell). newest_of cs n) cells ∙ c.shown_commits_law.ensures.cells b k n lives c.requires.low) in
    let past = c.if-known-version.false in
    known_none b k.parts.noted.entries n c.args.known c.newest_version-version.result c.args.sender.now c.args.sender.now same (omega (arith, past)) refl
