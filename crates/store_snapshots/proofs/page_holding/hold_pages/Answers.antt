use Rattle.std.proofs.Common.{◌<◌, ◌≤◌, ℕ, List, false, length, refl, subst, sym, arith}
use Rattle.std.specs.Prelude.{All}
use Rattle.std.specs.List.{list_any}
use Rattle.std.proofs.lemmas.List.{take_all}
use Rattle.store_facts.specs.Holds.{HasHeld, names_page}
use Rattle.store_facts.specs.Naming.{IsPlace, is_use}
use Rattle.store_facts.specs.Shelves.{nothing_logged}
use Rattle.store_facts.proofs.Holds.{held_more, held_none, marked_still, places_still}
use Rattle.store_snapshots.proofs.page_holding.hold_pages.Goals as goal

pub loop-i-init : goal.loop-i-init
loop-i-init c = held_none (λ n. false) c.args.ledger.now (λ n. refl)

pub hold_all-requires-clause-marked : goal.hold_all-requires-clause-marked
hold_all-requires-clause-marked c = marked_still _ c.args.ledger.now c.loop-i.ledger c.loop-i.invariant c.requires.marked

pub hold_all-requires-clause-places : goal.hold_all-requires-clause-places
hold_all-requires-clause-places c =
    let within : c.loop-i.i < length c.args.kept.now = (let lt = c.loop-i-test.true in let len = c.len-i-end.ensures.len in omega (arith, lt, len)) in
    places_still _ c.args.ledger.now c.loop-i.ledger c.table-table.result.0 c.loop-i.invariant
    (subst (All (IsPlace c.args.ledger.now.first c.args.ledger.now.end)) (sym c.table-table.ensures) (c.requires.placed c.loop-i.i nothing_logged within).table)

pub loop-i-preserved : goal.loop-i-preserved
loop-i-preserved c =
    let within : c.loop-i.i < length c.args.kept.now = (let lt = c.loop-i-test.true in let len = c.len-i-end.ensures.len in omega (arith, lt, len)) in
    held_more names_page c.args.kept.now c.loop-i.i nothing_logged c.args.ledger.now c.loop-i.ledger c.hold_all.new.ledger within c.loop-i.invariant
    (subst (λ (bs : List ℕ). HasHeld (λ n. list_any (is_use n) bs) c.loop-i.ledger c.hold_all.new.ledger) c.table-table.ensures c.hold_all.ensures)

pub returns : goal.returns
returns c =
    let past : length c.args.kept.now ≤ c.loop-i.i = (let test = c.loop-i-test.false in let len = c.len-i-end.ensures.len in omega (arith, test, len)) in
    subst (λ ls. HasHeld (λ n. list_any (names_page n) ls) c.args.ledger.now c.loop-i.ledger) (take_all c.loop-i.i c.args.kept.now past) c.loop-i.invariant
