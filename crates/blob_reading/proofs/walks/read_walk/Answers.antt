use Rattle.std.proofs.Common.{[]}
use Rattle.blob_reading.proofs.Exits.{hands_on}
use Rattle.blob_facts.proofs.WalkFields.{address_refused, at_refused, hops_refused, kind_refused}
use Rattle.blob_reading.proofs.walks.read_walk.Goals as goal

pub returns-in_err-kind-clause-refused : goal.returns-in_err-kind-clause-refused
returns-in_err-kind-clause-refused c =
    hands_on _ c.from_residual.result c.from_residual.ensures.1
    (kind_refused c.args.bytes.now [] [] [] c.in_err-kind.field-0.0.rest.now 0 0 0 0 c.in_err-kind.ensures.refused)

pub returns-in_err-at-clause-refused : goal.returns-in_err-at-clause-refused
returns-in_err-at-clause-refused c =
    hands_on _ c.from_residual-in_err-at.result c.from_residual-in_err-at.ensures.1
    (at_refused c.args.bytes.now c.in_ok-kind.rest.now [] [] c.in_err-at.field-0.0.rest.now c.in_ok-kind.kind 0 0 0 c.if-kind-eq-NO_WALK.false c.in_ok-kind.ensures.read c.in_err-at.ensures.refused)

pub returns-in_err-address-clause-refused : goal.returns-in_err-address-clause-refused
returns-in_err-address-clause-refused c =
    hands_on _ c.from_residual-in_err-address.result c.from_residual-in_err-address.ensures.1
    (address_refused c.args.bytes.now c.in_ok-kind.rest.now c.in_ok-at.rest.now [] c.in_err-address.field-0.0.rest.now c.in_ok-kind.kind c.in_ok-at.at 0 0
    c.if-kind-eq-NO_WALK.false c.in_ok-kind.ensures.read c.in_ok-at.ensures.read c.in_err-address.ensures.refused)

pub returns-in_err-hops-clause-refused : goal.returns-in_err-hops-clause-refused
returns-in_err-hops-clause-refused c =
    hands_on _ c.from_residual-in_err-hops.result c.from_residual-in_err-hops.ensures.1
    (hops_refused c.args.bytes.now c.in_ok-kind.rest.now c.in_ok-at.rest.now c.in_ok-address.rest.now c.in_err-hops.field-0.0.rest.now c.in_ok-kind.kind c.in_ok-at.at c.in_ok-address.address 0
    c.if-kind-eq-NO_WALK.false c.in_ok-kind.ensures.read c.in_ok-at.ensures.read c.in_ok-address.ensures.read c.in_err-hops.ensures.refused)
