use Rattle.std.proofs.Common.{[], sym, subst}
use Rattle.blob_facts.specs.Fields.{IsFound}
use Rattle.blob_facts.specs.Loci.{IsCallSpelled}
use Rattle.blob_facts.proofs.CallFields.{call_found, call_with, container_refused, place_refused}
use Rattle.blob_reading.proofs.Exits.{hands_on}
use Rattle.blob_reading.proofs.calls.read_call.Goals as goal

pub returns-in_err-container-clause-refused : goal.returns-in_err-container-clause-refused
returns-in_err-container-clause-refused c =
    hands_on _ c.from_residual.result c.from_residual.ensures.1 (container_refused c.args.bytes.now [] c.in_err-container.field-0.0.rest.now c.in_err-container.ensures.refused)

pub returns-in_err-place-clause-refused : goal.returns-in_err-place-clause-refused
returns-in_err-place-clause-refused c =
    hands_on _ c.from_residual-in_err-place.result c.from_residual-in_err-place.ensures.1
    (place_refused c.args.bytes.now c.in_ok-container.rest.now c.in_err-place.field-0.0.rest.now c.in_ok-container.container c.in_ok-container.ensures.read c.in_err-place.ensures.refused)

pub returns-clause-read : goal.returns-clause-read
returns-clause-read c =
    subst (λ e. IsFound IsCallSpelled c.args.bytes.now (call_with e c.in_ok-place.place) c.in_ok-place.rest.now) (sym c.of.ensures)
    (call_found c.args.bytes.now c.in_ok-container.rest.now c.in_ok-place.rest.now c.in_ok-container.container c.in_ok-place.place c.in_ok-container.ensures.read c.in_ok-place.ensures.read)
