use Rattle.blob_reading.proofs.Codes.{condition_refused}
use Rattle.blob_reading.proofs.Exits.{hands_on}
use Rattle.blob_reading.proofs.calls.read_condition.Goals as goal

pub returns-in_err-condition-clause-refused : goal.returns-in_err-condition-clause-refused
returns-in_err-condition-clause-refused c =
    hands_on _ c.from_residual.result c.from_residual.ensures.1 (condition_refused c.args.bytes.now c.in_err-condition.field-0.0.rest.now c.in_err-condition.ensures.refused)
