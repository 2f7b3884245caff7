use Rattle.blob_reading.proofs.Codes.{form_refused}
use Rattle.blob_reading.proofs.Exits.{hands_on}
use Rattle.blob_reading.proofs.forms.read_form.Goals as goal

pub returns-in_err-form-clause-refused : goal.returns-in_err-form-clause-refused
returns-in_err-form-clause-refused c =
    hands_on _ c.from_residual.result c.from_residual.ensures.1 (form_refused c.args.bytes.now c.in_err-form.field-0.0.rest.now c.in_err-form.ensures.refused)
