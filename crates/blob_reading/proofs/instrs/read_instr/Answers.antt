use Rattle.std.proofs.Common.{[], sym, subst}
use Rattle.base_types.specs.declared.instructions.Instr.{Instr}
use Rattle.blob_facts.specs.Fields.{IsFound}
use Rattle.blob_facts.specs.Parts.{IsInstrSpelled}
use Rattle.blob_reading.proofs.Exits.{hands_on}
use Rattle.blob_facts.proofs.InstrFields.{code_refused, a_refused, b_refused, c_refused, d_refused, e_refused, rights_refused, zero_refused, number_refused, instr_found}
use Rattle.blob_reading.proofs.instrs.read_instr.Goals as goal

pub returns-in_err-code-clause-refused : goal.returns-in_err-code-clause-refused
returns-in_err-code-clause-refused c =
    hands_on _ c.from_residual.result c.from_residual.ensures.1
    (code_refused c.args.bytes.now [] [] [] [] [] [] [] [] c.in_err-code.field-0.0.rest.now 0 0 0 0 0 0 0 0 c.in_err-code.ensures.refused)

pub returns-in_err-a-clause-refused : goal.returns-in_err-a-clause-refused
returns-in_err-a-clause-refused c =
    hands_on _ c.from_residual-in_err-a.result c.from_residual-in_err-a.ensures.1
    (a_refused c.args.bytes.now c.in_ok-code.rest.now [] [] [] [] [] [] [] c.in_err-a.field-0.0.rest.now c.in_ok-code.code 0 0 0 0 0 0 0 c.in_ok-code.ensures.read c.in_err-a.ensures.refused)

pub returns-in_err-b-clause-refused : goal.returns-in_err-b-clause-refused
returns-in_err-b-clause-refused c =
    hands_on _ c.from_residual-in_err-b.result c.from_residual-in_err-b.ensures.1
    (b_refused c.args.bytes.now c.in_ok-code.rest.now c.in_ok-a.rest.now [] [] [] [] [] [] c.in_err-b.field-0.0.rest.now c.in_ok-code.code c.in_ok-a.a 0 0 0 0 0 0 c.in_ok-code.ensures.read c.in_ok-a.ensures.read c.in_err-b.ensures.refused)

pub returns-in_err-c-clause-refused : goal.returns-in_err-c-clause-refused
returns-in_err-c-clause-refused c =
    hands_on _ c.from_residual-in_err-c.result c.from_residual-in_err-c.ensures.1
    (c_refused c.args.bytes.now c.in_ok-code.rest.now c.in_ok-a.rest.now c.in_ok-b.rest.now [] [] [] [] [] c.in_err-c.field-0.0.rest.now c.in_ok-code.code c.in_ok-a.a c.in_ok-b.b 0 0 0 0 0 c.in_ok-code.ensures.read c.in_ok-a.ensures.read c.in_ok-b.ensures.read c.in_err-c.ensures.refused)

pub returns-in_err-d-clause-refused : goal.returns-in_err-d-clause-refused
returns-in_err-d-clause-refused c =
    hands_on _ c.from_residual-in_err-d.result c.from_residual-in_err-d.ensures.1
    (d_refused c.args.bytes.now c.in_ok-code.rest.now c.in_ok-a.rest.now c.in_ok-b.rest.now c.in_ok-c.rest.now [] [] [] [] c.in_err-d.field-0.0.rest.now c.in_ok-code.code c.in_ok-a.a c.in_ok-b.b c.in_ok-c.c 0 0 0 0 c.in_ok-code.ensures.read c.in_ok-a.ensures.read c.in_ok-b.ensures.read c.in_ok-c.ensures.read c.in_err-d.ensures.refused)

pub returns-in_err-e-clause-refused : goal.returns-in_err-e-clause-refused
returns-in_err-e-clause-refused c =
    hands_on _ c.from_residual-in_err-e.result c.from_residual-in_err-e.ensures.1
    (e_refused c.args.bytes.now c.in_ok-code.rest.now c.in_ok-a.rest.now c.in_ok-b.rest.now c.in_ok-c.rest.now c.in_ok-d.rest.now [] [] [] c.in_err-e.field-0.0.rest.now c.in_ok-code.code c.in_ok-a.a c.in_ok-b.b c.in_ok-c.c c.in_ok-d.d 0 0 0 c.in_ok-code.ensures.read c.in_ok-a.ensures.read c.in_ok-b.ensures.read c.in_ok-c.ensures.read c.in_ok-d.ensures.read c.in_err-e.ensures.refused)

pub returns-in_err-rights-clause-refused : goal.returns-in_err-rights-clause-refused
returns-in_err-rights-clause-refused c =
    hands_on _ c.from_residual-in_err-rights.result c.from_residual-in_err-rights.ensures.1
    (rights_refused c.args.bytes.now c.in_ok-code.rest.now c.in_ok-a.rest.now c.in_ok-b.rest.now c.in_ok-c.rest.now c.in_ok-d.rest.now c.in_ok-e.rest.now [] [] c.in_err-rights.field-0.0.rest.now c.in_ok-code.code c.in_ok-a.a c.in_ok-b.b c.in_ok-c.c c.in_ok-d.d c.in_ok-e.e 0 0 c.in_ok-code.ensures.read c.in_ok-a.ensures.read c.in_ok-b.ensures.read c.in_ok-c.ensures.read c.in_ok-d.ensures.read c.in_ok-e.ensures.read c.in_err-rights.ensures.refused)

pub returns-in_err-zero-clause-refused : goal.returns-in_err-zero-clause-refused
returns-in_err-zero-clause-refused c =
    hands_on _ c.from_residual-in_err-zero.result c.from_residual-in_err-zero.ensures.1
    (zero_refused c.args.bytes.now c.in_ok-code.rest.now c.in_ok-a.rest.now c.in_ok-b.rest.now c.in_ok-c.rest.now c.in_ok-d.rest.now c.in_ok-e.rest.now c.in_ok-rights.rest.now [] c.in_err-zero.field-0.0.rest.now c.in_ok-code.code c.in_ok-a.a c.in_ok-b.b c.in_ok-c.c c.in_ok-d.d c.in_ok-e.e c.in_ok-rights.rights 0 c.in_ok-code.ensures.read c.in_ok-a.ensures.read c.in_ok-b.ensures.read c.in_ok-c.ensures.read c.in_ok-d.ensures.read c.in_ok-e.ensures.read c.in_ok-rights.ensures.read c.in_err-zero.ensures.refused)

pub returns-in_err-number-clause-refused : goal.returns-in_err-number-clause-refused
returns-in_err-number-clause-refused c =
    hands_on _ c.from_residual-in_err-number.result c.from_residual-in_err-number.ensures.1
    (number_refused c.args.bytes.now c.in_ok-code.rest.now c.in_ok-a.rest.now c.in_ok-b.rest.now c.in_ok-c.rest.now c.in_ok-d.rest.now c.in_ok-e.rest.now c.in_ok-rights.rest.now c.in_ok-zero.rest.now c.in_err-number.field-0.0.rest.now c.in_ok-code.code c.in_ok-a.a c.in_ok-b.b c.in_ok-c.c c.in_ok-d.d c.in_ok-e.e c.in_ok-rights.rights c.in_ok-zero.zero c.in_ok-code.ensures.read c.in_ok-a.ensures.read c.in_ok-b.ensures.read c.in_ok-c.ensures.read c.in_ok-d.ensures.read c.in_ok-e.ensures.read c.in_ok-rights.ensures.read c.in_ok-zero.ensures.read c.in_err-number.ensures.refused)

pub returns-clause-read : goal.returns-clause-read
returns-clause-read c =
    subst (λ (i : Instr). IsFound IsInstrSpelled c.args.bytes.now i c.in_ok-number.rest.now) (sym c.build-instr.ensures)
    (instr_found c.args.bytes.now c.in_ok-code.rest.now c.in_ok-a.rest.now c.in_ok-b.rest.now c.in_ok-c.rest.now c.in_ok-d.rest.now c.in_ok-e.rest.now c.in_ok-rights.rest.now c.in_ok-zero.rest.now c.in_ok-number.rest.now c.in_ok-code.code c.in_ok-a.a c.in_ok-b.b c.in_ok-c.c c.in_ok-d.d c.in_ok-e.e c.in_ok-rights.rights c.in_ok-zero.zero c.in_ok-number.number c.in_ok-code.ensures.read c.in_ok-a.ensures.read c.in_ok-b.ensures.read c.in_ok-c.ensures.read c.in_ok-d.ensures.read c.in_ok-e.ensures.read c.in_ok-rights.ensures.read c.in_ok-zero.ensures.read c.in_ok-number.ensures.read)
