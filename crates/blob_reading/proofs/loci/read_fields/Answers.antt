use Rattle.std.proofs.Common.{List, [], length, sym, ap, subst, ◌∙◌, take}
use Rattle.base_types.specs.declared.instructions.Call.{Call}
use Rattle.base_types.specs.declared.instructions.Condition.TheVariants.{Running}
use Rattle.base_types.specs.declared.instructions.Instr.{Instr}
use Rattle.blob_grammar.specs.Forms.{SpellsLocus}
use Rattle.blob_facts.specs.Fields.{IsFound, IsRefused, Spells}
use Rattle.blob_facts.specs.Loci.{AreCallsSpelled, ArePrivatesIn}
use Rattle.blob_reading.specs.Loci.{least_privates}
use Rattle.blob_reading.specs.declared.forms.Form.TheVariants.{Short}
use Rattle.blob_reading.proofs.Exits.{bounds_as, hands_on}
use Rattle.blob_reading.proofs.LocusFields.{locus_with, found_locus, calls_refused, caps_refused, code_refused, condition_refused, every_refused, form_refused, host_refused, locus_found, place_refused, printed_refused, privates_refused, registers_refused, walk_refused}
use Rattle.blob_reading.proofs.loci.read_fields.Goals as goal

pub returns-in_err-form-clause-refused : goal.returns-in_err-form-clause-refused
returns-in_err-form-clause-refused c =
    hands_on _ c.from_residual.result c.from_residual.ensures.1
    (form_refused c.args.bytes.now [] [] [] [] [] [] [] [] [] [] [] c.in_err-form.field-0.0.rest.now Short 0 Running 0 0 [] 0 [] [] [] [] c.in_err-form.ensures.refused)

pub returns-in_err-every-clause-refused : goal.returns-in_err-every-clause-refused
returns-in_err-every-clause-refused c =
    hands_on _ c.from_residual-in_err-every.result c.from_residual-in_err-every.ensures.1
    (every_refused c.args.bytes.now c.in_ok-form.rest.now [] [] [] [] [] [] [] [] [] [] c.in_err-every.field-0.0.rest.now c.in_ok-form.form 0 Running 0 0 [] 0 [] [] [] [] c.in_ok-form.ensures.read c.in_err-every.ensures.refused)

pub returns-in_err-condition-clause-refused : goal.returns-in_err-condition-clause-refused
returns-in_err-condition-clause-refused c =
    hands_on _ c.from_residual-in_err-condition.result c.from_residual-in_err-condition.ensures.1
    (condition_refused c.args.bytes.now c.in_ok-form.rest.now c.in_ok-every.rest.now [] [] [] [] [] [] [] [] [] c.in_err-condition.field-0.0.rest.now c.in_ok-form.form c.in_ok-every.every Running 0 0 [] 0 [] [] [] [] c.in_ok-form.ensures.read c.in_ok-every.ensures.read c.in_err-condition.ensures.refused)

pub returns-in_err-host-clause-refused : goal.returns-in_err-host-clause-refused
returns-in_err-host-clause-refused c =
    hands_on _ c.from_residual-in_err-host.result c.from_residual-in_err-host.ensures.1
    (host_refused c.args.bytes.now c.in_ok-form.rest.now c.in_ok-every.rest.now c.in_ok-condition.rest.now [] [] [] [] [] [] [] [] c.in_err-host.field-0.0.rest.now c.in_ok-form.form c.in_ok-every.every c.in_ok-condition.condition 0 0 [] 0 [] [] [] [] c.in_ok-form.ensures.read c.in_ok-every.ensures.read c.in_ok-condition.ensures.read c.in_err-host.ensures.refused)

pub returns-in_err-place-clause-refused : goal.returns-in_err-place-clause-refused
returns-in_err-place-clause-refused c =
    hands_on _ c.from_residual-in_err-place.result c.from_residual-in_err-place.ensures.1
    (place_refused c.args.bytes.now c.in_ok-form.rest.now c.in_ok-every.rest.now c.in_ok-condition.rest.now c.in_ok-host.rest.now [] [] [] [] [] [] [] c.in_err-place.field-0.0.rest.now c.in_ok-form.form c.in_ok-every.every c.in_ok-condition.condition c.in_ok-host.host 0 [] 0 [] [] [] [] c.in_ok-form.ensures.read c.in_ok-every.ensures.read c.in_ok-condition.ensures.read c.in_ok-host.ensures.read c.in_err-place.ensures.refused)

pub returns-in_err-all_registers-clause-refused : goal.returns-in_err-all_registers-clause-refused
returns-in_err-all_registers-clause-refused c =
    hands_on _ c.from_residual-in_err-all_registers.result c.from_residual-in_err-all_registers.ensures.1
    (registers_refused c.args.bytes.now c.in_ok-form.rest.now c.in_ok-every.rest.now c.in_ok-condition.rest.now c.in_ok-host.rest.now c.in_ok-place.rest.now [] [] [] [] [] [] c.in_err-all_registers.field-0.0.rest.now c.in_ok-form.form c.in_ok-every.every c.in_ok-condition.condition c.in_ok-host.host c.in_ok-place.place [] 0 [] [] [] [] c.in_ok-form.ensures.read c.in_ok-every.ensures.read c.in_ok-condition.ensures.read c.in_ok-host.ensures.read c.in_ok-place.ensures.read c.in_err-all_registers.ensures.refused)

pub returns-in_err-printed-clause-refused : goal.returns-in_err-printed-clause-refused
returns-in_err-printed-clause-refused c =
    hands_on _ c.from_residual-in_err-printed.result c.from_residual-in_err-printed.ensures.1
    (printed_refused c.args.bytes.now c.in_ok-form.rest.now c.in_ok-every.rest.now c.in_ok-condition.rest.now c.in_ok-host.rest.now c.in_ok-place.rest.now c.in_ok-all_registers.rest.now [] [] [] [] [] c.in_err-printed.field-0.0.rest.now c.in_ok-form.form c.in_ok-every.every c.in_ok-condition.condition c.in_ok-host.host c.in_ok-place.place c.read_registers.new.registers 0 [] [] [] [] c.in_ok-form.ensures.read c.in_ok-every.ensures.read c.in_ok-condition.ensures.read c.in_ok-host.ensures.read c.in_ok-place.ensures.read c.in_ok-all_registers.ensures.read c.in_err-printed.ensures.refused)

pub returns-in_err-count-clause-refused : goal.returns-in_err-count-clause-refused
returns-in_err-count-clause-refused c =
    hands_on _ c.from_residual-in_err-count.result c.from_residual-in_err-count.ensures.1
    (code_refused c.args.bytes.now c.in_ok-form.rest.now c.in_ok-every.rest.now c.in_ok-condition.rest.now c.in_ok-host.rest.now c.in_ok-place.rest.now c.in_ok-all_registers.rest.now c.in_ok-printed.rest.now [] [] [] [] c.in_err-count.field-0.0.rest.now c.in_ok-form.form c.in_ok-every.every c.in_ok-condition.condition c.in_ok-host.host c.in_ok-place.place c.read_registers.new.registers c.in_ok-printed.printed [] [] [] [] c.in_ok-form.ensures.read c.in_ok-every.ensures.read c.in_ok-condition.ensures.read c.in_ok-host.ensures.read c.in_ok-place.ensures.read c.in_ok-all_registers.ensures.read c.in_ok-printed.ensures.read c.in_err-count.ensures.refused)

pub returns-in_err-all_calls-clause-refused : goal.returns-in_err-all_calls-clause-refused
returns-in_err-all_calls-clause-refused c =
    hands_on _ c.from_residual-in_err-all_calls.result c.from_residual-in_err-all_calls.ensures.1
    (calls_refused c.args.bytes.now c.in_ok-form.rest.now c.in_ok-every.rest.now c.in_ok-condition.rest.now c.in_ok-host.rest.now c.in_ok-place.rest.now c.in_ok-all_registers.rest.now c.in_ok-printed.rest.now c.in_ok-count.rest.now [] [] [] c.in_err-all_calls.field-0.0.rest.now c.in_ok-form.form c.in_ok-every.every c.in_ok-condition.condition c.in_ok-host.host c.in_ok-place.place c.read_registers.new.registers c.in_ok-printed.printed (take c.in_ok-count.count c.read_code.new.instrs) [] [] [] c.in_ok-form.ensures.read c.in_ok-every.ensures.read c.in_ok-condition.ensures.read c.in_ok-host.ensures.read c.in_ok-place.ensures.read c.in_ok-all_registers.ensures.read c.in_ok-printed.ensures.read c.in_ok-count.ensures.read (subst (λ n. IsRefused (Spells (AreCallsSpelled n)) c.in_ok-count.rest.now c.in_err-all_calls.field-0.0.rest.now) c.most_calls-most_calls.ensures.most c.in_err-all_calls.ensures.refused))

pub returns-in_err-all_privates-clause-refused : goal.returns-in_err-all_privates-clause-refused
returns-in_err-all_privates-clause-refused c =
    hands_on _ c.from_residual-in_err-all_privates.result c.from_residual-in_err-all_privates.ensures.1
    (privates_refused c.args.bytes.now c.in_ok-form.rest.now c.in_ok-every.rest.now c.in_ok-condition.rest.now c.in_ok-host.rest.now c.in_ok-place.rest.now c.in_ok-all_registers.rest.now c.in_ok-printed.rest.now c.in_ok-count.rest.now c.in_ok-all_calls.rest.now [] [] c.in_err-all_privates.field-0.0.rest.now c.in_ok-form.form c.in_ok-every.every c.in_ok-condition.condition c.in_ok-host.host c.in_ok-place.place c.read_registers.new.registers c.in_ok-printed.printed (take c.in_ok-count.count c.read_code.new.instrs) c.read_calls.new.chain [] [] c.in_ok-form.ensures.read c.in_ok-every.ensures.read c.in_ok-condition.ensures.read c.in_ok-host.ensures.read c.in_ok-place.ensures.read c.in_ok-all_registers.ensures.read c.in_ok-printed.ensures.read c.in_ok-count.ensures.read (subst (λ n. IsFound (AreCallsSpelled n) c.in_ok-count.rest.now c.read_calls.new.chain c.in_ok-all_calls.rest.now) c.most_calls-most_calls.ensures.most c.in_ok-all_calls.ensures.read) (bounds_as (λ low high. IsRefused (Spells (ArePrivatesIn low high)) c.in_ok-all_calls.rest.now c.in_err-all_privates.field-0.0.rest.now) (c.least_privates-least.ensures.least ∙ ap (λ (l : List Call). least_privates c.in_ok-form.form c.in_ok-printed.printed (length l)) c.as_slice-calls.ensures.calls) c.most_privates-most.ensures.most c.in_err-all_privates.ensures.refused))

pub returns-in_err-all_caps-clause-refused : goal.returns-in_err-all_caps-clause-refused
returns-in_err-all_caps-clause-refused c =
    hands_on _ c.from_residual-in_err-all_caps.result c.from_residual-in_err-all_caps.ensures.1
    (caps_refused c.args.bytes.now c.in_ok-form.rest.now c.in_ok-every.rest.now c.in_ok-condition.rest.now c.in_ok-host.rest.now c.in_ok-place.rest.now c.in_ok-all_registers.rest.now c.in_ok-printed.rest.now c.in_ok-count.rest.now c.in_ok-all_calls.rest.now c.in_ok-all_privates.rest.now [] c.in_err-all_caps.field-0.0.rest.now c.in_ok-form.form c.in_ok-every.every c.in_ok-condition.condition c.in_ok-host.host c.in_ok-place.place c.read_registers.new.registers c.in_ok-printed.printed (take c.in_ok-count.count c.read_code.new.instrs) c.read_calls.new.chain c.read_privates.new.privates [] c.in_ok-form.ensures.read c.in_ok-every.ensures.read c.in_ok-condition.ensures.read c.in_ok-host.ensures.read c.in_ok-place.ensures.read c.in_ok-all_registers.ensures.read c.in_ok-printed.ensures.read c.in_ok-count.ensures.read (subst (λ n. IsFound (AreCallsSpelled n) c.in_ok-count.rest.now c.read_calls.new.chain c.in_ok-all_calls.rest.now) c.most_calls-most_calls.ensures.most c.in_ok-all_calls.ensures.read) (bounds_as (λ low high. IsFound (ArePrivatesIn low high) c.in_ok-all_calls.rest.now c.read_privates.new.privates c.in_ok-all_privates.rest.now) (c.least_privates-least.ensures.least ∙ ap (λ (l : List Call). least_privates c.in_ok-form.form c.in_ok-printed.printed (length l)) c.as_slice-calls.ensures.calls) c.most_privates-most.ensures.most c.in_ok-all_privates.ensures.read) c.in_err-all_caps.ensures.refused)

pub returns-in-Err-clause-refused : goal.returns-in-Err-clause-refused
returns-in-Err-clause-refused c =
    walk_refused c.args.bytes.now c.in_ok-form.rest.now c.in_ok-every.rest.now c.in_ok-condition.rest.now c.in_ok-host.rest.now c.in_ok-place.rest.now c.in_ok-all_registers.rest.now c.in_ok-printed.rest.now c.in_ok-count.rest.now c.in_ok-all_calls.rest.now c.in_ok-all_privates.rest.now c.in_ok-all_caps.rest.now c.in-Err.stuck.rest.now c.in_ok-form.form c.in_ok-every.every c.in_ok-condition.condition c.in_ok-host.host c.in_ok-place.place c.read_registers.new.registers c.in_ok-printed.printed (take c.in_ok-count.count c.read_code.new.instrs) c.read_calls.new.chain c.read_privates.new.privates c.read_caps.new.caps c.in_ok-form.ensures.read c.in_ok-every.ensures.read c.in_ok-condition.ensures.read c.in_ok-host.ensures.read c.in_ok-place.ensures.read c.in_ok-all_registers.ensures.read c.in_ok-printed.ensures.read c.in_ok-count.ensures.read (subst (λ n. IsFound (AreCallsSpelled n) c.in_ok-count.rest.now c.read_calls.new.chain c.in_ok-all_calls.rest.now) c.most_calls-most_calls.ensures.most c.in_ok-all_calls.ensures.read) (bounds_as (λ low high. IsFound (ArePrivatesIn low high) c.in_ok-all_calls.rest.now c.read_privates.new.privates c.in_ok-all_privates.rest.now) (c.least_privates-least.ensures.least ∙ ap (λ (l : List Call). least_privates c.in_ok-form.form c.in_ok-printed.printed (length l)) c.as_slice-calls.ensures.calls) c.most_privates-most.ensures.most c.in_ok-all_privates.ensures.read) c.in_ok-all_caps.ensures.read c.in-Err.ensures.refused

pub returns-clause-read : goal.returns-clause-read
returns-clause-read c =
    found_locus c.args.bytes.now c.in-Ok.read.1.now _
    (subst (λ host. IsFound SpellsLocus c.args.bytes.now (locus_with c.in_ok-every.every c.in_ok-condition.condition host c.in_ok-place.place c.read_registers.new.registers c.in_ok-printed.printed c.new.result c.read_calls.new.chain c.read_privates.new.privates c.read_caps.new.caps c.in-Ok.read.0) c.in-Ok.read.1.now) (sym c.of.ensures)
    (subst (λ (code : List Instr). IsFound SpellsLocus c.args.bytes.now (locus_with c.in_ok-every.every c.in_ok-condition.condition c.in_ok-host.host c.in_ok-place.place c.read_registers.new.registers c.in_ok-printed.printed code c.read_calls.new.chain c.read_privates.new.privates c.read_caps.new.caps c.in-Ok.read.0) c.in-Ok.read.1.now) (sym c.new.ensures)
    (locus_found c.args.bytes.now c.in_ok-form.rest.now c.in_ok-every.rest.now c.in_ok-condition.rest.now c.in_ok-host.rest.now c.in_ok-place.rest.now c.in_ok-all_registers.rest.now c.in_ok-printed.rest.now c.in_ok-count.rest.now c.in_ok-all_calls.rest.now c.in_ok-all_privates.rest.now c.in_ok-all_caps.rest.now c.in-Ok.read.1.now c.in_ok-form.form c.in_ok-every.every c.in_ok-condition.condition c.in_ok-host.host c.in_ok-place.place c.read_registers.new.registers c.in_ok-printed.printed (take c.in_ok-count.count c.read_code.new.instrs) c.read_calls.new.chain c.read_privates.new.privates c.read_caps.new.caps c.in-Ok.read.0 c.in_ok-form.ensures.read c.in_ok-every.ensures.read c.in_ok-condition.ensures.read c.in_ok-host.ensures.read c.in_ok-place.ensures.read c.in_ok-all_registers.ensures.read c.in_ok-printed.ensures.read c.in_ok-count.ensures.read (subst (λ n. IsFound (AreCallsSpelled n) c.in_ok-count.rest.now c.read_calls.new.chain c.in_ok-all_calls.rest.now) c.most_calls-most_calls.ensures.most c.in_ok-all_calls.ensures.read) (bounds_as (λ low high. IsFound (ArePrivatesIn low high) c.in_ok-all_calls.rest.now c.read_privates.new.privates c.in_ok-all_privates.rest.now) (c.least_privates-least.ensures.least ∙ ap (λ (l : List Call). least_privates c.in_ok-form.form c.in_ok-printed.printed (length l)) c.as_slice-calls.ensures.calls) c.most_privates-most.ensures.most c.in_ok-all_privates.ensures.read) c.in_ok-all_caps.ensures.read c.in-Ok.ensures.read)))
