use Rattle.std.proofs.Common.{Result, Ok, Err, IfErr, OnOk, sym, subst}
use Rattle.std.proofs.lemmas.Result.{err_from_is_err_and}
use Rattle.act_atlas_laws.specs.act_calls.Calls.{atlas_state}
use Rattle.script_types.specs.Scripts.{tables_of}
use Rattle.script_types.specs.declared.refusals.ScriptFault.{ScriptFault}
use Rattle.model_births.specs.Misfits.{IsMisfit}
use Rattle.model_births.proofs.Reasons.{clash_is, fits_where, room_is}
use Rattle.script_fits.proofs.fitting.against.Goals as goal

ok_by : {A E P Q : Type 0} (r : Result A E) → (P → Q) → OnOk r P → OnOk r Q
ok_by (Ok x) f h = f h
ok_by (Err e) f h = tt

fault_by : {A E : Type 0} {P Q : E → Type 0} (r : Result A E) → ((e : E) → P e → Q e) → IfErr r P → IfErr r Q
fault_by (Ok x) f h = tt
fault_by (Err e) f h = f e h

pub returns-clause-ok : goal.returns-clause-ok
returns-clause-ok c = ok_by c.check_room.result (λ room. fits_where (atlas_state c.args.atlas.now) (tables_of c.args.script.now) c.in_ok-check_kinds.ensures.ok room) c.check_room.ensures.ok

pub returns-clause-refused : goal.returns-clause-refused
returns-clause-refused c = fault_by c.check_room.result (λ fault h. room_is (atlas_state c.args.atlas.now) (tables_of c.args.script.now) fault c.in_ok-check_kinds.ensures.ok h) c.check_room.ensures.refused

pub returns-in_err-check_kinds-clause-refused : goal.returns-in_err-check_kinds-clause-refused
returns-in_err-check_kinds-clause-refused c =
    let a = atlas_state c.args.atlas.now in
    let script = tables_of c.args.script.now in
    let e = err_from_is_err_and c.from_residual.result c.from_residual.ensures.1 in
    rw e.1 (subst (λ (fault : ScriptFault). IsMisfit a script fault) (sym e.2) (clash_is a script c.in_err-check_kinds.field-0.0 c.in_err-check_kinds.ensures.refused))
