use Rattle.std.proofs.Common.{Result, Ok, Err, IfErr, sym, subst}
use Rattle.std.proofs.lemmas.Result.{err_from_is_err_and}
use Rattle.plain_states.proofs.ActLemmas.{ok_by}
use Rattle.plain_states.specs.Plains.{atlas_of}
use Rattle.script_types.specs.Scripts.{tables_of}
use Rattle.script_types.specs.declared.refusals.ScriptFault.{ScriptFault}
use Rattle.plain_runs.proofs.fitting.against.Goals as goal
use Rattle.plain_steps.specs.model_births.Misfits.{IsMisfit}
use Rattle.plain_steps.proofs.model_births_lemmas.Reasons.{clash_is, fits_where, room_is}

fault_by : {A E : Type 0} {P Q : E → Type 0} (r : Result A E) → ((e : E) → P e → Q e) → IfErr r P → IfErr r Q
fault_by (Ok x) f h = tt
fault_by (Err e) f h = f e h

pub returns-clause-ok : goal.returns-clause-ok
returns-clause-ok c = ok_by c.check_room.result (λ x room. fits_where (atlas_of c.args.atlas.now) (tables_of c.args.script.now) c.in_ok-check_kinds.ensures.ok room) c.check_room.ensures.ok

pub returns-clause-refused : goal.returns-clause-refused
returns-clause-refused c = fault_by c.check_room.result (λ fault h. room_is (atlas_of c.args.atlas.now) (tables_of c.args.script.now) fault c.in_ok-check_kinds.ensures.ok h) c.check_room.ensures.refused

pub returns-in_err-check_kinds-clause-refused : goal.returns-in_err-check_kinds-clause-refused
returns-in_err-check_kinds-clause-refused c =
    let a = atlas_of c.args.atlas.now in
    let script = tables_of c.args.script.now in
    let e = err_from_is_err_and c.from_residual.result c.from_residual.ensures.1 in
    rw e.1 (subst (λ (fault : ScriptFault). IsMisfit a script fault) (sym e.2) (clash_is a script c.in_err-check_kinds.field-0.0 c.in_err-check_kinds.ensures.refused))
