use Rattle.std.proofs.Common.{refl, sym, subst, ◌++◌, ◌∷◌, []}
use Rattle.std.proofs.lemmas.Result.{err_from_is_err_and}
use Rattle.plain_steps.specs.model_kernel.Scripts.{next_name as next_of}
use Rattle.plain_states.specs.Plains.{atlas_of, cells_of}
use Rattle.script_types.specs.Scripts.{tables_of}
use Rattle.plain_runs.specs.Standing.{Stands}
use Rattle.plain_runs.specs.declared.serial.SerialRun.{SerialRun}
use Rattle.plain_runs.proofs.Answering.{birth_stays, few_names_of}
use Rattle.plain_runs.proofs.Placing.{bearing, birth_stands, end_stands}
use Rattle.plain_steps.proofs.plain_facts_lemmas.Stepping.{few_versions}
use Rattle.plain_steps.proofs.plain_facts_lemmas.Suppliers.{sound_any}
use Rattle.plain_runs.proofs.newborns.birth_turn.Goals as goal

pub next_name-requires : goal.next_name-requires
next_name-requires g c = few_names_of g.s c.args.run.now.state c.requires.1.1.2.reaches.sound

pub bear-requires-clause-sound : goal.bear-requires-clause-sound
bear-requires-clause-sound g c t = sound_any g.s t c.args.run.now.state c.requires.1.1.2.reaches.sound

pub bear-requires-clause-few : goal.bear-requires-clause-few
bear-requires-clause-few g c =
    let run = c.args.run.now in
    let at = c.requires.1.1 in
    few_versions g.s (tables_of c.args.script.now) at.0 (cells_of g.s run.state) run.versions run.made run.owed at.1 at.2.reaches

pub bear-requires-clause-edges : goal.bear-requires-clause-edges
bear-requires-clause-edges g c =
    c.requires.1.1.2.edges

pub bear-requires-clause-fits : goal.bear-requires-clause-fits
bear-requires-clause-fits g c =
    let at = c.requires.1.1 in
    (bearing g.s (tables_of c.args.script.now) at.0 c.args.run.now at.1 c.requires.0 c.requires.1.0 at.2).fits

pub bear-requires-clause-script : goal.bear-requires-clause-script
bear-requires-clause-script g c = c.requires.1.1.2.reaches.rules

pub end_births-requires : goal.end_births-requires
end_births-requires g c = few_names_of g.s c.bear.new.state (c.bear.ensures.sound g.s)

pub returns-in_err-entry-clause-err : goal.returns-in_err-entry-clause-err
returns-in_err-entry-clause-err g c =
    let script = tables_of c.args.script.now in
    let run = c.args.run.now in
    let e = err_from_is_err_and c.from_residual.result c.from_residual.ensures.1 in
    rw e.1 (λ w es h.
    birth_stays g.s script w run c.bear.new.state c.bear.new.versions es c.requires.0 c.requires.1.0 (c.in_err-entry.ensures.err g.s) c.bear.ensures.edges (c.bear.ensures.sound g.s) h)

pub returns-clause-further : goal.returns-clause-further
returns-clause-further g c w es h =
    let script = tables_of c.args.script.now in
    let run = c.args.run.now in
    let new = c.bear.new.state in
    let e = c.in_ok-entry.entry in
    subst (λ (r : SerialRun). Stands g.s script w r (es ++ e ∷ [])) (sym c.end_births.ensures)
    (birth_stands g.s script w run c.in-Some.name.now (next_of (atlas_of new.atlas) script) new c.bear.new.versions es e c.requires.0 c.requires.1.0 c.in-Some.ensures.some (c.in_ok-entry.ensures.bears g.s) c.bear.ensures.edges (c.bear.ensures.sound g.s) c.in_ok-entry.ensures.low
    refl h)

pub returns-in_default-clause-none : goal.returns-in_default-clause-none
returns-in_default-clause-none g c w es h = end_stands g.s (tables_of c.args.script.now) w c.args.run.now es c.requires.0 c.requires.1.0 c.in_default.ensures.none h
