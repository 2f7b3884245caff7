use Rattle.std.proofs.Common.{◌≡◌, ◌-◌, ◌≤◌, None, true, false, slice_get, slice_index, ap, ◌∙◌, subst, refl, arith}
use Rattle.plain_steps.specs.model_kernel.Steps.{running}
use Rattle.plain_states.specs.Plains.{atlas_of, cells_of}
use Rattle.plain_states.specs.Plains.{locus_cell}
use Rattle.plain_steps.specs.plain_facts.Looking.{wants_stable as stable_wanted}
use Rattle.std.proofs.lemmas.Result.{err_from_is_err_and}
use Rattle.script_types.specs.Scripts.{tables_of}
use Rattle.plain_runs.proofs.Answering.{look_stills, look_turns}
use Rattle.plain_states.proofs.model_sound_runs_lemmas.Naming.{keeps_same}
use Rattle.plain_steps.proofs.plain_facts_lemmas.Stepping.{few_versions, idle_spent, idle_still}
use Rattle.plain_runs.proofs.looks.look.Goals as goal

pub returns-then-run-i-clause-idle : goal.returns-then-run-i-clause-idle
returns-then-run-i-clause-idle g c w es r =
    let run = c.args.run.now in
    let i : c.number.result - 41 ≡ c.args.locus - 41 = ap (λ n. n - 41) c.number.ensures.number in
    idle_spent g.s (tables_of c.args.script.now) w (cells_of g.s run.state) run.versions run.made es c.args.locus r.reaches c.requires.1.1.1.0 (omega arith)
    (subst (λ n. c.args.script.now.steps ≤ slice_index run.made n) i c.if-run-i.true)

pub plain_step-requires : goal.plain_step-requires
plain_step-requires g c κs lives =
    let run = c.args.run.now in
    let at = c.requires.1.1.1.1 in
    let t = at.2.reaches in
    (λ a mem. lives a mem, (c.requires.1.0, (c.requires.1.1.0, (t.sound, (few_versions g.s (tables_of c.args.script.now) at.0 (cells_of g.s run.state) run.versions run.made None at.1 t, at.2.edges)))))

pub returns-in_err-entry-clause-err : goal.returns-in_err-entry-clause-err
returns-in_err-entry-clause-err g c =
    let e = err_from_is_err_and c.from_residual.result c.from_residual.ensures.1 in
    rw e.1 (look_stills g.s (tables_of c.args.script.now) c.args.run.now c.plain_step.new.state c.plain_step.new.versions c.in_err-entry.ensures.err c.plain_step.ensures.sound c.plain_step.ensures.edges)

pub returns-in-None-clause-none : goal.returns-in-None-clause-none
returns-in-None-clause-none g c = look_stills g.s (tables_of c.args.script.now) c.args.run.now c.plain_step.new.state c.plain_step.new.versions (rw c.in-None.is at c.in_ok-entry.ensures.none) c.plain_step.ensures.sound c.plain_step.ensures.edges

pub returns-in-None-clause-idle : goal.returns-in-None-clause-idle
returns-in-None-clause-idle g c w es r =
    let run = c.args.run.now in
    let idle = rw c.in-None.is at c.in_ok-entry.ensures.idle in
    idle_still g.s (tables_of c.args.script.now) w (cells_of g.s run.state) run.versions run.made es c.args.locus r.reaches (idle.0 refl)

pub returns-in-Some-clause-some : goal.returns-in-Some-clause-some
returns-in-Some-clause-some g c =
    let run = c.args.run.now in
    let l = c.args.locus in
    let e = c.in-Some.entry in
    let i : c.number.result - 41 ≡ l - 41 = ap (λ n. n - 41) c.number.ensures.number in
    let steps = rw c.in-Some.is at c.in_ok-entry.ensures.step in
    let idle = rw c.in-Some.is at c.in_ok-entry.ensures.idle in
    let busy : running (cells_of g.s run.state l) ≡ None → ⊥ = λ no. let bad : true ≡ false = idle.1 no in cc in
    look_turns g.s (tables_of c.args.script.now) run c.plain_step.new.state c.plain_step.new.versions (c.number.result - 41) l c.wants_stable-wants.result c.owed_by-run.result e c.requires.1.1.1.0 (omega arith) i c.if-run-i.false busy steps
    c.plain_step.ensures.sound c.plain_step.ensures.edges c.plain_step.ensures.names c.bounded.ensures.low (c.wants_stable-wants.ensures ∙ ap (λ ls. stable_wanted (locus_cell (slice_get ls (l - 41)))) c.deref.ensures.value) c.owed_by-run.ensures c.bounded.result c.bounded.ensures.same

pub returns-then-run-i-clause-names : goal.returns-then-run-i-clause-names
returns-then-run-i-clause-names g c = keeps_same (atlas_of c.args.run.now.state.atlas) (atlas_of c.args.run.now.state.atlas) refl refl
