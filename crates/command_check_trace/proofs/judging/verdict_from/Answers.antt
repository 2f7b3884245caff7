use Rattle.std.proofs.Common.{Result, Ok, Err, IfErr, IfOk, ℕ, sym, subst}
use Rattle.plain_states.specs.Plains.{atlas_of, cells_of}
use Rattle.plain_states.specs.model_kernel.State.{KernelState}
use Rattle.plain_runs.proofs.plain_facts_lemmas.Suppliers.{sound_any}
use Rattle.script_types.specs.Scripts.{tables_of}
use Rattle.command_outcomes.specs.declared.faults.Fault.{Fault}
use Rattle.trace_checker.specs.Reading.{IsFault}
use Rattle.trace_checker.specs.declared.faults.TraceFault.{TraceFault}
use Rattle.trace_checker.specs.trace_facts.Traces.{Begins, Spells}
use Rattle.command_check_trace.specs.Verdicts.{IsFitFault, IsVerdict}
use Rattle.command_check_trace.specs.declared.judging.Verdict.{Verdict}
use Rattle.command_check_trace.proofs.Verdicts.{fit_fault, same_atlas, told}
use Rattle.command_check_trace.proofs.judging.verdict_from.Goals as goal

ok_at : (P : ℕ → KernelState → Type 0) (B : KernelState → Type 0) (r : Result ℕ TraceFault) (w : KernelState) → B w → IfOk r (λ lines. (v : KernelState) → B v → P lines v) → IfOk r (λ lines. P lines w)
ok_at P B (Ok lines) w b h = h w b
ok_at P B (Err f) w b h = tt

err_at : (P : TraceFault → KernelState → Type 0) (B : KernelState → Type 0) (r : Result ℕ TraceFault) (w : KernelState) → B w → IfErr r (λ f. (v : KernelState) → B v → P f v) → IfErr r (λ f. P f w)
err_at P B (Ok lines) w b h = tt
err_at P B (Err f) w b h = h w b

pub check-requires : goal.check-requires
check-requires g c κs within =
    let asked = c.requires.1.1 in
    let known = asked.1.1.1.1 in (
      λ a mem. within.0 a mem,
      (
        λ a mem. within.1 a mem,
        (
          asked.0,
          (asked.1.0, (asked.1.1.0, (asked.1.1.1.0, (λ s. sound_any g.m.word s c.args.state known.0, (known.1.0, (known.1.1.0, (known.1.1.1, c.in-Ok.ensures.ok.kinds))))))),
        ),
      ),
    )

pub returns-in-Ok : goal.returns-in-Ok
returns-in-Ok g c w begins =
    let m = g.m in
    let script = tables_of c.args.script.now in
    let trace = c.args.trace.now in
    let r = c.check.result in
    let B = λ (v : KernelState). Begins v (cells_of m.word c.args.state) c.args.versions in
    subst (λ (v : Verdict). IsVerdict m script trace w v) (sym c.verdict_of.ensures)
    (told m script trace w (atlas_of c.args.state.atlas) (same_atlas m c.args.state c.args.versions w begins) c.in-Ok.ensures.ok r
    (ok_at (λ lines v. Spells m.word m.wish v script trace lines) B r w begins c.check.ensures.ok)
    (err_at (λ f v. IsFault m.word m.wish v script trace f) B r w begins c.check.ensures.at))

pub returns-in-Err : goal.returns-in-Err
returns-in-Err g c w begins =
    let script = tables_of c.args.script.now in
    subst (λ (f : Fault). IsFitFault g.m script c.args.trace.now w f) (sym c.from.ensures)
    (fit_fault g.m script c.args.trace.now w (atlas_of c.args.state.atlas) (same_atlas g.m c.args.state c.args.versions w begins) c.in-Err.fault c.in-Err.ensures.refused)
