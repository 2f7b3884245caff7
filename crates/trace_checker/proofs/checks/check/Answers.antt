use Rattle.std.proofs.Common.{◌≡◌, ◌+◌, ◌<◌, ◌≤◌, [], ◌∷◌, ◌++◌, length, ap, sym, refl, arith}
use Rattle.std.proofs.lemmas.List.{length-append}
use Rattle.model_clocks.specs.model_kernel.State.{Text}
use Rattle.script_types.specs.Scripts.{tables_of}
use Rattle.trace_facts.specs.trace_step_facts.Standing.{fresh}
use Rattle.trace_checker.proofs.Alike.{fault_anyway, spells_anyway}
use Rattle.trace_facts.proofs.Lining.{few_lines, read_more, read_none, shorter, spells_all}
use Rattle.trace_checker.proofs.Lining.{stopped}
use Rattle.trace_checker.proofs.checks.check.Goals as goal

no_bytes : (t : Text) → length t ≤ 0 → t ≡ []
no_bytes [] h = refl
no_bytes (x ∷ t) h = absurd (omega (arith, h))

some_bytes : (t : Text) → 0 < length t → t ≡ [] → ⊥
some_bytes t h e = (let n = ap length e in absurd (omega (arith, h, n)))

pub loop-rest-init : goal.loop-rest-init
loop-rest-init g c =
    let s = g.gate.word in
    let p = g.gate.wish in
    record { read = ([], read_none s p (tables_of c.args.script.now) (fresh s c.args.start c.args.versions) c.args.trace.now c.in-Ok.checker (c.in-Ok.ensures.stands s p), refl) }

pub overflow_add-lines : goal.overflow_add-lines
overflow_add-lines g c =
    let i = c.loop-rest.invariant.read in
    let n = few_lines g.gate.word g.gate.wish (tables_of c.args.script.now) (fresh g.gate.word c.args.start c.args.versions) c.args.trace.now c.loop-rest.checker i.0 c.loop-rest.rest.now i.1 c.loop-rest.lines i.2 in
    omega (arith, n)

pub overflow_add-lines-in-loop-rest : goal.overflow_add-lines-in-loop-rest
overflow_add-lines-in-loop-rest g c =
    let i = c.loop-rest.invariant.read in
    let n = few_lines g.gate.word g.gate.wish (tables_of c.args.script.now) (fresh g.gate.word c.args.start c.args.versions) c.args.trace.now c.loop-rest.checker i.0 c.loop-rest.rest.now i.1 c.loop-rest.lines i.2 in
    omega (arith, n)

pub returns-in-Err-read_line-clause-at : goal.returns-in-Err-read_line-clause-at
returns-in-Err-read_line-clause-at g c = λ w b.
    let i = c.loop-rest.invariant.read in
    let rest = c.loop-rest.rest.now in
    let more : 0 < length rest = (let t = c.loop-rest-test.true in omega (arith, t)) in
    fault_anyway g.gate.word g.gate.wish (tables_of c.args.script.now) c.args.start c.args.versions w b c.args.trace.now c.in-Err-read_line.fault
    (stopped g.gate.word g.gate.wish (tables_of c.args.script.now) (fresh g.gate.word c.args.start c.args.versions) c.args.trace.now c.loop-rest.checker i.0 rest i.1 (some_bytes rest more) (c.loop-rest.lines + 1) (ap (λ n. n + 1) (sym i.2)) c.in-Err-read_line.fault
    c.in-Err-read_line.ensures.err)

pub loop-rest-smaller : goal.loop-rest-smaller
loop-rest-smaller g c =
    let i = c.loop-rest.invariant.read in
    let w = fresh g.gate.word c.args.start c.args.versions in
    shorter g.gate.word g.gate.wish (tables_of c.args.script.now) w i.0 c.loop-rest.rest.now c.in-Ok-read_line.left.now c.read_line.new.checker (c.in-Ok-read_line.ensures.ok w i.0 i.1.stands)

pub loop-rest-preserved : goal.loop-rest-preserved
loop-rest-preserved g c =
    let i = c.loop-rest.invariant.read in
    let w = fresh g.gate.word c.args.start c.args.versions in
    let k = c.in-Ok-read_line.ensures.ok w i.0 i.1.stands in
    let n = length-append i.0 (k.entry ∷ []) in
    let m = i.2 in
    record { read = (i.0 ++ k.entry ∷ [], read_more g.gate.word g.gate.wish (tables_of c.args.script.now) w c.args.trace.now c.loop-rest.checker i.0 c.loop-rest.rest.now i.1 c.in-Ok-read_line.left.now c.read_line.new.checker k, omega (arith, n, m)) }

pub returns-clause-ok : goal.returns-clause-ok
returns-clause-ok g c = λ w b.
    let i = c.loop-rest.invariant.read in
    let rest = c.loop-rest.rest.now in
    let none : length rest ≤ 0 = (let f = c.loop-rest-test.false in omega (arith, f)) in
    spells_anyway g.gate.word g.gate.wish (tables_of c.args.script.now) c.args.start c.args.versions w b c.args.trace.now c.loop-rest.lines
    (spells_all g.gate.word g.gate.wish (tables_of c.args.script.now) (fresh g.gate.word c.args.start c.args.versions) c.args.trace.now c.loop-rest.checker i.0 rest i.1 (no_bytes rest none) c.loop-rest.lines i.2)
