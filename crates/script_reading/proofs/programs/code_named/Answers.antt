-- The program at hand has the name, or the others decide.
use Rattle.std.proofs.Common.{◌≡◌, true, false, Some, if◌then◌else◌, drop, map, ◌+◌, string_bytes, sym, ap, ◌∙◌}
use Rattle.script_types.specs.model_kernel.Scripts.{text_eq}
use Rattle.script_meaning.specs.Meaning.{code_named}
use Rattle.script_reading.specs.Views.{program_of}
use Rattle.script_reading.proofs.Each.{named_at}
use Rattle.script_reading.proofs.programs.code_named.Goals as goal

pub returns-then-is_same : goal.returns-then-is_same
returns-then-is_same c =
    let p = c.program-item.result in
    let name = c.args.name.now in
    let rest = code_named name (drop (c.loop-program.program-index + 1) (map program_of c.args.programs.now)) in
    let same : text_eq name (string_bytes p.name) ≡ true = ap (text_eq name) (sym c.as_str.ensures.value) ∙ sym c.is_same.ensures ∙ c.if-is_same.true in
    ap Some c.as_slice.ensures.value
    ∙ sym (ap (λ b. if b then Some p.code.items else rest) same)
    ∙ sym (named_at name c.args.programs.now c.loop-program.program-index p c.loop-program-test.true c.program-item.is)
    ∙ c.loop-program.invariant

pub loop-program-preserved : goal.loop-program-preserved
loop-program-preserved c =
    let p = c.program-item.result in
    let name = c.args.name.now in
    let rest = code_named name (drop (c.loop-program.program-index + 1) (map program_of c.args.programs.now)) in
    let other : text_eq name (string_bytes p.name) ≡ false = ap (text_eq name) (sym c.as_str.ensures.value) ∙ sym c.is_same.ensures ∙ c.if-is_same.false in
    sym (ap (λ b. if b then Some p.code.items else rest) other)
    ∙ sym (named_at name c.args.programs.now c.loop-program.program-index p c.loop-program-test.true c.program-item.is)
    ∙ c.loop-program.invariant
