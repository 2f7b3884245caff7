-- Each line is read behind the others, and its fault is the program's.
use Rattle.std.proofs.Common.{◌≡◌, Ok, length, arith, ◌+◌, [], codes, drop, map, string_bytes, sym, ap, ◌∙◌}
use Rattle.toml.specs.View.{view}
use Rattle.script_meaning.specs.Fields.{each}
use Rattle.script_meaning.specs.Meaning.{a_line, a_program}
use Rattle.script_meaning.specs.Reading.{dotted, IsFaultOf, ◌>>=◌}
use Rattle.script_meaning.proofs.Each.{each_step, each_fault, fault_by, handed_on}
use Rattle.script_reading.proofs.programs.read_program.Goals as goal

pub returns-in_err-read_program_line : goal.returns-in_err-read_program_line
returns-in_err-read_program_line c spelled reader =
    let vs = c.in_ok-lines.lines.now in
    let read = a_line spelled (string_bytes c.in_ok-key.key) in
    let i = c.loop-line.line-index in
    let done = c.loop-line.code.items in
    let e = c.in_err-read_program_line.field-0.0 in
    let key = c.as_str.ensures.value in
    let place : length done ≡ c.len-place.result = omega (arith, c.len-place.ensures, c.loop-line.code.ok.0) in
    let item : IsFaultOf (read done (view c.line-item.result)) e = rw (← key) (c.in_err-read_program_line.ensures spelled reader done place) in
    let whole : a_program spelled c.args.name.now (view c.args.value.now) ≡ each read [] (map view vs) =
    ap (λ r. r >>= each (a_line spelled (dotted (codes "program") c.args.name.now)) []) c.in_ok-lines.ensures ∙ ap (λ k. each (a_line spelled k) [] (map view vs)) (sym c.in_ok-key.ensures) in
    handed_on _ _ _ e c.from_residual-in_err-read_program_line.ensures
    (fault_by _ _ e (whole ∙ sym (c.loop-line.invariant spelled reader)) (each_fault read vs i c.line-item.result done e c.loop-line-test.true c.line-item.is item))

pub loop-line-preserved : goal.loop-line-preserved
loop-line-preserved c spelled reader =
    let vs = c.in_ok-lines.lines.now in
    let read = a_line spelled (string_bytes c.in_ok-key.key) in
    let i = c.loop-line.line-index in
    let done = c.loop-line.code.items in
    let x = c.in_ok-read_program_line.field-0 in
    let key = c.as_str.ensures.value in
    let place : length done ≡ c.len-place.result = omega (arith, c.len-place.ensures, c.loop-line.code.ok.0) in
    let item : read done (view c.line-item.result) ≡ Ok x = rw (← key) (c.in_ok-read_program_line.ensures spelled reader done place) in
    ap (λ xs. each read xs (drop (i + 1) (map view vs))) c.in_ok-push.ensures.items
    ∙ sym (each_step read vs i c.line-item.result done x c.loop-line-test.true c.line-item.is item)
    ∙ c.loop-line.invariant spelled reader
