use Rattle.std.proofs.Common.{rules, ◌≡◌, ◌∙◌, sym, map, subst, string_bytes, true, codes, IfSome, Option, Some, arith, is_some}
use Rattle.std.specs.Prelude.{slice_get}
use Rattle.std.specs.List.{list_any}
use Rattle.clap.proofs.WalkLemmas.{list_any-map}
use Rattle.command_words.specs.Forms as form
use Rattle.command_words.specs.Commands.{IsCommand}
use Rattle.command_words.specs.declared.Command.{Command}
use Rattle.command_words.proofs.Words.{first_letter, first_letters, if_copy, no_command, no_number, no_run, none_in_bytes, none_mapped, string_front}
use Rattle.command_words.proofs.read_command.Goals as goal

pub returns-then-any_is_refused-clause-none : goal.returns-then-any_is_refused-clause-none
returns-then-any_is_refused-clause-none c =
    let refused : list_any (λ word. form.is_refused (string_bytes word)) c.args.words.now ≡ true = search rules in
    no_command _ (sym (list_any-map form.is_refused string_bytes c.args.words.now) ∙ refused)

pub one_value-requires : goal.one_value-requires
one_value-requires c = none_in_bytes c.args.words.now (search rules)

pub has_no_value-requires : goal.has_no_value-requires
has_no_value-requires c = none_in_bytes c.args.words.now (search rules)

pub has_no_value-requires-in-text : goal.has_no_value-requires-in-text
has_no_value-requires-in-text c = none_in_bytes c.args.words.now (search rules)

pub has_no_value-requires-in-report : goal.has_no_value-requires-in-report
has_no_value-requires-in-report c = none_in_bytes c.args.words.now (search rules)

pub one_value-requires-in-drill : goal.one_value-requires-in-drill
one_value-requires-in-drill c = none_in_bytes c.args.words.now (search rules)

pub trace_flag-requires : goal.trace_flag-requires
trace_flag-requires c = none_in_bytes c.args.words.now (search rules)

pub returns-in-None-clause-none : goal.returns-in-None-clause-none
returns-in-None-clause-none c =
    let front : slice_get c.args.words.now 0 ≡ Some c.in-Some.first.now = search rules in
    let named : string_bytes c.in-Some.first.now ≡ codes "format" = search rules in
    no_number _ 102 (first_letter c.args.words.now c.in-Some.first.now _ front named) (omega arith) (λ e. omega arith) (search rules)

pub returns-in-None-2-clause-none : goal.returns-in-None-2-clause-none
returns-in-None-2-clause-none c =
    let front : slice_get c.args.words.now 0 ≡ Some c.in-Some.first.now = search rules in
    let named : string_bytes c.in-Some.first.now ≡ codes "drill" = search rules in
    no_number _ 100 (first_letter c.args.words.now c.in-Some.first.now _ front named) (omega arith) (λ e. omega arith) (search rules)

pub returns-in-copy-clause-some : goal.returns-in-copy-clause-some
returns-in-copy-clause-some c =
    let words = map string_bytes c.args.words.now in
    let front : slice_get c.args.words.now 0 ≡ Some c.in-Some.first.now = search rules in
    let named : string_bytes c.in-Some.first.now ≡ codes "copy" = search rules in
    subst (λ (o : Option Command). IfSome o (λ (command : Command). IsCommand words command)) (sym c.then_some-in-copy.ensures)
    (if_copy words (string_bytes c.in-Some.first.now) c.has_two_names.result (string_front c.args.words.now c.in-Some.first.now front) named (none_in_bytes c.args.words.now (search rules)) c.has_two_names.ensures)

pub returns-in_ok-trace_flag-in-None-thread_options-clause-none : goal.returns-in_ok-trace_flag-in-None-thread_options-clause-none
returns-in_ok-trace_flag-in-None-thread_options-clause-none c =
    let words = map string_bytes c.args.words.now in
    let front : slice_get c.args.words.now 0 ≡ Some c.in-Some.first.now = search rules in
    let named : string_bytes c.in-Some.first.now ≡ codes "run" = search rules in
    let same : is_some c.map-in-None-thread_options.result ≡ is_some c.in_ok-trace_flag-in-None-thread_options.field-0 = search rules in
    none_mapped c.in_ok-trace_flag-in-None-thread_options.field-0 c.map-in-None-thread_options.result same c.in_ok-trace_flag-in-None-thread_options.ensures.none
    (no_run words (first_letters c.args.words.now c.in-Some.first.now _ front named) c.in-None-thread_options.ensures.none)
