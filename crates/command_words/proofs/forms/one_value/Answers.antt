use Rattle.std.proofs.Common.{rules, ◌≡◌, ◌∙◌, ap₂, true, map, string_bytes, subst, IfErr, IfOk}
use Rattle.clap.specs.Words.{App, FailsBy, HasMatchesOf, app_of, fault_of, is_simple_and_free, kind_of, rule_of, takes, with_rule}
use Rattle.clap.specs.declared.error.kind.ErrorKind.TheVariants.{OutOfMemory}
use Rattle.command_words.proofs.Walks.{IsOutcome, bare, number, refused_begins, value_read, valued, valued_simple}
use Rattle.command_words.proofs.Words.{is_given, value_given}
use Rattle.command_words.proofs.forms.one_value.Goals as goal

pub returns-in-Some-clause-some : goal.returns-in-Some-clause-some
returns-in-Some-clause-some c =
    let words = map string_bytes c.args.words.now in
    let rule : rule_of c.required-value.result ≡ number = search rules in
    let named : app_of c.disable_help_flag.result ≡ bare c.args.name.now = search rules in
    let is : app_of c.in_ok-command.command ≡ valued c.args.name.now = c.in_ok-command.ensures.shape (search rules) ∙ ap₂ with_rule named rule in
    let parse = c.try_get_matches_from in
    let kinds = subst (λ (a : App). is_simple_and_free a ≡ true → FailsBy (fault_of a words) parse.result) is parse.ensures.kinds (valued_simple c.args.name.now) in
    let matches = subst (λ (a : App). IfOk parse.result (HasMatchesOf a words)) is parse.ensures.matches in
    let parsed = subst (IsOutcome parse.result) c.in-Some.is c.in_ok-matches.ensures.ok in
    let read = value_read c.args.name.now words parse.result c.in-Some.found c.get_str.result c.requires kinds matches parsed c.get_str.ensures in
    value_given c.get_str.result read.0 read.1 words read.3 read.2

pub returns-in-Some-clause-none : goal.returns-in-Some-clause-none
returns-in-Some-clause-none c =
    let words = map string_bytes c.args.words.now in
    let rule : rule_of c.required-value.result ≡ number = search rules in
    let named : app_of c.disable_help_flag.result ≡ bare c.args.name.now = search rules in
    let is : app_of c.in_ok-command.command ≡ valued c.args.name.now = c.in_ok-command.ensures.shape (search rules) ∙ ap₂ with_rule named rule in
    let parse = c.try_get_matches_from in
    let kinds = subst (λ (a : App). is_simple_and_free a ≡ true → FailsBy (fault_of a words) parse.result) is parse.ensures.kinds (valued_simple c.args.name.now) in
    let matches = subst (λ (a : App). IfOk parse.result (HasMatchesOf a words)) is parse.ensures.matches in
    let parsed = subst (IsOutcome parse.result) c.in-Some.is c.in_ok-matches.ensures.ok in
    let read = value_read c.args.name.now words parse.result c.in-Some.found c.get_str.result c.requires kinds matches parsed c.get_str.ensures in
    is_given _ c.get_str.result read.1 read.3

pub returns-in-None-clause-none : goal.returns-in-None-clause-none
returns-in-None-clause-none c name value is_words =
    let words = map string_bytes c.args.words.now in
    let rule : rule_of c.required-value.result ≡ number = search rules in
    let named : app_of c.disable_help_flag.result ≡ bare c.args.name.now = search rules in
    let is : app_of c.in_ok-command.command ≡ valued c.args.name.now = c.in_ok-command.ensures.shape (search rules) ∙ ap₂ with_rule named rule in
    let parse = c.try_get_matches_from in
    let passes = subst (λ (a : App). IfErr parse.result (λ e. takes a words ≡ true → kind_of e ≡ OutOfMemory)) is parse.ensures.passes in
    let outcome = subst (IsOutcome parse.result) c.in-None.is c.in_ok-matches.ensures.ok in
    refused_begins c.args.name.now words name value parse.result is_words c.requires outcome passes
