use Rattle.std.proofs.Common.{rules, ◌≡◌, ◌∙◌, ap₂, true, map, string_bytes, subst, IfErr, IfOk, codes}
use Rattle.clap.specs.Words.{App, FailsBy, HasMatchesOf, app_of, fault_of, is_simple_and_free, kind_of, rule_of, takes, with_rule}
use Rattle.clap.specs.declared.error.kind.ErrorKind.TheVariants.{OutOfMemory}
use Rattle.command_words.proofs.Walks.{IsOutcome, bare}
use Rattle.command_words.proofs.Flags.{flag_read, flag_refused, flagged, flagged_simple, trace_rule}
use Rattle.command_words.proofs.forms.trace_flag.Goals as goal

pub returns-in-Some-clause-some : goal.returns-in-Some-clause-some
returns-in-Some-clause-some c =
    let words = map string_bytes c.args.words.now in
    let rule : rule_of c.action-flag.result ≡ trace_rule = search rules in
    let named : app_of c.disable_help_flag.result ≡ bare (codes "run") = search rules in
    let is : app_of c.in_ok-command.command ≡ flagged = c.in_ok-command.ensures.shape (search rules) ∙ ap₂ with_rule named rule in
    let parse = c.try_get_matches_from in
    let kinds = subst (λ (a : App). is_simple_and_free a ≡ true → FailsBy (fault_of a words) parse.result) is parse.ensures.kinds flagged_simple in
    let matches = subst (λ (a : App). IfOk parse.result (HasMatchesOf a words)) is parse.ensures.matches in
    let parsed = subst (IsOutcome parse.result) c.in-Some.is c.in_ok-matches.ensures.ok in
    flag_read words parse.result c.in-Some.found c.get_flag.result c.requires kinds matches parsed c.get_flag.ensures.value c.get_flag.ensures.other

pub returns-in-None-clause-none : goal.returns-in-None-clause-none
returns-in-None-clause-none c trace is_words =
    let words = map string_bytes c.args.words.now in
    let rule : rule_of c.action-flag.result ≡ trace_rule = search rules in
    let named : app_of c.disable_help_flag.result ≡ bare (codes "run") = search rules in
    let is : app_of c.in_ok-command.command ≡ flagged = c.in_ok-command.ensures.shape (search rules) ∙ ap₂ with_rule named rule in
    let parse = c.try_get_matches_from in
    let passes = subst (λ (a : App). IfErr parse.result (λ e. takes a words ≡ true → kind_of e ≡ OutOfMemory)) is parse.ensures.passes in
    let outcome = subst (IsOutcome parse.result) c.in-None.is c.in_ok-matches.ensures.ok in
    flag_refused words trace parse.result outcome passes is_words
