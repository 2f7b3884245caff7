use Rattle.std.proofs.Common.{rules, ◌≡◌, true, map, string_bytes, length, subst, sym, is_some, IsTrue, IfErr, ◌↔◌, ◌≤◌}
use Rattle.std.proofs.lemmas.List.{length-map}
use Rattle.clap.specs.Words.{App, FailsBy, app_of, fault_of, is_simple_and_free, kind_of, takes}
use Rattle.clap.specs.declared.error.kind.ErrorKind.TheVariants.{OutOfMemory}
use Rattle.command_words.proofs.Walks.{bare, bare_simple, none_behind}
use Rattle.command_words.proofs.forms.has_no_value.Goals as goal

pub returns : goal.returns
returns c =
    let words = map string_bytes c.args.words.now in
    let is : app_of c.disable_help_flag-command.result ≡ bare c.args.name.now = search rules in
    let parse = c.try_get_matches_from in
    let kinds = subst (λ (a : App). is_simple_and_free a ≡ true → FailsBy (fault_of a words) parse.result) is parse.ensures.kinds (bare_simple c.args.name.now) in
    let passes = subst (λ (a : App). IfErr parse.result (λ e. takes a words ≡ true → kind_of e ≡ OutOfMemory)) is parse.ensures.passes in
    let behind = none_behind c.args.name.now words parse.result c.in_ok-matches.matches c.requires kinds passes c.in_ok-matches.ensures.ok in
    let count : length words ≡ length c.args.words.now = search (rules, length-map) in
    let counted : IsTrue (is_some c.in_ok-matches.matches) ↔ length c.args.words.now ≤ 1 = subst (λ n. IsTrue (is_some c.in_ok-matches.matches) ↔ n ≤ 1) count behind in
    subst (λ b. IsTrue b ↔ length c.args.words.now ≤ 1) (sym c.is_some.ensures) counted
