-- A text of few bytes means what its tree means.
use Rattle.std.proofs.Common.{◌≡◌, Bool, true, false, nat_le, le-leb, length, codes, Ok, refl, sym, ap, ◌∙◌, subst, arith}
use Rattle.std.specs.Str.{is_utf8}
use Rattle.std.proofs.lemmas.Str.{IsUtf8-from_is_utf8, is_utf8-from_IsUtf8}
use Rattle.toml.specs.Parse.{parse_document}
use Rattle.toml.specs.View.{table_view}
use Rattle.script_meaning.specs.Meaning.{Source, tree_meaning, meaning_by}
use Rattle.script_meaning.specs.Reading.{Reading, ◌>>=◌, or_refused, Reads}
use Rattle.script_reading.specs.Views.{source_of}
use Rattle.script_types.specs.declared.refusals.Why.TheVariants.{NotToml}
use Rattle.script_meaning.proofs.Lists.{blamed}
use Rattle.script_reading.proofs.reading.read_source.Goals as goal

pub returns-in_default : goal.returns-in_default
returns-in_default c spelled reader =
    let bytes = c.args.bytes.now in
    let few : nat_le (length bytes) 1048576 ≡ true = le-leb (length bytes) 1048576 (omega (arith, c.if-bytes-gt-MOST_SCRIPT_BYTES.false)) in
    let by : (b : Bool) → is_utf8 bytes ≡ b → is_utf8 bytes ≡ false = λ b. elim b as (λ t. is_utf8 bytes ≡ t → is_utf8 bytes ≡ false) [
      | true ↦ λ e. absurd (c.in_default.ensures.cases.0 (IsUtf8-from_is_utf8 bytes e))
      | false ↦ λ e. e
    ] in
    blamed _ NotToml (codes "-") _ c.refuse-in_default.ensures (rw (few, by (is_utf8 bytes) refl))

pub returns : goal.returns
returns c spelled reader =
    let bytes = c.args.bytes.now in
    let few : nat_le (length bytes) 1048576 ≡ true = le-leb (length bytes) 1048576 (omega (arith, c.if-bytes-gt-MOST_SCRIPT_BYTES.false)) in
    let utf8 : is_utf8 bytes ≡ true = is_utf8-from_IsUtf8 bytes c.in-Ok.ensures.cases.1 in
    let parsed : or_refused NotToml (codes "-") (parse_document bytes) ≡ Ok (table_view c.in_ok-table.table) =
    ap (λ t. or_refused NotToml (codes "-") (parse_document t)) (sym c.in-Ok.ensures.cases.0) ∙ c.in_ok-table.ensures in
    let whole : meaning_by spelled bytes ≡ tree_meaning spelled (table_view c.in_ok-table.table) =
    rw (few, utf8) (ap (λ r. r >>= tree_meaning spelled) parsed) in
    let P : Reading Source → Type 0 = λ r. Reads source_of r c.read_tree.result in
    subst P (sym whole) (c.read_tree.ensures spelled reader)
