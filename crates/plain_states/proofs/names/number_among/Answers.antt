use Rattle.std.proofs.Common.{◌≡◌, ℕ, ◌+◌, ◌<◌, ◌≤◌, ◌↔◌, if◌then◌else◌, Bool, true, false, Option, Some, None, IfSome, IsNone, drop, map, string_bytes, refl, sym, ap, ◌∙◌, arith}
use Rattle.model_kernel.specs.Scripts.{place_of, text_eq}
use Rattle.plain_states.proofs.NameLemmas.{place_at}
use Rattle.plain_states.proofs.names.number_among.Goals as goal

made : (r : Option ℕ) (n : ℕ) → IfSome r (λ e. e ≡ n) → (IsNone r ↔ (64 ≤ n)) → n < 64 → r ≡ Some n
made (Some e) n is none lt = ap Some is
made None n is none lt = absurd (omega (arith, none.0 refl))

if_yes : (b : Bool) (o p : Option ℕ) → b ≡ true → (if b then o else p) ≡ o
if_yes b o p e = rw e refl

if_no : (b : Bool) (o p : Option ℕ) → b ≡ false → (if b then o else p) ≡ p
if_no b o p e = rw e refl

pub returns-then-is_same : goal.returns-then-is_same
returns-then-is_same c =
    let names = c.args.names.now in
    let n = c.args.first + c.loop-i.i in
    let x = c.index-names-i.result in
    let at = place_at string_bytes c.args.name.now names c.loop-i.i n x c.loop-i-test.true c.index-names-i.is in
    let same : text_eq c.args.name.now (string_bytes x) ≡ true = ap (text_eq c.args.name.now) (sym c.as_str.ensures.value) ∙ sym c.is_same.ensures ∙ c.if-is_same.true in
    made c.new.result n c.new.ensures.made c.new.ensures.none (omega arith) ∙ sym (sym c.loop-i.invariant ∙ at ∙ if_yes _ _ _ same)

pub loop-i-preserved : goal.loop-i-preserved
loop-i-preserved c =
    let names = c.args.names.now in
    let n = c.args.first + c.loop-i.i in
    let x = c.index-names-i.result in
    let at = place_at string_bytes c.args.name.now names c.loop-i.i n x c.loop-i-test.true c.index-names-i.is in
    let other : text_eq c.args.name.now (string_bytes x) ≡ false = ap (text_eq c.args.name.now) (sym c.as_str.ensures.value) ∙ sym c.is_same.ensures ∙ c.if-is_same.false in
    let sum : c.args.first + (c.loop-i.i + 1) ≡ n + 1 = omega arith in
    ap (place_of c.args.name.now (drop (c.loop-i.i + 1) (map string_bytes names))) sum ∙ sym (sym c.loop-i.invariant ∙ at ∙ if_no _ _ _ other)
