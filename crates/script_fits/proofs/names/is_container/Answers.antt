use Rattle.std.proofs.Common.{◌≡◌, ◌<◌, ◌≤◌, ◌&&◌, ℕ, true, false, nat_le, nat_lt, Some, sym, ap, ◌∙◌, arith}
use Rattle.std.proofs.lemmas.Bool.Decides.{nat_tests}
use Rattle.script_types.specs.model_kernel.Scripts.{number_of}
use Rattle.act_atlas_laws.specs.act_calls.Calls.{atlas_state}
use Rattle.act_atlas_laws.proofs.NameLaws.{numbers_same}
use Rattle.act_atlas_laws.proofs.ByKind.{container_test, no_container}
use Rattle.script_fits.proofs.names.is_container.Goals as goal

some_test : (n : ℕ) → 1 ≤ n → nat_le 1 n ≡ true
some_test n h = grind (arith, nat_tests)

none_test : (n : ℕ) → n < 1 → nat_le 1 n ≡ false
none_test n h = grind (arith, nat_tests)

pub returns-then-number-ge-FIRST_CONTAINER : goal.returns-then-number-ge-FIRST_CONTAINER
returns-then-number-ge-FIRST_CONTAINER c =
    let d = c.args.atlas.now in
    let name = c.args.name.now in
    let n = c.number-number.result in
    let at : number_of (atlas_state d) name ≡ Some n = sym (numbers_same d name) ∙ sym c.find.ensures ∙ c.in-Some.is ∙ ap Some (sym c.number-number.ensures.number) in
    sym (container_test d name n c.requires at ∙ ap (λ b. b && nat_lt n 41) (some_test n c.if-number-ge-FIRST_CONTAINER.true))

pub returns-else-number-ge-FIRST_CONTAINER : goal.returns-else-number-ge-FIRST_CONTAINER
returns-else-number-ge-FIRST_CONTAINER c =
    let d = c.args.atlas.now in
    let name = c.args.name.now in
    let n = c.number-number.result in
    let at : number_of (atlas_state d) name ≡ Some n = sym (numbers_same d name) ∙ sym c.find.ensures ∙ c.in-Some.is ∙ ap Some (sym c.number-number.ensures.number) in
    let none = none_test n c.if-number-ge-FIRST_CONTAINER.false in
    none ∙ sym (container_test d name n c.requires at ∙ ap (λ b. b && nat_lt n 41) none)

pub returns-in-None : goal.returns-in-None
returns-in-None c =
    let d = c.args.atlas.now in
    let name = c.args.name.now in
    sym (no_container d name c.requires (sym (numbers_same d name) ∙ sym c.find.ensures ∙ c.in-None.is))
