use Rattle.std.proofs.Common.{◌≡◌, ◌∙◌, Some, sym}
use Rattle.cell_births.specs.act_calls.Calls.{atlas_state}
use Rattle.cell_births.proofs.act_atlas_laws_lemmas.NameLaws.{numbers_same}
use Rattle.model_copies.specs.model_kernel.Scripts.{number_of}
use Rattle.cell_copies.proofs.Refusing.{named_as, none_named, not_named}
use Rattle.cell_copies.proofs.refusals.container_of.Goals as goal

pub returns-then-is_container : goal.returns-then-is_container
returns-then-is_container c =
    let d = c.args.atlas.now in
    let name = c.args.name.now in
    let at : number_of (atlas_state d) name ≡ Some c.in-Some.entity = sym (numbers_same d name) ∙ (sym c.find.ensures ∙ c.in-Some.is) in
    sym (named_as d name c.in-Some.entity c.named-born.ensures.names at (sym c.is_container.ensures ∙ c.if-is_container.true))

pub returns-else-is_container : goal.returns-else-is_container
returns-else-is_container c =
    let d = c.args.atlas.now in
    let name = c.args.name.now in
    let at : number_of (atlas_state d) name ≡ Some c.in-Some.entity = sym (numbers_same d name) ∙ (sym c.find.ensures ∙ c.in-Some.is) in
    sym (not_named d name c.in-Some.entity c.named-born.ensures.names at (sym c.is_container.ensures ∙ c.if-is_container.false))

pub returns-in-None : goal.returns-in-None
returns-in-None c =
    let d = c.args.atlas.now in
    let name = c.args.name.now in
    sym (none_named d name c.named-born.ensures.names (sym (numbers_same d name) ∙ (sym c.find.ensures ∙ c.in-None.is)))
