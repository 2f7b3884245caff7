use Rattle.std.proofs.Common.{[], ◌∷◌, sym, ◌∙◌}
use Rattle.base_types.specs.declared.histories.Event.TheVariants.{Step}
use Rattle.cell_states.specs.cell_clocks.Clocks.{writing, CarriesTwo}
use Rattle.cell_states.specs.model_kernel.State.{NotBorn}
use Rattle.cell_looks.specs.Looking.{looking}
use Rattle.cell_looks.proofs.Actors.{acts_two}
use Rattle.cell_looks.proofs.Stored.{stored_case, read_case}
use Rattle.cell_looks.proofs.looks.write_look.Goals as goal

pub returns-then-stores-clause-carries : goal.returns-then-stores-clause-carries
returns-then-stores-clause-carries c w hasl haso j k tells =
    let me = c.args.locus.now.entity in
    stored_case (λ k. CarriesTwo Step me c.args.answer w (looking c.args.other.now.entity k ∷ writing me j ∷ []) c.write_two.result c.write_two.new.a c.write_two.new.b) k
    (tells ∙ sym c.stores.ensures ∙ c.if-stores.true) (λ n. c.write_two.ensures.carries w haso hasl n j)

pub returns-clause-carries : goal.returns-clause-carries
returns-clause-carries c w hasl haso j k tells =
    let me = c.args.locus.now.entity in
    read_case (λ k. CarriesTwo Step me c.args.answer w (looking c.args.other.now.entity k ∷ writing me j ∷ []) c.read_and_write.result c.args.other.now c.read_and_write.new.b) k
    (tells ∙ sym c.stores.ensures ∙ c.if-stores.false) (c.read_and_write.ensures.carries w haso hasl j)

pub returns-then-stores-clause-actor : goal.returns-then-stores-clause-actor
returns-then-stores-clause-actor c =
    let other = c.args.other.now in
    let locus = c.args.locus.now in
    acts_two Step locus.entity c.args.answer _ other locus c.write_two.new.a c.write_two.new.b c.write_two.result c.requires.lower (λ w first second. c.write_two.ensures.carries w first second NotBorn NotBorn)

pub returns-clause-actor : goal.returns-clause-actor
returns-clause-actor c =
    let other = c.args.other.now in
    let locus = c.args.locus.now in
    acts_two Step locus.entity c.args.answer _ other locus other c.read_and_write.new.b c.read_and_write.result c.requires.lower (λ w first second. c.read_and_write.ensures.carries w first second NotBorn)
