use Rattle.std.proofs.Common.{◌≡◌, ◌+◌, ◌++◌, ◌∷◌, [], ℕ, List, Option, length, ap, sym, subst, arith}
use Rattle.std.proofs.lemmas.List.{length-append}
use Rattle.data_blocks.specs.declared.ShadowTable.{ShadowTable}
use Rattle.image_chosen_facts.specs.image_fits.Chosen.{entity_at, part_in}
use Rattle.image_chosen_facts.specs.image_fits.declared.chosen.ChosenEntity.{ChosenEntity}
use Rattle.image_chosen_facts.specs.Tables.{IsTableOf, blocks_in}
use Rattle.image_chosen.proofs.Placing.{TablesTo, read_entity_at, tables_more, tables_placed, tables_whole}
use Rattle.image_chosen.proofs.tables.page_tables.Goals as goal

pub loop-entity-preserved : goal.loop-entity-preserved
loop-entity-preserved c =
    let so_far = c.loop-entity.invariant in
    let es : List (Option ChosenEntity) = c.args.parts.now.entities.items in
    let n : ℕ = c.loop-entity.entity-index in
    let tables : List ShadowTable = c.loop-entity.tables.items in
    let items : c.push.new.self.items ≡ tables ++ c.table_for.result ∷ [] = c.in_ok-push.ensures.items in
    let o : Option ChosenEntity = c.entity-item.result in
    let at : entity_at es n ≡ o = read_entity_at es c.deref-entity-items.result.now n o c.deref-entity-items.ensures.value c.loop-entity-test.true c.entity-item.is in
    let here : IsTableOf (blocks_in (part_in (entity_at es n))) c.table_for.result.0 = subst (λ (p : Option ChosenEntity). IsTableOf (blocks_in (part_in p)) c.table_for.result.0) (sym at) c.table_for.ensures in
    record {
      long = (let was = so_far.long in let b = ap length items in let e = length-append tables (c.table_for.result ∷ []) in omega (arith, was, b, e));
      tables = subst (λ (l : List ShadowTable). TablesTo es l (n + 1)) (sym items) (tables_more es tables c.table_for.result n so_far.long so_far.tables here);
    }

pub returns-clause-tables : goal.returns-clause-tables
returns-clause-tables c =
    tables_whole c.args.parts.now.entities.items c.deref-entity-items.result.now c.loop-entity.tables.items c.loop-entity.entity-index c.deref-entity-items.ensures.value
    c.loop-entity-test.false c.loop-entity.auto.entity-index-end c.loop-entity.invariant.long c.loop-entity.invariant.tables

pub returns-clause-placed : goal.returns-clause-placed
returns-clause-placed c = λ log are. tables_placed log c.args.parts.now c.loop-entity.tables.items
    (tables_whole c.args.parts.now.entities.items c.deref-entity-items.result.now c.loop-entity.tables.items c.loop-entity.entity-index c.deref-entity-items.ensures.value
    c.loop-entity-test.false c.loop-entity.auto.entity-index-end c.loop-entity.invariant.long c.loop-entity.invariant.tables)
    are
