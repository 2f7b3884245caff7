use Rattle.std.proofs.Common.{◌≡◌, true, false, not, Some, is_some, map, string_bytes, sym, ap, ◌∙◌, arith}
use Rattle.plain_steps.specs.model_kernel.Scripts.{next_container_name, number_of}
use Rattle.plain_states.specs.Plains.{atlas_of}
use Rattle.script_types.specs.Scripts.{container_of}
use Rattle.plain_steps.proofs.plain_facts_lemmas.NextNames.{container_new, container_old, drop_end}
use Rattle.plain_runs.proofs.names.next_container.Goals as goal

pub returns-then-is_none-clause-some : goal.returns-then-is_none-clause-some
returns-then-is_none-clause-some c =
    let a = atlas_of c.args.atlas.now in
    let t = c.table-item.result in
    let text : c.as_str-name.result.now ≡ string_bytes t.name = c.as_str-name.ensures.value in
    let new : is_some (number_of a (string_bytes t.name)) ≡ false = ap (λ x. is_some (number_of a x)) (sym text) ∙ ap is_some (sym c.number_of.ensures) ∙ c.is_none.ensures ∙ ap not c.if-is_none.true in
    sym c.loop-table.invariant ∙ container_new a c.args.tables.now c.loop-table.table-index t (omega (arith, c.loop-table-test.true)) c.table-item.is new ∙ ap Some (sym text)

pub loop-table-preserved : goal.loop-table-preserved
loop-table-preserved c =
    let a = atlas_of c.args.atlas.now in
    let t = c.table-item.result in
    let text : c.as_str-name.result.now ≡ string_bytes t.name = c.as_str-name.ensures.value in
    let old : is_some (number_of a (string_bytes t.name)) ≡ true = ap (λ x. is_some (number_of a x)) (sym text) ∙ ap is_some (sym c.number_of.ensures) ∙ c.is_none.ensures ∙ ap not c.if-is_none.false in
    sym (container_old a c.args.tables.now c.loop-table.table-index t (omega (arith, c.loop-table-test.true)) c.table-item.is old) ∙ c.loop-table.invariant

pub returns-clause-none : goal.returns-clause-none
returns-clause-none c =
    let a = atlas_of c.args.atlas.now in
    sym c.loop-table.invariant ∙ ap (λ ts. next_container_name a (map container_of ts)) (drop_end c.args.tables.now c.loop-table.table-index (omega (arith, c.loop-table-test.false)))
