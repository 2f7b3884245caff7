use Rattle.std.proofs.Common.{ℕ, List, [], None, sym, subst, take}
use Rattle.base_types.specs.declared.instructions.Instr.{Instr}
use Rattle.blob_grammar.specs.Forms.{SpellsContainer}
use Rattle.blob_facts.specs.Fields.{IsFound}
use Rattle.blob_reading.proofs.Exits.{hands_on}
use Rattle.blob_facts.proofs.ContainerFields.{caps_refused, code_refused, entry_refused, every_refused, kind_refused, pages_refused, regions_refused, table_refused, tag_refused, container_found, container_of}
use Rattle.blob_reading.proofs.containers.read_parts.Goals as goal

pub returns-in_err-kind-clause-refused : goal.returns-in_err-kind-clause-refused
returns-in_err-kind-clause-refused c =
    hands_on _ c.from_residual.result c.from_residual.ensures.1
    (kind_refused c.args.bytes.now [] [] [] [] [] [] [] [] c.in_err-kind.field-0.0.rest.now 0 0 0 0 None [] [] [] c.in_err-kind.ensures.refused)

pub returns-in_err-pages-clause-refused : goal.returns-in_err-pages-clause-refused
returns-in_err-pages-clause-refused c =
    hands_on _ c.from_residual-in_err-pages.result c.from_residual-in_err-pages.ensures.1
    (pages_refused c.args.bytes.now c.in_ok-kind.rest.now [] [] [] [] [] [] [] c.in_err-pages.field-0.0.rest.now c.in_ok-kind.kind 0 0 0 None [] [] [] c.in_ok-kind.ensures.read c.in_err-pages.ensures.refused)

pub returns-in_err-tag-clause-refused : goal.returns-in_err-tag-clause-refused
returns-in_err-tag-clause-refused c =
    hands_on _ c.from_residual-in_err-tag.result c.from_residual-in_err-tag.ensures.1
    (tag_refused c.args.bytes.now c.in_ok-kind.rest.now c.in_ok-pages.rest.now [] [] [] [] [] [] c.in_err-tag.field-0.0.rest.now c.in_ok-kind.kind c.in_ok-pages.pages 0 0 None [] [] [] c.in_ok-kind.ensures.read c.in_ok-pages.ensures.read c.in_err-tag.ensures.refused)

pub returns-in_err-every-clause-refused : goal.returns-in_err-every-clause-refused
returns-in_err-every-clause-refused c =
    hands_on _ c.from_residual-in_err-every.result c.from_residual-in_err-every.ensures.1
    (every_refused c.args.bytes.now c.in_ok-kind.rest.now c.in_ok-pages.rest.now c.in_ok-tag.rest.now [] [] [] [] [] c.in_err-every.field-0.0.rest.now c.in_ok-kind.kind c.in_ok-pages.pages c.in_ok-tag.tag 0 None [] [] [] c.in_ok-kind.ensures.read c.in_ok-pages.ensures.read c.in_ok-tag.ensures.read c.in_err-every.ensures.refused)

pub returns-in_err-entry-clause-refused : goal.returns-in_err-entry-clause-refused
returns-in_err-entry-clause-refused c =
    hands_on _ c.from_residual-in_err-entry.result c.from_residual-in_err-entry.ensures.1
    (entry_refused c.args.bytes.now c.in_ok-kind.rest.now c.in_ok-pages.rest.now c.in_ok-tag.rest.now c.in_ok-every.rest.now [] [] [] [] c.in_err-entry.field-0.0.rest.now c.in_ok-kind.kind c.in_ok-pages.pages c.in_ok-tag.tag c.in_ok-every.every None [] [] [] c.in_ok-kind.ensures.read c.in_ok-pages.ensures.read c.in_ok-tag.ensures.read c.in_ok-every.ensures.read c.in_err-entry.ensures.refused)

pub returns-in_err-count-clause-refused : goal.returns-in_err-count-clause-refused
returns-in_err-count-clause-refused c =
    hands_on _ c.from_residual-in_err-count.result c.from_residual-in_err-count.ensures.1
    (code_refused c.args.bytes.now c.in_ok-kind.rest.now c.in_ok-pages.rest.now c.in_ok-tag.rest.now c.in_ok-every.rest.now c.in_ok-entry.rest.now [] [] [] c.in_err-count.field-0.0.rest.now c.in_ok-kind.kind c.in_ok-pages.pages c.in_ok-tag.tag c.in_ok-every.every c.in_ok-entry.entry [] [] [] c.in_ok-kind.ensures.read c.in_ok-pages.ensures.read c.in_ok-tag.ensures.read c.in_ok-every.ensures.read c.in_ok-entry.ensures.read c.in_err-count.ensures.refused)

pub returns-in_err-all_regions-clause-refused : goal.returns-in_err-all_regions-clause-refused
returns-in_err-all_regions-clause-refused c =
    hands_on _ c.from_residual-in_err-all_regions.result c.from_residual-in_err-all_regions.ensures.1
    (regions_refused c.args.bytes.now c.in_ok-kind.rest.now c.in_ok-pages.rest.now c.in_ok-tag.rest.now c.in_ok-every.rest.now c.in_ok-entry.rest.now c.in_ok-count.rest.now [] [] c.in_err-all_regions.field-0.0.rest.now c.in_ok-kind.kind c.in_ok-pages.pages c.in_ok-tag.tag c.in_ok-every.every c.in_ok-entry.entry (take c.in_ok-count.count c.read_code.new.instrs) [] [] c.in_ok-kind.ensures.read c.in_ok-pages.ensures.read c.in_ok-tag.ensures.read c.in_ok-every.ensures.read c.in_ok-entry.ensures.read c.in_ok-count.ensures.read c.in_err-all_regions.ensures.refused)

pub returns-in_err-all_caps-clause-refused : goal.returns-in_err-all_caps-clause-refused
returns-in_err-all_caps-clause-refused c =
    hands_on _ c.from_residual-in_err-all_caps.result c.from_residual-in_err-all_caps.ensures.1
    (caps_refused c.args.bytes.now c.in_ok-kind.rest.now c.in_ok-pages.rest.now c.in_ok-tag.rest.now c.in_ok-every.rest.now c.in_ok-entry.rest.now c.in_ok-count.rest.now c.in_ok-all_regions.rest.now [] c.in_err-all_caps.field-0.0.rest.now c.in_ok-kind.kind c.in_ok-pages.pages c.in_ok-tag.tag c.in_ok-every.every c.in_ok-entry.entry (take c.in_ok-count.count c.read_code.new.instrs) c.read_regions.new.regions [] c.in_ok-kind.ensures.read c.in_ok-pages.ensures.read c.in_ok-tag.ensures.read c.in_ok-every.ensures.read c.in_ok-entry.ensures.read c.in_ok-count.ensures.read c.in_ok-all_regions.ensures.read c.in_err-all_caps.ensures.refused)

pub returns-in_err-table-clause-refused : goal.returns-in_err-table-clause-refused
returns-in_err-table-clause-refused c =
    hands_on _ c.from_residual-in_err-table.result c.from_residual-in_err-table.ensures.1
    (table_refused c.args.bytes.now c.in_ok-kind.rest.now c.in_ok-pages.rest.now c.in_ok-tag.rest.now c.in_ok-every.rest.now c.in_ok-entry.rest.now c.in_ok-count.rest.now c.in_ok-all_regions.rest.now c.in_ok-all_caps.rest.now c.in_err-table.field-0.0.rest.now c.in_ok-kind.kind c.in_ok-pages.pages c.in_ok-tag.tag c.in_ok-every.every c.in_ok-entry.entry (take c.in_ok-count.count c.read_code.new.instrs) c.read_regions.new.regions c.read_caps.new.caps c.in_ok-kind.ensures.read c.in_ok-pages.ensures.read c.in_ok-tag.ensures.read c.in_ok-every.ensures.read c.in_ok-entry.ensures.read c.in_ok-count.ensures.read c.in_ok-all_regions.ensures.read c.in_ok-all_caps.ensures.read c.in_err-table.ensures.refused)

pub returns-clause-read : goal.returns-clause-read
returns-clause-read c =
    subst (λ (code : List Instr). IsFound (λ (t y : List ℕ). (words : ℕ → ℕ) → SpellsContainer (container_of words c.in_ok-pages.pages c.in_ok-tag.tag c.in_ok-every.every c.in_ok-entry.entry code c.read_regions.new.regions c.read_caps.new.caps) t y)
    c.args.bytes.now (take c.in_ok-pages.pages c.read_table.new.table) c.in_ok-table.rest.now) (sym c.new.ensures)
    (container_found c.args.bytes.now c.in_ok-kind.rest.now c.in_ok-pages.rest.now c.in_ok-tag.rest.now c.in_ok-every.rest.now c.in_ok-entry.rest.now c.in_ok-count.rest.now c.in_ok-all_regions.rest.now c.in_ok-all_caps.rest.now c.in_ok-table.rest.now c.in_ok-kind.kind c.in_ok-pages.pages c.in_ok-tag.tag c.in_ok-every.every c.in_ok-entry.entry (take c.in_ok-count.count c.read_code.new.instrs) c.read_regions.new.regions c.read_caps.new.caps (take c.in_ok-pages.pages c.read_table.new.table) c.in_ok-kind.ensures.read c.in_ok-pages.ensures.read c.in_ok-tag.ensures.read c.in_ok-every.ensures.read c.in_ok-entry.ensures.read c.in_ok-count.ensures.read c.in_ok-all_regions.ensures.read c.in_ok-all_caps.ensures.read c.in_ok-table.ensures.read)
