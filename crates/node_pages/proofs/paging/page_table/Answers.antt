use Rattle.std.proofs.Common.{length, ◌-◌, sym, ap, ◌∙◌}
use Rattle.std.specs.Prelude.{slice_index}
use Rattle.act_alone.specs.Loci.{container_with}
use Rattle.node_pages.proofs.Pages.{container_table, front_same, no_table}
use Rattle.node_pages.proofs.paging.page_table.Goals as goal

pub returns-in-Ok : goal.returns-in-Ok
returns-in-Ok c part of spells page =
    let read = c.in-Ok.read in
    sym (front_same read.blocks read.head.pages (length read.blocks - read.head.pages) page c.in-Ok.ensures.none_past)
    ∙ ap (λ table. slice_index table page) (container_table (container_with (λ _. 0) read.head) _ c.args.bytes.now part (sym c.in-Container.is ∙ c.kind.ensures ∙ sym of) (c.in-Ok.ensures.read (λ _. 0)) spells)

pub returns-in-Atlas : goal.returns-in-Atlas
returns-in-Atlas c part of spells page = no_table part (λ is. (let clash = sym c.in-Atlas.is ∙ c.kind.ensures ∙ sym of ∙ is in cc clash)) 256 page

pub returns-in-Locus : goal.returns-in-Locus
returns-in-Locus c part of spells page = no_table part (λ is. (let clash = sym c.in-Locus.is ∙ c.kind.ensures ∙ sym of ∙ is in cc clash)) 256 page
