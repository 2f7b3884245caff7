use Rattle.std.proofs.Common.{◌≡◌, true, sym, ◌∙◌}
use Rattle.page_store.proofs.Held.{held_above, held_within, held_kept, held_item, free_kept}
use Rattle.page_store.proofs.memory.MemoryPagesPageStore.write_page.Goals as goal

pub returns-clause-same_blocks : goal.returns-clause-same_blocks
returns-clause-same_blocks c =
    let held = c.requires.held in
    let above = held_above c.args.self.now.pages.items c.args.block held in
    let within = held_within c.args.self.now.pages.items c.args.block held in
    let mark : c.index_mut.result.now.held ≡ true = held_item c.args.self.now.pages.items c.args.block _ c.index_mut.ensures.value held in
    record {
      same_held = held_kept c.args.self.now.pages.items c.args.block _ above within (mark ∙ sym held);
      same_free = free_kept c.args.self.now.pages.items c.args.block _ above within held mark;
    }
