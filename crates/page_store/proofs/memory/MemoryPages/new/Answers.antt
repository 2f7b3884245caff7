use Rattle.std.proofs.Common.{refl, ◌∙◌}
use Rattle.page_store.proofs.Held.{none_held, all_free}
use Rattle.page_store.proofs.memory.MemoryPages.new.Goals as goal

pub returns : goal.returns
returns c =
    let made = c.in_ok-free_pages.ensures in
    record { none_held = none_held _ made.none_held; all_free = all_free _ made.none_held ∙ made.len; calls = refl; faults = refl; fails_are = refl }
