use Rattle.std.proofs.Common.{◌≡◌, ℕ, ◌<◌, length, true, refl, subst}
use Rattle.page_store.specs.Memory.{place_at}
use Rattle.page_store.proofs.Held.{none_free}
use Rattle.page_store.proofs.memory.MemoryPagesPageStore.take_block.Goals as goal

pub returns-in_default-clause-none : goal.returns-in_default-clause-none
returns-in_default-clause-none c =
    (none_free c.args.self.now.pages.items (subst (λ pages. (place : ℕ) → place < length pages → (place_at pages place).held ≡ true) c.deref.ensures.value c.in_default.ensures.none), refl, refl)
