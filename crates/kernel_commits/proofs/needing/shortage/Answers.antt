use Rattle.std.proofs.Common.{◌≡◌, ◌↔◌, Some, ap, ◌∙◌, subst}
use Rattle.edge_disk.specs.declared.disk.NoBlocks.{NoBlocks}
use Rattle.kernel_commit_facts.specs.store_facts.State.{books}
use Rattle.kernel_commit_facts.specs.store_books.Books.{kept_names}
use Rattle.kernel_commit_facts.specs.Parts.{Parts, parts_of}
use Rattle.kernel_commit_facts.specs.Stabilising.{AreShort, needs_in}
use Rattle.kernel_commit_facts.proofs.Fitting.{no_shortage, none_fits}
use Rattle.kernel_commits.proofs.needing.shortage.Goals as goal

pub returns-clause-some : goal.returns-clause-some
returns-clause-some g c =
    let d = g.D.Disk in
    let st = c.core.inside.store in
    subst (λ (p : Parts g.row.D.Denot). (n : NoBlocks) → (no_shortage ≡ Some n) ↔ AreShort p n) c.core.view_is
    (none_fits d (parts_of st c.core.inside.cells.items c.core.inside.notes) c.all_needs-need.result c.free-free.result
    (c.all_needs-need.ensures ∙ ap (needs_in (kept_names (books st))) c.deref.ensures.value) c.free-free.ensures c.if-free-need.false)
