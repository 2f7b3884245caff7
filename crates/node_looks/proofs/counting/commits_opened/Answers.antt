use Rattle.std.proofs.Common.{◌≡◌, List, [], refl, subst, sym}
use Rattle.base_types.specs.declared.histories.Entry.{Entry}
use Rattle.kernel_core.specs.cell_states.declared.cells.Cell.{Cell}
use Rattle.kernel_core.specs.kernel_book_laws.Matching.{newest_of}
use Rattle.kernel_runs.specs.kernel_invariant.Beginnings.{completed}
use Rattle.model_new_commits.specs.model_run_rules.Newest.{newest_in}
use Rattle.node_looks.proofs.Opened.{opened_many}
use Rattle.node_looks.proofs.counting.commits_opened.Goals as goal

pub returns : goal.returns
returns g c b lives none =
    let law = c.shown_commits_law.ensures in
    opened_many c.cells.result.now b c.count_recorded.result c.count_recorded.ensures
    (λ x lt. subst (λ (cs : List Cell). newest_of cs x ≡ newest_in (completed b []) x) (sym c.cells.ensures)
    (subst (λ (es : List Entry). newest_of c.args.kernel.now.parts.cells x ≡ newest_in (completed b es) x) none (law.cells b c.args.kernel.now x lives lt)))
    (law.opened b (λ _. 0) lives.live.running.begins (λ x lt. refl))
