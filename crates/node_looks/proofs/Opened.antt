-- How many commits an opened image holds, by the cells.
use Rattle.std.proofs.Common.{◌≡◌, ℕ, suc, ◌<◌, List, [], ◌∷◌, ◌++◌, count_by, filter, length, nat_lt, refl, sym, ap, ◌∙◌}
use Rattle.std.proofs.lemmas.List.Sums.{length-filter}
use Rattle.base_types.specs.Edges.{upto}
use Rattle.kernel_core.specs.cell_states.declared.cells.Cell.{Cell}
use Rattle.kernel_core.specs.kernel_book_laws.Matching.{newest_of}
use Rattle.kernel_runs.specs.kernel_invariant.Beginnings.{Beginning, completed}
use Rattle.model_new_commits.specs.Found.{AreFound}
use Rattle.model_new_commits.specs.model_run_rules.Newest.{newest_in}
use Rattle.model_serial_turns.specs.Rising.{entities_of}
use Rattle.node_looks.proofs.Flags.{same_count}
use Rattle.node_looks.specs.Counting.{has_record}
use Rattle.script_types.specs.model_kernel.Choices.{Commit}

entities_long : (cs : List Commit) → length (entities_of cs) ≡ length cs
entities_long [] = refl
entities_long (c ∷ cs) = ap suc (entities_long cs)

pub opened_many : (cells : List Cell) (b : Beginning) (count : ℕ) → count ≡ count_by (has_record cells) (upto 64) → ((x : ℕ) → x < 64 → newest_of cells x ≡ newest_in (completed b []) x)
    → AreFound (λ _. 0) [] (completed b []) → count ≡ length (completed b [])
opened_many cells b count is newest found =
    let test : ℕ → Rattle.std.proofs.Common.Bool = λ x. nat_lt 0 (newest_in (completed b []) x) in
    is ∙ (same_count (has_record cells) test 64 (λ x lt. ap (nat_lt 0) (newest x lt))
    ∙ (sym (length-filter test (upto 64))
    ∙ (ap (λ (xs : List ℕ). length xs) found.entities ∙ (entities_long found.added ∙ sym (ap (λ (cs : List Commit). length cs) found.are)))))
