use Rattle.std.proofs.Common.{List, ℕ, ap, sym, ◌∙◌}
use Rattle.std.specs.Prelude.{slice_index}
use Rattle.edge_disk.specs.Counts.{Rose}
use Rattle.test_store.proofs.Owned.{none_named, own_failed, own_more}
use Rattle.test_store.proofs.own.OwnStore.commit.Goals as goal
use Rattle.test_store.proofs.own.OwnStore.commit.Goals.{in-Ok, in-Err}

pub commit-requires-clause-pages : goal.commit-requires-clause-pages
commit-requires-clause-pages g c page some = absurd (some (ap (λ (t : List ℕ). slice_index t page) c.new.ensures ∙ none_named 256 page))

pub invariant_of-self : goal.invariant_of-self
invariant_of-self g c =
    let st = c.self.inside.store in
    let working = sym c.is_shut.ensures ∙ c.if-is_shut.false in
    elim c.match-commit.branch [
      | in-Ok w ↦ own_more g.D.Disk st c.commit.new.self c.self.inside.commits c.self.invariant w.in-Ok.ensures.in_memory working w.in-Ok.ensures.true_books
      | in-Err w ↦ own_failed g.D.Disk st c.commit.new.self c.self.inside.commits c.self.invariant (Rose (g.D.Disk.faults st.disk) (g.D.Disk.faults c.commit.new.self.disk)) w.in-Err.fault w.in-Err.ensures.answers.untouched w.in-Err.ensures.answers.write_fault w.in-Err.ensures.answers.no_read
    ]
