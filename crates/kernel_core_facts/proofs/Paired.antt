-- Two tables of one length, cell by cell, and the versions of a steady kernel's cells.
use Rattle.std.proofs.Common.{◌≡◌, ◌⊎◌, inl, inr, ℕ, zero, suc, List, [], ◌∷◌, length, slice_get, Some, None, refl, ap, arith}
use Rattle.edge_disk.specs.declared.disk.Disk.{Ghosts}
use Rattle.table_births.specs.cell_states.declared.cells.Cell.{Cell}
use Rattle.table_births.specs.table_laws.Tables.{AreFewWrites}
use Rattle.kernel_commits.specs.kernel_book_laws.Matching.{version_at, version_of}
use Rattle.kernel_commits.specs.kernel_commit_facts.Parts.{Parts}
use Rattle.kernel_commits.specs.kernel_commit_facts.Steady.{IsSteady}
use Rattle.kernel_commits.proofs.kernel_commit_facts_lemmas.Steadying.{entry_room}

abbrev pub Both : List Cell → List Cell → ℕ → Type 0
Both cs cs' x = (c : Cell) × (d : Cell) × (slice_get cs x ≡ Some c) × (slice_get cs' x ≡ Some d)

pub both_or : (cs cs' : List Cell) → length cs' ≡ length cs → (x : ℕ) → Both cs cs' x ⊎ ((slice_get cs x ≡ None) × (slice_get cs' x ≡ None))
both_or [] [] len x = inr (refl, refl)
both_or [] (d ∷ cs') len x = absurd (omega (arith, len))
both_or (c ∷ cs) [] len x = absurd (omega (arith, len))
both_or (c ∷ cs) (d ∷ cs') len zero = inl (c, d, refl, refl)
both_or (c ∷ cs) (d ∷ cs') len (suc x) = both_or cs cs' (omega (arith, len)) x

-- each version may rise
pub few_writes : {D : Type 0} (disks : Ghosts D)
    → (p : Parts D) → IsSteady disks p → AreFewWrites p.cells
few_writes disks p k x c at =
    let le = k.few.versions x in
    let is : version_of p.cells x ≡ c.clock.version = ap version_at at in
    let lt = entry_room disks p k in
    let small = k.few.small in
    omega (arith, le, is, lt, small)
