-- A stop for want of blocks, where all needs fitted.
use Rattle.std.proofs.Common.{◌≡◌, ℕ, ◌≤◌, length, Option, Some, Err, ◌↔◌, refl, sym, ap, subst, ◌∙◌, arith}
use Rattle.std.specs.Prelude.{Result, ⊤}
use Rattle.edge_disk.specs.declared.disk.NoBlocks.{NoBlocks}
use Rattle.kernel_commit_facts.specs.table_laws.Tables.{IsOrderly}
use Rattle.kernel_commit_facts.specs.store_facts.State.{books}
use Rattle.kernel_commit_facts.specs.Parts.{Parts}
use Rattle.kernel_commit_facts.specs.Recording.{IsShort}
use Rattle.kernel_commit_facts.specs.Stabilising.{AreShort, NeedsFit}
use Rattle.kernel_commit_facts.specs.Steady.{IsSteady}
use Rattle.kernel_commits.specs.Stops.{LeavesStopped}
use Rattle.kernel_commit_facts.specs.kernel_invariant.declared.stopping.Stopped.{Stopped}
use Rattle.kernel_commit_facts.specs.kernel_invariant.declared.stopping.Stopped.TheVariants as reason
use Rattle.std.proofs.lemmas.Option.{same_Some}
use Rattle.edge_disk.specs.declared.disk.Disk.{Ghosts}
use Rattle.kernel_commit_facts.proofs.Fitting.{not_short}

abbrev pub stop_by : Stopped → Result ⊤ Stopped
stop_by why = Err why

module _ {D : Type 0} (disks : Ghosts D) where
  -- and no record comes short
  pub only_writes : {T : Type 0} (x : ℕ) (p : Parts D) (r : Result T Stopped) → NeedsFit p → ((n : NoBlocks) → r ≡ Err (reason.NoBlocks n) → IsShort disks x p n)
      → (r ≡ Err reason.ReadFault → ⊥) → (why : Stopped) → r ≡ Err why → why ≡ reason.WriteFault
  only_writes x p r fits short no_read (reason.NoBlocks n) is = absurd (not_short disks x p n fits (short n is))
  only_writes x p r fits short no_read reason.ReadFault is = absurd (no_read is)
  only_writes x p r fits short no_read reason.WriteFault is = refl

  pub short_stop : (old new : Parts D) (n : NoBlocks) → IsSteady disks old → new ≡ old → AreShort old n → LeavesStopped disks.faults (AreShort new) old new (reason.NoBlocks n)
  short_stop old new n steady same few = record {
    orderly = subst (λ (p : Parts D). IsOrderly (books p.store).held p.cells) (sym same) steady.sound.matches.orderly;
    marks = subst (λ (p : Parts D). length p.noted.marks ≤ length p.noted.entries) (sym same) steady.few.marks;
    cause =
        let free = ap (λ (q : NoBlocks). q.free) few.numbers in
        let need = ap (λ (q : NoBlocks). q.need) few.numbers in
        let lt = few.fewer in
        omega (arith, free, need, lt);
    wanting = λ m is. let numbers : n ≡ m = cc is in subst (AreShort new) numbers (subst (λ (p : Parts D). AreShort p n) (sym same) few);
  }

  -- where the answer is a shortage, it stops with both numbers
  pub stops_short : (p : Parts D) (o : Option NoBlocks) (m : NoBlocks) → o ≡ Some m → ((n : NoBlocks) → (o ≡ Some n) ↔ AreShort p n)
      → (n : NoBlocks) → (stop_by (reason.NoBlocks m) ≡ Err (reason.NoBlocks n)) ↔ AreShort p n
  stops_short p o m is some n = (
    (λ e. let same : m ≡ n = cc e in (some n).0 (is ∙ ap Some same)),
    (λ few. ap (λ q. stop_by (reason.NoBlocks q)) (same_Some m n (sym is ∙ (some n).1 few))),
  )
