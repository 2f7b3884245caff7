-- The parts of a kernel, taken one by one: what holds of the whole holds of them, and the other way round.
use Rattle.std.proofs.Common.{◌≡◌, ℕ, List, sym, ap, subst, ◌∙◌}
use Rattle.std.specs.Prelude.{Result}
use Rattle.edge_disk.specs.declared.disk.Disk.{Ghosts}
use Rattle.script_types.specs.model_kernel.State.{Supply}
use Rattle.kernel_core_facts.specs.store_facts.State.{State}
use Rattle.kernel_core_facts.specs.cell_states.declared.cells.Cell.{Cell}
use Rattle.kernel_core_facts.specs.table_laws.Tables.{AreClean}
use Rattle.kernel_core_facts.specs.kernel_record_facts.Cells.{words_on}
use Rattle.kernel_core_facts.specs.kernel_commit_facts.Parts.{Noted, Parts, parts_of}
use Rattle.kernel_core_facts.specs.kernel_commit_facts.Steady.{IsSteady}
use Rattle.kernel_core_facts.specs.Looked.{StepsOnce}
use Rattle.kernel_core_facts.specs.declared.looked.Looked.{Looked}
use Rattle.kernel_core_facts.specs.kernel_invariant.declared.stopping.Stopped.{Stopped}

pub steady_inside : {D : Type 0} (disks : Ghosts D) (old : Parts D) (st : State D) (cs cs1 : List Cell) (n : Noted) → parts_of st cs n ≡ old → cs1 ≡ cs → IsSteady disks old → IsSteady disks (parts_of st cs1 n)
steady_inside {D = D} disks old st cs cs1 n view deref k = subst (λ (ks : List Cell). IsSteady disks (parts_of st ks n)) (sym deref) (subst (IsSteady disks) (sym view) k)

pub clean_inside : {D : Type 0} (disks : Ghosts D) (s : Supply) (old : Parts D) (st : State D) (cs cs1 : List Cell) (n : Noted) → parts_of st cs n ≡ old → cs1 ≡ cs
    → AreClean s (words_on (disks.reading old.store.disk)) old.cells → AreClean s (words_on (disks.reading st.disk)) cs1
clean_inside {D = D} disks s old st cs cs1 n view deref clean =
    subst (AreClean s (words_on (disks.reading st.disk))) (sym deref) (subst (λ (p : Parts D). AreClean s (words_on (disks.reading p.store.disk)) p.cells) (sym view) clean)

pub once_outside : {D : Type 0} (disks : Ghosts D) (s : Supply) (me : ℕ) (old : Parts D) (st : State D) (cs cs1 : List Cell) (n : Noted) → parts_of st cs n ≡ old → cs1 ≡ cs
    → (st' : State D) (cs' kept : List Cell) (n' : Noted) (r : Result Looked Stopped) → kept ≡ cs' → StepsOnce disks s me (parts_of st cs1 n) (parts_of st' cs' n') r → StepsOnce disks s me old (parts_of st' kept n') r
once_outside {D = D} disks s me old st cs cs1 n view deref st' cs' kept n' r same once =
    subst (λ (ks : List Cell). StepsOnce disks s me old (parts_of st' ks n') r) (sym same)
    (subst (λ (p : Parts D). StepsOnce disks s me p (parts_of st' cs' n') r) (ap (λ (ks : List Cell). parts_of st ks n) deref ∙ view) once)
