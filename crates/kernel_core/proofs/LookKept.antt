-- What a look at a locus leaves of a kernel, whatever came of it.
use Rattle.std.proofs.Common.{◌≡◌, ◌⊎◌, ◌↔◌, inl, inr, ℕ, List, ◌++◌, Option, Ok, Err, refl, sym, ap, subst}
use Rattle.std.specs.Prelude.{IfErr, IfOk, IfSome, IsErrOf, OnOk, Result}
use Rattle.std.specs.Result.{result_err}
use Rattle.edge_disk.specs.declared.disk.Disk.{Ghosts}
use Rattle.base_types.specs.declared.histories.Entry.{Entry}
use Rattle.script_types.specs.model_kernel.Histories.{Policy}
use Rattle.kernel_core_facts.specs.table_laws.Tables.{IsOrderly}
use Rattle.kernel_core_facts.specs.store_facts.State.{books}
use Rattle.kernel_core_facts.specs.kernel_invariant.Beginnings.{Beginning, run_of}
use Rattle.kernel_core_facts.specs.model_serial.Serial.{look}
use Rattle.kernel_core_facts.specs.Kernels.{IsKept, Lives}
use Rattle.kernel_core_facts.specs.Looking.{LooksInRun, StopsLook}
use Rattle.kernel_core_facts.specs.declared.looked.Looked.{Looked}
use Rattle.kernel_core_facts.specs.kernel_commit_facts.Parts.{Parts}
use Rattle.kernel_core_facts.specs.kernel_commit_facts.Steady.{IsSteady}
use Rattle.kernel_core_facts.specs.cell_plans.declared.idle.Idle.{Idle as AnIdle}
use Rattle.kernel_core_facts.specs.Looked.{IfMade}
use Rattle.kernel_core.specs.Answering.{answer_by}
use Rattle.kernel_core_facts.specs.declared.looked.Looked.TheVariants.{Idle, Made}
use Rattle.kernel_core_facts.specs.kernel_commits.Telling.{FailsByDisk, Tells, TriesAtWrite, TriesByAnswer}
use Rattle.kernel_core_facts.specs.kernel_commits.declared.stopping.Stop.TheVariants as stop
use Rattle.kernel_core_facts.specs.kernel_invariant.declared.stopping.Stopped.{Stopped}
use Rattle.kernel_core_facts.specs.kernel_invariant.declared.stopping.Stopped.TheVariants as reason
use Rattle.kernel_core_facts.proofs.Kept.{while_going}

module _ {D : Type 0} (disks : Ghosts D) (me : ℕ) (old new : Parts D) where
  orderly_by : (policy : Policy) (r : Result Looked Stopped) → OnOk r (IsSteady disks new) → IfSome (result_err r) (StopsLook disks policy me old new) → IsOrderly (books new.store).held new.cells
  orderly_by policy (Ok t) steady stopped = steady.sound.matches.orderly
  orderly_by policy (Err why) steady stopped = elim stopped as (λ _. IsOrderly (books new.store).held new.cells) [
    | inl at_step ↦ at_step.orderly
    | inr behind ↦ behind.leaves.orderly
  ]

  pub look_kept : (policy : Policy) (r : Result Looked Stopped) → OnOk r (IsSteady disks new) → IfSome (result_err r) (StopsLook disks policy me old new)
      → (o : Option Stopped) → o ≡ result_err r → IsKept disks (record { parts = new; stop = o })
  look_kept policy r steady stopped o is = record { orderly = orderly_by policy r steady stopped; steady = while_going r steady o is }

  -- IN A RUN

  abbrev IsLiving : Beginning → Parts D → Option Stopped → Type 0
  IsLiving b p o = Lives disks b (record { parts = p; stop = o })

  pub look_lives : (b : Beginning) (policy : Policy) (r : Result Looked Stopped) → LooksInRun disks b policy me r old new → (o : Option Stopped) → o ≡ result_err r → IsLiving b new o
  look_lives b policy (Err why) l o is = subst (IsLiving b new) (sym is) (record { live = l.lives; clean = λ none. absurd (cc none) })
  look_lives b policy (Ok t) l o is = subst (IsLiving b new) (sym is) (record {
    live = record { running = l.stands.runs; calm = λ _. l.calm };
    clean = λ _. l.stands.clean;
  })

  abbrev pub Entries : Beginning → Policy → Result Looked Stopped → Type 0
  Entries b policy r = OnOk r (new.noted.entries ≡ old.noted.entries ++ look b.supply policy b.script (run_of b old.noted.entries) me)

  pub look_entries : (b : Beginning) (policy : Policy) → b.policy ≡ policy → (r : Result Looked Stopped) → LooksInRun disks b policy me r old new → Entries b b.policy r
  look_entries b policy same r l = subst (λ q. Entries b q r) (sym same) l.entries

-- WHAT IS ANSWERED of what a look came to

pub tells_look : (r : Result Looked Stopped) (o : Option Stopped) → o ≡ result_err r → Tells (answer_by r) o
tells_look (Ok (Made m)) o is = is
tells_look (Ok (Idle w)) o is = is
tells_look (Err (reason.NoBlocks n)) o is = is
tells_look (Err reason.ReadFault) o is = is
tells_look (Err reason.WriteFault) o is = is

pub tries_answer : (r : Result Looked Stopped) (old new : List Entry) → TriesAtWrite r old new → TriesByAnswer (answer_by r) old new
tries_answer (Ok (Made m)) old new tries = tries
tries_answer (Ok (Idle w)) old new tries = tries
tries_answer (Err (reason.NoBlocks n)) old new tries = tries
tries_answer (Err reason.ReadFault) old new tries = tries
tries_answer (Err reason.WriteFault) old new tries = tt

pub fails_look : (r : Result Looked Stopped) (P : Type 0) → (IsErrOf r reason.ReadFault ⊎ IsErrOf r reason.WriteFault → P) → IfErr (answer_by r) (FailsByDisk P)
fails_look (Ok (Made m)) P rose = tt
fails_look (Ok (Idle w)) P rose = tt
fails_look (Err (reason.NoBlocks n)) P rose = tt
fails_look (Err reason.ReadFault) P rose = rose (inl refl)
fails_look (Err reason.WriteFault) P rose = rose (inr refl)

pub made_look : (r : Result Looked Stopped) (P : Entry → Type 0) → IfOk r (λ o. IfMade o (λ m. P m.entry)) → IfOk (answer_by r) P
made_look (Ok (Made m)) P made = made
made_look (Ok (Idle w)) P made = tt
made_look (Err why) P made = tt

pub idle_look : (r : Result Looked Stopped) (w : AnIdle) → (r ≡ Ok (Idle w)) ↔ (answer_by r ≡ Err (stop.Idle w))
idle_look (Ok (Made m)) w = ((λ is. absurd (cc is)), (λ is. absurd (cc is)))
idle_look (Ok (Idle v)) w = ((λ is. let e : v ≡ w = cc is in ap (λ (k : AnIdle). Err (stop.Idle k)) e), (λ is. let e : v ≡ w = cc is in ap (λ (k : AnIdle). Ok (Idle k)) e))
idle_look (Err (reason.NoBlocks n)) w = ((λ is. absurd (cc is)), (λ is. absurd (cc is)))
idle_look (Err reason.ReadFault) w = ((λ is. absurd (cc is)), (λ is. absurd (cc is)))
idle_look (Err reason.WriteFault) w = ((λ is. absurd (cc is)), (λ is. absurd (cc is)))
