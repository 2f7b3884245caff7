-- What stopped a run: over a longer stretch, in a look, and in the births.
use Rattle.std.proofs.Common.{◌≡◌, inl, inr, ℕ, ◌<◌, ◌≤◌, List, Option, None, Some, Ok, Err, refl, sym, subst, ◌∙◌, arith}
use Rattle.std.proofs.lemmas.Option.{same_Some}
use Rattle.std.specs.Prelude.{IfErr, IfSome, IsErrOf, Result, ⊤}
use Rattle.edge_disk.specs.declared.disk.Disk.{Ghosts}
use Rattle.edge_disk.specs.Counts.{Rose}
use Rattle.edge_disk.specs.declared.disk.NoBlocks.{NoBlocks}
use Rattle.base_types.specs.declared.histories.Entry.{Entry}
use Rattle.script_types.specs.model_kernel.Histories.{Policy}
use Rattle.script_types.specs.model_kernel.Scripts.{Script}
use Rattle.kernel_core.specs.kernel_core_facts.cell_plans.declared.idle.Idle.{Idle as AnIdle}
use Rattle.kernel_core.specs.kernel_commit_facts.Parts.{Parts}
use Rattle.kernel_core.specs.kernel_commit_facts.Stabilising.{AreShort, needs_in}
use Rattle.kernel_core.specs.kernel_commit_facts.store_books.Books.{free_in, kept_names}
use Rattle.kernel_core.specs.kernel_commit_facts.store_facts.State.{books}
use Rattle.kernel_core.specs.kernel_commits.Stops.{IsCause}
use Rattle.kernel_core.specs.kernel_commits.Telling.{FailsByDisk, FailsByWrite, Tells, TriesByAnswer}
use Rattle.kernel_core.specs.kernel_commits.declared.stopping.Stop.{Stop}
use Rattle.kernel_core.specs.kernel_commits.declared.stopping.Stop.TheVariants as stop
use Rattle.kernel_core.specs.kernel_invariant.declared.stopping.Stopped.{Stopped}
use Rattle.kernel_core.specs.kernel_invariant.declared.stopping.Stopped.TheVariants as reason
use Rattle.kernel_core.specs.kernel_core_facts.Bearing.{IsShortBehind}
use Rattle.kernel_core.specs.kernel_core_facts.Looking.{StopsLook, WasShort}
use Rattle.kernel_run_facts.specs.Running.{IsCauseOf, past_idle}
use Rattle.edge_disk.proofs.Ticks.{Rose-before}

-- the cause of a part of a stretch is one of the whole
pub cause_from : {D : Type 0} (disks : Ghosts D) (policy : Policy) (old mid new : Parts D) (s : Stop) → disks.faults old.store.disk ≤ disks.faults mid.store.disk
    → disks.faults mid.store.disk ≤ disks.faults new.store.disk → IsCauseOf disks policy mid new s → IsCauseOf disks policy old new s
cause_from disks policy old mid new (stop.Idle why) low later cause = cause
cause_from disks policy old mid new (stop.NoBlocks n) low later cause = cause
cause_from disks policy old mid new stop.ReadFault low later cause = Rose-before (disks.faults old.store.disk) (disks.faults mid.store.disk) (disks.faults new.store.disk) low later cause
cause_from disks policy old mid new stop.WriteFault low later cause = Rose-before (disks.faults old.store.disk) (disks.faults mid.store.disk) (disks.faults new.store.disk) low later cause
cause_from disks policy old mid new stop.Shut low later cause = cause

-- a kernel that such a cause met goes on no more
pub has_stopped : {D : Type 0} (T : Type 0) (disks : Ghosts D) (policy : Policy) (old new : Parts D) (s : Stop) (o : Option Stopped) → Tells {T = T} (Err s) o → IsCauseOf disks policy old new s → o ≡ None → ⊥
has_stopped T disks policy old new (stop.Idle why) o tells cause none = cause
has_stopped T disks policy old new (stop.NoBlocks n) o tells cause none = (let clash : Some (reason.NoBlocks n) ≡ None = sym tells ∙ none in cc clash)
has_stopped T disks policy old new stop.ReadFault o tells cause none = (let clash : Some reason.ReadFault ≡ None = sym tells ∙ none in cc clash)
has_stopped T disks policy old new stop.WriteFault o tells cause none = (let clash : Some reason.WriteFault ≡ None = sym tells ∙ none in cc clash)
has_stopped T disks policy old new stop.Shut o tells cause none = cause

fewer_by : (need free : ℕ) (n : NoBlocks) → n ≡ record { need = need; free = free } → free < need → n.free < n.need
fewer_by need free n is lt = subst (λ (m : NoBlocks). m.free < m.need) (sym is) lt

-- so fewer blocks were free than were needed
stable_fewer : {D : Type 0} (p : Parts D) (n : NoBlocks) → AreShort p n → n.free < n.need
stable_fewer p n short = fewer_by (needs_in (kept_names (books p.store)) p.cells) (free_in (books p.store)) n short.numbers short.fewer

short_fewer : {D : Type 0} (disks : Ghosts D) (policy : Policy) (new : Parts D) (n : NoBlocks) → WasShort disks policy new n → n.free < n.need
short_fewer disks policy new n was = elim was as (λ _. n.free < n.need) [
  | inl stable ↦ stable_fewer new n stable
  | inr look ↦ elim look.2 as (λ _. n.free < n.need) [
    | inl at_step ↦ fewer_by 1 0 n at_step.cause.short.short.short.numbers (omega arith)
    | inr behind ↦ behind.leaves.cause
  ]
]

-- and what it keeps is that cause
pub cause_kept : {D T : Type 0} (disks : Ghosts D) (policy : Policy) (old new : Parts D) (r : Result T Stop) (o : Option Stopped) → Tells r o → IfErr r (IsCauseOf disks policy old new) → (why : Stopped) → o ≡ Some why
    → IsCause disks.faults old new why
cause_kept disks policy old new (Ok y) o tells cause why is = absurd (let clash : None ≡ Some why = sym tells ∙ is in cc clash)
cause_kept disks policy old new (Err (stop.Idle w)) o tells cause why is = absurd cause
cause_kept disks policy old new (Err (stop.NoBlocks n)) o tells cause why is = subst (IsCause disks.faults old new) (same_Some (reason.NoBlocks n) why (sym tells ∙ is)) (short_fewer disks policy new n cause)
cause_kept disks policy old new (Err stop.ReadFault) o tells cause why is = subst (IsCause disks.faults old new) (same_Some reason.ReadFault why (sym tells ∙ is)) cause
cause_kept disks policy old new (Err stop.WriteFault) o tells cause why is = subst (IsCause disks.faults old new) (same_Some reason.WriteFault why (sym tells ∙ is)) cause
cause_kept disks policy old new (Err stop.Shut) o tells cause why is = absurd cause

-- WHAT STOPPED A LOOK, where idle loci are passed over

pub look_cause : {D : Type 0} (T : Type 0) (disks : Ghosts D) (policy : Policy) (me : ℕ) (old new : Parts D) (s : Stop) (o : Option Stopped) → Tells {T = T} (Err s) o → IfSome o (StopsLook disks policy me old new)
    → FailsByDisk (Rose (disks.faults old.store.disk) (disks.faults new.store.disk)) s → IfErr (past_idle s) (IsCauseOf disks policy old new)
look_cause T disks policy me old new (stop.Idle why) o tells stops fails = tt
look_cause T disks policy me old new (stop.NoBlocks n) o tells stops fails = inr (me, old, subst (λ k. IfSome k (StopsLook disks policy me old new)) tells stops)
look_cause T disks policy me old new stop.ReadFault o tells stops fails = fails
look_cause T disks policy me old new stop.WriteFault o tells stops fails = fails
look_cause T disks policy me old new stop.Shut o tells stops fails = absurd tells

pub tells_past : (T : Type 0) (s : Stop) (o : Option Stopped) → Tells {T = T} (Err s) o → Tells (past_idle s) o
tells_past T (stop.Idle why) o tells = tells
tells_past T (stop.NoBlocks n) o tells = tells
tells_past T stop.ReadFault o tells = tells
tells_past T stop.WriteFault o tells = tells
tells_past T stop.Shut o tells = tells

pub tries_past : (T : Type 0) (s : Stop) (old new : List Entry) → TriesByAnswer {T = T} (Err s) old new → TriesByAnswer (past_idle s) old new
tries_past T (stop.Idle why) old new tries = tries
tries_past T (stop.NoBlocks n) old new tries = tries
tries_past T stop.ReadFault old new tries = tries
tries_past T stop.WriteFault old new tries = tries
tries_past T stop.Shut old new tries = tries

-- and what stopped the births
pub births_cause : {D : Type 0} (disks : Ghosts D) (policy : Policy) (script : Script) (old new : Parts D) (s : Stop) → IsShortBehind script (λ n. IsErrOf {T = ⊤} (Err s) (stop.NoBlocks n)) old new
    → FailsByWrite (Rose (disks.faults old.store.disk) (disks.faults new.store.disk)) s → IsCauseOf disks policy old new s
births_cause disks policy script old new (stop.Idle why) short fails = fails
births_cause {D} disks policy script old new (stop.NoBlocks n) short fails = inl (subst (λ (p : Parts D). AreShort p n) (sym (short.untouched n refl)) ((short.exact n).0 refl).1)
births_cause disks policy script old new stop.ReadFault short fails = absurd fails
births_cause disks policy script old new stop.WriteFault short fails = fails
births_cause disks policy script old new stop.Shut short fails = fails

-- what is no idle locus is handed on
pub past_other : (s : Stop) → ((why : AnIdle) → s ≡ stop.Idle why → ⊥) → IsErrOf (past_idle s) s
past_other (stop.Idle why) not = absurd (not why refl)
past_other (stop.NoBlocks n) not = refl
past_other stop.ReadFault not = refl
past_other stop.WriteFault not = refl
past_other stop.Shut not = refl
