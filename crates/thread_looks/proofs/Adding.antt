-- What is noted in a look, and which entities it writes.
use Rattle.std.proofs.Common.{◌≡◌, ℕ, List, [], ◌∷◌, ◌++◌, Ok, Err, refl, sym, ap, subst, ◌∙◌}
use Rattle.std.specs.Prelude.{IfOk, Result}
use Rattle.edge_disk.specs.declared.disk.Disk.{Ghosts}
use Rattle.base_types.specs.declared.histories.Entry.{Entry}
use Rattle.kernel_core_facts.specs.table_births.model_kernel.State.{Supply}
use Rattle.kernel_core_facts.specs.cell_states.declared.cells.Cell.{Cell}
use Rattle.kernel_core_facts.specs.cell_plans.declared.idle.Idle.{Idle as AnIdle}
use Rattle.kernel_core_facts.specs.kernel_commit_facts.Parts.{Noted, Parts}
use Rattle.kernel_core_facts.specs.kernel_invariant.declared.stopping.Stopped.{Stopped}
use Rattle.kernel_core_facts.specs.table_steps.declared.stepping.Made.{Made as Step}
use Rattle.kernel_core_facts.specs.Looked.{IfMade, StepsOnce}
use Rattle.kernel_core_facts.specs.declared.looked.Looked.{Looked}
use Rattle.kernel_core_facts.specs.declared.looked.Looked.TheVariants.{Idle, Made}
use Rattle.thread_cell_steps.specs.Advancing.{TouchesThese}
use Rattle.thread_commits.specs.Snapping.{AddsAmong}
use Rattle.thread_commits.proofs.Adding.{among_any, among_entry, among_still, among_then}
use Rattle.thread_looks.specs.Looking.{NotesBehind, NotesLook}
use Rattle.thread_looks.specs.Looking.NotesLook.{Nothing, StepFirst}
use Rattle.thread_looks.proofs.Ends.{ok_look}

-- what is noted behind what a step came to
module _ (came : Result Looked Stopped) (old : List Entry) where
  pub behind_made : (o : Looked) (m : Step) (new : List Entry) → came ≡ Ok o → o ≡ Made m → AddsAmong [] old new → NotesBehind came old new
  behind_made o m new is made adds = subst (λ (q : Result Looked Stopped). NotesBehind q old new) (sym (is ∙ ap ok_look made)) adds

  pub behind_idle : (o : Looked) (why : AnIdle) → came ≡ Ok o → o ≡ Idle why → NotesBehind came old old
  behind_idle o why is idle = subst (λ (q : Result Looked Stopped). NotesBehind q old old) (sym (is ∙ ap ok_look idle)) refl

  pub behind_failed : (why : Stopped) → came ≡ Err why → NotesBehind came old old
  behind_failed why is = subst (λ (q : Result Looked Stopped). NotesBehind q old old) (sym is) refl

-- nothing was done
pub undone_notes : {D : Type 0} (me : ℕ) (xs : List ℕ) (old new : Parts D) → new ≡ old → NotesLook me xs old.noted.entries new.noted.entries
undone_notes {D = D} me xs old new same = Nothing (ap (λ (p : Parts D). p.noted.entries) same)

-- a step, and what is noted behind it
pub look_notes : {D : Type 0} (disks : Ghosts D) (supply : Supply) (me : ℕ) (cs : List Cell) (lent : List ℕ) (old mid : Parts D) (new : List Entry) (came : Result Looked Stopped)
    → StepsOnce disks supply me old mid came → IfOk came (λ o. IfMade o (TouchesThese cs me lent)) → NotesBehind came mid.noted.entries new → NotesLook me (me ∷ lent) old.noted.entries new
look_notes {D = D} disks supply me cs lent old mid new (Ok (Made m)) step touches behind =
    StepFirst m.entry step.made.enters.event step.made.enters.actor touches.only (subst (λ es. AddsAmong [] es new) step.made.entries behind)
look_notes {D = D} disks supply me cs lent old mid new (Ok (Idle why)) step touches behind = Nothing (behind ∙ ap (λ (p : Parts D). p.noted.entries) (step.still why refl))
look_notes {D = D} disks supply me cs lent old mid new (Err why) step touches behind = Nothing (behind ∙ ap (λ (n : Noted). n.entries) step.failed.noted)

-- so no other entity is written
pub look_among : (me : ℕ) (xs : List ℕ) (old new : List Entry) → NotesLook me xs old new → AddsAmong xs old new
look_among me xs old new (Nothing same) = among_still xs old new same
look_among me xs old new (StepFirst e event actor among behind) =
    among_then xs old (old ++ e ∷ []) new (among_entry xs old (old ++ e ∷ []) e refl among) (among_any xs (old ++ e ∷ []) new behind)
