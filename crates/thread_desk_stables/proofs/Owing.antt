-- What is known of a kernel behind a step that owes a Stable, and behind its Stable.
use Rattle.std.proofs.Common.{◌≡◌, ℕ, zero, suc, ◌+◌, ◌<◌, slice_get, Bool, true, false, List, [], ◌∷◌, ◌++◌, length, Option, Some, None, Ok, Err, refl, sym, ap, subst, ◌∙◌, arith, length-append}
use Rattle.std.specs.Prelude.{IfSome, Result, ⊤, if◌then◌else◌}
use Rattle.std.proofs.lemmas.Option.{same_Some}
use Rattle.edge_disk.specs.declared.disk.Disk.{Ghosts}
use Rattle.base_types.specs.declared.histories.Entry.{Entry}
use Rattle.thread_stables.specs.kernel_core_facts.cell_states.declared.cells.Cell.{Cell}
use Rattle.thread_stables.specs.kernel_core_facts.kernel_commit_facts.Parts.{Noted, Parts, StandsAs, parts_of}
use Rattle.thread_stables.specs.kernel_core_facts.kernel_invariant.Beginnings.{Beginning, state_after}
use Rattle.thread_stables.specs.kernel_core_facts.kernel_invariant.Live.{IsCalm}
use Rattle.thread_stables.specs.kernel_core_facts.kernel_invariant.declared.stopping.Stopped.{Stopped}
use Rattle.thread_stables.specs.kernel_core_facts.kernel_record_facts.Cells.{words_on}
use Rattle.thread_stables.specs.kernel_core_facts.store_facts.State.{State, books}
use Rattle.thread_stables.specs.kernel_core_facts.table_births.model_kernel.Histories.{Policy}
use Rattle.thread_stables.specs.kernel_core_facts.table_births.model_kernel.State.{KernelState, Supply}
use Rattle.thread_stables.specs.kernel_core_facts.table_laws.Tables.{AreClean}
use Rattle.thread_stables.specs.kernel_core_facts.table_steps.declared.stepping.Made.{Made as Step}
use Rattle.thread_stables.specs.kernel_core_facts.Looked.{StepsOnce}
use Rattle.thread_stables.specs.kernel_core_facts.Stepping.{is_owing}
use Rattle.thread_stables.specs.kernel_core_facts.declared.looked.Looked.{Looked}
use Rattle.thread_stables.specs.kernel_core_facts.declared.looked.Looked.TheVariants.{Idle, Made}
use Rattle.thread_stables.proofs.kernel_core_facts_lemmas.Kept.{runs_free}
use Rattle.thread_stables.specs.thread_commits.Snapping.{AddsAmong}
use Rattle.thread_stables.proofs.thread_commits_lemmas.Adding.{among_then}
use Rattle.thread_desk_looks.specs.thread_desk.Desks.{Terms, IsKernel, knowing}
use Rattle.thread_desk_looks.specs.thread_desk.Sights.{AreKnown}
use Rattle.thread_desk_looks.proofs.Looked.{goes_steady, known_after}
use Rattle.thread_desk_stables.specs.Looks.{LooksOrOwes, owes_by, owing_by}
use Rattle.thread_desk_stables.specs.Rows.{LetsGo}
use Rattle.thread_stables.specs.thread_looks.Looking.{LooksAsSerial, NotesLook}
use Rattle.thread_stables.specs.thread_looks.Looking.NotesLook.{Nothing, StepFirst}
use Rattle.thread_stables.proofs.thread_looks_lemmas.After.{kept_ended, kept_stopped}
use Rattle.thread_stables.specs.thread_settling.Settling.{Settles}
use Rattle.thread_stables.proofs.Settled.{stable_behind}

abbrev look_made : Step → Result Looked Stopped
look_made m = Ok (Made m)

-- which step owes one
is_made : (m q : Step) (t : Bool) → is_owing q.instr q.entry.answer ≡ t → (if t then Some q else None) ≡ Some m → (Some (look_made q) ≡ Some (look_made m)) × (is_owing m.instr m.entry.answer ≡ true)
is_made m q true owes is = let same : q ≡ m = same_Some q m is in (ap (λ z. Some (look_made z)) same, subst (λ (z : Step). is_owing z.instr z.entry.answer ≡ true) same owes)
is_made m q false owes is = absurd (cc is)

pub owing_made : (came : Option (Result Looked Stopped)) (m : Step) → owing_by came ≡ Some m → (came ≡ Some (look_made m)) × (is_owing m.instr m.entry.answer ≡ true)
owing_made (Some (Ok (Made q))) m is = is_made m q (is_owing q.instr q.entry.answer) refl is
owing_made (Some (Ok (Idle why))) m is = absurd (cc is)
owing_made (Some (Err why)) m is = absurd (cc is)
owing_made None m is = absurd (cc is)

none_owes : (q : Step) (t : Bool) → (if t then Some q else None) ≡ None → t ≡ false
none_owes q true is = absurd (cc is)
none_owes q false is = refl

-- where none does it is the whole look
module _ {D : Type 0} (disks : Ghosts D) (supply : Supply) (policy : Policy) (me : ℕ) (old new : Parts D) where
  pub not_owing : (came : Option (Result Looked Stopped)) → owing_by came ≡ None → IfSome came (LooksOrOwes disks supply policy me old new) → IfSome came (LooksAsSerial disks supply policy me old new)
  not_owing (Some (Ok (Made q))) is h = h.looks (none_owes q (is_owing q.instr q.entry.answer) is)
  not_owing (Some (Ok (Idle why))) is h = h.looks refl
  not_owing (Some (Err why)) is h = h.looks refl
  not_owing None is h = tt

  -- and where one does it is the step
  pub owing_step : (came : Option (Result Looked Stopped)) (m : Step) → owing_by came ≡ Some m → IfSome came (LooksOrOwes disks supply policy me old new) → StepsOnce disks supply me old new (look_made m)
  owing_step came m is h =
      let o = owing_made came m is in
      let made : LooksOrOwes disks supply policy me old new (look_made m) = subst (λ (q : Option (Result Looked Stopped)). IfSome q (LooksOrOwes disks supply policy me old new)) o.0 h in
      made.owing o.1

-- THE LOOK with its Stable
module _ {D : Type 0} (disks : Ghosts D) (supply : Supply) (policy : Policy) (me : ℕ) (old mid new : Parts D) (m : Step) (step : StepsOnce disks supply me old mid (look_made m))
    (owes : is_owing m.instr m.entry.answer ≡ true) (r : Result ⊤ Stopped) (settles : Settles disks m.entry.actor r mid new) where
  pub stable_ended : r ≡ Ok tt → (came : Option (Result Looked Stopped)) → came ≡ Some (look_made m) → IfSome came (LooksAsSerial disks supply policy me old new)
  stable_ended ok came is =
      subst (λ (q : Option (Result Looked Stopped)). IfSome q (LooksAsSerial disks supply policy me old new)) (sym is)
      (kept_ended disks supply policy me old mid m step true owes new
      (stable_behind disks policy m.entry (Ok tt) mid new (subst (λ (q : Result ⊤ Stopped). Settles disks m.entry.actor q mid new) ok settles)))

  pub stable_stopped : (why : Stopped) → r ≡ Err why → LooksAsSerial disks supply policy me old new (Err why)
  stable_stopped why err =
      kept_stopped disks supply policy me old mid m step true owes new why
      (stable_behind disks policy m.entry (Err why) mid new (subst (λ (q : Result ⊤ Stopped). Settles disks m.entry.actor q mid new) err settles))

  -- what it notes
  pub stable_notes : (xs : List ℕ) → NotesLook me xs old.noted.entries mid.noted.entries → NotesLook me xs old.noted.entries new.noted.entries
  stable_notes xs (Nothing same) =
      absurd (let longer : length (old.noted.entries ++ m.entry ∷ []) ≡ length old.noted.entries = ap length (sym step.made.entries ∙ same) in
      let len = length-append old.noted.entries (m.entry ∷ []) in omega (arith, longer, len))
  stable_notes xs (StepFirst e event actor among behind) =
      StepFirst e event actor among (among_then [] (old.noted.entries ++ e ∷ []) mid.noted.entries new.noted.entries behind settles.adds)

-- THE KERNEL BEHIND THE STEP
module _ {D : Type 0} (disks : Ghosts D) (b : Beginning) (terms : Terms) (kept : List Entry) (supply : Supply) (policy : Policy) (same_supply : b.supply ≡ supply) (same_policy : b.policy ≡ policy)
    (me : ℕ) (cs : List Cell) (n : Noted) (es : List Entry) (st : State D) (k : IsKernel disks b terms kept (knowing [] cs n es None) st) where
  abbrev old : Parts D
  old = parts_of st cs n

  stands : terms.told → StandsAs disks b old
  stands told = (runs_free disks me old old (k.is_kept.steady refl) b policy same_policy (k.lives told)).stands

  calm : terms.told → IsCalm b n.entries
  calm told = (k.lives told).live.calm refl

  module _ (st' : State D) (cs' : List Cell) (n' : Noted) (es' : List Entry) (entries : n'.entries ≡ kept ++ es') where
    abbrev new : Parts D
    new = parts_of st' cs' n'

    pub owing_lets : (m : Step) → StepsOnce disks supply me old new (look_made m) → LetsGo disks terms.told b kept es' new
    owing_lets m s = record {
      known = record {
        order = record { held = (books st').held; orderly = s.steady.sound.matches.orderly };
        state = λ told x. ap (λ (w : KernelState). w x) (s.run (k.tells told) b same_supply (stands told) (calm told)).stands.runs.follows.state ∙ ap (λ fs. state_after b fs x) entries;
      };
      tells = k.tells;
      clean = λ told. subst (λ z. AreClean z (words_on (disks.reading st'.disk)) cs') (sym same_supply) (s.clean told);
    }

    abbrev Came : Result Looked Stopped → Type 0
    Came r = LooksOrOwes disks supply policy me old new r

    whole : (r : Result Looked Stopped) → LooksAsSerial disks supply policy me old new r → AreKnown disks terms.told b kept st' cs' es'
    whole r s = known_after disks b terms kept supply policy same_supply same_policy me [] cs n es st k st' cs' n' [] es' entries (Some r) s (λ is. absurd (cc is))

    made_known : (m : Step) (t : Bool) → is_owing m.instr m.entry.answer ≡ t → Came (look_made m) → AreKnown disks terms.told b kept st' cs' es'
    made_known m true is h = (owing_lets m (h.owing is)).known
    made_known m false is h = whole (look_made m) (h.looks is)

    pub first_known : (came : Option (Result Looked Stopped)) → IfSome came Came → (came ≡ None → (new ≡ old) × (es' ≡ es)) → AreKnown disks terms.told b kept st' cs' es'
    first_known (Some (Ok (Made m))) h undone = made_known m (is_owing m.instr m.entry.answer) refl h
    first_known (Some (Ok (Idle why))) h undone = whole (Ok (Idle why)) (h.looks refl)
    first_known (Some (Err why)) h undone = whole (Err why) (h.looks refl)
    first_known None h undone = known_after disks b terms kept supply policy same_supply same_policy me [] cs n es st k st' cs' n' [] es' entries None tt undone

-- the desk's kernel without the list of its stores
pub without_stores : {D : Type 0} (disks : Ghosts D) (b : Beginning) (terms : Terms) (kept : List Entry) (ss : List (State D)) (cs : List Cell) (n : Noted) (es : List Entry) (st : State D)
    → IsKernel disks b terms kept (knowing ss cs n es None) st → IsKernel disks b terms kept (knowing [] cs n es None) st
without_stores disks b terms kept ss cs n es st k = record { is_kept = k.is_kept; counted = k.counted; clean = k.clean; tells = k.tells; lives = k.lives; along = k.along; entries = k.entries }

-- some cell stands at each place
pub some_at : {A : Type 0} (xs : List A) (i : ℕ) → i < length xs → (x : A) × (slice_get xs i ≡ Some x)
some_at [] i lt = absurd (omega (arith, lt))
some_at (x ∷ xs) zero lt = (x, refl)
some_at (x ∷ xs) (suc i) lt = some_at xs i (omega (arith, lt))
