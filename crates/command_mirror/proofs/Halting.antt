-- Where a kernel stands in its run that was halted, and how far it was followed.
use Rattle.std.proofs.Common.{◌≡◌, inl, inr, ℕ, ◌+◌, ◌≤◌, Bool, true, false, List, [], ◌++◌, length, None, Some, Ok, Err, refl, sym, ap, subst, ◌∙◌, arith}
use Rattle.std.specs.Prelude.{Result, if◌then◌else◌, ⊤}
use Rattle.std.proofs.lemmas.List.{append-nil}
use Rattle.base_types.specs.declared.histories.Entry.{Entry}
use Rattle.edge_disk.specs.Counts.{Rose}
use Rattle.edge_disk.specs.Image.{Image}
use Rattle.edge_disk.specs.declared.disk.Disk.{Ghosts}
use Rattle.kernel_core_facts.proofs.kernel_laws_lemmas.Starting.{script_runs}
use Rattle.kernel_core_facts.proofs.Begun.{goes_on_with}
use Rattle.command_open.specs.command_promises.Playing.{HasRun}
use Rattle.command_open.specs.command_promises.Manners.{told}
use Rattle.command_open.specs.command_promises.model_serial.Serial.{IsCut, IsStopped, IsWhole, opening}
use Rattle.command_open.specs.kernel_core_facts.Kernels.{Held, Lives}
use Rattle.command_open.specs.kernel_invariant.Beginnings.{Beginning, BeginsRight, IsLegal, completed}
use Rattle.command_open.specs.kernel_invariant.Live.{IsRunning, KernelView}
use Rattle.command_open.specs.model_births.Fitting.{Fits}
use Rattle.command_open.specs.store_facts.State.{books}
use Rattle.command_open.specs.table_births.Births.{atlas_state_in}
use Rattle.command_open.proofs.command_promises_lemmas.Played.{has_run, lines_same}
use Rattle.command_outcomes.specs.Ends.{Gains}
use Rattle.command_outcomes.specs.Seen.{Gave, SeenSink}
use Rattle.kernel_run_facts.specs.Running.{EndsRun, HasStopped, IsOver}
use Rattle.command_open.specs.kernel_invariant.declared.stopping.Stopped.{Stopped}
use Rattle.kernel_run_facts.specs.kernel_commits.kernel_views.Views.{view_of}
use Rattle.kernel_run_facts.specs.kernel_laws.Opening.{empty_script, with_script}
use Rattle.kernel_core_facts.proofs.model_serial_turns_lemmas.Stops.{stopped_looks, stopped_opening}
use Rattle.kernel_run_facts.specs.model_serial_turns.Turns.{IsCutIn, IsStoppedIn}
use Rattle.node_mirror.specs.Leaving.{MirrorLeaves, WasHaltedThere}
use Rattle.node_mirror.specs.declared.stops.MirrorHalt.{MirrorHalt}
use Rattle.node_mirror.specs.declared.stops.MirrorHalt.TheVariants as halt
use Rattle.node_standby.specs.Following.{Follows, IsImageBetween, most_in}
use Rattle.node_standby.specs.Standing.{Standing}
use Rattle.script_types.specs.Rules.{IsScript}
use Rattle.script_types.specs.model_kernel.Output.{output_of}
use Rattle.script_types.specs.model_kernel.Scripts.{Script}
use Rattle.script_types.specs.model_kernel.State.{Text}
use Rattle.command_mirror.specs.Playing.{LeavesFollowed, WasHalted}

-- A FRONT OF THE SERIAL HISTORY is a stopped one

pub stopped_none : (b : Beginning) → IsStopped b.supply b.policy b.script b.state []
stopped_none b = stopped_opening b.supply b.script b.policy b.state [] (IsStoppedIn.Completed (IsCutIn.At (opening b.supply b.script b.state) refl))

pub stopped_whole : (b : Beginning) (es : List Entry) → IsWhole b.supply b.policy b.script b.state es → IsStopped b.supply b.policy b.script b.state es
stopped_whole b es whole = IsStopped.Completed (IsCut.At (record { rounds_made = whole.rounds_made; rest = []; front = append-nil es ∙ whole.same }))

-- A watched run that is over, or has stopped, has ended as any
pub ends_over : {D : Type 0} (disks : Ghosts D) (b : Beginning) (k : Held D) → k.stop ≡ None → IsOver disks b k → EndsRun disks b k
ends_over disks b k going over = record { over = λ none. over; stopped = λ why is. absurd (none_is_some why (sym going ∙ is)) }
  where
    none_is_some : (why : Stopped) → None ≡ Some why → ⊥
    none_is_some why e = absurd (cc e)

pub ends_stopped : {D : Type 0} (disks : Ghosts D) (b : Beginning) (k : Held D) (why : Stopped) → k.stop ≡ Some why → HasStopped disks b k → EndsRun disks b k
ends_stopped disks b k why at stopped = record { over = λ none. absurd (none_is_some (sym none ∙ at)); stopped = λ other is. stopped }
  where
    none_is_some : None ≡ Some why → ⊥
    none_is_some e = absurd (cc e)

-- THE RUN MAY BEGIN where the kernel was opened for its script
pub begins_right : {D : Type 0} (disks : Ghosts D) (b : Beginning) (script : Script) (k : Held D) → b.script ≡ script → IsScript script → k.parts.noted.entries ≡ [] → Fits (atlas_state_in k.parts.cells) script
    → Lives disks (with_script b (empty_script b.script.steps)) k → BeginsRight b
begins_right disks b script k same rules first fits lives = (goes_on_with disks b script same rules k.parts first fits k.stop lives.live.running).begins

module _ {D : Type 0} (disks : Ghosts D) (new : Held D) (sink : SeenSink) (gave : Gave) (disk : D)
    (history : gave.history ≡ new.parts.noted.entries) (marks : gave.marks ≡ new.parts.noted.marks) (same : disk ≡ new.parts.store.disk) where
  abbrev lines : Text
  lines = output_of (atlas_state_in new.parts.cells) new.parts.noted.entries

  -- where it stands: it has made its history, a front of the serial one, and the lines that are put are the run's own
  pub record Stands (b : Beginning) : Type 0 where
    pub run : HasRun disks b gave disk
    pub part : IsStopped b.supply b.policy b.script b.state gave.history
    pub own : lines ≡ told output_of b gave.history

  module _ (b : Beginning) where
    abbrev IsPart : List Entry → Type 0
    IsPart es = IsStopped b.supply b.policy b.script b.state es

    of_lives : Lives disks b new → IsPart new.parts.noted.entries → Stands b
    of_lives lives part = record {
      run = has_run disks output_of new gave disk history marks same b lives;
      part = subst IsPart (sym history) part;
      own = lines_same disks output_of new gave disk history marks same b lives;
    }

    pub of_over : IsOver disks b new → Stands b
    of_over over = of_lives over.lives (stopped_whole b new.parts.noted.entries over.whole)

    pub of_stopped : HasStopped disks b new → Stands b
    of_stopped stopped = of_lives stopped.lives stopped.part

    of_there : WasHaltedThere disks b new → Stands b
    of_there there =
        of_lives there.along.lives
        (subst IsPart (append-nil new.parts.noted.entries)
        (stopped_looks b.supply b.script b.policy b.state there.looked new.parts.noted.entries [] []
        (record { same = append-nil new.parts.noted.entries ∙ there.along.looks.same }) there.first (IsStoppedIn.Completed (IsCutIn.At [] refl))))

    pub of_unbegun : BeginsRight b → new.parts.noted.entries ≡ [] → Lives disks (with_script b (empty_script b.script.steps)) new → Stands b
    of_unbegun right none lives =
        let view : KernelView = view_of disks.reading b new.parts.cells new.parts.store new.parts.noted.entries new.parts.noted.marks new.stop in
        let without : Beginning = with_script b (empty_script b.script.steps) in
        let running : IsRunning b disks view new.parts.store.disk = script_runs without disks view new.parts.store.disk b.script right refl none lives.live.running in
        record {
          run = record { view = view; running = subst (λ (d : D). IsRunning b disks view d) (sym same) running; history = sym history; marks = sym marks };
          part = subst IsPart (sym (history ∙ none)) (stopped_none b);
          own = ap (λ (es : List Entry). output_of (atlas_state_in new.parts.cells) es) none ∙ sym (ap (told output_of b) (history ∙ none));
        }

    -- by how the mirrored run was halted
    pub halted_stands : (why : MirrorHalt) → BeginsRight b → MirrorLeaves disks b (Err why) new → Stands b
    halted_stands (halt.Kernel why) right (inl none) = of_unbegun right none.none none.lives
    halted_stands (halt.Kernel why) right (inr stopped) = of_stopped stopped
    halted_stands halt.Memory right (inl none) = of_unbegun right none.none none.lives
    halted_stands halt.Memory right (inr there) = of_there there
    halted_stands (halt.Round why) right (inl there) = of_there there
    halted_stands (halt.Round why) right (inr over) = of_over over

    -- with a line behind those of the run
    pub was_halted : (line : Text) → Stands b → Gains sink (lines ++ line) → WasHalted disks b sink gave disk line
    was_halted line stands put = record { run = stands.run; part = stands.part; output = subst (λ (text : Text). Gains sink (text ++ line)) stands.own put }

-- HOW FAR IT WAS FOLLOWED

higher : (b : Beginning) (es : List Entry) (low high more : ℕ) (c : Image) → high ≤ more → IsImageBetween b es low high c → IsImageBetween b es low more c
higher b es low high more c le h = record { k = h.k; at_least = h.at_least; at_most = (let at_most = h.at_most in omega (arith, at_most, le)); within = h.within; image = h.image }

module _ {E : Type 0} (disks : Ghosts E) (st new : Standing E) (faults : ℕ) (shut : (books new.store).shut ≡ true → Rose faults (disks.faults new.store.disk))
    (b : Beginning) (es : List Entry) (follows : Follows b [] disks st → Follows b es disks new)
    (law : (c : Image) → disks.tells → Follows b es disks new → disks.may_leave new.store.disk c → IsImageBetween b es new.count (most_in new) c) where
  most_more : most_in new ≤ new.count + 1
  most_more = elim ((books new.store).shut) as (λ t. (if t then new.count + 1 else new.count) ≤ new.count + 1) [ true ↦ omega arith | false ↦ omega arith ]

  images : disks.tells → Follows b [] disks st → (c : Image) → disks.may_leave new.store.disk c → IsImageBetween b es new.count (new.count + 1) c
  images t begins c may = higher b es new.count (most_in new) (new.count + 1) c most_more (law c t (follows begins) may)

  calm : disks.tells → Follows b [] disks st → (Rose faults (disks.faults new.store.disk) → ⊥) → (c : Image) → disks.may_leave new.store.disk c → IsImageBetween b es new.count new.count c
  calm t begins still c may = by ((books new.store).shut) refl
    where
      by : (s : Bool) → (books new.store).shut ≡ s → IsImageBetween b es new.count new.count c
      by true is = absurd (still (shut is))
      by false is =
          let same : most_in new ≡ new.count = ap (λ (s : Bool). if s then new.count + 1 else new.count) is in
          subst (λ (n : ℕ). IsImageBetween b es new.count n c) same (law c t (follows begins) may)

  -- what is left of it
  pub leaves_followed : (gave : Gave) (kept made : ℕ) (disk : E) → gave.history ≡ es → kept ≡ new.count → made ≡ length (completed b es) → disk ≡ new.store.disk → faults ≡ disks.faults st.store.disk
      → LeavesFollowed disks st disk b gave kept made
  leaves_followed gave kept made disk history kept_is made_is same first = record {
    made_is = made_is ∙ ap (λ (fs : List Entry). length (completed b fs)) (sym history);
    images = λ t begins c may.
        subst (λ (n : ℕ). IsImageBetween b gave.history n (n + 1) c) (sym kept_is)
        (subst (λ (fs : List Entry). IsImageBetween b fs new.count (new.count + 1) c) (sym history) (images t begins c (subst (λ (d : E). disks.may_leave d c) same may)));
    calm = λ t begins still c may.
        subst (λ (n : ℕ). IsImageBetween b gave.history n n c) (sym kept_is)
        (subst (λ (fs : List Entry). IsImageBetween b fs new.count new.count c) (sym history)
        (calm t begins (λ rose. still (subst (λ (n : ℕ). Rose n (disks.faults disk)) first (subst (λ (d : E). Rose faults (disks.faults d)) (sym same) rose))) c (subst (λ (d : E). disks.may_leave d c) same may)));
  }

-- WHAT IT MADE is a legal run
pub legal_behind : {D : Type 0} (disks : Ghosts D) (b : Beginning) (new : Held D) (went : Result ⊤ MirrorHalt) → MirrorLeaves disks b went new → IsLegal b new.parts.noted.entries
legal_behind disks b new (Ok y) over = over.lives.live.running.legal
legal_behind disks b new (Err (halt.Kernel why)) (inl none) = subst (IsLegal b) (sym none.none) tt
legal_behind disks b new (Err (halt.Kernel why)) (inr stopped) = stopped.lives.live.running.legal
legal_behind disks b new (Err halt.Memory) (inl none) = subst (IsLegal b) (sym none.none) tt
legal_behind disks b new (Err halt.Memory) (inr there) = there.along.lives.live.running.legal
legal_behind disks b new (Err (halt.Round why)) (inl there) = there.along.lives.live.running.legal
legal_behind disks b new (Err (halt.Round why)) (inr over) = over.lives.live.running.legal
