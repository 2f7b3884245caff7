-- What the command leaves, from what its parts leave.
use Rattle.std.proofs.Common.{◌≡◌, ◌⊎◌, inl, inr, ℕ, ◌<◌, ◌≤◌, List, refl, sym, subst, ◌∙◌, arith}
use Rattle.edge_disk.specs.declared.disk.Disk.{Ghosts}
use Rattle.edge_disk.specs.Counts.{Rose}
use Rattle.edge_disk.specs.Image.{Image}
use Rattle.edge_disk.specs.declared.disk.NoBlocks.{NoBlocks}
use Rattle.base_types.specs.declared.histories.Entry.{Entry}
use Rattle.image_facts.specs.model_kernel.Scripts.{Script as Tables}
use Rattle.image_facts.specs.model_kernel.State.{Text}
use Rattle.image_facts.specs.Checks.{count_in}
use Rattle.kernel_runs.specs.kernel_core_facts.Kernels.{Held}
use Rattle.open_kernel.specs.kernel_invariant.Beginnings.{Beginning, IsLegal}
use Rattle.base_managers.specs.Managing.{ManagerTables}
use Rattle.command_source.specs.Sources.{HasRead, StopsSource}
use Rattle.open_kernel.specs.store_facts.State.{books}
use Rattle.edge_watched.specs.Handing.{next_moment}
use Rattle.edge_watched.specs.Watching.{HasGoneOn, Start, start_of}
use Rattle.command_source.specs.command_outcomes.Ends.{IsUnrun}
use Rattle.command_source.specs.command_outcomes.Seen.{Call, Gave, SeenDisk, SeenSink, seen_disk}
use Rattle.command_source.specs.command_outcomes.Statuses.{Ending, Stopped, Unput, Whole, Wrong, ending, status_by}
use Rattle.command_source.specs.command_outcomes.declared.faults.Fault.{Fault}
use Rattle.command_source.specs.command_outcomes.declared.faults.Fault.TheVariants as fault
use Rattle.command_source.specs.command_outcomes.declared.statuses.Status.{Status}
use Rattle.command_source.proofs.command_outcomes_lemmas.Endings.{fault_ends}
use Rattle.command_promises.specs.Openings.{FailsAtSync, HasFailedSync, KeepsMeaning, Managers, run_from}
use Rattle.command_promises.specs.Ready.{IsReady, IsUnopened, StopsOpening}
use Rattle.command_promises.proofs.Kept.{fails_at_sync}
use Rattle.command_promises.specs.Keeping.{IsKept}
use Rattle.command_promises.specs.Manners.{Manner, Telling}
use Rattle.command_promises.specs.Runs.{IsCutForMemory, IsCutShort, IsLeftSo, IsRun, IsServed}
use Rattle.command_promises.proofs.Returning.{kept}
use Rattle.command_promises.specs.Booked.{over}
use Rattle.command_promises.specs.Leaving.{IsLeftInTime, IsReadOne, OfRun, RunLeaves, StopsRun}
use Rattle.command_promises.specs.OfScript.{InRun, IsLeftUnopened, ScriptLeaves, StopsScript}
use Rattle.command_promises.specs.Playing.{HasRun, HasServed, IsHandedIn, PlayLeaves, StartsRun, WasCutForBlocks, WasCutForMemory, WasCutShort, WasLeftSo}
use Rattle.command_promises.specs.Short.{IsCutForBlocks, IsShortOfBlocks}

module _ {D : Type 0} (disks : Ghosts D)
    (counts_now : (disk : D) (t : ℕ) (c : Image) → disks.tells → t ≤ disks.clock disk → disks.may_leave disk c → disks.left_since disk t c) (old : D) where
  -- and has gone on since it was
  pub goes_on : (s : Start) (new : D) → IsHandedIn disks s old → HasGoneOn disks s new
      → HasGoneOn disks (start_of disks old) new
  goes_on s new h gone =
      let moment : s.clock ≡ disks.clock old = sym h.is.moment in
      record {
        count = gone.count ∙ sym h.is.count;
        later = (let later = gone.later in omega (arith, later, moment));
        no_fewer = (let no_fewer = gone.no_fewer in let same = h.is.fault_count in omega (arith, no_fewer, same));
        still = λ told short c may. h.no_more c (gone.still told (subst (λ n. disks.clock new < next_moment n) (sym moment) short) c may);
        past = λ told t c le left. back t c (subst (λ n. s.left t c ⊎ ((next_moment n ≤ disks.clock new) × disks.left_since new (next_moment n) c)) moment (gone.past told t c (subst (λ n. t ≤ n) (sym moment) le) left));
        counted = λ told t c le may. counts_now old t c told le may;
      }
    where
      back : (t : ℕ) (c : Image) → s.left t c ⊎ ((next_moment (disks.clock old) ≤ disks.clock new) × disks.left_since new (next_moment (disks.clock old)) c) → disks.left_since old t c ⊎ ((next_moment (disks.clock old) ≤ disks.clock new) × disks.left_since new (next_moment (disks.clock old)) c)
      back t c (inl was) = inl (h.no_earlier t c was)
      back t c (inr since) = inr since

-- the source was refused, or could not be read
pub source_stops : (manner : Manner) (m : Managers) (call : Call) (gave : Gave) (f : Fault) → StopsSource call.source f → IsLeftInTime call f → IsUnrun call.sink gave f → call.disk.same → StopsRun manner m call gave f
source_stops manner m call gave (fault.Script refusal) why time unrun same = (unrun, inl (why, same, time))
source_stops manner m call gave fault.Source why time unrun same = (why, unrun, same, time)
source_stops manner m call gave fault.Memory why time unrun same = inl (unrun, inl (same, time))
source_stops manner m call gave fault.Usage why time unrun same = absurd why
source_stops manner m call gave (fault.Foreign block place) why time unrun same = absurd why
source_stops manner m call gave fault.DiskFault why time unrun same = absurd why
source_stops manner m call gave (fault.NoBlocks n) why time unrun same = absurd why

-- a fault that stopped the call says how it ended
pub ended_by : (manner : Manner) (m : Managers) (call : Call) (gave : Gave) (status : Status) (f : Fault) → status ≡ status_by f → StopsRun manner m call gave f → RunLeaves manner m call gave (ending status)
ended_by manner m call gave status f is h = fault_ends call.sink (λ Puts. OfRun m call (λ b. IsServed manner b call.disk gave Puts)) (StopsRun manner m call gave) status f is h

pub script_ended_by : (manner : Manner) (m : Managers) (script : Tables) (sink : SeenSink) (disk : SeenDisk) (gave : Gave) (status : Status) (f : Fault) → status ≡ status_by f → StopsScript manner m script sink disk gave f → ScriptLeaves manner m script sink disk gave (ending status)
script_ended_by manner m script sink disk gave status f is h = fault_ends sink (λ Puts. InRun m script disk (λ b. IsServed manner b disk gave Puts)) (StopsScript manner m script sink disk gave) status f is h

module _ {D : Type 0} (disks : Ghosts D)
    (counts_now : (disk : D) (t : ℕ) (c : Image) → disks.tells → t ≤ disks.clock disk → disks.may_leave disk c → disks.left_since disk t c) (old new : D)
    (gone : HasGoneOn disks (start_of disks old) new) where
  abbrev seen : SeenDisk
  seen = seen_disk disks old new

  -- A RUN IS KEPT on a disk that was watched
  module _ (told : disks.tells) (b : Beginning) (first : next_moment (disks.clock old) ≡ b.first) (gave : Gave) where
    earlier : (t : ℕ) (c : Image) → t ≤ disks.clock old → disks.left_since new t c → disks.left_since old t c ⊎ disks.left_since new b.first c
    earlier t c le left = by (gone.past told t c le left)
      where
        by : disks.left_since old t c ⊎ ((next_moment (disks.clock old) ≤ disks.clock new) × disks.left_since new (next_moment (disks.clock old)) c) → disks.left_since old t c ⊎ disks.left_since new b.first c
        by (inl was) = inl was
        by (inr since) = inr (subst (λ s. disks.left_since new s c) first since.1)

    pub kept_run : HasRun disks b gave new → IsRun b seen gave
    kept_run run = record { legal = subst (IsLegal b) run.history run.running.legal; kept = is_kept }
      where
        as_viewed : IsKept b seen (record { status = gave.status; history = run.view.history; marks = run.view.marks })
        as_viewed = kept disks old new (λ t c le may. counts_now new t c told le may) b run.view gave.status told run.running earlier

        is_kept : IsKept b seen gave
        is_kept = subst (λ (ms : List ℕ). IsKept b seen (record { status = gave.status; history = gave.history; marks = ms })) run.marks
            (subst (λ (es : List Entry). IsKept b seen (record { status = gave.status; history = es; marks = run.view.marks })) run.history as_viewed)

    pub served : (manner : Manner) (Puts : Text → Type 0) → HasServed disks manner b gave new Puts → IsServed manner b seen gave Puts
    served manner Puts h = record { run = kept_run h.run; whole = h.whole; output = h.output }

    left_so : (telling : Telling) (so_far : Beginning → List Entry → Type 0) (sink : SeenSink) (f : Fault) → WasLeftSo disks telling so_far b sink gave new f → IsLeftSo telling so_far b seen sink gave f
    left_so telling so_far sink f h = record { run = kept_run h.run; part = h.part; output = h.output }

    cut : (manner : Manner) (sink : SeenSink) (f : Fault) → WasCutShort disks manner b sink gave new f → IsCutShort manner b seen sink gave f
    cut manner sink f h = left_so manner.telling manner.part sink f h

    cut_for_memory : (manner : Manner) (sink : SeenSink) → WasCutForMemory disks manner b sink gave new → IsCutForMemory manner b seen sink gave
    cut_for_memory manner sink h = left_so manner.telling manner.lacking sink fault.Memory h

    pub cut_for : (manner : Manner) (sink : SeenSink) (count : ℕ) (n : NoBlocks) → count ≡ count_in (disks.reading old) → WasCutForBlocks disks manner b count sink gave new n → IsCutForBlocks manner b seen sink gave n
    cut_for manner sink count n same h = record { cut = cut manner sink (fault.NoBlocks n) h.cut; short = subst (λ (blocks : ℕ). IsShortOfBlocks manner.due b blocks gave.history n) same h.short }

  module _ (manner : Manner) (m : Managers) (sink : SeenSink) (script : Tables) (gave : Gave) where
    -- THE RUN was made, by a kernel that was ready for it, in each run that starts so, as that does from what the image means
    module _ (k : Held D) (ready : disks.tells → IsReady disks script old k) (rose : Type 0) (risen : rose → Rose (disks.faults old) (disks.faults new)) (starts : Beginning → Type 0)
        (start : disks.tells → (b : Beginning) → b ≡ run_from m script b.state (disks.clock old) → StartsRun disks m.supply m.policy script k b → starts b) where
      pub in_run : (P Q : Beginning → Type 0) → (disks.tells → (b : Beginning) → next_moment (disks.clock old) ≡ b.first → P b → Q b) → (disks.tells → (b : Beginning) → starts b → P b) → InRun m script seen Q
      in_run P Q turn each told =
          let o = (ready told).opened m in
          let b = run_from m script o.state (disks.clock old) in
          record {
            state = o.state;
            means = o.means;
            fits = o.fits;
            run = λ low. turn told b refl (each told b (start told b refl (record { same_supply = refl; same_policy = refl; same_script = refl; lives = o.run low })));
          }

      pub run_leaves : (e : Ending) → PlayLeaves disks manner starts rose (books k.parts.store).count sink gave new e → ScriptLeaves manner m script sink seen gave e
      run_leaves Whole h = in_run _ _ (λ told b first. served told b first gave manner _) h
      run_leaves Unput h = (in_run _ _ (λ told b first. served told b first gave manner _) h.0, h.1)
      run_leaves (Stopped fault.DiskFault) h = (risen h.0, inr (in_run _ _ (λ told b first. cut told b first gave manner sink fault.DiskFault) h.1))
      run_leaves (Stopped (fault.NoBlocks n)) h = in_run _ _ (λ told b first. cut_for told b first gave manner sink (books k.parts.store).count n (ready told).count) h
      run_leaves (Stopped fault.Usage) h = absurd h
      run_leaves (Stopped (fault.Script refusal)) h = absurd h
      run_leaves (Stopped (fault.Foreign block place)) h = absurd h
      run_leaves (Stopped fault.Source) h = absurd h
      run_leaves (Stopped fault.Memory) h = inr (h.0, in_run _ _ (λ told b first. cut_for_memory told b first gave manner sink) h.1)
      run_leaves (Wrong line want) h = absurd h

    -- THE IMAGE WAS NOT OPENED for the script
    module _ (only_now : (disk : D) (c : Image) → disks.tells → disks.left_since disk (disks.clock disk) c → disks.may_leave disk c) where
      pub left_unopened : IsUnopened seen → IsLeftUnopened seen
      left_unopened unopened told room = by (unopened told room)
        where
          by : HasFailedSync seen ⊎ KeepsMeaning seen → FailsAtSync seen ⊎ KeepsMeaning seen
          by (inl failed) = inl (fails_at_sync disks counts_now told old new only_now gone failed)
          by (inr keeps) = inr keeps

      pub opening_stops : (f : Fault) → StopsOpening script seen f → IsUnrun sink gave f → StopsScript manner m script sink seen gave f
      opening_stops (fault.Script refusal) why unrun = (unrun, why)
      opening_stops (fault.Foreign block place) why unrun = (unrun, why)
      opening_stops fault.DiskFault why unrun = (why.0, inl (unrun, left_unopened why.1))
      opening_stops fault.Memory why unrun = inl (unrun, why)
      opening_stops fault.Usage why unrun = absurd why
      opening_stops fault.Source why unrun = absurd why
      opening_stops (fault.NoBlocks n) why unrun = absurd why

-- BEHIND A SOURCE that was read
module _ (manner : Manner) (m : Managers) (call : Call) (script : Tables) (brought : ManagerTables) (read : HasRead call.source script brought) (gave : Gave) where
  abbrev answering : Managers
  answering = over brought m

  of_run : (P : Beginning → Type 0) → InRun answering script call.disk P → OfRun m call P
  of_run P h = record { script = script; brought = brought; read = read; opened = h }

  disk_fails : (IsUnrun call.sink gave fault.DiskFault × IsLeftUnopened call.disk) ⊎ InRun answering script call.disk (λ b. IsCutShort manner b call.disk call.sink gave fault.DiskFault)
      → (IsUnrun call.sink gave fault.DiskFault × IsReadOne call.source × IsLeftUnopened call.disk) ⊎ OfRun m call (λ b. IsCutShort manner b call.disk call.sink gave fault.DiskFault)
  disk_fails (inl (unrun, unopened)) = inl (unrun, (script, brought, read), unopened)
  disk_fails (inr run) = inr (of_run _ run)

  pub behind_source : (e : Ending) → ScriptLeaves manner answering script call.sink call.disk gave e → RunLeaves manner m call gave e
  behind_source Whole h = of_run _ h
  behind_source Unput h = (of_run _ h.0, h.1)
  behind_source (Stopped (fault.Script refusal)) h = (h.0, inr (script, brought, read, h.1))
  behind_source (Stopped (fault.Foreign block place)) h = (h.0, (script, brought, read), h.1)
  behind_source (Stopped fault.DiskFault) h = (h.0, disk_fails h.1)
  behind_source (Stopped fault.Memory) (inl h) = inl (h.0, inr ((script, brought, read), h.1))
  behind_source (Stopped fault.Memory) (inr h) = inr (h.0, of_run _ h.1)
  behind_source (Stopped (fault.NoBlocks n)) h = of_run _ h
  behind_source (Stopped fault.Usage) h = absurd h
  behind_source (Stopped fault.Source) h = absurd h
  behind_source (Wrong line want) h = absurd h
