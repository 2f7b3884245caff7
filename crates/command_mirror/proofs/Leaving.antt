-- What a mirrored run leaves, seen from outside.
use Rattle.std.proofs.Common.{◌≡◌, ◌⊎◌, inl, inr, ℕ, ◌≤◌, ap, subst}
use Rattle.std.specs.Io.KnownBytes.{Appends}
use Rattle.drawn_words.specs.Words.{words_numbered}
use Rattle.edge_disk.specs.Counts.{Rose}
use Rattle.edge_disk.specs.Image.{Image}
use Rattle.edge_disk.specs.declared.disk.Disk.{Ghosts}
use Rattle.edge_disk.specs.declared.disk.NoBlocks.{NoBlocks}
use Rattle.edge_streams.specs.Streams.{AppendsPart}
use Rattle.edge_watched.specs.Watching.{HasGoneOn, start_of}
use Rattle.edge_watched.specs.Handing.{next_moment}
use Rattle.base_managers.specs.Managing.{ManagerTables}
use Rattle.command_open.specs.command_promises.Booked.{none_brought, over}
use Rattle.command_open.specs.command_promises.Manners.{serial}
use Rattle.command_open.specs.command_promises.OfScript.{InRun}
use Rattle.command_open.specs.command_promises.Openings.{Managers}
use Rattle.command_open.specs.command_promises.Playing.{StartsRun}
use Rattle.command_open.specs.command_promises.Ready.{IsReady, StopsOpening}
use Rattle.command_open.specs.kernel_core_facts.Kernels.{Held}
use Rattle.command_open.specs.kernel_invariant.Beginnings.{Beginning}
use Rattle.command_open.specs.store_facts.State.{books}
use Rattle.command_open.proofs.command_promises_lemmas.Leavings.{cut_for, in_run, kept_run, left_unopened, served}
use Rattle.command_outcomes.specs.Ends.{IsUnrun}
use Rattle.command_outcomes.specs.Seen.{Call, Gave, SeenDisk, SeenSink, seen_disk}
use Rattle.command_outcomes.specs.declared.faults.Fault.{Fault}
use Rattle.command_outcomes.specs.declared.faults.Fault.TheVariants as fault
use Rattle.command_source.specs.Sources.{HasRead, StopsSource}
use Rattle.node_mirror.specs.declared.lines.Losing.{Losing}
use Rattle.script_types.specs.model_kernel.Output.{output_of}
use Rattle.script_types.specs.model_kernel.Scripts.{Script as Tables}
use Rattle.script_types.specs.model_kernel.State.{Text}
use Rattle.command_mirror.specs.Leaving.{IsHalted, IsHaltedBehind, IsHaltedSo, IsManaged, IsManagedFault, IsMirrored, IsRefused, IsShort, IsUnread, MirrorLeaves, MirrorStops, OfPlain, ScriptMirrors, UnopenedScript}
use Rattle.command_mirror.proofs.Lacking.{lacking}
use Rattle.command_mirror.specs.Lines.{mirror_fault_line, with_counts}
use Rattle.command_mirror.specs.Playing.{ComesSoFar, IsFollowed, IsSecondCause, IsUsedCause, MirrorPlays, StopsMirror, WasHalted, WasHaltedBehind, WasHaltedSo, WasShort, WasUnopened, WasWhole}
use Rattle.command_mirror.specs.Statuses.{mirror_status}
use Rattle.command_mirror.specs.declared.faults.MirrorFault.{MirrorFault}
use Rattle.command_mirror.specs.declared.faults.MirrorFault.TheVariants as mirror
use Rattle.command_mirror.specs.declared.statuses.MirrorStatus.{MirrorStatus}

-- A RUN THAT WAS MADE, on a disk that was watched
module _ {D : Type 0} (disks : Ghosts D)
    (counts_now : (disk : D) (t : ℕ) (c : Image) → disks.tells → t ≤ disks.clock disk → disks.may_leave disk c → disks.left_since disk t c) (old new : D)
    (gone : HasGoneOn disks (start_of disks old) new) (m : Managers) (sink : SeenSink) (script : Tables) (gave : Gave) (second : SeenDisk) (losing : Losing) (kept made : ℕ) where
  abbrev seen : SeenDisk
  seen = seen_disk disks old new

  module _ (k : Held D) (ready : disks.tells → IsReady disks script old k) (rose : Type 0) (risen : rose → Rose (disks.faults old) (disks.faults new)) where
    abbrev starts : Beginning → Type 0
    starts b = StartsRun disks m.supply m.policy script k b

    abbrev followed : Beginning → Type 0
    followed b = IsFollowed second b gave kept made

    abbrev count : ℕ
    count = (books k.parts.store).count

    in_script : (P Q : Beginning → Type 0) → (disks.tells → (b : Beginning) → next_moment (disks.clock old) ≡ b.first → P b → Q b) → (disks.tells → (b : Beginning) → starts b → P b) → InRun m script seen Q
    in_script P Q turn each = in_run disks counts_now old new gone (serial output_of) m sink script gave k ready rose risen starts (λ told b is start. start) P Q turn each

    module _ (told : disks.tells) (b : Beginning) (first : next_moment (disks.clock old) ≡ b.first) where
      halted : (line : Text) → WasHalted disks b sink gave new line → IsHalted b seen sink gave line
      halted line h = record { run = kept_run disks counts_now old new gone told b first gave h.run; part = h.part; output = h.output }

      whole_seen : (Puts : Text → Type 0) → WasWhole disks starts followed (IsSecondCause second) (IsUsedCause second) (WasUnopened second gave kept made) rose count losing sink gave kept made new b Puts → IsMirrored seen second sink losing gave kept made b Puts
      whole_seen Puts h = record {
        served = served disks counts_now old new gone told b first gave (serial (with_counts kept made)) Puts h.served;
        follows = h.follows;
        course = h.course;
        lossless = h.lossless;
        lacking = λ short before lt. lacking b gave.history losing.loss (words_numbered losing.seed 55) made kept h.course short before lt;
      }

      so_seen : (f : MirrorFault) → WasHaltedSo disks starts followed (IsSecondCause second) (IsUsedCause second) (WasUnopened second gave kept made) rose count losing sink gave kept made new b f → IsHaltedSo seen second sink losing gave kept made b f
      so_seen f h = record { halted = halted (mirror_fault_line f) h.halted; follows = h.follows }

      behind_seen : (f : MirrorFault) (far : Type 0) → WasHaltedBehind disks starts followed (IsSecondCause second) (IsUsedCause second) (WasUnopened second gave kept made) rose count losing sink gave kept made new b f far
          → IsHaltedBehind seen second sink losing gave kept made b f far
      behind_seen f far h = record { halted = halted (mirror_fault_line f) h.halted; follows = h.follows }

      short_seen : (n : NoBlocks) → WasShort disks starts followed (IsSecondCause second) (IsUsedCause second) (WasUnopened second gave kept made) rose count losing sink gave kept made new b n → IsShort seen second sink losing gave kept made b n
      short_seen n h = record { short = cut_for disks counts_now old new gone told b first gave (serial output_of) sink count n (ready told).count h.short; follows = h.follows }

    stops_seen : (f : MirrorFault) → StopsMirror disks starts followed (IsSecondCause second) (IsUsedCause second) (WasUnopened second gave kept made) rose count losing sink gave kept made new f
        → MirrorStops seen second sink losing gave kept made (InRun m script seen) (UnopenedScript script sink seen second gave) f
    stops_seen (mirror.First (fault.NoBlocks n)) h = in_script _ _ (λ told b first. short_seen told b first n) h
    stops_seen (mirror.First fault.DiskFault) h = (risen h.0, inr (in_script _ _ (λ told b first. so_seen told b first (mirror.First fault.DiskFault)) h.1))
    stops_seen (mirror.First fault.Memory) h = inr (in_script _ _ (λ told b first. so_seen told b first (mirror.First fault.Memory)) h)
    stops_seen (mirror.First fault.Usage) h = absurd h
    stops_seen (mirror.First (fault.Script refusal)) h = absurd h
    stops_seen (mirror.First (fault.Foreign block place)) h = absurd h
    stops_seen (mirror.First fault.Source) h = absurd h
    stops_seen (mirror.Second f) h = (h.0, in_script _ _ (λ told b first. behind_seen told b first (mirror.Second f) (ComesSoFar (followed b) (WasUnopened second gave kept made) f)) h.1)
    stops_seen (mirror.NotEmpty used) h = (h.0, in_script _ _ (λ told b first. behind_seen told b first (mirror.NotEmpty used) (WasUnopened second gave kept made)) h.1)

    pub plays_seen : (status : MirrorStatus) → MirrorPlays disks starts followed (IsSecondCause second) (IsUsedCause second) (WasUnopened second gave kept made) rose count losing sink gave kept made new status
        → ScriptMirrors m script sink seen second losing gave kept made status
    plays_seen status (inl (is, h)) = inl (is, in_script _ _ (λ told b first. whole_seen told b first (Appends sink.before sink.after)) h)
    plays_seen status (inr (inl (is, h, part))) = inr (inl (is, in_script _ _ (λ told b first. whole_seen told b first (AppendsPart sink.before sink.after)) h, part))
    plays_seen status (inr (inr (f, is, h))) = inr (inr (f, is, stops_seen f h))

  -- THE FIRST IMAGE WAS NOT OPENED
  module _ (only_now : (disk : D) (c : Image) → disks.tells → disks.left_since disk (disks.clock disk) c → disks.may_leave disk c) where
    unopened : (f : Fault) → StopsOpening script seen f → IsUnrun sink gave f → second.same
        → MirrorStops seen second sink losing gave kept made (InRun m script seen) (UnopenedScript script sink seen second gave) (mirror.First f)
    unopened (fault.Script refusal) why unrun same = record { unrun = unrun; first = why; same = same }
    unopened (fault.Foreign block place) why unrun same = record { unrun = unrun; first = why; same = same }
    unopened fault.DiskFault why unrun same = (why.0, inl (record { unrun = unrun; first = left_unopened disks counts_now old new gone (serial output_of) m sink script gave only_now why.1; same = same }))
    unopened fault.Memory why unrun same = inl (record { unrun = unrun; first = why; same = same })
    unopened fault.Usage why unrun same = absurd why
    unopened fault.Source why unrun same = absurd why
    unopened (fault.NoBlocks n) why unrun same = absurd why

    pub opening_seen : (f : Fault) (status : MirrorStatus) → status ≡ mirror_status (mirror.First f) → StopsOpening script seen f → IsUnrun sink gave f → second.same → ScriptMirrors m script sink seen second losing gave kept made status
    opening_seen f status is why unrun same = inr (inr (mirror.First f, is, unopened f why unrun same))

-- BEHIND A SOURCE that was read, or refused
module _ (m : Managers) (call : Call) (second : SeenDisk) (losing : Losing) (gave : Gave) (kept made : ℕ) where
  abbrev pub Of : (Beginning → Type 0) → Type 0
  Of P = OfPlain call (λ script. InRun m script call.disk P)

  abbrev pub Unopened : Fault → Type 0
  Unopened f = IsRefused call second gave f ⊎ OfPlain call (λ script. UnopenedScript script call.sink call.disk second gave f)

  abbrev pub Stops : MirrorFault → Type 0
  Stops f = MirrorStops call.disk second call.sink losing gave kept made Of Unopened f

  module _ (script : Tables) (read : HasRead call.source script none_brought) where
    abbrev In : (Beginning → Type 0) → Type 0
    In = InRun m script call.disk

    abbrev NotOpened : Fault → Type 0
    NotOpened f = UnopenedScript script call.sink call.disk second gave f

    of : (P : Beginning → Type 0) → In P → Of P
    of P h = record { script = script; read = read; holds = h }

    none : (f : Fault) → NotOpened f → Unopened f
    none f h = inr (record { script = script; read = read; holds = h })

    either : (f : Fault) (P : Beginning → Type 0) → NotOpened f ⊎ In P → Unopened f ⊎ Of P
    either f P (inl h) = inl (none f h)
    either f P (inr h) = inr (of P h)

    stops_behind : (f : MirrorFault) → MirrorStops call.disk second call.sink losing gave kept made In NotOpened f → Stops f
    stops_behind (mirror.First (fault.NoBlocks n)) h = of _ h
    stops_behind (mirror.First fault.DiskFault) h = (h.0, either fault.DiskFault _ h.1)
    stops_behind (mirror.First fault.Memory) h = either fault.Memory _ h
    stops_behind (mirror.First fault.Usage) h = absurd h
    stops_behind (mirror.First (fault.Script refusal)) h = none (fault.Script refusal) h
    stops_behind (mirror.First (fault.Foreign block place)) h = none (fault.Foreign block place) h
    stops_behind (mirror.First fault.Source) h = none fault.Source h
    stops_behind (mirror.Second f) h = (h.0, of _ h.1)
    stops_behind (mirror.NotEmpty used) h = (h.0, of _ h.1)

    behind : (status : MirrorStatus) → ScriptMirrors m script call.sink call.disk second losing gave kept made status → MirrorLeaves m call second losing gave kept made status
    behind status (inl (is, h)) = inl (is, of _ h)
    behind status (inr (inl (is, h, part))) = inr (inl (is, of _ h, part))
    behind status (inr (inr (f, is, h))) = inr (inr (f, is, stops_behind f h))

  -- of a script that brings no managers
  plain_over : (brought : ManagerTables) → brought ≡ none_brought → over brought m ≡ m
  plain_over brought none = ap (λ (ms : ManagerTables). over ms m) none

  pub behind_source : (script : Tables) (brought : ManagerTables) → brought ≡ none_brought → HasRead call.source script brought → (status : MirrorStatus)
      → ScriptMirrors (over brought m) script call.sink call.disk second losing gave kept made status → MirrorLeaves m call second losing gave kept made status
  behind_source script brought none read status h =
      behind script (subst (λ (ms : ManagerTables). HasRead call.source script ms) none read) status
      (subst (λ (answering : Managers). ScriptMirrors answering script call.sink call.disk second losing gave kept made status) (plain_over brought none) h)

  -- the source was refused, or its script
  never : (f : Fault) → (StopsSource call.source f → ⊥) → ((brought : ManagerTables) → IsManagedFault brought f → ⊥) → IsRefused call second gave f → ⊥
  never f source script h = by h.why
    where
      by : IsUnread call f ⊎ IsManaged call f → ⊥
      by (inl unread) = source unread.stops
      by (inr managed) = script managed.brought managed.refused

  refused_stops : (f : Fault) → IsRefused call second gave f → Stops (mirror.First f)
  refused_stops (fault.Script refusal) h = inl h
  refused_stops fault.Source h = inl h
  refused_stops fault.Memory h = inl (inl h)
  refused_stops (fault.Foreign block place) h = inl h
  refused_stops fault.DiskFault h = absurd (never fault.DiskFault (λ s. s) (λ ms s. s) h)
  refused_stops fault.Usage h = absurd (never fault.Usage (λ s. s) (λ ms s. s) h)
  refused_stops (fault.NoBlocks n) h = absurd (never (fault.NoBlocks n) (λ s. s) (λ ms s. s) h)

  pub refused_ends : (f : Fault) (status : MirrorStatus) → status ≡ mirror_status (mirror.First f) → IsRefused call second gave f → MirrorLeaves m call second losing gave kept made status
  refused_ends f status is h = inr (inr (mirror.First f, is, refused_stops f h))
