-- How a command ends with its verdict, and what that says of what was read before.
use Rattle.std.proofs.Common.{◌≡◌, ◌≤◌, inl, inr, Option, Some, None, ap, length, sym, subst, ◌∙◌, refl, arith}
use Rattle.std.specs.Prelude.{IfSome, string_bytes}
use Rattle.std.specs.Io.KnownBytes.{Consumes, IsAtEnd}
use Rattle.edge_disk.specs.declared.disk.Disk.{Ghosts}
use Rattle.plain_states.specs.model_kernel.State.{Text}
use Rattle.script_types.specs.declared.refusals.Refusal.{Refusal}
use Rattle.command_promises.specs.script_meaning.Reading.{refused}
use Rattle.trace_checker.specs.trace_step_facts.Standing.{Managers}
use Rattle.command_outcomes.specs.Ends.{IsUnrun}
use Rattle.command_outcomes.specs.Seen.{Gave, IsOnlyRead, SeenDisk, SeenSink, SeenSource, seen_disk}
use Rattle.command_outcomes.specs.Statuses.{Ending, Stopped as StoppedBy, Unput, Whole, Wrong as WrongIn, ending, status_by}
use Rattle.command_outcomes.specs.declared.faults.Fault.{Fault}
use Rattle.command_outcomes.specs.declared.faults.Fault.TheVariants.{Script, Foreign, DiskFault, Source, Memory}
use Rattle.command_outcomes.proofs.Endings.{by_done, by_fault, by_sink}
use Rattle.command_source.specs.Sources.{StopsInTime}
use Rattle.command_promises.specs.TraceBooked.{over}
use Rattle.command_promises.specs.TraceLeaving.{StopsTrace, TraceEnds, TraceLeaves}
use Rattle.command_promises.specs.Sources.{IsRefusalOf, MeansTraced, OfBytes, OfSource, ReadFrom, StopsTraced, Traced, from_parts, from_source, most_bytes, traced_meaning}
use Rattle.command_check_trace.specs.Verdicts.{EndsWith, IsJudged}
use Rattle.command_check_trace.specs.declared.judging.Verdict.{Verdict}
use Rattle.command_check_trace.specs.declared.judging.Verdict.TheVariants.{Legal, Wrong, Stopped}

module _ (m : Managers) (t : Traced) (sink : SeenSink) (disk : SeenDisk) (gave : Gave) where
  abbrev Ends : Ending → Type 0
  Ends = TraceEnds m (from_parts t) sink disk gave

  abbrev IsJudgedRight : Verdict → Type 0
  IsJudgedRight = IsJudged (over t.brought m) t.script t.trace disk

  stops : (fault : Fault) → IsJudgedRight (Stopped fault) → IsUnrun sink gave fault → StopsTrace m (from_parts t) sink disk gave fault
  stops (Script refusal) told unrun = (unrun, inr told)
  stops (Foreign block place) told unrun = (unrun, told)
  stops DiskFault told unrun = (unrun, told)
  stops Memory told unrun = (unrun, tt)
  stops fault told unrun = absurd told

  pub ends_by : (v : Verdict) → IsJudgedRight v → EndsWith sink gave v → Ends (ending gave.status)
  ends_by (Legal lines) told (empty, inl (is, put)) = by_done Ends gave.status is (record { empty = empty; lines = lines; legal = told; output = put })
  ends_by (Legal lines) told (empty, inr (is, part, rose)) = by_sink Ends gave.status is (record { empty = empty; lines = lines; legal = told; output = part }, rose)
  ends_by (Wrong line want text) told (empty, is, gained) = subst Ends (sym (ap ending is)) (record { empty = empty; text = text.bytes; wrong = told; output = gained })
  ends_by (Stopped fault) told (unrun, is) = by_fault Ends gave.status fault is (stops fault told unrun)

-- WHAT IS SAID of what was read is said of what it was read from
module _ (m : Managers) (from to : ReadFrom) (sink : SeenSink) (disk : SeenDisk) (gave : Gave)
    (means : (P : Traced → Type 0) → from.means P → to.means P) (refused : (refusal : Refusal) → from.refused refusal → to.refused refusal) (rose : from.rose → to.rose)
    (in_time : (fault : Fault) → from.in_time fault → to.in_time fault) where
  stops_from : (fault : Fault) → StopsTrace m from sink disk gave fault → StopsTrace m to sink disk gave fault
  stops_from (Script refusal) (unrun, inl (is, same, time)) = (unrun, inl (refused refusal is, same, in_time (Script refusal) time))
  stops_from (Script refusal) (unrun, inr misfit) = (unrun, inr (means _ misfit))
  stops_from (Foreign block place) (unrun, foreign) = (unrun, means _ foreign)
  stops_from DiskFault (unrun, failed) = (unrun, means _ failed)
  stops_from Source (unrun, failed, same, time) = (unrun, rose failed, same, in_time Source time)
  stops_from Memory (unrun, time) = (unrun, in_time Memory time)
  stops_from fault stopped = absurd stopped

  ends_from : (e : Ending) → TraceEnds m from sink disk gave e → TraceEnds m to sink disk gave e
  ends_from Whole h = record { empty = h.empty; lines = h.lines; legal = means _ h.legal; output = h.output }
  ends_from Unput (h, failed) = (record { empty = h.empty; lines = h.lines; legal = means _ h.legal; output = h.output }, failed)
  ends_from (StoppedBy fault) h = stops_from fault h
  ends_from (WrongIn number want) h = record { empty = h.empty; text = h.text; wrong = means _ h.wrong; output = h.output }

  pub leaves_from : (e : Ending) → TraceLeaves m from sink disk gave e → TraceLeaves m to sink disk gave e
  leaves_from e h = record { only_read = h.only_read; ends = ends_from e h.ends }

-- A DISK THAT IS AS IT WAS was only read
module _ {D : Type 0} (disks : Ghosts D) (old new : D) where
  pub untouched : new ≡ old → IsOnlyRead (seen_disk disks old new)
  untouched same = subst (λ (d : D). IsOnlyRead (seen_disk disks old d)) (sym same)
      (record { blocks = refl; clock = refl; reading = λ told. refl; may = λ told c left. left; left = λ told t c le left. inl left })

-- WHAT WAS READ OF A SOURCE, all of it
module _ (source : SeenSource) (bytes read : Text) (whole : IfSome source.before (λ left. bytes ≡ left)) (same : read ≡ bytes) where
  all_of : (P : Text → Type 0) → P read → IfSome source.before P
  all_of P h = by source.before whole
    where
      by : (o : Option Text) → IfSome o (λ left. bytes ≡ left) → IfSome o P
      by None is = tt
      by (Some left) is = subst P (same ∙ is) h

  pub of_source : IfSome source.before (λ _. IsAtEnd source.after) → (P : Traced → Type 0) → OfBytes read P → OfSource source P
  of_source ended P h = record { traced = h.traced; means = all_of (λ left. MeansTraced left h.traced) h.means; ended = ended; holds = h.holds }

  pub refused_source : (refusal : Refusal) → traced_meaning read ≡ refused refusal.why (string_bytes refusal.key) → IsRefusalOf source.before refusal
  refused_source refusal is = all_of (λ left. traced_meaning left ≡ refused refusal.why (string_bytes refusal.key)) is

  pub in_time_source : Consumes source.before source.after bytes → length bytes ≤ most_bytes → (fault : Fault) → StopsInTime most_bytes source fault
  in_time_source consumed short Source = record { taken = bytes; consumed = consumed; within = short }
  in_time_source consumed short fault = record { taken = bytes; consumed = consumed; within = omega arith }

-- NOTHING WAS READ of a source
module _ (m : Managers) (source : SeenSource) (sink : SeenSink) (disk : SeenDisk) (gave : Gave) where
  unread_stops : (fault : Fault) → StopsTraced source fault → StopsInTime most_bytes source fault → IsUnrun sink gave fault → disk.same → StopsTrace m (from_source source) sink disk gave fault
  unread_stops (Script refusal) why time unrun same = (unrun, inl (why, same, time))
  unread_stops Source why time unrun same = (unrun, why, same, time)
  unread_stops Memory why time unrun same = (unrun, time)
  unread_stops fault why time unrun same = absurd why

  pub unread_leaves : (fault : Fault) → gave.status ≡ status_by fault → StopsTraced source fault → StopsInTime most_bytes source fault → IsUnrun sink gave fault → disk.same → IsOnlyRead disk → TraceLeaves m (from_source source) sink disk gave (ending gave.status)
  unread_leaves fault is why time unrun same only =
      record { only_read = only; ends = by_fault (TraceEnds m (from_source source) sink disk gave) gave.status fault is (unread_stops fault why time unrun same) }
