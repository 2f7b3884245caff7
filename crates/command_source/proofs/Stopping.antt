-- How much was taken of a source of which nothing was read, by where its reading stopped.
use Rattle.std.proofs.Common.{ℕ, ◌+◌, ◌≤◌, Option, sym, subst, arith}
use Rattle.edge_streams.specs.Reading.{TakesAtMost, most_taken}
use Rattle.edge_streams.specs.declared.reading.ReadStop.{ReadStop}
use Rattle.edge_streams.specs.declared.reading.ReadStop.TheVariants as stop
use Rattle.edge_streams.specs.declared.reading.TheConstants.{PIECE_BYTES}
use Rattle.script_types.specs.model_kernel.State.{Text}
use Rattle.command_outcomes.specs.Seen.{SeenSource}
use Rattle.command_outcomes.specs.declared.faults.Fault.{Fault}
use Rattle.command_outcomes.specs.declared.faults.Fault.TheVariants.{Script, Memory}
use Rattle.command_source.specs.Sources.{IsFaultOfStop, IsTakenTo, StopsInTime}

-- what takes at most so many takes at most more
pub takes_more : (before after : Option Text) (few many : ℕ) → few ≤ many → TakesAtMost before after few → TakesAtMost before after many
takes_more before after few many le h = record { taken = h.taken; consumed = h.consumed; within = (let within = h.within in omega arith) }

module _ (most : ℕ) (source : SeenSource) where
  pub stops_in_time : (s : ReadStop) (fault : Fault) → IsFaultOfStop s fault → IsTakenTo source (most_taken most s) → StopsInTime most source fault
  stops_in_time (stop.Source f) fault is taken = subst (StopsInTime most source) (sym is) taken
  stops_in_time stop.Memory fault is taken = subst (StopsInTime most source) (sym is) (takes_more source.before source.after 0 (most + PIECE_BYTES) (omega arith) taken)
  stops_in_time stop.Long (Script refusal) is taken = taken
  stops_in_time stop.Long Memory is taken = taken
  stops_in_time stop.Long fault is taken = absurd is
