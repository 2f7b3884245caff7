-- The lines of the regions so far are put.
use Rattle.std.proofs.Common.{◌≤◌, take}
use Rattle.std.specs.Io.KnownBytes.{Appends}
use Rattle.std.specs.List.{flat_map}
use Rattle.plain_show.specs.Show.{region_line}
use Rattle.plain_show.proofs.containers.put_regions.Given as goal

abbrev pub invariant-loop-region : goal.invariant-loop-region
invariant-loop-region g l = record {
  put : Appends (g.W.Sink.held l.initial.sink) (g.W.Sink.held l.sink) (flat_map (region_line (g.N.Names.atlas l.names) l.entity) (take l.region-index l.c.regions.items));
  count : g.W.Sink.faults l.initial.sink ≤ g.W.Sink.faults l.sink;
}
