-- What was taken so far is kept, in the room that was reserved, and the piece stays as long as it is.
use Rattle.std.proofs.Common.{◌≡◌, ◌-◌, ◌≤◌, length, vec_len, vec_capacity}
use Rattle.std.specs.Io.KnownBytes.{Consumes}
use Rattle.edge_streams.specs.declared.reading.TheConstants.{PIECE_BYTES}
use Rattle.edge_streams.proofs.reading.read_all.Given as goal

abbrev pub invariant-loop-bytes : goal.invariant-loop-bytes
invariant-loop-bytes g l = record {
  taken : Consumes (g.R.Source.left l.initial.source) (g.R.Source.left l.source) l.bytes.items;
  count : g.R.Source.faults l.initial.source ≤ g.R.Source.faults l.source;
  within : vec_len l.bytes ≤ l.limit;
  room : l.limit ≤ vec_capacity l.bytes;
  piece : length l.piece ≡ PIECE_BYTES;
}

abbrev pub decreases-loop-bytes : goal.decreases-loop-bytes
decreases-loop-bytes g l = l.limit - vec_len l.bytes
