-- The lines of the words so far are put.
use Rattle.std.proofs.Common.{◌≤◌}
use Rattle.std.specs.Io.KnownBytes.{Appends}
use Rattle.std.specs.List.{flat_map}
use Rattle.base_types.specs.Edges.{upto}
use Rattle.plain_states.specs.Plains.{container_of}
use Rattle.plain_show.specs.Show.{word_line}
use Rattle.plain_show.proofs.containers.put_words.Given as goal

abbrev pub invariant-loop-address : goal.invariant-loop-address
invariant-loop-address g l = record {
  put : Appends (g.W.Sink.held l.initial.sink) (g.W.Sink.held l.sink) (flat_map (word_line g.s (g.N.Names.atlas l.names) l.entity (container_of g.s l.c)) (upto l.address));
  count : g.W.Sink.faults l.initial.sink ≤ g.W.Sink.faults l.sink;
}

abbrev pub ghost-changed_word : goal.ghost-changed_word
ghost-changed_word g a = g.s
