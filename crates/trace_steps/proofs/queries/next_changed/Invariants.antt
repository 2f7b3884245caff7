use Rattle.std.proofs.Common.{◌≡◌, None}
use Rattle.std.specs.Prelude.{find}
use Rattle.base_types.specs.Edges.{upto}
use Rattle.trace_step_facts.specs.Recording.{is_changed}
use Rattle.trace_steps.proofs.queries.next_changed.Given as goal

abbrev pub invariant-loop-x : goal.invariant-loop-x
invariant-loop-x l = find (is_changed l.newest l.versions) (upto l.x) ≡ None
