use Rattle.std.proofs.Common.{sym, ap, append-nil, ◌∙◌}
use Rattle.std.proofs.Math.Seq.{drop-length}
use Rattle.model_serial.specs.Serial.{written_in}
use Rattle.model_serial_turns.proofs.Looks.{one_snap, snap_more, snap_without, written_at}
use Rattle.model_serial_turns.proofs.snaps_law.Goals as goal

pub returns-clause-snap : goal.returns-clause-snap
returns-clause-snap c s policy script r all made x xs so_far wished = snap_more s policy script r all made x xs so_far wished

pub returns-clause-without : goal.returns-clause-without
returns-clause-without c s policy script r all made x xs so_far none = snap_without s policy script r all made x xs so_far none

pub returns-clause-over : goal.returns-clause-over
returns-clause-over c s policy script r all made so_far = sym (append-nil made) ∙ so_far

pub returns-clause-written : goal.returns-clause-written
returns-clause-written c touched i t is = written_at touched i t is

pub returns-clause-last : goal.returns-clause-last
returns-clause-last c touched = ap written_in (drop-length touched)

pub returns-clause-one : goal.returns-clause-one
returns-clause-one c s policy script r all made x xs so_far = one_snap s policy script r all made x xs so_far
