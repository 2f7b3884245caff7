use Rattle.std.proofs.Common.{Some, None, refl, append-nil, ◌∙◌}
use Rattle.model_serial.specs.model_kernel.Serial.{looks_of}
use Rattle.model_serial_turns.specs.Turns.{before_pick}
use Rattle.model_serial_turns.proofs.Course.{all_picked, loci_first, locus_more, pick_more, picks_first, rounded}
use Rattle.model_serial_turns.proofs.course_law.Goals as goal

pub returns-clause-first : goal.returns-clause-first
returns-clause-first c script r = refl

pub returns-clause-pick : goal.returns-clause-pick
returns-clause-pick c script r i l name here is = pick_more script r i name (Some l) here is

pub returns-clause-passed : goal.returns-clause-passed
returns-clause-passed c script r i name here is = pick_more script r i name None here is ∙ append-nil (before_pick script r i)

pub returns-clause-picked : goal.returns-clause-picked
returns-clause-picked c script r = all_picked script r

pub returns-clause-round : goal.returns-clause-round
returns-clause-round c script r made = append-nil (looks_of script r made)

pub returns-clause-locus : goal.returns-clause-locus
returns-clause-locus c script r made l low high = locus_more script r made l low high

pub returns-clause-rounded : goal.returns-clause-rounded
returns-clause-rounded c script r made = rounded script r made

pub returns-clause-picks_first : goal.returns-clause-picks_first
returns-clause-picks_first c script r i = picks_first script r i

pub returns-clause-loci_first : goal.returns-clause-loci_first
returns-clause-loci_first c script r made l = loci_first script r made l
