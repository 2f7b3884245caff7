use Rattle.model_serial_turns.proofs.Stops.{cut_made, cut_stable, cut_stable_tried, cut_tried, one_more_snap, stopped_behind, stopped_longer}
use Rattle.model_serial_turns.proofs.stopped_piece_law.Goals as goal

pub returns-clause-made : goal.returns-clause-made
returns-clause-made c s script r all made rest same = cut_made s script r all made rest same

pub returns-clause-tried : goal.returns-clause-tried
returns-clause-tried c s script r all made rest x version same = cut_tried s script r all made rest x version same

pub returns-clause-in_stable : goal.returns-clause-in_stable
returns-clause-in_stable c s script r all made rest es actor n same is = cut_stable s script r all made rest es actor n same is

pub returns-clause-tried_in_stable : goal.returns-clause-tried_in_stable
returns-clause-tried_in_stable c s script r all made rest es actor n x same is next = cut_stable_tried s script r all made rest es actor n x same is next

pub returns-clause-one_more : goal.returns-clause-one_more
returns-clause-one_more c s script r made es n x is next = one_more_snap s script r made es n x is next

pub returns-clause-longer : goal.returns-clause-longer
returns-clause-longer c s script r all part more stop = stopped_longer s script r all part more stop

pub returns-clause-behind : goal.returns-clause-behind
returns-clause-behind c s script r all made rest part same stop = stopped_behind s script r all made rest part same stop
