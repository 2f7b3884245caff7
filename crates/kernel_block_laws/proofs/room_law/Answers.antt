use Rattle.kernel_block_laws.proofs.Enough.{calm_whole, each_kept, few_kept, room_bound, room_enough}
use Rattle.kernel_block_laws.proofs.room_law.Goals as goal

pub returns-clause-records : goal.returns-clause-records
returns-clause-records g c b k disk right legal h = few_kept b g.D.Disk k disk right legal h

pub returns-clause-each : goal.returns-clause-each
returns-clause-each g c b k disk x right legal h = each_kept b g.D.Disk k disk right legal h x

pub returns-clause-free : goal.returns-clause-free
returns-clause-free g c b k disk n right legal h tabled few = room_bound b g.D.Disk k disk right legal h tabled n few

pub returns-clause-enough : goal.returns-clause-enough
returns-clause-enough g c b k disk right legal h tabled whole enough = room_enough b g.D.Disk k disk right legal h tabled whole enough

pub returns-clause-calm : goal.returns-clause-calm
returns-clause-calm g c b es right legal calm = calm_whole b es right legal calm
