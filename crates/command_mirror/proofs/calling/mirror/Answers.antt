use Rattle.std.proofs.Common.{inl, inr}
use Rattle.base_managers.specs.Managing.{managers_of}
use Rattle.script_types.specs.Scripts.{tables_of}
use Rattle.command_mirror.proofs.Complete.{complete}
use Rattle.command_mirror.proofs.Leaving.{behind_source, refused_ends}
use Rattle.command_mirror.specs.Gave.{gave_by}
use Rattle.command_mirror.proofs.calling.mirror.Goals as goal

pub returns-clause-leaves : goal.returns-clause-leaves
returns-clause-leaves g c =
    let o = c.mirror_read.result in
    behind_source g.m _ _ _ (gave_by o) o.kept o.made (tables_of c.in-Ok.read.script) (managers_of c.in-Ok.read.managers) c.in-None.ensures.none c.in-Ok.ensures.read o.status c.mirror_read.ensures.leaves

pub returns-clause-complete : goal.returns-clause-complete
returns-clause-complete g c can source disk beside sink few few_beside =
    let o = c.mirror_read.result in
    complete g.m _ _ _ (gave_by o) o.kept o.made can source disk beside sink o.status few few_beside (returns-clause-leaves g c)

pub returns-in-Some-clause-leaves : goal.returns-in-Some-clause-leaves
returns-in-Some-clause-leaves g c =
    let o = c.end_unrun-in-Some.result in
    let ends = c.end_unrun-in-Some.ensures in
    refused_ends g.m _ _ _ (gave_by o) o.kept o.made c.in-Some.fault o.status ends.status
    (record {
      unrun = record { empty = record { history = ends.empty.0; marks = ends.empty.1 }; output = ends.output };
      why = inr (record { script = tables_of c.in-Ok.read.script; brought = managers_of c.in-Ok.read.managers; read = c.in-Ok.ensures.read; refused = c.in-Some.ensures.some });
      same = ends.disks.0;
      same_second = ends.disks.1;
    })

pub returns-in-Some-clause-complete : goal.returns-in-Some-clause-complete
returns-in-Some-clause-complete g c can source disk beside sink few few_beside =
    let o = c.end_unrun-in-Some.result in
    complete g.m _ _ _ (gave_by o) o.kept o.made can source disk beside sink o.status few few_beside (returns-in-Some-clause-leaves g c)

pub returns-in-Err-clause-leaves : goal.returns-in-Err-clause-leaves
returns-in-Err-clause-leaves g c =
    let o = c.end_unrun.result in
    let ends = c.end_unrun.ensures in
    refused_ends g.m _ _ _ (gave_by o) o.kept o.made c.in-Err.fault o.status ends.status
    (record {
      unrun = record { empty = record { history = ends.empty.0; marks = ends.empty.1 }; output = ends.output };
      why = inl (record { stops = c.in-Err.ensures.fault; time = c.in-Err.ensures.stops });
      same = ends.disks.0;
      same_second = ends.disks.1;
    })

pub returns-in-Err-clause-complete : goal.returns-in-Err-clause-complete
returns-in-Err-clause-complete g c can source disk beside sink few few_beside =
    let o = c.end_unrun.result in
    complete g.m _ _ _ (gave_by o) o.kept o.made can source disk beside sink o.status few few_beside (returns-in-Err-clause-leaves g c)
