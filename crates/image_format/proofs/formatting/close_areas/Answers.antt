use Rattle.std.proofs.Common.{◌≡◌, ◌<◌, inl, inr, length, ◌∙◌, arith}
use Rattle.edge_disk.proofs.Images.{SameOutside-one, SameOutside-trans}
use Rattle.edge_disk.proofs.Phases.{IsImage-reading, Quiet-start, Quiet-then, Quiet-weaker, Quiet-write, told}
use Rattle.image_format.specs.Formats.{IsAreaGate}
use Rattle.image_format.proofs.Fronts.{gates_closed}
use Rattle.image_format.proofs.formatting.close_areas.Goals as goal

pub returns-in_err-write-clause-any_moment : goal.returns-in_err-write-clause-any_moment
returns-in_err-write-clause-any_moment g c t =
    let disk = g.met.D.Disk in
    let laws = told g.D.Disk t disk.counts_now disk.only_now in
    Quiet-write laws {these = IsAreaGate} (inl c.gate_of.ensures.at) (Quiet-start laws IsAreaGate c.args.disk.now) (c.write.ensures.stop t) (c.write.ensures.time t)

pub returns-in_err-write_and_sync-clause-any_moment : goal.returns-in_err-write_and_sync-clause-any_moment
returns-in_err-write_and_sync-clause-any_moment g c t =
    let disk = g.met.D.Disk in
    let laws = told g.D.Disk t disk.counts_now disk.only_now in
    Quiet-then laws
    (Quiet-write laws {these = IsAreaGate} (inl c.gate_of.ensures.at) (Quiet-start laws IsAreaGate c.args.disk.now) (c.write.ensures.stop t) (c.write.ensures.time t))
    (Quiet-weaker laws {these = λ n. n ≡ c.gate_of-2.result} IsAreaGate (λ n is. inr (is ∙ c.gate_of-2.ensures.at)) (c.write_and_sync.ensures.any_moment t))

pub returns-clause-any_moment : goal.returns-clause-any_moment
returns-clause-any_moment g c t =
    let disk = g.met.D.Disk in
    let laws = told g.D.Disk t disk.counts_now disk.only_now in
    Quiet-then laws
    (Quiet-write laws {these = IsAreaGate} (inl c.gate_of.ensures.at) (Quiet-start laws IsAreaGate c.args.disk.now) (c.write.ensures.stop t) (c.write.ensures.time t))
    (Quiet-weaker laws {these = λ n. n ≡ c.gate_of-2.result} IsAreaGate (λ n is. inr (is ∙ c.gate_of-2.ensures.at)) (c.write_and_sync.ensures.any_moment t))

pub returns-in_err-write-clause-reading : goal.returns-in_err-write-clause-reading
returns-in_err-write-clause-reading g c t = SameOutside-one IsAreaGate c.gate_of.result _ _ (inl c.gate_of.ensures.at) (c.write.ensures.reading t)

pub returns-in_err-write_and_sync-clause-reading : goal.returns-in_err-write_and_sync-clause-reading
returns-in_err-write_and_sync-clause-reading g c t =
    SameOutside-trans IsAreaGate _ _ _
    (SameOutside-one IsAreaGate c.gate_of.result _ _ (inl c.gate_of.ensures.at) (c.write.ensures.reading t))
    (SameOutside-one IsAreaGate c.gate_of-2.result _ _ (inr c.gate_of-2.ensures.at) (c.write_and_sync.ensures.reading t))

pub returns-clause-reading : goal.returns-clause-reading
returns-clause-reading g c t =
    SameOutside-trans IsAreaGate _ _ _
    (SameOutside-one IsAreaGate c.gate_of.result _ _ (inl c.gate_of.ensures.at) (c.write.ensures.reading t))
    (SameOutside-one IsAreaGate c.gate_of-2.result _ _ (inr c.gate_of-2.ensures.at) (c.write_and_sync.ensures.reading t))

pub returns-clause-closed : goal.returns-clause-closed
returns-clause-closed g c t =
    let disk = g.met.D.Disk in
    let whole = IsImage-reading g.D.Disk t disk.reads_now disk.counts_now disk.whole c.args.disk.now in
    let within : 4 < length (g.D.Disk.reading c.args.disk.now) = (let len = whole.len in let enough = c.requires in omega (arith, len, enough)) in
    gates_closed _ _ _ _ _ _ _ c.gate_of.ensures.at c.gate_of-2.ensures.at c.closed_gate.ensures c.closed_gate-2.ensures within (c.in_ok-write.ensures.block t) (c.in_ok-write_and_sync.ensures.block t)
