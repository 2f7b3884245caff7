use Rattle.std.proofs.Common.{◌≡◌, ◌<◌, ◌+◌, inl, inr, length, ◌∙◌, arith}
use Rattle.edge_disk.specs.Image.{IsInRun}
use Rattle.edge_disk.proofs.Images.{SameOutside-one, SameOutside-trans, SameOutside-weaker}
use Rattle.edge_disk.proofs.Phases.{IsImage-reading, Quiet-then, Quiet-weaker, Quiet-write, told}
use Rattle.image_format.specs.Formats.{IsFrontBlock}
use Rattle.image_format.proofs.Fronts.{front_written, run_in_front}
use Rattle.image_format.proofs.formatting.write_front.Goals as goal

pub returns-in_err-write_run-clause-any_moment : goal.returns-in_err-write_run-clause-any_moment
returns-in_err-write_run-clause-any_moment g c t =
    let disk = g.met.D.Disk in
    let laws = told g.D.Disk t disk.counts_now disk.only_now in
    Quiet-weaker laws {these = IsInRun 0 2} IsFrontBlock run_in_front (c.write_run.ensures.any_moment t)

pub returns-in_err-write-clause-any_moment : goal.returns-in_err-write-clause-any_moment
returns-in_err-write-clause-any_moment g c t =
    let disk = g.met.D.Disk in
    let laws = told g.D.Disk t disk.counts_now disk.only_now in
    Quiet-write laws {these = IsFrontBlock} (inr (inr (inl c.header_of.ensures.at))) (Quiet-weaker laws {these = IsInRun 0 2} IsFrontBlock run_in_front (c.write_run.ensures.any_moment t)) (c.write.ensures.stop t) (c.write.ensures.time t)

pub returns-in_err-write_and_sync-clause-any_moment : goal.returns-in_err-write_and_sync-clause-any_moment
returns-in_err-write_and_sync-clause-any_moment g c t =
    let disk = g.met.D.Disk in
    let laws = told g.D.Disk t disk.counts_now disk.only_now in
    Quiet-then laws
    (Quiet-write laws {these = IsFrontBlock} (inr (inr (inl c.header_of.ensures.at))) (Quiet-weaker laws {these = IsInRun 0 2} IsFrontBlock run_in_front (c.write_run.ensures.any_moment t)) (c.write.ensures.stop t) (c.write.ensures.time t))
    (Quiet-weaker laws {these = λ n. n ≡ c.body_of.result + 1} IsFrontBlock (λ n is. inr (inr (inr (let e = c.body_of.ensures.at in omega (arith, is, e))))) (c.write_and_sync.ensures.any_moment t))

pub returns-clause-any_moment : goal.returns-clause-any_moment
returns-clause-any_moment g c t =
    let disk = g.met.D.Disk in
    let laws = told g.D.Disk t disk.counts_now disk.only_now in
    Quiet-then laws
    (Quiet-write laws {these = IsFrontBlock} (inr (inr (inl c.header_of.ensures.at))) (Quiet-weaker laws {these = IsInRun 0 2} IsFrontBlock run_in_front (c.write_run.ensures.any_moment t)) (c.write.ensures.stop t) (c.write.ensures.time t))
    (Quiet-weaker laws {these = λ n. n ≡ c.body_of.result + 1} IsFrontBlock (λ n is. inr (inr (inr (let e = c.body_of.ensures.at in omega (arith, is, e))))) (c.write_and_sync.ensures.any_moment t))

pub returns-in_err-write_run-clause-reading : goal.returns-in_err-write_run-clause-reading
returns-in_err-write_run-clause-reading g c t = SameOutside-weaker (IsInRun 0 2) IsFrontBlock _ _ run_in_front (c.write_run.ensures.reading t)

pub returns-in_err-write-clause-reading : goal.returns-in_err-write-clause-reading
returns-in_err-write-clause-reading g c t =
    SameOutside-trans IsFrontBlock _ _ _
    (SameOutside-weaker (IsInRun 0 2) IsFrontBlock _ _ run_in_front (c.write_run.ensures.reading t))
    (SameOutside-one IsFrontBlock c.header_of.result _ _ (inr (inr (inl c.header_of.ensures.at))) (c.write.ensures.reading t))

pub returns-in_err-write_and_sync-clause-reading : goal.returns-in_err-write_and_sync-clause-reading
returns-in_err-write_and_sync-clause-reading g c t =
    let at : c.body_of.result + 1 ≡ 6 = (let e = c.body_of.ensures.at in omega (arith, e)) in
    SameOutside-trans IsFrontBlock _ _ _
    (SameOutside-trans IsFrontBlock _ _ _
    (SameOutside-weaker (IsInRun 0 2) IsFrontBlock _ _ run_in_front (c.write_run.ensures.reading t))
    (SameOutside-one IsFrontBlock c.header_of.result _ _ (inr (inr (inl c.header_of.ensures.at))) (c.write.ensures.reading t)))
    (SameOutside-one IsFrontBlock (c.body_of.result + 1) _ _ (inr (inr (inr at))) (c.write_and_sync.ensures.reading t))

pub returns-clause-reading : goal.returns-clause-reading
returns-clause-reading g c t =
    let at : c.body_of.result + 1 ≡ 6 = (let e = c.body_of.ensures.at in omega (arith, e)) in
    SameOutside-trans IsFrontBlock _ _ _
    (SameOutside-trans IsFrontBlock _ _ _
    (SameOutside-weaker (IsInRun 0 2) IsFrontBlock _ _ run_in_front (c.write_run.ensures.reading t))
    (SameOutside-one IsFrontBlock c.header_of.result _ _ (inr (inr (inl c.header_of.ensures.at))) (c.write.ensures.reading t)))
    (SameOutside-one IsFrontBlock (c.body_of.result + 1) _ _ (inr (inr (inr at))) (c.write_and_sync.ensures.reading t))

pub returns-clause-front : goal.returns-clause-front
returns-clause-front g c t =
    let disk = g.met.D.Disk in
    let whole = IsImage-reading g.D.Disk t disk.reads_now disk.counts_now disk.whole c.write_run.new.disk in
    let within : 6 < length (g.D.Disk.reading c.write_run.new.disk) = (let len = whole.len in let same = c.write_run.ensures.count in let enough = c.requires in omega (arith, len, same, enough)) in
    let at : c.body_of.result + 1 ≡ 6 = (let e = c.body_of.ensures.at in omega (arith, e)) in
    front_written c.args.blocks _ _ _ _ _ _ _ _ _ c.header_of.ensures.at at c.superblock.ensures c.header_block.ensures c.header_block-2.ensures c.closed_gate.ensures within (c.in_ok-write_run.ensures.run t) (c.in_ok-write.ensures.block t) (c.in_ok-write_and_sync.ensures.block t)
