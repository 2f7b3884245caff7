use Rattle.edge_disk.proofs.Phases.{told}
use Rattle.store_facts.specs.State.{State, books, state_of}
use Rattle.store_facts.proofs.Opened.{log_read}
use Rattle.store_facts.proofs.PageCalls.{read_between}
use Rattle.store_snapshots.proofs.store.Store.read_blob.Goals as goal

pub returns-in-Err-clause-between : goal.returns-in-Err-clause-between
returns-in-Err-clause-between g c =
    let i = c.self.inside in
    let disk = g.met.D.Disk in
    let st : State g.row.D.Denot = state_of i.disk i.areas i.log i.kept i.cut i.blocks i.small i.shut i.read_calls in
    rw (← c.self.view_is)
    (read_between g.D.Disk (λ t. told g.D.Disk t disk.counts_now disk.only_now) (books st) _ i.disk c.read_bytes.new.disk c.if-self.false c.read_bytes.ensures.same)

pub returns-clause-between : goal.returns-clause-between
returns-clause-between g c =
    let i = c.self.inside in
    let disk = g.met.D.Disk in
    let st : State g.row.D.Denot = state_of i.disk i.areas i.log i.kept i.cut i.blocks i.small i.shut i.read_calls in
    rw (← c.self.view_is)
    (read_between g.D.Disk (λ t. told g.D.Disk t disk.counts_now disk.only_now) (books st) _ i.disk c.read_bytes.new.disk c.if-self.false c.read_bytes.ensures.same)

pub returns-in-Err-clause-log : goal.returns-in-Err-clause-log
returns-in-Err-clause-log g c =
    let i = c.self.inside in
    let st : State g.row.D.Denot = state_of i.disk i.areas i.log i.kept i.cut i.blocks i.small i.shut i.read_calls in
    rw (← c.self.view_is)
    (λ t log. log_read g.D.Disk (books st) _ i.disk c.read_bytes.new.disk t c.read_bytes.ensures.same log)

pub returns-clause-log : goal.returns-clause-log
returns-clause-log g c =
    let i = c.self.inside in
    let st : State g.row.D.Denot = state_of i.disk i.areas i.log i.kept i.cut i.blocks i.small i.shut i.read_calls in
    rw (← c.self.view_is)
    (λ t log. log_read g.D.Disk (books st) _ i.disk c.read_bytes.new.disk t c.read_bytes.ensures.same log)
