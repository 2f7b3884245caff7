use Rattle.std.proofs.Common.{refl}
use Rattle.std.specs.Sync.Mutex.{mutex_guard_value}
use Rattle.thread_workers.proofs.Answered.{answered}
use Rattle.thread_workers.proofs.Rows.{row_of}
use Rattle.thread_workers.proofs.trying.try_each.Goals as goal

pub look_all-answer-requires-clause-row : goal.look_all-answer-requires-clause-row
look_all-answer-requires-clause-row g c =
    row_of mutex_guard_value (λ s. record { number = s.number; cell = s.cell; known = s.known }) (λ s. refl) c.args.cells.now c.requires.row

pub returns : goal.returns
returns g c =
    let s = c.look_all-answer.ensures in
    c.tried_by.ensures c.args.me c.args.pass.now c.look_all-answer.new.pass
    (answered c.args.me _ _ c.look_all-answer.result c.args.pass.now c.look_all-answer.new.pass s.item s.number (λ e. (s.undone e).2))
