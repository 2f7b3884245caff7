use Rattle.thread_workers.proofs.Answered.{answered}
use Rattle.thread_workers.proofs.trying.try_three.Goals as goal

pub returns : goal.returns
returns g c =
    let s = c.look_three-answer.ensures in
    c.tried_by.ensures c.args.locus.now.number c.args.pass.now c.look_three-answer.new.pass
    (answered c.args.locus.now.number _ _ c.look_three-answer.result c.args.pass.now c.look_three-answer.new.pass s.item s.numbers.0 (λ e. (s.undone e).2))
