use Rattle.std.proofs.Common.{arith}
use Rattle.data_atlas_facts.proofs.Digits.{made_one, made_two}
use Rattle.data_atlas.proofs.names.Name.made.Goals as goal

pub returns-then-number-lt10 : goal.returns-then-number-lt10
returns-then-number-lt10 c =
    made_one c.args.number c.from.result _ _ _ c.if-number-lt10.true c.new-name.ensures (c.push.ensures.ascii (omega arith)) c.from.ensures (c.push-then-number-lt10.ensures.ascii (omega arith))

pub returns : goal.returns
returns c =
    made_two c.args.number c.from-2.result c.from-3.result _ _ _ _ c.if-number-lt10.false c.requires c.new-name.ensures (c.push.ensures.ascii (omega arith)) c.from-2.ensures (c.push-2.ensures.ascii (omega arith)) c.from-3.ensures (c.push-3.ensures.ascii (omega arith))
