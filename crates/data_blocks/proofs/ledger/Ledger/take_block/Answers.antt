use Rattle.std.proofs.Common.{◌+◌, ◌∷◌, ap, length, sym, ◌∙◌, arith}
use Rattle.data_blocks.proofs.Holdings.{taken_kept, taken_unused}
use Rattle.data_blocks.proofs.ledger.Ledger.take_block.Goals as goal

pub index_mut-requires : goal.index_mut-requires
index_mut-requires c =
    let took = c.in_ok-block.ensures in
    let u = taken_unused c.self.inside.pool c.self.inside.held.items c.self.inside.uses c.self.inside.all_named c.self.invariant c.take_block.new.self c.in_ok-block.block took.first took.end took.lowest took.takes in
    omega (arith, u.high, c.self.invariant.marks)

pub invariant_of-self-2 : goal.invariant_of-self-2
invariant_of-self-2 c =
    let took = c.in_ok-block.ensures in
    taken_kept c.self.inside.pool c.self.inside.held.items c.self.inside.uses c.self.inside.all_named c.self.invariant c.take_block.new.self c.in_ok-block.block took.first took.end took.lowest took.takes

pub returns-clause-range : goal.returns-clause-range
returns-clause-range c =
    let took = c.in_ok-block.ensures in
    let u = taken_unused c.self.inside.pool c.self.inside.held.items c.self.inside.uses c.self.inside.all_named c.self.invariant c.take_block.new.self c.in_ok-block.block took.first took.end took.lowest took.takes in
    rw (← c.self.view_is) (u.low, u.high)

pub returns-clause-unused : goal.returns-clause-unused
returns-clause-unused c =
    let took = c.in_ok-block.ensures in
    let u = taken_unused c.self.inside.pool c.self.inside.held.items c.self.inside.uses c.self.inside.all_named c.self.invariant c.take_block.new.self c.in_ok-block.block took.first took.end took.lowest took.takes in
    rw (← c.self.view_is) u.unused

pub returns-clause-fewer : goal.returns-clause-fewer
returns-clause-fewer c =
    let took = c.in_ok-block.ensures in
    let after = taken_kept c.self.inside.pool c.self.inside.held.items c.self.inside.uses c.self.inside.all_named c.self.invariant c.take_block.new.self c.in_ok-block.block took.first took.end took.lowest took.takes in
    rw (← c.self.view_is) (ap (λ bs. length bs + 1) (sym after.free) ∙ (took.takes.fewer ∙ ap length c.self.invariant.free))

pub returns-clause-lowest : goal.returns-clause-lowest
returns-clause-lowest c =
    let took = c.in_ok-block.ensures in
    let after = taken_kept c.self.inside.pool c.self.inside.held.items c.self.inside.uses c.self.inside.all_named c.self.invariant c.take_block.new.self c.in_ok-block.block took.first took.end took.lowest took.takes in
    rw (← c.self.view_is) (sym c.self.invariant.free ∙ (took.lowest ∙ ap (λ bs. c.in_ok-block.block ∷ bs) after.free))
