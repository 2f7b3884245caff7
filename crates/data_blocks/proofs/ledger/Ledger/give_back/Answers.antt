use Rattle.std.specs.Prelude.{slice_index}
use Rattle.data_blocks.proofs.Holdings.{given_kept, given_not_free, unnamed}
use Rattle.data_blocks.proofs.ledger.Ledger.give_back.Goals as goal

pub give_back-requires-clause-taken : goal.give_back-requires-clause-taken
give_back-requires-clause-taken c =
    let range = rw (← c.self.view_is) at c.requires.range in
    let held = rw (← c.self.view_is) at c.requires.held in
    given_not_free c.self.inside.pool c.self.inside.held.items c.self.inside.uses c.self.inside.all_named c.self.invariant c.args.block range.0 range.1 held

pub invariant_of-self : goal.invariant_of-self
invariant_of-self c =
    let range = rw (← c.self.view_is) at c.requires.range in
    let held = rw (← c.self.view_is) at c.requires.held in
    let free = unnamed c.self.inside.all_named c.is_named.result (slice_index c.self.inside.uses c.args.block) c.if-not-self.true c.is_named.ensures.1 c.if-not-is_named.true in
    rw c.give_back.ensures.value (given_kept c.self.inside.pool c.self.inside.held.items c.self.inside.uses c.self.inside.all_named c.self.invariant c.args.block range.0 range.1 held free)
