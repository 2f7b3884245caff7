use Rattle.std.proofs.Common.{ap, sym, ◌≡◌, ◌∙◌, false, true}
use Rattle.data_blocks.specs.Pool.{Pool}
use Rattle.data_blocks.proofs.Holdings.{held_before, held_kept}
use Rattle.data_blocks.proofs.ledger.Ledger.hold.Goals as goal

pub invariant_of-self : goal.invariant_of-self
invariant_of-self c =
    let range = rw (← c.self.view_is) at c.requires in
    let took = c.take_this.ensures.value in
    held_kept c.self.inside.pool c.self.inside.held.items c.self.inside.uses c.self.inside.all_named c.self.invariant c.args.block range.1 c.take_this.new.self
    (ap (λ (p : Pool). p.first) took) (ap (λ (p : Pool). p.end) took) (ap (λ (p : Pool). p.blocks) took)

pub invariant_of-self-else-is_free : goal.invariant_of-self-else-is_free
invariant_of-self-else-is_free c =
    let range = rw (← c.self.view_is) at c.requires in
    held_before c.self.inside.pool c.self.inside.held.items c.self.inside.uses c.self.inside.all_named c.self.invariant c.args.block range.1
    (λ there. let clash : false ≡ true = sym c.if-is_free.false ∙ c.is_free.ensures.1 there in absurd (cc clash))
