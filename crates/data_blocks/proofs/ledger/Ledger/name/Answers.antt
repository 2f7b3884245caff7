use Rattle.std.proofs.Common.{ap, sym, ◌≡◌, ◌+◌, ◌∙◌, false, true, arith}
use Rattle.std.specs.Prelude.{slice_index}
use Rattle.data_blocks.specs.Pool.{Pool}
use Rattle.data_blocks.proofs.Holdings.{named_before, named_kept}
use Rattle.data_blocks.proofs.ledger.Ledger.name.Goals as goal

pub invariant_of-self : goal.invariant_of-self
invariant_of-self c =
    let range = rw (← c.self.view_is) at c.requires.range in
    let took = c.take_this.ensures.value in
    rw c.name.ensures
    (named_kept c.self.inside.pool c.self.inside.held.items c.self.inside.uses c.self.inside.all_named c.self.invariant c.args.block (slice_index c.self.inside.uses c.args.block + 1) range.0 range.1 c.take_this.new.self
    (ap (λ (p : Pool). p.first) took) (ap (λ (p : Pool). p.end) took) (ap (λ (p : Pool). p.blocks) took) (omega arith))

pub invariant_of-self-else-free : goal.invariant_of-self-else-free
invariant_of-self-else-free c =
    let range = rw (← c.self.view_is) at c.requires.range in
    rw c.name.ensures
    (named_before c.self.inside.pool c.self.inside.held.items c.self.inside.uses c.self.inside.all_named c.self.invariant c.args.block (slice_index c.self.inside.uses c.args.block + 1) range.0 range.1
    (λ there. let clash : false ≡ true = sym c.if-free.false ∙ c.is_free-free.ensures.1 there in absurd (cc clash)) (omega arith))
