use Rattle.std.proofs.Common.{ap, length, sym, ◌∙◌, arith}
use Rattle.std.proofs.lemmas.List.{length-replicate}
use Rattle.data_blocks.specs.Pool.{Pool}
use Rattle.data_blocks.proofs.Holdings.{none_kept}
use Rattle.data_blocks.proofs.ledger.Ledger.all_named.Goals as goal

pub invariant_of-result : goal.invariant_of-result
invariant_of-result c = none_kept c.in_ok-none_free.field-0 c.in_ok-vec.field-0.items c.in_ok-new.field-0
    (let e = ap (λ (p : Pool). p.end) c.in_ok-none_free.ensures in omega (arith, c.in_ok-vec.ensures.len, e))
    (ap length c.in_ok-new.ensures ∙ (length-replicate c.args.end 0 ∙ sym (ap (λ (p : Pool). p.end) c.in_ok-none_free.ensures)))
    (ap (λ (p : Pool). p.blocks) c.in_ok-none_free.ensures)
