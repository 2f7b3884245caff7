use Rattle.std.proofs.Common.{◌≡◌, ◌-◌, ap, refl, subst, sym}
use Rattle.std.specs.List.{range_with_len}
use Rattle.data_blocks.specs.Pool.{Pool}
use Rattle.data_blocks.proofs.Holdings.{all_kept}
use Rattle.data_blocks.proofs.ledger.Ledger.new.Goals as goal

pub invariant_of-result : goal.invariant_of-result
invariant_of-result c =
    let pool = c.in_ok-new.ensures in
    rw (c.in_ok-new-2.ensures, c.in_ok-vec.ensures.items_if_clones_equal)
    (all_kept c.in_ok-new.field-0 c.args.end (sym (ap (λ (p : Pool). p.end) pool)) (subst (λ (p : Pool). p.blocks ≡ range_with_len p.first (p.end - p.first)) (sym pool) refl))
