use Rattle.std.proofs.Common.{◌≡◌, ◌+◌, ◌*◌, ℕ, Bool, true, false, map, sym, ap, arith, ◌∙◌}
use Rattle.base_types.specs.Edges.{upto}
use Rattle.image_facts.specs.model_kernel.Words.{first}
use Rattle.image_facts.specs.Checks.{block_fault, blocks_fault, is_block_number, unless_at}
use Rattle.image_facts.proofs.Firsts.{first_at, first_more, unless_true}
use Rattle.image_blocks.proofs.body_reading.blocks_fault.Goals as goal

pub returns-then-not-is_block_number : goal.returns-then-not-is_block_number
unfolding blocks_fault
returns-then-not-is_block_number c =
    let bad : is_block_number c.args.count c.args.need c.args.blocks.now c.loop-i.i ≡ false = sym c.is_block_number.ensures ∙ c.if-not-is_block_number.true in
    sym (first_at (block_fault c.args.count c.args.need c.args.blocks.now) 8 c.loop-i.i (528 + 4 * c.loop-i.i) c.loop-i-test.true c.loop-i.invariant (ap (λ (t : Bool). unless_at t (528 + 4 * c.loop-i.i)) bad))

pub loop-i-preserved : goal.loop-i-preserved
loop-i-preserved c =
    let good : is_block_number c.args.count c.args.need c.args.blocks.now c.loop-i.i ≡ true = sym c.is_block_number.ensures ∙ c.if-not-is_block_number.false in
    first_more (block_fault c.args.count c.args.need c.args.blocks.now) c.loop-i.i c.loop-i.invariant (unless_true _ (528 + 4 * c.loop-i.i) good)

pub returns : goal.returns
unfolding blocks_fault
returns c =
    let last : c.loop-i.i ≡ 8 = (let a = c.loop-i-test.false in let b = c.loop-i.auto.i-end in omega (arith, a, b)) in
    sym (ap (λ (k : ℕ). first (map (block_fault c.args.count c.args.need c.args.blocks.now) (upto k))) (sym last) ∙ c.loop-i.invariant)
