use Rattle.std.proofs.Common.{◌≡◌, ◌+◌, ◌*◌, ◌==◌, ℕ, Bool, true, false, if◌then◌else◌, nat_le, map, sym, ap, arith, ◌∙◌}
use Rattle.base_types.specs.Edges.{upto}
use Rattle.image_facts.specs.model_kernel.Words.{first}
use Rattle.image_facts.specs.Bodies.{number_at}
use Rattle.image_facts.specs.Checks.{stamp_fault, stamps_fault, unless_at}
use Rattle.image_facts.specs.Layout.{last_number}
use Rattle.image_facts.proofs.Firsts.{first_at, first_more, unless_true}
use Rattle.image_blocks.proofs.body_reading.stamp_fault.Goals as goal

pub returns-then-not-is_component : goal.returns-then-not-is_component
unfolding stamps_fault
returns-then-not-is_component c =
    let bad : (if c.loop-y.y == c.args.entity then number_at (16 + 8 * c.loop-y.y) 8 c.args.body.now == c.args.version else nat_le (number_at (16 + 8 * c.loop-y.y) 8 c.args.body.now) last_number) ≡ false =
    ap (λ (n : ℕ). if c.loop-y.y == c.args.entity then n == c.args.version else nat_le n last_number) (sym c.u64_at-component.ensures) ∙ (sym c.is_component.ensures ∙ c.if-not-is_component.true) in
    sym (first_at (stamp_fault c.args.entity c.args.version c.args.body.now) 64 c.loop-y.y (16 + 8 * c.loop-y.y) c.loop-y-test.true c.loop-y.invariant (ap (λ (t : Bool). unless_at t (16 + 8 * c.loop-y.y)) bad))

pub loop-y-preserved : goal.loop-y-preserved
loop-y-preserved c =
    let good : (if c.loop-y.y == c.args.entity then number_at (16 + 8 * c.loop-y.y) 8 c.args.body.now == c.args.version else nat_le (number_at (16 + 8 * c.loop-y.y) 8 c.args.body.now) last_number) ≡ true =
    ap (λ (n : ℕ). if c.loop-y.y == c.args.entity then n == c.args.version else nat_le n last_number) (sym c.u64_at-component.ensures) ∙ (sym c.is_component.ensures ∙ c.if-not-is_component.false) in
    first_more (stamp_fault c.args.entity c.args.version c.args.body.now) c.loop-y.y c.loop-y.invariant (unless_true _ (16 + 8 * c.loop-y.y) good)

pub returns : goal.returns
unfolding stamps_fault
returns c =
    let last : c.loop-y.y ≡ 64 = (let a = c.loop-y-test.false in let b = c.loop-y.auto.y-end in omega (arith, a, b)) in
    sym (ap (λ (k : ℕ). first (map (stamp_fault c.args.entity c.args.version c.args.body.now) (upto k))) (sym last) ∙ c.loop-y.invariant)
