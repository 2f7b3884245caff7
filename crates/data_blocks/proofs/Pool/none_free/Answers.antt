use Rattle.std.proofs.Common.{◌≡◌, ◌+◌, ◌/◌, length, replicate, ap, ◌∙◌, rules, arith}
use Rattle.std.proofs.lemmas.List.{length-replicate}
use Rattle.data_blocks.specs.Bits.{bit_of}
use Rattle.data_blocks.proofs.BitLemmas.{sound_none, zeros_clear, none_free}
use Rattle.data_blocks.proofs.Pool.none_free.Goals as goal

pub invariant_of-result : goal.invariant_of-result
invariant_of-result c =
    let zeros : c.in_ok-vec.field-0.items ≡ replicate (c.args.end / 64 + 1) 0 = search rules in
    sound_none _ _ _ (omega arith) (ap length zeros ∙ length-replicate (c.args.end / 64 + 1) 0) (λ b. ap (λ ws. bit_of ws b) zeros ∙ zeros_clear (c.args.end / 64 + 1) b)

pub returns : goal.returns
returns c =
    let zeros : c.in_ok-vec.field-0.items ≡ replicate (c.args.end / 64 + 1) 0 = search rules in
    let sound = sound_none _ _ _ (omega arith) (ap length zeros ∙ length-replicate (c.args.end / 64 + 1) 0) (λ b. ap (λ ws. bit_of ws b) zeros ∙ zeros_clear (c.args.end / 64 + 1) b) in
    ap (λ bs. record { first = c.args.first; end = c.args.end; blocks = bs }) (none_free c.in_ok-vec.field-0.items c.args.first c.args.end 0 0 sound (λ b. ap (λ ws. bit_of ws b) zeros ∙ zeros_clear (c.args.end / 64 + 1) b))
