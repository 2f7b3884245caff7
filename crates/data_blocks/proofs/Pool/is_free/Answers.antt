use Rattle.std.proofs.Common.{◌≡◌, false, ltb, sym, ap, ◌∙◌, arith}
use Rattle.std.proofs.lemmas.Bool.Decides.{nat_tests}
use Rattle.data_blocks.specs.Bits.{is_set}
use Rattle.data_blocks.proofs.BitLemmas.{free_set, set_free, set_test, set_from_test}
use Rattle.data_blocks.proofs.Pool.is_free.Goals as goal

pub returns-then-block-self : goal.returns-then-block-self
returns-then-block-self c =
    let is : c.has_bit.result ≡ is_set c.self.inside.words.items c.args.block = c.has_bit.ensures ∙ ap (λ ws. is_set ws c.args.block) c.deref.ensures.value in
    rw (← c.self.view_is) (
      λ yes. free_set _ _ _ _ _ c.self.invariant c.args.block (set_from_test c.self.inside.words.items c.args.block (sym is ∙ yes)),
      λ there. is ∙ set_test c.self.inside.words.items c.args.block (set_free _ _ _ _ _ c.self.invariant c.args.block there),
    )

pub returns-else-block-self : goal.returns-else-block-self
returns-else-block-self c =
    let past : ltb c.args.block c.self.inside.end ≡ false = grind (arith, nat_tests) in
    rw (← c.self.view_is) (
      λ yes. let clash = sym past ∙ yes in absurd (cc clash),
      λ there. absurd (let within = c.self.invariant.within c.args.block (set_free _ _ _ _ _ c.self.invariant c.args.block there) in omega (arith, within.1)),
    )
