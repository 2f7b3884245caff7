use Rattle.std.proofs.Common.{◌≡◌, ◌∙◌, Bool, true, false, not, Option, Some, None, is_some, codes, map, string_bytes, length, ap, sym, arith, rules}
use Rattle.plain_states.specs.model_kernel.Scripts.{place_of}
use Rattle.plain_states.proofs.PlainBirths.{few_names}
use Rattle.test_acts.proofs.beside.bear.Goals as goal

pub number_among-requires : goal.number_among-requires
number_among-requires g c =
    let few = few_names c.args.state.now c.requires.sound in
    omega (arith, few.loci, ap length c.deref.ensures.value)

pub container_named-requires : goal.container_named-requires
container_named-requires g c = few_names c.args.state.now c.requires.sound

pub plain_birth-requires-clause-known : goal.plain_birth-requires-clause-known
plain_birth-requires-clause-known g c = c.requires.known _ _

none_where : {A : Type 0} (o p : Option A) (t : Bool) → o ≡ p → is_some o ≡ not t → t ≡ true → p ≡ None
none_where None p t same is holds = sym same
none_where (Some x) p true same is holds = cc
none_where (Some x) p false same is holds = cc

pub plain_birth-requires-clause-kinds : goal.plain_birth-requires-clause-kinds
plain_birth-requires-clause-kinds g c =
    let names = ap (λ xs. place_of (codes "a") (map string_bytes xs) 41) c.deref.ensures.value in
    c.requires.kinds _ (none_where _ _ c.is_none.result (c.number_among.ensures ∙ names) c.is_none.ensures (search rules)) (none_where _ _ c.is_none-2.result c.container_named.ensures c.is_none-2.ensures (search rules))
