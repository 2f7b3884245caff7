use Rattle.std.proofs.Common.{◌∙◌, ap, length, arith}
use Rattle.std.proofs.lemmas.List.{with_items_is}
use Rattle.data_blocks.proofs.BitLemmas.{word_of, few_given, clear_unless_free, sound_given, given_blocks}
use Rattle.data_blocks.proofs.Members.{members_given}
use Rattle.data_blocks.proofs.Pool.give_back.Goals as goal

pub set_bit-requires : goal.set_bit-requires
set_bit-requires c =
    let range = rw (← c.self.view_is) at c.requires.range in
    rw c.deref_mut.ensures.value (word_of _ _ _ _ _ c.self.invariant c.args.block range.1)

pub overflow_add-self : goal.overflow_add-self
overflow_add-self c =
    let range = rw (← c.self.view_is) at c.requires.range in
    let off = clear_unless_free _ _ _ _ _ c.self.invariant c.args.block (rw (← c.self.view_is) at c.requires.taken) in
    let len = c.set_bit.auto.words ∙ ap length c.deref_mut.ensures.value in
    omega (arith, c.self.invariant.few, few_given _ _ _ _ _ c.self.invariant _ c.args.block len range.0 range.1 off (rw c.deref_mut.ensures.value at c.set_bit.ensures))

pub invariant_of-self : goal.invariant_of-self
invariant_of-self c =
    let range = rw (← c.self.view_is) at c.requires.range in
    let off = clear_unless_free _ _ _ _ _ c.self.invariant c.args.block (rw (← c.self.view_is) at c.requires.taken) in
    let len = c.set_bit.auto.words ∙ ap length c.deref_mut.ensures.value in
    rw (with_items_is c.self.inside.words c.set_bit.new.words (omega arith), c.min-self-inside.ensures)
    (sound_given _ _ _ _ _ c.self.invariant _ c.args.block len range.0 range.1 off (rw c.deref_mut.ensures.value at c.set_bit.ensures))

pub returns-clause-value : goal.returns-clause-value
returns-clause-value c =
    let range = rw (← c.self.view_is) at c.requires.range in
    let off = clear_unless_free _ _ _ _ _ c.self.invariant c.args.block (rw (← c.self.view_is) at c.requires.taken) in
    let len = c.set_bit.auto.words ∙ ap length c.deref_mut.ensures.value in
    let blocks = given_blocks _ _ _ _ _ c.self.invariant _ c.args.block len range.0 range.1 off (rw c.deref_mut.ensures.value at c.set_bit.ensures) in
    rw (← c.self.view_is, with_items_is c.self.inside.words c.set_bit.new.words (omega arith))
    (ap (λ bs. record { first = c.self.inside.first; end = c.self.inside.end; blocks = bs }) blocks)

pub returns-clause-gives : goal.returns-clause-gives
returns-clause-gives c =
    let range = rw (← c.self.view_is) at c.requires.range in
    let off = clear_unless_free _ _ _ _ _ c.self.invariant c.args.block (rw (← c.self.view_is) at c.requires.taken) in
    let len = c.set_bit.auto.words ∙ ap length c.deref_mut.ensures.value in
    rw (← c.self.view_is, with_items_is c.self.inside.words c.set_bit.new.words (omega arith))
    (members_given _ _ _ _ _ c.self.invariant _ c.args.block len range.0 range.1 off (rw c.deref_mut.ensures.value at c.set_bit.ensures))
