use Rattle.std.proofs.Common.{◌∙◌, ap, length, arith}
use Rattle.std.proofs.lemmas.List.{with_items_is}
use Rattle.data_blocks.proofs.BitLemmas.{set_free, some_free, word_of, sound_taken, taken_blocks}
use Rattle.data_blocks.proofs.Members.{members_taken}
use Rattle.data_blocks.proofs.Pool.take_this.Goals as goal

pub clear_bit-requires : goal.clear_bit-requires
clear_bit-requires c =
    let on = set_free _ _ _ _ _ c.self.invariant c.args.block (rw (← c.self.view_is) at c.requires) in
    rw c.deref_mut.ensures.value (word_of _ _ _ _ _ c.self.invariant c.args.block (c.self.invariant.within c.args.block on).1)

pub overflow_sub-self : goal.overflow_sub-self
overflow_sub-self c =
    let on = set_free _ _ _ _ _ c.self.invariant c.args.block (rw (← c.self.view_is) at c.requires) in
    some_free _ _ _ _ _ c.self.invariant c.args.block on

pub invariant_of-self : goal.invariant_of-self
invariant_of-self c =
    let on = set_free _ _ _ _ _ c.self.invariant c.args.block (rw (← c.self.view_is) at c.requires) in
    let len = c.clear_bit.auto.words ∙ ap length c.deref_mut.ensures.value in
    rw (with_items_is c.self.inside.words c.clear_bit.new.words (omega arith))
    (sound_taken _ _ _ _ _ c.self.invariant _ c.args.block len on (rw c.deref_mut.ensures.value at c.clear_bit.ensures))

pub returns-clause-value : goal.returns-clause-value
returns-clause-value c =
    let on = set_free _ _ _ _ _ c.self.invariant c.args.block (rw (← c.self.view_is) at c.requires) in
    let len = c.clear_bit.auto.words ∙ ap length c.deref_mut.ensures.value in
    let blocks = taken_blocks _ _ _ _ _ c.self.invariant _ c.args.block len on (rw c.deref_mut.ensures.value at c.clear_bit.ensures) in
    rw (← c.self.view_is, with_items_is c.self.inside.words c.clear_bit.new.words (omega arith))
    (ap (λ bs. record { first = c.self.inside.first; end = c.self.inside.end; blocks = bs }) blocks)

pub returns-clause-takes : goal.returns-clause-takes
returns-clause-takes c =
    let on = set_free _ _ _ _ _ c.self.invariant c.args.block (rw (← c.self.view_is) at c.requires) in
    let len = c.clear_bit.auto.words ∙ ap length c.deref_mut.ensures.value in
    rw (← c.self.view_is, with_items_is c.self.inside.words c.clear_bit.new.words (omega arith))
    (members_taken _ _ _ _ _ c.self.invariant _ c.args.block len on (rw c.deref_mut.ensures.value at c.clear_bit.ensures))
