use Rattle.std.proofs.Common.{◌∙◌, ap, length, arith}
use Rattle.std.proofs.lemmas.List.{with_items_is}
use Rattle.data_blocks.proofs.BitLemmas.{none_free, some_free, sound_lowest, lowest_blocks}
use Rattle.data_blocks.proofs.Members.{members_taken}
use Rattle.data_blocks.proofs.Pool.take_block.Goals as goal

pub returns-in_default-clause-none : goal.returns-in_default-clause-none
returns-in_default-clause-none c =
    rw (← c.self.view_is) (none_free _ _ _ _ _ c.self.invariant (rw c.deref.ensures.value at c.in_default.ensures.none))

pub overflow_sub-self : goal.overflow_sub-self
overflow_sub-self c = some_free _ _ _ _ _ c.self.invariant c.in-Some.lowest (rw c.deref.ensures.value at c.in-Some.ensures.found)

pub invariant_of-self : goal.invariant_of-self
invariant_of-self c =
    let len = c.clear_bit.auto.words ∙ ap length c.deref_mut.ensures.value in
    rw (with_items_is c.self.inside.words c.clear_bit.new.words (omega arith))
    (sound_lowest _ _ _ _ _ c.self.invariant _ c.in-Some.lowest len (rw c.deref.ensures.value at c.in-Some.ensures.found) (rw c.deref_mut.ensures.value at c.clear_bit.ensures) (rw c.deref.ensures.value at c.in-Some.ensures.lowest))

pub returns-clause-lowest : goal.returns-clause-lowest
returns-clause-lowest c =
    let len = c.clear_bit.auto.words ∙ ap length c.deref_mut.ensures.value in
    rw (← c.self.view_is, with_items_is c.self.inside.words c.clear_bit.new.words (omega arith))
    (lowest_blocks _ _ _ _ _ c.self.invariant _ c.in-Some.lowest len (rw c.deref.ensures.value at c.in-Some.ensures.found) (rw c.deref_mut.ensures.value at c.clear_bit.ensures) (rw c.deref.ensures.value at c.in-Some.ensures.lowest))

pub returns-clause-takes : goal.returns-clause-takes
returns-clause-takes c =
    let len = c.clear_bit.auto.words ∙ ap length c.deref_mut.ensures.value in
    rw (← c.self.view_is, with_items_is c.self.inside.words c.clear_bit.new.words (omega arith))
    (members_taken _ _ _ _ _ c.self.invariant _ c.in-Some.lowest len (rw c.deref.ensures.value at c.in-Some.ensures.found) (rw c.deref_mut.ensures.value at c.clear_bit.ensures))
