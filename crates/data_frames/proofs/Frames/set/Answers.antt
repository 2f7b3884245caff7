use Rattle.std.proofs.Common.{ap, ◌∙◌, sym, refl, set, true, arith}
use Rattle.std.proofs.lemmas.List.{length-set}
use Rattle.data_frames.specs.FrameTable.{with_resident}
use Rattle.data_frames.specs.Held.{table_of}
use Rattle.data_frames.proofs.Kept.{bounded, sound_set, table_set, words_seen}
use Rattle.data_frames.proofs.Frames.set.Goals as goal

pub invariant_of-self : goal.invariant_of-self
invariant_of-self c =
    sound_set _ _ _ c.self.invariant c.args.page c.in-Some.key c.index_mut-frame.result.now _ (omega arith) c.in-Some.is c.index_mut-frame.ensures.value refl (length-set _ _ _)

pub returns-clause-bounded : goal.returns-clause-bounded
returns-clause-bounded c = rw (← c.self.view_is) (bounded _ _ _ c.self.invariant c.self.inside.hand)

pub returns-clause-written : goal.returns-clause-written
returns-clause-written c =
    let written = table_set _ _ _ c.self.invariant c.args.page c.in-Some.key c.index_mut-frame.result.now _ (omega arith) c.in-Some.is c.index_mut-frame.ensures.value refl (length-set _ _ _) c.self.inside.hand in
    let words = words_seen _ _ _ c.self.invariant c.args.page c.in-Some.key c.index_mut-frame.result.now (omega arith) c.in-Some.is c.index_mut-frame.ensures.value in
    rw (← c.self.view_is) (written ∙ ap (λ w. with_resident (table_of c.self.inside.frames c.self.inside.table c.self.inside.held c.self.inside.hand) c.args.page (set w c.args.place c.args.word) true true) (sym words))
