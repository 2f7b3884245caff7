use Rattle.std.proofs.Common.{ap, ◌∙◌, sym, refl, false, arith}
use Rattle.data_frames.specs.FrameTable.{with_resident, words_at}
use Rattle.data_frames.specs.Held.{table_of}
use Rattle.data_frames.proofs.Kept.{sound_set, table_set, words_seen, used_seen}
use Rattle.data_frames.proofs.Frames.clean.Goals as goal

pub invariant_of-self : goal.invariant_of-self
invariant_of-self c =
    sound_set _ _ _ c.self.invariant c.args.page c.in-Some.key c.index_mut.result.now _ (omega arith) c.in-Some.is c.index_mut.ensures.value refl refl

pub returns : goal.returns
returns c =
    let written = table_set _ _ _ c.self.invariant c.args.page c.in-Some.key c.index_mut.result.now _ (omega arith) c.in-Some.is c.index_mut.ensures.value refl refl c.self.inside.hand in
    let words = words_seen _ _ _ c.self.invariant c.args.page c.in-Some.key c.index_mut.result.now (omega arith) c.in-Some.is c.index_mut.ensures.value in
    let used = used_seen _ _ _ c.self.invariant c.args.page c.in-Some.key c.index_mut.result.now (omega arith) c.in-Some.is c.index_mut.ensures.value in
    rw (← c.self.view_is) (written
    ∙ ap (λ w. with_resident (table_of c.self.inside.frames c.self.inside.table c.self.inside.held c.self.inside.hand) c.args.page w false c.index_mut.result.now.used) (sym words)
    ∙ ap (λ b. with_resident (table_of c.self.inside.frames c.self.inside.table c.self.inside.held c.self.inside.hand) c.args.page (words_at (table_of c.self.inside.frames c.self.inside.table c.self.inside.held 0) c.args.page) false b) (sym used))
