use Rattle.std.proofs.Common.{ap, ◌∙◌, sym, refl, true, arith}
use Rattle.data_frames.specs.FrameTable.{with_resident, words_at}
use Rattle.data_frames.specs.Held.{table_of}
use Rattle.data_frames.proofs.Kept.{sound_set, table_set, words_seen, changed_seen}
use Rattle.data_frames.proofs.Frames.word.Goals as goal

pub invariant_of-self : goal.invariant_of-self
invariant_of-self c =
    sound_set _ _ _ c.self.invariant c.args.page c.in-Some.key c.index_mut-read.result.now _ (omega arith) c.in-Some.is c.index_mut-read.ensures.value refl refl

pub returns-clause-marked : goal.returns-clause-marked
returns-clause-marked c =
    let written = table_set _ _ _ c.self.invariant c.args.page c.in-Some.key c.index_mut-read.result.now _ (omega arith) c.in-Some.is c.index_mut-read.ensures.value refl refl c.self.inside.hand in
    let words = words_seen _ _ _ c.self.invariant c.args.page c.in-Some.key c.index_mut-read.result.now (omega arith) c.in-Some.is c.index_mut-read.ensures.value in
    let changed = changed_seen _ _ _ c.self.invariant c.args.page c.in-Some.key c.index_mut-read.result.now (omega arith) c.in-Some.is c.index_mut-read.ensures.value in
    rw (← c.self.view_is) (written
    ∙ ap (λ w. with_resident (table_of c.self.inside.frames c.self.inside.table c.self.inside.held c.self.inside.hand) c.args.page w c.index_mut-read.result.now.changed true) (sym words)
    ∙ ap (λ b. with_resident (table_of c.self.inside.frames c.self.inside.table c.self.inside.held c.self.inside.hand) c.args.page (words_at (table_of c.self.inside.frames c.self.inside.table c.self.inside.held 0) c.args.page) b true) (sym changed))
