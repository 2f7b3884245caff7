use Rattle.std.proofs.Common.{◌∙◌, vec_len, sym, ap}
use Rattle.thread_history.proofs.Splitting.{begins}
use Rattle.thread_history.proofs.opened.OpenedHistory.new.Goals as goal

pub of_words-requires : goal.of_words-requires
of_words-requires g c = begins g.T.Item.concerns _ _ (c.len.ensures ∙ ap vec_len (sym c.of.ensures) ∙ c.of.result.value.ok.0)
