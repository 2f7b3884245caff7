use Rattle.std.proofs.Common.{length, sym, ◌∙◌, eqb-true}
use Rattle.std.proofs.lemmas.List.{nil_from_length}
use Rattle.test_kernel.proofs.own.is_unused.Goals as goal

pub returns : goal.returns
returns g c = λ holds. sym c.history.ensures.entries ∙ nil_from_length c.history.result.now (eqb-true (length c.history.result.now) 0 (sym c.is_empty.ensures ∙ holds))
