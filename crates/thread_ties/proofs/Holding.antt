-- What the rule says of two views.
use Rattle.std.proofs.Common.{◌≡◌, true≢false, Some, sym, ◌∙◌, subst}
use Rattle.std.specs.Prelude.{slice_get}
use mathlib.Core.Logic.{dite}
use native.Mathlib.Decide.{ℕ_discrete}
use Rattle.thread_ties.specs.Laws.{AreSame, IsOneAuthority, IsOneEach}
use Rattle.thread_ties.specs.Rules.{fragment_view}
use Rattle.thread_ties.proofs.Giving.{apart}

module _ {V : Type 0} where
  pub one_authority : IsOneAuthority V
  one_authority s h = (h.0.lead, h.2.0, h.2.1, h.2.2, λ other v at leads. ((h.1 other v at).0 leads).0)

  pub one_each : IsOneEach V
  one_each s h seat other p v at there among =
      let owned : h.0.owner p.number ≡ seat = (h.1 seat (fragment_view p) at).1.0 in
      dite (ℕ_discrete seat other)
      (λ same. same)
      (λ ne. absurd (true≢false (sym among ∙ apart h.0.owner other p.number v.pieces (λ e. ne (sym owned ∙ e)) (h.1 other v there).1)))

  pub are_same : AreSame V
  are_same s h seat other p u at there leads =
      subst (λ vs. slice_get vs p.number ≡ Some p.value) (sym ((h.1 other u there).0 leads).1) (h.1 seat (fragment_view p) at).2.0
