use Rattle.std.proofs.Common.{◌≡◌, ◌++◌, ℕ, List, false, ap, sym, subst, ◌∙◌, append_assoc}
use Rattle.std.specs.List.{list_any}
use mathlib.Core.List.{IsPrefix}
use Rattle.base_types.specs.declared.histories.Entry.{Entry}
use Rattle.model_kernel.specs.State.{Supply, KernelState}
use Rattle.model_kernel.specs.Scripts.{Script}
use Rattle.model_kernel.specs.Parts.{after}
use Rattle.model_kernel.specs.Histories.{Policy, IsLegalRun, event_of, writes}
use Rattle.thread_history.specs.Rules.{concerning}
use Rattle.thread_history.proofs.States.{none_added}
use Rattle.thread_history.proofs.Quiet.{quiet}
use Rattle.thread_history.proofs.laws.known_state_law.Goals as goal

-- by the law of what no later entry writes
module _ (unwritten : (s : Supply) (policy : Policy) (script : Script) (w : KernelState) (es fs : List Entry) (x : ℕ) → IsLegalRun s policy w script (es ++ fs) → list_any (λ e. writes e x) fs ≡ false
    → after (event_of s script) w (es ++ fs) x ≡ after (event_of s script) w es x) where
  state_known : (s : Supply) (policy : Policy) (script : Script) (w : KernelState) (kept es hs : List Entry) (x : ℕ) → IsPrefix es hs → concerning writes x es ≡ concerning writes x hs
      → IsLegalRun s policy w script (kept ++ hs) → after (event_of s script) w (kept ++ hs) x ≡ after (event_of s script) w (kept ++ es) x
  state_known s policy script w kept es hs x begins same legal =
      let fs = begins.0 in
      let none : list_any (λ e. writes e x) fs ≡ false = none_added (λ e. writes e x) es fs (same ∙ ap (concerning writes x) (sym begins.1)) in
      let whole : kept ++ hs ≡ (kept ++ es) ++ fs = ap (λ l. kept ++ l) (sym begins.1) ∙ sym (append_assoc kept es fs) in
      ap (λ l. after (event_of s script) w l x) whole ∙ unwritten s policy script w (kept ++ es) fs x (subst (IsLegalRun s policy w script) whole legal) none

pub returns-clause-known : goal.returns-clause-known
returns-clause-known c = state_known c.locality_law.ensures.unwritten

pub returns-clause-in_each_state : goal.returns-clause-in_each_state
returns-clause-in_each_state c s policy script w kept t h x seat other v u at share there is legal =
    let q = quiet writes kept t h x seat other v u at share there is in
    state_known c.locality_law.ensures.unwritten s policy script w kept v.since u.since x q.0 (sym q.1) legal
