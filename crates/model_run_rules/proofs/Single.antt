-- One entry at most may follow with an event and an actor, and one birth.
use Rattle.std.proofs.Common.{◌≡◌, Option, Some, None, Result, Ok, Err, IfOk, IfSome, IfNone, option_map, refl, sym, ap, subst, ◌∙◌}
use Rattle.base_types.specs.declared.histories.Entry.{Entry}
use Rattle.base_types.specs.declared.histories.Event.TheVariants.{Birth, Step, Snap as SnapEvent, Stable, Tried}
use Rattle.model_run_laws.specs.model_kernel.Histories.{May, Policy, Run, mark, may as may_be, version_of}
use Rattle.model_run_laws.specs.model_kernel.Scripts.{Script}
use Rattle.model_run_laws.specs.model_kernel.State.{KernelState, Supply}
use Rattle.model_run_laws.specs.model_kernel.Steps.{step}

one : (e f : Entry) → Some f ≡ Some e → f ≡ e
one e f h = cc

module _ (s : Supply) (policy : Policy) (script : Script) (r : Run) (e f : Entry) (m : May s policy script r e) (n : May s policy script r f) where
  pub one_birth : e.event ≡ Birth → f.event ≡ Birth → f ≡ e
  one_birth ev fv = one e f (sym (subst (may_be s policy script r f) fv n.1).1 ∙ (subst (may_be s policy script r e) ev m.1).1)

  pub one_entry : f.event ≡ e.event → f.actor ≡ e.actor → f ≡ e
  one_entry same by = elim e.event as (λ ev. e.event ≡ ev → f ≡ e) [
    | Birth ↦ λ ev. one_birth ev (same ∙ ev)
    | Step ↦ λ ev.
        let k = subst (may_be s policy script r e) ev m.1 in
        let l = subst (may_be s policy script r f) (same ∙ ev) n.1 in
        one e f (sym l.4 ∙ ap (λ a. option_map (λ (q : Entry × KernelState). q.0) (step s a r.state)) by ∙ k.4)
    | SnapEvent ↦ λ ev.
        let k = subst (may_be s policy script r e) ev m.1 in
        let l = subst (may_be s policy script r f) (same ∙ ev) n.1 in
        l.0 ∙ ap (λ a. mark SnapEvent a (version_of r a)) by ∙ sym k.0
    | Stable ↦ λ ev.
        let k = subst (may_be s policy script r e) ev m.1 in
        let l = subst (may_be s policy script r f) (same ∙ ev) n.1 in
        l.2 ∙ ap (λ a. mark Stable a 0) by ∙ sym k.2
    | Tried ↦ λ ev.
        let k = subst (may_be s policy script r e) ev m.1 in
        let l = subst (may_be s policy script r f) (same ∙ ev) n.1 in
        l.0 ∙ ap (λ a. mark Tried a (version_of r a)) by ∙ sym k.0
  ] refl

-- ANSWERS OF CALLS

pub map_some : {A E : Type 0} {P Q : A → Type 0} (r : Result (Option A) E) → ((a : A) → P a → Q a) → IfOk r (λ o. IfSome o P) → IfOk r (λ o. IfSome o Q)
map_some (Err x) f h = tt
map_some (Ok None) f h = tt
map_some (Ok (Some a)) f h = f a h

pub map_none : {A E P Q : Type 0} (r : Result (Option A) E) → (P → Q) → IfOk r (λ o. IfNone o P) → IfOk r (λ o. IfNone o Q)
map_none (Err x) f h = tt
map_none (Ok None) f h = f h
map_none (Ok (Some a)) f h = tt

pub some_of : {A : Type 0} {P Q : A → Type 0} (o : Option A) → ((a : A) → P a → Q a) → IfSome o P → IfSome o Q
some_of None f h = tt
some_of (Some a) f h = f a h

pub none_of_it : {A P Q : Type 0} (o : Option A) → (P → Q) → IfNone o P → IfNone o Q
none_of_it None f h = f h
none_of_it (Some a) f h = tt

pub where_none : {A P : Type 0} (o : Option A) → o ≡ None → IfNone o P → P
where_none {A} {P} o e h = subst (λ (k : Option A). IfNone k P) e h
