-- What was told of a look stays true.
use Rattle.std.proofs.Common.{◌≡◌, ℕ, zero, suc, ◌-◌, List, [], ◌∷◌, ◌++◌, length, Some, Ok, Err, slice_get, slice_set, refl, sym, ap, subst, arith}
use Rattle.std.specs.Prelude.{Result}
use Rattle.std.proofs.lemmas.List.{length-append, take-append-le}
use Rattle.std.proofs.lemmas.Option.{same_Some}
use Rattle.base_types.specs.declared.histories.Entry.{Entry}
use Rattle.thread_looks.specs.kernel_core_facts.cell_plans.Plans.{idle_of}
use Rattle.thread_looks.specs.kernel_core_facts.cell_plans.declared.idle.Idle.{Idle as AnIdle}
use Rattle.thread_looks.specs.kernel_core_facts.kernel_invariant.Beginnings.{Beginning, run_of, state_after}
use Rattle.thread_looks.specs.kernel_core_facts.kernel_invariant.declared.stopping.Stopped.{Stopped}
use Rattle.thread_looks.specs.kernel_core_facts.declared.looked.Looked.{Looked}
use Rattle.thread_looks.specs.kernel_core_facts.declared.looked.Looked.TheVariants.{Idle, Made}
use Rattle.thread_desk_looks.specs.Items.{IsTrueOf, StandsAt, WasIdle}

pub at_front : {A : Type 0} (xs ys : List A) (i : ℕ) (a : A) → slice_get xs i ≡ Some a → slice_get (xs ++ ys) i ≡ Some a
at_front [] ys i a is = absurd (cc is)
at_front (x ∷ xs) ys zero a is = is
at_front (x ∷ xs) ys (suc i) a is = at_front xs ys i a is

-- what stands behind a front
pub at_seam : {A : Type 0} (fs : List A) (e : A) (gs : List A) → slice_get (fs ++ e ∷ gs) (length fs) ≡ Some e
at_seam [] e gs = refl
at_seam (f ∷ fs) e gs = at_seam fs e gs

-- what stands there already
pub put_there : {A : Type 0} (xs : List A) (i : ℕ) (a : A) → slice_get xs i ≡ Some a → slice_set xs i a ≡ xs
put_there [] i a is = refl
put_there (x ∷ xs) zero a is = ap (λ y. y ∷ xs) (same_Some a x (sym is))
put_there (x ∷ xs) (suc i) a is = ap (λ ys. x ∷ ys) (put_there xs i a is)

pub step_stays : (me place : ℕ) (e : Entry) (es fs : List Entry) → StandsAt me place e es → StandsAt me place e (es ++ fs)
step_stays me place e es fs h = record { at = at_front es fs place e h.at; event = h.event; actor = h.actor }

pub idle_stays : (tells : Type 0) (b : Beginning) (me place : ℕ) (why : AnIdle) (es fs : List Entry) → WasIdle tells b me place why es → WasIdle tells b me place why (es ++ fs)
idle_stays tells b me place why es fs h = (
  let low = h.0 in let len = length-append es fs in omega (arith, low, len),
  λ told. subst (λ gs. idle_of (b.script.steps - (run_of b gs).steps me) (state_after b gs me).cell ≡ Some why) (sym (take-append-le place es fs h.0)) (h.1 told),
)

pub stays_true : (tells : Type 0) (b : Beginning) (me place : ℕ) (es fs : List Entry) (r : Result Looked Stopped) → IsTrueOf tells b me place es r → IsTrueOf tells b me place (es ++ fs) r
stays_true tells b me place es fs (Ok (Made m)) h = step_stays me place m.entry es fs h
stays_true tells b me place es fs (Ok (Idle why)) h = idle_stays tells b me place why es fs h
stays_true tells b me place es fs (Err why) h = tt
