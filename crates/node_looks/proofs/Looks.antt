-- One piece more of a history.
use Rattle.std.proofs.Common.{◌≡◌, ◌⊎◌, inl, inr, ℕ, ◌+◌, Bool, true, false, cond, if◌then◌else◌, nat_lt, List, [], ◌∷◌, ◌++◌, length, drop, refl, sym, ap, subst, ◌∙◌, arith, append_assoc, Option, Some, None}
use Rattle.std.specs.Prelude.{count_by, option_map, slice_get}
use Rattle.std.proofs.lemmas.Bool.Decides.{nat_tests}
use Rattle.std.proofs.lemmas.List.{append-nil}
use Rattle.std.proofs.lemmas.List.Sums.{sum_by-append, sum_by-cons}
use Rattle.base_types.specs.declared.histories.Entry.{Entry}
use Rattle.base_types.specs.declared.histories.Event.TheVariants.{Step}
use Rattle.script_types.specs.model_kernel.Changes.{Change, carried}
use Rattle.script_types.specs.model_kernel.Histories.{Run}
use Rattle.script_types.specs.model_kernel.Serial.{can_step}
use Rattle.script_types.specs.model_kernel.State.{KernelState}
use Rattle.script_types.specs.model_kernel.Steps.{step_change}
use Rattle.kernel_watchers.proofs.Steps.{piece_steps}
use Rattle.kernel_watchers.specs.Steps.{steps_at}
use Rattle.kernel_runs.specs.kernel_invariant.Beginnings.{Beginning, completed, run_of}
use Rattle.kernel_runs.specs.kernel_invariant.Marks.{is_step}
use Rattle.kernel_runs.specs.kernel_run_facts.Alongs.{ComesNext}
use Rattle.kernel_runs.specs.kernel_run_facts.Watching.{IsNext}
use Rattle.kernel_runs.specs.model_serial.Serial.{look, step_and_kept}
use Rattle.node_looks.specs.Looks.{commits_around, commits_behind}

steps_cons : (e : Entry) (es : List Entry) → count_by is_step (e ∷ es) ≡ cond (is_step e) 1 0 + count_by is_step es
steps_cons e es = sum_by-cons (λ (x : Entry). cond (is_step x) 1 0) e es

steps_append : (fs gs : List Entry) → count_by is_step (fs ++ gs) ≡ count_by is_step fs + count_by is_step gs
steps_append fs gs = sum_by-append (λ (e : Entry). cond (is_step e) 1 0) fs gs

get_behind : (es p : List Entry) → slice_get (es ++ p) (length es) ≡ slice_get p 0
get_behind [] p = refl
get_behind (e ∷ es) p = get_behind es p

not_some : (n : ℕ) → nat_lt 0 n ≡ false → n ≡ 0
not_some n h = grind (arith, nat_tests)

module _ (b : Beginning) where
  -- all but the last number
  abbrev before : List Entry → List Entry → List ℕ
  before front [] = []
  before front (e ∷ es) =
      if is_step e
      then length (completed b front) ∷ before (front ++ e ∷ []) es
      else before (front ++ e ∷ []) es

  around_is : (front es : List Entry) → commits_around b front es ≡ before front es ++ length (completed b (front ++ es)) ∷ []
  around_is front [] = ap (λ (fs : List Entry). length (completed b fs) ∷ []) (sym (append-nil front))
  around_is front (e ∷ es) = by (is_step e) (around_is (front ++ e ∷ []) es ∙ ap (λ (fs : List Entry). before (front ++ e ∷ []) es ++ length (completed b fs) ∷ []) (append_assoc front (e ∷ []) es))
    where
      by : (t : Bool) → commits_around b (front ++ e ∷ []) es ≡ before (front ++ e ∷ []) es ++ length (completed b (front ++ e ∷ es)) ∷ []
          → (if t then length (completed b front) ∷ commits_around b (front ++ e ∷ []) es else commits_around b (front ++ e ∷ []) es)
          ≡ (if t then length (completed b front) ∷ before (front ++ e ∷ []) es else before (front ++ e ∷ []) es) ++ length (completed b (front ++ e ∷ es)) ∷ []
      by true rest = ap (λ (ns : List ℕ). length (completed b front) ∷ ns) rest
      by false rest = rest

  -- entries without a step
  none_before : (front es : List Entry) → count_by is_step es ≡ 0 → before front es ≡ []
  none_before front [] none = refl
  none_before front (e ∷ es) none = by (is_step e) (steps_cons e es) (λ left. none_before (front ++ e ∷ []) es left)
    where
      by : (t : Bool) → count_by is_step (e ∷ es) ≡ cond t 1 0 + count_by is_step es → (count_by is_step es ≡ 0 → before (front ++ e ∷ []) es ≡ [])
          → (if t then length (completed b front) ∷ before (front ++ e ∷ []) es else before (front ++ e ∷ []) es) ≡ []
      by true all rest = absurd (omega (arith, all, none))
      by false all rest = rest (omega (arith, all, none))

  before_append : (front fs gs : List Entry) → before front (fs ++ gs) ≡ before front fs ++ before (front ++ fs) gs
  before_append front [] gs = ap (λ (hs : List Entry). before hs gs) (sym (append-nil front))
  before_append front (f ∷ fs) gs = by (is_step f) (before_append (front ++ f ∷ []) fs gs ∙ ap (λ (hs : List Entry). before (front ++ f ∷ []) fs ++ before hs gs) (append_assoc front (f ∷ []) fs))
    where
      by : (t : Bool) → before (front ++ f ∷ []) (fs ++ gs) ≡ before (front ++ f ∷ []) fs ++ before (front ++ f ∷ fs) gs
          → (if t then length (completed b front) ∷ before (front ++ f ∷ []) (fs ++ gs) else before (front ++ f ∷ []) (fs ++ gs))
          ≡ (if t then length (completed b front) ∷ before (front ++ f ∷ []) fs else before (front ++ f ∷ []) fs) ++ before (front ++ f ∷ fs) gs
      by true rest = ap (λ (ns : List ℕ). length (completed b front) ∷ ns) rest
      by false rest = rest

  abbrev here : List Entry → ℕ
  here es = length (completed b es)

  -- what a piece adds: its step first, if it has one
  piece_adds : (es p : List Entry) → count_by is_step p ≡ steps_at (slice_get p 0) → before es p ≡ (if nat_lt 0 (steps_at (slice_get p 0)) then here es ∷ [] else [])
  piece_adds es [] steps = refl
  piece_adds es (e ∷ p) steps = by (is_step e) (sym (steps_cons e p) ∙ steps)
    where
      by : (t : Bool) → cond t 1 0 + count_by is_step p ≡ cond t 1 0 → (if t then here es ∷ before (es ++ e ∷ []) p else before (es ++ e ∷ []) p) ≡ (if nat_lt 0 (cond t 1 0) then here es ∷ [] else [])
      by true all = ap (λ (ns : List ℕ). here es ∷ ns) (none_before (es ++ e ∷ []) p (omega (arith, all)))
      by false all = none_before (es ++ e ∷ []) p (omega (arith, all))

  around_next : (es p : List Entry) → count_by is_step p ≡ steps_at (slice_get p 0) → (steps_at (slice_get p 0) ≡ 0 → (es ≡ []) ⊎ (p ≡ []))
      → commits_behind b (es ++ p) ≡ commits_behind b es ++ (if nat_lt 0 (steps_at (slice_get p 0)) then here (es ++ p) ∷ [] else [])
  around_next es p steps still =
      ap (drop 1) (around_is [] (es ++ p) ∙ ap (λ (ns : List ℕ). ns ++ here (es ++ p) ∷ []) (before_append [] es p ∙ ap (λ (ns : List ℕ). before [] es ++ ns) (piece_adds es p steps)))
      ∙ (by (nat_lt 0 (steps_at (slice_get p 0))) (λ off. still (not_some (steps_at (slice_get p 0)) off)) ∙ ap (λ (ns : List ℕ). drop 1 ns ++ (if nat_lt 0 (steps_at (slice_get p 0)) then here (es ++ p) ∷ [] else [])) (sym (around_is [] es)))
    where
      by : (t : Bool) → (t ≡ false → (es ≡ []) ⊎ (p ≡ []))
          → drop 1 ((before [] es ++ (if t then here es ∷ [] else [])) ++ here (es ++ p) ∷ []) ≡ drop 1 (before [] es ++ here es ∷ []) ++ (if t then here (es ++ p) ∷ [] else [])
      by false still = elim (still refl) as (λ _. drop 1 ((before [] es ++ []) ++ here (es ++ p) ∷ []) ≡ drop 1 (before [] es ++ here es ∷ []) ++ []) [
        | inl none ↦ subst (λ (fs : List Entry). drop 1 ((before [] fs ++ []) ++ here (fs ++ p) ∷ []) ≡ drop 1 (before [] fs ++ here fs ∷ []) ++ []) (sym none) refl
        | inr none ↦ subst (λ (q : List Entry). drop 1 ((before [] es ++ []) ++ here (es ++ q) ∷ []) ≡ drop 1 (before [] es ++ here es ∷ []) ++ []) (sym none)
            (ap (drop 1) (λ i. append-nil (before [] es) i ++ here (append-nil es i) ∷ []) ∙ sym (append-nil (drop 1 (before [] es ++ here es ∷ []))))
      ]
      by true still = behind_one (before [] es)
        where
          behind_one : (ns : List ℕ) → drop 1 ((ns ++ here es ∷ []) ++ here (es ++ p) ∷ []) ≡ drop 1 (ns ++ here es ∷ []) ++ here (es ++ p) ∷ []
          behind_one [] = refl
          behind_one (n ∷ ns) = refl

  -- A LOOK WITHOUT A STEP adds nothing
  idle_look : (r : Run) (l : ℕ) → steps_at (slice_get (look b.supply b.policy b.script r l) 0) ≡ 0 → look b.supply b.policy b.script r l ≡ []
  idle_look r l = by (can_step b.script r l) (step_change b.supply l r.state)
    where
      made : Option (ℕ × Change) → Option (Entry × KernelState)
      made o = option_map (λ c. carried r.state Step c.0 c.1) o

      by : (t : Bool) (o : Option (ℕ × Change)) → steps_at (slice_get (if t then step_and_kept b.supply b.policy b.script r (made o) else []) 0) ≡ 0 → (if t then step_and_kept b.supply b.policy b.script r (made o) else []) ≡ []
      by false o none = refl
      by true None none = refl
      by true (Some c) none = absurd (let one : 1 ≡ 0 = none in omega (arith, one))

  piece_still : (es all : List Entry) → ComesNext b es all → steps_at (slice_get all 0) ≡ 0 → (es ≡ []) ⊎ (all ≡ [])
  piece_still es all (ComesNext.Births none same) still = inl none
  piece_still es all (ComesNext.Look looked l was same) still =
      inr (same ∙ idle_look (run_of b es) l (sym (ap (λ (fs : List Entry). steps_at (slice_get fs 0)) same) ∙ still))

  pub next_piece : (es new : List Entry) → IsNext b es new
      → commits_behind b new ≡ commits_behind b es ++ (if nat_lt 0 (steps_at (slice_get new (length es))) then length (completed b new) ∷ [] else [])
  next_piece es new next =
      subst (λ (fs : List Entry). commits_behind b fs ≡ commits_behind b es ++ (if nat_lt 0 (steps_at (slice_get fs (length es))) then length (completed b fs) ∷ [] else [])) (sym next.is)
      (subst (λ (o : Option Entry). commits_behind b (es ++ next.all) ≡ commits_behind b es ++ (if nat_lt 0 (steps_at o) then length (completed b (es ++ next.all)) ∷ [] else [])) (sym (get_behind es next.all))
      (around_next es next.all count (piece_still es next.all next.next)))
    where
      count : count_by is_step next.all ≡ steps_at (slice_get next.all 0)
      count =
          let total : count_by is_step new ≡ count_by is_step es + steps_at (slice_get new (length es)) = piece_steps b es new next in
          let whole : count_by is_step new ≡ count_by is_step es + count_by is_step next.all = ap (count_by is_step) next.is ∙ steps_append es next.all in
          let at : steps_at (slice_get new (length es)) ≡ steps_at (slice_get next.all 0) = ap (λ (fs : List Entry). steps_at (slice_get fs (length es))) next.is ∙ ap steps_at (get_behind es next.all) in
          omega (arith, total, whole, at)
