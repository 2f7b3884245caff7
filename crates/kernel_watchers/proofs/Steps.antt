-- A piece of the serial history has its step at its first entry, or none.
use Rattle.std.proofs.Common.{◌≡◌, ℕ, zero, suc, ◌+◌, ◌-◌, ◌≤◌, Bool, true, false, cond, not, ◌&&◌, if◌then◌else◌, nat_lt, List, [], ◌∷◌, ◌++◌, length, Option, Some, None, Ok, Err, refl, sym, ap, subst, ◌∙◌, arith}
use Rattle.std.specs.Prelude.{MatchBool, Result, count_by, slice_get, ⊤}
use Rattle.std.proofs.lemmas.Bool.{ltb-true}
use Rattle.std.proofs.lemmas.Bool.Decides.{nat_tests}
use Rattle.std.proofs.lemmas.List.Sums.{sum_by-append, sum_by-cons}
use Rattle.edge_disk.specs.declared.disk.Disk.{Ghosts}
use Rattle.base_types.specs.declared.histories.Entry.{Entry}
use Rattle.base_types.specs.declared.histories.Event.{Event}
use Rattle.base_types.specs.declared.histories.Event.TheVariants.{Snap}
use Rattle.script_types.specs.model_kernel.Births.{next_birth}
use Rattle.script_types.specs.model_kernel.Histories.{Policy, Run, births_owed, goes_on, has_wish, is_full, mark, never, run_after, start_run, version_of}
use Rattle.script_types.specs.model_kernel.Scripts.{Script}
use Rattle.script_types.specs.model_kernel.Serial.{birth_turn, births, can_step, made_and_owed, owed_stable}
use Rattle.script_types.specs.model_kernel.State.{KernelState, Supply}
use Rattle.script_types.specs.model_kernel.Steps.{step}
use Rattle.kernel_runs.specs.model_serial.Serial.{kept_behind, look, opening, step_and_kept, wished_snap, wished_snaps, written_in}
use Rattle.kernel_runs.proofs.model_serial_lemmas.Openings.{birth_event}
use Rattle.kernel_runs.specs.kernel_invariant.Beginnings.{Beginning, run_of}
use Rattle.kernel_runs.specs.kernel_invariant.Marks.{is_step}
use Rattle.model_new_commits.specs.model_run_laws.StepEntries.{is_step as is_step_event}
use Rattle.kernel_runs.specs.kernel_core_facts.Kernels.{Held}
use Rattle.kernel_runs.specs.kernel_run_facts.declared.halts.Halt.{Halt}
use Rattle.kernel_runs.specs.kernel_run_facts.declared.halts.Halt.TheVariants as halt
use Rattle.kernel_runs.specs.kernel_run_facts.Alongs.{ComesNext}
use Rattle.kernel_runs.specs.kernel_run_facts.Watching.{IsNext, RunLeaves}
use Rattle.kernel_watchers.specs.Steps.{IsWithin, StepsLeave, steps_at}

steps_cons : (e : Entry) (es : List Entry) → count_by is_step (e ∷ es) ≡ cond (is_step e) 1 0 + count_by is_step es
steps_cons e es = sum_by-cons (λ (x : Entry). cond (is_step x) 1 0) e es

count_steps : (fs gs : List Entry) → count_by is_step (fs ++ gs) ≡ count_by is_step fs + count_by is_step gs
count_steps fs gs = sum_by-append (λ (e : Entry). cond (is_step e) 1 0) fs gs

-- at its first entry, where there is none behind it
at_first : (e : Entry) (es : List Entry) → count_by is_step es ≡ 0 → count_by is_step (e ∷ es) ≡ steps_at (slice_get (e ∷ es) 0)
at_first e es none = (let all = steps_cons e es in let here : steps_at (slice_get (e ∷ es) 0) ≡ cond (is_step e) 1 0 = refl in omega (arith, all, none, here))

-- and it has none where the whole has none
none_first : (es : List Entry) → count_by is_step es ≡ 0 → steps_at (slice_get es 0) ≡ 0
none_first [] none = refl
none_first (e ∷ es) none = (let all = steps_cons e es in let here : steps_at (slice_get (e ∷ es) 0) ≡ cond (is_step e) 1 0 = refl in omega (arith, all, none, here))

module _ (s : Supply) (policy : Policy) (script : Script) where
  -- SNAPS are no steps
  one_snap : (x version : ℕ) (b : Bool) → count_by is_step (if b then mark Snap x version ∷ [] else []) ≡ 0
  one_snap x version true = refl
  one_snap x version false = refl

  no_steps : (xs : List ℕ) (r : Run) → count_by is_step (wished_snaps s policy script r xs) ≡ 0
  no_steps [] r = refl
  no_steps (x ∷ xs) r =
      let all = count_steps (wished_snap policy r x) (wished_snaps s policy script (run_after s script r (wished_snap policy r x)) xs) in
      let first = one_snap x (version_of r x) (has_wish policy r x && not (is_full r x)) in
      let rest = no_steps xs (run_after s script r (wished_snap policy r x)) in
      omega (arith, all, first, rest)

  none_behind : (r : Run) (xs : List ℕ) (o : Option ℕ) → count_by is_step (kept_behind s policy script r xs o) ≡ 0
  none_behind r xs (Some actor) = refl
  none_behind r xs None = no_steps xs r

  -- A LOOK
  look_steps : (r : Run) (l : ℕ) → count_by is_step (look s policy script r l) ≡ steps_at (slice_get (look s policy script r l) 0)
  look_steps r l = by (can_step script r l) (step s l r.state)
    where
      by : (b : Bool) (o : Option (Entry × KernelState)) → count_by is_step (if b then step_and_kept s policy script r o else []) ≡ steps_at (slice_get (if b then step_and_kept s policy script r o else []) 0)
      by false o = refl
      by true None = refl
      by true (Some made) =
          let q : Run = goes_on s script r made.0 in
          at_first made.0 (kept_behind s policy script q (written_in made.0.touched) q.owed) (none_behind q (written_in made.0.touched) q.owed)

  -- THE BIRTHS
  owed_none : (o : Option ℕ) → count_by is_step (owed_stable o) ≡ 0
  owed_none None = refl
  owed_none (Some actor) = refl

  birth_none : (made : Entry × KernelState) (r : Run) → next_birth s script r.state ≡ Some made → count_by is_step (made.0 ∷ owed_stable (goes_on s script r made.0).owed) ≡ 0
  birth_none made r is =
      let all = steps_cons made.0 (owed_stable (goes_on s script r made.0).owed) in
      let first : cond {A = ℕ} (is_step made.0) 1 0 ≡ 0 = ap (λ (ev : Event). cond {A = ℕ} (is_step_event ev) 1 0) (birth_event s never script r made is) in
      let rest = owed_none (goes_on s script r made.0).owed in
      omega (arith, all, first, rest)

  turn_none : (r : Run) → count_by is_step (birth_turn s script r) ≡ 0
  turn_none r = by (births_owed script r) (next_birth s script r.state) refl
    where
      by : (b : Bool) (o : Option (Entry × KernelState)) → next_birth s script r.state ≡ o → count_by is_step (if b then made_and_owed s script r o else []) ≡ 0
      by false o is = refl
      by true None is = refl
      by true (Some made) is = birth_none made r is

  births_none : (n : ℕ) (r : Run) → count_by is_step (births n s script r) ≡ 0
  births_none zero r = refl
  births_none (suc n) r =
      let q : Run = run_after s script r (birth_turn s script r) in
      let all = count_steps (birth_turn s script r) (births n s script q) in
      let first = turn_none r in
      let rest = births_none n q in
      omega (arith, all, first, rest)

get_behind : (es p : List Entry) → slice_get (es ++ p) (length es) ≡ slice_get p 0
get_behind [] p = refl
get_behind (e ∷ es) p = get_behind es p

-- A PIECE
made_steps : (b : Beginning) (es all new : List Entry) → ComesNext b es all → new ≡ es ++ all → count_by is_step new ≡ count_by is_step es + steps_at (slice_get new (length es))
made_steps b es all new (ComesNext.Births none same) is =
    let whole : new ≡ opening b.supply b.script b.state = is ∙ ap (λ (fs : List Entry). fs ++ all) none ∙ same in
    let zero_now : count_by is_step new ≡ 0 = ap (count_by is_step) whole ∙ births_none b.supply b.policy b.script 64 (start_run b.state) in
    let zero_old : count_by is_step es ≡ 0 = ap (count_by is_step) none in
    let first : steps_at (slice_get new (length es)) ≡ 0 = ap (λ (n : ℕ). steps_at (slice_get new n)) (ap length none) ∙ none_first new zero_now in
    omega (arith, zero_now, zero_old, first)
made_steps b es all new (ComesNext.Look looked l was same) is =
    let p = look b.supply b.policy b.script (run_of b es) l in
    let whole : new ≡ es ++ p = is ∙ ap (λ (fs : List Entry). es ++ fs) same in
    let total : count_by is_step new ≡ count_by is_step es + count_by is_step p = ap (count_by is_step) whole ∙ count_steps es p in
    let one = look_steps b.supply b.policy b.script (run_of b es) l in
    let first : steps_at (slice_get new (length es)) ≡ steps_at (slice_get p 0) = ap (λ (fs : List Entry). steps_at (slice_get fs (length es))) whole ∙ ap steps_at (get_behind es p) in
    omega (arith, total, one, first)

pub piece_steps : (b : Beginning) (es new : List Entry) → IsNext b es new → count_by is_step new ≡ count_by is_step es + steps_at (slice_get new (length es))
piece_steps b es new next = made_steps b es next.all new next.next next.is

at_most_one : (o : Option Entry) → steps_at o ≤ 1
at_most_one None = omega arith
at_most_one (Some e) = by (is_step e)
  where
    by : (b : Bool) → cond {A = ℕ} b 1 0 ≤ 1
    by true = omega arith
    by false = omega arith

none_left : (n : ℕ) → nat_lt 0 n ≡ false → n ≡ 0
none_left n h = grind (arith, nat_tests)

-- THE WATCHER: it lets the run go on where steps are left, and else all of them are made
pub knows_steps : (steps left left' noted noted' : ℕ) (b : Beginning) (es new now : List Entry) (r : Bool) → IsWithin steps left noted es → IsNext b es new → now ≡ new → left' ≡ left - steps_at (slice_get new noted) → noted' ≡ length new → r ≡ nat_lt 0 left'
    → MatchBool r (IsWithin steps left' noted' now) (count_by is_step now ≡ steps)
knows_steps steps left left' noted noted' b es new now r within next same less len answer = subst (λ x. MatchBool x (IsWithin steps left' noted' now) (count_by is_step now ≡ steps)) (sym answer) (by (nat_lt 0 left') refl)
  where
    one : steps_at (slice_get new noted) ≡ steps_at (slice_get new (length es))
    one = ap (λ (n : ℕ). steps_at (slice_get new n)) within.entries

    total : count_by is_step now + left' ≡ steps
    total =
        let piece = piece_steps b es new next in
        let few = at_most_one (slice_get new (length es)) in
        let made = within.made in
        let more = within.more in
        let e = one in
        let here : count_by is_step now ≡ count_by is_step new = ap (count_by is_step) same in
        omega (arith, piece, few, made, more, e, here, less)

    by : (x : Bool) → nat_lt 0 left' ≡ x → MatchBool x (IsWithin steps left' noted' now) (count_by is_step now ≡ steps)
    by true is = record { entries = len ∙ ap length (sym same); made = total; more = ltb-true _ _ is }
    by false is = (let none = none_left left' is in let all = total in omega (arith, none, all))

-- THE RUN
module _ {D : Type 0} (disks : Ghosts D) (b : Beginning) (steps left noted : ℕ) (k : Held D) where
  pub steps_leave : (r : Result ⊤ Halt) → RunLeaves disks (λ _ es. IsWithin steps left noted es) (λ _ es. count_by is_step es ≡ steps) b r k → StepsLeave disks b steps r k
  steps_leave (Ok y) leaves = record { over = leaves.over; fewer = (let made = leaves.knows.made in let more = leaves.knows.more in omega (arith, made, more)) }
  steps_leave (Err (halt.Kernel why)) leaves = leaves.stopped
  steps_leave (Err halt.Watcher) leaves = record { looked = leaves.looked; first = leaves.first; along = leaves.along; made = leaves.knows }
