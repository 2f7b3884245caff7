-- The commits of a look ascend by entity.
use Rattle.std.proofs.Common.{◌≡◌, ℕ, zero, suc, ◌<◌, Bool, true, false, ◌&&◌, not, if◌then◌else◌, cond, arith, List, [], ◌∷◌, ◌++◌, filter, Option, Some, None, refl, sym, ap, subst, ◌∙◌}
use Rattle.std.proofs.lemmas.List.{append-nil, append_assoc}
use Rattle.base_types.specs.Edges.{upto}
use Rattle.base_types.specs.Touches.{AllTouches, IsRising}
use Rattle.base_types.specs.declared.histories.Entry.{Entry}
use Rattle.base_types.specs.declared.histories.Touch.{Touch}
use Rattle.base_types.specs.declared.histories.Event.{Event}
use Rattle.base_types.specs.declared.histories.Event.TheVariants.{Step, Snap as SnapEvent}
use Rattle.model_serial.specs.model_kernel.Choices.{Commit}
use Rattle.model_serial.specs.model_kernel.Histories.{Policy, Run, commit_of, commits_of, goes_on, has_changed, has_wish, is_full, mark, run_after, version_of, went_on}
use Rattle.model_serial.specs.model_kernel.Scripts.{Script}
use Rattle.model_serial.specs.model_kernel.Serial.{can_step}
use Rattle.model_serial.specs.model_kernel.State.{KernelState, Supply}
use Rattle.model_serial.specs.model_kernel.Steps.{step, step_change}
use Rattle.model_serial.specs.Serial.{kept_behind, look, step_and_kept, wished_snaps, written_in}
use Rattle.model_serial.proofs.model_births_lemmas.model_kernel_lemmas.Carried.{acts_stamped}
use Rattle.model_serial.proofs.Calm.{step_entry}
use Rattle.model_serial.proofs.model_sound_runs_lemmas.Counting.{AllLess, upto_less}
use Rattle.model_serial_turns.specs.Rising.{AllAbove, MakesRising, Rises, entities_of}

-- LISTS

above_end : (x n : ℕ) (xs : List ℕ) → AllAbove x xs → x < n → AllAbove x (xs ++ n ∷ [])
above_end x n [] all lt = (lt, tt)
above_end x n (y ∷ ys) all lt = (all.0, above_end x n ys all.1 lt)

rises_end : (n : ℕ) (xs : List ℕ) → Rises xs → AllLess n xs → Rises (xs ++ n ∷ [])
rises_end n [] rise low = (tt, tt)
rises_end n (x ∷ xs) rise low = (above_end x n xs rise.0 low.0, rises_end n xs rise.1 low.1)

upto_rises : (n : ℕ) → Rises (upto n)
upto_rises zero = tt
upto_rises (suc n) = rises_end n (upto n) (upto_rises n) (upto_less n n (omega arith))

above_filter : (f : ℕ → Bool) (x : ℕ) (xs : List ℕ) → AllAbove x xs → AllAbove x (filter f xs)
above_filter f x [] all = tt
above_filter f x (y ∷ ys) all = elim (f y) as (λ b. AllAbove x (cond b (y ∷ filter f ys) (filter f ys))) [ true ↦ (all.0, above_filter f x ys all.1) | false ↦ above_filter f x ys all.1 ]

rises_filter : (f : ℕ → Bool) (xs : List ℕ) → Rises xs → Rises (filter f xs)
rises_filter f [] rise = tt
rises_filter f (x ∷ xs) rise = elim (f x) as (λ b. Rises (cond b (x ∷ filter f xs) (filter f xs))) [ true ↦ (above_filter f x xs rise.0, rises_filter f xs rise.1) | false ↦ rises_filter f xs rise.1 ]

entities_are : (r : Run) (xs : List ℕ) → entities_of (commits_of r xs) ≡ xs
entities_are r [] = refl
entities_are r (x ∷ xs) = ap (λ (ys : List ℕ). x ∷ ys) (entities_are r xs)

pub stable_rises : (r : Run) → Rises (entities_of (commits_of r (filter (has_changed r) (upto 64))))
stable_rises r = subst Rises (sym (entities_are r (filter (has_changed r) (upto 64)))) (rises_filter (has_changed r) (upto 64) (upto_rises 64))

-- what an entry writes ascends
above_written : (x : ℕ) (ts : List Touch) → AllTouches (λ t. x < t.entity) ts → AllAbove x (written_in ts)
above_written x [] all = tt
above_written x (t ∷ ts) all = elim t.wrote as (λ b. AllAbove x (if b then t.entity ∷ written_in ts else written_in ts)) [ true ↦ (all.0, above_written x ts all.1) | false ↦ above_written x ts all.1 ]

written_rises : (ts : List Touch) → IsRising ts → Rises (written_in ts)
written_rises [] rise = tt
written_rises (t ∷ ts) rise = elim t.wrote as (λ b. Rises (if b then t.entity ∷ written_in ts else written_in ts)) [ true ↦ (above_written t.entity ts rise.0, written_rises ts rise.1) | false ↦ written_rises ts rise.1 ]

module _ (s : Supply) (policy : Policy) (script : Script) where
  -- SNAPS of some of these entities, in their order
  record Snaps (r : Run) (xs : List ℕ) (es : List Entry) : Type 0 where
    added : List Commit
    are : (run_after s script r es).commits ≡ r.commits ++ added
    above : (x : ℕ) → AllAbove x xs → AllAbove x (entities_of added)
    rise : Rises xs → Rises (entities_of added)

  snaps : (xs : List ℕ) (r : Run) → Snaps r xs (wished_snaps s policy script r xs)
  snaps [] r = record { added = []; are = sym (append-nil r.commits); above = λ x all. tt; rise = λ all. tt }
  snaps (x ∷ xs) r = by_test (has_wish policy r x && not (is_full r x)) (snaps xs)
    where
      by_test : (b : Bool) → ((q : Run) → Snaps q xs (wished_snaps s policy script q xs))
          → Snaps r (x ∷ xs) ((if b then mark SnapEvent x (version_of r x) ∷ [] else []) ++ wished_snaps s policy script (run_after s script r (if b then mark SnapEvent x (version_of r x) ∷ [] else [])) xs)
      by_test true rest =
          let q : Run = goes_on s script r (mark SnapEvent x (version_of r x)) in
          let k = rest q in
          record {
            added = commit_of r x ∷ k.added;
            are = k.are ∙ append_assoc r.commits (commit_of r x ∷ []) k.added;
            above = λ y all. (all.0, k.above y all.1);
            rise = λ all. (k.above x all.0, k.rise all.1);
          }
      by_test false rest = (let k = rest r in record { added = k.added; are = k.are; above = λ y all. k.above y all.1; rise = λ all. k.rise all.1 })

  behind : (q : Run) (xs : List ℕ) (o : Option ℕ) → Rises xs → MakesRising s script q (kept_behind s policy script q xs o)
  behind q xs (Some actor) rise = record { added = commits_of q (filter (has_changed q) (upto 64)); are = refl; rise = stable_rises q }
  behind q xs None rise = (let k = snaps xs q in record { added = k.added; are = k.are; rise = k.rise rise })

  same_commits : (r : Run) (e : Entry) (ev : Event) → ev ≡ Step → (went_on s script r e ev).commits ≡ r.commits
  same_commits r e ev is = ap (λ (v : Event). (went_on s script r e v).commits) is

  stepped : (r : Run) (l : ℕ) (o : Option (Entry × KernelState)) → step s l r.state ≡ o → MakesRising s script r (step_and_kept s policy script r o)
  stepped r l None is = record { added = []; are = sym (append-nil r.commits); rise = tt }
  stepped r l (Some made) is =
      let rise : IsRising made.0.touched = (acts_stamped Step (step_change s l)).rising r.state made is in
      let k = behind (goes_on s script r made.0) (written_in made.0.touched) (goes_on s script r made.0).owed (written_rises made.0.touched rise) in
      record {
        added = k.added;
        are = k.are ∙ ap (λ (cs : List Commit). cs ++ k.added) (same_commits r made.0 made.0.event (step_entry s policy script r l made is).0);
        rise = k.rise;
      }

  pub look_rises : (r : Run) (l : ℕ) → MakesRising s script r (look s policy script r l)
  look_rises r l = by_test (can_step script r l)
    where
      by_test : (b : Bool) → MakesRising s script r (if b then step_and_kept s policy script r (step s l r.state) else [])
      by_test true = stepped r l (step s l r.state) refl
      by_test false = record { added = []; are = sym (append-nil r.commits); rise = tt }
