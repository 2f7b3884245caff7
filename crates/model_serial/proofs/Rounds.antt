-- The rounds come to their end: each has a step of some locus or finds all idle, and their steps are bounded.
use Rattle.std.proofs.Common.{◌≡◌, ℕ, zero, suc, ◌+◌, ◌-◌, ◌*◌, ◌<◌, ◌≤◌, ◌⊎◌, inl, inr, Bool, true, false, not, ◌&&◌, nat_lt, if◌then◌else◌, List, [], ◌∷◌, ◌++◌, Option, Some, None, is_some, option_map, refl, sym, ap, subst, ◌∙◌, arith}
use Rattle.std.specs.List.{sum_by}
use Rattle.std.proofs.lemmas.Bool.{and_parts, cases_lt, eq-eqb, ltb-true, ne_eqb}
use Rattle.std.proofs.Math.Nat.{suc-mul}
use Rattle.std.proofs.lemmas.List.Sums.{sum_by-cons}
use Rattle.base_types.specs.declared.histories.Entry.{Entry}
use Rattle.base_types.specs.declared.histories.Event.{Event}
use Rattle.base_types.specs.declared.histories.Event.TheVariants.{Snap, Step}
use Rattle.model_births.specs.model_kernel.Changes.{Change, carried}
use Rattle.model_births.specs.model_kernel.Histories.{Policy, Run, births_owed, goes_on, has_wish, is_full, mark, run_after, start_run, version_of, went_on}
use Rattle.model_births.specs.model_kernel.Scripts.{Script}
use Rattle.model_births.specs.model_kernel.Serial.{all_loci, can_step, looks_of, rounds}
use Rattle.model_births.specs.model_kernel.Soundness.{IsSound}
use Rattle.model_births.specs.model_kernel.State.{KernelState, Supply}
use Rattle.model_births.specs.model_kernel.Steps.{numbered_change, running, step, step_change}
use Rattle.model_births.specs.model_kernel.Words.{put}
use Rattle.model_births.specs.script_types.Rules.{IsScript}
use Rattle.model_births.specs.model_sound_runs.Kinds.{NamesNoLocus}
use Rattle.model_births.proofs.model_sound_runs_lemmas.Naming.{births_over}
use Rattle.model_births.proofs.Ends.{some_is}
use Rattle.model_serial.specs.Serial.{IsWhole, kept_behind, look, looks, opening, serial_history, step_and_kept, steps_left, wished_snap, wished_snaps, written_in}
use Rattle.model_serial.proofs.Calm.{step_entry}
use Rattle.model_serial.proofs.Histories.{Idle, longer_by, looks_append, numbers, serial_leaves}
use Rattle.model_births.proofs.model_kernel_lemmas.StableCuts.{run_append}

-- STEPS LEFT

put_here : (f : ℕ → ℕ) (l : ℕ) → put f l (f l + 1) l ≡ f l + 1
put_here f l = ap (λ b. if b then f l + 1 else f l) (eq-eqb l l refl)

put_other : (f : ℕ → ℕ) (l x : ℕ) → (x ≡ l → ⊥) → put f l (f l + 1) x ≡ f x
put_other f l x apart = ap (λ b. if b then f l + 1 else f x) (ne_eqb x l apart)

module _ (n : ℕ) (f : ℕ → ℕ) (l : ℕ) where
  abbrev before : ℕ → ℕ
  before x = n - f x

  abbrev after : ℕ → ℕ
  after x = n - put f l (f l + 1) x

  same_other : (x : ℕ) → (x ≡ l → ⊥) → after x ≡ before x
  same_other x apart = ap (λ y. n - y) (put_other f l x apart)

  less_here : f l < n → after l + 1 ≡ before l
  less_here few = (let e = put_here f l in omega (arith, e, few))

  sum_behind : (from k : ℕ) → l < from → sum_by after (numbers from k) ≡ sum_by before (numbers from k)
  sum_behind from zero low = refl
  sum_behind from (suc k) low =
      let one = same_other from (λ is. omega (arith, is, low)) in
      let rest = sum_behind (suc from) k (omega (arith, low)) in
      let a = sum_by-cons after from (numbers (suc from) k) in
      let b = sum_by-cons before from (numbers (suc from) k) in
      omega (arith, one, rest, a, b)

  -- a step of one of these numbers takes one from what they have left
  sum_falls : (from k : ℕ) → from ≤ l → l < from + k → f l < n → sum_by after (numbers from k) + 1 ≡ sum_by before (numbers from k)
  sum_falls from zero low high few = absurd (omega (arith, low, high))
  sum_falls from (suc k) low high few =
      let a = sum_by-cons after from (numbers (suc from) k) in
      let b = sum_by-cons before from (numbers (suc from) k) in
      elim (cases_lt from l) as (λ _. sum_by after (numbers from (suc k)) + 1 ≡ sum_by before (numbers from (suc k))) [
        | inl above ↦
            let one = same_other from (λ is. omega (arith, is, above)) in
            let rest = sum_falls (suc from) k (omega (arith, above)) (omega (arith, high)) few in
            omega (arith, one, rest, a, b)
        | inr here ↦
            let same : l ≡ from = omega (arith, here, low) in
            let one = subst (λ x. after x + 1 ≡ before x) same (less_here few) in
            let rest = sum_behind (suc from) k (omega (arith, here)) in
            omega (arith, one, rest, a, b)
      ]

sum_most : (n : ℕ) (f : ℕ → ℕ) (from k : ℕ) → sum_by (λ x. n - f x) (numbers from k) ≤ k * n
sum_most n f from zero = omega arith
sum_most n f from (suc k) =
    let a = sum_by-cons (λ x. n - f x) from (numbers (suc from) k) in
    let rest = sum_most n f (suc from) k in
    let e = suc-mul k n in
    omega (arith, a, rest, e)

none_below : (a b : ℕ) → a + 1 ≤ b → b ≤ 0 → ⊥
none_below a b less few = omega (arith, less, few)

one_fewer : (a b m : ℕ) → a + 1 ≤ b → b ≤ suc m → a ≤ m
one_fewer a b m less few = omega (arith, less, few)

both_more : (a m : ℕ) → a ≤ m → suc a ≤ suc m
both_more a m h = omega (arith, h)

abbrev pub AreLoci : List ℕ → Type 0
AreLoci [] = Unit {0}
AreLoci (l ∷ ls) = ((41 ≤ l) × (l < 64)) × AreLoci ls

module _ (s : Supply) (policy : Policy) (script : Script) where
  pub are_loci : (from n : ℕ) → 41 ≤ from → from + n ≤ 64 → AreLoci (numbers from n)
  are_loci from zero low high = tt
  are_loci from (suc n) low high = ((low, omega (arith, high)), are_loci (suc from) n (omega (arith, low)) (omega (arith, high)))

  -- ONE LOOK

  one_keeps : (r : Run) (x : ℕ) (b : Bool) → (run_after s script r (if b then mark Snap x (version_of r x) ∷ [] else [])).steps ≡ r.steps
  one_keeps r x true = refl
  one_keeps r x false = refl

  snaps_keep : (xs : List ℕ) (r : Run) → (run_after s script r (wished_snaps s policy script r xs)).steps ≡ r.steps
  snaps_keep [] r = refl
  snaps_keep (x ∷ xs) r =
      let one = wished_snap policy r x in
      let q : Run = run_after s script r one in
      ap (λ (k : Run). k.steps) (run_append s policy script r one (wished_snaps s policy script q xs)) ∙ (snaps_keep xs q ∙ one_keeps r x (has_wish policy r x && not (is_full r x)))

  kept_keeps : (r : Run) (xs : List ℕ) (o : Option ℕ) → (run_after s script r (kept_behind s policy script r xs o)).steps ≡ r.steps
  kept_keeps r xs None = snaps_keep xs r
  kept_keeps r xs (Some actor) = refl

  pub step_some : (l : ℕ) (w : KernelState) → is_some (running (w l).cell) ≡ true → (made : Entry × KernelState) × (step s l w ≡ Some made)
  unfolding step_change
  step_some l w can =
      let is = some_is (running (w l).cell) can in
      let c = numbered_change s l w is.0 in
      (carried w Step c.0 c.1, ap (λ o. option_map (λ (c : ℕ × Change). carried w Step c.0 c.1) (option_map (numbered_change s l w) o)) is.1)

  made_steps : (r : Run) (l : ℕ) (made : Entry × KernelState) → step s l r.state ≡ Some made → (goes_on s script r made.0).steps ≡ put r.steps l (r.steps l + 1)
  made_steps r l made is =
      let k = step_entry s policy script r l made is in
      ap (λ (ev : Event). (went_on s script r made.0 ev).steps) k.0 ∙ ap (λ n. put r.steps n (r.steps n + 1)) k.1

  -- the locus is idle, or makes a step
  abbrev pub Looked : Run → ℕ → Type 0
  Looked r l = ((can_step script r l ≡ false) × (look s policy script r l ≡ [])) ⊎ ((r.steps l < script.steps) × ((run_after s script r (look s policy script r l)).steps ≡ put r.steps l (r.steps l + 1)))

  pub looked : (r : Run) (l : ℕ) → Looked r l
  looked r l = by_test (can_step script r l) refl
    where
      by_test : (b : Bool) → can_step script r l ≡ b → Looked r l
      by_test false e = inl (e, ap (λ b. if b then step_and_kept s policy script r (step s l r.state) else []) e)
      by_test true e =
          let can = and_parts (is_some (running (r.state l).cell)) (nat_lt (r.steps l) script.steps) e in
          let m = step_some l r.state can.0 in
          let made = m.0 in
          let q : Run = goes_on s script r made.0 in
          let is : look s policy script r l ≡ step_and_kept s policy script r (Some made) = ap (λ b. if b then step_and_kept s policy script r (step s l r.state) else []) e ∙ ap (step_and_kept s policy script r) m.1 in
          inr (
            ltb-true (r.steps l) script.steps can.1,
            ap (λ es. (run_after s script r es).steps) is ∙ (kept_keeps q (written_in made.0.touched) q.owed ∙ made_steps r l made m.1),
          )

  -- a step of a locus takes one from the steps that are left
  pub look_falls : (r : Run) (l : ℕ) → 41 ≤ l → l < 64 → r.steps l < script.steps → (run_after s script r (look s policy script r l)).steps ≡ put r.steps l (r.steps l + 1)
      → steps_left script (run_after s script r (look s policy script r l)) + 1 ≡ steps_left script r
  look_falls r l low high few steps = subst (λ (f : ℕ → ℕ). sum_by (λ x. script.steps - f x) all_loci + 1 ≡ steps_left script r) (sym steps) (sum_falls script.steps r.steps l 41 23 low high few)

  -- ONE ROUND

  -- all of these are idle, or fewer steps are left
  abbrev pub Round : Run → List ℕ → Type 0
  Round r ls = (Idle s policy script r ls × (looks s policy script r ls ≡ [])) ⊎ (steps_left script (run_after s script r (looks s policy script r ls)) + 1 ≤ steps_left script r)

  left_after : (r : Run) (ls : List ℕ) → Round r ls → steps_left script (run_after s script r (looks s policy script r ls)) ≤ steps_left script r
  left_after r ls (inl (idle, none)) = (let e = ap (λ es. steps_left script (run_after s script r es)) none in omega (arith, e))
  left_after r ls (inr less) = omega (arith, less)

  pub round : (ls : List ℕ) (r : Run) → AreLoci ls → Round r ls
  round [] r at = inl (tt, refl)
  round (l ∷ ls) r at = by_look (looked r l) (λ q. round ls q at.1)
    where
      by_look : Looked r l → ((q : Run) → Round q ls) → Round r (l ∷ ls)
      by_look (inl (idle, none)) rest = by_rest (rest r)
        where
          whole : looks s policy script r (l ∷ ls) ≡ looks s policy script r ls
          whole = ap (λ es. es ++ looks s policy script (run_after s script r es) ls) none

          by_rest : Round r ls → Round r (l ∷ ls)
          by_rest (inl (idles, nothing)) = inl ((idle, idles), whole ∙ nothing)
          by_rest (inr less) = inr (subst (λ es. steps_left script (run_after s script r es) + 1 ≤ steps_left script r) (sym whole) less)
      by_look (inr (few, steps)) rest =
          let first = look s policy script r l in
          let q : Run = run_after s script r first in
          let later = looks s policy script q ls in
          let falls = look_falls r l at.0.0 at.0.1 few steps in
          let more = left_after q ls (rest q) in
          inr (subst (λ (k : Run). steps_left script k + 1 ≤ steps_left script r) (sym (run_append s policy script r first later)) (omega (arith, falls, more)))

  -- ALL ROUNDS

  -- with so many rounds all loci are idle
  abbrev Ends : ℕ → Run → Type 0
  Ends m r = (k : ℕ) × (k ≤ m) × Idle s policy script (run_after s script r (looks s policy script r (rounds k))) all_loci

  ends : (m : ℕ) (r : Run) → steps_left script r ≤ m → Ends m r
  ends zero r few = by_round (round all_loci r (are_loci 41 23 (omega arith) (omega arith)))
    where
      by_round : Round r all_loci → Ends zero r
      by_round (inl (idle, none)) = (0, omega arith, idle)
      by_round (inr less) = absurd (none_below _ _ less few)
  ends (suc m) r few = by_round (round all_loci r (are_loci 41 23 (omega arith) (omega arith))) (λ q h. ends m q h)
    where
      by_round : Round r all_loci → ((q : Run) → steps_left script q ≤ m → Ends m q) → Ends (suc m) r
      by_round (inl (idle, none)) rest = (0, omega arith, idle)
      by_round (inr less) rest =
          let first = looks s policy script r all_loci in
          let q : Run = run_after s script r first in
          let end = rest q (one_fewer _ _ m less few) in
          let later = looks s policy script q (rounds end.0) in
          let run : run_after s script r (looks s policy script r (rounds (suc end.0))) ≡ run_after s script q later =
          ap (run_after s script r) (looks_append s policy script r all_loci (rounds end.0)) ∙ run_append s policy script r first later in
          (suc end.0, both_more end.0 m end.1, subst (λ (k : Run). Idle s policy script k all_loci) (sym run) end.2)

  pub at_number : (r : Run) (n from l : ℕ) → Idle s policy script r (numbers from n) → from ≤ l → l < from + n → can_step script r l ≡ false
  at_number r zero from l idle low high = absurd (omega (arith, low, high))
  at_number r (suc n) from l idle low high = elim (cases_lt from l) as (λ _. can_step script r l ≡ false) [
    | inl above ↦ at_number r n (suc from) l idle.1 (omega (arith, above)) (omega (arith, high))
    | inr here ↦ (let same : from ≡ l = omega (arith, here, low) in subst (λ k. can_step script r k ≡ false) same idle.0)
  ]

  pub few_left : (r : Run) → steps_left script r ≤ 23 * script.steps
  few_left r = sum_most script.steps r.steps 41 23

  pub whole_exists : (w : KernelState) → IsScript script → NamesNoLocus script w → IsSound (λ x. (w x).cell) → births_owed script (run_after s script (start_run w) (opening s script w)) ≡ false
      → (n : ℕ) × (n ≤ 23 * script.steps) × IsWhole s policy script w (serial_history s policy script w n)
  whole_exists w rules names sound born =
      let start : Run = run_after s script (start_run w) (serial_history s policy script w 0) in
      let end = ends (23 * script.steps) start (few_left start) in
      let n = end.0 in
      let later = looks s policy script start (rounds n) in
      let whole : serial_history s policy script w n ≡ serial_history s policy script w 0 ++ later =
      ap (serial_history s policy script w) (let e : n ≡ 0 + n = omega arith in e) ∙ longer_by s policy script w 0 n in
      let run : run_after s script (start_run w) (serial_history s policy script w n) ≡ run_after s script start later =
      ap (run_after s script (start_run w)) whole ∙ run_append s policy script (start_run w) (serial_history s policy script w 0) later in
      let idle = subst (λ (k : Run). Idle s policy script k all_loci) (sym run) end.2 in
      let o = opening s script w in
      let r : Run = run_after s script (start_run w) o in
      let legal = (serial_leaves s policy script w n rules names sound born).legal in (
        n,
        end.1,
        record {
          rounds_made = n;
          same = refl;
          over = record {
            born = births_over s policy script rules w o (looks s policy script r (looks_of script r n)) names sound legal born;
            idle = λ l low high. at_number (run_after s script (start_run w) (serial_history s policy script w n)) 23 41 l idle low (omega (arith, high));
          };
        },
      )
