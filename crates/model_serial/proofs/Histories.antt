-- The serial history as a whole, its fronts, and where it was stopped.
use Rattle.std.proofs.Common.{◌≡◌, ℕ, zero, suc, ◌+◌, ◌-◌, ◌≤◌, true, false, if◌then◌else◌, inl, inr, List, [], ◌∷◌, ◌++◌, Option, Some, None, is_some, refl, sym, ap, subst, ◌∙◌, arith}
use Rattle.std.proofs.lemmas.Bool.{cases_lt, false≢true}
use Rattle.std.proofs.lemmas.List.{append-nil, append_assoc}
use Rattle.base_types.specs.declared.histories.Entry.{Entry}
use Rattle.base_types.specs.declared.histories.Event.TheVariants.{Birth, Snap, Stable, Step, Tried}
use Rattle.model_births.specs.model_kernel.Histories.{IsLegalFrom, IsLegalRun, May, Policy, Run, births_owed, goes_on, mark, next_changed, run_after, start_run, version_of, went_on}
use Rattle.model_births.specs.model_kernel.Scripts.{Script}
use Rattle.model_births.specs.model_kernel.Serial.{IsAllIdle, all_loci, can_step, looks_of, picks_of, rounds}
use Rattle.model_births.specs.model_kernel.Soundness.{IsSound}
use Rattle.model_births.specs.model_kernel.State.{KernelState, Supply}
use Rattle.model_births.specs.model_kernel.Steps.{step}
use Rattle.model_births.specs.script_types.Rules.{IsScript}
use Rattle.model_births.proofs.model_run_laws_lemmas.Wishes.{legal_back}
use Rattle.model_births.proofs.model_sound_runs_lemmas.Standing.{standing_over}
use Rattle.model_births.specs.model_sound_runs.Kinds.{NamesNoLocus}
use Rattle.model_serial.specs.Serial.{IsCut, IsFront, IsStopped, IsWhole, first_snaps, look, looks, opening, serial_history, snap_then, step_and_kept}
use Rattle.model_serial.proofs.Calm.{Leaves, leaves_join, legal_join, looks_leave}
use Rattle.model_serial.proofs.Openings.{opening_calm, opening_legal}
use Rattle.model_births.proofs.model_kernel_lemmas.StableCuts.{legal_front, run_append}

-- this many numbers, from one on
abbrev pub numbers : ℕ → ℕ → List ℕ
numbers from zero = []
numbers from (suc n) = from ∷ numbers (suc from) n

pub rounds_append : (n m : ℕ) → rounds (n + m) ≡ rounds n ++ rounds m
rounds_append zero m = ap rounds (let e : 0 + m ≡ m = omega arith in e)
rounds_append (suc n) m =
    ap rounds (let e : suc n + m ≡ suc (n + m) = omega arith in e)
    ∙ ap (λ ls. all_loci ++ ls) (rounds_append n m) ∙ sym (append_assoc all_loci (rounds n) (rounds m))

module _ (s : Supply) (policy : Policy) (script : Script) where
  -- LOOKS ONE BEHIND ANOTHER

  pub looks_append : (r : Run) (xs ys : List ℕ) → looks s policy script r (xs ++ ys) ≡ looks s policy script r xs ++ looks s policy script (run_after s script r (looks s policy script r xs)) ys
  looks_append r [] ys = refl
  looks_append r (x ∷ xs) ys =
      let first = look s policy script r x in
      let q = run_after s script r first in
      let rest = looks s policy script q xs in
      ap (λ es. first ++ es) (looks_append q xs ys)
      ∙ sym (append_assoc first rest (looks s policy script (run_after s script q rest) ys))
      ∙ ap (λ (k : Run). (first ++ rest) ++ looks s policy script k ys) (sym (run_append s policy script r first rest))

  -- more rounds go on where fewer ended
  pub longer_by : (w : KernelState) (n k : ℕ) → serial_history s policy script w (n + k) ≡ serial_history s policy script w n ++ looks s policy script (run_after s script (start_run w) (serial_history s policy script w n)) (rounds k)
  longer_by w n k =
      let o = opening s script w in
      let r = run_after s script (start_run w) o in
      let before = looks_of script r n in
      let first = looks s policy script r before in
      ap (λ ls. o ++ looks s policy script r ls) (ap (λ ls. picks ++ ls) (rounds_append n k) ∙ sym (append_assoc picks (rounds n) (rounds k)))
      ∙ ap (λ es. o ++ es) (looks_append r before (rounds k))
      ∙ sym (append_assoc o first (looks s policy script (run_after s script r first) (rounds k)))
      ∙ ap (λ (q : Run). (o ++ first) ++ looks s policy script q (rounds k)) (sym (run_append s policy script (start_run w) o first))
    where
      picks : List ℕ
      picks = picks_of (Rattle.model_births.specs.model_kernel.Steps.atlas_in ((run_after s script (start_run w) (opening s script w)).state 0).cell) script.order

  pub longer : (w : KernelState) (n m : ℕ) → n ≤ m → (rest : List Entry) × (serial_history s policy script w n ++ rest ≡ serial_history s policy script w m)
  longer w n m le =
      let rest = looks s policy script (run_after s script (start_run w) (serial_history s policy script w n)) (rounds (m - n)) in
      (rest, sym (longer_by w n (m - n)) ∙ ap (serial_history s policy script w) (let e : n + (m - n) ≡ m = omega (arith, le) in e))

  -- WHERE ALL ARE IDLE nothing follows

  abbrev pub Idle : Run → List ℕ → Type 0
  Idle r [] = Unit {0}
  Idle r (l ∷ ls) = (can_step script r l ≡ false) × Idle r ls

  idle_nothing : (r : Run) (ls : List ℕ) → Idle r ls → looks s policy script r ls ≡ []
  idle_nothing r [] idle = refl
  idle_nothing r (l ∷ ls) (one, rest) =
      let none : look s policy script r l ≡ [] = ap (λ b. if b then step_and_kept s policy script r (step s l r.state) else []) one in
      ap (λ es. es ++ looks s policy script (run_after s script r es) ls) none ∙ idle_nothing r ls rest

  idle_append : (r : Run) (xs ys : List ℕ) → Idle r xs → Idle r ys → Idle r (xs ++ ys)
  idle_append r [] ys first more = more
  idle_append r (x ∷ xs) ys first more = (first.0, idle_append r xs ys first.1 more)

  pub idle_numbers : (r : Run) → IsAllIdle script r → (from n : ℕ) → 41 ≤ from → from + n ≤ 64 → Idle r (numbers from n)
  idle_numbers r over from zero low high = tt
  idle_numbers r over from (suc n) low high = (over.idle from low (omega (arith, high)), idle_numbers r over (suc from) n (omega (arith, low)) (omega (arith, high)))

  idle_rounds : (r : Run) → IsAllIdle script r → (n : ℕ) → Idle r (rounds n)
  idle_rounds r over zero = tt
  idle_rounds r over (suc n) = idle_append r all_loci (rounds n) (idle_numbers r over 41 23 (omega arith) (omega arith)) (idle_rounds r over n)

  whole_more : (w : KernelState) (es : List Entry) (n k : ℕ) → es ≡ serial_history s policy script w n → IsAllIdle script (run_after s script (start_run w) es) → serial_history s policy script w (n + k) ≡ es
  whole_more w es n k same over =
      longer_by w n k
      ∙ subst (λ fs. fs ++ looks s policy script (run_after s script (start_run w) fs) (rounds k) ≡ es) same
      (ap (λ more. es ++ more) (idle_nothing (run_after s script (start_run w) es) (rounds k) (idle_rounds (run_after s script (start_run w) es) over k)) ∙ append-nil es)

  pub one_whole : (w : KernelState) (es fs : List Entry) → IsWhole s policy script w es → IsWhole s policy script w fs → es ≡ fs
  one_whole w es fs a b = elim (cases_lt a.rounds_made b.rounds_made) as (λ _. es ≡ fs) [
    | inl lt ↦
        sym (whole_more w es a.rounds_made (b.rounds_made - a.rounds_made) a.same a.over)
        ∙ (ap (serial_history s policy script w) (let e : a.rounds_made + (b.rounds_made - a.rounds_made) ≡ b.rounds_made = omega (arith, lt) in e) ∙ sym b.same)
    | inr ge ↦
        a.same
        ∙ (ap (serial_history s policy script w) (let e : a.rounds_made ≡ b.rounds_made + (a.rounds_made - b.rounds_made) = omega (arith, ge) in e)
        ∙ whole_more w fs b.rounds_made (a.rounds_made - b.rounds_made) b.same b.over)
  ]

  -- THE SERIAL HISTORY IS LEGAL

  pub serial_leaves : (w : KernelState) (n : ℕ) → IsScript script → NamesNoLocus script w → IsSound (λ x. (w x).cell) → births_owed script (run_after s script (start_run w) (opening s script w)) ≡ false
      → Leaves s policy script (start_run w) (serial_history s policy script w n)
  serial_leaves w n rules names sound born =
      let o = opening s script w in
      let r = run_after s script (start_run w) o in
      let legal = opening_legal s policy script w in
      let calm = opening_calm s policy script w in
      leaves_join s policy script (start_run w) o (looks s policy script r (looks_of script r n)) (record { legal = legal; calm = calm })
      (looks_leave s policy script rules (looks_of script r n) r (standing_over s policy script rules o (start_run w) legal (record { sound = sound; kinds = λ _. names })) calm born)

  -- what was tried stays tried
  tried_next : (r : Run) (e : Entry) → is_some r.tried ≡ true → is_some (goes_on s script r e).tried ≡ true
  tried_next r e some = elim e.event as (λ ev. is_some (went_on s script r e ev).tried ≡ true) [ Birth ↦ some | Step ↦ some | Snap ↦ some | Stable ↦ some | Tried ↦ refl ]

  tried_over : (es : List Entry) (r : Run) → is_some r.tried ≡ true → is_some (run_after s script r es).tried ≡ true
  tried_over [] r some = some
  tried_over (e ∷ es) r some = tried_over es (goes_on s script r e) (tried_next r e some)

  untried : (r : Run) (es rest : List Entry) → (run_after s script r (es ++ rest)).tried ≡ None → (run_after s script r es).tried ≡ None
  untried r es rest none = by_option (run_after s script r es).tried refl
    where
      by_option : (o : Option Rattle.model_births.specs.model_kernel.Choices.Commit) → (run_after s script r es).tried ≡ o → (run_after s script r es).tried ≡ None
      by_option None is = is
      by_option (Some c) is = absurd (false≢true (sym (ap (λ (q : Run). is_some q.tried) (sym (run_append s policy script r es rest)) ∙ ap is_some none) ∙ tried_over rest (run_after s script r es) (ap is_some is)))

  -- where the Snap of a record may follow, its try may
  tried_may : (r : Run) (x version : ℕ) → May s policy script r (mark Snap x version) → May s policy script r (mark Tried x version)
  tried_may r x version m = (m.0, (ap (λ (e : Entry). mark Tried x e.version) m.1.0, m.1.1))

  module _ (w : KernelState) (rules : IsScript script) (names : NamesNoLocus script w) (sound : IsSound (λ x. (w x).cell)) (born : births_owed script (run_after s script (start_run w) (opening s script w)) ≡ false) where
    front_legal : (es : List Entry) → IsFront s policy script w es → IsLegalRun s policy w script es × ((run_after s script (start_run w) es).tried ≡ None)
    front_legal es f =
        let all = serial_leaves w f.rounds_made rules names sound born in (
          legal_front s policy script (start_run w) es f.rest (subst (IsLegalFrom s policy script (start_run w)) (sym f.front) all.legal),
          untried (start_run w) es f.rest (subst (λ fs. (run_after s script (start_run w) fs).tried ≡ None) (sym f.front) all.calm.tried),
        )

    snaps_legal : (n : ℕ) (r : Run) → is_some r.owed ≡ true → r.tried ≡ None → IsLegalFrom s policy script r (first_snaps n s script r) × ((run_after s script r (first_snaps n s script r)).tried ≡ None)
    snaps_legal zero r owed tried = (tt, tried)
    snaps_legal (suc n) r owed tried = by_next (next_changed r) refl (λ q o t. snaps_legal n q o t)
      where
        by_next : (o : Option ℕ) → next_changed r ≡ o → ((q : Run) → is_some q.owed ≡ true → q.tried ≡ None → IsLegalFrom s policy script q (first_snaps n s script q) × ((run_after s script q (first_snaps n s script q)).tried ≡ None))
            → IsLegalFrom s policy script r (snap_then s script r (λ q. first_snaps n s script q) (next_changed r)) × ((run_after s script r (snap_then s script r (λ q. first_snaps n s script q) (next_changed r))).tried ≡ None)
        by_next None is rest = subst (λ o. IsLegalFrom s policy script r (snap_then s script r (λ q. first_snaps n s script q) o) × ((run_after s script r (snap_then s script r (λ q. first_snaps n s script q) o)).tried ≡ None)) (sym is) (tt, tried)
        by_next (Some x) is rest =
            let later = rest (goes_on s script r (mark Snap x (version_of r x))) owed tried in
            subst (λ o. IsLegalFrom s policy script r (snap_then s script r (λ q. first_snaps n s script q) o) × ((run_after s script r (snap_then s script r (λ q. first_snaps n s script q) o)).tried ≡ None)) (sym is)
            (((tried, (refl, inr (owed, is))), later.0), later.1)

    cut_legal : (es : List Entry) → IsCut s policy script w es → IsLegalRun s policy w script es × ((run_after s script (start_run w) es).tried ≡ None)
    cut_legal es (IsCut.At f) = front_legal es f
    cut_legal es (IsCut.InStable front actor completed f is) =
        let all = front_legal (front ++ mark Stable actor 0 ∷ []) f in
        let legal = legal_front s policy script (start_run w) front (mark Stable actor 0 ∷ []) all.0 in
        let may = (legal_back s policy script (start_run w) front (mark Stable actor 0 ∷ []) all.0).0 in
        let r = run_after s script (start_run w) front in
        let more = snaps_legal completed r (ap is_some may.1.0) may.0 in
        subst (λ fs. IsLegalRun s policy w script fs × ((run_after s script (start_run w) fs).tried ≡ None)) (sym is)
        (legal_join s policy script (start_run w) front (first_snaps completed s script r) legal more.0, ap (λ (q : Run). q.tried) (run_append s policy script (start_run w) front (first_snaps completed s script r)) ∙ more.1)

    pub stopped_legal : (es : List Entry) → IsStopped s policy script w es → IsLegalRun s policy w script es
    stopped_legal es (IsStopped.Completed c) = (cut_legal es c).0
    stopped_legal es (IsStopped.Trying front x version c is) =
        let all = (cut_legal (front ++ mark Snap x version ∷ []) c).0 in
        let legal = legal_front s policy script (start_run w) front (mark Snap x version ∷ []) all in
        let may = (legal_back s policy script (start_run w) front (mark Snap x version ∷ []) all).0 in
        subst (IsLegalRun s policy w script) (sym is) (legal_join s policy script (start_run w) front (mark Tried x version ∷ []) legal (tried_may (run_after s script (start_run w) front) x version may, tt))
