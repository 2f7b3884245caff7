-- Where a run is in its serial history: look behind look, at rest, at a front, and at its end.
use Rattle.std.proofs.Common.{◌≡◌, ℕ, ◌+◌, ◌<◌, ◌≤◌, true, false, ◌⊎◌, inl, inr, nat_lt, List, [], ◌∷◌, ◌++◌, length, is_some, refl, sym, ap, subst, ◌∙◌, arith}
use Rattle.std.proofs.lemmas.Bool.{and_parts, false_from_ne_true}
use Rattle.std.proofs.lemmas.List.{append-nil, append_assoc}
use Rattle.base_types.specs.declared.histories.Entry.{Entry}
use Rattle.model_serial.specs.model_kernel.Histories.{Policy, Run, goes_on, run_after, start_run}
use Rattle.model_serial.specs.model_kernel.Scripts.{Script}
use Rattle.model_serial.specs.model_kernel.Serial.{all_loci, can_step, looks_of}
use Rattle.model_serial.specs.model_kernel.Soundness.{IsSound}
use Rattle.model_serial.specs.model_kernel.State.{KernelState, Supply}
use Rattle.model_serial.specs.model_kernel.Steps.{atlas_in, running}
use Rattle.model_serial.specs.script_types.Rules.{IsScript}
use Rattle.model_serial.proofs.model_sound_runs_lemmas.Naming.{births_over}
use Rattle.model_serial.proofs.model_sound_runs_lemmas.Standing.{standing_over}
use Rattle.model_serial.specs.model_births.Fitting.{Fits}
use Rattle.model_serial.proofs.model_births_lemmas.Ends.{all_births_done}
use Rattle.model_serial.specs.Serial.{IsFront, IsWhole, look, looks, opening, steps_left}
use Rattle.model_serial.proofs.Calm.{leaves_join, looks_leave}
use Rattle.model_serial.proofs.Histories.{Idle, looks_append}
use Rattle.model_serial.proofs.Openings.{opening_calm, opening_legal}
use Rattle.model_serial.proofs.Rounds.{Looked, Round, are_loci, at_number, look_falls, looked, round, step_some}
use Rattle.model_serial_turns.specs.Turns.{ComeFirst, HasLooked, IsAtRest, opened}
use Rattle.model_serial_turns.proofs.Looks.{look_idle, look_made}
use Rattle.model_serial.proofs.model_kernel_lemmas.StableCuts.{run_append}

module _ (s : Supply) (policy : Policy) (script : Script) where
  -- more looks behind those that were made
  looks_more : (start : Run) (o es : List Entry) (ls more : List ℕ) → es ≡ o ++ looks s policy script (run_after s script start o) ls
      → es ++ looks s policy script (run_after s script start es) more ≡ o ++ looks s policy script (run_after s script start o) (ls ++ more)
  looks_more start o es ls more same =
      let r : Run = run_after s script start o in
      let t = looks s policy script r ls in
      let run : run_after s script start es ≡ run_after s script r t = ap (run_after s script start) same ∙ run_append s policy script start o t in
      (λ i. same i ++ looks s policy script (run i) more)
      ∙ append_assoc o t (looks s policy script (run_after s script r t) more)
      ∙ ap (λ fs. o ++ fs) (sym (looks_append s policy script r ls more))

  pub looked_opening : (w : KernelState) → HasLooked s policy script w [] (opening s script w)
  looked_opening w = record { same = sym (append-nil (opening s script w)) }

  pub looked_more : (w : KernelState) (ls : List ℕ) (es : List Entry) (l : ℕ) → HasLooked s policy script w ls es
      → HasLooked s policy script w (ls ++ l ∷ []) (es ++ look s policy script (run_after s script (start_run w) es) l)
  looked_more w ls es l h = record {
    same =
        ap (λ fs. es ++ fs) (sym (append-nil (look s policy script (run_after s script (start_run w) es) l)))
        ∙ looks_more (start_run w) (opening s script w) es ls (l ∷ []) h.same;
  }

  pub looked_idle : (w : KernelState) (ls : List ℕ) (es : List Entry) (l : ℕ) → HasLooked s policy script w ls es → can_step script (run_after s script (start_run w) es) l ≡ false
      → HasLooked s policy script w (ls ++ l ∷ []) es
  looked_idle w ls es l h idle =
      subst (λ fs. HasLooked s policy script w (ls ++ l ∷ []) fs) (ap (λ fs. es ++ fs) (look_idle s policy script (run_after s script (start_run w) es) l idle) ∙ append-nil es) (looked_more w ls es l h)

  pub looked_front : (w : KernelState) (ls : List ℕ) (es to_come : List Entry) → HasLooked s policy script w ls (es ++ to_come) → ComeFirst script (opened s script w) ls → IsFront s policy script w es
  looked_front w ls es to_come h first =
      let more = looks s policy script (run_after s script (start_run w) (es ++ to_come)) first.rest in
      record {
        rounds_made = first.rounds_made;
        rest = to_come ++ more;
        front =
            sym (append_assoc es to_come more)
            ∙ looks_more (start_run w) (opening s script w) (es ++ to_come) ls first.rest h.same
            ∙ ap (λ ks. opening s script w ++ looks s policy script (opened s script w) ks) first.front;
      }

  module _ (w : KernelState) (rules : IsScript script) (fits : Fits (atlas_in (w 0).cell) script) (sound : IsSound (λ x. (w x).cell)) where
    pub looked_rest : (ls : List ℕ) (es : List Entry) → HasLooked s policy script w ls es → IsAtRest s policy script w es
    looked_rest ls es h =
        let o = opening s script w in
        let r : Run = opened s script w in
        let legal = opening_legal s policy script w in
        let names = fits.kinds.containers in
        let born = all_births_done s script rules w sound fits in
        let all =
        leaves_join s policy script (start_run w) o (looks s policy script r ls) (record { legal = legal; calm = opening_calm s policy script w })
        (looks_leave s policy script rules ls r (standing_over s policy script rules o (start_run w) legal (record { sound = sound; kinds = λ _. names })) (opening_calm s policy script w) born) in
        subst (λ fs. IsAtRest s policy script w fs) (sym h.same) (record {
          legal = all.legal;
          calm = all.calm;
          born = births_over s policy script rules w o (looks s policy script r ls) names sound all.legal born;
        })

    pub whole : (es : List Entry) (n : ℕ) → HasLooked s policy script w (looks_of script (opened s script w) n) es
        → ((l : ℕ) → 41 ≤ l → l < 64 → can_step script (run_after s script (start_run w) es) l ≡ false) → IsWhole s policy script w es
    whole es n h idle = record { rounds_made = n; same = h.same; over = record { born = (looked_rest (looks_of script (opened s script w) n) es h).born; idle = idle } }

  -- ROUNDS

  -- a locus that can step makes an entry
  look_steps : (r : Run) (l : ℕ) → can_step script r l ≡ true → look s policy script r l ≡ [] → ⊥
  look_steps r l can none =
      let made = step_some s policy script l r.state (and_parts (is_some (running (r.state l).cell)) (nat_lt (r.steps l) script.steps) can).0 in
      let is = ap length (sym (look_made s policy script r l made.0.0 made.0.1 (goes_on s script r made.0.0).owed can made.1 refl) ∙ none) in
      omega (arith, is)

  look_none : (r : Run) (l : ℕ) → look s policy script r l ≡ [] → can_step script r l ≡ false
  look_none r l none = false_from_ne_true (can_step script r l) (λ can. look_steps r l can none)

  first_none : (xs ys : List Entry) → xs ++ ys ≡ [] → xs ≡ []
  first_none [] ys none = refl
  first_none (x ∷ xs) ys none = (let is = ap length none in absurd (omega (arith, is)))

  idle_looks : (ls : List ℕ) (r : Run) → looks s policy script r ls ≡ [] → Idle s policy script r ls
  idle_looks [] r none = tt
  idle_looks (l ∷ ls) r none =
      let first = first_none (look s policy script r l) (looks s policy script (run_after s script r (look s policy script r l)) ls) none in
      (look_none r l first, idle_looks ls r (sym (ap (λ es. es ++ looks s policy script (run_after s script r es) ls) first) ∙ none))

  pub round_idle : (r : Run) → looks s policy script r all_loci ≡ [] → (l : ℕ) → 41 ≤ l → l < 64 → can_step script r l ≡ false
  round_idle r none l low high = at_number s policy script r 23 41 l (idle_looks all_loci r none) low (omega (arith, high))

  -- STEPS LEFT

  look_takes : (r : Run) (l : ℕ) → 41 ≤ l → l < 64 → can_step script r l ≡ true → steps_left script (run_after s script r (look s policy script r l)) + 1 ≡ steps_left script r
  look_takes r l low high can = by_look (looked s policy script r l)
    where
      by_look : Looked s policy script r l → steps_left script (run_after s script r (look s policy script r l)) + 1 ≡ steps_left script r
      by_look (inl (idle, none)) = absurd (look_steps r l can none)
      by_look (inr (few, steps)) = look_falls s policy script r l low high few steps

  pub look_behind_takes : (r : Run) (es : List Entry) (l : ℕ) → 41 ≤ l → l < 64 → can_step script (run_after s script r es) l ≡ true
      → steps_left script (run_after s script r (es ++ look s policy script (run_after s script r es) l)) + 1 ≡ steps_left script (run_after s script r es)
  look_behind_takes r es l low high can =
      let q : Run = run_after s script r es in
      ap (λ (k : Run). steps_left script k + 1) (run_append s policy script r es (look s policy script q l)) ∙ look_takes q l low high can

  pub round_takes : (r : Run) → (looks s policy script r all_loci ≡ []) ⊎ (steps_left script (run_after s script r (looks s policy script r all_loci)) + 1 ≤ steps_left script r)
  round_takes r = by_round (round s policy script all_loci r (are_loci s policy script 41 23 (omega arith) (omega arith)))
    where
      by_round : Round s policy script r all_loci → (looks s policy script r all_loci ≡ []) ⊎ (steps_left script (run_after s script r (looks s policy script r all_loci)) + 1 ≤ steps_left script r)
      by_round (inl (idle, none)) = inl none
      by_round (inr less) = inr less
