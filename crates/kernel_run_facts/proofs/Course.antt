-- The steps of a run along its course, over its entries.
use Rattle.std.proofs.Common.{◌≡◌, ℕ, ◌+◌, ◌≤◌, List, [], ◌∷◌, ◌++◌, length, refl, sym, ap, subst, ◌∙◌, arith}
use Rattle.std.proofs.lemmas.List.{append-nil, append_assoc, length-append}
use Rattle.base_types.specs.declared.histories.Entry.{Entry}
use Rattle.script_types.specs.model_kernel.Histories.{Policy, Run, run_after, start_run}
use Rattle.script_types.specs.model_kernel.Scripts.{Script}
use Rattle.script_types.specs.model_kernel.Serial.{IsAllIdle, all_loci, rounds}
use Rattle.script_types.specs.model_kernel.Soundness.{IsSound}
use Rattle.script_types.specs.model_kernel.State.{KernelState, Supply}
use Rattle.script_types.specs.model_kernel.Steps.{atlas_in}
use Rattle.script_types.specs.Rules.{IsScript}
use Rattle.kernel_core.specs.model_births.Fitting.{Fits}
use Rattle.kernel_core.specs.model_serial.Serial.{look, looks, opening}
use Rattle.kernel_core.proofs.model_serial_lemmas.Histories.{looks_append, rounds_append}
use Rattle.kernel_core.specs.model_serial_turns.Turns.{HasLooked, opened}
use Rattle.kernel_core.proofs.model_serial_turns_lemmas.Whereabouts.{looked_more, looked_rest, round_idle}
use Rattle.script_types.proofs.model_kernel_lemmas.StableCuts.{run_append}

-- a round more
pub rounds_more : (first : List ℕ) (n : ℕ) → (first ++ rounds n) ++ all_loci ≡ first ++ rounds (n + 1)
rounds_more first n = append_assoc first (rounds n) all_loci ∙ ap (λ ls. first ++ ls) (sym (rounds_append n 1))

module _ (s : Supply) (policy : Policy) (script : Script) (w : KernelState) where
  abbrev run : List Entry → Run
  run es = run_after s script (start_run w) es

  -- one look more
  pub one_look : (ls : List ℕ) (es es' : List Entry) (l : ℕ) → HasLooked s policy script w ls es → es' ≡ es ++ look s policy script (run es) l → HasLooked s policy script w (ls ++ l ∷ []) es'
  one_look ls es es' l h is = subst (HasLooked s policy script w (ls ++ l ∷ [])) (sym is) (looked_more s policy script w ls es l h)

  -- a round that makes no entry is the last
  module _ (rules : IsScript script) (fits : Fits (atlas_in (w 0).cell) script) (sound : IsSound (λ x. (w x).cell)) where
    none_left : (es : List Entry) → length es ≤ 0 → es ≡ []
    none_left [] few = refl
    none_left (e ∷ es) few = absurd (omega (arith, few))

    pub over : (first : List ℕ) (n : ℕ) (es es' : List Entry) → HasLooked s policy script w (first ++ rounds n) es → HasLooked s policy script w (first ++ rounds (n + 1)) es'
        → length es' ≤ length es → HasLooked s policy script w (first ++ rounds n) es' × IsAllIdle script (run es')
    over first n es es' h h' few =
        let o = opening s script w in
        let r : Run = opened s script w in
        let ls = first ++ rounds n in
        let t = looks s policy script r ls in
        let m = looks s policy script (run_after s script r t) all_loci in
        let all : es' ≡ o ++ (t ++ m) = h'.same ∙ ap (λ fs. o ++ looks s policy script r fs) (sym (rounds_more first n)) ∙ ap (λ fs. o ++ fs) (looks_append s policy script r ls all_loci) in
        let long' : length es' ≡ length o + (length t + length m) = ap length all ∙ length-append o (t ++ m) ∙ ap (λ k. length o + k) (length-append t m) in
        let long : length es ≡ length o + length t = ap length h.same ∙ length-append o t in
        let none : m ≡ [] = none_left m (omega (arith, long, long', few)) in
        let same : es' ≡ es = all ∙ ap (λ fs. o ++ (t ++ fs)) none ∙ ap (λ fs. o ++ fs) (append-nil t) ∙ sym h.same in
        let there : run es ≡ run_after s script r t = ap (run_after s script (start_run w)) h.same ∙ run_append s policy script (start_run w) o t in
        let idle : looks s policy script (run es) all_loci ≡ [] = ap (λ (q : Run). looks s policy script q all_loci) there ∙ none in
        let ends : IsAllIdle script (run es) = record { born = (looked_rest s policy script w rules fits sound ls es h).born; idle = round_idle s policy script (run es) idle } in
        (subst (HasLooked s policy script w ls) (sym same) h, subst (λ (fs : List Entry). IsAllIdle script (run fs)) (sym same) ends)
