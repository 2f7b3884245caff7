-- A round over the loci that are born is a round over all: one that isn't born makes nothing.
use Rattle.std.proofs.Common.{◌≡◌, ℕ, zero, suc, ◌+◌, ◌-◌, ◌<◌, ◌≤◌, false, ◌&&◌, nat_lt, List, ◌++◌, length, Option, None, is_some, sym, ap, subst, arith}
use Rattle.std.proofs.lemmas.Bool.Decides.{nat_tests}
use Rattle.base_types.specs.declared.histories.Entry.{Entry}
use Rattle.script_types.specs.model_kernel.Histories.{start_run}
use Rattle.script_types.specs.model_kernel.Serial.{can_step, rounds}
use Rattle.script_types.specs.model_kernel.Soundness.{AreSound, is_born}
use Rattle.script_types.specs.model_kernel.State.{AtlasState, Cell, LocusState}
use Rattle.script_types.specs.model_kernel.Steps.{atlas_in, running}
use Rattle.kernel_core.proofs.model_sound_runs_lemmas.Standing.{standing_over}
use Rattle.kernel_core.proofs.model_serial_turns_lemmas.Whereabouts.{looked_idle}
use Rattle.kernel_core.specs.kernel_invariant.Beginnings.{Beginning, BeginsRight, IsLegal, run_of}
use Rattle.kernel_run_facts.specs.Alongs.{LooksAt}
use Rattle.kernel_run_facts.specs.Running.{end_of, loci_before}
use Rattle.kernel_run_facts.proofs.Alongs.{locus_next}
use Rattle.kernel_run_facts.proofs.Course.{rounds_more}

not_running : (a : AtlasState) (cells : ℕ → Cell) (l : ℕ) → AreSound a cells → end_of a ≤ l → running (cells l) ≡ None
not_running a cells l h past =
    let few : length a.containers ≤ 40 = h.names.few_containers in
    let off : is_born a l ≡ false = grind (arith, nat_tests) in
    ap running (h.others l off)

module _ (b : Beginning) (es : List Entry) (begins : BeginsRight b) (legal : IsLegal b es) where
  past_born : (l : ℕ) → end_of (atlas_in ((run_of b es).state 0).cell) ≤ l → can_step b.script (run_of b es) l ≡ false
  past_born l past =
      let sound = (standing_over b.supply b.policy b.script begins.script es (start_run b.state) legal (record { sound = begins.sound.sound; kinds = λ _. begins.names })).sound in
      let same : atlas_in ((run_of b es).state 0).cell ≡ sound.0 = ap atlas_in sound.1.atlas in
      let behind : end_of sound.0 ≤ l = subst (λ a. end_of a ≤ l) same past in
      ap (λ (o : Option LocusState). is_some o && nat_lt ((run_of b es).steps l) b.script.steps) (not_running sound.0 (λ x. ((run_of b es).state x).cell) l sound.1 behind)

  abbrev Looked : List ℕ → ℕ → ℕ → Type 0
  Looked first made l = LooksAt b (loci_before first made l) es

  more_idle : (first : List ℕ) (made n l : ℕ) → l + n ≡ 64 → 41 ≤ l → end_of (atlas_in ((run_of b es).state 0).cell) ≤ l → Looked first made l → Looked first made 64
  more_idle first made zero l at low past h = (let end : l ≡ 64 = omega (arith, at) in subst (Looked first made) end h)
  more_idle first made (suc n) l at low past h =
      let high : l < 64 = omega (arith, at) in
      let idle = looked_idle b.supply b.policy b.script b.state (loci_before first made l) es l h (past_born l past) in
      more_idle first made n (l + 1) (omega (arith, at)) (omega (arith, low)) (omega (arith, past))
      (subst (λ ls. LooksAt b ls es) (sym (locus_next b first made l low high)) idle)

  -- behind the last one that is born the round is over
  pub round_over : (first : List ℕ) (made l : ℕ) → 41 ≤ l → l ≤ 64 → end_of (atlas_in ((run_of b es).state 0).cell) ≤ l → Looked first made l → LooksAt b (first ++ rounds (made + 1)) es
  round_over first made l low high past h =
      let n = 64 - l in
      subst (λ ls. LooksAt b ls es) (rounds_more first made)
      (more_idle first made n l (omega (arith, high)) low past h)
