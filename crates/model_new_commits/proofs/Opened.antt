-- The commits of the births with their Stable ascend by entity.
use Rattle.std.proofs.Common.{◌≡◌, ℕ, zero, suc, Bool, true, false, if◌then◌else◌, ◌⊎◌, inl, inr, List, [], ◌∷◌, ◌++◌, filter, Option, Some, None, refl, sym, ap, subst, ◌∙◌}
use Rattle.std.proofs.lemmas.List.{append-nil}
use Rattle.base_types.specs.Edges.{upto}
use Rattle.base_types.specs.declared.histories.Entry.{Entry}
use Rattle.base_types.specs.declared.histories.Event.{Event}
use Rattle.model_run_rules.specs.model_kernel.Births.{next_birth}
use Rattle.model_run_rules.specs.model_kernel.Histories.{Run, births_owed, commits_of, goes_on, has_changed, never, run_after, start_run, went_on}
use Rattle.model_run_rules.specs.model_kernel.Scripts.{Script}
use Rattle.model_run_rules.specs.model_kernel.Serial.{birth_turn, births, made_and_owed, owed_stable}
use Rattle.model_run_rules.specs.model_kernel.State.{KernelState, Supply}
use Rattle.model_serial_turns.specs.model_serial.Serial.{opening}
use Rattle.model_serial_turns.proofs.model_serial_lemmas.Openings.{birth_event}
use Rattle.model_serial_turns.proofs.model_births_lemmas.Ends.{births_none}
use Rattle.model_run_rules.proofs.model_kernel_lemmas.StableCuts.{run_append}
use Rattle.model_serial_turns.proofs.Ascent.{stable_rises}
use Rattle.model_serial_turns.specs.Rising.{MakesRising}

module _ (s : Supply) (script : Script) where
  -- what one birth leaves: no commit more, or no birth to come
  record Turns (r : Run) (es : List Entry) : Type 0 where
    makes : MakesRising s script r es
    last : ((run_after s script r es).commits ≡ r.commits) ⊎ (births_owed script (run_after s script r es) ≡ false)

  nothing : (r : Run) → MakesRising s script r []
  nothing r = record { added = []; are = sym (append-nil r.commits); rise = tt }

  none_made : (r : Run) → Turns r []
  none_made r = record { makes = nothing r; last = inl refl }

  behind : (r : Run) (e : Entry) (b : Bool) → (goes_on s script r e).commits ≡ r.commits → births_owed script (goes_on s script r e) ≡ b
      → Turns r (e ∷ owed_stable (if b then None else Some 0))
  behind r e true same born = record { makes = record { added = []; are = same ∙ sym (append-nil r.commits); rise = tt }; last = inl same }
  behind r e false same born =
      let q : Run = goes_on s script r e in
      let changed = filter (has_changed q) (upto 64) in
      record {
        makes = record { added = commits_of q changed; are = ap (λ cs. cs ++ commits_of q changed) same; rise = stable_rises q };
        last = inr born;
      }

  made : (r : Run) (m : Entry × KernelState) → next_birth s script r.state ≡ Some m → Turns r (made_and_owed s script r (Some m))
  made r m is =
      let q : Run = goes_on s script r m.0 in
      let event = birth_event s never script r m is in
      let same : q.commits ≡ r.commits = subst (λ (ev : Event). (went_on s script r m.0 ev).commits ≡ r.commits) (sym event) refl in
      let owed : q.owed ≡ (if births_owed script q then None else Some 0) =
      subst (λ (ev : Event). (went_on s script r m.0 ev).owed ≡ (if births_owed script (went_on s script r m.0 ev) then None else Some 0)) (sym event) refl in
      subst (λ (o : Option ℕ). Turns r (m.0 ∷ owed_stable o)) (sym owed) (behind r m.0 (births_owed script q) same refl)

  abbrev Turn : Run → Bool → Option (Entry × KernelState) → Type 0
  Turn r b o = Turns r (if b then made_and_owed s script r o else [])

  turn : (r : Run) → Turns r (birth_turn s script r)
  turn r = by_test (births_owed script r) (next_birth s script r.state) refl
    where
      by_test : (b : Bool) (o : Option (Entry × KernelState)) → next_birth s script r.state ≡ o → Turn r b o
      by_test false o is = none_made r
      by_test true None is = none_made r
      by_test true (Some m) is = made r m is

  join : (r : Run) (es fs : List Entry) → (run_after s script r es).commits ≡ r.commits → MakesRising s script (run_after s script r es) fs → MakesRising s script r (es ++ fs)
  join r es fs same more = record {
    added = more.added;
    are = ap (λ (q : Run). q.commits) (run_append s never script r es fs) ∙ more.are ∙ ap (λ cs. cs ++ more.added) same;
    rise = more.rise;
  }

  births_rise : (n : ℕ) (r : Run) → MakesRising s script r (births n s script r)
  births_rise zero r = nothing r
  births_rise (suc n) r = by (turn r) (births_rise n (run_after s script r (birth_turn s script r)))
    where
      by : Turns r (birth_turn s script r) → MakesRising s script (run_after s script r (birth_turn s script r)) (births n s script (run_after s script r (birth_turn s script r)))
          → MakesRising s script r (births (suc n) s script r)
      by t more = elim t.last as (λ _. MakesRising s script r (births (suc n) s script r)) [
        | inl same ↦ join r (birth_turn s script r) (births n s script (run_after s script r (birth_turn s script r))) same more
        | inr born ↦ subst (MakesRising s script r) (sym (ap (λ fs. birth_turn s script r ++ fs) (births_none s script n (run_after s script r (birth_turn s script r)) born) ∙ append-nil (birth_turn s script r))) t.makes
      ]

  pub opening_rises : (w : KernelState) → MakesRising s script (start_run w) (opening s script w)
  opening_rises w = births_rise 64 (start_run w)
