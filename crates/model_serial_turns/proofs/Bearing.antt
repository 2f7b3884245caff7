-- The births, one after another, and the Stable behind the last.
use Rattle.std.proofs.Common.{◌≡◌, ℕ, zero, suc, true, false, if◌then◌else◌, List, [], ◌∷◌, ◌++◌, Option, Some, None, is_some, option_map, option_and_then, refl, sym, ap, subst, ◌∙◌}
use Rattle.std.proofs.lemmas.Bool.{false≢true, or_right}
use Rattle.std.proofs.lemmas.List.{append-nil, append_assoc}
use Rattle.base_types.specs.declared.histories.Entry.{Entry}
use Rattle.base_types.specs.declared.histories.Event.{Event}
use Rattle.base_types.specs.declared.histories.Event.TheVariants.{Birth, Stable}
use Rattle.model_serial.specs.model_kernel.Births.{birth_named, next_birth, next_birth_change}
use Rattle.model_serial.specs.model_kernel.Changes.{Change, carried}
use Rattle.model_serial.specs.model_kernel.Histories.{Policy, Run, births_owed, goes_on, is_full, mark, never, run_after, start_run, went_on}
use Rattle.model_serial.specs.model_kernel.Scripts.{Script, next_name}
use Rattle.model_serial.specs.model_kernel.Serial.{birth_turn, births, looks_of, made_and_owed, owed_stable}
use Rattle.model_serial.specs.model_kernel.Soundness.{IsSound}
use Rattle.model_serial.specs.model_kernel.State.{KernelState, Supply, Text}
use Rattle.model_serial.specs.model_kernel.Steps.{atlas_in}
use Rattle.model_serial.specs.script_types.Rules.{IsScript}
use Rattle.model_serial.specs.model_births.Fitting.{Fits}
use Rattle.model_serial.proofs.model_births_lemmas.Ends.{all_births_done, births_none}
use Rattle.model_serial.specs.Serial.{IsBehind, IsFront, IsNew, looks, opening}
use Rattle.model_serial.proofs.Openings.{birth_event, born_next, no_wish, start_new}
use Rattle.model_serial_turns.specs.Turns.{IsBearing, opened}
use Rattle.model_serial.proofs.model_kernel_lemmas.StableCuts.{run_append}

module _ (s : Supply) (script : Script) where
  -- a birth is made where a name is owed
  name_owed : (w : KernelState) (made : Entry × KernelState) → next_birth s script w ≡ Some made → is_some (next_name (atlas_in (w 0).cell) script) ≡ true
  unfolding next_birth_change
  name_owed w made is = by_name (next_name (atlas_in (w 0).cell) script) refl
    where
      by_name : (o : Option Text) → next_name (atlas_in (w 0).cell) script ≡ o → is_some (next_name (atlas_in (w 0).cell) script) ≡ true
      by_name (Some name) named = ap is_some named
      by_name None named =
          let none : next_birth s script w ≡ None =
          ap (λ o. option_map (λ (c : ℕ × Change). carried w Birth c.0 c.1) (option_and_then (λ name. birth_named s script name w (atlas_in (w 0).cell)) o)) named in
          absurd (false≢true (ap is_some (sym none ∙ is)))

  module _ (r : Run) (new : IsNew r) (e : Entry) (v : KernelState) (is : next_birth s script r.state ≡ Some (e, v)) where
    -- the run behind the birth is new, too, and owes a Stable if it was the last
    pub birth_leaves : IsNew (goes_on s script r e) × ((goes_on s script r e).owed ≡ (if births_owed script (goes_on s script r e) then None else Some 0))
    birth_leaves = born_next s never script r e (birth_event s never script r (e, v) is) new

    turn_is : (o : Option ℕ) → (goes_on s script r e).owed ≡ o → birth_turn s script r ≡ e ∷ owed_stable o
    turn_is o owed =
        ap (λ (b : Rattle.std.specs.Prelude.Bool). if b then made_and_owed s script r (next_birth s script r.state) else []) (name_owed r.state (e, v) is)
        ∙ (ap (made_and_owed s script r) is ∙ ap (λ o. e ∷ owed_stable o) owed)

    births_go_on : (n : ℕ) (o : Option ℕ) → (goes_on s script r e).owed ≡ o → births (suc n) s script r ≡ (e ∷ owed_stable o) ++ births n s script (run_after s script r (e ∷ owed_stable o))
    births_go_on n o owed = ap (λ es. es ++ births n s script (run_after s script r es)) (turn_is o owed)

    -- one birth, with more to come
    birth_more : (n : ℕ) → births_owed script (goes_on s script r e) ≡ true → births (suc n) s script r ≡ e ∷ births n s script (goes_on s script r e)
    birth_more n more = births_go_on n None (birth_leaves.1 ∙ ap (λ b. if b then None else Some 0) more)

    -- the last birth
    birth_last : (n : ℕ) → births_owed script (goes_on s script r e) ≡ false → births (suc n) s script r ≡ e ∷ mark Stable 0 0 ∷ []
    birth_last n last =
        births_go_on n (Some 0) (birth_leaves.1 ∙ ap (λ b. if b then None else Some 0) last)
        ∙ ap (λ es. e ∷ mark Stable 0 0 ∷ es) (births_none s script n (run_after s script r (e ∷ mark Stable 0 0 ∷ [])) last)

  pub birth_behind : (policy : Policy) (r : Run) (e : Entry) (v : KernelState) → IsNew r → next_birth s script r.state ≡ Some (e, v) → IsBehind policy (goes_on s script r e) []
  birth_behind policy r e v new is =
      let event = birth_event s never script r (e, v) is in
      let later = (birth_leaves r new e v is).0 in
      record {
        short = later.short;
        tried = later.tried;
        noted = λ x. subst (λ (ev : Event). is_full (went_on s script r e ev) x ≡ true → (went_on s script r e ev).was_full x ≡ true) (sym event) (or_right (r.was_full x) (is_full r x));
        due = λ x _. no_wish _ _ _ _ (later.by_step x) (later.asked x);
      }

  pub begins : (w : KernelState) → IsBearing s script w []
  begins w = record { new = start_new w; owed = refl; left = 64; same = refl }

  pub bearing_over : (w : KernelState) (es : List Entry) → IsBearing s script w es → births_owed script (run_after s script (start_run w) es) ≡ false → es ≡ opening s script w
  bearing_over w es b born =
      sym (append-nil es) ∙ ap (λ fs. es ++ fs) (sym (births_none s script b.left (run_after s script (start_run w) es) born)) ∙ b.same

  module _ (w : KernelState) (es : List Entry) (e : Entry) (v : KernelState) (rules : IsScript script) (fits : Fits (atlas_in (w 0).cell) script) (sound : IsSound (λ x. (w x).cell))
      (b : IsBearing s script w es) (is : next_birth s script (run_after s script (start_run w) es).state ≡ Some (e, v)) where
    -- another birth is left, since a name is owed
    one_left : (n : ℕ) → es ++ births n s script (run_after s script (start_run w) es) ≡ opening s script w → (m : ℕ) × (es ++ births (suc m) s script (run_after s script (start_run w) es) ≡ opening s script w)
    one_left (suc m) same = (m, same)
    one_left zero same =
        let owed = name_owed (run_after s script (start_run w) es).state (e, v) is in
        let done = all_births_done s script rules w sound fits in
        let whole : es ≡ opening s script w = sym (append-nil es) ∙ same in
        absurd (false≢true (sym (ap (λ fs. births_owed script (run_after s script (start_run w) fs)) whole ∙ done) ∙ owed))

    run_next : run_after s script (start_run w) (es ++ e ∷ []) ≡ goes_on s script (run_after s script (start_run w) es) e
    run_next = run_append s never script (start_run w) es (e ∷ [])

    pub bearing_more : births_owed script (run_after s script (start_run w) (es ++ e ∷ [])) ≡ true → IsBearing s script w (es ++ e ∷ [])
    bearing_more more =
        let q : Run = run_after s script (start_run w) es in
        let left = one_left b.left b.same in
        let owed = sym (ap (births_owed script) run_next) ∙ more in
        let leaves = birth_leaves q b.new e v is in
        record {
          new = subst IsNew (sym run_next) leaves.0;
          owed = ap (λ (k : Run). k.owed) run_next ∙ leaves.1 ∙ ap (λ b. if b then None else Some 0) owed;
          left = left.0;
          same =
              ap (λ (k : Run). (es ++ e ∷ []) ++ births left.0 s script k) run_next
              ∙ append_assoc es (e ∷ []) (births left.0 s script (goes_on s script q e))
              ∙ ap (λ fs. es ++ fs) (sym (birth_more q b.new e v is left.0 owed))
              ∙ left.1;
        }

    pub bearing_last : births_owed script (run_after s script (start_run w) (es ++ e ∷ [])) ≡ false
        → ((run_after s script (start_run w) (es ++ e ∷ [])).owed ≡ Some 0) × ((es ++ e ∷ []) ++ mark Stable 0 0 ∷ [] ≡ opening s script w)
    bearing_last last =
        let q : Run = run_after s script (start_run w) es in
        let left = one_left b.left b.same in
        let owed = sym (ap (births_owed script) run_next) ∙ last in (
          ap (λ (k : Run). k.owed) run_next ∙ (birth_leaves q b.new e v is).1 ∙ ap (λ b. if b then None else Some 0) owed,
          append_assoc es (e ∷ []) (mark Stable 0 0 ∷ []) ∙ ap (λ fs. es ++ fs) (sym (birth_last q b.new e v is left.0 owed)) ∙ left.1,
        )

  pub bearing_behind : (policy : Policy) (w : KernelState) (es : List Entry) (e : Entry) (v : KernelState) → IsBearing s script w es → next_birth s script (run_after s script (start_run w) es).state ≡ Some (e, v)
      → IsBehind policy (run_after s script (start_run w) (es ++ e ∷ [])) []
  bearing_behind policy w es e v b is =
      subst (λ (k : Run). IsBehind policy k []) (sym (run_append s never script (start_run w) es (e ∷ []))) (birth_behind policy (run_after s script (start_run w) es) e v b.new is)

  pub bearing_front : (policy : Policy) (w : KernelState) (es : List Entry) → IsBearing s script w es → IsFront s policy script w es
  bearing_front policy w es b =
      let rest = births b.left s script (run_after s script (start_run w) es) in
      let later = looks s policy script (opened s script w) (looks_of script (opened s script w) 0) in
      record { rounds_made = 0; rest = rest ++ later; front = sym (append_assoc es rest later) ∙ ap (λ fs. fs ++ later) b.same }
