-- The births of a run, and the Stable behind them.
use Rattle.std.proofs.Common.{◌≡◌, ℕ, zero, suc, Bool, true, false, not, ◌&&◌, ◌||◌, if◌then◌else◌, ◌⊎◌, inl, inr, List, [], ◌∷◌, ◌++◌, Option, Some, None, option_map, refl, sym, ap, subst}
use Rattle.base_types.specs.declared.histories.Entry.{Entry}
use Rattle.base_types.specs.declared.histories.Event.{Event}
use Rattle.base_types.specs.declared.histories.Event.TheVariants.{Birth}
use Rattle.model_births.proofs.model_kernel_lemmas.Basics.{some_of_map}
use Rattle.model_births.specs.model_kernel.Births.{next_birth, next_birth_change}
use Rattle.model_births.specs.model_kernel.Changes.{Change, carried}
use Rattle.model_births.specs.model_kernel.Histories.{IsLegalFrom, May, Policy, Run, births_owed, goes_on, may, run_after, start_run, went_on, writes}
use Rattle.model_births.specs.model_kernel.Scripts.{Script}
use Rattle.model_births.specs.model_kernel.Serial.{birth_turn, births, made_and_owed, owed_stable}
use Rattle.model_births.specs.model_kernel.State.{KernelState, Supply}
use Rattle.model_births.proofs.Ends.{births_none}
use Rattle.model_serial.specs.Serial.{IsCalm, IsNew, opening}
use Rattle.model_serial.proofs.Calm.{entry_in, legal_join}
use Rattle.model_births.proofs.model_kernel_lemmas.StableCuts.{run_append}

pub no_wish : (b c p f : Bool) → b ≡ false → c ≡ false → ((b && p || c) && f) ≡ false
no_wish false false p f b_no c_no = refl
no_wish false true p f b_no c_no = cc
no_wish true c p f b_no c_no = cc

and_no : (b c : Bool) → c ≡ false → (b && c) ≡ false
and_no true c e = e
and_no false c e = refl

pub start_new : (w : KernelState) → IsNew (start_run w)
start_new w = record { began = refl; short = refl; tried = refl; by_step = λ x. refl; asked = λ x. refl }

module _ (s : Supply) (policy : Policy) (script : Script) where
  -- what the births so far leave: more may come, or none is owed
  record Opens (r : Run) (es : List Entry) : Type 0 where
    legal : IsLegalFrom s policy script r es
    after : (IsNew (run_after s script r es) × ((run_after s script r es).owed ≡ None)) ⊎ (IsCalm policy (run_after s script r es) × (births_owed script (run_after s script r es) ≡ false))

  pub new_calm : (r : Run) → IsNew r → r.owed ≡ None → IsCalm policy r
  new_calm r k owed = record { owed = owed; short = k.short; tried = k.tried; due = λ x. no_wish (r.by_step x) (r.asked x) _ _ (k.by_step x) (k.asked x) }

  pub birth_event : (r : Run) (made : Entry × KernelState) → next_birth s script r.state ≡ Some made → made.0.event ≡ Birth
  birth_event r made is = ap (λ (q : Entry × KernelState). q.0.event) (sym (some_of_map (λ (c : ℕ × Change). carried r.state Birth c.0 c.1) (next_birth_change s script r.state) made is).2)

  pub birth_may : (r : Run) (made : Entry × KernelState) → IsNew r → next_birth s script r.state ≡ Some made → May s policy script r made.0
  birth_may r made k is = (k.tried, subst (λ (ev : Event). may s policy script r made.0 ev) (sym (birth_event r made is)) (k.began, ap (option_map (entry_in s policy script)) is))

  pub born_next : (r : Run) (e : Entry) → e.event ≡ Birth → IsNew r → IsNew (goes_on s script r e) × ((goes_on s script r e).owed ≡ (if births_owed script (goes_on s script r e) then None else Some 0))
  born_next r e is k = (
    record {
      began = subst (λ (ev : Event). (went_on s script r e ev).began ≡ true) (sym is) k.began;
      short = subst (λ (ev : Event). (went_on s script r e ev).short ≡ false) (sym is) k.short;
      tried = subst (λ (ev : Event). (went_on s script r e ev).tried ≡ None) (sym is) k.tried;
      by_step = λ x. subst (λ (ev : Event). (went_on s script r e ev).by_step x ≡ false) (sym is) (and_no (not (writes e x)) (r.by_step x) (k.by_step x));
      asked = λ x. subst (λ (ev : Event). (went_on s script r e ev).asked x ≡ false) (sym is) (k.asked x);
    },
    subst (λ (ev : Event). (went_on s script r e ev).owed ≡ (if births_owed script (went_on s script r e ev) then None else Some 0)) (sym is) refl,
  )

  -- the Stable behind the last birth
  behind : (q : Run) → IsNew q → (b : Bool) → births_owed script q ≡ b → q.owed ≡ (if b then None else Some 0) → Opens q (owed_stable (if b then None else Some 0))
  behind q k true born owed = record { legal = tt; after = inl (k, owed) }
  behind q k false born owed = record {
    legal = ((k.tried, (owed, k.short, refl)), tt);
    after = inr (record { owed = refl; short = k.short; tried = k.tried; due = λ x. refl }, born);
  }

  made_opens : (r : Run) (made : Entry × KernelState) → IsNew r → next_birth s script r.state ≡ Some made → Opens r (made_and_owed s script r (Some made))
  made_opens r made k is =
      let q : Run = goes_on s script r made.0 in
      let n = born_next r made.0 (birth_event r made is) k in
      let later = behind q n.0 (births_owed script q) refl n.1 in
      subst (λ (o : Option ℕ). Opens r (made.0 ∷ owed_stable o)) (sym n.1) (record { legal = (birth_may r made k is, later.legal); after = later.after })

  nothing_opens : (r : Run) → IsNew r → r.owed ≡ None → Opens r []
  nothing_opens r k owed = record { legal = tt; after = inl (k, owed) }

  abbrev Turn : Run → Bool → Option (Entry × KernelState) → Type 0
  Turn r b o = Opens r (if b then made_and_owed s script r o else [])

  turn_opens : (r : Run) → IsNew r → r.owed ≡ None → Opens r (birth_turn s script r)
  turn_opens r k owed = by_test (births_owed script r) refl (next_birth s script r.state) refl
    where
      by_test : (b : Bool) → births_owed script r ≡ b → (o : Option (Entry × KernelState)) → next_birth s script r.state ≡ o → Opens r (birth_turn s script r)
      by_test false e o is = subst (λ b. Turn r b (next_birth s script r.state)) (sym e) (nothing_opens r k owed)
      by_test true e None is = subst (λ b. Turn r b (next_birth s script r.state)) (sym e) (subst (Turn r true) (sym is) (nothing_opens r k owed))
      by_test true e (Some made) is = subst (λ b. Turn r b (next_birth s script r.state)) (sym e) (subst (Turn r true) (sym is) (made_opens r made k is))

  opens_join : (r : Run) (es fs : List Entry) → IsLegalFrom s policy script r es → Opens (run_after s script r es) fs → Opens r (es ++ fs)
  opens_join r es fs first more = record {
    legal = legal_join s policy script r es fs first more.legal;
    after = subst (λ (q : Run). (IsNew q × (q.owed ≡ None)) ⊎ (IsCalm policy q × (births_owed script q ≡ false))) (sym (run_append s policy script r es fs)) more.after;
  }

  births_open : (n : ℕ) (r : Run) → IsNew r → r.owed ≡ None → Opens r (births n s script r)
  births_open zero r k owed = nothing_opens r k owed
  births_open (suc n) r k owed =
      let one = turn_opens r k owed in
      let q : Run = run_after s script r (birth_turn s script r) in
      opens_join r (birth_turn s script r) (births n s script q) one.legal (by_state one.after (λ new owed_no. births_open n q new owed_no))
    where
      by_state : (IsNew (run_after s script r (birth_turn s script r)) × ((run_after s script r (birth_turn s script r)).owed ≡ None)) ⊎ (IsCalm policy (run_after s script r (birth_turn s script r)) × (births_owed script (run_after s script r (birth_turn s script r)) ≡ false))
          → (IsNew (run_after s script r (birth_turn s script r)) → (run_after s script r (birth_turn s script r)).owed ≡ None → Opens (run_after s script r (birth_turn s script r)) (births n s script (run_after s script r (birth_turn s script r))))
          → Opens (run_after s script r (birth_turn s script r)) (births n s script (run_after s script r (birth_turn s script r)))
      by_state (inl (new, owed_no)) rest = rest new owed_no
      by_state (inr (calm, born)) rest =
          subst (λ es. Opens (run_after s script r (birth_turn s script r)) es) (sym (births_none s script n (run_after s script r (birth_turn s script r)) born)) (record { legal = tt; after = inr (calm, born) })

  start_opens : (w : KernelState) → Opens (start_run w) (opening s script w)
  start_opens w = births_open 64 (start_run w) (start_new w) refl

  pub opening_legal : (w : KernelState) → IsLegalFrom s policy script (start_run w) (opening s script w)
  opening_legal w = (start_opens w).legal

  pub opening_calm : (w : KernelState) → IsCalm policy (run_after s script (start_run w) (opening s script w))
  opening_calm w = elim (start_opens w).after as (λ _. IsCalm policy (run_after s script (start_run w) (opening s script w))) [
    | inl new ↦ new_calm (run_after s script (start_run w) (opening s script w)) new.0 new.1
    | inr calm ↦ calm.0
  ]
