-- Behind each step of a serial history nothing is owed and no wish is due.
use Rattle.std.proofs.Common.{◌≡◌, ℕ, ◌<◌, ◌-◌, inl, Bool, true, false, not, ◌&&◌, ◌||◌, ◌==◌, nat_lt, if◌then◌else◌, List, [], ◌∷◌, ◌++◌, Option, Some, None, is_some, option_map, refl, sym, ap, subst, ◌∙◌, eqb-true}
use Rattle.std.specs.List.{list_any}
use Rattle.std.proofs.lemmas.Bool.{and_parts, eq-eqb, ltb-true, or_right}
use Rattle.base_types.specs.declared.histories.Entry.{Entry}
use Rattle.base_types.specs.declared.histories.Event.{Event}
use Rattle.base_types.specs.declared.histories.Event.TheVariants.{Snap, Step}
use Rattle.base_types.specs.declared.histories.Touch.{Touch}
use Rattle.model_births.specs.model_kernel.Histories.{IsLegalFrom, IsMade, May, Policy, Run, after_snap, births_owed, every_of, goes_on, has_wish, is_due, is_full, mark, may, run_after, version_of, went_on, writes}
use Rattle.model_births.specs.model_kernel.Scripts.{Script}
use Rattle.model_births.specs.model_kernel.Serial.{can_step}
use Rattle.model_births.specs.model_kernel.State.{KernelState, Supply}
use Rattle.model_births.specs.model_kernel.Steps.{running, step}
use Rattle.model_births.specs.script_types.Rules.{IsScript}
use Rattle.model_births.proofs.model_run_laws_lemmas.Wishes.{due_stays}
use Rattle.model_births.proofs.model_run_laws_lemmas.Writing.{step_is}
use Rattle.model_births.proofs.model_sound_runs_lemmas.Naming.{owed_over}
use Rattle.model_births.proofs.model_sound_runs_lemmas.Standing.{IsStanding, standing_over}
use Rattle.model_serial.specs.Serial.{IsBehind, IsCalm, kept_behind, look, looks, step_and_kept, wished_snaps, written_in}
use Rattle.model_births.proofs.model_kernel_lemmas.StableCuts.{run_append}
use Rattle.model_births.specs.model_kernel.Pasts.{has}
use Rattle.std.proofs.Math.Bool.{and-false}

and_true : (c : Bool) → (c && true) ≡ c
and_true true = refl
and_true false = refl

written_has : (ts : List Touch) (x : ℕ) → list_any (λ (t : Touch). t.entity == x && t.wrote) ts ≡ has (written_in ts) x
written_has [] x = refl
written_has (t ∷ ts) x = one t.wrote (written_has ts x)
  where
    one : (b : Bool) → list_any (λ (t : Touch). t.entity == x && t.wrote) ts ≡ has (written_in ts) x
        → ((t.entity == x && b) || list_any (λ (t : Touch). t.entity == x && t.wrote) ts) ≡ has (if b then t.entity ∷ written_in ts else written_in ts) x
    one true e = ap (λ c. c || list_any (λ (t : Touch). t.entity == x && t.wrote) ts) (and_true (t.entity == x)) ∙ ap (λ c. (t.entity == x) || c) e
    one false e = ap (λ c. c || list_any (λ (t : Touch). t.entity == x && t.wrote) ts) (and-false (t.entity == x)) ∙ e

-- without a wish, or full before, nothing is due
not_due : (h f w : Bool) → (h && not f) ≡ false → (f ≡ true → w ≡ true) → (h && not w) ≡ false
not_due false f w e noted = refl
not_due true true w e noted = ap not (noted refl)
not_due true false w e noted = cc

module _ (s : Supply) (policy : Policy) (script : Script) where
  pub legal_join : (r : Run) (es fs : List Entry) → IsLegalFrom s policy script r es → IsLegalFrom s policy script (run_after s script r es) fs → IsLegalFrom s policy script r (es ++ fs)
  legal_join r [] fs first more = more
  legal_join r (e ∷ es) fs first more = (first.0, legal_join (goes_on s script r e) es fs first.1 more)

  -- what a piece of the history leaves
  pub record Leaves (r : Run) (es : List Entry) : Type 0 where
    pub legal : IsLegalFrom s policy script r es
    pub calm : IsCalm policy (run_after s script r es)

  pub leaves_join : (r : Run) (es fs : List Entry) → Leaves r es → Leaves (run_after s script r es) fs → Leaves r (es ++ fs)
  leaves_join r es fs first more = record {
    legal = legal_join r es fs first.legal more.legal;
    calm = subst (λ (q : Run). IsCalm policy q) (sym (run_append s policy script r es fs)) more.calm;
  }

  pub leaves_nothing : (r : Run) → IsCalm policy r → Leaves r []
  leaves_nothing r calm = record { legal = tt; calm = calm }

  -- SNAPS

  abbrev next : Run → ℕ → Run
  next r x = goes_on s script r (mark Snap x (version_of r x))

  closed : (r : Run) (x : ℕ) → is_due policy (next r x) x ≡ false
  closed r x =
      subst (λ b. (((if b then false else r.by_step x) && policy (every_of (r.state x).cell) (version_of r x - (if b then version_of r x else r.newest x)) || (if b then false else r.asked x)) && not (r.was_full x || is_full (after_snap r x) x)) ≡ false)
      (sym (eq-eqb x x refl)) refl

  pub snap_next : (r : Run) (x : ℕ) (xs : List ℕ) → r.owed ≡ None → IsBehind policy r (x ∷ xs) → May s policy script r (mark Snap x (version_of r x)) → IsBehind policy (next r x) xs
  snap_next r x xs owed k m = record {
    short = ap is_some owed;
    tried = k.tried;
    noted = λ y full. or_right (r.was_full y) (is_full (next r x) y) full;
    due = λ y none. at_or_other y none (x == y) refl;
  }
    where
      at_or_other : (y : ℕ) → has xs y ≡ false → (b : Bool) → (x == y) ≡ b → is_due policy (next r x) y ≡ false
      at_or_other y none true e = subst (λ z. is_due policy (next r x) z ≡ false) (eqb-true x y e) (closed r x)
      at_or_other y none false e = due_stays s policy script r (mark Snap x (version_of r x)) y m refl (k.due y (ap (λ b. b || has xs y) e ∙ none))

  -- no Snap of this one: it has no wish, or is full
  pub without : (r : Run) (x : ℕ) (xs : List ℕ) → IsBehind policy r (x ∷ xs) → (has_wish policy r x && not (is_full r x)) ≡ false → IsBehind policy r xs
  without r x xs k none = record { short = k.short; tried = k.tried; noted = k.noted; due = λ y other. at_or_other y other (x == y) refl }
    where
      at_or_other : (y : ℕ) → has xs y ≡ false → (b : Bool) → (x == y) ≡ b → is_due policy r y ≡ false
      at_or_other y other true e = subst (λ z. is_due policy r z ≡ false) (eqb-true x y e) (not_due (has_wish policy r x) (is_full r x) (r.was_full x) none (k.noted x))
      at_or_other y other false e = k.due y (ap (λ b. b || has xs y) e ∙ other)

  abbrev Then : Run → List ℕ → List Entry → Type 0
  Then r xs es = Leaves r (es ++ wished_snaps s policy script (run_after s script r es) xs)

  snaps_leave : (xs : List ℕ) (r : Run) → r.owed ≡ None → IsBehind policy r xs → Leaves r (wished_snaps s policy script r xs)
  snaps_leave [] r owed k = record { legal = tt; calm = record { owed = owed; short = k.short; tried = k.tried; due = λ x. k.due x refl } }
  snaps_leave (x ∷ xs) r owed k = by_test (has_wish policy r x && not (is_full r x)) refl (λ q o b. snaps_leave xs q o b)
    where
      by_test : (b : Bool) → (has_wish policy r x && not (is_full r x)) ≡ b → ((q : Run) → q.owed ≡ None → IsBehind policy q xs → Leaves q (wished_snaps s policy script q xs))
          → Leaves r (wished_snaps s policy script r (x ∷ xs))
      by_test true e rest =
          let both = and_parts (has_wish policy r x) (not (is_full r x)) e in
          let m : May s policy script r (mark Snap x (version_of r x)) = (k.tried, (refl, inl (both.0, both.1, owed))) in
          let later = rest (next r x) owed (snap_next r x xs owed k m) in
          subst (Then r xs) (sym (ap (λ b. if b then mark Snap x (version_of r x) ∷ [] else []) e)) (record { legal = (m, later.legal); calm = later.calm })
      by_test false e rest = subst (Then r xs) (sym (ap (λ b. if b then mark Snap x (version_of r x) ∷ [] else []) e)) (rest r owed (without r x xs k e))

  -- A STEP

  none_due : (r : Run) (ts : List Touch) → IsCalm policy r → list_any (λ (t : Touch). is_due policy r t.entity) ts ≡ false
  none_due r [] calm = refl
  none_due r (t ∷ ts) calm = ap (λ b. b || list_any (λ (t : Touch). is_due policy r t.entity) ts) (calm.due t.entity) ∙ none_due r ts calm

  abbrev pub entry_in : Entry × KernelState → Entry
  entry_in made = made.0

  -- a step's entry is a Step of its locus
  pub step_entry : (r : Run) (l : ℕ) (made : Entry × KernelState) → step s l r.state ≡ Some made → (made.0.event ≡ Step) × (made.0.actor ≡ l)
  step_entry r l made is =
      let k = step_is s l r.state made.0 (ap (option_map entry_in) is) in
      (ap (λ (e : Entry). e.event) k.entry, ap (λ (e : Entry). e.actor) k.entry)

  pub step_may : (r : Run) (l : ℕ) (made : Entry × KernelState) → IsCalm policy r → births_owed script r ≡ false → r.steps l < script.steps → step s l r.state ≡ Some made → May s policy script r made.0
  step_may r l made calm born few is =
      let k = step_entry r l made is in (
        calm.tried,
        subst (λ (ev : Event). may s policy script r made.0 ev) (sym k.0) (
          born,
          calm.owed,
          subst (λ n. r.steps n < script.steps) (sym k.1) few,
          none_due r made.0.touched calm,
          subst (λ n. IsMade (step s n r.state) made.0) (sym k.1) (ap (option_map entry_in) is),
        ),
      )

  pub step_behind : (r : Run) (e : Entry) → IsCalm policy r → e.event ≡ Step → May s policy script r e → IsBehind policy (goes_on s script r e) (written_in e.touched)
  step_behind r e calm is m = record {
    short = subst (λ (ev : Event). (went_on s script r e ev).short ≡ false) (sym is) calm.short;
    tried = subst (λ (ev : Event). (went_on s script r e ev).tried ≡ None) (sym is) calm.tried;
    noted = λ x. subst (λ (ev : Event). is_full (went_on s script r e ev) x ≡ true → (went_on s script r e ev).was_full x ≡ true) (sym is) (or_right (not (writes e x) && r.was_full x) (is_full r x));
    due = λ x none. due_stays s policy script r e x m (written_has e.touched x ∙ none) (calm.due x);
  }

  kept_leave : (r : Run) (xs : List ℕ) → IsBehind policy r xs → (o : Option ℕ) → r.owed ≡ o → Leaves r (kept_behind s policy script r xs o)
  kept_leave r xs k None owed = snaps_leave xs r owed k
  kept_leave r xs k (Some actor) owed = record {
    legal = ((k.tried, (owed, k.short, refl)), tt);
    calm = record { owed = refl; short = k.short; tried = k.tried; due = λ x. refl };
  }

  abbrev Look : Run → Bool → Option (Entry × KernelState) → Type 0
  Look r b o = Leaves r (if b then step_and_kept s policy script r o else [])

  look_leaves : (r : Run) (l : ℕ) → IsCalm policy r → births_owed script r ≡ false → Leaves r (look s policy script r l)
  look_leaves r l calm born = by_test (can_step script r l) refl (step s l r.state) refl
    where
      by_test : (b : Bool) → can_step script r l ≡ b → (o : Option (Entry × KernelState)) → step s l r.state ≡ o → Leaves r (look s policy script r l)
      by_test false e o is = subst (λ b. Look r b (step s l r.state)) (sym e) (leaves_nothing r calm)
      by_test true e None is = subst (λ b. Look r b (step s l r.state)) (sym e) (subst (Look r true) (sym is) (leaves_nothing r calm))
      by_test true e (Some made) is =
          let few = ltb-true (r.steps l) script.steps (and_parts (is_some (running (r.state l).cell)) (nat_lt (r.steps l) script.steps) e).1 in
          let m = step_may r l made calm born few is in
          let later = kept_leave (goes_on s script r made.0) (written_in made.0.touched) (step_behind r made.0 calm (step_entry r l made is).0 m) (goes_on s script r made.0).owed refl in
          subst (λ b. Look r b (step s l r.state)) (sym e) (subst (Look r true) (sym is) (record { legal = (m, later.legal); calm = later.calm }))

  pub looks_leave : IsScript script → (ls : List ℕ) (r : Run) → IsStanding script r → IsCalm policy r → births_owed script r ≡ false → Leaves r (looks s policy script r ls)
  looks_leave rules [] r stands calm born = leaves_nothing r calm
  looks_leave rules (l ∷ ls) r stands calm born =
      let one = look_leaves r l calm born in
      leaves_join r (look s policy script r l) (looks s policy script (run_after s script r (look s policy script r l)) ls) one
      (looks_leave rules ls (run_after s script r (look s policy script r l)) (standing_over s policy script rules (look s policy script r l) r one.legal stands) one.calm
      (owed_over s policy script rules (look s policy script r l) r one.legal stands born))
