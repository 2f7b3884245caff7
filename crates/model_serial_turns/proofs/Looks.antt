-- What one look makes, and its Snaps one after another.
use Rattle.std.proofs.Common.{◌≡◌, ℕ, ◌+◌, true, false, not, ◌&&◌, if◌then◌else◌, List, [], ◌∷◌, ◌++◌, drop, slice_get, Option, Some, sym, ap, subst, ◌∙◌}
use Rattle.std.proofs.lemmas.List.{append-nil, append_assoc, drop_more}
use Rattle.std.proofs.lemmas.Option.{get_or_from_slice_get, slice_get_within}
use Rattle.base_types.specs.declared.histories.Entry.{Entry}
use Rattle.base_types.specs.declared.histories.Event.TheVariants.{Snap}
use Rattle.base_types.specs.declared.histories.Touch.{Touch}
use Rattle.model_serial.specs.model_kernel.Histories.{Policy, Run, goes_on, has_wish, is_full, mark, run_after, version_of}
use Rattle.model_serial.specs.model_kernel.Scripts.{Script}
use Rattle.model_serial.specs.model_kernel.Serial.{can_step}
use Rattle.model_serial.specs.model_kernel.State.{KernelState, Supply}
use Rattle.model_serial.specs.model_kernel.Steps.{step}
use Rattle.model_serial.specs.Serial.{kept_behind, look, step_and_kept, wished_snap, wished_snaps, written_in}
use Rattle.model_serial.proofs.model_kernel_lemmas.StableCuts.{run_append}

module _ (s : Supply) (policy : Policy) (script : Script) where
  pub look_idle : (r : Run) (l : ℕ) → can_step script r l ≡ false → look s policy script r l ≡ []
  look_idle r l idle = ap (λ b. if b then step_and_kept s policy script r (step s l r.state) else []) idle

  pub look_made : (r : Run) (l : ℕ) (e : Entry) (v : KernelState) (o : Option ℕ) → can_step script r l ≡ true → step s l r.state ≡ Some (e, v) → (goes_on s script r e).owed ≡ o
      → look s policy script r l ≡ e ∷ kept_behind s policy script (goes_on s script r e) (written_in e.touched) o
  look_made r l e v o can is owed =
      ap (λ b. if b then step_and_kept s policy script r (step s l r.state) else []) can
      ∙ (ap (step_and_kept s policy script r) is ∙ ap (λ o. e ∷ kept_behind s policy script (goes_on s script r e) (written_in e.touched) o) owed)

  -- the step, and what comes behind it, complete the look
  pub look_behind : (r : Run) (es : List Entry) (l : ℕ) (e : Entry) (v : KernelState) (o : Option ℕ) → can_step script (run_after s script r es) l ≡ true → step s l (run_after s script r es).state ≡ Some (e, v)
      → (run_after s script r (es ++ e ∷ [])).owed ≡ o
      → (es ++ e ∷ []) ++ kept_behind s policy script (run_after s script r (es ++ e ∷ [])) (written_in e.touched) o ≡ es ++ look s policy script (run_after s script r es) l
  look_behind r es l e v o can is owed =
      let q : Run = run_after s script r es in
      let next : run_after s script r (es ++ e ∷ []) ≡ goes_on s script q e = run_append s policy script r es (e ∷ []) in
      ap (λ (k : Run). (es ++ e ∷ []) ++ kept_behind s policy script k (written_in e.touched) o) next
      ∙ append_assoc es (e ∷ []) (kept_behind s policy script (goes_on s script q e) (written_in e.touched) o)
      ∙ ap (λ fs. es ++ fs) (sym (look_made q l e v o can is (sym (ap (λ (k : Run). k.owed) next) ∙ owed)))

  -- SNAPS

  pub one_snap : (r : Run) (all made : List Entry) (x : ℕ) (xs : List ℕ) → made ++ wished_snaps s policy script (run_after s script r made) (x ∷ xs) ≡ all
      → (made ++ wished_snap policy (run_after s script r made) x) ++ wished_snaps s policy script (run_after s script r (made ++ wished_snap policy (run_after s script r made) x)) xs ≡ all
  one_snap r all made x xs so_far =
      let q : Run = run_after s script r made in
      let one = wished_snap policy q x in
      ap (λ (k : Run). (made ++ one) ++ wished_snaps s policy script k xs) (run_append s policy script r made one)
      ∙ append_assoc made one (wished_snaps s policy script (run_after s script q one) xs)
      ∙ so_far

  -- with what the one look at x made
  abbrev Behind : Run → List Entry → List Entry → List ℕ → List Entry → Type 0
  Behind r all made xs one = (made ++ one) ++ wished_snaps s policy script (run_after s script r (made ++ one)) xs ≡ all

  pub snap_more : (r : Run) (all made : List Entry) (x : ℕ) (xs : List ℕ) → made ++ wished_snaps s policy script (run_after s script r made) (x ∷ xs) ≡ all
      → (has_wish policy (run_after s script r made) x && not (is_full (run_after s script r made) x)) ≡ true → Behind r all made xs (mark Snap x (version_of (run_after s script r made) x) ∷ [])
  snap_more r all made x xs so_far wished =
      subst (Behind r all made xs) (ap (λ b. if b then mark Snap x (version_of (run_after s script r made) x) ∷ [] else []) wished) (one_snap r all made x xs so_far)

  pub snap_without : (r : Run) (all made : List Entry) (x : ℕ) (xs : List ℕ) → made ++ wished_snaps s policy script (run_after s script r made) (x ∷ xs) ≡ all
      → (has_wish policy (run_after s script r made) x && not (is_full (run_after s script r made) x)) ≡ false → made ++ wished_snaps s policy script (run_after s script r made) xs ≡ all
  snap_without r all made x xs so_far none =
      subst (λ es. es ++ wished_snaps s policy script (run_after s script r es) xs ≡ all) (append-nil made)
      (subst (Behind r all made xs) (ap (λ b. if b then mark Snap x (version_of (run_after s script r made) x) ∷ [] else []) none) (one_snap r all made x xs so_far))

pub written_at : (touched : List Touch) (i : ℕ) (t : Touch) → slice_get touched i ≡ Some t
    → written_in (drop i touched) ≡ (if t.wrote then t.entity ∷ written_in (drop (i + 1) touched) else written_in (drop (i + 1) touched))
written_at touched i t is =
    ap written_in (drop_more touched i t (slice_get_within touched i t is) ∙ ap (λ u. u ∷ drop (i + 1) touched) (get_or_from_slice_get touched i t t is))
