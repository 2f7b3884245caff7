-- Pieces of a history that were stopped, and the serial history that ends in one.
use Rattle.std.proofs.Common.{◌≡◌, ℕ, zero, suc, ◌+◌, List, [], ◌∷◌, ◌++◌, Option, Some, None, refl, sym, ap, subst, ◌∙◌, arith}
use Rattle.std.proofs.lemmas.List.{append_assoc}
use Rattle.base_types.specs.declared.histories.Entry.{Entry}
use Rattle.base_types.specs.declared.histories.Event.TheVariants.{Snap, Stable, Tried}
use Rattle.model_serial.specs.model_kernel.Histories.{Policy, Run, goes_on, mark, never, next_changed, run_after, start_run, version_of}
use Rattle.model_serial.specs.model_kernel.Scripts.{Script}
use Rattle.model_serial.specs.model_kernel.Serial.{looks_of}
use Rattle.model_serial.specs.model_kernel.State.{KernelState, Supply}
use Rattle.model_serial.specs.Serial.{IsCut, IsFront, IsStopped, first_snaps, opening, snap_then}
use Rattle.model_serial_turns.specs.Turns.{ComeFirst, HasLooked, IsCutIn, IsStoppedIn, opened}
use Rattle.model_serial_turns.proofs.Whereabouts.{looked_front, looked_opening}
use Rattle.model_serial.proofs.model_kernel_lemmas.StableCuts.{run_append}

module _ (s : Supply) (script : Script) where
  -- SNAPS IN PLACE OF A STABLE

  abbrev snap_last : Run → Option ℕ → List Entry
  snap_last q None = []
  snap_last q (Some x) = mark Snap x (version_of q x) ∷ []

  snaps_more : (n : ℕ) (r : Run) → first_snaps (suc n) s script r ≡ first_snaps n s script r ++ snap_last (run_after s script r (first_snaps n s script r)) (next_changed (run_after s script r (first_snaps n s script r)))
  snaps_more zero r = by_next (next_changed r)
    where
      by_next : (o : Option ℕ) → snap_then s script r (λ q. []) o ≡ snap_last r o
      by_next None = refl
      by_next (Some x) = refl
  snaps_more (suc n) r = by_next (next_changed r) refl (λ q. snaps_more n q)
    where
      by_next : (o : Option ℕ) → next_changed r ≡ o → ((q : Run) → first_snaps (suc n) s script q ≡ first_snaps n s script q ++ snap_last (run_after s script q (first_snaps n s script q)) (next_changed (run_after s script q (first_snaps n s script q))))
          → snap_then s script r (λ q. first_snaps (suc n) s script q) o
          ≡ snap_then s script r (λ q. first_snaps n s script q) o ++ snap_last (run_after s script r (snap_then s script r (λ q. first_snaps n s script q) o)) (next_changed (run_after s script r (snap_then s script r (λ q. first_snaps n s script q) o)))
      by_next None is rest = sym (ap (snap_last r) is)
      by_next (Some x) is rest = ap (λ es. mark Snap x (version_of r x) ∷ es) (rest (goes_on s script r (mark Snap x (version_of r x))))

  pub one_more_snap : (r : Run) (made es : List Entry) (n x : ℕ) → es ≡ made ++ first_snaps n s script (run_after s script r made) → next_changed (run_after s script r es) ≡ Some x
      → es ++ mark Snap x (version_of (run_after s script r es) x) ∷ [] ≡ made ++ first_snaps (n + 1) s script (run_after s script r made)
  one_more_snap r made es n x is next =
      let q : Run = run_after s script r made in
      let snaps = first_snaps n s script q in
      let end : run_after s script r es ≡ run_after s script q snaps = ap (run_after s script r) is ∙ run_append s never script r made snaps in
      (λ i. is i ++ mark Snap x (version_of (end i) x) ∷ [])
      ∙ append_assoc made snaps (mark Snap x (version_of (run_after s script q snaps) x) ∷ [])
      ∙ ap (λ o. made ++ (snaps ++ snap_last (run_after s script q snaps) o)) (sym (ap next_changed (sym end) ∙ next))
      ∙ ap (λ fs. made ++ fs) (sym (snaps_more n q) ∙ ap (λ k. first_snaps k s script q) (let e : suc n ≡ n + 1 = omega arith in e))

  -- PIECES

  pub cut_made : (r : Run) (all made rest : List Entry) → made ++ rest ≡ all → IsStoppedIn s script r all made
  cut_made r all made rest same = IsStoppedIn.Completed (IsCutIn.At rest same)

  pub cut_tried : (r : Run) (all made rest : List Entry) (x version : ℕ) → (made ++ mark Snap x version ∷ []) ++ rest ≡ all → IsStoppedIn s script r all (made ++ mark Tried x version ∷ [])
  cut_tried r all made rest x version same = IsStoppedIn.Trying made x version (IsCutIn.At rest same) refl

  in_stable : (r : Run) (all made rest es : List Entry) (actor n : ℕ) → made ++ mark Stable actor 0 ∷ rest ≡ all → es ≡ made ++ first_snaps n s script (run_after s script r made) → IsCutIn s script r all es
  in_stable r all made rest es actor n same is = IsCutIn.InStable made actor n rest same is

  pub cut_stable : (r : Run) (all made rest es : List Entry) (actor n : ℕ) → made ++ mark Stable actor 0 ∷ rest ≡ all → es ≡ made ++ first_snaps n s script (run_after s script r made) → IsStoppedIn s script r all es
  cut_stable r all made rest es actor n same is = IsStoppedIn.Completed (in_stable r all made rest es actor n same is)

  pub cut_stable_tried : (r : Run) (all made rest es : List Entry) (actor n x : ℕ) → made ++ mark Stable actor 0 ∷ rest ≡ all → es ≡ made ++ first_snaps n s script (run_after s script r made)
      → next_changed (run_after s script r es) ≡ Some x → IsStoppedIn s script r all (es ++ mark Tried x (version_of (run_after s script r es) x) ∷ [])
  cut_stable_tried r all made rest es actor n x same is next =
      let version = version_of (run_after s script r es) x in
      IsStoppedIn.Trying es x version (in_stable r all made rest (es ++ mark Snap x version ∷ []) actor (n + 1) same (one_more_snap r made es n x is next)) refl

  cut_longer : (r : Run) (all part more : List Entry) → IsCutIn s script r all part → IsCutIn s script r (all ++ more) part
  cut_longer r all part more (IsCutIn.At rest same) = IsCutIn.At (rest ++ more) (sym (append_assoc part rest more) ∙ ap (λ es. es ++ more) same)
  cut_longer r all part more (IsCutIn.InStable front actor completed rest same is) =
      IsCutIn.InStable front actor completed (rest ++ more) (sym (append_assoc front (mark Stable actor 0 ∷ rest) more) ∙ ap (λ es. es ++ more) same) is

  pub stopped_longer : (r : Run) (all part more : List Entry) → IsStoppedIn s script r all part → IsStoppedIn s script r (all ++ more) part
  stopped_longer r all part more (IsStoppedIn.Completed c) = IsStoppedIn.Completed (cut_longer r all part more c)
  stopped_longer r all part more (IsStoppedIn.Trying front x version c is) = IsStoppedIn.Trying front x version (cut_longer r all (front ++ mark Snap x version ∷ []) more c) is

  run_behind : (r : Run) (es fs : List Entry) (n : ℕ) → first_snaps n s script (run_after s script (run_after s script r es) fs) ≡ first_snaps n s script (run_after s script r (es ++ fs))
  run_behind r es fs n = ap (λ (q : Run). first_snaps n s script q) (sym (run_append s never script r es fs))

  cut_behind : (r : Run) (es all part : List Entry) → IsCutIn s script (run_after s script r es) all part → IsCutIn s script r (es ++ all) (es ++ part)
  cut_behind r es all part (IsCutIn.At rest same) = IsCutIn.At rest (append_assoc es part rest ∙ ap (λ fs. es ++ fs) same)
  cut_behind r es all part (IsCutIn.InStable front actor completed rest same is) =
      IsCutIn.InStable (es ++ front) actor completed rest (append_assoc es front (mark Stable actor 0 ∷ rest) ∙ ap (λ fs. es ++ fs) same)
      (ap (λ fs. es ++ fs) is ∙ sym (append_assoc es front (first_snaps completed s script (run_after s script (run_after s script r es) front))) ∙ ap (λ fs. (es ++ front) ++ fs) (run_behind r es front completed))

  behind_these : (r : Run) (es all part : List Entry) → IsStoppedIn s script (run_after s script r es) all part → IsStoppedIn s script r (es ++ all) (es ++ part)
  behind_these r es all part (IsStoppedIn.Completed c) = IsStoppedIn.Completed (cut_behind r es all part c)
  behind_these r es all part (IsStoppedIn.Trying front x version c is) =
      IsStoppedIn.Trying (es ++ front) x version
      (subst (λ fs. IsCutIn s script r (es ++ all) fs) (sym (append_assoc es front (mark Snap x version ∷ []))) (cut_behind r es all (front ++ mark Snap x version ∷ []) c))
      (ap (λ fs. es ++ fs) is ∙ sym (append_assoc es front (mark Tried x version ∷ [])))

  pub stopped_behind : (r : Run) (all made rest part : List Entry) → made ++ rest ≡ all → IsStoppedIn s script (run_after s script r made) rest part → IsStoppedIn s script r all (made ++ part)
  stopped_behind r all made rest part same stop = subst (λ fs. IsStoppedIn s script r fs (made ++ part)) same (behind_these r made rest part stop)

  -- THE SERIAL HISTORY that ends in a stopped piece

  module _ (policy : Policy) (w : KernelState) (ls : List ℕ) (all : List Entry) (h : HasLooked s policy script w ls all) (first : ComeFirst script (opened s script w) ls) where
    front_of : (es rest : List Entry) → es ++ rest ≡ all → IsFront s policy script w es
    front_of es rest same = looked_front s policy script w ls es rest (subst (λ fs. HasLooked s policy script w ls fs) (sym same) h) first

    cut_of : (part : List Entry) → IsCutIn s script (start_run w) all part → IsCut s policy script w part
    cut_of part (IsCutIn.At rest same) = IsCut.At (front_of part rest same)
    cut_of part (IsCutIn.InStable front actor completed rest same is) =
        IsCut.InStable front actor completed (front_of (front ++ mark Stable actor 0 ∷ []) rest (append_assoc front (mark Stable actor 0 ∷ []) rest ∙ same)) is

    pub stopped_of : (part : List Entry) → IsStoppedIn s script (start_run w) all part → IsStopped s policy script w part
    stopped_of part (IsStoppedIn.Completed c) = IsStopped.Completed (cut_of part c)
    stopped_of part (IsStoppedIn.Trying front x version c is) = IsStopped.Trying front x version (cut_of (front ++ mark Snap x version ∷ []) c) is

  pub stopped_looks : (policy : Policy) (w : KernelState) (ls : List ℕ) (es all part : List Entry) → HasLooked s policy script w ls (es ++ all) → ComeFirst script (opened s script w) ls
      → IsStoppedIn s script (run_after s script (start_run w) es) all part → IsStopped s policy script w (es ++ part)
  stopped_looks policy w ls es all part h first stop = stopped_of policy w ls (es ++ all) h first (es ++ part) (behind_these (start_run w) es all part stop)

  pub stopped_opening : (policy : Policy) (w : KernelState) (part : List Entry) → IsStoppedIn s script (start_run w) (opening s script w) part → IsStopped s policy script w part
  stopped_opening policy w part stop =
      stopped_of policy w [] (opening s script w) (looked_opening s policy script w) (record { rounds_made = 0; rest = looks_of script (opened s script w) 0; front = refl }) part stop
