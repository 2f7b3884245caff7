-- What was made stable is in each image that holds the commits of its Stable.
use Rattle.std.proofs.Common.{◌≡◌, ℕ, ◌≤◌, arith, List, [], ◌∷◌, ◌++◌, length, take, drop, filter, take-append-drop, sym, ap, subst, ◌∙◌}
use Rattle.std.proofs.Math.Seq.{take-take}
use Rattle.edge_disk.specs.Image.{Image}
use Rattle.base_types.specs.declared.histories.Entry.{Entry}
use Rattle.base_types.specs.declared.histories.Event.TheVariants.{Stable}
use Rattle.kernel_views.proofs.kernel_laws_lemmas.kernel_invariant_lemmas.Leaving.{first_sure}
use Rattle.kernel_views.proofs.kernel_laws_lemmas.kernel_invariant_lemmas.Staying.{longer}
use Rattle.kernel_views.proofs.kernel_laws_lemmas.kernel_invariant_lemmas.model_kernel_lemmas.StableCuts.{legal_front}
use Rattle.kernel_views.proofs.kernel_laws_lemmas.kernel_invariant_lemmas.model_run_laws_lemmas.Places.{first_stay}
use Rattle.model_sound_cuts.specs.Runs.{IsSoundRun}
use Rattle.node_shipments.specs.kernel_invariant.Beginnings.{Beginning, BeginsRight, IsLegal, completed, first_commits, with_tried}
use Rattle.node_shipments.specs.kernel_invariant.model_kernel.Choices.{Commit, IsGreatest}
use Rattle.node_shipments.specs.kernel_invariant.model_kernel.Histories.{Policy, commits_in, event_of, start_run}
use Rattle.node_shipments.specs.kernel_invariant.model_kernel.Parts.{after, is_event, part_of}
use Rattle.node_shipments.specs.kernel_invariant.model_kernel.Scripts.{Script}
use Rattle.node_shipments.specs.kernel_invariant.model_kernel.State.{KernelState, Supply}
use Rattle.node_shipments.specs.node_store.node_commits.Deliveries.{IsStandbyImage}
use Rattle.node_standby.specs.Outliving.{Outlives}

-- what the laws of stable parts say
abbrev pub VersionsStay : Type 0
VersionsStay = (s : Supply) (policy : Policy) (script : Script) (w : KernelState) (es : List Entry) (e : Entry) (later : List Commit) (q : ℕ → ℕ) (x : ℕ)
    → IsSoundRun s policy script w (es ++ e ∷ []) → e.event ≡ Stable → IsGreatest (λ x. (w x).version) (commits_in s script w (es ++ e ∷ []) ++ later) q
    → (after (event_of s script) w es x).version ≤ q x

abbrev pub EventsStay : Type 0
EventsStay = (s : Supply) (policy : Policy) (script : Script) (w : KernelState) (es : List Entry) (e : Entry) (later : List Commit) (q : ℕ → ℕ)
    → IsSoundRun s policy script w (es ++ e ∷ []) → e.event ≡ Stable → IsGreatest (λ x. (w x).version) (commits_in s script w (es ++ e ∷ []) ++ later) q
    → part_of q es ≡ filter (λ f. is_event f.event) es

module _ (versions : VersionsStay) (events : EventsStay) (b : Beginning) (fs gs : List Entry) (e : Entry) (k : ℕ) (c : Image) (right : BeginsRight b) (legal : IsLegal b ((fs ++ e ∷ []) ++ gs))
    (is : e.event ≡ Stable) (enough : length (completed b (fs ++ e ∷ [])) ≤ k) (image : IsStandbyImage b ((fs ++ e ∷ []) ++ gs) k c) where
  abbrev front : List Entry
  front = fs ++ e ∷ []

  abbrev firsts : List Commit
  firsts = first_commits b (front ++ gs) k

  legal_start : IsLegal b front
  legal_start = legal_front b.supply b.policy b.script (start_run b.state) front gs legal

  first_front : take (length (completed b front)) firsts ≡ completed b front
  first_front =
      take-take (length (completed b front)) k (with_tried b (front ++ gs)) enough
      ∙ (first_stay b.supply b.policy b.script b.state front gs (length (completed b front)) (omega arith) ∙ first_sure b front)

  split : firsts ≡ completed b front ++ drop (length (completed b front)) firsts
  split = sym (take-append-drop (length (completed b front)) firsts) ∙ ap (λ (ks : List Commit). ks ++ drop (length (completed b front)) firsts) first_front

  run : IsSoundRun b.supply b.policy b.script b.state front
  run = record { rules = right.script; names = right.names; sound = right.sound; legal = legal_start }

  pub outlives_front : Outlives b (front ++ gs) fs c
  outlives_front =
      let opened = longer b [] front in
      let m = image.means right legal (omega (arith, opened, enough)) in
      let g : IsGreatest (λ x. (b.state x).version) (completed b front ++ drop (length (completed b front)) firsts) m.2.cut =
      subst (λ (ks : List Commit). IsGreatest (λ x. (b.state x).version) ks m.2.cut) split m.2.greatest in
      record {
        state = m.0;
        means = m.1;
        cut = m.2.cut;
        part = m.2.state;
        events = events b.supply b.policy b.script b.state fs e (drop (length (completed b front)) firsts) m.2.cut run is g;
        versions = λ x. versions b.supply b.policy b.script b.state fs e (drop (length (completed b front)) firsts) m.2.cut x run is g;
      }

pub outlives : VersionsStay → EventsStay → (b : Beginning) (es fs gs : List Entry) (e : Entry) (k : ℕ) (c : Image) → BeginsRight b → IsLegal b es → es ≡ (fs ++ e ∷ []) ++ gs → e.event ≡ Stable
    → length (completed b (fs ++ e ∷ [])) ≤ k → IsStandbyImage b es k c → Outlives b es fs c
outlives versions events b es fs gs e k c right legal split is enough image =
    subst (λ (hs : List Entry). Outlives b hs fs c) (sym split)
    (outlives_front versions events b fs gs e k c right (subst (IsLegal b) split legal) is enough (subst (λ (hs : List Entry). IsStandbyImage b hs k c) split image))
