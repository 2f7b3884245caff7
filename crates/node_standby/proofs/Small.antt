-- No number of a run's shipment is too large for an image.
use Rattle.std.proofs.Common.{◌≡◌, ℕ, ◌≤◌, ◌==◌, if◌then◌else◌, true, false, List, [], ◌∷◌, ◌++◌, Option, refl, ap, subst, arith}
use Rattle.base_types.specs.declared.histories.Entry.{Entry}
use Rattle.node_shipments.specs.node_store.page_placing.declared.writing.PageWords.{PageWords}
use Rattle.node_shipments.specs.node_records.Shipments.{IsShippedOf}
use Rattle.node_shipments.specs.kernel_invariant.Beginnings.{Beginning, BeginsRight, IsLegal, entity_at}
use Rattle.node_shipments.specs.kernel_invariant.image_facts.Layout.{last_number}
use Rattle.node_shipments.specs.kernel_invariant.image_meaning.Parts.{Part}
use Rattle.node_shipments.specs.kernel_invariant.model_kernel.Histories.{event_of, start_run}
use Rattle.node_shipments.specs.kernel_invariant.model_kernel.Parts.{after, after_entry, thing_at}
use Rattle.node_shipments.specs.kernel_invariant.model_kernel.State.{EntityState, KernelState}
use Rattle.kernel_views.proofs.Leaving.{small_both}
use Rattle.kernel_views.proofs.kernel_laws_lemmas.Numbers.{stamp_small, version_small}
use Rattle.kernel_views.proofs.kernel_laws_lemmas.kernel_invariant_lemmas.model_kernel_lemmas.StableCuts.{legal_front}
use Rattle.kernel_views.specs.store_snapshots.store_facts.Putting.{are_small}

-- what an entity is at a version it is behind some front of the history
thing_holds : (act : Entry → KernelState → Option (Entry × KernelState)) (P : EntityState → Type 0) (es : List Entry) (w : KernelState) (x n : ℕ)
    → ((front rest : List Entry) → es ≡ front ++ rest → P (after act w front x)) → P (thing_at act (λ (e : EntityState). e.version) w es x n)
thing_holds act P [] w x n each = each [] [] refl
thing_holds act P (e ∷ es) w x n each = elim ((w x).version == n) as (λ t. P (if◌then◌else◌ {A = EntityState} t (w x) (thing_at act (λ (e : EntityState). e.version) (after_entry act w e) es x n))) [
  | true ↦ each [] (e ∷ es) refl
  | false ↦ thing_holds act P es (after_entry act w e) x n (λ front rest is. each (e ∷ front) rest (ap (λ (fs : List Entry). e ∷ fs) is))
]

module _ (b : Beginning) (es : List Entry) (right : BeginsRight b) (legal : IsLegal b es) where
  stamps_small : (x n y : ℕ) → (entity_at b es x n).stamp y ≤ last_number
  stamps_small x n y = thing_holds (event_of b.supply b.script) (λ (e : EntityState). e.stamp y ≤ last_number) es b.state x n
      (λ front rest is. stamp_small b front right (legal_front b.supply b.policy b.script (start_run b.state) front rest (subst (IsLegal b) is legal)) x y)

  pub shipped_small : (entity version : ℕ) (stamp : List ℕ) (part : Part) (pages : List PageWords) → IsShippedOf b es entity version stamp part pages → are_small version stamp ≡ true
  shipped_small entity version stamp part pages is =
      small_both version stamp (let most = version_small b es right legal entity in let low = is.reached in omega (arith, most, low))
      (λ i. subst (λ (f : ℕ → ℕ). f i ≤ last_number) is.stamp_is (stamps_small entity version i))
