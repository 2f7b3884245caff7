-- A record of what an entity is now is one of the run.
use Rattle.std.proofs.Common.{◌≡◌, ◌≢◌, ℕ, ◌≤◌, true, false, ◌==◌, if◌then◌else◌, inl, inr, List, [], ◌∷◌, Option, refl, sym, ap, subst, ◌∙◌, arith, eqb-true}
use Rattle.std.specs.Prelude.{slice_index}
use Rattle.edge_disk.specs.Image.{Image, block_at}
use Rattle.store_books.specs.base_types.declared.histories.Entry.{Entry}
use Rattle.model_sound_states.specs.model_kernel.Histories.{event_of, start_run}
use Rattle.model_sound_states.specs.model_kernel.LocalEvents.{IsLocal}
use Rattle.model_sound_states.specs.model_kernel.Parts.{IsPlayed, after, after_entry, thing_at}
use Rattle.model_sound_states.specs.model_kernel.State.{EntityState, KernelState}
use Rattle.model_sound_states.specs.model_kernel.Vectors.{IsStamped}
use Rattle.model_sound_states.proofs.model_kernel_lemmas.ChosenVectors.{Moves, moves}
use Rattle.model_sound_states.proofs.model_kernel_lemmas.LegalRuns.{event_of_local, event_of_stamped, legal_played}
use Rattle.model_sound_states.proofs.model_kernel_lemmas.StableCuts.{versions_rise_over}
use Rattle.store_books.specs.image_meaning.Describing.{HasPage, bytes_of}
use Rattle.store_books.specs.image_meaning.Parts.{table_in}
use Rattle.store_books.specs.image_meaning.Stores.{Kept, Page}
use Rattle.store_books.proofs.image_meaning_lemmas.Meaning.{cell_same}
use Rattle.kernel_invariant.specs.Beginnings.{Beginning, IsLegal, entity_at, state_after}
use Rattle.kernel_invariant.specs.Records.{IsKeptRecord}
use Rattle.kernel_invariant.specs.Telling.{TellsOf}
use Rattle.kernel_invariant.proofs.Pages.{few_pages, has_page, page_bytes}

module _ (act : Entry → KernelState → Option (Entry × KernelState)) (local : (e : Entry) → IsLocal (λ (b : EntityState). b.version) (act e)) (stamped : (e : Entry) → IsStamped (act e)) where
  -- what has reached its last version stands
  stands : (es : List Entry) (w : KernelState) (x : ℕ) → IsPlayed act w es → (after act w es x).version ≤ (w x).version → after act w es x ≡ w x
  unfolding Moves
  stands [] w x played le = refl
  stands (e ∷ es) w x played le = elim (moves act local stamped w e played.0 x) as (λ _. after act (after_entry act w e) es x ≡ w x) [
    | inl k ↦ (let f = ap (λ (b : EntityState). b.version) k in stands es (after_entry act w e) x played.1 (omega (arith, le, f)) ∙ k)
    | inr k ↦ (let f = k.0 in let rise = versions_rise_over act local stamped es (after_entry act w e) played.1 x in absurd (omega (arith, le, f, rise)))
  ]

  -- what x is at its last version is what it is at the end
  pub last_thing : (es : List Entry) (w : KernelState) (x n : ℕ) → IsPlayed act w es → n ≡ (after act w es x).version → thing_at act (λ (b : EntityState). b.version) w es x n ≡ after act w es x
  last_thing [] w x n played is = refl
  last_thing (e ∷ es) w x n played is =
      elim ((w x).version == n) as (λ t. ((w x).version == n) ≡ t → (if t then w x else thing_at act (λ (b : EntityState). b.version) (after_entry act w e) es x n) ≡ after act (after_entry act w e) es x) [
        | true ↦ λ at. (let same : (w x).version ≡ n = eqb-true (w x).version n at in sym (stands (e ∷ es) w x played (omega (arith, same, is))))
        | false ↦ λ at. last_thing es (after_entry act w e) x n played.1 is
      ] refl

module _ (b : Beginning) (es : List Entry) (legal : IsLegal b es) (image : Image) (table : List ℕ) (k : Kept) (t : TellsOf b.supply (state_after b es) image table k) where
  now : entity_at b es k.rec.entity k.rec.version ≡ state_after b es k.rec.entity
  now =
      last_thing (event_of b.supply b.script) (event_of_local b.supply b.policy b.script) (event_of_stamped b.supply b.policy b.script) es b.state k.rec.entity k.rec.version
      (legal_played b.supply b.policy b.script (start_run b.state) es legal) t.version

  paged : (page : ℕ) → slice_index (table_in t.part) page ≢ 0 → HasPage k.pages (slice_index (table_in t.part) page)
  paged page some =
      let same : slice_index table page ≡ slice_index (table_in t.part) page = t.named page in
      let has = has_page image table page (λ none. some (sym same ∙ none)) in
      subst (λ (ps : List Page). HasPage ps (slice_index (table_in t.part) page)) (sym t.pages) (subst (HasPage (Rattle.std.specs.List.flat_map (Rattle.store_books.specs.Books.page_for image) table)) same has)

  bytes : (page : ℕ) → slice_index (table_in t.part) page ≢ 0 → block_at image (slice_index (table_in t.part) page) ≡ bytes_of k.pages (slice_index (table_in t.part) page)
  bytes page some =
      let n : ℕ = slice_index (table_in t.part) page in
      sym (ap (λ (ps : List Page). bytes_of ps n) t.pages ∙ page_bytes image table n (subst (λ (ps : List Page). HasPage ps n) t.pages (paged page some)))

  pub told_record : IsKeptRecord b es k
  told_record =
      let rise = versions_rise_over (event_of b.supply b.script) (event_of_local b.supply b.policy b.script) (event_of_stamped b.supply b.policy b.script) es b.state (legal_played b.supply b.policy b.script (start_run b.state) es legal) k.rec.entity in
      let at = t.version in
      record {
        told = record {
          components = t.components;
          part = t.part;
          describes = record {
            spells = record { kind = t.kind; spells = t.spells; pages = paged };
            cell = ap (λ (e : EntityState). e.cell) now ∙ (t.cell ∙ cell_same b.supply (block_at image) (bytes_of k.pages) t.part bytes);
            version = ap (λ (e : EntityState). e.version) now ∙ sym at;
            stamp = ap (λ (e : EntityState). e.stamp) now ∙ t.stamp;
          };
          once = λ p q some same. t.once p q (λ none. some (sym (t.named p) ∙ none)) (t.named p ∙ (same ∙ sym (t.named q)));
        };
        from = omega (arith, rise, at);
        reached = omega (arith, at);
        few = (let few = few_pages image table (table_in t.part) t.named in let len = ap Rattle.std.specs.Prelude.length t.pages in omega (arith, few, len));
      }
