-- The meaning of an image rests on a few blocks.
use Rattle.std.proofs.Common.{◌≡◌, ◌≢◌, ℕ, suc, ◌<◌, inl, inr, List, [], ◌∷◌, length, map, take, drop, get_or, Option, Some, None, refl, sym, ap, subst, ◌∙◌, arith}
use Rattle.std.specs.Prelude.{MatchOption, All, Contains, slice_index}
use Rattle.std.specs.List.{concat}
use Rattle.std.proofs.lemmas.Bool.{cases_lt}
use Rattle.std.proofs.lemmas.List.{get_or_past}
use Rattle.std.proofs.lemmas.List.Elements.{Contains-get_or}
use Rattle.image_blocks.specs.edge_disk.Image.{Image, block_at}
use Rattle.image_blocks.specs.base_types.declared.records.Rec.{Rec}
use Rattle.blob_grammar.specs.model_kernel.State.{Supply}
use Rattle.image_blocks.specs.image_facts.Bodies.{blob_blocks, blob_room, number_at}
use Rattle.image_blocks.specs.image_facts.Checks.{count_in}
use Rattle.image_blocks.proofs.Rest.{records_rest_law}
use Rattle.image_meaning.specs.Fits.{IsFit}
use Rattle.image_meaning.specs.Meaning.{Accepted, entity_of}
use Rattle.image_meaning.specs.Parts.{IsSpelt, Part, Spells, cell_of, chosen, table_in}
use Rattle.image_meaning.specs.Resting.{IsChosenBlock, RestsOnLaw}
use Rattle.image_meaning.proofs.Meaning.{cell_same}

-- a map over a list, of which the items are mapped the same
map_same : {X Y : Type 0} (f g : X → Y) (xs : List X) → ((k : ℕ) (d : X) → k < length xs → f (get_or xs k d) ≡ g (get_or xs k d)) → map f xs ≡ map g xs
map_same f g [] same = refl
map_same f g (x ∷ xs) same =
    ap (λ y. y ∷ map f xs) (same 0 x (omega arith)) ∙ ap (λ ys. g x ∷ ys) (map_same f g xs (λ k d lt. same (suc k) d (omega (arith, lt))))

-- an item that isn't 0 is one of the list
pub one_of : (xs : List ℕ) (k : ℕ) → slice_index xs k ≢ 0 → Contains xs (slice_index xs k)
one_of xs k some = elim (cases_lt k (length xs)) as (λ _. Contains xs (slice_index xs k)) [
  | inl lt ↦ Contains-get_or xs k 0 lt
  | inr past ↦ absurd (some (get_or_past xs k 0 past))
]

module _ (s : Supply) (image c : Image) (a : Accepted image) (same : (n : ℕ) → IsChosenBlock a.recs a.parts n → block_at c n ≡ block_at image n) where
  room_same : (x : ℕ) (r : Rec) → chosen a.recs x ≡ Some r → blob_room c r ≡ blob_room image r
  room_same x r here =
      ap concat (map_same (block_at c) (block_at image) (blob_blocks r) (λ k d lt. same (get_or (blob_blocks r) k d) (record { entity = x; rec = r; is_chosen = here; named = inl (Contains-get_or (blob_blocks r) k d lt) })))

  spelt_same : (x : ℕ) (o : Option Rec) → chosen a.recs x ≡ o → MatchOption o (a.parts x ≡ None) (λ r. (part : Part) × (a.parts x ≡ Some part) × IsSpelt image x r part)
      → MatchOption o (a.parts x ≡ None) (λ r. (part : Part) × (a.parts x ≡ Some part) × IsSpelt c x r part)
  spelt_same x None here none = none
  spelt_same x (Some r) here (part, is, spelt) =
      let room = room_same x r here in (
        part,
        is,
        record {
          kind = spelt.kind;
          spells = subst (λ bytes. Spells part (take r.length bytes)) (sym room) spelt.spells;
          rest = subst (λ bytes. All (λ b. b ≡ 0) (drop r.length bytes)) (sym room) spelt.rest;
        },
      )

  entity_same : (x : ℕ) (o : Option Rec) → chosen a.recs x ≡ o → MatchOption o (a.parts x ≡ None) (λ r. (part : Part) × (a.parts x ≡ Some part) × IsSpelt image x r part)
      → entity_of s (block_at c) x o (a.parts x) ≡ entity_of s (block_at image) x o (a.parts x)
  entity_same x None here none = refl
  entity_same x (Some r) here (part, is, spelt) =
      let cell : cell_of s (block_at c) part ≡ cell_of s (block_at image) part =
      cell_same s (block_at c) (block_at image) part (λ page some. same (slice_index (table_in part) page) (record { entity = x; rec = r; is_chosen = here; named = inr (part, is, one_of (table_in part) page some) })) in
      subst (λ (p : Option Part). entity_of s (block_at c) x (Some r) p ≡ entity_of s (block_at image) x (Some r) p) (sym is)
      (λ i. record { cell = cell i; version = r.version; stamp = slice_index r.stamp })

pub rests_on_law : RestsOnLaw
rests_on_law s image c v m len same =
    let a = m.accepted in
    let chosen_same : (n : ℕ) → IsChosenBlock a.recs a.parts n → block_at c n ≡ block_at image n = λ n here. same n (inr here) in
    let records = records_rest_law a.recs image c a.has len (λ n here. same n (inl here)) in
    let count : count_in c ≡ count_in image = ap (number_at 12 4) (same 0 (inl (inl refl))) in
    record {
      accepted = record {
        recs = a.recs;
        has = records.0;
        parts = a.parts;
        spelt = λ x. spelt_same s image c a chosen_same x (chosen a.recs x) refl (a.spelt x);
        fit = subst (λ n. (x : ℕ) (part : Part) → a.parts x ≡ Some part → IsFit n a.recs a.parts x part) (sym count) a.fit;
      };
      is = m.is ∙ (λ i x. sym (entity_same s image c a chosen_same x (chosen a.recs x) refl (a.spelt x)) i);
    }
