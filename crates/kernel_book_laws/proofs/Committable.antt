-- A record of a cell that has changed may be made.
use Rattle.std.proofs.Common.{◌≡◌, ◌≢◌, ◌⊎◌, ℕ, ◌<◌, ◌≤◌, ◌^◌, Bool, true, false, ◌==◌, List, slice_get, slice_index, Option, Some, None, if◌then◌else◌, refl, sym, ap, subst, ◌∙◌, arith, inl, inr, nat_lt}
use Rattle.std.proofs.lemmas.Bool.{cases_eq}
use Rattle.std.proofs.lemmas.Bool.Decides.{nat_tests}
use Rattle.std.proofs.lemmas.List.Elements.{All-weaker}
use Rattle.std.proofs.lemmas.Option.{slice_get_within}
use Rattle.base_types.specs.Kinds.{kind_of}
use Rattle.base_types.specs.declared.entities.Kind.TheVariants.{Atlas as AtlasKind, Container as ContainerKind, Locus as LocusKind}
use Rattle.base_types.specs.declared.records.Rec.{Rec}
use Rattle.kernel_views.specs.model_kernel.State.{KernelState, NotBorn, empty_state}
use Rattle.kernel_views.specs.image_meaning.Parts.{Part as Spelt, AtlasPart, LocusPart, IsOf}
use Rattle.kernel_views.specs.act_alone.declared.loci.Head.{Head}
use Rattle.kernel_views.specs.act_alone.Loci.{locus_of}
use Rattle.kernel_views.specs.act_calls.Calls.{atlas_state}
use Rattle.kernel_views.specs.cell_states.declared.cells.Cell.{Cell}
use Rattle.kernel_views.specs.cell_states.declared.cells.Part.{Part}
use Rattle.kernel_views.specs.cell_states.declared.cells.Part.TheVariants as part
use Rattle.kernel_views.specs.cell_states.Cells.{part_of}
use Rattle.kernel_views.specs.cell_blobs.Blobs.{is_recorded, spelt_in, spelt_storage}
use Rattle.kernel_views.specs.cell_blob_laws.Memories.{HasOwnMemory}
use Rattle.kernel_views.proofs.cell_blob_laws_lemmas.Formed.{cell_formed}
use Rattle.kernel_views.specs.table_laws.Tables.{HasKind, IsOrderly, entity_by, entity_in, state_in}
use Rattle.kernel_views.proofs.table_laws_lemmas.Having.{no_supply, no_words, state_has}
use Rattle.kernel_views.specs.kernel_record_facts.Cells.{IsSoundIn, IsSpellable}
use Rattle.kernel_views.specs.model_sound_states.States.{IsSoundState}
use Rattle.kernel_views.specs.store_books.Books.{Books, recs_in}
use Rattle.kernel_views.specs.kernel_records.Committing.{MayCommit}
use Rattle.kernel_views.proofs.kernel_records_lemmas.Newest.{few_kept}
use Rattle.kernel_views.specs.Views.{newest_at}
use Rattle.data_stamps.specs.Stamps.{component}
use Rattle.kernel_book_laws.specs.Matching.{MatchesBooks, newest_of, version_at, version_of}

-- its own memory is sound
own_sound : (held : ℕ → Bool) (p : Part) → HasOwnMemory held p → IsSoundIn held p
own_sound held (part.Atlas a) own = tt
own_sound held (part.Container b) own = own.1
own_sound held (part.Locus l) own = tt

-- THE KIND of a number
atlas_kind : (x : ℕ) → x ≡ 0 → AtlasKind ≡ kind_of x
atlas_kind x is = ap kind_of (sym is)

pub container_kind : (x : ℕ) → 0 < x → x ≤ 40 → ContainerKind ≡ kind_of x
container_kind x above low =
    sym (ap (λ (t : Bool). if t then AtlasKind else if nat_lt x 41 then ContainerKind else LocusKind) first ∙ ap (λ (t : Bool). if t then ContainerKind else LocusKind) second)
  where
    first : (x == 0) ≡ false
    first = grind (arith, nat_tests)

    second : nat_lt x 41 ≡ true
    second = grind (arith, nat_tests)

locus_kind : (x : ℕ) → 40 < x → LocusKind ≡ kind_of x
locus_kind x high =
    sym (ap (λ (t : Bool). if t then AtlasKind else if nat_lt x 41 then ContainerKind else LocusKind) first ∙ ap (λ (t : Bool). if t then ContainerKind else LocusKind) second)
  where
    first : (x == 0) ≡ false
    first = grind (arith, nat_tests)

    second : nat_lt x 41 ≡ false
    second = grind (arith, nat_tests)

-- what a part spells that is born
abbrev Spelling : ℕ → Part → Type 0
Spelling x p = (q : Spelt) × (spelt_in p ≡ Some q) × IsOf x q

spelling : (x : ℕ) (p : Part) → HasKind x p → (part_of no_supply no_words p ≢ NotBorn) → Spelling x p
spelling x (part.Atlas a) kind born = (AtlasPart (atlas_state a), refl, atlas_kind x kind)
spelling x (part.Container b) kind born = by_head b.head refl
  where
    by_head : (o : Option Head) → b.head ≡ o → Spelling x (part.Container b)
    by_head None is = absurd (born (ap (λ (o : Option Head). part_of no_supply no_words (part.Container (record b { head = o }))) is))
    by_head (Some h) is = (_, ap (spelt_storage b.memory) is, container_kind x kind.0 kind.1)
spelling x (part.Locus None) kind born = absurd (born refl)
spelling x (part.Locus (Some l)) kind born = (LocusPart (locus_of l), refl, locus_kind x kind)

module _ (held : ℕ → Bool) (cs : List Cell) (x : ℕ) (c : Cell) (ord : IsOrderly held cs) (at : slice_get cs x ≡ Some c) where
  number : c.clock.entity ≡ x
  number = ord.numbers.each x c at

  here : slice_get cs c.clock.entity ≡ Some c
  here = ap (slice_get cs) number ∙ at

  abbrev w : KernelState
  w = state_in no_supply no_words cs

  sound : IsSoundState no_supply w
  sound = ord.sound no_supply no_words

  entity : w x ≡ entity_by no_supply no_words c
  entity = ap (entity_in no_supply no_words x) at

  born : 1 ≤ c.clock.version → part_of no_supply no_words c.part ≢ NotBorn
  born some is = by_number (cases_eq x 0)
    where
      atlas : (p : Part) → HasKind x p → x ≡ 0 → part_of no_supply no_words p ≡ NotBorn → ⊥
      atlas (part.Atlas a) kind zero_is none = cc none
      atlas (part.Container b) kind zero_is none = let above = kind.0 in absurd (omega (arith, above, zero_is))
      atlas (part.Locus l) kind zero_is none = absurd (omega (arith, kind, zero_is))

      by_number : (x ≡ 0) ⊎ (x ≢ 0) → ⊥
      by_number (inl zero_is) = atlas c.part (ord.kinds x c at) zero_is is
      by_number (inr above) =
          let none : c.clock.version ≡ 0 = sym (ap (λ e. e.version) entity) ∙ (sound.born x (omega (arith, above))).0 (ap (λ e. e.cell) entity ∙ is) in
          absurd (omega (arith, some, none))

  pub spellable : 1 ≤ c.clock.version → IsSpellable c
  spellable some =
      let s = spelling x c.part (ord.kinds x c at) (born some) in
      record {
        spelt = s.0;
        born = s.1;
        kind = subst (λ (y : ℕ). IsOf y s.0) (sym number) s.2;
        formed = cell_formed held no_supply no_words w c sound.sound (state_has no_supply no_words cs c here) (ord.own x c at);
      }

  own : component c.clock.stamp x ≡ c.clock.version
  own = sym (ap (λ e. e.stamp x) entity) ∙ (sound.own x ∙ ap (λ e. e.version) entity)

  pub own_component : component c.clock.stamp c.clock.entity ≡ c.clock.version
  own_component = ap (λ (y : ℕ). component c.clock.stamp y) number ∙ own

  pub low_number : c.clock.entity < 64
  low_number = let lt = slice_get_within cs x c at in let len = ord.numbers.len in let e = number in omega (arith, lt, len, e)

  pub changed_above : is_recorded c ≡ false → c.wish.newest < c.clock.version
  changed_above changed = let le = (ord.founded x c at).past in grind (arith, nat_tests)

  -- no component of its clock is above its entity's version
  pub stamp_below : (y : ℕ) → slice_index c.clock.stamp.0 y ≤ version_of cs y
  stamp_below y =
      let le : (w x).stamp y ≤ (w y).version = sound.below x y in
      let is : (w x).stamp y ≡ slice_index c.clock.stamp.0 y = ap (λ e. e.stamp y) entity in
      let v : (w y).version ≡ version_of cs y = by_cell y (slice_get cs y) in
      omega (arith, le, is, v)
    where
      none : (y : ℕ) → (empty_state y).version ≡ 0
      none y = refl

      by_cell : (y : ℕ) (o : Option Cell) → (entity_in no_supply no_words y o).version ≡ version_at o
      by_cell y (Some e) = refl
      by_cell y None = none y

pub may_commit : (most : ℕ → ℕ) (b : Books) (cs : List Cell) (x : ℕ) (c : Cell) → MatchesBooks most b cs → ((y : ℕ) → most y ≤ 5)
    → slice_get cs x ≡ Some c → is_recorded c ≡ false → b.place.epoch < 2 ^ 63 → MayCommit b c
may_commit most b cs x c m five at changed epoch = record {
  spellable = spellable b.held cs x c m.orderly at (omega (arith, above));
  own = own_component b.held cs x c m.orderly at;
  some = omega (arith, above);
  newer = All-weaker (λ (r : Rec). r.version ≤ newest_of cs r.entity) (λ (r : Rec). r.entity ≡ c.clock.entity → r.version < c.clock.version) newer (recs_in b) m.newest.most;
  table = own_sound b.held c.part (m.orderly.own x c at);
  read = m.read;
  room = (let few = few_kept (newest_of cs) m.stamps 5 b m.newest (λ y. (let le = m.few y in let up = five y in omega (arith, le, up))) in omega (arith, few));
  epoch = epoch;
}
  where
    above : c.wish.newest < c.clock.version
    above = changed_above b.held cs x c m.orderly at changed

    newer : (r : Rec) → r.version ≤ newest_of cs r.entity → r.entity ≡ c.clock.entity → r.version < c.clock.version
    newer r le same =
        let here : newest_of cs r.entity ≡ c.wish.newest = ap (newest_of cs) (same ∙ m.orderly.numbers.each x c at) ∙ ap newest_at at in
        let lt = above in
        omega (arith, le, here, lt)
