-- The cells that a copy touches, lent from a table that was opened.
use Rattle.std.proofs.Common.{◌≡◌, inl, inr, ℕ, ◌+◌, ◌^◌, ◌<◌, ◌≤◌, List, ◌++◌, length, get_or, Some, sym, ap, subst, ◌∙◌, arith}
use Rattle.std.specs.Prelude.{All, slice_get}
use Rattle.edge_disk.specs.Image.{Image}
use Rattle.base_types.specs.declared.records.Rec.{Rec}
use Rattle.data_atlas.specs.data_atlas_facts.Directory.{Directory}
use Rattle.cell_copies.specs.cell_births.act_calls.Calls.{atlas_state}
use Rattle.cell_copies.specs.cell_births.cell_states.declared.cells.Cell.{Cell}
use Rattle.cell_copies.specs.model_copies.model_kernel.State.{KernelState, Supply, Text}
use Rattle.open_image.specs.kernel_views.Views.{newest_at}
use Rattle.open_image.specs.open_facts.Images.{IsOpened, IsOpenedTable}
use Rattle.open_image.specs.store_books.Books.{recs_in}
use Rattle.open_image.specs.store_facts.State.{State, books}
use Rattle.open_image.specs.table_laws.Tables.{entity_in, state_in, tables_in}
use Rattle.open_image.proofs.open_facts_lemmas.Stored.{low_any, low_row}
use Rattle.table_laws.proofs.Having.{no_supply, no_words}
use Rattle.table_laws.proofs.Places.{read_back, read_first, read_middle}
use Rattle.model_sound_states.proofs.model_sound_runs_lemmas.Tables.{container_named_born}
use Rattle.container_copy.specs.Copying.{MayCopyAt, StandsTable}
use Rattle.container_copy.specs.Facing.{FacesCopy, StandsBefore}
use Rattle.container_copy.specs.Needs.{CellsNeed, TableNeeds}
use Rattle.container_copy.proofs.Opened.{before, faces, few_containers, needs_in, source_low}

module _ {D : Type 0} (st : State D) (cs : List Cell) (t : IsOpenedTable 1 1 st cs) (d : Directory) (name fresh : Text) (source newborn : ℕ) (may : MayCopyAt cs d name fresh source newborn) where
  few : length d.containers < 40
  few = few_containers st cs t d may.directory name fresh may.chosen.none

  -- the container is before the newborn, and both are in the table
  pub in_order : (0 < source) × (source < newborn) × (newborn < length cs)
  in_order =
      let low = source_low (atlas_state d) source (container_named_born (atlas_state d) name source may.chosen.named) in
      let some = low.0 in
      let le = low.1 in
      let is = may.chosen.number in
      let lt = few in
      let long = t.orderly.numbers.len in
      (some, omega (arith, le, is), omega (arith, is, lt, long))

  above : 0 < source
  above = in_order.0

  below : source < newborn
  below = in_order.1

  within : newborn < length cs
  within = in_order.2

  module _ (front back first rest : List Cell) (x y z : Cell) (splits : cs ≡ front ++ back) (len : length front ≡ newborn) (parts : front ≡ first ++ rest) (low : length first ≡ source) where
    at_a : slice_get cs 0 ≡ Some (get_or first 0 x)
    at_a = read_first cs front back first rest newborn source 0 x splits len parts low above below

    at_source : slice_get cs source ≡ Some (get_or rest 0 y)
    at_source = read_middle cs front back first rest newborn source y splits len parts low below

    at_n : slice_get cs (length d.containers + 1) ≡ Some (get_or back 0 z)
    at_n = ap (slice_get cs) (sym may.chosen.number) ∙ read_back cs front back newborn z splits len within

    -- the atlas's newest record is of its version, and none is too large
    low_version : (get_or first 0 x).clock.version < 2 ^ 63
    low_version =
        let o : IsOpened st t.parts = t.opened in
        let all = subst (All (λ (r : Rec). r.version ≤ 2 ^ 62)) (sym o.recs) (low_row o.log.blocks o.log.recs.items o.known.in_range) in
        let newest : newest_at (slice_get cs 0) ≡ (get_or first 0 x).clock.version =
        ap newest_at at_a ∙ (sym (t.wishes no_supply no_words 0 (get_or first 0 x) at_a).newest ∙ (ap (λ k. (state_in no_supply no_words cs k).version) (t.orderly.numbers.each 0 (get_or first 0 x) at_a) ∙ ap (λ q. (entity_in no_supply no_words 0 q).version) at_a)) in
        elim (t.newest.newest.newest 0) as (λ _. (get_or first 0 x).clock.version < 2 ^ 63) [
          | inl none ↦ (let e = none in omega (arith, e, newest))
          | inr some ↦ (let le = low_any (recs_in (books st)) (newest_at (slice_get cs 0)) 0 (t.newest.stamps 0) all some in omega (arith, le, newest))
        ]

    pub lent_faces : FacesCopy (books st) fresh (get_or first 0 x) (get_or rest 0 y) (get_or back 0 z)
    lent_faces = faces st cs t d may.directory name fresh may.chosen.none source may.chosen.named (get_or first 0 x) (get_or rest 0 y) (get_or back 0 z) at_a at_source at_n low_version

    pub lent_before : (s : Supply) (v : KernelState) (image : Image) → StandsTable s v image (books st) cs → StandsBefore s v image (books st) (tables_in cs) (get_or first 0 x) (get_or rest 0 y) (get_or back 0 z)
    lent_before s v image k = before st cs t d may.directory name fresh may.chosen.none source may.chosen.named (get_or first 0 x) (get_or rest 0 y) (get_or back 0 z) at_a at_source at_n s v image k

    pub source_number : (get_or rest 0 y).clock.entity ≡ source
    source_number = t.orderly.numbers.each source (get_or rest 0 y) at_source

    pub lent_needs : (need : ℕ) → CellsNeed fresh (get_or first 0 x) (get_or rest 0 y) (get_or back 0 z) need → TableNeeds cs name fresh need
    lent_needs need k = needs_in st cs t d may.directory name fresh may.chosen.none source may.chosen.named (get_or first 0 x) (get_or rest 0 y) (get_or back 0 z) at_a at_source at_n need k
