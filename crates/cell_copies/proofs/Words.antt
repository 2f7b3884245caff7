-- The words of a copied container.
use Rattle.std.proofs.Common.{◌≡◌, ◌≢◌, ℕ, ◌/◌, ◌%◌, ◌==◌, Bool, true, false, List, Option, None, Some, replicate, slice_index, slice_index_or, zero, suc, refl, sym, ap, ◌∙◌, eqb-true, eq-eqb}
use Rattle.std.proofs.lemmas.Bool.{false≢true}
use Rattle.std.proofs.lemmas.Option.{same_Some}
use Rattle.cell_births.specs.act_alone.declared.loci.Head.{Head}
use Rattle.cell_births.specs.cell_states.declared.cells.Part.{Part}
use Rattle.cell_births.specs.cell_states.declared.cells.Part.TheVariants as part
use Rattle.cell_births.specs.cell_states.declared.cells.Storage.{Storage}
use Rattle.cell_births.specs.page_memory.data_frames.FrameTable.{FrameTable, Resident, changed_at, empty_table, resident_changed}
use Rattle.cell_births.specs.page_memory.Calls.{IsUnchanged}
use Rattle.cell_births.specs.page_memory.declared.paged.PagedMemory.{PagedMemory}
use Rattle.cell_births.specs.page_memory.Words.{stored_word, word_by, words_of}
use Rattle.model_copies.specs.model_kernel.State.{Supply}
use Rattle.cell_copies.specs.Copying.{HasCopiedPages, IsSource, table_words}

-- a word of a block, and of one that has the same words
stored_same : (s : Supply) (tag : ℕ) (words : ℕ → List ℕ) (block other page place : ℕ) → (block ≡ 0 → other ≡ 0) → (block ≢ 0 → (other ≢ 0) × (words other ≡ words block)) → stored_word s tag words other page place ≡ stored_word s tag words block page place
stored_same s tag words block other page place none each = by_test (block == 0) refl
  where
    zero_test : (n : ℕ) → n ≡ 0 → (n == 0) ≡ true
    zero_test n is = eq-eqb n 0 is

    some_test : (n : ℕ) → n ≢ 0 → (n == 0) ≡ false
    some_test n some = by (n == 0) refl
      where
        by : (t : Bool) → (n == 0) ≡ t → (n == 0) ≡ false
        by true e = absurd (some (eqb-true n 0 e))
        by false e = e

    by_test : (t : Bool) → (block == 0) ≡ t → stored_word s tag words other page place ≡ stored_word s tag words block page place
    by_test true e = (let a = zero_test other (none (eqb-true block 0 e)) in rw (a, e) refl)
    by_test false e =
        let m = each (λ is. false≢true (sym e ∙ eq-eqb block 0 is)) in
        let a = some_test other m.0 in
        rw (a, e) (ap (λ ws. slice_index ws place) m.1)

-- where no page is resident, the copy has the words of its source
pub same_words : (s : Supply) (words : ℕ → List ℕ) (p : Part) (h : Head) (from table : List ℕ) (is : IsSource p h from) → HasCopiedPages words from table → (address : ℕ) → table_words s h.tag words table address ≡ words_of s words is.memory address
same_words s words p h from table is copied address =
    let page : ℕ = address / 128 in
    let place : ℕ = address % 128 in
    stored_same s h.tag words (slice_index from page) (slice_index table page) page place (copied.none page) (copied.each page)
    ∙ (ap (λ (t : List ℕ). stored_word s h.tag words (slice_index t page) page place) (sym is.table)
    ∙ (ap (λ (t : ℕ). stored_word s t words (slice_index is.memory.table page) page place) (sym is.tag)
    ∙ ap (λ (o : Option Resident). word_by s is.memory.tag words (slice_index is.memory.table page) page place o) (sym (is.none_resident page))))

-- where no page is resident, none is changed
pub none_in : (n page : ℕ) → slice_index_or (replicate {A = Option Resident} n None) page None ≡ None
none_in zero page = refl
none_in (suc n) zero = refl
none_in (suc n) (suc page) = none_in n page

pub is_unchanged : (frames : ℕ) (m : PagedMemory) → m.frames ≡ empty_table frames → IsUnchanged m
is_unchanged frames m is page = ap (λ (t : FrameTable). changed_at t page) is ∙ ap resident_changed (none_in 256 page)

pub no_places : (n page : ℕ) → slice_index (replicate n 0) page ≡ 0
no_places zero page = refl
no_places (suc n) zero = refl
no_places (suc n) (suc page) = no_places n page

-- the head of a born container's part
pub storage_head : (a : Storage) (h : Head) (m : PagedMemory) → part.Container a ≡ part.Container (record { head = Some h; memory = m }) → a.head ≡ Some h
storage_head a h m e = cc

pub same_head : (h k : Head) (m n : PagedMemory) → part.Container (record { head = Some h; memory = m }) ≡ part.Container (record { head = Some k; memory = n }) → h ≡ k
same_head h k m n e = same_Some h k (storage_head (record { head = Some h; memory = m }) k n e)
