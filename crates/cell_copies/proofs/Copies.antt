-- The model's copy, in a state that has the touched cells.
use Rattle.std.proofs.Common.{◌≡◌, ℕ, ◌+◌, ◌<◌, ◌==◌, ◌&&◌, if◌then◌else◌, true, List, [], ◌∷◌, ◌++◌, Some, is_none, length, option_map, unwrap_or, refl, sym, ap, subst, ◌∙◌, arith}
use Rattle.std.proofs.lemmas.Bool.{lt-ltb}
use Rattle.base_types.specs.declared.capabilities.Region.{Region}
use Rattle.base_types.specs.declared.histories.Answer.TheVariants.{Quiet}
use Rattle.base_types.specs.declared.histories.Event.TheVariants.{Birth}
use Rattle.data_atlas.specs.data_atlas_facts.Directory.{Directory, edges_of}
use Rattle.cell_clocks.proofs.Changing.{access_first, access_third}
use Rattle.cell_births.specs.act_alone.declared.loci.Head.{Head}
use Rattle.cell_births.specs.act_alone.Loci.{container_with}
use Rattle.cell_births.specs.act_calls.Calls.{atlas_state}
use Rattle.cell_births.specs.cell_clocks.Clocks.{HasClock, reading, writing}
use Rattle.cell_births.specs.cell_clocks.declared.Clock.{Clock}
use Rattle.cell_births.specs.cell_states.declared.cells.Cell.{Cell}
use Rattle.cell_births.specs.cell_states.declared.cells.Part.{Part}
use Rattle.cell_births.specs.cell_states.declared.cells.Part.TheVariants as part
use Rattle.cell_births.specs.cell_states.Cells.{HasCell, part_of}
use Rattle.cell_births.specs.page_memory.Words.{words_of}
use Rattle.cell_births.proofs.cell_wish_laws_lemmas.cell_states_lemmas.Stepping.{written_cell}
use Rattle.model_copies.specs.Copies.{IsCopied, copied_atlas, copied_container, copy_change, copy_named, copy_of}
use Rattle.model_copies.specs.model_kernel.Births.{with_container_name}
use Rattle.model_copies.specs.model_kernel.Changes.{Access, Change, carried, carried_by, changed, entry_of, ordered}
use Rattle.model_copies.specs.model_kernel.Outcomes.{free_container}
use Rattle.model_copies.specs.model_kernel.Scripts.{container_named, number_of}
use Rattle.model_copies.specs.model_kernel.Soundness.{is_given_name}
use Rattle.model_copies.specs.model_kernel.State.{AtlasCell, Cell as ModelCell, ContainerCell, ContainerState, KernelState, Supply, Text}
use Rattle.model_copies.specs.model_kernel.Steps.{atlas_in}
use Rattle.model_copies.proofs.Copying.{again}
use Rattle.model_copies.proofs.Edges.{containers_with, edges_with, loci_with}
use Rattle.act_alone.proofs.model_sound_steps_lemmas.RegionLists.{shown}
use Rattle.cell_copies.specs.Copying.{HasCopiedPages, HasCopy, HasPlaced, IsBlankCopy, MayCopyCells, table_words}
use Rattle.cell_copies.proofs.Words.{same_words}

-- the directory with the copy's name and its edges
pub same_copied : (d e : Directory) (n : ℕ) (rs : List Region) (fresh : Text) → e.containers ≡ d.containers ++ fresh ∷ [] → e.loci ≡ d.loci
    → ((x y : ℕ) → edges_of e x y ≡ edges_of d x y + (if x == n then shown rs y else 0)) → atlas_state e ≡ copied_atlas (atlas_state d) fresh n rs
same_copied d e n rs fresh containers loci counts =
    let named = with_container_name (atlas_state d) fresh in
    let cs = containers ∙ sym (containers_with n rs named) in
    let ls = loci ∙ sym (loci_with n rs named) in
    let es : (x y : ℕ) → edges_of e x y ≡ (copied_atlas (atlas_state d) fresh n rs).edges x y = (λ x y. counts x y ∙ sym (edges_with n rs named x y)) in
    (λ i. record { containers = cs i; loci = ls i; edges = λ x y. es x y i })

abbrev pub three : ModelCell → ℕ → ℕ → ModelCell → List Access
three i x n k = writing 0 i ∷ reading x ∷ writing n k ∷ []

three_ordered : (i : ModelCell) (x n : ℕ) (k : ModelCell) → 0 < x → x < n → ordered (three i x n k) ≡ three i x n k
three_ordered i x n k pos lt = rw (lt-ltb x n lt) (rw (lt-ltb 0 x pos) refl)

free_first : (d : Directory) → length d.containers < 40 → free_container (atlas_state d) ≡ Some (length d.containers + 1)
free_first d few = rw (lt-ltb (length d.containers) 40 few) refl

-- the head of a born container, and else this one
unfoldable pub head_in : Head → Part → Head
head_in d (part.Container b) = unwrap_or b.head d
head_in d (part.Atlas a) = d
head_in d (part.Locus l) = d

module _ (s : Supply) (words : ℕ → List ℕ) (v : KernelState) (name fresh : Text) (d : Directory) (h : Head) (from : List ℕ) (a src n : Cell)
    (may : MayCopyCells d h from src n.clock.entity fresh) (isa : a.part ≡ part.Atlas d) (zero_at : a.clock.entity ≡ 0) (hasa : HasCell s words v a) (hass : HasCell s words v src)
    (named : container_named (atlas_in (v 0).cell) name ≡ Some src.clock.entity) where
  abbrev c : ContainerState
  c = container_with (words_of s words may.source_is.memory) h

  abbrev i : ModelCell
  i = AtlasCell (copied_atlas (atlas_state d) fresh n.clock.entity h.regions)

  abbrev k : ModelCell
  k = ContainerCell (copied_container c)

  abbrev accesses : List Access
  accesses = three i src.clock.entity n.clock.entity k

  atlas_there : (v 0).cell ≡ AtlasCell (atlas_state d)
  atlas_there = ap (λ x. (v x).cell) (sym zero_at) ∙ (hasa.part ∙ ap (part_of s words) isa)

  source_there : (v src.clock.entity).cell ≡ ContainerCell c
  source_there = hass.part ∙ ap (part_of s words) may.source_is.is

  tests : (is_given_name fresh && is_none (number_of (atlas_state d) fresh)) ≡ true
  tests = (let one = may.may.given in let two = may.may.is_new in rw (one, two) refl)

  below : src.clock.entity < n.clock.entity
  below = (let low = may.born in let is = may.may.number_is in omega (arith, low, is))

  change : copy_change name fresh v ≡ Some (n.clock.entity, copy_of (atlas_state d) src.clock.entity fresh n.clock.entity c)
  unfolding copy_change
  change = ap (λ (x : ModelCell). copy_named name fresh v (atlas_in x)) atlas_there
      ∙ again name fresh v (atlas_state d) src.clock.entity n.clock.entity c tests (ap (λ (x : ModelCell). container_named (atlas_in x) name) (sym atlas_there) ∙ named)
      (free_first d may.may.free ∙ ap Some (sym may.may.number_is)) source_there

  pub is_copied : IsCopied name fresh v (changed v accesses)
  is_copied = record {
    entry = entry_of v Birth n.clock.entity accesses Quiet;
    is = ap (option_map (λ (m : ℕ × Change). carried v Birth m.0 m.1)) change ∙ (λ p. Some (carried_by v Birth n.clock.entity (three_ordered i src.clock.entity n.clock.entity k may.some below p) Quiet));
  }

  module _ (a' n' : Cell) (makesa : part_of s words a'.part ≡ i) (blank : IsBlankCopy h n'.part) (samea : a'.clock.entity ≡ a.clock.entity) (samen : n'.clock.entity ≡ n.clock.entity)
      (carries : (j l : ModelCell) → HasClock (changed v (writing a.clock.entity j ∷ reading src.clock.entity ∷ writing n.clock.entity l ∷ [])) a'.clock
      × HasClock (changed v (writing a.clock.entity j ∷ reading src.clock.entity ∷ writing n.clock.entity l ∷ [])) n'.clock) where
    clocks : HasClock (changed v accesses) a'.clock × HasClock (changed v accesses) n'.clock
    clocks = subst (λ x. HasClock (changed v (writing x i ∷ reading src.clock.entity ∷ writing n.clock.entity k ∷ [])) a'.clock × HasClock (changed v (writing x i ∷ reading src.clock.entity ∷ writing n.clock.entity k ∷ [])) n'.clock)
        zero_at (carries i k)

    module _ (table : List ℕ) (placed : Cell) (copied : HasCopiedPages words from table) (is : HasPlaced n' table placed) where
      same : (f : ℕ → ℕ) → container_with f is.begun.head ≡ copied_container (container_with f h)
      unfolding head_in
      same f = ap (λ (x : Head). container_with f x) (ap (head_in is.begun.head) (sym is.same_head ∙ blank.begun.is)) ∙ blank.same f

      tag : is.begun.head.tag ≡ h.tag
      tag = ap (λ (x : ContainerState). x.tag) (same (λ address. 0))

      word : (address : ℕ) → words_of s words is.begun.memory address ≡ words_of s words may.source_is.memory address
      word address = is.begun.words_are s words address
          ∙ (ap (λ t. table_words s t words table address) tag ∙ same_words s words src.part h from table may.source_is copied address)

      made : part_of s words placed.part ≡ k
      made = ap (part_of s words) is.begun.is
          ∙ (λ p. ContainerCell (container_with (λ address. word address p) is.begun.head))
          ∙ ap ContainerCell (same (words_of s words may.source_is.memory))

      clock : placed.clock ≡ n'.clock
      clock = ap (λ (x : Cell). x.clock) is.only_part

      pub placed_cell : HasCell s words (changed v accesses) placed
      placed_cell = written_cell s words v accesses n.clock.entity (writing n.clock.entity k) k placed (access_third (writing 0 i) (reading src.clock.entity) (writing n.clock.entity k) [] may.some below) refl
          (ap (λ (x : Clock). x.entity) clock ∙ samen) made (subst (HasClock (changed v accesses)) (sym clock) clocks.1)

    pub copied_cells : (w : KernelState) × IsCopied name fresh v w × HasCopy s words w from a' n'
    copied_cells = (
      changed v accesses,
      is_copied,
      record {
        atlas = written_cell s words v accesses 0 (writing 0 i) i a' (access_first (writing 0 i) (reading src.clock.entity ∷ writing n.clock.entity k ∷ [])) refl (samea ∙ zero_at) makesa clocks.0;
        clock = clocks.1;
        newborn = placed_cell;
      },
    )
