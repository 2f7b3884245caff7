-- The words of other containers after a look at one of them.
use Rattle.std.proofs.Common.{◌≡◌, ◌≢◌, inl, inr, ℕ, ◌/◌, ◌%◌, Bool, true, ◌==◌, if◌then◌else◌, List, [], ◌∷◌, slice_get, slice_index, Option, Some, None, refl, sym, ap, ◌∙◌, subst, eq-eqb}
use Rattle.cell_steps.specs.base_types.declared.histories.Entry.{Entry}
use Rattle.cell_steps.specs.model_kernel.State.{ContainerCell, Supply}
use Rattle.cell_steps.specs.data_frames.FrameTable.{page_at}
use Rattle.cell_steps.specs.act_alone.declared.loci.Head.{Head}
use Rattle.cell_steps.specs.act_alone.Loci.{container_with}
use Rattle.cell_steps.specs.page_memory.declared.paged.PagedMemory.{PagedMemory}
use Rattle.cell_steps.specs.page_memory.Calls.{IsOfTable}
use Rattle.cell_steps.specs.page_memory.Words.{AreCleanTrue, block_at, stored_word, word_by, word_in, words_of}
use Rattle.cell_steps.specs.cell_states.declared.cells.Cell.{Cell}
use Rattle.cell_steps.specs.cell_states.declared.cells.Part.{Part}
use Rattle.cell_steps.specs.cell_states.declared.cells.Part.TheVariants as part
use Rattle.cell_steps.specs.cell_states.Cells.{container_cell, part_of}
use Rattle.cell_steps.specs.cell_calls.Besides.{memory_of}
use Rattle.cell_steps.specs.Advances.{StepsCells}
use Rattle.table_laws.specs.Lending.{Lends}
use Rattle.table_laws.specs.Steps.{GoesOn}
use Rattle.table_laws.specs.Tables.{AreClean, HasKind, IsOrderly, blocks_by, entity_by, entity_in, memory_at, state_in, tables_in}
use Rattle.table_laws.proofs.Blocks.{ChangesTwo, LooksAt, held_at, kind_none, outside, same_or}
use Rattle.table_laws.proofs.Going.{table_steps, table_wishes}
use Rattle.std.proofs.lemmas.Option.{same_Some}

-- a memory whose blocks keep their words means what it did
module _ (s : Supply) (words words' : ℕ → List ℕ) (m : PagedMemory) (same : (p : ℕ) → block_at m p ≢ 0 → words' (block_at m p) ≡ words (block_at m p)) where
  stored_same : (page place : ℕ) → stored_word s m.tag words' (block_at m page) page place ≡ stored_word s m.tag words (block_at m page) page place
  stored_same page place = elim (same_or (block_at m page) 0) as (λ _. stored_word s m.tag words' (block_at m page) page place ≡ stored_word s m.tag words (block_at m page) page place) [
    | inl none ↦ ap (λ t. if t then s m.tag page place else slice_index (words' (block_at m page)) place) (eq-eqb (block_at m page) 0 none)
        ∙ sym (ap (λ t. if t then s m.tag page place else slice_index (words (block_at m page)) place) (eq-eqb (block_at m page) 0 none))
    | inr some ↦ ap (λ (t : List ℕ). if block_at m page == 0 then s m.tag page place else slice_index t place) (same page some)
  ]

  word_same : (page place : ℕ) → word_in s words' m page place ≡ word_in s words m page place
  word_same page place = elim (page_at m.frames page) as (λ o. word_by s m.tag words' (block_at m page) page place o ≡ word_by s m.tag words (block_at m page) page place o) [
    | Some r ↦ refl
    | None ↦ stored_same page place
  ]

  pub words_same : words_of s words' m ≡ words_of s words m
  words_same = λ i. λ address. word_same (address / 128) (address % 128) i

  pub clean_same : AreCleanTrue s words m → AreCleanTrue s words' m
  clean_same clean page place within resident settled = word_same page place ∙ clean page place within resident settled ∙ sym (stored_same page place)

module _ (held held' : ℕ → Bool) (cs cs' : List Cell) (me y : ℕ) (a b a' b' : Cell) (orderly : IsOrderly held cs) (two : ChangesTwo cs cs' me y a b a' b') (looks : LooksAt held held' b b') (kind : HasKind me a'.part)
    (s : Supply) (words words' : ℕ → List ℕ) (stay : (n : ℕ) → held n ≡ true → (IsOfTable looks.before n → ⊥) → words' n ≡ words n) where
  blocks_stay : (x : ℕ) (m : PagedMemory) → memory_at (slice_get cs x) ≡ Some m → x ≢ y → (p : ℕ) → block_at m p ≢ 0 → words' (block_at m p) ≡ words (block_at m p)
  blocks_stay x m is apart p some =
      let here : slice_index (tables_in cs x) p ≡ block_at m p = ap (λ o. slice_index (blocks_by o) p) is in
      subst (λ n. words' n ≡ words n) here
      (stay (slice_index (tables_in cs x) p) (held_at held held' cs cs' me y a b a' b' orderly two looks kind x p (λ z. some (sym here ∙ z))) (outside held held' cs cs' me y a b a' b' orderly two looks kind x p apart (λ z. some (sym here ∙ z))))

  pub part_told : (x : ℕ) (c : Cell) → slice_get cs x ≡ Some c → x ≢ y → part_of s words' c.part ≡ part_of s words c.part
  part_told x c is apart = by c.part refl
    where
      by : (p : Part) → c.part ≡ p → part_of s words' p ≡ part_of s words p
      by (part.Atlas d) at = refl
      by (part.Locus l) at = refl
      by (part.Container k) at = head k.head
        where
          same : words_of s words' k.memory ≡ words_of s words k.memory
          same = words_same s words words' k.memory (blocks_stay x k.memory (ap memory_at is ∙ ap memory_of at) apart)

          head : (o : Option Head) → container_cell s words' k.memory o ≡ container_cell s words k.memory o
          head None = refl
          head (Some h) = ap (λ f. ContainerCell (container_with f h)) same

  pub clean_told : AreCleanTrue s words' looks.after → AreClean s words cs → AreClean s words' cs'
  clean_told after clean x m is = elim (same_or x y) as (λ _. AreCleanTrue s words' m) [
    | inl here ↦ subst (AreCleanTrue s words') (same_Some looks.after m (sym (ap (λ z. memory_at (slice_get cs' z)) here ∙ ap memory_at two.is_b ∙ ap memory_of looks.is) ∙ is)) after
    | inr apart ↦ elim (same_or x me) as (λ _. AreCleanTrue s words' m) [
      | inl here ↦ absurd (clash (sym is ∙ ap (λ z. memory_at (slice_get cs' z)) here ∙ ap memory_at two.is_a ∙ kind_none me a'.part two.high kind))
      | inr far ↦ (
          let was = ap memory_at (sym (two.others x far apart)) ∙ is in
          clean_same s words words' m (blocks_stay x m was apart) (clean x m was))
    ]
  ]
    where
      clash : Some m ≡ None → ⊥
      clash e = cc

  -- THE STEP, where the store tells its content
  pub goes_told : (e : Entry) → StepsCells s words words' a.clock.entity (a ∷ b ∷ []) (a' ∷ b' ∷ []) e → Lends cs cs' (a ∷ b ∷ []) (a' ∷ b' ∷ []) → AreCleanTrue s words' looks.after → GoesOn s words words' me cs cs' e
  goes_told e steps lends after =
      let at_a = orderly.numbers.each me a two.was_a in
      let at_b = orderly.numbers.each y b two.was_b in
      let others = λ (x : ℕ) (c : Cell) (is : slice_get cs x ≡ Some c) (apart : Rattle.table_laws.specs.Lending.IsApart x (a ∷ b ∷ [])). part_told x c is (λ e. apart.1.0 (e ∙ sym at_b)) in
      subst (λ n. GoesOn s words words' n cs cs' e) at_a (record {
        step = table_steps s words words' a.clock.entity cs cs' (a ∷ b ∷ []) (a' ∷ b' ∷ []) e steps lends orderly.numbers others;
        wishes = λ count script r at has. table_wishes s words words' a.clock.entity cs cs' (a ∷ b ∷ []) (a' ∷ b' ∷ []) e steps lends orderly.numbers others count script r at has;
        clean = clean_told after;
      })

  -- THE STATE AFTER A FAULT
  pub state_told : a' ≡ a → b'.clock ≡ b.clock → part_of s words' b'.part ≡ part_of s words b.part → state_in s words' cs' ≡ state_in s words cs
  state_told same clock part = λ i. λ x. at x i
    where
      entity_same : (x : ℕ) → x ≢ y → (o : Option Cell) → slice_get cs x ≡ o → entity_in s words' x o ≡ entity_in s words x o
      entity_same x apart (Some c) is = λ i. record { cell = part_told x c is apart i; version = c.clock.version; stamp = (entity_by s words c).stamp }
      entity_same x apart None is = refl

      at : (x : ℕ) → state_in s words' cs' x ≡ state_in s words cs x
      at x = elim (same_or x y) as (λ _. state_in s words' cs' x ≡ state_in s words cs x) [
        | inl here ↦ ap (λ z. entity_in s words' x (slice_get cs' z)) here ∙ ap (entity_in s words' x) two.is_b
            ∙ (λ i. record { cell = part i; version = (clock i).version; stamp = λ n. Rattle.cell_steps.specs.data_stamps.Stamps.component (clock i).stamp n })
            ∙ ap (entity_in s words x) (sym two.was_b) ∙ ap (λ z. entity_in s words x (slice_get cs z)) (sym here)
        | inr apart ↦ elim (same_or x me) as (λ _. state_in s words' cs' x ≡ state_in s words cs x) [
          | inl here ↦ ap (λ z. entity_in s words' x (slice_get cs' z)) here ∙ ap (entity_in s words' x) (two.is_a ∙ ap Some same ∙ sym two.was_a) ∙ ap (λ z. entity_in s words' x (slice_get cs z)) (sym here) ∙ entity_same x apart (slice_get cs x) refl
          | inr far ↦ ap (entity_in s words' x) (two.others x far apart) ∙ entity_same x apart (slice_get cs x) refl
        ]
      ]
