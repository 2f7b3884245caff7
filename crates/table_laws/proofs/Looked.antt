-- A look at a container keeps the table in order, whatever the store tells.
use Rattle.std.proofs.Common.{◌≡◌, ◌≢◌, inl, inr, ℕ, ◌*◌, ◌/◌, ◌%◌, ◌≤◌, Bool, true, false, ◌==◌, ◌||◌, if◌then◌else◌, List, [], ◌∷◌, slice_get, Option, Some, None, refl, sym, ap, ◌∙◌, subst, arith, eq-eqb, ne_eqb}
use Rattle.cell_steps.specs.base_types.declared.histories.Entry.{Entry}
use Rattle.cell_steps.specs.model_kernel.Histories.{Run, after_step, locus_in}
use Rattle.cell_steps.specs.model_kernel.LocalEvents.{touch_at}
use Rattle.cell_steps.specs.model_kernel.State.{Cell as ModelCell, ContainerCell, ContainerState, EntityState, KernelState, LocusCell, NotBorn, Supply}
use Rattle.cell_steps.specs.model_kernel.Steps.{step}
use Rattle.cell_steps.specs.cell_clocks.Clocks.{HasClock}
use Rattle.cell_steps.specs.data_stamps.Stamps.{component}
use Rattle.cell_steps.specs.act_alone.declared.loci.Head.{Head}
use Rattle.cell_steps.specs.act_alone.declared.loci.Locus.{Locus}
use Rattle.cell_steps.specs.act_alone.Loci.{container_with, locus_of}
use Rattle.cell_steps.specs.page_memory.Words.{IsSoundTable, word_in, words_of}
use Rattle.cell_steps.specs.cell_states.declared.cells.Cell.{Cell}
use Rattle.cell_steps.specs.cell_states.declared.cells.Part.{Part}
use Rattle.cell_steps.specs.cell_states.declared.cells.Part.TheVariants as part
use Rattle.cell_steps.specs.cell_states.Cells.{HasCell, container_cell, part_of}
use Rattle.cell_steps.specs.cell_states.Wishes.{HasWish}
use Rattle.cell_steps.specs.cell_looks.Looking.{HasCellWith, part_with}
use Rattle.cell_steps.specs.Advances.{AdvancesSomehow}
use Rattle.cell_blob_laws.specs.Memories.{HasOwnMemory}
use Rattle.cell_steps.specs.cell_clocks.declared.Clock.{Clock}
use Rattle.cell_steps.specs.cell_states.declared.cells.Wish.{Wish}
use Rattle.cell_step_laws.specs.cell_wish_laws.Founded.{IsFounded, IsFoundedCell}
use Rattle.model_sound_states.specs.States.{IsSoundState, IsSupplied}
use Rattle.model_sound_states.proofs.States.{step_state}
use Rattle.cell_step_laws.specs.Touching.{IsNoted}
use Rattle.table_laws.specs.Steps.{ChangesThree, EntersStep}
use Rattle.table_laws.specs.Tables.{HasKind, IsOrderly, entity_by, entity_in, state_in}
use Rattle.table_laws.proofs.Blocks.{ChangesTwo, KeepsOrder, LooksAt, keeps_order, same_or}
use Rattle.table_laws.proofs.Entered.{StaysOrNotes, entered_by}
use Rattle.table_laws.proofs.Founding.{founded_after, most_left, noted_after, run_here, run_wishes}
use Rattle.table_laws.proofs.Having.{has_cell, is_entity}
use Rattle.table_laws.proofs.PartKinds.{born_kind, stays_born}
use Rattle.table_laws.proofs.Untouched.{raised, raised_apart, untouched, untouched_stays, untouched_unwritten}
use Rattle.table_laws.proofs.WordsApart.{blank, same_container, sound_by_blank}
use Rattle.std.proofs.lemmas.Option.{same_Some}
use Rattle.cell_steps.proofs.Taking.{no_supply, no_words}

clash : (l : Locus) → LocusCell (locus_of l) ≡ NotBorn → ⊥
clash l e = cc

not_first : (a b : Bool) → (a || b) ≡ false → a ≡ true → ⊥
not_first true b none is = cc
not_first false b none is = cc

not_second : (a b : Bool) → (a || (b || false)) ≡ false → b ≡ true → ⊥
not_second true b none is = cc
not_second false true none is = cc
not_second false false none is = cc

-- a container's own memory has the supplier's words past its pages
pub own_supplied : (held : ℕ → Bool) (s : Supply) (words : ℕ → List ℕ) (p : Part) (c : ContainerState) → HasOwnMemory held p → part_of s words p ≡ ContainerCell c → IsSupplied s c
own_supplied held s words (part.Atlas d) c own is = cc
own_supplied held s words (part.Locus (Some l)) c own is = cc
own_supplied held s words (part.Locus None) c own is = cc
own_supplied held s words (part.Container b) c own is = by b.head own.0 is
  where
    by : (o : Option Head) → Rattle.cell_blob_laws.specs.Memories.IsOwn b.memory o → container_cell s words b.memory o ≡ ContainerCell c → IsSupplied s c
    by None of is = cc
    by (Some h) of is = subst (IsSupplied s) (same_container (container_with (words_of s words b.memory) h) c is) past
      where
        past : IsSupplied s (container_with (words_of s words b.memory) h)
        past address high =
            let page : b.memory.pages ≤ address / 128 = (let same = of.pages in omega arith) in
            let none = own.1.none_past (address / 128) page in
            (λ i. Rattle.cell_steps.specs.page_memory.Words.word_by s b.memory.tag words (none.0 i) (address / 128) (address % 128) (none.1 i))
            ∙ ap (λ t. s t (address / 128) (address % 128)) of.tag

module _ (held held' : ℕ → Bool) (cs cs' : List Cell) (me y : ℕ) (a b a' b' : Cell) (orderly : IsOrderly held cs) (two : ChangesTwo cs cs' me y a b a' b') (looks : LooksAt held held' b b') where
  at_a : a.clock.entity ≡ me
  at_a = orderly.numbers.each me a two.was_a

  at_b : b.clock.entity ≡ y
  at_b = orderly.numbers.each y b two.was_b

  differ : me ≢ y
  differ e = absurd (let low = two.low in omega (arith, low, e))

  kept : (kind : HasKind me a'.part) → KeepsOrder held held' cs cs' me y a b a' b' orderly two looks kind
  kept kind = keeps_order held held' cs cs' me y a b a' b' orderly two looks kind

  own_words : HasKind me a'.part → (s : Supply) (words : ℕ → List ℕ) (x : ℕ) (c : ContainerState) → (state_in s words cs' x).cell ≡ ContainerCell c → IsSupplied s c
  own_words kind s words x c is = by (slice_get cs' x) refl is
    where
      by : (o : Option Cell) → slice_get cs' x ≡ o → (entity_in s words x o).cell ≡ ContainerCell c → IsSupplied s c
      by (Some d) at is = own_supplied held' s words d.part c ((kept kind).own x d at) is
      by None at is = none (x == 0) is
        where
          none : (b : Bool) → (if b then Rattle.cell_steps.specs.model_kernel.State.AtlasCell Rattle.cell_steps.specs.model_kernel.State.no_atlas else NotBorn) ≡ ContainerCell c → IsSupplied s c
          none true e = cc
          none false e = cc

  module _ (e : Entry) (advances : AdvancesSomehow a a' b b' e) (s : Supply) (words : ℕ → List ℕ) where
    own : ℕ → ℕ
    own = words_of s words looks.before

    before : ℕ → ℕ
    before = advances.steps.before own

    -- the state with the words that were looked at
    entity_looked : EntityState
    entity_looked = record { cell = part_with before b.part; version = b.clock.version; stamp = λ n. component b.clock.stamp n }

    looked : KernelState
    looked = λ z. if z == y then entity_looked else state_in s words cs z

    looked_here : looked y ≡ entity_looked
    unfolding looked
    looked_here = ap (λ t. if t then entity_looked else state_in s words cs y) (eq-eqb y y refl)

    looked_apart : (z : ℕ) → z ≢ y → looked z ≡ state_in s words cs z
    unfolding looked
    looked_apart z apart = ap (λ t. if t then entity_looked else state_in s words cs z) (ne_eqb z y apart)

    part_before : part_with before b.part ≡ ContainerCell (container_with before looks.head)
    part_before = ap (part_with before) looks.was

    part_was : part_of s words b.part ≡ ContainerCell (container_with own looks.head)
    unfolding own
    part_was = ap (part_of s words) looks.was

    was_there : (state_in s words cs y).cell ≡ ContainerCell (container_with own looks.head)
    was_there = ap (λ o. (entity_in s words y o).cell) two.was_b ∙ part_was

    sound_looked : IsSoundState s looked
    unfolding entity_looked before
    sound_looked = sound_by_blank s s (state_in s words cs) looked (orderly.sound s words) cells
        (λ x. elim (same_or x y) as (λ _. (looked x).version ≡ (state_in s words cs x).version) [
          | inl here ↦ ap (λ z. (looked z).version) here ∙ ap (λ (k : EntityState). k.version) looked_here ∙ sym (ap (λ o. (entity_in s words y o).version) two.was_b) ∙ ap (λ z. (state_in s words cs z).version) (sym here)
          | inr apart ↦ ap (λ (k : EntityState). k.version) (looked_apart x apart)
        ])
        (λ x n. elim (same_or x y) as (λ _. (looked x).stamp n ≡ (state_in s words cs x).stamp n) [
          | inl here ↦ ap (λ z. (looked z).stamp n) here ∙ ap (λ (k : EntityState). k.stamp n) looked_here ∙ sym (ap (λ o. (entity_in s words y o).stamp n) two.was_b) ∙ ap (λ z. (state_in s words cs z).stamp n) (sym here)
          | inr apart ↦ ap (λ (k : EntityState). k.stamp n) (looked_apart x apart)
        ])
        supplied_at
      where
        cells : (x : ℕ) → blank (looked x).cell ≡ blank (state_in s words cs x).cell
        cells x = elim (same_or x y) as (λ _. blank (looked x).cell ≡ blank (state_in s words cs x).cell) [
          | inl here ↦ ap (λ z. blank (looked z).cell) here ∙ ap (λ (k : EntityState). blank k.cell) looked_here ∙ ap blank part_before ∙ sym (ap blank was_there) ∙ ap (λ z. blank (state_in s words cs z).cell) (sym here)
          | inr apart ↦ ap (λ (k : EntityState). blank k.cell) (looked_apart x apart)
        ]

        supplied_here : IsSupplied s (container_with before looks.head)
        supplied_here address high =
            (advances.steps.past own address (subst (λ p. Rattle.cell_steps.specs.cell_looks.Looking.pages_in p * 128 ≤ address) (sym looks.was) high)).0
            ∙ (orderly.sound s words).words y (container_with own looks.head) was_there address high

        supplied_at : (x : ℕ) (c : ContainerState) → (looked x).cell ≡ ContainerCell c → IsSupplied s c
        supplied_at x c is = elim (same_or x y) as (λ _. IsSupplied s c) [
          | inl here ↦ subst (IsSupplied s) (same_container (container_with before looks.head) c (sym part_before ∙ ap (λ (k : EntityState). k.cell) (sym looked_here) ∙ ap (λ z. (looked z).cell) (sym here) ∙ is)) supplied_here
          | inr apart ↦ (orderly.sound s words).words x c (ap (λ (k : EntityState). k.cell) (sym (looked_apart x apart)) ∙ is)
        ]

    has_a : HasCell s words looked a
    has_a = has_cell s words looked a (ap looked at_a ∙ looked_apart me differ ∙ ap (entity_in s words me) two.was_a)

    with_b : (w : KernelState) → w y ≡ entity_looked → HasCellWith before w b
    unfolding entity_looked
    with_b w is = record {
      part = ap (λ z. (w z).cell) at_b ∙ ap (λ (k : EntityState). k.cell) is;
      clock = record {
        version = ap (λ z. (w z).version) at_b ∙ ap (λ (k : EntityState). k.version) is;
        stamp = λ n. ap (λ z. (w z).stamp n) at_b ∙ ap (λ (k : EntityState). k.stamp n) is;
      };
    }

    v : KernelState
    unfolding before
    v = (advances.steps.step own s words looked has_a (with_b looked looked_here)).0

    stepped : step s me looked ≡ Some (e, v)
    unfolding before v
    stepped = ap (λ m. step s m looked) (sym at_a) ∙ (advances.steps.step own s words looked has_a (with_b looked looked_here)).1

    left_a : HasCell s words v a'
    unfolding before v
    left_a = (advances.steps.step own s words looked has_a (with_b looked looked_here)).2.0

    left_b : HasCellWith (advances.steps.after own) v b'
    unfolding before v
    left_b = (advances.steps.step own s words looked has_a (with_b looked looked_here)).2.1

    rest_untouched : (z : ℕ) → z ≢ me → z ≢ y → touch_at e.touched z ≡ None
    unfolding before
    rest_untouched z far apart =
        let w' = raised looked z in
        let again = advances.steps.step own s words w'
        (has_cell s words w' a (ap w' at_a ∙ raised_apart looked z me (λ e. far (sym e)) ∙ looked_apart me differ ∙ ap (entity_in s words me) two.was_a))
        (with_b w' (raised_apart looked z y (λ e. apart (sym e)) ∙ looked_here)) in
        untouched s me looked v again.0 e z stepped (ap (λ m. step s m w') (sym at_a) ∙ again.1)

    rest_stays : (z : ℕ) → z ≢ me → z ≢ y → v z ≡ state_in s words cs' z
    rest_stays z far apart = untouched_stays s me looked v e z stepped (rest_untouched z far apart) ∙ looked_apart z apart ∙ ap (entity_in s words z) (sym (two.others z far apart))

    me_stays : v me ≡ state_in s words cs' me
    me_stays = ap v (sym (two.same_a ∙ at_a)) ∙ is_entity s words v a' left_a ∙ ap (entity_in s words me) (sym two.is_a)

    y_version : (v y).version ≡ b'.clock.version
    y_version = ap (λ z. (v z).version) (sym (two.same_b ∙ at_b)) ∙ left_b.clock.version

    -- the locus is one still
    kind_look : HasKind me a'.part
    kind_look =
        let after = step_state s me looked (e, v) sound_looked stepped in
        born_kind s words after.sound.0 (λ x. (v x).cell) me a'.part after.sound.1 (sym left_a.part ∙ ap (λ x. (v x).cell) (two.same_a ∙ at_a))
        (stays_born s me looked v e me sound_looked after stepped (λ none. born (ap (λ (k : EntityState). k.cell) (sym (looked_apart me differ)) ∙ none)))
      where
        born : (state_in s words cs me).cell ≡ NotBorn → ⊥
        born none = clash two.locus (sym (ap (λ o. (entity_in s words me o).cell) two.was_a ∙ ap (part_of s words) two.is_locus) ∙ none)

    sound_left : HasKind me a'.part → IsSoundState s (state_in s words cs')
    sound_left kind = sound_by_blank s s v (state_in s words cs') (step_state s me looked (e, v) sound_looked stepped) cells versions stamps (own_words kind s words)
      where
        cells : (x : ℕ) → blank (state_in s words cs' x).cell ≡ blank (v x).cell
        cells x = elim (same_or x me) as (λ _. blank (state_in s words cs' x).cell ≡ blank (v x).cell) [
          | inl here ↦ ap (λ z. blank (state_in s words cs' z).cell) here ∙ ap (λ (k : EntityState). blank k.cell) (sym me_stays) ∙ ap (λ z. blank (v z).cell) (sym here)
          | inr far ↦ elim (same_or x y) as (λ _. blank (state_in s words cs' x).cell ≡ blank (v x).cell) [
            | inl here ↦ ap (λ z. blank (state_in s words cs' z).cell) here ∙ ap (λ o. blank (entity_in s words y o).cell) two.is_b ∙ ap (λ p. blank (part_of s words p)) looks.is
                ∙ sym (ap (λ p. blank (part_with (advances.steps.after own) p)) looks.is) ∙ ap blank (sym left_b.part) ∙ ap (λ z. blank (v z).cell) (two.same_b ∙ at_b) ∙ ap (λ z. blank (v z).cell) (sym here)
            | inr apart ↦ ap (λ (k : EntityState). blank k.cell) (sym (rest_stays x far apart))
          ]
        ]

        versions : (x : ℕ) → (state_in s words cs' x).version ≡ (v x).version
        versions x = elim (same_or x me) as (λ _. (state_in s words cs' x).version ≡ (v x).version) [
          | inl here ↦ ap (λ z. (state_in s words cs' z).version) here ∙ ap (λ (k : EntityState). k.version) (sym me_stays) ∙ ap (λ z. (v z).version) (sym here)
          | inr far ↦ elim (same_or x y) as (λ _. (state_in s words cs' x).version ≡ (v x).version) [
            | inl here ↦ ap (λ z. (state_in s words cs' z).version) here ∙ ap (λ o. (entity_in s words y o).version) two.is_b ∙ sym y_version ∙ ap (λ z. (v z).version) (sym here)
            | inr apart ↦ ap (λ (k : EntityState). k.version) (sym (rest_stays x far apart))
          ]
        ]

        stamps : (x n : ℕ) → (state_in s words cs' x).stamp n ≡ (v x).stamp n
        stamps x n = elim (same_or x me) as (λ _. (state_in s words cs' x).stamp n ≡ (v x).stamp n) [
          | inl here ↦ ap (λ z. (state_in s words cs' z).stamp n) here ∙ ap (λ (k : EntityState). k.stamp n) (sym me_stays) ∙ ap (λ z. (v z).stamp n) (sym here)
          | inr far ↦ elim (same_or x y) as (λ _. (state_in s words cs' x).stamp n ≡ (v x).stamp n) [
            | inl here ↦ ap (λ z. (state_in s words cs' z).stamp n) here ∙ ap (λ o. (entity_in s words y o).stamp n) two.is_b ∙ sym (left_b.clock.stamp n) ∙ ap (λ z. (v z).stamp n) (two.same_b ∙ at_b) ∙ ap (λ z. (v z).stamp n) (sym here)
            | inr apart ↦ ap (λ (k : EntityState). k.stamp n) (sym (rest_stays x far apart))
          ]
        ]

  -- THE TABLE AFTER THE LOOK
  module _ (e : Entry) (advances : AdvancesSomehow a a' b b' e) where
    w : KernelState
    w = looked e advances no_supply no_words

    u : KernelState
    u = v e advances no_supply no_words

    run : Run
    run = run_here w cs

    wishes : HasWish (most_left cs) (after_step run e (locus_in (w me).cell) u) a' × HasWish (most_left cs) (after_step run e (locus_in (w me).cell) u) b'
    unfolding run_here run w u
    wishes = subst (λ m. HasWish (most_left cs) (after_step run e (locus_in (w m).cell) u) a' × HasWish (most_left cs) (after_step run e (locus_in (w m).cell) u) b') at_a
        (advances.wishes no_supply no_words (most_left cs) run u (has_a e advances no_supply no_words) (run_wishes w cs me a two.was_a at_a) (run_wishes w cs y b two.was_b at_b))

    clock_b : HasClock w b.clock
    unfolding w
    clock_b = (with_b e advances no_supply no_words w (looked_here e advances no_supply no_words)).clock

    notes : (x : ℕ) (c d : Cell) → slice_get cs x ≡ Some c → slice_get cs' x ≡ Some d → StaysOrNotes e (locus_in (w me).cell) x c d
    unfolding run w u
    notes x c d was is = elim (same_or x me) as (λ _. StaysOrNotes e (locus_in (w me).cell) x c d) [
      | inl here ↦ inr (
        orderly.numbers.each x c was,
        subst (λ m. IsNoted e (locus_in (w me).cell) m d) (same_Some a c (sym (ap (slice_get cs) here ∙ two.was_a) ∙ was)) (subst (IsNoted e (locus_in (w me).cell) a) (same_Some a' d (sym (ap (slice_get cs') here ∙ two.is_a) ∙ is))
            (noted_after w cs me u e me a a' two.was_a at_a two.same_a wishes.0)),
      )
      | inr far ↦ elim (same_or x y) as (λ _. StaysOrNotes e (locus_in (w me).cell) x c d) [
        | inl here ↦ inr (
          orderly.numbers.each x c was,
          subst (λ m. IsNoted e (locus_in (w me).cell) m d) (same_Some b c (sym (ap (slice_get cs) here ∙ two.was_b) ∙ was)) (subst (IsNoted e (locus_in (w me).cell) b) (same_Some b' d (sym (ap (slice_get cs') here ∙ two.is_b) ∙ is))
              (noted_after w cs me u e y b b' two.was_b at_b two.same_b wishes.1)),
        )
        | inr apart ↦ inl (same_Some d c (sym is ∙ two.others x far apart ∙ was), untouched_unwritten e x (rest_untouched e advances no_supply no_words x far apart))
      ]
    ]

    pub entered_look : EntersStep me cs cs' e
    unfolding w u entity_looked
    entered_look = entered_by no_supply me w u cs cs' e (locus_in (w me).cell) (stepped e advances no_supply no_words) before_at after_at notes three
      where
        first : (x : ℕ) → ((me == x) || ((y == x) || false)) ≡ false → x ≡ me → ⊥
        first x none e = not_first (me == x) ((y == x) || false) none (eq-eqb me x (sym e))

        second : (x : ℕ) → ((me == x) || ((y == x) || false)) ≡ false → x ≡ y → ⊥
        second x none e = not_second (me == x) (y == x) none (eq-eqb y x (sym e))

        three : ChangesThree cs cs'
        three = record {
          changed = me ∷ y ∷ [];
          few = omega arith;
          others = λ x none. two.others x (λ e. absurd (first x none e)) (λ e. absurd (second x none e));
        }

        before_at : (x : ℕ) (c : Cell) → slice_get cs x ≡ Some c → (w x).version ≡ c.clock.version
        before_at x c was = elim (same_or x y) as (λ _. (w x).version ≡ c.clock.version) [
          | inl here ↦ ap (λ z. (w z).version) here ∙ ap (λ (k : EntityState). k.version) (looked_here e advances no_supply no_words) ∙ ap (λ (k : Cell). k.clock.version) (same_Some b c (sym (ap (slice_get cs) here ∙ two.was_b) ∙ was))
          | inr apart ↦ ap (λ (k : EntityState). k.version) (looked_apart e advances no_supply no_words x apart) ∙ ap (λ o. (entity_in no_supply no_words x o).version) was
        ]

        after_at : (x : ℕ) (d : Cell) → slice_get cs' x ≡ Some d → (u x).version ≡ d.clock.version
        after_at x d is = elim (same_or x me) as (λ _. (u x).version ≡ d.clock.version) [
          | inl here ↦ ap (λ z. (u z).version) here ∙ ap (λ (k : EntityState). k.version) (me_stays e advances no_supply no_words) ∙ ap (λ o. (entity_in no_supply no_words me o).version) (ap (slice_get cs') (sym here) ∙ is)
          | inr far ↦ elim (same_or x y) as (λ _. (u x).version ≡ d.clock.version) [
            | inl here ↦ ap (λ z. (u z).version) here ∙ y_version e advances no_supply no_words ∙ ap (λ (k : Cell). k.clock.version) (same_Some b' d (sym (ap (slice_get cs') here ∙ two.is_b) ∙ is))
            | inr apart ↦ ap (λ (k : EntityState). k.version) (rest_stays e advances no_supply no_words x far apart) ∙ ap (λ o. (entity_in no_supply no_words x o).version) is
          ]
        ]

    founded_look : (x : ℕ) (d : Cell) → slice_get cs' x ≡ Some d → IsFoundedCell d
    unfolding run w u
    founded_look x d is = elim (same_or x me) as (λ _. IsFoundedCell d) [
      | inl here ↦ subst IsFoundedCell (same_Some a' d (sym (ap (slice_get cs') here ∙ two.is_a) ∙ is))
          (founded_after w cs no_supply me u e me a a' (stepped e advances no_supply no_words) two.was_a at_a two.same_a (has_a e advances no_supply no_words).clock (left_a e advances no_supply no_words).clock wishes.0 (orderly.founded me a two.was_a))
      | inr far ↦ elim (same_or x y) as (λ _. IsFoundedCell d) [
        | inl here ↦ subst IsFoundedCell (same_Some b' d (sym (ap (slice_get cs') here ∙ two.is_b) ∙ is))
            (founded_after w cs no_supply me u e y b b' (stepped e advances no_supply no_words) two.was_b at_b two.same_b clock_b (left_b e advances no_supply no_words).clock wishes.1 (orderly.founded y b two.was_b))
        | inr apart ↦ orderly.founded x d (sym (two.others x far apart) ∙ is)
      ]
    ]

    pub left_kind : HasKind me a'.part
    left_kind = kind_look e advances no_supply no_words

    pub orderly_look : IsOrderly held' cs'
    orderly_look = record {
      numbers = (kept left_kind).numbers;
      sound = λ s words. sound_left e advances s words left_kind;
      founded = founded_look;
      kinds = (kept left_kind).kinds;
      own = (kept left_kind).own;
      once = (kept left_kind).once;
      named = (kept left_kind).named;
    }

  -- THE TABLE AFTER A FAULT of paging
  module _ (same : a' ≡ a) (clock : b'.clock ≡ b.clock) (wish : b'.wish ≡ b.wish) where
    stays_at : (x : ℕ) (P : Cell → Cell → Type 0) (c d : Cell) → slice_get cs x ≡ Some c → slice_get cs' x ≡ Some d → ((k : Cell) → P k k) → P b b' → P c d
    stays_at x P c d was is equal other = elim (same_or x me) as (λ _. P c d) [
      | inl here ↦ (
          let to : a ≡ d = sym same ∙ same_Some a' d (sym (ap (slice_get cs') here ∙ two.is_a) ∙ is) in
          subst (P c) (same_Some c a (sym was ∙ ap (slice_get cs) here ∙ two.was_a) ∙ to) (equal c))
      | inr far ↦ elim (same_or x y) as (λ _. P c d) [
        | inl here ↦ subst (λ k. P k d) (same_Some b c (sym (ap (slice_get cs) here ∙ two.was_b) ∙ was)) (subst (P b) (same_Some b' d (sym (ap (slice_get cs') here ∙ two.is_b) ∙ is)) other)
        | inr apart ↦ subst (P c) (same_Some c d (sym was ∙ sym (two.others x far apart) ∙ is)) (equal c)
      ]
    ]

    -- the cell at each number
    both_at : (s : Supply) (words : ℕ → List ℕ) (x : ℕ) (P : EntityState → EntityState → Type 0) → ((k : EntityState) → P k k) → P (entity_by s words b) (entity_by s words b') → P (state_in s words cs x) (state_in s words cs' x)
    both_at s words x P equal other = elim (same_or x me) as (λ _. P (state_in s words cs x) (state_in s words cs' x)) [
      | inl here ↦ subst (P (state_in s words cs x)) (ap (λ z. entity_in s words x (slice_get cs z)) here ∙ ap (entity_in s words x) (two.was_a ∙ ap Some (sym same) ∙ sym two.is_a) ∙ ap (λ z. entity_in s words x (slice_get cs' z)) (sym here)) (equal (state_in s words cs x))
      | inr far ↦ elim (same_or x y) as (λ _. P (state_in s words cs x) (state_in s words cs' x)) [
        | inl here ↦ subst (λ o. P (entity_in s words x o) (state_in s words cs' x)) (sym (ap (slice_get cs) here ∙ two.was_b)) (subst (λ o. P (entity_by s words b) (entity_in s words x o)) (sym (ap (slice_get cs') here ∙ two.is_b)) other)
        | inr apart ↦ subst (P (state_in s words cs x)) (ap (entity_in s words x) (sym (two.others x far apart))) (equal (state_in s words cs x))
      ]
    ]

    founded_b : IsFoundedCell b → IsFoundedCell b'
    founded_b f = subst (λ (k : Wish). IsFounded k.newest b'.clock.version (k.by_step || k.asked)) (sym wish) (subst (λ (k : Clock). IsFounded b.wish.newest k.version (b.wish.by_step || b.wish.asked)) (sym clock) f)

    founded_fault : (x : ℕ) (d : Cell) → slice_get cs' x ≡ Some d → IsFoundedCell d
    founded_fault x d is = elim (same_or x me) as (λ _. IsFoundedCell d) [
      | inl here ↦ subst IsFoundedCell (sym same ∙ same_Some a' d (sym (ap (slice_get cs') here ∙ two.is_a) ∙ is)) (orderly.founded me a two.was_a)
      | inr far ↦ elim (same_or x y) as (λ _. IsFoundedCell d) [
        | inl here ↦ subst IsFoundedCell (same_Some b' d (sym (ap (slice_get cs') here ∙ two.is_b) ∙ is)) (founded_b (orderly.founded y b two.was_b))
        | inr apart ↦ orderly.founded x d (sym (two.others x far apart) ∙ is)
      ]
    ]

    pub fault_kind : HasKind me a'.part
    fault_kind = subst (λ (c : Cell). HasKind me c.part) (sym same) (orderly.kinds me a two.was_a)

    pub orderly_fault : IsOrderly held' cs'
    orderly_fault = record {
      numbers = (kept fault_kind).numbers;
      sound = λ s words. sound_by_blank s s (state_in s words cs) (state_in s words cs') (orderly.sound s words)
          (λ x. both_at s words x (λ k m. blank m.cell ≡ blank k.cell) (λ k. refl) (ap (λ p. blank (part_of s words p)) looks.is ∙ sym (ap (λ p. blank (part_of s words p)) looks.was)))
          (λ x. both_at s words x (λ k m. m.version ≡ k.version) (λ k. refl) (ap (λ (c : Clock). c.version) clock))
          (λ x n. both_at s words x (λ k m. m.stamp n ≡ k.stamp n) (λ k. refl) (ap (λ (c : Clock). component c.stamp n) clock))
          (own_words fault_kind s words);
      founded = founded_fault;
      kinds = (kept fault_kind).kinds;
      own = (kept fault_kind).own;
      once = (kept fault_kind).once;
      named = (kept fault_kind).named;
    }

    pub same_fields : b'.left ≡ b.left → (x : ℕ) (c d : Cell) → slice_get cs x ≡ Some c → slice_get cs' x ≡ Some d → (d.clock ≡ c.clock) × (d.wish ≡ c.wish) × (d.left ≡ c.left)
    same_fields left x c d was is = stays_at x (λ c d. (d.clock ≡ c.clock) × (d.wish ≡ c.wish) × (d.left ≡ c.left)) c d was is (λ k. (refl, refl, refl)) (clock, wish, left)
