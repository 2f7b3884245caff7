-- A birth over lent cells is one over the table, which it leaves in order.
use Rattle.std.proofs.Common.{◌≡◌, inl, inr, ℕ, ◌+◌, ◌<◌, ◌≤◌, Bool, true, false, not, ◌&&◌, ◌||◌, MatchBool, List, [], slice_get, Option, Some, None, is_some, option_map, refl, sym, ap, subst, ◌∙◌, arith}
use Rattle.std.specs.List.{All}
use Rattle.base_types.specs.declared.histories.Entry.{Entry}
use Rattle.base_types.specs.declared.histories.Event.TheVariants.{Birth}
use Rattle.script_types.specs.model_kernel.Births.{next_birth}
use Rattle.script_types.specs.model_kernel.Histories.{Run, births_owed, by_event, event_of, goes_on, never, writes}
use Rattle.script_types.specs.model_kernel.Parts.{IsNext, after_entry, is_event}
use Rattle.script_types.specs.model_kernel.Scripts.{ContainerTable, Script, locus_named, next_name}
use Rattle.script_types.specs.model_kernel.State.{AtlasState, EntityState, KernelState, NotBorn, AtlasCell, Supply, Text}
use Rattle.script_types.specs.model_kernel.Steps.{atlas_in}
use Rattle.script_types.specs.Rules.{IsScript}
use Rattle.cell_births.proofs.model_run_laws_lemmas.Tellings.{written_rises}
use Rattle.table_steps.specs.model_sound_states.States.{IsSoundState}
use Rattle.table_steps.proofs.model_sound_states_lemmas.States.{birth_state}
use Rattle.cell_births.specs.model_births.Fitting.{Fits}
use Rattle.cell_births.proofs.model_births_lemmas.Ends.{born_state, next_bears}
use Rattle.cell_births.specs.cell_states.declared.cells.Cell.{Cell}
use Rattle.cell_births.specs.cell_states.declared.cells.Wish.{Wish}
use Rattle.cell_births.specs.cell_states.Cells.{HasCell}
use Rattle.cell_births.specs.cell_states.Wishes.{HasWish}
use Rattle.cell_births.specs.cell_wish_laws.Founded.{IsFoundedCell, TakesBirth}
use Rattle.cell_births.proofs.cell_wish_laws_lemmas.Recorded.{birth_wish}
use Rattle.table_steps.specs.cell_steps.Advances.{HasCells}
use Rattle.cell_births.specs.Bearing.{Bears}
use Rattle.cell_births.proofs.Readiness.{next_named}
use Rattle.table_steps.specs.table_laws.Lending.{ForPairs, IsApart, Lends}
use Rattle.table_steps.specs.table_laws.Quiet.{GoesQuietly}
use Rattle.table_steps.specs.table_laws.Tables.{AreNumbered, HasKind, HasTableWishes, IsOrderly, entity_in, state_in}
use Rattle.table_steps.proofs.table_laws_lemmas.Having.{each_has, is_entity, no_supply, no_words, state_has_all}
use Rattle.table_steps.proofs.table_laws_lemmas.Kept.{clean_after, orderly_with, tables_same}
use Rattle.table_steps.proofs.table_laws_lemmas.Lent.{spot}
use Rattle.table_steps.proofs.table_laws_lemmas.PartKinds.{born_kind}
use Rattle.table_births.specs.Births.{BearsQuietly, atlas_state_in, count_born}
use Rattle.table_births.proofs.AtlasStates.{same_atlas}
use Rattle.std.proofs.lemmas.Option.{same_Some}

-- the cell takes the entry's birth in
abbrev pub TakesIn : Entry → Cell → Cell → Type 0
TakesIn e c d = TakesBirth (writes e c.clock.entity) c d

-- THE BIRTH OF THE NEXT NAME over the cells that are lent, and which are all that it writes
pub record LentBirth (script : Script) (name : Text) (cs cs' old new : List Cell) (e : Entry) : Type 0 where
  pub next : next_name (atlas_state_in cs) script ≡ Some name
  pub event : e.event ≡ Birth
  pub lends : Lends cs cs' old new
  pub bears : (s : Supply) (words : ℕ → List ℕ) (w : KernelState) → HasCells s words w old → Bears s script name w e (λ v. HasCells s words v new)
  pub takes : ForPairs (TakesIn e) old new
  pub apart : (x : ℕ) → IsApart x old → writes e x ≡ false

-- the script fits what it leaves, with one entity more
record Grows (script : Script) (cs cs' : List Cell) : Type 0 where
  fitting : Fits (atlas_state_in cs') script
  more : count_born (atlas_state_in cs') ≡ count_born (atlas_state_in cs) + 1

-- a cell that isn't written takes a birth in as it is
unwritten : (b : Bool) (c : Cell) → b ≡ false → TakesBirth b c c
unwritten b c none = record {
  same_entity = refl;
  same_left = refl;
  wish = sym (ap (λ t. record c.wish { by_step = not t && c.wish.by_step }) none);
}

-- wishes rest on changes, also after a birth
founded_birth : (b : Bool) (c d : Cell) → TakesBirth b c d → c.clock.version ≤ d.clock.version → (b ≡ true → c.clock.version < d.clock.version) → IsFoundedCell c → IsFoundedCell d
founded_birth b c d takes rises more f =
    let newest : d.wish.newest ≡ c.wish.newest = ap (λ (w : Wish). w.newest) takes.wish in
    record {
      past = (let p = f.past in omega (arith, newest, p, rises));
      changed = by b refl;
    }
  where
    by : (t : Bool) → b ≡ t → (d.wish.by_step || d.wish.asked) ≡ true → d.wish.newest < d.clock.version
    by true wrote noted =
        let newest : d.wish.newest ≡ c.wish.newest = ap (λ (w : Wish). w.newest) takes.wish in
        let p = f.past in
        let m = more wrote in
        omega (arith, newest, p, m)
    by false none noted =
        let newest : d.wish.newest ≡ c.wish.newest = ap (λ (w : Wish). w.newest) takes.wish in
        let same : (d.wish.by_step || d.wish.asked) ≡ (c.wish.by_step || c.wish.asked) =
        ap (λ (w : Wish). w.by_step || w.asked) takes.wish ∙ ap (λ t. (not t && c.wish.by_step) || c.wish.asked) none in
        let p = f.changed (sym same ∙ noted) in
        omega (arith, newest, p, rises)

module _ (script : Script) (name : Text) (cs cs' old new : List Cell) (e : Entry) (lent : LentBirth script name cs cs' old new e) (numbers : AreNumbered cs) where
  module _ (s : Supply) (words : ℕ → List ℕ) where
    next_in : next_name (atlas_in (state_in s words cs 0).cell) script ≡ Some name
    next_in = ap (λ a. next_name a script) (same_atlas s words cs) ∙ lent.next

    made : Bears s script name (state_in s words cs) e (λ v. HasCells s words v new)
    made = lent.bears s words (state_in s words cs) (state_has_all s words cs old lent.lends.stood)

    goes_at : (x : ℕ) → made.0 x ≡ state_in s words cs' x
    goes_at x = elim (spot (λ c d. HasCell s words made.0 d) cs cs' x old new lent.lends (each_has s words made.0 old new lent.lends.numbers made.3)) as (λ _. made.0 x ≡ state_in s words cs' x) [
      | inl k ↦ ap made.0 (sym k.at_after) ∙ is_entity s words made.0 k.after k.holds ∙ ap (entity_in s words x) (sym k.is)
      | inr k ↦ made.2 x (lent.apart x k.apart) ∙ ap (entity_in s words x) (sym k.same)
    ]

    pub table_birth : next_birth s script (state_in s words cs) ≡ Some (e, state_in s words cs')
    table_birth = next_named s script (state_in s words cs) name next_in ∙ made.1 ∙ (λ i. Some (e, λ x. goes_at x i))

    owed : (r : Run) → r.state ≡ state_in s words cs → births_owed script r ≡ true
    owed r at = ap (λ (w : KernelState). is_some (next_name (atlas_in (w 0).cell) script)) at ∙ ap is_some next_in

    -- WISHES
    wishes_after : (count : ℕ) (r : Run) → HasTableWishes count r cs → HasTableWishes count (goes_on s script r e) cs'
    wishes_after count r has x d is = elim (spot (TakesIn e) cs cs' x old new lent.lends lent.takes) as (λ _. HasWish count (goes_on s script r e) d) [
      | inl k ↦ subst (HasWish count (goes_on s script r e)) (same_Some k.after d (sym k.is ∙ is)) (birth_wish s script r e count k.before k.after lent.event (has x k.before k.was) k.holds)
      | inr k ↦ (
          let here = sym k.same ∙ is in
          birth_wish s script r e count d d lent.event (has x d here) (unwritten (writes e d.clock.entity) d (ap (writes e) (numbers.each x d here) ∙ lent.apart x k.apart)))
    ]

  -- VERSIONS
  made_by : event_of no_supply script e (state_in no_supply no_words cs) ≡ Some (e, state_in no_supply no_words cs')
  made_by = (λ i. by_event no_supply script (lent.event i) e.actor (state_in no_supply no_words cs)) ∙ table_birth no_supply no_words

  played : IsNext (event_of no_supply script) (state_in no_supply no_words cs) e
  played = subst (λ ev. MatchBool (is_event ev) (option_map (λ (p : Entry × KernelState). p.0) (event_of no_supply script e (state_in no_supply no_words cs)) ≡ Some e) (e.touched ≡ [])) (sym lent.event)
      (ap (λ (o : Option (Entry × KernelState)). option_map (λ (p : Entry × KernelState). p.0) o) made_by)

  left_by : after_entry (event_of no_supply script) (state_in no_supply no_words cs) e ≡ state_in no_supply no_words cs'
  left_by = born_state no_supply script (state_in no_supply no_words cs) (e, state_in no_supply no_words cs') (table_birth no_supply no_words)

  pub rises : (x : ℕ) (c d : Cell) → slice_get cs x ≡ Some c → slice_get cs' x ≡ Some d → writes e x ≡ true → d.clock.version ≡ c.clock.version + 1
  rises x c d was is wrote =
      sym (ap (λ (v : KernelState). (v x).version) left_by ∙ ap (λ o. (entity_in no_supply no_words x o).version) is)
      ∙ written_rises no_supply never script (state_in no_supply no_words cs) e played x wrote ∙ ap (λ o. (entity_in no_supply no_words x o).version + 1) was

  stays : (x : ℕ) (c d : Cell) → slice_get cs x ≡ Some c → slice_get cs' x ≡ Some d → writes e x ≡ false → d.clock.version ≡ c.clock.version
  stays x c d was is none =
      sym (ap (λ o. (entity_in no_supply no_words x o).version) is) ∙ sym (ap (λ (k : EntityState). k.version) (goes_at no_supply no_words x))
      ∙ ap (λ (k : EntityState). k.version) ((made no_supply no_words).2 x none) ∙ ap (λ o. (entity_in no_supply no_words x o).version) was

  versions : (x : ℕ) (c d : Cell) → slice_get cs x ≡ Some c → slice_get cs' x ≡ Some d → (c.clock.version ≤ d.clock.version) × (d.clock.version ≤ c.clock.version + 1)
  versions x c d was is = elim (writes e x) as (λ b. writes e x ≡ b → (c.clock.version ≤ d.clock.version) × (d.clock.version ≤ c.clock.version + 1)) [
    | true ↦ λ wrote. (let more = rises x c d was is wrote in (omega arith, omega arith))
    | false ↦ λ none. (let same = stays x c d was is none in (omega arith, omega arith))
  ] refl

  takes_in : (x : ℕ) (c d : Cell) → slice_get cs x ≡ Some c → slice_get cs' x ≡ Some d → TakesBirth (writes e x) c d
  takes_in x c d was is = elim (spot (TakesIn e) cs cs' x old new lent.lends lent.takes) as (λ _. TakesBirth (writes e x) c d) [
    | inl k ↦ subst (λ n. TakesBirth (writes e n) c d) k.at_before
        (subst (λ b. TakesBirth (writes e k.before.clock.entity) b d) (same_Some k.before c (sym k.was ∙ was)) (subst (TakesBirth (writes e k.before.clock.entity) k.before) (same_Some k.after d (sym k.is ∙ is)) k.holds))
    | inr k ↦ subst (TakesBirth (writes e x) c) (same_Some c d (sym was ∙ sym k.same ∙ is)) (unwritten (writes e x) c (lent.apart x k.apart))
  ]

  founded_after : ((x : ℕ) (c : Cell) → slice_get cs x ≡ Some c → IsFoundedCell c) → (x : ℕ) (d : Cell) → slice_get cs' x ≡ Some d → IsFoundedCell d
  founded_after founded x d is = by (slice_get cs x) refl
    where
      by : (o : Option Cell) → slice_get cs x ≡ o → IsFoundedCell d
      by (Some c) was =
          founded_birth (writes e x) c d (takes_in x c d was is) (versions x c d was is).0 (λ wrote. (let more = rises x c d was is wrote in omega arith)) (founded x c was)
      by None was = elim (spot (TakesIn e) cs cs' x old new lent.lends lent.takes) as (λ _. IsFoundedCell d) [
        | inl k ↦ absurd (no k.before (sym was ∙ k.was))
        | inr k ↦ absurd (no d (sym was ∙ sym k.same ∙ is))
      ]
        where
          no : (c : Cell) → None ≡ Some c → ⊥
          no c e = cc

  -- THE STATE AFTER IT
  module _ (rules : IsScript script) (fits : Fits (atlas_state_in cs) script) (sound : (s : Supply) (words : ℕ → List ℕ) → IsSoundState s (state_in s words cs)) where
    pub sound_after : (s : Supply) (words : ℕ → List ℕ) → IsSoundState s (state_in s words cs')
    sound_after s words =
        birth_state s script rules (state_in s words cs) (e, state_in s words cs')
        (subst (λ a. All (λ (t : ContainerTable). locus_named a t.name ≡ None) script.containers) (sym (same_atlas s words cs)) fits.kinds.containers) (sound s words) (table_birth s words)

    grows : Grows script cs cs'
    grows =
        let b = next_bears no_supply script rules (state_in no_supply no_words cs) (sound no_supply no_words).sound (subst (λ a. Fits a script) (sym (same_atlas no_supply no_words cs)) fits)
        (ap is_some (next_in no_supply no_words)) in
        let same : b.made.1 ≡ state_in no_supply no_words cs' = second (b.made) (e, state_in no_supply no_words cs') (sym b.is ∙ table_birth no_supply no_words) in
        let atlas : atlas_in (b.made.1 0).cell ≡ atlas_state_in cs' = ap (λ (v : KernelState). atlas_in (v 0).cell) same ∙ same_atlas no_supply no_words cs' in
        record {
          fitting = subst (λ a. Fits a script) atlas b.fits;
          more = sym (ap count_born atlas) ∙ b.more ∙ ap (λ a. count_born a + 1) (same_atlas no_supply no_words cs);
        }
      where
        second : (p q : Entry × KernelState) → Some p ≡ Some q → p.1 ≡ q.1
        second p q e = cc

    -- what is born after it has a part of its number's kind
    pub kind_after : (x : ℕ) (d : Cell) → slice_get cs' x ≡ Some d → ((state_in no_supply no_words cs' x).cell ≡ NotBorn → ⊥) → HasKind x d.part
    kind_after x d is born =
        let after = sound_after no_supply no_words in
        born_kind no_supply no_words after.sound.0 (λ y. (state_in no_supply no_words cs' y).cell) x d.part after.sound.1 (sym (ap (λ o. (entity_in no_supply no_words x o).cell) is)) born

    pub atlas_kind : (d : Cell) → slice_get cs' 0 ≡ Some d → HasKind 0 d.part
    atlas_kind d is = kind_after 0 d is (λ none. clash (sound_after no_supply no_words).sound.0 (sym (sound_after no_supply no_words).sound.1.atlas ∙ none))
      where
        clash : (a : AtlasState) → AtlasCell a ≡ NotBorn → ⊥
        clash a e = cc

    -- what it writes, the atlas aside, is born after it
    pub written_kind : (x : ℕ) (c d : Cell) → slice_get cs x ≡ Some c → slice_get cs' x ≡ Some d → 0 < x → writes e x ≡ true → HasKind x d.part
    written_kind x c d was is some wrote =
        kind_after x d is (λ none.
        let zero = ((sound_after no_supply no_words).born x some).0 none in
        let here : (state_in no_supply no_words cs' x).version ≡ d.clock.version = ap (λ o. (entity_in no_supply no_words x o).version) is in
        let more = rises x c d was is wrote in
        absurd (omega (arith, zero, here, more)))

  -- THE BIRTH OVER THE TABLE
  module _ (rules : IsScript script) (fits : Fits (atlas_state_in cs) script) (held : ℕ → Bool) (orderly : IsOrderly held cs) (pairs : ForPairs GoesQuietly old new) where
    pub bears_quietly : BearsQuietly script cs cs' e
    bears_quietly = record {
      bears = λ s words. record {
        birth = table_birth s words;
        owed = owed s words;
        wishes = λ count r at has. wishes_after s words count r has;
        clean = clean_after cs cs' old new lent.lends pairs s words;
      };
      orderly = λ held orderly. orderly_with cs cs' old new lent.lends pairs held orderly (sound_after rules fits orderly.sound) (founded_after orderly.founded);
      enters = record { event = lent.event; takes = takes_in; versions = versions; blocks = tables_same cs cs' old new lent.lends pairs held orderly };
      more = (grows rules fits orderly.sound).more;
      fits = (grows rules fits orderly.sound).fitting;
    }
