-- The table of cells, by the chosen parts of an image.
use Rattle.std.proofs.Common.{◌≡◌, ◌≢◌, ℕ, zero, suc, ◌+◌, ◌<◌, ◌≤◌, ◌||◌, Bool, true, false, List, [], ◌∷◌, ◌++◌, length, Option, Some, None, refl, sym, ap, subst, ◌∙◌, ⊎_elim, arith}
use Rattle.std.specs.Prelude.{Contains, MatchOption, slice_get, slice_index, slice_index_or, slice_set}
use Rattle.std.proofs.lemmas.Bool.{cases_eq, cases_lt, false≢true}
use Rattle.std.proofs.lemmas.List.{get_or-set_other, get_or_append_left, get_or_past, get_or_push, length-append}
use Rattle.std.proofs.lemmas.List.Elements.{Contains-get_or}
use Rattle.std.proofs.lemmas.Option.{get_or_from_slice_get, slice_get-get_or, slice_get_within}
use Rattle.edge_disk.specs.Image.{Image, block_at}
use Rattle.data_frames.specs.FrameTable.{empty_table}
use Rattle.base_types.specs.declared.records.Rec.{Rec}
use Rattle.cell_clocks.specs.model_kernel.Histories.{start_run}
use Rattle.cell_clocks.specs.model_kernel.State.{EntityState, Supply, empty_state}
use Rattle.image_state_laws.specs.image_meaning.Fits.{IsNamedOnce}
use Rattle.image_state_laws.specs.image_meaning.Meaning.{Means, entity_of, state_of}
use Rattle.image_state_laws.specs.image_meaning.Parts.{Part, chosen, cut_of, table_in}
use Rattle.image_state_laws.proofs.image_meaning_lemmas.Finding.{slot_of}
use Rattle.image_state_laws.proofs.image_meaning_lemmas.Firsts.{clash}
use Rattle.image_chosen.specs.Parts.{ArePartsOf}
use Rattle.image_chosen.specs.image_chosen_facts.Parts.{IsAcceptedWith}
use Rattle.image_chosen.specs.image_chosen_facts.Tables.{blocks_in}
use Rattle.image_chosen.specs.declared.parts.ImageParts.{ImageParts}
use Rattle.image_chosen.specs.log_reading.Logs.{IsKnown}
use Rattle.image_chosen.specs.log_facts.Logs.{IsOlder}
use Rattle.image_chosen.specs.log_reading.declared.log.ImageLog.{ImageLog}
use Rattle.image_state_laws.specs.Restoring.{MakeUpState}
use Rattle.image_state_laws.proofs.Meant.{parts_sound}
use Rattle.image_chosen.specs.image_fits.Chosen.{entity_at, part_in, parts_of, record_in}
use Rattle.image_chosen.specs.image_fits.Fits.{AreChosen, AreFit}
use Rattle.image_chosen.specs.image_fits.declared.chosen.ChosenEntity.{ChosenEntity}
use Rattle.image_chosen.proofs.image_fits_lemmas.Choices.{none_past}
use Rattle.page_memory.specs.Words.{AreCleanTrue, AreHeldBlocks}
use Rattle.page_memory.specs.declared.paged.PagedMemory.{PagedMemory}
use Rattle.kernel_record_facts.specs.cell_states.declared.cells.Cell.{Cell}
use Rattle.kernel_record_facts.specs.cell_states.declared.cells.Wish.{Wish}
use Rattle.table_laws.specs.cell_wish_laws.Founded.{IsFounded, IsFoundedCell}
use Rattle.image_state_laws.specs.model_sound_states.States.{IsSoundState}
use Rattle.table_laws.specs.Tables.{AreClean, HasTableWishes, IsOrderly, blocks_by, entity_in, memory_at, state_in, tables_in}
use Rattle.kernel_record_facts.specs.Cells.{words_on}
use Rattle.kernel_record_facts.proofs.Settled.{word_at}
use Rattle.table_opened.specs.Held.{HoldsNamed}
use Rattle.table_opened.specs.Opened.{AreChosenCells, HaveFrames, HoldWords, IsChosenCell}
use Rattle.table_opened.proofs.Spread.{spread, spread_holds}

-- NO BLOCK IS NAMED TWICE by parts that fit

abbrev block_in : (ℕ → Option Part) → ℕ → ℕ → ℕ
block_in parts x page = slice_index (blocks_in (parts x)) page

module _ (count : ℕ) (recs : List Rec) (parts : ℕ → Option Part) (fit : AreFit count recs parts) where
  -- a block that isn't 0 stands in a table
  stands : (table : List ℕ) (page : ℕ) → slice_index table page ≢ 0 → page < length table
  stands table page some = ⊎_elim (λ (low : page < length table). low) (λ (high : length table ≤ page). absurd (some (get_or_past table page 0 high))) (cases_lt page (length table))

  at_page : (table : List ℕ) (page n : ℕ) → n ≢ 0 → slice_index table page ≡ n → slice_get table page ≡ Some n
  at_page table page n some is = slice_get-get_or table page 0 (stands table page (subst (λ (m : ℕ). m ≢ 0) (sym is) some)) ∙ ap Some is

  has_it : (table : List ℕ) (page n : ℕ) → n ≢ 0 → slice_index table page ≡ n → Contains table n
  has_it table page n some is = subst (Contains table) is (Contains-get_or table page 0 (stands table page (subst (λ (m : ℕ). m ≢ 0) (sym is) some)))

  named : (x page n : ℕ) (part : Part) → parts x ≡ Some part → n ≢ 0 → slice_index (table_in part) page ≡ n → IsNamedOnce count recs parts x (table_in part) page n
  named x page n part at some is = (fit x part at).blocks page n (at_page (table_in part) page n some is) some

  not_both : (x y p q n : ℕ) (part other : Part) → parts x ≡ Some part → parts y ≡ Some other → n ≢ 0 → slice_index (table_in part) p ≡ n → slice_index (table_in other) q ≡ n → y ≢ x → ⊥
  not_both x y p q n part other at there some here too apart =
      ((named x p n part at some here).others y apart).by_table other there (has_it (table_in other) q n some too)

  same_page : (x p q n : ℕ) (part : Part) → parts x ≡ Some part → n ≢ 0 → slice_index (table_in part) p ≡ n → slice_index (table_in part) q ≡ n → p ≡ q
  same_page x p q n part at some here too = sym ((named x p n part at some here).once q (at_page (table_in part) q n some too))

  part_with : (x page n : ℕ) (o : Option Part) → n ≢ 0 → slice_index (blocks_in o) page ≡ n → (part : Part) × (o ≡ Some part) × (slice_index (table_in part) page ≡ n)
  part_with x page n None some is = absurd (some (sym is))
  part_with x page n (Some part) some is = (part, refl, is)

  pub once : (x y p q : ℕ) → block_in parts x p ≢ 0 → block_in parts x p ≡ block_in parts y q → (x ≡ y) × (p ≡ q)
  once x y p q some same =
      let n : ℕ = block_in parts x p in
      let one = part_with x p n (parts x) some refl in
      let two = part_with y q n (parts y) some (sym same) in
      ⊎_elim
      (λ (is : y ≡ x).
      let at : parts x ≡ Some two.0 = ap parts (sym is) ∙ two.1 in
      let alike : two.0 ≡ one.0 = same_some two.0 one.0 (sym at ∙ one.1) in
      (sym is, same_page x p q n one.0 one.1 some one.2 (subst (λ (part : Part). slice_index (table_in part) q ≡ n) alike two.2)))
      (λ (apart : y ≢ x). absurd (not_both x y p q n one.0 two.0 one.1 two.1 some one.2 two.2 apart))
      (cases_eq y x)
    where
      same_some : (a b : Part) → Some a ≡ Some b → a ≡ b
      same_some a b is = cc

  pub held_blocks : (held : ℕ → Bool) → HoldsNamed held parts → (x : ℕ) → AreHeldBlocks held (blocks_in (parts x))
  held_blocks held h x = record { held_blocks = h.all_held x; differ = λ p q some same. (once x x p q some same).1 }

-- WHAT THE PARTS MAKE UP

taken_of : (o : Option ChosenEntity) (c : Option Rec) → c ≡ record_in o → MatchOption c (part_in o ≡ None) (λ _. (part : Part) × (part_in o ≡ Some part))
taken_of None c is = subst (λ (d : Option Rec). MatchOption d (part_in None ≡ None) (λ _. (part : Part) × (part_in None ≡ Some part))) (sym is) refl
taken_of (Some e) c is = subst (λ (d : Option Rec). MatchOption d (part_in (Some e) ≡ None) (λ _. (part : Part) × (part_in (Some e) ≡ Some part))) (sym is) (_, refl)

pub make_up : (count : ℕ) (log : ImageLog) (parts : ImageParts) → IsKnown count log → ArePartsOf log parts → MakeUpState log.blocks log.recs.items (parts_of parts.entities.items)
make_up count log parts known are = record {
  in_range = known.in_range;
  ascending = λ i k r q lt early here same.
      let recs : List Rec = log.recs.items in
      let older = known.ascending k i r lt (slice_get_within recs i r here) in
      subst (λ (a : Rec). IsOlder a r) (get_or_from_slice_get recs k q r early) (subst (λ (b : Rec). IsOlder (slice_index_or recs k r) b) (get_or_from_slice_get recs i r r here) older) same;
  taken = λ x. taken_of (entity_at parts.entities.items x) (chosen log.recs.items x) (are.chosen x);
  formed = are.formed;
  fit = are.fit;
}

-- WITHOUT A RECORD nothing is chosen

no_entity : (o : Option ChosenEntity) → None ≡ record_in o → o ≡ None
no_entity None is = refl
no_entity (Some e) is = clash None e.rec refl is

nobody : (recs : List Rec) (es : List (Option ChosenEntity)) → AreChosen recs es → recs ≡ [] → (x : ℕ) → entity_at es x ≡ None
nobody recs es chose none x = no_entity (entity_at es x) (sym (ap (λ (rs : List Rec). chosen rs x) none) ∙ chose x)

no_block : (log : ImageLog) (parts : ImageParts) → ArePartsOf log parts → log.recs.items ≡ [] → (x page : ℕ) → block_in (parts_of parts.entities.items) x page ≡ 0
no_block log parts are none x page = ap (λ (o : Option ChosenEntity). slice_index (blocks_in (part_in o)) page) (nobody log.recs.items parts.entities.items are.chosen none x)

pub none_held : (log : ImageLog) (parts : ImageParts) (held : ℕ → Bool) → ArePartsOf log parts → log.recs.items ≡ [] → HoldsNamed held (parts_of parts.entities.items) → (n : ℕ) → held n ≡ false
none_held log parts held are none named n = by (held n) refl
  where
    by : (b : Bool) → held n ≡ b → b ≡ false
    by false is = refl
    by true is = (let found = named.no_others n is in absurd (found.2 (sym found.3 ∙ no_block log parts are none found.0 found.1)))

pub holds_none : (log : ImageLog) (parts : ImageParts) (held : ℕ → Bool) → ArePartsOf log parts → log.recs.items ≡ [] → ((n : ℕ) → held n ≡ false) → HoldsNamed held (parts_of parts.entities.items)
holds_none log parts held are none empty = record {
  all_held = λ x page some. absurd (some (no_block log parts are none x page));
  no_others = λ n is. absurd (false≢true (sym (empty n) ∙ is));
}

-- THE LOOP OVER ENTITIES

-- from a number on the entities are the same
abbrev pub SameFrom : ℕ → List (Option ChosenEntity) → List (Option ChosenEntity) → Type 0
SameFrom n es left = (x : ℕ) → n ≤ x → entity_at left x ≡ entity_at es x

-- the cells so far
abbrev pub CellsTo : ℕ → ℕ → List (Option ChosenEntity) → List Cell → Type 0
CellsTo frames steps es cs = (x : ℕ) (c : Cell) → slice_get cs x ≡ Some c → IsChosenCell frames steps x (entity_at es x) c

-- one taken out of its place
pub taken_out : (es left : List (Option ChosenEntity)) (n : ℕ) → SameFrom n es left → SameFrom (n + 1) es (slice_set left n None)
taken_out es left n same x high = get_or-set_other left n x None None (λ is. omega (arith, high, is)) ∙ same x (omega (arith, high))

-- one cell more
pub one_more : (frames steps : ℕ) (es : List (Option ChosenEntity)) (cs : List Cell) (d : Cell) (n : ℕ) → length cs ≡ n → CellsTo frames steps es cs → IsChosenCell frames steps n (entity_at es n) d
    → CellsTo frames steps es (cs ++ d ∷ [])
one_more frames steps es cs d n long before here x c is = ⊎_elim
    (λ (low : x < length cs). before x c (slice_get-get_or cs x c low ∙ (ap Some (sym (get_or_append_left cs (d ∷ []) c x low)) ∙ ap Some (get_or_from_slice_get (cs ++ d ∷ []) x c c is))))
    (λ (high : length cs ≤ x).
    let within = slice_get_within (cs ++ d ∷ []) x c is in
    let size = length-append cs (d ∷ []) in
    let last : x ≡ n = omega (arith, within, size, high, long) in
    let same : d ≡ c = sym (get_or_push cs d c x (long ∙ sym last)) ∙ get_or_from_slice_get (cs ++ d ∷ []) x c c is in
    subst (λ (y : ℕ). IsChosenCell frames steps y (entity_at es y) c) (sym last) (subst (IsChosenCell frames steps n (entity_at es n)) same here))
    (cases_lt x (length cs))

from_zero : (a b : ℕ) → a ≡ b → 0 + a ≡ b
from_zero a b same = omega (arith, same)

-- THE CELLS
module _ (frames steps : ℕ) (es : List (Option ChosenEntity)) (cs : List Cell) (all : AreChosenCells frames steps es cs) where
  -- each number's cell, or none where nothing is chosen
  data Found (x : ℕ) : Type 0 where
    Here : (c : Cell) → slice_get cs x ≡ Some c → Found x
    Past : slice_get cs x ≡ None → entity_at es x ≡ None → Found x

  find : (x : ℕ) → Found x
  find x = by (slice_get cs x) refl
    where
      by : (o : Option Cell) → slice_get cs x ≡ o → Found x
      by (Some c) is = Here c is
      by None is = ⊎_elim
          (λ (low : x < length es). absurd (none_within x is (let len = all.len in omega (arith, len, low))))
          (λ (high : length es ≤ x). Past is (none_past es x high))
          (cases_lt x (length es))
        where
          none_within : (x : ℕ) → slice_get cs x ≡ None → x < length cs → ⊥
          none_within x none lt = within cs x none lt
            where
              within : (ds : List Cell) (x : ℕ) → slice_get ds x ≡ None → x < length ds → ⊥
              within [] x none lt = omega (arith, lt)
              within (d ∷ ds) zero none lt = cc
              within (d ∷ ds) (suc x) none lt = within ds x none (omega (arith, lt))

  module _ (s : Supply) (bytes words : ℕ → List ℕ) (holds : HoldWords bytes words) where
    entity_is : (x : ℕ) → state_in s words cs x ≡ entity_of s bytes x (record_in (entity_at es x)) (part_in (entity_at es x))
    entity_is x = by (find x)
      where
        by : Found x → state_in s words cs x ≡ entity_of s bytes x (record_in (entity_at es x)) (part_in (entity_at es x))
        by (Here c is) = ap (entity_in s words x) is ∙ (all.each x c is).state s bytes words holds
        by (Past none nothing) = ap (entity_in s words x) none ∙ ap (λ (o : Option ChosenEntity). entity_of s bytes x (record_in o) (part_in o)) (sym nothing)

    pub state_is : (recs : List Rec) → AreChosen recs es → state_in s words cs ≡ state_of s bytes recs (parts_of es)
    state_is recs chose = λ i x. (entity_is x ∙ ap (λ (o : Option Rec). entity_of s bytes x o (parts_of es x)) (sym (chose x))) i

  pub tables_are : (x page : ℕ) → slice_index (tables_in cs x) page ≡ slice_index (blocks_in (parts_of es x)) page
  tables_are x page = by (find x)
    where
      by : Found x → slice_index (tables_in cs x) page ≡ slice_index (blocks_in (parts_of es x)) page
      by (Here c is) = ap (λ (o : Option Cell). slice_index (blocks_by (memory_at o)) page) is ∙ (all.each x c is).part.table page
      by (Past none nothing) = ap (λ (o : Option Cell). slice_index (blocks_by (memory_at o)) page) none ∙ ap (λ (o : Option ChosenEntity). slice_index (blocks_in (part_in o)) page) (sym nothing)

  pub are_clean : (s : Supply) (words : ℕ → List ℕ) → AreClean s words cs
  are_clean s words x m has = by (find x)
    where
      by : Found x → AreCleanTrue s words m
      by (Here c is) = (all.each x c is).part.clean s words m (sym (ap memory_at is) ∙ has)
      by (Past none nothing) = absurd (let clear : None ≡ Some m = sym (ap memory_at none) ∙ has in no_memory m clear)
        where
          no_memory : (m : PagedMemory) → None ≡ Some m → ⊥
          no_memory m is = cc

  pub have_frames : HaveFrames frames cs
  have_frames x m has = by (find x)
    where
      by : Found x → m.frames ≡ empty_table frames
      by (Here c is) = (all.each x c is).part.room m (sym (ap memory_at is) ∙ has)
      by (Past none nothing) = absurd (let clear : None ≡ Some m = sym (ap memory_at none) ∙ has in no_memory clear)
        where
          no_memory : None ≡ Some m → ⊥
          no_memory is = cc

  pub have_wishes : (s : Supply) (words : ℕ → List ℕ) → HasTableWishes steps (start_run (state_in s words cs)) cs
  have_wishes s words x c is =
      let one : IsChosenCell frames steps x (entity_at es x) c = all.each x c is in
      let version : (state_in s words cs c.clock.entity).version ≡ c.clock.version = ap (λ (y : ℕ). (state_in s words cs y).version) one.number ∙ ap (λ (o : Option Cell). (entity_in s words x o).version) is in
      record {
        newest = version ∙ sym (ap (λ (w : Wish). w.newest) one.wish);
        by_step = sym (ap (λ (w : Wish). w.by_step) one.wish);
        asked = sym (ap (λ (w : Wish). w.asked) one.wish);
        left = (let same : c.left ≡ steps = one.left in from_zero c.left steps same);
      }

  founded : (x : ℕ) (c : Cell) → slice_get cs x ≡ Some c → IsFoundedCell c
  founded x c is = subst (λ (w : Wish). IsFounded w.newest c.clock.version (w.by_step || w.asked)) (sym (all.each x c is).wish)
      (record { past = omega arith; changed = λ noted. absurd (false≢true noted) })

  -- THE LAW of order
  pub orderly : (count : ℕ) (log : ImageLog) (parts : ImageParts) (held : ℕ → Bool) → parts.entities.items ≡ es → IsKnown count log → ArePartsOf log parts → HoldsNamed held (parts_of es)
      → IsOrderly held cs
  orderly count log parts held same known are named =
      let fit : AreFit log.blocks log.recs.items (parts_of es) = subst (λ (l : List (Option ChosenEntity)). AreFit log.blocks log.recs.items (parts_of l)) same are.fit in
      let chose : AreChosen log.recs.items es = subst (AreChosen log.recs.items) same are.chosen in
      let places : length es ≡ 64 = sym (ap length same) ∙ are.places in
      let up : MakeUpState log.blocks log.recs.items (parts_of es) = subst (λ (l : List (Option ChosenEntity)). MakeUpState log.blocks log.recs.items (parts_of l)) same (make_up count log parts known are) in
      record {
        numbers = record { len = all.len ∙ places; each = λ x c is. (all.each x c is).number };
        sound = λ s words.
            let bytes : ℕ → List ℕ = λ n. spread (words n) in
            subst (IsSoundState s) (sym (state_is s bytes words (spread_holds words) log.recs.items chose)) (parts_sound s bytes log.blocks log.recs.items (parts_of es) up);
        founded = founded;
        kinds = λ x c is. (all.each x c is).part.kind;
        own = λ x c is. (all.each x c is).part.own held (held_blocks log.blocks log.recs.items (parts_of es) fit held named x);
        once = λ x y p q some alike. once log.blocks log.recs.items (parts_of es) fit x y p q
            (subst (λ (n : ℕ). n ≢ 0) (tables_are x p) some) (sym (tables_are x p) ∙ (alike ∙ tables_are y q));
        named = λ n is. (let found = named.no_others n is in (found.0, found.1, found.2, tables_are found.0 found.1 ∙ found.3));
      }

  -- what the image means
  pub means : (log : ImageLog) (image : Image) (s : Supply) → AreChosen log.recs.items es → IsAcceptedWith image log.recs.items (parts_of es) → Means s image (state_in s (words_on image) cs)
  means log image s chose accepted = record {
    accepted = accepted.whole;
    is = state_is s (block_at image) (words_on image) (λ n place lt. word_at (block_at image n) place lt) log.recs.items chose
        ∙ (λ i. state_of s (block_at image) (sym accepted.recs_are i) (sym accepted.parts_are i));
  }

  -- WHAT IS UNWRITTEN

  pub unwritten : (count : ℕ) (log : ImageLog) (s : Supply) (words : ℕ → List ℕ) (x : ℕ) → IsKnown count log → AreChosen log.recs.items es
      → (state_in s words cs x).version ≡ 0 → state_in s words cs x ≡ empty_state x
  unwritten count log s words x known chose zero_is = by (entity_at es x) refl
    where
      bytes : ℕ → List ℕ
      bytes = λ n. spread (words n)

      here : (o : Option ChosenEntity) → entity_at es x ≡ o → state_in s words cs x ≡ entity_of s (λ n. spread (words n)) x (record_in o) (part_in o)
      here o is = entity_is s (λ n. spread (words n)) words (spread_holds words) x ∙ ap (λ (p : Option ChosenEntity). entity_of s (λ n. spread (words n)) x (record_in p) (part_in p)) is

      by : (o : Option ChosenEntity) → entity_at es x ≡ o → state_in s words cs x ≡ empty_state x
      by None is = here None is
      by (Some e) is =
          let taken : chosen log.recs.items x ≡ Some e.rec = chose x ∙ ap record_in is in
          let at = slot_of (cut_of log.recs.items) x log.recs.items e.rec taken in
          let low = (known.in_range at.0 e.rec at.1).versions.0 in
          let version : e.rec.version ≡ 0 = sym (ap (λ (f : EntityState). f.version) (here (Some e) is)) ∙ zero_is in
          absurd (omega (arith, low, version))

  pub nothing : (log : ImageLog) (s : Supply) (words : ℕ → List ℕ) → AreChosen log.recs.items es → log.recs.items ≡ [] → state_in s words cs ≡ empty_state
  nothing log s words chose none = λ i x. each x i
    where
      each : (x : ℕ) → state_in s words cs x ≡ empty_state x
      each x =
          entity_is s (λ n. spread (words n)) words (spread_holds words) x
          ∙ ap (λ (p : Option ChosenEntity). entity_of s (λ n. spread (words n)) x (record_in p) (part_in p)) (nobody log.recs.items es chose none x)
