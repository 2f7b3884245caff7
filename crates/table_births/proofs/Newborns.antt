-- The cells that are lent for a birth.
use Rattle.std.proofs.Common.{◌≡◌, ◌≢◌, inl, ℕ, ◌<◌, ◌≤◌, ◌^◌, Bool, true, false, ◌||◌, ◌==◌, List, [], ◌∷◌, ◌++◌, length, get_or, slice_get, slice_set, Some, None, refl, sym, ap, subst, ◌∙◌, arith, ne_eqb}
use Rattle.std.specs.List.{list_any}
use Rattle.base_types.specs.declared.histories.Entry.{Entry}
use Rattle.script_types.specs.model_kernel.Histories.{writes}
use Rattle.script_types.specs.model_kernel.Scripts.{ContainerTable, LocusTable, Script, container_table, locus_table}
use Rattle.script_types.specs.model_kernel.State.{KernelState, Supply, Text}
use Rattle.script_types.specs.Rules.{IsScript}
use Rattle.cell_births.specs.model_births.Fitting.{Fits}
use Rattle.data_atlas.specs.data_atlas_facts.Directory.{Directory}
use Rattle.cell_births.specs.cell_states.declared.cells.Cell.{Cell}
use Rattle.cell_births.specs.cell_states.declared.cells.Part.TheVariants as part
use Rattle.cell_births.specs.cell_states.Cells.{HasCell}
use Rattle.cell_births.specs.cell_wish_laws.Founded.{TakesBirth}
use Rattle.cell_births.specs.cell_newborns.Bearing.{IsNewContainer, IsUnbornContainer}
use Rattle.cell_births.specs.script_fits.NextTables.{IsNextContainer, IsNextLocus}
use Rattle.cell_births.specs.Bearing.{Bears, IsBirthEntry, MayBearContainer, MayBearLocus}
use Rattle.cell_births.proofs.Bearing.{last_three}
use Rattle.table_steps.specs.table_laws.Quiet.{GoesQuietly}
use Rattle.table_steps.specs.table_laws.Steps.{HasDirectory}
use Rattle.table_steps.specs.table_laws.Tables.{AreFewWrites, HasKind, IsOrderly}
use Rattle.table_steps.proofs.table_laws_lemmas.PartKinds.{high_keeps}
use Rattle.table_steps.proofs.table_laws_lemmas.FacingAtlas.{directory_is, newborn_unborn}
use Rattle.table_steps.proofs.table_laws_lemmas.Pairs.{lends_low}
use Rattle.table_steps.proofs.table_laws_lemmas.Places.{read_back, read_first, read_front, read_middle, set_three, set_two, write_three, write_two}
use Rattle.table_steps.proofs.table_laws_lemmas.Triples.{lends_three, made_goes}
use Rattle.table_births.specs.Births.{BearsQuietly, atlas_state_in}
use Rattle.table_births.proofs.LentBirths.{LentBirth, atlas_kind, bears_quietly, written_kind}

-- WHAT A BIRTH DOESN'T WRITE
two_off : (n x : ℕ) → x ≢ 0 → x ≢ n → list_any (λ y. y == x) (0 ∷ n ∷ []) ≡ false
two_off n x zero off = (λ i. ne_eqb 0 x (λ e. zero (sym e)) i || (ne_eqb n x (λ e. off (sym e)) i || false))

three_off : (h n x : ℕ) → x ≢ 0 → x ≢ h → x ≢ n → list_any (λ y. y == x) (0 ∷ h ∷ n ∷ []) ≡ false
three_off h n x zero host off = (λ i. ne_eqb 0 x (λ e. zero (sym e)) i || (ne_eqb h x (λ e. host (sym e)) i || (ne_eqb n x (λ e. off (sym e)) i || false)))

-- THE ATLAS keeps its memory, which is none
atlas_goes : (k k' : Cell) → k'.clock.entity ≡ 0 → HasKind 0 k.part → HasKind 0 k'.part → GoesQuietly k k'
atlas_goes k k' at was is = record {
  kind = subst (λ x. HasKind x k'.part) (sym at) is;
  memory = inl (high_keeps 0 k.part k'.part (λ some low. absurd (omega (arith, some))) was is);
}

-- A CONTAINER'S

-- what the cells of a container's birth are asked
pub record FacesContainer (k b : Cell) (t : ContainerTable) : Type 0 where
  pub may : (d : Directory) × (k.part ≡ part.Atlas d) × MayBearContainer d t b.clock.entity
  pub unborn : IsUnbornContainer b.part
  pub atlas : k.clock.entity ≡ 0
  pub few : (k.clock.version < 2 ^ 63) × (b.clock.version < 2 ^ 63)

-- what it leaves of them
pub record LeavesContainer (t : ContainerTable) (name : Text) (k b k' b' : Cell) (e : Entry) : Type 0 where
  pub birth : (s : Supply) (words : ℕ → List ℕ) (script : Script) (w : KernelState) → container_table script.containers name ≡ Some t → HasCell s words w k → HasCell s words w b
      → Bears s script name w e (λ v. HasCell s words v k' × HasCell s words v b')
  pub entry : IsBirthEntry e b.clock.entity (0 ∷ b.clock.entity ∷ [])
  pub memory : IsNewContainer b'.part
  pub wishes : TakesBirth (writes e k.clock.entity) k k' × TakesBirth (writes e b.clock.entity) b b'

module _ (held : ℕ → Bool) (cs : List Cell) (orderly : IsOrderly held cs) (few : AreFewWrites cs) (t : ContainerTable) (n : ℕ) (d : Directory) (has : HasDirectory cs d) (may : MayBearContainer d t n)
    (front back : List Cell) (x y : Cell) (splits : cs ≡ front ++ back) (len : length front ≡ n) where
  above : 0 < n
  above = omega (arith, may.number)

  within : n < length cs
  within = omega (arith, orderly.numbers.len, may.number, may.free)

  atlas_at : slice_get cs 0 ≡ Some (get_or front 0 x)
  atlas_at = read_front cs front back n 0 x splits len above

  newborn_at : slice_get cs n ≡ Some (get_or back 0 y)
  newborn_at = read_back cs front back n y splits len within

  container_unborn : IsUnbornContainer (get_or back 0 y).part
  container_unborn = newborn_unborn held cs orderly d (get_or back 0 y) has may.free (ap (slice_get cs) (sym may.number) ∙ newborn_at)

  pub faces_container : FacesContainer (get_or front 0 x) (get_or back 0 y) t
  faces_container = record {
    may = (d, directory_is held cs orderly d has (get_or front 0 x) atlas_at, subst (MayBearContainer d t) (sym (orderly.numbers.each n (get_or back 0 y) newborn_at)) may);
    unborn = container_unborn;
    atlas = orderly.numbers.each 0 (get_or front 0 x) atlas_at;
    few = (few 0 (get_or front 0 x) atlas_at, few n (get_or back 0 y) newborn_at);
  }

  pub container_bears : (k' b' : Cell) (e : Entry) → LeavesContainer t t.name (get_or front 0 x) (get_or back 0 y) k' b' e
      → (script : Script) → IsScript script → Fits (atlas_state_in cs) script → IsNextContainer (atlas_state_in cs) script t → BearsQuietly script cs (slice_set front 0 k' ++ slice_set back 0 b') e
  container_bears k' b' e leaves script rules fits next =
      let k = get_or front 0 x in
      let b = get_or back 0 y in
      let cs' = slice_set front 0 k' ++ slice_set back 0 b' in
      let at_k : (get_or front 0 x).clock.entity ≡ 0 = orderly.numbers.each 0 k atlas_at in
      let at_b : (get_or back 0 y).clock.entity ≡ n = orderly.numbers.each n b newborn_at in
      let low : n ≤ 40 = omega (arith, may.number, may.free) in
      let sets = set_two cs cs' 0 n k' b' (write_two cs front back n 0 k' b' splits len above) above within in
      let lends = lends_low cs cs' k b k' b' 0 n sets atlas_at newborn_at at_k at_b leaves.wishes.0.same_entity leaves.wishes.1.same_entity in
      let lent : LentBirth script t.name cs cs' (k ∷ b ∷ []) (k' ∷ b' ∷ []) e = record {
        next = next.next;
        event = leaves.entry.event;
        lends = lends;
        bears = λ s words w all. (let q = leaves.birth s words script w next.found all.0 all.1.0 in (q.0, q.1, q.2, (q.3.0, (q.3.1, tt))));
        takes = (leaves.wishes.0, (leaves.wishes.1, tt));
        apart = λ z apart. leaves.entry.writes z ∙ two_off b.clock.entity z (λ e. apart.0 (e ∙ sym at_k)) apart.1.0;
      } in
      bears_quietly script t.name cs cs' (k ∷ b ∷ []) (k' ∷ b' ∷ []) e lent orderly.numbers rules fits held orderly (
        atlas_goes k k' (lends.numbers.0 ∙ at_k) (orderly.kinds 0 k atlas_at)
            (atlas_kind script t.name cs cs' (k ∷ b ∷ []) (k' ∷ b' ∷ []) e lent orderly.numbers rules fits orderly.sound k' sets.first),
        (made_goes n b b' above low (lends.numbers.1.0 ∙ at_b) container_unborn leaves.memory, tt),
      )

-- A LOCUS'S

pub record FacesLocus (k h b : Cell) (t : LocusTable) : Type 0 where
  pub may : (d : Directory) × (k.part ≡ part.Atlas d) × MayBearLocus d t h.clock.entity b.clock.entity
  pub atlas : k.clock.entity ≡ 0
  pub few : (k.clock.version < 2 ^ 63) × (h.clock.version < 2 ^ 63) × (b.clock.version < 2 ^ 63)

pub record LeavesLocus (t : LocusTable) (name : Text) (k h b k' h' b' : Cell) (e : Entry) : Type 0 where
  pub birth : (s : Supply) (words : ℕ → List ℕ) (script : Script) (w : KernelState) → container_table script.containers name ≡ None → locus_table script.loci name ≡ Some t
      → HasCell s words w k → HasCell s words w h → HasCell s words w b → Bears s script name w e (λ v. HasCell s words v k' × HasCell s words v h' × HasCell s words v b')
  pub entry : IsBirthEntry e b.clock.entity (0 ∷ h.clock.entity ∷ b.clock.entity ∷ [])
  pub host : h'.part ≡ h.part
  pub wishes : TakesBirth (writes e k.clock.entity) k k' × TakesBirth (writes e h.clock.entity) h h' × TakesBirth (writes e b.clock.entity) b b'

-- the host keeps all of its part
host_goes : (x : ℕ) (h h' : Cell) → h'.clock.entity ≡ x → h'.part ≡ h.part → HasKind x h.part → GoesQuietly h h'
host_goes x h h' at same kind = record {
  kind = subst (λ n. HasKind n h'.part) (sym at) (subst (HasKind x) (sym same) kind);
  memory = inl (subst (λ p. Rattle.table_steps.specs.cell_calls.Besides.KeepsMemory h.part p) (sym same) (record { memory = refl; tag = refl; pages = refl }));
}

module _ (held : ℕ → Bool) (cs : List Cell) (orderly : IsOrderly held cs) (few : AreFewWrites cs) (t : LocusTable) (m n : ℕ) (d : Directory) (has : HasDirectory cs d) (may : MayBearLocus d t m n)
    (front back first rest : List Cell) (x y z : Cell) (splits : cs ≡ front ++ back) (len : length front ≡ n) (parts : front ≡ first ++ rest) (low : length first ≡ m) where
  inside : n < length cs
  inside = omega (arith, orderly.numbers.len, may.number, may.free)

  atlas_first : slice_get cs 0 ≡ Some (get_or first 0 x)
  atlas_first = read_first cs front back first rest n m 0 x splits len parts low may.above may.below

  host_middle : slice_get cs m ≡ Some (get_or rest 0 y)
  host_middle = read_middle cs front back first rest n m y splits len parts low may.below

  newborn_last : slice_get cs n ≡ Some (get_or back 0 z)
  newborn_last = read_back cs front back n z splits len inside

  pub faces_locus : FacesLocus (get_or first 0 x) (get_or rest 0 y) (get_or back 0 z) t
  faces_locus = record {
    may = (
      d,
      directory_is held cs orderly d has (get_or first 0 x) atlas_first,
      subst (λ h. MayBearLocus d t h (get_or back 0 z).clock.entity) (sym (orderly.numbers.each m (get_or rest 0 y) host_middle))
          (subst (MayBearLocus d t m) (sym (orderly.numbers.each n (get_or back 0 z) newborn_last)) may),
    );
    atlas = orderly.numbers.each 0 (get_or first 0 x) atlas_first;
    few = (few 0 (get_or first 0 x) atlas_first, few m (get_or rest 0 y) host_middle, few n (get_or back 0 z) newborn_last);
  }

  pub locus_bears : (k' h' b' : Cell) (e : Entry) → LeavesLocus t t.name (get_or first 0 x) (get_or rest 0 y) (get_or back 0 z) k' h' b' e
      → (script : Script) → IsScript script → Fits (atlas_state_in cs) script → IsNextLocus (atlas_state_in cs) script t → BearsQuietly script cs ((slice_set first 0 k' ++ slice_set rest 0 h') ++ slice_set back 0 b') e
  locus_bears k' h' b' e leaves script rules fits next =
      let k = get_or first 0 x in
      let h = get_or rest 0 y in
      let b = get_or back 0 z in
      let cs' = (slice_set first 0 k' ++ slice_set rest 0 h') ++ slice_set back 0 b' in
      let at_k : (get_or first 0 x).clock.entity ≡ 0 = orderly.numbers.each 0 k atlas_first in
      let at_h : (get_or rest 0 y).clock.entity ≡ m = orderly.numbers.each m h host_middle in
      let at_b : (get_or back 0 z).clock.entity ≡ n = orderly.numbers.each n b newborn_last in
      let number = may.number in
      let sets = set_three cs cs' 0 m n k' h' b' (write_three cs front back first rest n m 0 k' h' b' splits len parts low may.above may.below) may.above may.below inside in
      let lends = lends_three held cs cs' k h b k' h' b' 0 m n orderly (record {
        len = sets.len;
        was_a = atlas_first;
        was_k = host_middle;
        was_b = newborn_last;
        is_a = sets.first;
        is_k = sets.second;
        is_b = sets.third;
        others = sets.others;
      }) leaves.wishes.0.same_entity leaves.wishes.1.same_entity leaves.wishes.2.same_entity in
      let lent : LentBirth script t.name cs cs' (k ∷ h ∷ b ∷ []) (k' ∷ h' ∷ b' ∷ []) e = record {
        next = next.next;
        event = leaves.entry.event;
        lends = lends;
        bears = λ s words w all. (let q = leaves.birth s words script w next.absent next.found all.0 all.1.0 all.1.1.0 in (q.0, q.1, q.2, (q.3.0, (q.3.1, (q.3.2, tt)))));
        takes = (leaves.wishes.0, (leaves.wishes.1, (leaves.wishes.2, tt)));
        apart = λ q apart. leaves.entry.writes q ∙ three_off h.clock.entity b.clock.entity q (λ e. apart.0 (e ∙ sym at_k)) apart.1.0 apart.1.1.0;
      } in
      let wrote : writes e n ≡ true = ap (writes e) (sym at_b) ∙ leaves.entry.writes b.clock.entity ∙ last_three h.clock.entity b.clock.entity in
      let kind : HasKind n b'.part =
      written_kind script t.name cs cs' (k ∷ h ∷ b ∷ []) (k' ∷ h' ∷ b' ∷ []) e lent orderly.numbers rules fits orderly.sound n b b' newborn_last sets.third (omega (arith, number)) wrote in
      bears_quietly script t.name cs cs' (k ∷ h ∷ b ∷ []) (k' ∷ h' ∷ b' ∷ []) e lent orderly.numbers rules fits held orderly (
        atlas_goes k k' (lends.numbers.0 ∙ at_k) (orderly.kinds 0 k atlas_first)
            (atlas_kind script t.name cs cs' (k ∷ h ∷ b ∷ []) (k' ∷ h' ∷ b' ∷ []) e lent orderly.numbers rules fits orderly.sound k' sets.first),
        (
          host_goes m h h' (lends.numbers.1.0 ∙ at_h) leaves.host (orderly.kinds m h host_middle),
          (
            record {
              kind = subst (λ q. HasKind q b'.part) (sym (lends.numbers.1.1.0 ∙ at_b)) kind;
              memory = inl (high_keeps n b.part b'.part (λ some few. absurd (omega (arith, number, few))) (orderly.kinds n b newborn_last) kind);
            },
            tt,
          ),
        ),
      )
