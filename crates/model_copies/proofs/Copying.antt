-- A sound state with a copy is sound, and what the copy leaves.
use Rattle.std.proofs.Common.{◌≡◌, ◌≢◌, ℕ, ◌+◌, ◌<◌, ◌≤◌, Bool, true, false, ◌&&◌, ◌||◌, ◌==◌, nat_lt, nat_le, if◌then◌else◌, IsTrue, List, [], ◌∷◌, ◌++◌, length, Option, Some, None, is_none, refl, sym, ap, subst, ◌∙◌, arith, eqb-true, eq-eqb}
use Rattle.std.specs.List.{All}
use Rattle.std.proofs.lemmas.Bool.Decides.{nat_tests}
use Rattle.std.proofs.lemmas.List.Elements.{All-weaker}
use Rattle.base_types.specs.declared.capabilities.Region.{Region}
use Rattle.base_types.specs.declared.histories.Entry.{Entry}
use Rattle.base_types.specs.declared.histories.Event.TheVariants.{Birth}
use Rattle.model_sound_states.specs.model_kernel.Births.{with_container_name}
use Rattle.model_sound_states.specs.model_kernel.Changes.{Access, Change, accessed, access_at, carried, changed, joined, ordered, touches_of}
use Rattle.model_sound_states.specs.model_kernel.LocalEvents.{IsLocal}
use Rattle.model_sound_states.specs.model_kernel.Outcomes.{free_container}
use Rattle.model_sound_states.specs.model_kernel.Scripts.{container_named, number_of}
use Rattle.model_sound_states.specs.model_kernel.Soundness.{AreSound, IsSoundContainer, IsSoundRegion, is_born, is_born_container, is_given_name}
use Rattle.model_sound_states.specs.model_kernel.State.{AtlasCell, AtlasState, Cell, ContainerCell, ContainerState, EntityState, KernelState, LocusCell, NotBorn, Supply, Text}
use Rattle.model_sound_states.specs.model_kernel.Steps.{atlas_in}
use Rattle.model_sound_states.proofs.model_kernel_lemmas.Basics.{and_left, and_right, some_of_map}
use Rattle.model_sound_states.proofs.model_kernel_lemmas.Carried.{AgreeAccesses, IsOfTouched, Writes, acts_local, acts_stamped}
use Rattle.model_sound_states.proofs.model_kernel_lemmas.Writes.{changed_cell}
use Rattle.model_sound_states.proofs.model_sound_steps_lemmas.Growth.{wider_container_state}
use Rattle.model_sound_states.proofs.model_sound_steps_lemmas.RegionLists.{shown}
use Rattle.model_sound_states.proofs.model_sound_runs_lemmas.Births.{free_container_number}
use Rattle.model_sound_states.proofs.model_sound_runs_lemmas.Grown.{Joins, sound_with_container, with_container}
use Rattle.model_sound_states.proofs.model_sound_runs_lemmas.Tables.{container_named_born, sound_caps}
use Rattle.model_sound_states.specs.States.{IsSoundState}
use Rattle.model_sound_states.proofs.Cells.{AreGood}
use Rattle.model_sound_states.proofs.Stamps.{event_below, event_own}
use Rattle.model_sound_states.proofs.States.{event_born, event_words}
use Rattle.model_copies.specs.Copies.{IsCopied, copied_atlas, copied_container, copy_change, copy_in, copy_named, copy_numbered, copy_of, copying}
use Rattle.model_copies.specs.Needing.{LeavesCopy, NeedEachOther, commit_in}
use Rattle.model_copies.proofs.Edges.{containers_with, edges_with, loci_with}

-- WHERE A COPY IS MADE, in any state

record IsMade (name fresh : Text) (w : KernelState) (a : AtlasState) (c : ℕ × Change) : Type 0 where
  source : ℕ
  number : ℕ
  container : ContainerState
  tests : (is_given_name fresh && is_none (number_of a fresh)) ≡ true
  named : container_named a name ≡ Some source
  free : free_container a ≡ Some number
  there : (w source).cell ≡ ContainerCell container
  is : (number, copy_of a source fresh number container) ≡ c

made_in : (name fresh : Text) (w : KernelState) (a : AtlasState) (c : ℕ × Change) (tests : (is_given_name fresh && is_none (number_of a fresh)) ≡ true) (source number : ℕ) → container_named a name ≡ Some source → free_container a ≡ Some number
    → (cell : Cell) → (w source).cell ≡ cell → copy_in a source fresh number cell ≡ Some c → IsMade name fresh w a c
made_in name fresh w a c tests source number named free (ContainerCell k) at e = record { source = source; number = number; container = k; tests = tests; named = named; free = free; there = at; is = cc }
made_in name fresh w a c tests source number named free NotBorn at e = cc
made_in name fresh w a c tests source number named free (AtlasCell b) at e = cc
made_in name fresh w a c tests source number named free (LocusCell l) at e = cc

made_numbered : (name fresh : Text) (w : KernelState) (a : AtlasState) (c : ℕ × Change) (tests : (is_given_name fresh && is_none (number_of a fresh)) ≡ true) (o n : Option ℕ) → container_named a name ≡ o → free_container a ≡ n
    → copy_numbered w a fresh o n ≡ Some c → IsMade name fresh w a c
made_numbered name fresh w a c tests None n named free e = cc
made_numbered name fresh w a c tests (Some source) None named free e = cc
made_numbered name fresh w a c tests (Some source) (Some n) named free e = made_in name fresh w a c tests source n named free (w source).cell refl e

made_by : (name fresh : Text) (w : KernelState) (a : AtlasState) (c : ℕ × Change) → copy_named name fresh w a ≡ Some c → IsMade name fresh w a c
made_by name fresh w a c e = by_test (is_given_name fresh && is_none (number_of a fresh)) refl e
  where
    by_test : (t : Bool) → (is_given_name fresh && is_none (number_of a fresh)) ≡ t → (if t then copy_numbered w a fresh (container_named a name) (free_container a) else None) ≡ Some c → IsMade name fresh w a c
    by_test true tests e = made_numbered name fresh w a c tests (container_named a name) (free_container a) refl refl e
    by_test false tests e = cc

-- A COPYING IS LOCAL: it depends on what it touches

pub again : (name fresh : Text) (v : KernelState) (a : AtlasState) (source number : ℕ) (k : ContainerState) → (is_given_name fresh && is_none (number_of a fresh)) ≡ true → container_named a name ≡ Some source → free_container a ≡ Some number
    → (v source).cell ≡ ContainerCell k → copy_named name fresh v a ≡ Some (number, copy_of a source fresh number k)
again name fresh v a source number k tests named free there =
    ap (λ (t : Bool). if t then copy_numbered v a fresh (container_named a name) (free_container a) else None) tests
    ∙ (ap (λ (o : Option ℕ). copy_numbered v a fresh o (free_container a)) named
    ∙ (ap (λ (o : Option ℕ). copy_numbered v a fresh (Some source) o) free
    ∙ ap (copy_in a source fresh number) there))

copy_of_touched : (name fresh : Text) → IsOfTouched (copy_change name fresh)
unfolding copy_change
copy_of_touched name fresh w v c is h =
    let m = made_by name fresh w (atlas_in (w 0).cell) c is in
    let agree : AgreeAccesses w v (copy_of (atlas_in (w 0).cell) m.source fresh m.number m.container).accesses = subst (λ (d : ℕ × Change). AgreeAccesses w v d.1.accesses) (sym m.is) h in
    let there : (v m.source).cell ≡ ContainerCell m.container = ap (λ (e : EntityState). e.cell) (sym agree.1.0) ∙ m.there in
    let same : copy_named name fresh v (atlas_in (w 0).cell) ≡ Some c = again name fresh v (atlas_in (w 0).cell) m.source m.number m.container m.tests m.named m.free there ∙ ap Some m.is in
    subst (λ (e : EntityState). copy_named name fresh v (atlas_in e.cell) ≡ Some c) agree.0 same

copy_writes : (name fresh : Text) → Writes (copy_change name fresh)
unfolding copy_change
copy_writes name fresh w c is = (let m = made_by name fresh w (atlas_in (w 0).cell) c is in subst (λ (d : ℕ × Change). Rattle.model_sound_states.proofs.model_kernel_lemmas.Carried.some_write d.1.accesses ≡ true) m.is refl)

pub copying_local : (name fresh : Text) → IsLocal (λ (b : EntityState). b.version) (copying name fresh)
copying_local name fresh = acts_local Birth (copy_change name fresh) (copy_of_touched name fresh) (copy_writes name fresh)

-- NUMBERS

source_low : (a : AtlasState) (x : ℕ) → IsTrue (is_born_container a x) → (0 < x) × (x ≤ length a.containers)
source_low a x born = ((let lt : 0 < x = grind (arith, nat_tests) in lt), (let le : x ≤ length a.containers = grind (arith, nat_tests) in le))

none_is : (o : Option ℕ) → is_none o ≡ true → o ≡ None
none_is None h = refl
none_is (Some n) h = cc

off : (a b : ℕ) → a ≢ b → (a == b) ≡ false
off a b h = grind (arith, nat_tests)

on : (a : ℕ) → (a == a) ≡ true
on a = eq-eqb a a refl

-- the atlas is written first, and the copy last
swap : (n m x : ℕ) (atlas copy was : Cell) → 0 ≢ n → (if n == x then copy else if m == x then (if 0 == x then atlas else was) else (if 0 == x then atlas else was)) ≡ (if 0 == x then atlas else if n == x then copy else was)
swap n m x atlas copy was apart =
    elim (n == x) as (λ t. (n == x) ≡ t → (if t then copy else if m == x then (if 0 == x then atlas else was) else (if 0 == x then atlas else was)) ≡ (if 0 == x then atlas else if t then copy else was)) [
      | true ↦ λ is. (let no : (0 == x) ≡ false = subst (λ y. (0 == y) ≡ false) (eqb-true n x is) (off 0 n apart) in rw no refl)
      | false ↦ λ is. elim (m == x) as (λ t. (if t then (if 0 == x then atlas else was) else (if 0 == x then atlas else was)) ≡ (if 0 == x then atlas else was)) [ true ↦ refl | false ↦ refl ]
    ] refl

-- THE STATE WITH A COPY

module _ (s : Supply) (name fresh : Text) (v w : KernelState) (k : IsSoundState s v) (h : IsCopied name fresh v w) where
  a : AtlasState
  a = k.sound.0

  change : (c : ℕ × Change) × (copy_change name fresh v ≡ Some c) × (carried v Birth c.0 c.1 ≡ (h.entry, w))
  change = some_of_map (λ (c : ℕ × Change). carried v Birth c.0 c.1) (copy_change name fresh v) (h.entry, w) h.is

  made : IsMade name fresh v a change.0
  unfolding copy_change a
  made = made_by name fresh v k.sound.0 change.0 (subst (λ (b : AtlasState). copy_named name fresh v b ≡ Some change.0) (ap atlas_in k.sound.1.atlas) change.1)

  source : ℕ
  source = made.source

  number : ℕ
  number = made.number

  container : ContainerState
  container = made.container

  accesses : List Access
  unfolding a
  accesses = (copy_of a source fresh number container).accesses

  state : changed v (ordered accesses) ≡ w
  unfolding accesses a source number container
  state = ap (λ (c : ℕ × Change). changed v (ordered c.1.accesses)) made.is ∙ ap (λ (r : Entry × KernelState). r.1) change.2

  at : (number ≡ length a.containers + 1) × (number ≤ 40)
  unfolding number a
  at = free_container_number a number made.free

  born : IsTrue (is_born_container a source)
  unfolding source a
  born = container_named_born a name source made.named

  low : (0 < source) × (source ≤ length a.containers)
  unfolding source a
  low = source_low a source born

  given : IsTrue (is_given_name fresh)
  unfolding a
  given = and_left (is_given_name fresh) (is_none (number_of a fresh)) made.tests

  none : number_of a fresh ≡ None
  unfolding a
  none = none_is (number_of a fresh) (and_right (is_given_name fresh) (is_none (number_of a fresh)) made.tests)

  sound_source : IsSoundContainer a container
  unfolding a source container
  sound_source =
      let d = k.sound.1.containers made.source born in
      let same : d.0 ≡ made.container = same_container d.0 made.container (sym d.1 ∙ made.there) in
      subst (IsSoundContainer k.sound.0) same d.2
    where
      same_container : (c d : ContainerState) → ContainerCell c ≡ ContainerCell d → c ≡ d
      same_container c d e = cc

  -- CELLS
  b : AtlasState
  unfolding a number container
  b = copied_atlas a fresh number container.regions

  old : ℕ → Cell
  old x = (v x).cell

  new : ℕ → Cell
  new x = (w x).cell

  some_number : 0 ≢ number
  some_number e = (let is = at.0 in omega (arith, is, e))

  joins : Joins (AtlasCell b) number (ContainerCell (copied_container container)) old new
  unfolding old new b accesses source
  joins x =
      let here : (w x).cell ≡ (if number == x then ContainerCell (copied_container container) else if source == x then (if 0 == x then AtlasCell b else (v x).cell) else (if 0 == x then AtlasCell b else (v x).cell)) =
      ap (λ (u : KernelState). (u x).cell) (sym state) ∙ changed_cell v accesses x in
      here ∙ swap number source x (AtlasCell b) (ContainerCell (copied_container container)) (v x).cell some_number

  names : b.containers ≡ a.containers ++ fresh ∷ []
  unfolding b
  names = containers_with number container.regions (with_container_name a fresh)

  loci : b.loci ≡ a.loci
  unfolding b
  loci = loci_with number container.regions (with_container_name a fresh)

  edges : (x y : ℕ) → b.edges x y ≡ a.edges x y + (if x == number then shown container.regions y else 0)
  unfolding b
  edges x y = edges_with number container.regions (with_container_name a fresh) x y

  targets : All (λ (r : Region). IsTrue (is_born_container a r.target)) container.regions
  targets = All-weaker (IsSoundRegion a) (λ (r : Region). IsTrue (is_born_container a r.target)) (λ r q. q.target) container.regions sound_source.regions

  was_sound : AreSound a old
  unfolding a old
  was_sound = k.sound.1

  -- THE COPY IS SOUND in the atlas with it
  sound_copy : IsSoundContainer b (copied_container container)
  sound_copy =
      let wide = with_container a b old new number fresh (copied_container container) was_sound joins names loci edges at.0 at.1 given none targets in
      let c = wider_container_state a b container wide sound_source in
      record {
        some = c.some;
        size = c.size;
        entry = c.entry;
        code = c.code;
        few = c.few;
        regions = c.regions;
        inside = c.inside;
        apart = c.apart;
        caps = sound_caps b (λ _. None) (λ name. refl) [];
      }

  cells : AreSound b new
  cells = sound_with_container a b old new number fresh (copied_container container) was_sound joins names loci edges at.0 at.1 given none targets sound_copy

  -- VERSIONS, CLOCKS AND WORDS
  good : AreGood s accesses
  unfolding accesses source container made
  good = (tt, (tt, (k.words made.source made.container made.there, tt)))

  pub sound : IsSoundState s w
  unfolding b new
  sound = record {
    sound = (b, cells);
    born = event_born s v k accesses good w state;
    own = event_own (copying name fresh) (copying_local name fresh) (acts_stamped Birth (copy_change name fresh)) v (h.entry, w) h.is k.below k.own;
    below = event_below (copying name fresh) (copying_local name fresh) (acts_stamped Birth (copy_change name fresh)) v (h.entry, w) h.is k.below;
    words = event_words s v k accesses good w state;
  }

  -- WHAT THE COPY LEAVES
  ordered_is : ordered accesses ≡ accesses
  unfolding accesses
  ordered_is =
      let is = at.0 in
      let few = low.1 in
      let one : nat_lt source number ≡ true = before source number (omega (arith, is, few)) in
      let two : nat_lt 0 source ≡ true = before 0 source low.0 in
      rw (one, two) refl
    where
      before : (m n : ℕ) → m < n → nat_lt m n ≡ true
      before m n lt = grind (arith, nat_tests)

  clock : ℕ → ℕ
  clock = joined v (touches_of v accesses)

  each : (x : ℕ) → w x ≡ accessed (v x) clock (access_at accesses x)
  unfolding clock changed
  each x = ap (λ (u : KernelState). u x) (sym state) ∙ ap (λ (ms : List Access). accessed (v x) (joined v (touches_of v ms)) (access_at ms x)) ordered_is

  source_apart : source ≢ number
  source_apart e = (let is = at.0 in let few = low.1 in omega (arith, is, few, e))

  at_copy : w number ≡ record { cell = ContainerCell (copied_container container); version = (v number).version + 1; stamp = clock }
  unfolding accesses
  at_copy =
      let one : (0 == number) ≡ false = off 0 number some_number in
      let two : (source == number) ≡ false = off source number source_apart in
      let three : (number == number) ≡ true = on number in
      each number ∙ rw (one, two, three) refl

  at_atlas : w 0 ≡ record { cell = AtlasCell b; version = (v 0).version + 1; stamp = clock }
  unfolding accesses b
  at_atlas = each 0

  at_other : (x : ℕ) → 0 ≢ x → number ≢ x → w x ≡ v x
  unfolding accesses
  at_other x one two =
      let first : (0 == x) ≡ false = off 0 x one in
      let last : (number == x) ≡ false = off number x two in
      each x ∙ rw (first, last) (elim (source == x) as (λ t. accessed (v x) clock (if t then Some (record { entity = source; new = None }) else None) ≡ v x) [ true ↦ refl | false ↦ refl ])

  was_unborn : (v number).version ≡ 0
  unfolding a
  was_unborn =
      let is = at.0 in
      let few = at.1 in
      let out : is_born a number ≡ false = outside (length a.containers) (length a.loci) number is few in
      (k.born number (omega (arith, is))).0 (k.sound.1.others number out)
    where
      outside : (m l n : ℕ) → n ≡ m + 1 → n ≤ 40 → (n == 0 || (nat_lt 0 n && nat_le n m) || (nat_lt 40 n && nat_le n (40 + l))) ≡ false
      outside m l n is few =
          let one : (n == 0) ≡ false = grind (arith, nat_tests) in
          let two : nat_le n m ≡ false = grind (arith, nat_tests) in
          let three : nat_lt 40 n ≡ false = grind (arith, nat_tests) in
          rw (one, two, three) (elim (nat_lt 0 n) as (λ t. (t && false || false && nat_le n (40 + l)) ≡ false) [ true ↦ refl | false ↦ refl ])

  pub leaves : LeavesCopy name fresh v w
  unfolding a b source number container made
  leaves =
      let one : (w number).version ≡ 1 = ap (λ (e : EntityState). e.version) at_copy ∙ ap (λ n. n + 1) was_unborn in
      let same : (y : ℕ) → (w number).stamp y ≡ (w 0).stamp y = λ y. ap (λ (e : EntityState). e.stamp y) at_copy ∙ sym (ap (λ (e : EntityState). e.stamp y) at_atlas) in
      record {
        atlas = k.sound.0;
        was_atlas = k.sound.1.atlas;
        source = source;
        named = made.named;
        container = container;
        was_container = made.there;
        number = number;
        free = made.free;
        apart = some_number;
        new_atlas = ap (λ (e : EntityState). e.cell) at_atlas;
        atlas_version = ap (λ (e : EntityState). e.version) at_atlas;
        copy = ap (λ (e : EntityState). e.cell) at_copy;
        unborn = was_unborn;
        copy_version = one;
        others = at_other;
        same_clock = same;
        atlas_needs = sym (same number) ∙ (sound.own number ∙ one);
        copy_needs = same 0 ∙ (sound.own 0 ∙ ap (λ (e : EntityState). e.version) at_atlas);
      }

  pub need : (l : LeavesCopy name fresh v w) → NeedEachOther (λ x. (v x).version) (λ x. (w x).version) (commit_in w 0) (commit_in w l.number)
  need l = record {
    apart = l.apart;
    first = (let e = l.atlas_version in omega (arith, e));
    second = (let e = l.unborn in omega (arith, e));
    first_needs = (let e = l.unborn in let n = l.atlas_needs in omega (arith, e, n));
    second_needs = (let n = l.copy_needs in omega (arith, n));
    at_first = refl;
    at_second = refl;
    others = λ x one two. ap (λ (e : EntityState). e.version) (l.others x one two);
    first_below = sound.below 0;
    second_below = sound.below l.number;
  }
