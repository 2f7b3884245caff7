-- Clocks after a change.
use Rattle.std.proofs.Common.{◌≡◌, ℕ, ◌+◌, ◌<◌, true, false, if◌then◌else◌, ◌==◌, max, List, [], ◌∷◌, Some, None, refl, sym, ap, ◌∙◌, arith, eq-eqb}
use Rattle.std.proofs.lemmas.Bool.Decides.{nat_tests}
use Rattle.base_types.specs.declared.histories.Answer.{Answer}
use Rattle.base_types.specs.declared.histories.Entry.{Entry}
use Rattle.base_types.specs.declared.histories.Event.{Event}
use Rattle.base_types.specs.declared.histories.Touch.{Touch}
use Rattle.model_kernel.specs.Changes.{Access, access_at, accessed, changed, joined, touches_of, written}
use Rattle.model_kernel.specs.State.{Cell, EntityState, KernelState}
use Rattle.data_stamps.specs.Stamps.{component}
use Rattle.cell_clocks.specs.declared.Clock.{Clock}
use Rattle.cell_clocks.specs.Clocks.{HasClock, writing, reading, CarriesOne, CarriesTwo, CarriesThree}

-- WHICH ACCESS IS MET FIRST

pub access_first : (a : Access) (rest : List Access) → access_at (a ∷ rest) a.entity ≡ Some a
access_first a rest = rw (eq-eqb a.entity a.entity refl) refl

far : (x y : ℕ) → x < y → (x == y) ≡ false
far x y lt = grind (arith, nat_tests)

pub access_second : (a b : Access) (rest : List Access) → a.entity < b.entity → access_at (a ∷ b ∷ rest) b.entity ≡ Some b
access_second a b rest lt = rw (far a.entity b.entity lt) (access_first b rest)

pub access_third : (a b c : Access) (rest : List Access) → a.entity < b.entity → b.entity < c.entity → access_at (a ∷ b ∷ c ∷ rest) c.entity ≡ Some c
access_third a b c rest lt more = let low : a.entity < c.entity = omega arith in rw (far a.entity c.entity low) (access_second b c rest more)

-- WHAT IT LEAVES

pub written_at : (w : KernelState) (accesses : List Access) (x : ℕ) (a : Access) (k : Cell) → access_at accesses x ≡ Some a → a.new ≡ Some k
    → changed w accesses x ≡ record { cell = k; version = (w x).version + 1; stamp = joined w (touches_of w accesses) }
unfolding changed
written_at w accesses x a k at new =
    ap (accessed (w x) (joined w (touches_of w accesses))) at ∙ ap (written (w x) (joined w (touches_of w accesses))) new

pub read_at : (w : KernelState) (accesses : List Access) (x : ℕ) (a : Access) → access_at accesses x ≡ Some a → a.new ≡ None → changed w accesses x ≡ w x
unfolding changed
read_at w accesses x a at new =
    ap (accessed (w x) (joined w (touches_of w accesses))) at ∙ ap (written (w x) (joined w (touches_of w accesses))) new

-- the clock of a written entity
pub written_clock : (w : KernelState) (accesses : List Access) (old new : Clock) (a : Access) (k : Cell) → HasClock w old → access_at accesses old.entity ≡ Some a → a.new ≡ Some k
    → new.entity ≡ old.entity → new.version ≡ old.version + 1 → ((y : ℕ) → component new.stamp y ≡ joined w (touches_of w accesses) y) → HasClock (changed w accesses) new
written_clock w accesses old new a k has at is same version stamp =
    let there : changed w accesses new.entity ≡ record { cell = k; version = (w old.entity).version + 1; stamp = joined w (touches_of w accesses) } =
    ap (changed w accesses) same ∙ written_at w accesses old.entity a k at is in
    record {
      version = ap (λ (e : EntityState). e.version) there ∙ ap (λ n. n + 1) has.version ∙ sym version;
      stamp = λ y. ap (λ (e : EntityState). e.stamp y) there ∙ sym (stamp y);
    }

-- the clock of an entity that is read
pub read_clock : (w : KernelState) (accesses : List Access) (c : Clock) (a : Access) → HasClock w c → access_at accesses c.entity ≡ Some a → a.new ≡ None → HasClock (changed w accesses) c
read_clock w accesses c a has at is =
    let there : changed w accesses c.entity ≡ w c.entity = read_at w accesses c.entity a at is in
    record {
      version = ap (λ (e : EntityState). e.version) there ∙ has.version;
      stamp = λ y. ap (λ (e : EntityState). e.stamp y) there ∙ has.stamp y;
    }

-- ENTRIES AND CLOCKS

abbrev pub write_touch : Clock → Touch
write_touch c = record { version = c.version + 1; entity = c.entity; wrote = true }

abbrev pub read_touch : Clock → Touch
read_touch c = record { version = c.version; entity = c.entity; wrote = false }

joins_one : (a ra : ℕ) → max a ra ≡ max (max a ra) 0
joins_one a ra = omega arith

joins_two : (a b ra rb : ℕ) → max (max (max a b) ra) rb ≡ max (max a ra) (max (max b rb) 0)
joins_two a b ra rb = omega arith

joins_other : (a b ra rb : ℕ) → max (max (max b a) ra) rb ≡ max (max a ra) (max (max b rb) 0)
joins_other a b ra rb = omega arith

joined_more : (p q c rc : ℕ) → max (max (max p (max q 0)) c) rc ≡ max p (max q (max (max c rc) 0))
joined_more p q c rc = omega arith

joins_three : (a b c ra rb rc : ℕ) → max (max (max (max (max a b) ra) rb) c) rc ≡ max (max a ra) (max (max b rb) (max (max c rc) 0))
joins_three a b c ra rb rc = ap (λ n. max (max n c) rc) (joins_two a b ra rb) ∙ joined_more (max a ra) (max b rb) c rc

module _ (event : Event) (actor : ℕ) (answer : Answer) (w : KernelState) where
  pub carries_one : (a a' : Clock) (e : Entry) (j : Cell) → HasClock w a → a'.entity ≡ a.entity → a'.version ≡ a.version + 1
      → ((y : ℕ) → component a'.stamp y ≡ max (component a.stamp y) (if a.entity == y then a.version + 1 else 0))
      → e ≡ record { event = event; actor = actor; touched = write_touch a ∷ []; version = 0; answer = answer }
      → CarriesOne event actor answer w (writing a.entity j ∷ []) e a'
  carries_one a a' e j has same version stamp entry =
      let accesses : List Access = writing a.entity j ∷ [] in
      record {
        entry = entry ∙ (λ i. record { event = event; actor = actor; touched = record { version = sym has.version i + 1; entity = a.entity; wrote = true } ∷ []; version = 0; answer = answer });
        first = written_clock w accesses a a' (writing a.entity j) j has (access_first (writing a.entity j) []) refl same version
            (λ y. stamp y ∙ joins_one (component a.stamp y) (if a.entity == y then a.version + 1 else 0)
            ∙ (λ i. max (max (sym (has.stamp y) i) (if a.entity == y then sym has.version i + 1 else 0)) 0));
      }

  -- two that are written
  pub carries_two : (a b a' b' : Clock) (e : Entry) (j k : Cell) → HasClock w a → HasClock w b → a.entity < b.entity
      → a'.entity ≡ a.entity → b'.entity ≡ b.entity → a'.version ≡ a.version + 1 → b'.version ≡ b.version + 1
      → ((y : ℕ) → component a'.stamp y ≡ max (max (max (component a.stamp y) (component b.stamp y)) (if a.entity == y then a.version + 1 else 0)) (if b.entity == y then b.version + 1 else 0))
      → b'.stamp ≡ a'.stamp
      → e ≡ record { event = event; actor = actor; touched = write_touch a ∷ write_touch b ∷ []; version = 0; answer = answer }
      → CarriesTwo event actor answer w (writing a.entity j ∷ writing b.entity k ∷ []) e a' b'
  carries_two a b a' b' e j k hasa hasb lt samea sameb versiona versionb stamp both entry =
      let accesses : List Access = writing a.entity j ∷ writing b.entity k ∷ [] in
      let stamps : (y : ℕ) → component a'.stamp y ≡ joined w (touches_of w accesses) y =
      λ y. stamp y ∙ joins_two (component a.stamp y) (component b.stamp y) (if a.entity == y then a.version + 1 else 0) (if b.entity == y then b.version + 1 else 0)
      ∙ (λ i. max (max (sym (hasa.stamp y) i) (if a.entity == y then sym hasa.version i + 1 else 0)) (max (max (sym (hasb.stamp y) i) (if b.entity == y then sym hasb.version i + 1 else 0)) 0)) in
      record {
        entry = entry ∙ (λ i. record { event = event; actor = actor; touched = record { version = sym hasa.version i + 1; entity = a.entity; wrote = true } ∷ record { version = sym hasb.version i + 1; entity = b.entity; wrote = true } ∷ []; version = 0; answer = answer });
        first = written_clock w accesses a a' (writing a.entity j) j hasa (access_first (writing a.entity j) (writing b.entity k ∷ [])) refl samea versiona stamps;
        second = written_clock w accesses b b' (writing b.entity k) k hasb (access_second (writing a.entity j) (writing b.entity k) [] lt) refl sameb versionb (λ y. ap (λ s. component s y) both ∙ stamps y);
      }

  -- one that is read, and one that is written
  pub carries_read : (a b b' : Clock) (e : Entry) (k : Cell) → HasClock w a → HasClock w b → a.entity < b.entity
      → b'.entity ≡ b.entity → b'.version ≡ b.version + 1
      → ((y : ℕ) → component b'.stamp y ≡ max (max (max (component b.stamp y) (component a.stamp y)) (if a.entity == y then a.version else 0)) (if b.entity == y then b.version + 1 else 0))
      → e ≡ record { event = event; actor = actor; touched = read_touch a ∷ write_touch b ∷ []; version = 0; answer = answer }
      → CarriesTwo event actor answer w (reading a.entity ∷ writing b.entity k ∷ []) e a b'
  carries_read a b b' e k hasa hasb lt sameb versionb stamp entry =
      let accesses : List Access = reading a.entity ∷ writing b.entity k ∷ [] in
      let stamps : (y : ℕ) → component b'.stamp y ≡ joined w (touches_of w accesses) y =
      λ y. stamp y ∙ joins_other (component a.stamp y) (component b.stamp y) (if a.entity == y then a.version else 0) (if b.entity == y then b.version + 1 else 0)
      ∙ (λ i. max (max (sym (hasa.stamp y) i) (if a.entity == y then sym hasa.version i else 0)) (max (max (sym (hasb.stamp y) i) (if b.entity == y then sym hasb.version i + 1 else 0)) 0)) in
      record {
        entry = entry ∙ (λ i. record { event = event; actor = actor; touched = record { version = sym hasa.version i; entity = a.entity; wrote = false } ∷ record { version = sym hasb.version i + 1; entity = b.entity; wrote = true } ∷ []; version = 0; answer = answer });
        first = read_clock w accesses a (reading a.entity) hasa (access_first (reading a.entity) (writing b.entity k ∷ [])) refl;
        second = written_clock w accesses b b' (writing b.entity k) k hasb (access_second (reading a.entity) (writing b.entity k) [] lt) refl sameb versionb stamps;
      }

  -- three that are written
  pub carries_three : (a b c a' b' c' : Clock) (e : Entry) (j k l : Cell) → HasClock w a → HasClock w b → HasClock w c → a.entity < b.entity → b.entity < c.entity
      → a'.entity ≡ a.entity → b'.entity ≡ b.entity → c'.entity ≡ c.entity → a'.version ≡ a.version + 1 → b'.version ≡ b.version + 1 → c'.version ≡ c.version + 1
      → ((y : ℕ) → component a'.stamp y ≡ max (max (max (max (max (component a.stamp y) (component b.stamp y)) (if a.entity == y then a.version + 1 else 0)) (if b.entity == y then b.version + 1 else 0)) (component c.stamp y)) (if c.entity == y then c.version + 1 else 0))
      → b'.stamp ≡ a'.stamp → c'.stamp ≡ a'.stamp
      → e ≡ record { event = event; actor = actor; touched = write_touch a ∷ write_touch b ∷ write_touch c ∷ []; version = 0; answer = answer }
      → CarriesThree event actor answer w (writing a.entity j ∷ writing b.entity k ∷ writing c.entity l ∷ []) e a' b' c'
  carries_three a b c a' b' c' e j k l hasa hasb hasc lt more samea sameb samec versiona versionb versionc stamp bothb bothc entry =
      let accesses : List Access = writing a.entity j ∷ writing b.entity k ∷ writing c.entity l ∷ [] in
      let stamps : (y : ℕ) → component a'.stamp y ≡ joined w (touches_of w accesses) y =
      λ y. stamp y ∙ joins_three (component a.stamp y) (component b.stamp y) (component c.stamp y) (if a.entity == y then a.version + 1 else 0) (if b.entity == y then b.version + 1 else 0) (if c.entity == y then c.version + 1 else 0)
      ∙ (λ i. max (max (sym (hasa.stamp y) i) (if a.entity == y then sym hasa.version i + 1 else 0)) (max (max (sym (hasb.stamp y) i) (if b.entity == y then sym hasb.version i + 1 else 0)) (max (max (sym (hasc.stamp y) i) (if c.entity == y then sym hasc.version i + 1 else 0)) 0))) in
      record {
        entry = entry ∙ (λ i. record { event = event; actor = actor; touched = record { version = sym hasa.version i + 1; entity = a.entity; wrote = true } ∷ record { version = sym hasb.version i + 1; entity = b.entity; wrote = true } ∷ record { version = sym hasc.version i + 1; entity = c.entity; wrote = true } ∷ []; version = 0; answer = answer });
        first = written_clock w accesses a a' (writing a.entity j) j hasa (access_first (writing a.entity j) (writing b.entity k ∷ writing c.entity l ∷ [])) refl samea versiona stamps;
        second = written_clock w accesses b b' (writing b.entity k) k hasb (access_second (writing a.entity j) (writing b.entity k) (writing c.entity l ∷ []) lt) refl sameb versionb (λ y. ap (λ s. component s y) bothb ∙ stamps y);
        third = written_clock w accesses c c' (writing c.entity l) l hasc (access_third (writing a.entity j) (writing b.entity k) (writing c.entity l) [] lt more) refl samec versionc (λ y. ap (λ s. component s y) bothc ∙ stamps y);
      }
