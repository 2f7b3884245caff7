-- Registers: a list of eight numbers.
use Rattle.std.proofs.Common.{◌≡◌, ◌<◌, ℕ, ◌^◌, List, ◌++◌, refl, sym, ap, subst, ◌∙◌, arith}
use Rattle.std.specs.List.{flat_map}
use Rattle.byteorder.specs.Endian.{little_bytes}
use Rattle.blob_grammar.proofs.Telling.{each, items, number}
use Rattle.blob_facts.specs.Fields.{IsFound, IsNumberIn, IsRefused, Spells}
use Rattle.blob_facts.specs.Loci.{AreRegistersSpelled}
use Rattle.blob_facts.proofs.Plain.{Plain, PlainSoFar, plain_good, plain_items, plain_refused, some_plain}
use Rattle.blob_facts.proofs.Sequences.{TellsApart, refused_as}

abbrev pub last_number : ℕ
last_number = 18446744073709551615

abbrev pub Register : ℕ → List ℕ → Type 0
Register = IsNumberIn 8 0 last_number

abbrev IsWord : ℕ → Type 0
IsWord n = n < 2 ^ 64

word_good : (v : ℕ) (a : List ℕ) → Register v a → IsWord v × (a ≡ little_bytes 8 v)
word_good v a f = ((let h = f.high in omega (arith, h)), f.is)

word_item : (v : ℕ) → IsWord v → Register v (little_bytes 8 v)
word_item v small = record { low = omega arith; high = omega (arith, small); is = refl }

module _ (count : ℕ) (eight : count ≡ 8) where
  registers_good : (vs y : List ℕ) → Plain Register count vs y → AreRegistersSpelled vs y
  registers_good vs y items =
      let g = plain_good Register IsWord (little_bytes 8) word_good word_item count vs y items in
      record { count = g.0 ∙ eight; numbers = g.1; is = g.2 }

  registers_of : (y : List ℕ) → Spells (Plain Register count) y → Spells AreRegistersSpelled y
  registers_of y s = record { value = s.value; spelled = registers_good s.value y s.spelled }

  numbers_of : (y : List ℕ) → Spells AreRegistersSpelled y → Spells (Plain Register count) y
  numbers_of y s =
      let t = s.value in
      record {
        value = t;
        spelled =
            subst (λ (l : List ℕ). Plain Register count t l) (sym s.spelled.is)
            (subst (λ n. Plain Register n t (flat_map (little_bytes 8) t)) (s.spelled.count ∙ sym eight)
            (plain_items Register IsWord (little_bytes 8) word_good word_item t (each IsWord t s.spelled.numbers)));
      }

  some_by : (b : List ℕ) × Spells AreRegistersSpelled b
  some_by =
      let some = some_plain Register IsWord (little_bytes 8) word_good word_item (0, omega arith) count in
      (some.0, registers_of some.0 some.1)

  pub register_refused : (bytes : List ℕ) (place : ℕ) (vs rest behind : List ℕ) → place < count → PlainSoFar Register count bytes place vs rest
      → IsRefused (Spells Register) rest behind → IsRefused (Spells AreRegistersSpelled) bytes behind
  register_refused bytes place vs rest behind more so_far r =
      refused_as registers_of numbers_of (plain_refused Register IsWord (little_bytes 8) word_good word_item (0, omega arith) count bytes place vs rest behind more so_far r)

  pub registers_found : (bytes rest vs : List ℕ) → IsFound (Plain Register count) bytes vs rest → IsFound AreRegistersSpelled bytes vs rest
  registers_found bytes rest vs f = record { front = f.front; spelled = registers_good vs f.front f.spelled; is = f.is }

pub some_registers : (b : List ℕ) × Spells AreRegistersSpelled b
some_registers = some_by 8 refl

abbrev IsShortWord : ℕ → Type 0
IsShortWord n = n < 256 ^ 8

pub registers_tell : TellsApart AreRegistersSpelled
registers_tell = record {
  told = λ v w a b x y f g same.
      (items (little_bytes 8) IsShortWord (number 8) v w (each IsShortWord v f.numbers) (each IsShortWord w g.numbers) (f.count ∙ sym g.count)).told x y
      (ap (λ (l : List ℕ). l ++ x) (sym f.is) ∙ same ∙ ap (λ (l : List ℕ). l ++ y) g.is);
}
