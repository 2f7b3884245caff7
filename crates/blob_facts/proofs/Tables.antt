-- Page tables and codes: lists of numbers and of instructions.
use Rattle.std.proofs.Common.{◌≡◌, ◌<◌, ◌≤◌, ℕ, ◌^◌, List, [], ◌∷◌, length, refl, sym, subst, ◌∙◌, arith}
use Rattle.std.specs.List.{flat_map}
use Rattle.byteorder.specs.Endian.{little_bytes}
use Rattle.act_atlas_laws.specs.base_types.Instructions.{IsInstruction}
use Rattle.act_atlas_laws.specs.base_types.declared.instructions.Instr.{Instr}
use Rattle.act_atlas_laws.specs.base_types.declared.instructions.Instr.TheVariants.{Halt}
use Rattle.blob_grammar.specs.Spelling.{instr_bytes}
use Rattle.blob_grammar.proofs.Telling.{each}
use Rattle.blob_facts.specs.Fields.{IsByteIn, IsFound, IsNumberIn, IsRefused, Spells, Then}
use Rattle.blob_facts.specs.Parts.{IsCodeSpelled, IsInstrSpelled, IsTableSpelled}
use Rattle.blob_facts.proofs.Bytes.{byte_tells}
use Rattle.blob_facts.proofs.Plain.{Plain, PlainSoFar, plain_good, plain_items, plain_refused, some_plain}
use Rattle.blob_facts.proofs.Sequences.{joined, refused_as, refused_here, refused_later}

-- TABLES
abbrev pub last_block : ℕ
last_block = 4294967295

abbrev pub Block : ℕ → List ℕ → Type 0
Block = IsNumberIn 4 0 last_block

abbrev IsWord : ℕ → Type 0
IsWord n = n < 2 ^ 32

word_good : (v : ℕ) (a : List ℕ) → Block v a → IsWord v × (a ≡ little_bytes 4 v)
word_good v a f = ((let h = f.high in omega (arith, h)), f.is)

word_item : (v : ℕ) → IsWord v → Block v (little_bytes 4 v)
word_item v small = record { low = omega arith; high = omega (arith, small); is = refl }

table_of : (pages : ℕ) (y : List ℕ) → Spells (Plain Block pages) y → Spells (IsTableSpelled pages) y
table_of pages y s =
    let g = plain_good Block IsWord (little_bytes 4) word_good word_item pages s.value y s.spelled in
    record { value = s.value; spelled = record { good = record { each_page = g.0; numbers = g.1 }; is = g.2 } }

blocks_of : (pages : ℕ) (y : List ℕ) → Spells (IsTableSpelled pages) y → Spells (Plain Block pages) y
blocks_of pages y s =
    let t = s.value in
    record {
      value = t;
      spelled =
          subst (λ (l : List ℕ). Plain Block pages t l) (sym s.spelled.is)
          (subst (λ n. Plain Block n t (flat_map (little_bytes 4) t)) s.spelled.good.each_page
          (plain_items Block IsWord (little_bytes 4) word_good word_item t (each IsWord t s.spelled.good.numbers)));
    }

pub some_table : (pages : ℕ) → (b : List ℕ) × Spells (IsTableSpelled pages) b
some_table pages =
    let some = some_plain Block IsWord (little_bytes 4) word_good word_item (0, omega arith) pages in
    (some.0, table_of pages some.0 some.1)

pub block_refused : (pages : ℕ) (bytes : List ℕ) (place : ℕ) (vs rest behind : List ℕ) → place < pages → PlainSoFar Block pages bytes place vs rest
    → IsRefused (Spells Block) rest behind → IsRefused (Spells (IsTableSpelled pages)) bytes behind
block_refused pages bytes place vs rest behind more so_far r =
    refused_as (table_of pages) (blocks_of pages) (plain_refused Block IsWord (little_bytes 4) word_good word_item (0, omega arith) pages bytes place vs rest behind more so_far r)

pub table_found : (pages : ℕ) (bytes rest : List ℕ) (vs : List ℕ) → IsFound (Plain Block pages) bytes vs rest → IsFound (IsTableSpelled pages) bytes vs rest
table_found pages bytes rest vs f =
    let g = plain_good Block IsWord (little_bytes 4) word_good word_item pages vs f.front f.spelled in
    record { front = f.front; spelled = record { good = record { each_page = g.0; numbers = g.1 }; is = g.2 }; is = f.is }

-- CODES
instr_good : (v : Instr) (a : List ℕ) → IsInstrSpelled v a → IsInstruction v × (a ≡ instr_bytes v)
instr_good v a f = (f.good, f.is)

instr_item : (v : Instr) → IsInstruction v → IsInstrSpelled v (instr_bytes v)
instr_item v good = record { good = good; is = refl }

abbrev pub ListedCode : List ℕ → Type 0
ListedCode = Then (IsByteIn 0 128) (λ n. Spells (Plain IsInstrSpelled n))

code_spelled : (n : ℕ) (vs : List Instr) (y z : List ℕ) → n ≤ 128 → Plain IsInstrSpelled n vs y → z ≡ n ∷ y → IsCodeSpelled vs z
code_spelled n vs y z few items is =
    let g = plain_good IsInstrSpelled IsInstruction instr_bytes instr_good instr_item n vs y items in
    let len = g.0 in
    record { good = record { few = omega (arith, len, few); each = g.1 }; is = is ∙ (λ i. sym g.0 i ∷ g.2 i) }

code_of : (y : List ℕ) → ListedCode y → Spells IsCodeSpelled y
code_of y l = record { value = l.followed.value; spelled = code_spelled l.value l.followed.value l.behind y l.spelled.high l.followed.spelled (joined l.is l.spelled.is refl) }

listed_code : (y : List ℕ) → Spells IsCodeSpelled y → ListedCode y
listed_code y s =
    let vs = s.value in
    record {
      value = length vs;
      front = length vs ∷ [];
      behind = flat_map instr_bytes vs;
      spelled = record { low = omega arith; high = s.spelled.good.few; is = refl };
      followed = record { value = vs; spelled = plain_items IsInstrSpelled IsInstruction instr_bytes instr_good instr_item vs (each IsInstruction vs s.spelled.good.each) };
      is = s.spelled.is;
    }

pub instrs_refused : (bytes behind : List ℕ) → IsRefused (Spells (IsByteIn 0 128)) bytes behind → IsRefused (Spells IsCodeSpelled) bytes behind
instrs_refused bytes behind r =
    refused_as code_of listed_code (refused_here (λ n a f. some_plain IsInstrSpelled IsInstruction instr_bytes instr_good instr_item (Halt, tt) n) r)

pub instr_refused : (bytes rest behind : List ℕ) (count place : ℕ) (vs : List Instr) (now : List ℕ) → IsFound (IsByteIn 0 128) bytes count rest → place < count
    → PlainSoFar IsInstrSpelled count rest place vs now → IsRefused (Spells IsInstrSpelled) now behind → IsRefused (Spells IsCodeSpelled) bytes behind
instr_refused bytes rest behind count place vs now f more so_far r =
    refused_as code_of listed_code (refused_later (byte_tells 0 128) f
    (plain_refused IsInstrSpelled IsInstruction instr_bytes instr_good instr_item (Halt, tt) count rest place vs now behind more so_far r))

pub code_found : (bytes rest behind : List ℕ) (count : ℕ) (vs : List Instr) → IsFound (IsByteIn 0 128) bytes count rest → IsFound (Plain IsInstrSpelled count) rest vs behind
    → IsFound IsCodeSpelled bytes vs behind
code_found bytes rest behind count vs f g = record {
  front = count ∷ g.front;
  spelled = code_spelled count vs g.front (count ∷ g.front) f.spelled.high g.spelled refl;
  is = joined f.is f.spelled.is g.is;
}
