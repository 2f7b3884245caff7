-- The blob of a container, field by field.
use Rattle.std.proofs.Common.{◌≡◌, ◌≤◌, ℕ, ◌+◌, List, [], ◌∷◌, ◌++◌, replicate, Option, Some, None, refl, sym, ap, subst, ◌∙◌, arith}
use Rattle.std.specs.Prelude.{All, drop, slice_index}
use Rattle.std.specs.List.{AllByRecursion, flat_map}
use Rattle.std.proofs.lemmas.List.Elements.{All-nil}
use Rattle.byteorder.specs.Endian.{little_bytes}
use Rattle.act_atlas_laws.specs.base_types.Instructions.{IsInstruction}
use Rattle.act_atlas_laws.specs.base_types.declared.capabilities.Cap.{Cap}
use Rattle.act_atlas_laws.specs.base_types.declared.capabilities.Region.{Region}
use Rattle.act_atlas_laws.specs.base_types.declared.entities.Kind.TheVariants.{Container}
use Rattle.act_atlas_laws.specs.base_types.declared.instructions.Instr.{Instr}
use Rattle.blob_grammar.specs.model_kernel.State.{ContainerState}
use Rattle.blob_grammar.specs.Forms.{IsContainerForm, IsNumber, IsSpelling, SpellsContainer}
use Rattle.blob_grammar.specs.Shapes.{IsRegionOver}
use Rattle.blob_grammar.specs.Spelling.{caps_bytes, container_blob, entry_byte, instr_bytes, listed, region_bytes}
use Rattle.blob_grammar.proofs.Fields.{caps, entry_same, region}
use Rattle.blob_grammar.proofs.Instructions.{instr}
use Rattle.blob_grammar.proofs.Telling.{each, list}
use Rattle.blob_facts.specs.Fields.{IsByteIn, IsFound, IsNumberIn, IsRefused, Spells, Then}
use Rattle.blob_facts.specs.Parts.{AreCapsSpelled, AreRegionsOf, IsCodeSpelled, IsEntrySpelled, IsTableSpelled}
use Rattle.blob_facts.proofs.Bytes.{byte_tells}
use Rattle.blob_facts.proofs.Numbers.{tells}
use Rattle.blob_facts.proofs.Sequences.{TellsApart, chain, joined, refused_as, refused_here, refused_later}
use Rattle.blob_facts.proofs.SlotLists.{caps_spelled, not_filled}
use Rattle.blob_facts.proofs.Tables.{last_block, some_table}
use Rattle.blob_grammar.proofs.Values.{IsShort}

abbrev pub last_word : ℕ
last_word = 18446744073709551615

-- FIELDS TELL what they are
pub entry_tells : TellsApart IsEntrySpelled
entry_tells = record {
  told = λ v w a b x y f g same.
      let e : entry_byte v ∷ x ≡ entry_byte w ∷ y = ap (λ (l : List ℕ). l ++ x) (sym f.is) ∙ same ∙ ap (λ (l : List ℕ). l ++ y) g.is in
      (entry_same v w f.good g.good (ap (λ (l : List ℕ). slice_index l 0) e), ap (λ (l : List ℕ). drop 1 l) e);
}

pub code_tells : TellsApart IsCodeSpelled
code_tells = record {
  told = λ v w a b x y f g same.
      (list instr_bytes IsInstruction instr v w (each IsInstruction v f.good.each) (each IsInstruction w g.good.each)).told x y
      (ap (λ (l : List ℕ). l ++ x) (sym f.is) ∙ same ∙ ap (λ (l : List ℕ). l ++ y) g.is);
}

short : (rs : List Region) → All (IsRegionOver IsNumber) rs → AllByRecursion IsShort rs
short rs all = each IsShort rs (λ i d lt. let at = (all i d lt).at in omega (arith, at))

regions_tells : (pages : ℕ) → TellsApart (AreRegionsOf pages)
regions_tells pages = record {
  told = λ v w a b x y f g same.
      (list region_bytes IsShort region v w (short v f.good) (short w g.good)).told x y
      (ap (λ (l : List ℕ). l ++ x) (sym f.is) ∙ same ∙ ap (λ (l : List ℕ). l ++ y) g.is);
}

pub caps_tells : TellsApart AreCapsSpelled
caps_tells = record {
  told = λ v w a b x y f g same.
      (caps v w (f.good.slots ∙ sym g.good.slots)).told x y (ap (λ (l : List ℕ). l ++ x) (sym f.is) ∙ same ∙ ap (λ (l : List ℕ). l ++ y) g.is);
}

-- WHAT FOLLOWS each field
abbrev pub Behind8 : ℕ → List ℕ → Type 0
Behind8 pages = Spells (IsTableSpelled pages)

abbrev pub Behind7 : ℕ → List ℕ → Type 0
Behind7 pages = Then AreCapsSpelled (λ _. Behind8 pages)

abbrev pub Behind6 : ℕ → List ℕ → Type 0
Behind6 pages = Then (AreRegionsOf pages) (λ _. Behind7 pages)

abbrev pub Behind5 : ℕ → List ℕ → Type 0
Behind5 pages = Then IsCodeSpelled (λ _. Behind6 pages)

abbrev pub Behind4 : ℕ → List ℕ → Type 0
Behind4 pages = Then IsEntrySpelled (λ _. Behind5 pages)

abbrev pub Behind3 : ℕ → List ℕ → Type 0
Behind3 pages = Then (IsNumberIn 4 0 last_block) (λ _. Behind4 pages)

abbrev pub Behind2 : ℕ → List ℕ → Type 0
Behind2 pages = Then (IsNumberIn 8 0 last_word) (λ _. Behind3 pages)

abbrev pub Behind1 : List ℕ → Type 0
Behind1 = Then (IsNumberIn 2 1 256) Behind2

abbrev pub AllFields : List ℕ → Type 0
AllFields = Then (IsByteIn 1 1) (λ _. Behind1)

some8 : (pages : ℕ) → (b : List ℕ) × Behind8 pages b
some8 pages = some_table pages

some7 : (pages : ℕ) → (b : List ℕ) × Behind7 pages b
some7 pages = let on = some8 pages in ((0 ∷ []) ++ on.0, record { value = replicate 32 None; front = 0 ∷ []; behind = on.0; spelled = caps_spelled 0 (replicate 32 None) [] (0 ∷ []) not_filled refl; followed = on.1; is = refl })

some6 : (pages : ℕ) → (b : List ℕ) × Behind6 pages b
some6 pages = let on = some7 pages in ((0 ∷ []) ++ on.0, record { value = []; front = 0 ∷ []; behind = on.0; spelled = record { few = omega arith; good = All-nil (IsRegionOver IsNumber); inside = All-nil (λ (r : Region). r.at + r.count ≤ pages); apart = tt; is = refl }; followed = on.1; is = refl })

some5 : (pages : ℕ) → (b : List ℕ) × Behind5 pages b
some5 pages = let on = some6 pages in ((0 ∷ []) ++ on.0, record { value = []; front = 0 ∷ []; behind = on.0; spelled = record { good = record { few = omega arith; each = All-nil IsInstruction }; is = refl }; followed = on.1; is = refl })

some4 : (pages : ℕ) → (b : List ℕ) × Behind4 pages b
some4 pages = let on = some5 pages in ((255 ∷ []) ++ on.0, record { value = None; front = 255 ∷ []; behind = on.0; spelled = record { good = λ x is. absurd (no_some is); is = refl }; followed = on.1; is = refl })
  where
    is_none : Option ℕ → Type 0
    is_none None = Unit {0}
    is_none (Some x) = ⊥

    no_some : {x : ℕ} → None ≡ Some x → ⊥
    no_some e = subst is_none e tt

some3 : (pages : ℕ) → (b : List ℕ) × Behind3 pages b
some3 pages = let on = some4 pages in ((little_bytes 4 0) ++ on.0, record { value = 0; front = little_bytes 4 0; behind = on.0; spelled = record { low = omega arith; high = omega arith; is = refl }; followed = on.1; is = refl })

some2 : (pages : ℕ) → (b : List ℕ) × Behind2 pages b
some2 pages = let on = some3 pages in ((little_bytes 8 0) ++ on.0, record { value = 0; front = little_bytes 8 0; behind = on.0; spelled = record { low = omega arith; high = omega arith; is = refl }; followed = on.1; is = refl })

some1 : (b : List ℕ) × Behind1 b
some1 = let on = some2 1 in (little_bytes 2 1 ++ on.0, record { value = 1; front = little_bytes 2 1; behind = on.0; spelled = record { low = omega arith; high = omega arith; is = refl }; followed = on.1; is = refl })

-- THE CONTAINER of these fields
abbrev pub container_of : (words : ℕ → ℕ) (pages tag every : ℕ) (entry : Option ℕ) (code : List Instr) (regions : List Region) (caps : List (Option Cap)) → ContainerState
container_of words pages tag every entry code regions caps =
    record { pages = pages; tag = tag; every = every; entry = entry; code = code; regions = regions; caps = caps; words = words }

module _ (words : ℕ → ℕ) (pages tag every : ℕ) (entry : Option ℕ) (code : List Instr) (regions : List Region) (caps : List (Option Cap)) (table a0 a1 a2 a3 a4 a5 a6 a7 a8 : List ℕ) where
  form_of : IsNumberIn 2 1 256 pages a1 → IsNumberIn 8 0 last_word tag a2 → IsNumberIn 4 0 last_block every a3 → IsEntrySpelled entry a4 → IsCodeSpelled code a5 → AreRegionsOf pages regions a6
      → AreCapsSpelled caps a7 → IsTableSpelled pages table a8 → IsContainerForm (container_of words pages tag every entry code regions caps) table
  form_of f1 f2 f3 f4 f5 f6 f7 f8 = record {
    shape = record {
      some = f1.low;
      size = f1.high;
      entry = f4.good;
      code = f5.good;
      few = f6.few;
      regions = f6.good;
      inside = f6.inside;
      apart = f6.apart;
      caps = f7.good;
    };
    tag = (let h = f2.high in omega (arith, h));
    every = (let h = f3.high in omega (arith, h));
    rights = f7.rights;
    blocks = f8.good;
  }

container_in : (y : List ℕ) → AllFields y → IsSpelling Container y
unfolding container_blob
container_in y f0 =
    let f1 = f0.followed in
    let f2 = f1.followed in
    let f3 = f2.followed in
    let f4 = f3.followed in
    let f5 = f4.followed in
    let f6 = f5.followed in
    let f7 = f6.followed in
    let f8 = f7.followed in
    let one : f0.value ≡ 1 = (let l = f0.spelled.low in let h = f0.spelled.high in omega (arith, l, h)) in (
      container_of (λ _. 0) f1.value f2.value f3.value f4.value f5.value f6.value f7.value,
      f8.value,
      record {
        form = form_of (λ _. 0) f1.value f2.value f3.value f4.value f5.value f6.value f7.value f8.value f0.front f1.front f2.front f3.front f4.front f5.front f6.front f7.front f7.behind f1.spelled f2.spelled f3.spelled f4.spelled f5.spelled f6.spelled f7.spelled f8.spelled;
        is = (joined f0.is (f0.spelled.is ∙ (λ i. one i ∷ [])) (joined f1.is f1.spelled.is (joined f2.is f2.spelled.is (joined f3.is f3.spelled.is (joined f4.is f4.spelled.is (joined f5.is f5.spelled.is (joined f6.is f6.spelled.is (joined f7.is f7.spelled.is f8.spelled.is))))))));
      },
    )

fields_in : (y : List ℕ) → IsSpelling Container y → AllFields y
unfolding container_blob
fields_in y (c, table, s) =
    let f = s.form in
    let tag = f.tag in
    let every = f.every in
    record { value = 1; front = 1 ∷ []; behind = (little_bytes 2 c.pages) ++ ((little_bytes 8 c.tag) ++ ((little_bytes 4 c.every) ++ ((entry_byte c.entry ∷ []) ++ ((listed instr_bytes c.code) ++ ((listed region_bytes c.regions) ++ ((caps_bytes c.caps) ++ (flat_map (little_bytes 4) table))))))); spelled = record { low = omega arith; high = omega arith; is = refl }; followed = record { value = c.pages; front = little_bytes 2 c.pages; behind = (little_bytes 8 c.tag) ++ ((little_bytes 4 c.every) ++ ((entry_byte c.entry ∷ []) ++ ((listed instr_bytes c.code) ++ ((listed region_bytes c.regions) ++ ((caps_bytes c.caps) ++ (flat_map (little_bytes 4) table)))))); spelled = record { low = f.shape.some; high = f.shape.size; is = refl }; followed = record { value = c.tag; front = little_bytes 8 c.tag; behind = (little_bytes 4 c.every) ++ ((entry_byte c.entry ∷ []) ++ ((listed instr_bytes c.code) ++ ((listed region_bytes c.regions) ++ ((caps_bytes c.caps) ++ (flat_map (little_bytes 4) table))))); spelled = record { low = omega arith; high = omega (arith, tag); is = refl }; followed = record { value = c.every; front = little_bytes 4 c.every; behind = (entry_byte c.entry ∷ []) ++ ((listed instr_bytes c.code) ++ ((listed region_bytes c.regions) ++ ((caps_bytes c.caps) ++ (flat_map (little_bytes 4) table)))); spelled = record { low = omega arith; high = omega (arith, every); is = refl }; followed = record { value = c.entry; front = entry_byte c.entry ∷ []; behind = (listed instr_bytes c.code) ++ ((listed region_bytes c.regions) ++ ((caps_bytes c.caps) ++ (flat_map (little_bytes 4) table))); spelled = record { good = f.shape.entry; is = refl }; followed = record { value = c.code; front = listed instr_bytes c.code; behind = (listed region_bytes c.regions) ++ ((caps_bytes c.caps) ++ (flat_map (little_bytes 4) table)); spelled = record { good = f.shape.code; is = refl }; followed = record { value = c.regions; front = listed region_bytes c.regions; behind = (caps_bytes c.caps) ++ (flat_map (little_bytes 4) table); spelled = record { few = f.shape.few; good = f.shape.regions; inside = f.shape.inside; apart = f.shape.apart; is = refl }; followed = record { value = c.caps; front = caps_bytes c.caps; behind = flat_map (little_bytes 4) table; spelled = record { good = f.shape.caps; rights = f.rights; is = refl }; followed = record { value = table; spelled = record { good = f.blocks; is = refl } }; is = refl }; is = refl }; is = refl }; is = refl }; is = refl }; is = refl }; is = refl }; is = s.is }

-- WHERE A CONTAINER'S BLOB IS REFUSED
module _ (bytes b1 b2 b3 b4 b5 b6 b7 b8 behind : List ℕ) (kind pages tag every : ℕ) (entry : Option ℕ) (code : List Instr) (regions : List Region) (slots : List (Option Cap)) where
  pub kind_refused : IsRefused (Spells (IsByteIn 1 1)) bytes behind
      → IsRefused (IsSpelling Container) bytes behind
  kind_refused r = refused_as container_in fields_in (refused_here (λ v a f. some1) r)

  pub pages_refused : IsFound (IsByteIn 1 1) bytes kind b1
      → IsRefused (Spells (IsNumberIn 2 1 256)) b1 behind
      → IsRefused (IsSpelling Container) bytes behind
  pages_refused f0 r = refused_as container_in fields_in (refused_later (byte_tells 1 1) f0 (refused_here (λ v a f. some2 v) r))

  pub tag_refused : IsFound (IsByteIn 1 1) bytes kind b1
      → IsFound (IsNumberIn 2 1 256) b1 pages b2
      → IsRefused (Spells (IsNumberIn 8 0 last_word)) b2 behind
      → IsRefused (IsSpelling Container) bytes behind
  tag_refused f0 f1 r = refused_as container_in fields_in (refused_later (byte_tells 1 1) f0 (refused_later (tells 2 1 256 (omega arith)) f1 (refused_here (λ v a f. some3 pages) r)))

  pub every_refused : IsFound (IsByteIn 1 1) bytes kind b1
      → IsFound (IsNumberIn 2 1 256) b1 pages b2
      → IsFound (IsNumberIn 8 0 last_word) b2 tag b3
      → IsRefused (Spells (IsNumberIn 4 0 last_block)) b3 behind
      → IsRefused (IsSpelling Container) bytes behind
  every_refused f0 f1 f2 r = refused_as container_in fields_in (refused_later (byte_tells 1 1) f0 (refused_later (tells 2 1 256 (omega arith)) f1 (refused_later (tells 8 0 last_word (omega arith)) f2 (refused_here (λ v a f. some4 pages) r))))

  pub entry_refused : IsFound (IsByteIn 1 1) bytes kind b1
      → IsFound (IsNumberIn 2 1 256) b1 pages b2
      → IsFound (IsNumberIn 8 0 last_word) b2 tag b3
      → IsFound (IsNumberIn 4 0 last_block) b3 every b4
      → IsRefused (Spells IsEntrySpelled) b4 behind
      → IsRefused (IsSpelling Container) bytes behind
  entry_refused f0 f1 f2 f3 r = refused_as container_in fields_in (refused_later (byte_tells 1 1) f0 (refused_later (tells 2 1 256 (omega arith)) f1 (refused_later (tells 8 0 last_word (omega arith)) f2 (refused_later (tells 4 0 last_block (omega arith)) f3 (refused_here (λ v a f. some5 pages) r)))))

  pub code_refused : IsFound (IsByteIn 1 1) bytes kind b1
      → IsFound (IsNumberIn 2 1 256) b1 pages b2
      → IsFound (IsNumberIn 8 0 last_word) b2 tag b3
      → IsFound (IsNumberIn 4 0 last_block) b3 every b4
      → IsFound IsEntrySpelled b4 entry b5
      → IsRefused (Spells IsCodeSpelled) b5 behind
      → IsRefused (IsSpelling Container) bytes behind
  code_refused f0 f1 f2 f3 f4 r = refused_as container_in fields_in (refused_later (byte_tells 1 1) f0 (refused_later (tells 2 1 256 (omega arith)) f1 (refused_later (tells 8 0 last_word (omega arith)) f2 (refused_later (tells 4 0 last_block (omega arith)) f3 (refused_later entry_tells f4 (refused_here (λ v a f. some6 pages) r))))))

  pub regions_refused : IsFound (IsByteIn 1 1) bytes kind b1
      → IsFound (IsNumberIn 2 1 256) b1 pages b2
      → IsFound (IsNumberIn 8 0 last_word) b2 tag b3
      → IsFound (IsNumberIn 4 0 last_block) b3 every b4
      → IsFound IsEntrySpelled b4 entry b5
      → IsFound IsCodeSpelled b5 code b6
      → IsRefused (Spells (AreRegionsOf pages)) b6 behind
      → IsRefused (IsSpelling Container) bytes behind
  regions_refused f0 f1 f2 f3 f4 f5 r = refused_as container_in fields_in (refused_later (byte_tells 1 1) f0 (refused_later (tells 2 1 256 (omega arith)) f1 (refused_later (tells 8 0 last_word (omega arith)) f2 (refused_later (tells 4 0 last_block (omega arith)) f3 (refused_later entry_tells f4 (refused_later code_tells f5 (refused_here (λ v a f. some7 pages) r)))))))

  pub caps_refused : IsFound (IsByteIn 1 1) bytes kind b1
      → IsFound (IsNumberIn 2 1 256) b1 pages b2
      → IsFound (IsNumberIn 8 0 last_word) b2 tag b3
      → IsFound (IsNumberIn 4 0 last_block) b3 every b4
      → IsFound IsEntrySpelled b4 entry b5
      → IsFound IsCodeSpelled b5 code b6
      → IsFound (AreRegionsOf pages) b6 regions b7
      → IsRefused (Spells AreCapsSpelled) b7 behind
      → IsRefused (IsSpelling Container) bytes behind
  caps_refused f0 f1 f2 f3 f4 f5 f6 r = refused_as container_in fields_in (refused_later (byte_tells 1 1) f0 (refused_later (tells 2 1 256 (omega arith)) f1 (refused_later (tells 8 0 last_word (omega arith)) f2 (refused_later (tells 4 0 last_block (omega arith)) f3 (refused_later entry_tells f4 (refused_later code_tells f5 (refused_later (regions_tells pages) f6 (refused_here (λ v a f. some8 pages) r))))))))

  pub table_refused : IsFound (IsByteIn 1 1) bytes kind b1
      → IsFound (IsNumberIn 2 1 256) b1 pages b2
      → IsFound (IsNumberIn 8 0 last_word) b2 tag b3
      → IsFound (IsNumberIn 4 0 last_block) b3 every b4
      → IsFound IsEntrySpelled b4 entry b5
      → IsFound IsCodeSpelled b5 code b6
      → IsFound (AreRegionsOf pages) b6 regions b7
      → IsFound AreCapsSpelled b7 slots b8
      → IsRefused (Spells (IsTableSpelled pages)) b8 behind
      → IsRefused (IsSpelling Container) bytes behind
  table_refused f0 f1 f2 f3 f4 f5 f6 f7 r = refused_as container_in fields_in (refused_later (byte_tells 1 1) f0 (refused_later (tells 2 1 256 (omega arith)) f1 (refused_later (tells 8 0 last_word (omega arith)) f2 (refused_later (tells 4 0 last_block (omega arith)) f3 (refused_later entry_tells f4 (refused_later code_tells f5 (refused_later (regions_tells pages) f6 (refused_later caps_tells f7 r))))))))

  pub container_found : (table : List ℕ) → IsFound (IsByteIn 1 1) bytes kind b1
      → IsFound (IsNumberIn 2 1 256) b1 pages b2
      → IsFound (IsNumberIn 8 0 last_word) b2 tag b3
      → IsFound (IsNumberIn 4 0 last_block) b3 every b4
      → IsFound IsEntrySpelled b4 entry b5
      → IsFound IsCodeSpelled b5 code b6
      → IsFound (AreRegionsOf pages) b6 regions b7
      → IsFound AreCapsSpelled b7 slots b8
      → IsFound (IsTableSpelled pages) b8 table behind
      → IsFound (λ (t y : List ℕ). (words : ℕ → ℕ) → SpellsContainer (container_of words pages tag every entry code regions slots) t y) bytes table behind
  unfolding container_blob
  container_found table f0 f1 f2 f3 f4 f5 f6 f7 f8 =
      let one : kind ≡ 1 = (let l = f0.spelled.low in let h = f0.spelled.high in omega (arith, l, h)) in
      record {
        front = container_blob (container_of (λ _. 0) pages tag every entry code regions slots) table;
        spelled = λ words. record {
          form = form_of words pages tag every entry code regions slots table f0.front f1.front f2.front f3.front f4.front f5.front f6.front f7.front f8.front f1.spelled f2.spelled f3.spelled f4.spelled f5.spelled f6.spelled f7.spelled f8.spelled;
          is = refl;
        };
        is = chain ((little_bytes 2 pages) ++ ((little_bytes 8 tag) ++ ((little_bytes 4 every) ++ ((entry_byte entry ∷ []) ++ ((listed instr_bytes code) ++ ((listed region_bytes regions) ++ ((caps_bytes slots) ++ (flat_map (little_bytes 4) table)))))))) behind f0.is (f0.spelled.is ∙ (λ i. one i ∷ [])) (chain ((little_bytes 8 tag) ++ ((little_bytes 4 every) ++ ((entry_byte entry ∷ []) ++ ((listed instr_bytes code) ++ ((listed region_bytes regions) ++ ((caps_bytes slots) ++ (flat_map (little_bytes 4) table))))))) behind f1.is f1.spelled.is (chain ((little_bytes 4 every) ++ ((entry_byte entry ∷ []) ++ ((listed instr_bytes code) ++ ((listed region_bytes regions) ++ ((caps_bytes slots) ++ (flat_map (little_bytes 4) table)))))) behind f2.is f2.spelled.is (chain ((entry_byte entry ∷ []) ++ ((listed instr_bytes code) ++ ((listed region_bytes regions) ++ ((caps_bytes slots) ++ (flat_map (little_bytes 4) table))))) behind f3.is f3.spelled.is (chain ((listed instr_bytes code) ++ ((listed region_bytes regions) ++ ((caps_bytes slots) ++ (flat_map (little_bytes 4) table)))) behind f4.is f4.spelled.is (chain ((listed region_bytes regions) ++ ((caps_bytes slots) ++ (flat_map (little_bytes 4) table))) behind f5.is f5.spelled.is (chain ((caps_bytes slots) ++ (flat_map (little_bytes 4) table)) behind f6.is f6.spelled.is (chain (flat_map (little_bytes 4) table) behind f7.is f7.spelled.is (joined f8.is f8.spelled.is refl))))))));
      }
