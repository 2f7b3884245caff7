-- The blob of a locus, field by field.
use Rattle.std.proofs.Common.{◌≡◌, ℕ, List, [], ◌∷◌, ◌++◌, length, replicate, Option, None, refl, sym, ap, ◌∙◌, arith}
use Rattle.std.proofs.lemmas.List.Elements.{All-nil}
use Rattle.std.specs.List.{flat_map}
use Rattle.byteorder.specs.Endian.{little_bytes}
use Rattle.base_types.specs.Instructions.{IsInstruction}
use Rattle.base_types.specs.declared.capabilities.Cap.{Cap}
use Rattle.base_types.specs.declared.capabilities.Private.{Private}
use Rattle.base_types.specs.declared.entities.Kind.TheVariants.{Locus}
use Rattle.base_types.specs.declared.instructions.Call.{Call}
use Rattle.base_types.specs.declared.instructions.Condition.{Condition}
use Rattle.base_types.specs.declared.instructions.Condition.TheVariants.{Running}
use Rattle.base_types.specs.declared.instructions.Instr.{Instr}
use Rattle.base_types.specs.declared.instructions.Walk.{Walk}
use Rattle.blob_grammar.specs.model_kernel.State.{LocusState}
use Rattle.blob_grammar.specs.Forms.{IsLocusForm, IsNumber, IsSpelling, SpellsLocus}
use Rattle.blob_grammar.specs.Shapes.{IsCallOver}
use Rattle.blob_grammar.specs.Spelling.{call_bytes, caps_bytes, condition_number, instr_bytes, is_short, listed, locus_blob, private_bytes, walk_bytes}
use Rattle.blob_facts.specs.act_alone.Loci.{locus_of}
use Rattle.blob_facts.specs.act_alone.declared.loci.Locus.{Locus as LocusValue}
use Rattle.blob_facts.specs.Fields.{IsByteIn, IsFound, IsNumberIn, IsRefused, Spells, Then}
use Rattle.blob_facts.specs.Loci.{AreCallsSpelled, ArePrivatesIn, AreRegistersSpelled, IsConditionSpelled, IsLocusSpelled, IsWalkSpelled}
use Rattle.blob_reading.specs.Loci.{IsFormSpelled, IsPrintedSpelled, form_byte, least_privates, most_calls, most_privates, printed_width}
use Rattle.blob_facts.specs.Parts.{AreCapsSpelled, IsCodeSpelled}
use Rattle.blob_reading.specs.declared.forms.Form.{Form}
use Rattle.blob_facts.proofs.Bytes.{byte_tells}
use Rattle.blob_facts.proofs.CallFields.{calls_tell}
use Rattle.blob_reading.proofs.Codes.{condition_tells, form_tells}
use Rattle.blob_facts.proofs.ContainerFields.{caps_tells, code_tells}
use Rattle.blob_facts.proofs.Numbers.{tells}
use Rattle.blob_facts.proofs.PrivateLists.{privates_tell, some_list}
use Rattle.blob_facts.proofs.RegisterLists.{registers_tell, some_registers}
use Rattle.blob_facts.proofs.Sequences.{chain, joined, refused_as, refused_here, refused_later}
use Rattle.blob_facts.proofs.SlotLists.{caps_spelled, not_filled}
use Rattle.blob_facts.proofs.Tables.{last_block}
use Rattle.blob_facts.proofs.WalkFields.{some_walk}
use Rattle.blob_reading.proofs.LocusForms.{LocusHasForm, blob_is, bounds, has_form, printed_tells}

-- WHAT FOLLOWS each field
abbrev pub Behind11 : List ℕ → Type 0
Behind11 = Spells IsWalkSpelled

abbrev pub Behind10 : List ℕ → Type 0
Behind10 = Then AreCapsSpelled (λ _. Behind11)

abbrev pub Behind9 : Form → ℕ → ℕ → List ℕ → Type 0
Behind9 form printed deep = Then (ArePrivatesIn (least_privates form printed deep) (most_privates form)) (λ _. Behind10)

abbrev pub Behind8 : Form → ℕ → List ℕ → Type 0
Behind8 form printed = Then (AreCallsSpelled (most_calls form)) (λ calls. Behind9 form printed (length calls))

abbrev pub Behind7 : Form → ℕ → List ℕ → Type 0
Behind7 form printed = Then IsCodeSpelled (λ _. Behind8 form printed)

abbrev pub Behind6 : Form → List ℕ → Type 0
Behind6 form = Then (IsPrintedSpelled form) (Behind7 form)

abbrev pub Behind5 : Form → List ℕ → Type 0
Behind5 form = Then AreRegistersSpelled (λ _. Behind6 form)

abbrev pub Behind4 : Form → List ℕ → Type 0
Behind4 form = Then (IsByteIn 0 128) (λ _. Behind5 form)

abbrev pub Behind3 : Form → List ℕ → Type 0
Behind3 form = Then (IsByteIn 0 63) (λ _. Behind4 form)

abbrev pub Behind2 : Form → List ℕ → Type 0
Behind2 form = Then IsConditionSpelled (λ _. Behind3 form)

abbrev pub Behind1 : Form → List ℕ → Type 0
Behind1 form = Then (IsNumberIn 4 0 last_block) (λ _. Behind2 form)

abbrev pub AllFields : List ℕ → Type 0
AllFields = Then IsFormSpelled Behind1

-- THERE IS SOMETHING to follow
some10 : (b : List ℕ) × Behind10 b
some10 = let on = some_walk in ((0 ∷ []) ++ on.0, record { value = replicate 32 None; front = 0 ∷ []; behind = on.0; spelled = caps_spelled 0 (replicate 32 None) [] (0 ∷ []) not_filled refl; followed = on.1; is = refl })

some9 : (form : Form) (printed deep : ℕ) → (b : List ℕ) × Behind9 form printed deep b
some9 form printed deep =
    let first = some_list (least_privates form printed deep) (most_privates form) ((bounds form).least printed deep) (bounds form).privates in
    let on = some10 in
    (first.0 ++ on.0, record { value = first.1.value; front = first.0; behind = on.0; spelled = first.1.spelled; followed = on.1; is = refl })

some8 : (form : Form) (printed : ℕ) → (b : List ℕ) × Behind8 form printed b
some8 form printed =
    let on = some9 form printed 0 in
    ((0 ∷ []) ++ on.0, record { value = []; front = 0 ∷ []; behind = on.0; spelled = record { few = omega arith; good = All-nil (IsCallOver IsNumber); is = refl }; followed = on.1; is = refl })

some7 : (form : Form) (printed : ℕ) → (b : List ℕ) × Behind7 form printed b
some7 form printed =
    let on = some8 form printed in
    ((0 ∷ []) ++ on.0, record { value = []; front = 0 ∷ []; behind = on.0; spelled = record { good = record { few = omega arith; each = All-nil IsInstruction }; is = refl }; followed = on.1; is = refl })

some6 : (form : Form) → (b : List ℕ) × Behind6 form b
some6 form =
    let on = some7 form 0 in (
      little_bytes (printed_width form) 0 ++ on.0,
      record { value = 0; front = little_bytes (printed_width form) 0; behind = on.0; spelled = record { low = omega arith; high = omega arith; is = refl }; followed = on.1; is = refl },
    )

some5 : (form : Form) → (b : List ℕ) × Behind5 form b
some5 form =
    let first = some_registers in
    let on = some6 form in
    (first.0 ++ on.0, record { value = first.1.value; front = first.0; behind = on.0; spelled = first.1.spelled; followed = on.1; is = refl })

some4 : (form : Form) → (b : List ℕ) × Behind4 form b
some4 form =
    let on = some5 form in
    ((0 ∷ []) ++ on.0, record { value = 0; front = 0 ∷ []; behind = on.0; spelled = record { low = omega arith; high = omega arith; is = refl }; followed = on.1; is = refl })

some3 : (form : Form) → (b : List ℕ) × Behind3 form b
some3 form =
    let on = some4 form in
    ((0 ∷ []) ++ on.0, record { value = 0; front = 0 ∷ []; behind = on.0; spelled = record { low = omega arith; high = omega arith; is = refl }; followed = on.1; is = refl })

some2 : (form : Form) → (b : List ℕ) × Behind2 form b
some2 form =
    let on = some3 form in
    ((0 ∷ []) ++ on.0, record { value = Running; front = 0 ∷ []; behind = on.0; spelled = refl; followed = on.1; is = refl })

some1 : (form : Form) → (b : List ℕ) × Behind1 form b
some1 form =
    let on = some2 form in
    ((little_bytes 4 0) ++ on.0, record { value = 0; front = little_bytes 4 0; behind = on.0; spelled = record { low = omega arith; high = omega arith; is = refl }; followed = on.1; is = refl })

-- THE LOCUS of these fields
abbrev pub locus_with : (every : ℕ) (condition : Condition) (host place : ℕ) (registers : List ℕ) (printed : ℕ) (code : List Instr) (calls : List Call) (privates : List Private) (slots : List (Option Cap)) (walk : Option Walk) → LocusState
locus_with every condition host place registers printed code calls privates slots walk =
    record { registers = registers; place = place; code = code; host = host; chain = calls; privates = privates; caps = slots; walk = walk; condition = condition; every = every; printed = printed }

module _ (form : Form) (every : ℕ) (condition : Condition) (host place : ℕ) (registers : List ℕ) (printed : ℕ) (code : List Instr) (calls : List Call) (privates : List Private) (slots : List (Option Cap)) (walk : Option Walk) (a1 a3 a4 a5 a6 a7 a8 a9 a10 a11 : List ℕ) where
  fields_form : IsNumberIn 4 0 last_block every a1 → IsByteIn 0 63 host a3 → IsByteIn 0 128 place a4 → AreRegistersSpelled registers a5 → IsPrintedSpelled form printed a6 → IsCodeSpelled code a7 → AreCallsSpelled (most_calls form) calls a8 → ArePrivatesIn (least_privates form printed (length calls)) (most_privates form) privates a9 → AreCapsSpelled slots a10 → IsWalkSpelled walk a11
      → IsLocusForm (locus_with every condition host place registers printed code calls privates slots walk)
  fields_form f1 f3 f4 f5 f6 f7 f8 f9 f10 f11 =
      let b = bounds form in
      let host_high = f3.high in
      let deep = f8.few in
      let most_deep = b.calls in
      let few = f9.few in
      let most_few = b.privates in
      let high = f6.high in
      let most_high = b.printed in
      let every_high = f1.high in
      record {
        shape = record {
          registers = f5.count;
          place = f4.high;
          code = f7.good;
          host = omega (arith, host_high);
          deep = omega (arith, deep, most_deep);
          chain = f8.good;
          few = omega (arith, few, most_few);
          privates = f9.good;
          ordered = f9.ordered;
          caps = f10.good;
          walk = f11.good;
          printed = omega (arith, high, most_high);
        };
        values = f5.numbers;
        every = omega (arith, every_high);
        rights = f10.rights;
        address = f11.address;
      }

  fields_has : IsPrintedSpelled form printed a6 → AreCallsSpelled (most_calls form) calls a8 → ArePrivatesIn (least_privates form printed (length calls)) (most_privates form) privates a9 → LocusHasForm form (locus_with every condition host place registers printed code calls privates slots walk)
  fields_has f6 f8 f9 = record { count = f6.high; calls = f8.few; least = f9.some; most = f9.few }

locus_in : (y : List ℕ) → AllFields y → IsSpelling Locus y
locus_in y f0 =
    let f1 = f0.followed in
    let f2 = f1.followed in
    let f3 = f2.followed in
    let f4 = f3.followed in
    let f5 = f4.followed in
    let f6 = f5.followed in
    let f7 = f6.followed in
    let f8 = f7.followed in
    let f9 = f8.followed in
    let f10 = f9.followed in
    let f11 = f10.followed in (
      locus_with f1.value f2.value f3.value f4.value f5.value f6.value f7.value f8.value f9.value f10.value f11.value,
      record {
        form = fields_form f0.value f1.value f2.value f3.value f4.value f5.value f6.value f7.value f8.value f9.value f10.value f11.value f1.front f3.front f4.front f5.front f6.front f7.front f8.front f9.front f10.front f10.behind f1.spelled f3.spelled f4.spelled f5.spelled f6.spelled f7.spelled f8.spelled f9.spelled f10.spelled f11.spelled;
        is = joined f0.is f0.spelled (joined f1.is f1.spelled.is (joined f2.is f2.spelled (joined f3.is f3.spelled.is (joined f4.is f4.spelled.is (joined f5.is f5.spelled.is (joined f6.is f6.spelled.is (joined f7.is f7.spelled.is (joined f8.is f8.spelled.is (joined f9.is f9.spelled.is (joined f10.is f10.spelled.is f11.spelled.is)))))))))) ∙ sym (blob_is f0.value (locus_with f1.value f2.value f3.value f4.value f5.value f6.value f7.value f8.value f9.value f10.value f11.value) (fields_has f0.value f1.value f2.value f3.value f4.value f5.value f6.value f7.value f8.value f9.value f10.value f11.value f1.front f3.front f4.front f5.front f6.front f7.front f8.front f9.front f10.front f10.behind f6.spelled f8.spelled f9.spelled));
      },
    )

fields_at : (form : Form) (l : LocusState) (y : List ℕ) → IsLocusForm l → LocusHasForm form l → y ≡ locus_blob l → AllFields y
fields_at form l y f h is =
    let every = f.every in
    let host = f.shape.host in
    record { value = form; front = form_byte form ∷ []; behind = (little_bytes 4 l.every) ++ ((condition_number l.condition ∷ []) ++ ((l.host ∷ []) ++ ((l.place ∷ []) ++ ((flat_map (little_bytes 8) l.registers) ++ ((little_bytes (printed_width form) l.printed) ++ ((listed instr_bytes l.code) ++ ((listed call_bytes l.chain) ++ ((listed private_bytes l.privates) ++ ((caps_bytes l.caps) ++ (walk_bytes l.walk)))))))))); spelled = refl; followed = record { value = l.every; front = little_bytes 4 l.every; behind = (condition_number l.condition ∷ []) ++ ((l.host ∷ []) ++ ((l.place ∷ []) ++ ((flat_map (little_bytes 8) l.registers) ++ ((little_bytes (printed_width form) l.printed) ++ ((listed instr_bytes l.code) ++ ((listed call_bytes l.chain) ++ ((listed private_bytes l.privates) ++ ((caps_bytes l.caps) ++ (walk_bytes l.walk))))))))); spelled = record { low = omega arith; high = omega (arith, every); is = refl }; followed = record { value = l.condition; front = condition_number l.condition ∷ []; behind = (l.host ∷ []) ++ ((l.place ∷ []) ++ ((flat_map (little_bytes 8) l.registers) ++ ((little_bytes (printed_width form) l.printed) ++ ((listed instr_bytes l.code) ++ ((listed call_bytes l.chain) ++ ((listed private_bytes l.privates) ++ ((caps_bytes l.caps) ++ (walk_bytes l.walk)))))))); spelled = refl; followed = record { value = l.host; front = l.host ∷ []; behind = (l.place ∷ []) ++ ((flat_map (little_bytes 8) l.registers) ++ ((little_bytes (printed_width form) l.printed) ++ ((listed instr_bytes l.code) ++ ((listed call_bytes l.chain) ++ ((listed private_bytes l.privates) ++ ((caps_bytes l.caps) ++ (walk_bytes l.walk))))))); spelled = record { low = omega arith; high = omega (arith, host); is = refl }; followed = record { value = l.place; front = l.place ∷ []; behind = (flat_map (little_bytes 8) l.registers) ++ ((little_bytes (printed_width form) l.printed) ++ ((listed instr_bytes l.code) ++ ((listed call_bytes l.chain) ++ ((listed private_bytes l.privates) ++ ((caps_bytes l.caps) ++ (walk_bytes l.walk)))))); spelled = record { low = omega arith; high = f.shape.place; is = refl }; followed = record { value = l.registers; front = flat_map (little_bytes 8) l.registers; behind = (little_bytes (printed_width form) l.printed) ++ ((listed instr_bytes l.code) ++ ((listed call_bytes l.chain) ++ ((listed private_bytes l.privates) ++ ((caps_bytes l.caps) ++ (walk_bytes l.walk))))); spelled = record { count = f.shape.registers; numbers = f.values; is = refl }; followed = record { value = l.printed; front = little_bytes (printed_width form) l.printed; behind = (listed instr_bytes l.code) ++ ((listed call_bytes l.chain) ++ ((listed private_bytes l.privates) ++ ((caps_bytes l.caps) ++ (walk_bytes l.walk)))); spelled = record { low = omega arith; high = h.count; is = refl }; followed = record { value = l.code; front = listed instr_bytes l.code; behind = (listed call_bytes l.chain) ++ ((listed private_bytes l.privates) ++ ((caps_bytes l.caps) ++ (walk_bytes l.walk))); spelled = record { good = f.shape.code; is = refl }; followed = record { value = l.chain; front = listed call_bytes l.chain; behind = (listed private_bytes l.privates) ++ ((caps_bytes l.caps) ++ (walk_bytes l.walk)); spelled = record { few = h.calls; good = f.shape.chain; is = refl }; followed = record { value = l.privates; front = listed private_bytes l.privates; behind = (caps_bytes l.caps) ++ (walk_bytes l.walk); spelled = record { some = h.least; few = h.most; good = f.shape.privates; ordered = f.shape.ordered; is = refl }; followed = record { value = l.caps; front = caps_bytes l.caps; behind = walk_bytes l.walk; spelled = record { good = f.shape.caps; rights = f.rights; is = refl }; followed = record { value = l.walk; spelled = record { good = f.shape.walk; address = f.address; is = refl } }; is = refl }; is = refl }; is = refl }; is = refl }; is = refl }; is = refl }; is = refl }; is = refl }; is = refl }; is = refl }; is = is ∙ blob_is form l h }

fields_in : (y : List ℕ) → IsSpelling Locus y → AllFields y
fields_in y (l, s) =
    let h = has_form l.printed (length l.chain) (length l.privates) s.form.shape.printed s.form.shape.deep s.form.shape.few (is_short l) refl in
    fields_at h.0 l y s.form h.1 s.is

-- WHERE A LOCUS'S BLOB IS REFUSED
module _ (bytes b1 b2 b3 b4 b5 b6 b7 b8 b9 b10 b11 behind : List ℕ) (form : Form) (every : ℕ) (condition : Condition) (host place : ℕ) (registers : List ℕ) (printed : ℕ) (code : List Instr) (calls : List Call) (privates : List Private) (slots : List (Option Cap)) where
  pub form_refused : IsRefused (Spells IsFormSpelled) bytes behind
      → IsRefused (IsSpelling Locus) bytes behind
  form_refused r = refused_as locus_in fields_in (refused_here (λ v a f. some1 v) r)

  pub every_refused : IsFound IsFormSpelled bytes form b1
      → IsRefused (Spells (IsNumberIn 4 0 last_block)) b1 behind
      → IsRefused (IsSpelling Locus) bytes behind
  every_refused f0 r = refused_as locus_in fields_in (refused_later form_tells f0 (refused_here (λ v a f. some2 form) r))

  pub condition_refused : IsFound IsFormSpelled bytes form b1
      → IsFound (IsNumberIn 4 0 last_block) b1 every b2
      → IsRefused (Spells IsConditionSpelled) b2 behind
      → IsRefused (IsSpelling Locus) bytes behind
  condition_refused f0 f1 r = refused_as locus_in fields_in (refused_later form_tells f0 (refused_later (tells 4 0 last_block (omega arith)) f1 (refused_here (λ v a f. some3 form) r)))

  pub host_refused : IsFound IsFormSpelled bytes form b1
      → IsFound (IsNumberIn 4 0 last_block) b1 every b2
      → IsFound IsConditionSpelled b2 condition b3
      → IsRefused (Spells (IsByteIn 0 63)) b3 behind
      → IsRefused (IsSpelling Locus) bytes behind
  host_refused f0 f1 f2 r = refused_as locus_in fields_in (refused_later form_tells f0 (refused_later (tells 4 0 last_block (omega arith)) f1 (refused_later condition_tells f2 (refused_here (λ v a f. some4 form) r))))

  pub place_refused : IsFound IsFormSpelled bytes form b1
      → IsFound (IsNumberIn 4 0 last_block) b1 every b2
      → IsFound IsConditionSpelled b2 condition b3
      → IsFound (IsByteIn 0 63) b3 host b4
      → IsRefused (Spells (IsByteIn 0 128)) b4 behind
      → IsRefused (IsSpelling Locus) bytes behind
  place_refused f0 f1 f2 f3 r = refused_as locus_in fields_in (refused_later form_tells f0 (refused_later (tells 4 0 last_block (omega arith)) f1 (refused_later condition_tells f2 (refused_later (byte_tells 0 63) f3 (refused_here (λ v a f. some5 form) r)))))

  pub registers_refused : IsFound IsFormSpelled bytes form b1
      → IsFound (IsNumberIn 4 0 last_block) b1 every b2
      → IsFound IsConditionSpelled b2 condition b3
      → IsFound (IsByteIn 0 63) b3 host b4
      → IsFound (IsByteIn 0 128) b4 place b5
      → IsRefused (Spells AreRegistersSpelled) b5 behind
      → IsRefused (IsSpelling Locus) bytes behind
  registers_refused f0 f1 f2 f3 f4 r = refused_as locus_in fields_in (refused_later form_tells f0 (refused_later (tells 4 0 last_block (omega arith)) f1 (refused_later condition_tells f2 (refused_later (byte_tells 0 63) f3 (refused_later (byte_tells 0 128) f4 (refused_here (λ v a f. some6 form) r))))))

  pub printed_refused : IsFound IsFormSpelled bytes form b1
      → IsFound (IsNumberIn 4 0 last_block) b1 every b2
      → IsFound IsConditionSpelled b2 condition b3
      → IsFound (IsByteIn 0 63) b3 host b4
      → IsFound (IsByteIn 0 128) b4 place b5
      → IsFound AreRegistersSpelled b5 registers b6
      → IsRefused (Spells (IsPrintedSpelled form)) b6 behind
      → IsRefused (IsSpelling Locus) bytes behind
  printed_refused f0 f1 f2 f3 f4 f5 r = refused_as locus_in fields_in (refused_later form_tells f0 (refused_later (tells 4 0 last_block (omega arith)) f1 (refused_later condition_tells f2 (refused_later (byte_tells 0 63) f3 (refused_later (byte_tells 0 128) f4 (refused_later registers_tell f5 (refused_here (λ v a f. some7 form v) r)))))))

  pub code_refused : IsFound IsFormSpelled bytes form b1
      → IsFound (IsNumberIn 4 0 last_block) b1 every b2
      → IsFound IsConditionSpelled b2 condition b3
      → IsFound (IsByteIn 0 63) b3 host b4
      → IsFound (IsByteIn 0 128) b4 place b5
      → IsFound AreRegistersSpelled b5 registers b6
      → IsFound (IsPrintedSpelled form) b6 printed b7
      → IsRefused (Spells IsCodeSpelled) b7 behind
      → IsRefused (IsSpelling Locus) bytes behind
  code_refused f0 f1 f2 f3 f4 f5 f6 r = refused_as locus_in fields_in (refused_later form_tells f0 (refused_later (tells 4 0 last_block (omega arith)) f1 (refused_later condition_tells f2 (refused_later (byte_tells 0 63) f3 (refused_later (byte_tells 0 128) f4 (refused_later registers_tell f5 (refused_later (printed_tells form) f6 (refused_here (λ v a f. some8 form printed) r))))))))

  pub calls_refused : IsFound IsFormSpelled bytes form b1
      → IsFound (IsNumberIn 4 0 last_block) b1 every b2
      → IsFound IsConditionSpelled b2 condition b3
      → IsFound (IsByteIn 0 63) b3 host b4
      → IsFound (IsByteIn 0 128) b4 place b5
      → IsFound AreRegistersSpelled b5 registers b6
      → IsFound (IsPrintedSpelled form) b6 printed b7
      → IsFound IsCodeSpelled b7 code b8
      → IsRefused (Spells (AreCallsSpelled (most_calls form))) b8 behind
      → IsRefused (IsSpelling Locus) bytes behind
  calls_refused f0 f1 f2 f3 f4 f5 f6 f7 r = refused_as locus_in fields_in (refused_later form_tells f0 (refused_later (tells 4 0 last_block (omega arith)) f1 (refused_later condition_tells f2 (refused_later (byte_tells 0 63) f3 (refused_later (byte_tells 0 128) f4 (refused_later registers_tell f5 (refused_later (printed_tells form) f6 (refused_later code_tells f7 (refused_here (λ v a f. some9 form printed (length v)) r)))))))))

  pub privates_refused : IsFound IsFormSpelled bytes form b1
      → IsFound (IsNumberIn 4 0 last_block) b1 every b2
      → IsFound IsConditionSpelled b2 condition b3
      → IsFound (IsByteIn 0 63) b3 host b4
      → IsFound (IsByteIn 0 128) b4 place b5
      → IsFound AreRegistersSpelled b5 registers b6
      → IsFound (IsPrintedSpelled form) b6 printed b7
      → IsFound IsCodeSpelled b7 code b8
      → IsFound (AreCallsSpelled (most_calls form)) b8 calls b9
      → IsRefused (Spells (ArePrivatesIn (least_privates form printed (length calls)) (most_privates form))) b9 behind
      → IsRefused (IsSpelling Locus) bytes behind
  privates_refused f0 f1 f2 f3 f4 f5 f6 f7 f8 r = refused_as locus_in fields_in (refused_later form_tells f0 (refused_later (tells 4 0 last_block (omega arith)) f1 (refused_later condition_tells f2 (refused_later (byte_tells 0 63) f3 (refused_later (byte_tells 0 128) f4 (refused_later registers_tell f5 (refused_later (printed_tells form) f6 (refused_later code_tells f7 (refused_later (calls_tell (most_calls form)) f8 (refused_here (λ v a f. some10) r))))))))))

  pub caps_refused : IsFound IsFormSpelled bytes form b1
      → IsFound (IsNumberIn 4 0 last_block) b1 every b2
      → IsFound IsConditionSpelled b2 condition b3
      → IsFound (IsByteIn 0 63) b3 host b4
      → IsFound (IsByteIn 0 128) b4 place b5
      → IsFound AreRegistersSpelled b5 registers b6
      → IsFound (IsPrintedSpelled form) b6 printed b7
      → IsFound IsCodeSpelled b7 code b8
      → IsFound (AreCallsSpelled (most_calls form)) b8 calls b9
      → IsFound (ArePrivatesIn (least_privates form printed (length calls)) (most_privates form)) b9 privates b10
      → IsRefused (Spells AreCapsSpelled) b10 behind
      → IsRefused (IsSpelling Locus) bytes behind
  caps_refused f0 f1 f2 f3 f4 f5 f6 f7 f8 f9 r = refused_as locus_in fields_in (refused_later form_tells f0 (refused_later (tells 4 0 last_block (omega arith)) f1 (refused_later condition_tells f2 (refused_later (byte_tells 0 63) f3 (refused_later (byte_tells 0 128) f4 (refused_later registers_tell f5 (refused_later (printed_tells form) f6 (refused_later code_tells f7 (refused_later (calls_tell (most_calls form)) f8 (refused_later (privates_tell (least_privates form printed (length calls)) (most_privates form)) f9 (refused_here (λ v a f. some_walk) r)))))))))))

  pub walk_refused : IsFound IsFormSpelled bytes form b1
      → IsFound (IsNumberIn 4 0 last_block) b1 every b2
      → IsFound IsConditionSpelled b2 condition b3
      → IsFound (IsByteIn 0 63) b3 host b4
      → IsFound (IsByteIn 0 128) b4 place b5
      → IsFound AreRegistersSpelled b5 registers b6
      → IsFound (IsPrintedSpelled form) b6 printed b7
      → IsFound IsCodeSpelled b7 code b8
      → IsFound (AreCallsSpelled (most_calls form)) b8 calls b9
      → IsFound (ArePrivatesIn (least_privates form printed (length calls)) (most_privates form)) b9 privates b10
      → IsFound AreCapsSpelled b10 slots b11
      → IsRefused (Spells IsWalkSpelled) b11 behind
      → IsRefused (IsSpelling Locus) bytes behind
  walk_refused f0 f1 f2 f3 f4 f5 f6 f7 f8 f9 f10 r = refused_as locus_in fields_in (refused_later form_tells f0 (refused_later (tells 4 0 last_block (omega arith)) f1 (refused_later condition_tells f2 (refused_later (byte_tells 0 63) f3 (refused_later (byte_tells 0 128) f4 (refused_later registers_tell f5 (refused_later (printed_tells form) f6 (refused_later code_tells f7 (refused_later (calls_tell (most_calls form)) f8 (refused_later (privates_tell (least_privates form printed (length calls)) (most_privates form)) f9 (refused_later caps_tells f10 r)))))))))))

  pub locus_found : (walk : Option Walk) → IsFound IsFormSpelled bytes form b1
      → IsFound (IsNumberIn 4 0 last_block) b1 every b2
      → IsFound IsConditionSpelled b2 condition b3
      → IsFound (IsByteIn 0 63) b3 host b4
      → IsFound (IsByteIn 0 128) b4 place b5
      → IsFound AreRegistersSpelled b5 registers b6
      → IsFound (IsPrintedSpelled form) b6 printed b7
      → IsFound IsCodeSpelled b7 code b8
      → IsFound (AreCallsSpelled (most_calls form)) b8 calls b9
      → IsFound (ArePrivatesIn (least_privates form printed (length calls)) (most_privates form)) b9 privates b10
      → IsFound AreCapsSpelled b10 slots b11
      → IsFound IsWalkSpelled b11 walk behind
      → IsFound SpellsLocus bytes (locus_with every condition host place registers printed code calls privates slots walk) behind
  locus_found walk f0 f1 f2 f3 f4 f5 f6 f7 f8 f9 f10 f11 =
      let l = locus_with every condition host place registers printed code calls privates slots walk in
      let h = fields_has form every condition host place registers printed code calls privates slots walk f1.front f3.front f4.front f5.front f6.front f7.front f8.front f9.front f10.front f11.front f6.spelled f8.spelled f9.spelled in
      record {
        front = locus_blob l;
        spelled = record { form = fields_form form every condition host place registers printed code calls privates slots walk f1.front f3.front f4.front f5.front f6.front f7.front f8.front f9.front f10.front f11.front f1.spelled f3.spelled f4.spelled f5.spelled f6.spelled f7.spelled f8.spelled f9.spelled f10.spelled f11.spelled; is = refl };
        is = chain ((little_bytes 4 every) ++ ((condition_number condition ∷ []) ++ ((host ∷ []) ++ ((place ∷ []) ++ ((flat_map (little_bytes 8) registers) ++ ((little_bytes (printed_width form) printed) ++ ((listed instr_bytes code) ++ ((listed call_bytes calls) ++ ((listed private_bytes privates) ++ ((caps_bytes slots) ++ (walk_bytes walk))))))))))) behind f0.is f0.spelled (chain ((condition_number condition ∷ []) ++ ((host ∷ []) ++ ((place ∷ []) ++ ((flat_map (little_bytes 8) registers) ++ ((little_bytes (printed_width form) printed) ++ ((listed instr_bytes code) ++ ((listed call_bytes calls) ++ ((listed private_bytes privates) ++ ((caps_bytes slots) ++ (walk_bytes walk)))))))))) behind f1.is f1.spelled.is (chain ((host ∷ []) ++ ((place ∷ []) ++ ((flat_map (little_bytes 8) registers) ++ ((little_bytes (printed_width form) printed) ++ ((listed instr_bytes code) ++ ((listed call_bytes calls) ++ ((listed private_bytes privates) ++ ((caps_bytes slots) ++ (walk_bytes walk))))))))) behind f2.is f2.spelled (chain ((place ∷ []) ++ ((flat_map (little_bytes 8) registers) ++ ((little_bytes (printed_width form) printed) ++ ((listed instr_bytes code) ++ ((listed call_bytes calls) ++ ((listed private_bytes privates) ++ ((caps_bytes slots) ++ (walk_bytes walk)))))))) behind f3.is f3.spelled.is (chain ((flat_map (little_bytes 8) registers) ++ ((little_bytes (printed_width form) printed) ++ ((listed instr_bytes code) ++ ((listed call_bytes calls) ++ ((listed private_bytes privates) ++ ((caps_bytes slots) ++ (walk_bytes walk))))))) behind f4.is f4.spelled.is (chain ((little_bytes (printed_width form) printed) ++ ((listed instr_bytes code) ++ ((listed call_bytes calls) ++ ((listed private_bytes privates) ++ ((caps_bytes slots) ++ (walk_bytes walk)))))) behind f5.is f5.spelled.is (chain ((listed instr_bytes code) ++ ((listed call_bytes calls) ++ ((listed private_bytes privates) ++ ((caps_bytes slots) ++ (walk_bytes walk))))) behind f6.is f6.spelled.is (chain ((listed call_bytes calls) ++ ((listed private_bytes privates) ++ ((caps_bytes slots) ++ (walk_bytes walk)))) behind f7.is f7.spelled.is (chain ((listed private_bytes privates) ++ ((caps_bytes slots) ++ (walk_bytes walk))) behind f8.is f8.spelled.is (chain ((caps_bytes slots) ++ (walk_bytes walk)) behind f9.is f9.spelled.is (chain (walk_bytes walk) behind f10.is f10.spelled.is (joined f11.is f11.spelled.is refl))))))))))) ∙ ap (λ (y : List ℕ). y ++ behind) (sym (blob_is form l h));
      }

-- the same of the program's locus
pub found_locus : (bytes rest : List ℕ) (l : LocusValue) → IsFound SpellsLocus bytes (locus_of l) rest → IsFound IsLocusSpelled bytes l rest
found_locus bytes rest l f = record { front = f.front; spelled = f.spelled; is = f.is }
