-- How long spellings are.
use Rattle.std.proofs.Common.{◌≡◌, ◌≤◌, ℕ, ◌+◌, ◌*◌, Bool, true, false, if◌then◌else◌, List, [], ◌∷◌, ◌++◌, length, Option, Some, None, refl, arith, length-append}
use Rattle.std.specs.List.{flat_map}
use Rattle.byteorder.specs.Endian.{little_bytes}
use Rattle.byteorder.specs.Numbers.{length-bytes_low_first}
use Rattle.model_kernel.specs.base_types.declared.capabilities.Cap.{Cap}
use Rattle.model_kernel.specs.base_types.declared.instructions.Instr.{Instr}
use Rattle.model_kernel.specs.base_types.declared.instructions.Walk.{Walk}
use Rattle.model_kernel.specs.State.{ContainerState, LocusState}
use Rattle.blob_grammar.specs.Forms.{IsContainerForm, IsLocusForm}
use Rattle.blob_grammar.specs.Spelling.{call_bytes, caps_bytes, container_blob, instr_bytes, is_short, listed, locus_blob, locus_front, locus_rest, private_bytes, region_bytes, slot_bytes, used_slots, walk_bytes}
use Rattle.blob_grammar.proofs.Instructions.{length-instr_bytes}

-- items of one length
pub same_items : {A : Type 0} (item : A → List ℕ) (n : ℕ) → ((x : A) → length (item x) ≡ n) → (xs : List A) → length (flat_map item xs) ≡ length xs * n
same_items item n each [] = omega arith
same_items item n each (x ∷ xs) =
    let here = each x in
    let behind = same_items item n each xs in
    let joined = length-append (item x) (flat_map item xs) in
    let grown : (length xs + 1) * n ≡ length xs * n + n = omega arith in
    omega (arith, here, behind, joined, grown)

pub numbers_len : (width : ℕ) (xs : List ℕ) → length (flat_map (little_bytes width) xs) ≡ length xs * width
numbers_len width xs = same_items (little_bytes width) width (length-bytes_low_first 0 width) xs

-- CAPABILITIES
pub used_few : (n : ℕ) (caps : List (Option Cap)) → length (used_slots n caps) ≤ length caps
used_few n [] = omega arith
used_few n (None ∷ caps) = let few = used_few (n + 1) caps in omega (arith, few)
used_few n (Some cap ∷ caps) = let few = used_few (n + 1) caps in omega (arith, few)

pub caps_len : (caps : List (Option Cap)) → length caps ≡ 32 → length (caps_bytes caps) ≤ 97
caps_len caps slots =
    let items = same_items slot_bytes 3 (λ s. refl) (used_slots 0 caps) in
    let few = used_few 0 caps in
    omega (arith, items, few, slots)

pub code_len : (code : List Instr) → length code ≤ 128 → length (listed instr_bytes code) ≤ 2049
code_len code few = let items = same_items instr_bytes 16 length-instr_bytes code in omega (arith, items, few)

-- A CONTAINER
pub container_len : (c : ContainerState) (table : List ℕ) → IsContainerForm c table → length (container_blob c table) ≤ 3283
unfolding container_blob
container_len c table f =
    let code = code_len c.code f.shape.code.few in
    let regions = same_items region_bytes 6 (λ r. refl) c.regions in
    let few = f.shape.few in
    let caps = caps_len c.caps f.shape.caps.slots in
    let blocks = numbers_len 4 table in
    let pages = f.blocks.each_page in
    let size = f.shape.size in
    let one = length-append (listed instr_bytes c.code) (listed region_bytes c.regions ++ (caps_bytes c.caps ++ flat_map (little_bytes 4) table)) in
    let two = length-append (listed region_bytes c.regions) (caps_bytes c.caps ++ flat_map (little_bytes 4) table) in
    let three = length-append (caps_bytes c.caps) (flat_map (little_bytes 4) table) in
    omega (arith, code, regions, few, caps, blocks, pages, size, one, two, three)

-- A LOCUS
walk_len : (walk : Option Walk) → length (walk_bytes walk) ≤ 11
walk_len None = omega arith
walk_len (Some walk) = omega arith

rest_len : (l : LocusState) → IsLocusForm l → length (locus_rest l) ≤ 2399
rest_len l f =
    let code = code_len l.code f.shape.code.few in
    let calls = same_items call_bytes 2 (λ c. refl) l.chain in
    let deep = f.shape.deep in
    let privates = same_items private_bytes 7 (λ p. refl) l.privates in
    let few = f.shape.few in
    let caps = caps_len l.caps f.shape.caps.slots in
    let walk = walk_len l.walk in
    let one = length-append (listed instr_bytes l.code) (listed call_bytes l.chain ++ (listed private_bytes l.privates ++ (caps_bytes l.caps ++ walk_bytes l.walk))) in
    let two = length-append (listed call_bytes l.chain) (listed private_bytes l.privates ++ (caps_bytes l.caps ++ walk_bytes l.walk)) in
    let three = length-append (listed private_bytes l.privates) (caps_bytes l.caps ++ walk_bytes l.walk) in
    let four = length-append (caps_bytes l.caps) (walk_bytes l.walk) in
    omega (arith, code, calls, deep, privates, few, caps, walk, one, two, three, four)

front_len : (l : LocusState) → IsLocusForm l → length (locus_front l) ≡ 71
front_len l f = let registers = numbers_len 8 l.registers in let eight = f.shape.registers in omega (arith, registers, eight)

locus_by_len : (l : LocusState) → IsLocusForm l → (b : Bool)
    → length (if b then 2 ∷ locus_front l ++ locus_rest l else 3 ∷ locus_front l ++ (little_bytes 8 l.printed ++ locus_rest l)) ≤ 2479
locus_by_len l f true =
    let front = front_len l f in let rest = rest_len l f in
    let joined = length-append (locus_front l) (locus_rest l) in omega (arith, front, rest, joined)
locus_by_len l f false =
    let front = front_len l f in let rest = rest_len l f in
    let joined = length-append (locus_front l) (little_bytes 8 l.printed ++ locus_rest l) in omega (arith, front, rest, joined)

pub locus_len : (l : LocusState) → IsLocusForm l → length (locus_blob l) ≤ 2479
unfolding locus_blob
locus_len l f = locus_by_len l f (is_short l)

locus_by_some : (l : LocusState) (b : Bool)
    → 1 ≤ length (if b then 2 ∷ locus_front l ++ locus_rest l else 3 ∷ locus_front l ++ (little_bytes 8 l.printed ++ locus_rest l))
locus_by_some l true = omega arith
locus_by_some l false = omega arith

pub locus_some : (l : LocusState) → 1 ≤ length (locus_blob l)
unfolding locus_blob
locus_some l = locus_by_some l (is_short l)
