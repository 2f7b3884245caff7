-- How long pieces are at most, by the lists that they spell.
use Rattle.std.proofs.Common.{◌≡◌, ◌≤◌, ℕ, List, length, Option, refl, ap, arith}
use Rattle.std.specs.List.{flat_map}
use Rattle.byteorder.specs.Endian.{little_bytes}
use Rattle.model_kernel.specs.base_types.declared.capabilities.Cap.{Cap}
use Rattle.model_kernel.specs.base_types.declared.capabilities.Private.{Private}
use Rattle.model_kernel.specs.base_types.declared.capabilities.Region.{Region}
use Rattle.model_kernel.specs.base_types.declared.instructions.Call.{Call}
use Rattle.model_kernel.specs.base_types.declared.instructions.Instr.{Instr}
use Rattle.blob_grammar.specs.Spelling.{call_bytes, caps_bytes, instr_bytes, listed, private_bytes, region_bytes}
use Rattle.blob_grammar.proofs.Sizes.{caps_len, code_len, numbers_len, same_items}

-- a code of at most 128 instructions
pub code_most : (xs ys : List Instr) → xs ≡ ys → length ys ≤ 128 → length (listed instr_bytes xs) ≤ 2049
code_most xs ys is few = let same = ap (λ (l : List Instr). length l) is in code_len xs (omega (arith, same, few))

-- at most 16 regions
pub regions_most : (xs ys : List Region) → xs ≡ ys → length ys ≤ 16 → length (listed region_bytes xs) ≤ 97
regions_most xs ys is few =
    let same = ap (λ (l : List Region). length l) is in
    let items = same_items region_bytes 6 (λ x. refl) xs in
    omega (arith, same, few, items)

-- at most 64 calls
pub calls_most : (xs ys : List Call) → xs ≡ ys → length ys ≤ 64 → length (listed call_bytes xs) ≤ 129
calls_most xs ys is few =
    let same = ap (λ (l : List Call). length l) is in
    let items = same_items call_bytes 2 (λ x. refl) xs in
    omega (arith, same, few, items)

-- at most 16 private regions
pub privates_most : (xs ys : List Private) → xs ≡ ys → length ys ≤ 16 → length (listed private_bytes xs) ≤ 113
privates_most xs ys is few =
    let same = ap (λ (l : List Private). length l) is in
    let items = same_items private_bytes 7 (λ x. refl) xs in
    omega (arith, same, few, items)

-- 32 slots
pub caps_most : (xs ys : List (Option Cap)) → xs ≡ ys → length ys ≡ 32 → length (caps_bytes xs) ≤ 97
caps_most xs ys is slots = let same = ap (λ (l : List (Option Cap)). length l) is in caps_len xs (omega (arith, same, slots))

-- the blocks of at most 256 pages
pub blocks_most : (blocks : List ℕ) → length blocks ≤ 256 → length (flat_map (little_bytes 4) blocks) ≤ 1024
blocks_most blocks few = let items = numbers_len 4 blocks in omega (arith, items, few)

-- eight registers
pub words_long : (words : List ℕ) → length words ≡ 8 → length (flat_map (little_bytes 8) words) ≡ 64
words_long words eight = let items = numbers_len 8 words in omega (arith, items, eight)
