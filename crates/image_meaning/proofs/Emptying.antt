-- The image in which nothing is stored yet.
use Rattle.std.proofs.Common.{◌≡◌, ℕ, ◌≤◌, ◌<◌, ◌^◌, ◌==◌, ◌&&◌, Bool, true, false, if◌then◌else◌, List, [], ◌∷◌, length, replicate, Option, Some, None, nat_le, refl, sym, ap, ◌∙◌, arith, eqb-true}
use Rattle.std.proofs.lemmas.Bool.{false≢true, leb-true}
use Rattle.image_blocks.specs.edge_disk.Image.{Image, block_at}
use Rattle.image_blocks.specs.base_types.declared.records.Rec.{Rec}
use Rattle.blob_grammar.proofs.model_kernel_lemmas.Basics.{and_left, and_right}
use Rattle.blob_grammar.specs.model_kernel.State.{Supply, empty_state}
use Rattle.blob_grammar.specs.model_kernel.Words.{first}
use Rattle.byteorder.specs.Numbers.{little_number-reads_back}
use Rattle.image_blocks.specs.image_facts.Bodies.{number_at}
use Rattle.image_blocks.specs.image_facts.Checks.{count_in, header_fault, is_count, superblock_fault, unless_at}
use Rattle.image_blocks.specs.Checks.{in_block}
use Rattle.image_blocks.specs.image_facts.Layout.{first_number, header_block, superblock}
use Rattle.image_blocks.specs.Logs.{HasFront, HasLog, HasRecords, Place}
use Rattle.image_blocks.specs.declared.areas.Area.TheVariants.{A}
use Rattle.image_blocks.proofs.Reading.{log_law}
use Rattle.image_meaning.specs.Empty.{IsFormatted}
use Rattle.image_meaning.specs.Meaning.{Means}
use Rattle.image_meaning.proofs.Fitting.{none_some}

pub no_record : (s : Supply) (image : Image) → HasRecords [] image → Means s image empty_state
no_record s image has = record {
  accepted = record {
    recs = [];
    has = has;
    parts = λ x. None;
    spelt = λ x. refl;
    fit = λ x part is. none_some part is;
  };
  is = refl;
}

-- A FORMATTED IMAGE

count_read : (count : ℕ) → count < 2 ^ 32 → number_at 12 4 (superblock count) ≡ count
unfolding superblock
count_read count small = little_number-reads_back 4 count (replicate 1008 0) small

superblock_good : (blocks count : ℕ) → count < 2 ^ 32 → is_count blocks count ≡ true → superblock_fault blocks (superblock count) ≡ None
unfolding superblock
superblock_good blocks count small enough =
    ap (λ n. first (unless_at (is_count blocks n) 12 ∷ None ∷ [])) (count_read count small) ∙ ap (λ b. first (unless_at b 12 ∷ None ∷ [])) enough

header_good : header_fault (header_block 1) ≡ None
unfolding header_block
header_good = refl

epoch_by : (block : List ℕ) → block ≡ header_block 1 → first_number block ≡ 1
unfolding header_block
epoch_by block is = ap first_number is

none_rec : {X : Type 0} (r : Rec) → None ≡ Some r → X
none_rec r e = absurd (false≢true (ap is_there e))
  where
    is_there : Option Rec → Bool
    is_there None = false
    is_there (Some p) = true

module _ (count : ℕ) (image : Image) (f : IsFormatted count image) where
  many : 2600 ≤ count
  many = leb-true 2600 count (and_left (nat_le 2600 count) (nat_le count 65536) (and_left (nat_le 2600 count && nat_le count 65536) (nat_le count (length image)) f.size))

  few : count ≤ 65536
  few = leb-true count 65536 (and_right (nat_le 2600 count) (nat_le count 65536) (and_left (nat_le 2600 count && nat_le count 65536) (nat_le count (length image)) f.size))

  within : count ≤ length image
  within = leb-true count (length image) (and_right (nat_le 2600 count && nat_le count 65536) (nat_le count (length image)) f.size)

  count_is : count_in image ≡ count
  count_is = ap (number_at 12 4) f.first ∙ count_read count (let low = few in omega (arith, low))

  blocks_there : (b : Bool) → (length image == 0) ≡ b → (if b then Some (record { block = 0; place = 0 }) else in_block 0 (superblock_fault (length image) (block_at image 0))) ≡ None
  blocks_there true e = absurd (let is : length image ≡ 0 = eqb-true (length image) 0 e in let low = many in let high = within in omega (arith, is, low, high))
  blocks_there false e =
      ap (in_block 0) (ap (superblock_fault (length image)) f.first ∙ superblock_good (length image) count (let low = few in omega (arith, low)) f.size)

  abbrev place : Place
  place = record { active = A; epoch = 1 }

  epoch_is : first_number (block_at image 1) ≡ 1
  epoch_is = epoch_by (block_at image 1) f.epoch

  front : HasFront count place image
  front = record { first = blocks_there (length image == 0) refl; count_is = count_is; header = ap header_fault f.epoch ∙ header_good }

  log : HasLog place [] image
  log = record {
    active = record { gate = f.active; epoch = epoch_is; above = λ there. absurd (false≢true (sym f.other ∙ there)) };
    slots = record {
      few = omega arith;
      bodies = λ i r is. none_rec r is;
      gates = λ i lt. absurd (omega (arith, lt));
      closed = λ lt. f.none;
    };
  }

  formatted_records : HasRecords [] image
  formatted_records = log_law count place [] image front log (λ i r is. none_rec r is)

pub formatted : (s : Supply) (count : ℕ) (image : Image) → IsFormatted count image → Means s image empty_state
formatted s count image f = no_record s image (formatted_records count image f)
