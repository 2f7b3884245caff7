-- The worked images, computed.
use Rattle.std.proofs.Common.{◌≡◌, ℕ, zero, suc, ◌<◌, false, true, Bool, List, [], ◌∷◌, take, replicate, Option, Some, None, refl, arith, inr, sym, ap, subst, ◌==◌, if◌then◌else◌, ◌&&◌, eqb-true}
use Rattle.std.proofs.lemmas.Bool.{false≢true}
use Rattle.std.proofs.lemmas.Bool.Decides.{nat_tests}
use Rattle.std.specs.Prelude.{All, MatchOption, drop, slice_set}
use Rattle.base_types.specs.declared.records.Rec.{Rec}
use Rattle.image_meaning.specs.model_kernel.Choices.{covered, greatest}
use Rattle.image_meaning.proofs.blob_grammar_lemmas.Smallest.{clash, empty_container, small_container}
use Rattle.image_meaning.specs.blob_grammar.Forms.{SpellsContainer}
use Rattle.image_meaning.specs.blob_grammar.Spelling.{container_blob}
use Rattle.image_meaning.specs.image_facts.Bodies.{body_block, record_in, blob_room}
use Rattle.image_meaning.specs.image_blocks.Checks.{active_area, log_in, records_fault}
use Rattle.image_meaning.specs.image_facts.Checks.{blocks_fault, count_in, stamps_fault}
use Rattle.image_meaning.specs.image_facts.Layout.{header_block, open_gate, superblock}
use Rattle.image_meaning.specs.image_blocks.Logs.{HasRecords}
use Rattle.image_meaning.specs.image_blocks.declared.areas.Area.TheVariants.{A}
use Rattle.image_meaning.specs.Fits.{IsFit}
use Rattle.image_meaning.specs.Foreign.{IsBodyBlock, IsForeign, IsUnfit}
use Rattle.image_meaning.specs.Parts.{AreSpelt, ContainerPart, IsSpelt, Part, chosen, cut_of}
use Rattle.image_examples.specs.Examples.{bad_at, box_alone}
use Rattle.image_examples.specs.Images.{WorkedImages, box_block, first_record, image_with, lone_box, zeros}
use Rattle.image_examples.proofs.Worked.{is_there}
use Rattle.image_examples.proofs.BlobImages.{behind_blob, box_spelt, lone_body, lone_chosen, none_chosen, other_kind}

no_block : records_fault [] ≡ Some (bad_at 0 0)
unfolding records_fault
no_block = refl

one_less : records_fault (superblock 2600 ∷ replicate 2598 zeros) ≡ Some (bad_at 0 12)
unfolding records_fault superblock
one_less = refl

no_gate : records_fault (image_with (header_block 1 ∷ zeros ∷ header_block 2 ∷ zeros ∷ [])) ≡ Some (bad_at 2 0)
unfolding records_fault superblock header_block
no_gate = refl

equal_epochs : records_fault (image_with (header_block 7 ∷ open_gate ∷ header_block 7 ∷ open_gate ∷ [])) ≡ Some (bad_at 3 0)
unfolding records_fault superblock header_block open_gate
equal_epochs = refl

second_byte : records_fault (image_with (header_block 1 ∷ slice_set zeros 1 1 ∷ header_block 2 ∷ zeros ∷ [])) ≡ Some (bad_at 2 0)
unfolding records_fault superblock header_block
second_byte = refl

epoch_zero : records_fault (image_with (zeros ∷ open_gate ∷ header_block 1 ∷ zeros ∷ [])) ≡ Some (bad_at 1 0)
unfolding records_fault superblock header_block open_gate
epoch_zero = refl

greater_header : records_fault (image_with (header_block 1 ∷ open_gate ∷ slice_set (header_block 2) 8 1 ∷ open_gate ∷ [])) ≡ Some (bad_at 3 8)
unfolding records_fault superblock header_block open_gate
greater_header = refl

lesser_header : records_fault (image_with (slice_set (header_block 1) 8 1 ∷ open_gate ∷ header_block 2 ∷ open_gate ∷ [])) ≡ None
unfolding records_fault superblock header_block open_gate
lesser_header = refl

empty_slot : records_fault (image_with (header_block 1 ∷ open_gate ∷ zeros ∷ zeros ∷ zeros ∷ open_gate ∷ [])) ≡ Some (bad_at 5 4)
unfolding records_fault superblock header_block open_gate stamps_fault blocks_fault
empty_slot = refl

same_twice : records_fault (image_with (header_block 1 ∷ open_gate ∷ zeros ∷ zeros ∷ body_block first_record ∷ open_gate ∷ body_block first_record ∷ open_gate ∷ [])) ≡ Some (bad_at 7 8)
unfolding records_fault superblock header_block open_gate body_block record_in stamps_fault blocks_fault
same_twice = refl

behind_closed : records_fault (image_with (header_block 1 ∷ open_gate ∷ zeros ∷ zeros ∷ zeros ∷ zeros ∷ zeros ∷ open_gate ∷ [])) ≡ None
unfolding records_fault superblock header_block open_gate
behind_closed = refl

-- THE LONE CONTAINER

lone_good : records_fault lone_box ≡ None
unfolding records_fault superblock header_block open_gate body_block record_in stamps_fault blocks_fault
lone_good = refl

lone_active : active_area lone_box ≡ Some A
unfolding superblock header_block open_gate body_block
lone_active = refl

lone_log : log_in lone_box A ≡ first_record ∷ []
unfolding superblock header_block open_gate body_block record_in
lone_log = refl

lone_records : HasRecords (first_record ∷ []) lone_box
lone_records = record { good = lone_good; area = A; active = lone_active; log = lone_log }

lone_room : blob_room lone_box first_record ≡ box_block
unfolding superblock header_block open_gate body_block
lone_room = refl

abbrev box_part : Part
box_part = ContainerPart empty_container (0 ∷ [])

other_way : (x : ℕ) → (x == 1) ≡ false → (1 == x) ≡ false
other_way x e = grind (arith, nat_tests, e)

all_zero : (n : ℕ) → All (λ (b : ℕ). b ≡ 0) (replicate n 0)
all_zero zero i d lt = absurd (omega (arith, lt))
all_zero (suc n) zero d lt = refl
all_zero (suc n) (suc i) d lt = all_zero n i d (omega (arith, lt))

box_rest : All (λ b. b ≡ 0) (drop 23 box_block)
box_rest = all_zero 1001

lone_spelling : IsSpelt lone_box 1 first_record box_part
lone_spelling = record {
  kind = refl;
  spells = subst (λ room. SpellsContainer empty_container (0 ∷ []) (take 23 room)) (sym lone_room) box_spelt;
  rest = subst (λ room. All (λ b. b ≡ 0) (drop 23 room)) (sym lone_room) box_rest;
}

abbrev spelt_as : (ℕ → Option Part) → ℕ → Option Rec → Type 0
spelt_as parts x found = MatchOption found (parts x ≡ None) (λ r. (part : Part) × (parts x ≡ Some part) × IsSpelt lone_box x r part)

lone_spelt : AreSpelt lone_box (first_record ∷ []) (box_alone box_part)
lone_spelt x = by_test (x == 1) refl
  where
    by_test : (b : Bool) → (x == 1) ≡ b → spelt_as (box_alone box_part) x (chosen (first_record ∷ []) x)
    by_test true e = subst (λ y. spelt_as (box_alone box_part) y (chosen (first_record ∷ []) y)) (sym (eqb-true x 1 e)) (subst (spelt_as (box_alone box_part) 1) (sym lone_chosen) (box_part, refl, lone_spelling))
    by_test false e = subst (spelt_as (box_alone box_part) x) (sym (none_chosen x (other_way x e))) (ap (λ b. if b then Some box_part else None) e)

unnamed : (count : ℕ) (recs : List Rec) → IsFit count recs (box_alone box_part) 1 box_part → ⊥
unnamed count recs fit = false≢true (ap is_there fit.chosen_atlas)

lone_unfit : IsUnfit lone_box (first_record ∷ []) A (bad_at 5 0)
lone_unfit = record {
  parts = box_alone box_part;
  spelt = lone_spelt;
  entity = 1;
  part = box_part;
  is = refl;
  rec = first_record;
  body = 5;
  at = lone_body;
  before = λ y p lt is. absurd (below y p lt is);
  unfit = unnamed (count_in lone_box) (first_record ∷ []);
  place = refl;
}
  where
    below : (y : ℕ) (p : Part) → y < 1 → box_alone box_part y ≡ Some p → ⊥
    below zero p lt is = clash p is
    below (suc y) p lt is = omega (arith, lt)

without_atlas : IsForeign lone_box (bad_at 5 0)
unfolding lone_records
without_atlas = inr (record { recs = first_record ∷ []; has = lone_records; fault = inr lone_unfit })

pub images : WorkedImages
images = record {
  no_block = no_block;
  one_less = one_less;
  no_gate = no_gate;
  equal_epochs = equal_epochs;
  second_byte = second_byte;
  epoch_zero = epoch_zero;
  greater_header = greater_header;
  lesser_header = lesser_header;
  empty_slot = empty_slot;
  same_twice = same_twice;
  behind_closed = behind_closed;
  behind_blob = behind_blob;
  other_kind = other_kind;
  without_atlas = without_atlas;
}
