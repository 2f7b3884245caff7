-- Images with one record, whose blob is no spelling or has other bytes behind it.
use Rattle.std.proofs.Common.{◌≡◌, ℕ, zero, suc, ◌+◌, ◌-◌, ◌<◌, ◌≤◌, false, true, Bool, List, [], ◌∷◌, ◌++◌, length, take, replicate, Option, Some, None, refl, arith, inl, inr, sym, ap, subst, ◌∙◌, lit<, lit≤, ◌==◌, if◌then◌else◌, ◌&&◌}
use Rattle.std.proofs.lemmas.List.{get_or-append_right}
use Rattle.std.specs.Prelude.{slice_index}
use Rattle.base_types.specs.declared.entities.Kind.TheVariants.{Container}
use Rattle.base_types.specs.declared.records.Rec.{Rec}
use Rattle.image_meaning.specs.model_kernel.Choices.{covered, greatest}
use Rattle.image_meaning.specs.model_kernel.State.{ContainerState}
use Rattle.image_meaning.proofs.blob_grammar_lemmas.Smallest.{clash, empty_container, small_container}
use Rattle.image_meaning.specs.blob_grammar.Forms.{IsSpelling, SpellsContainer}
use Rattle.image_meaning.specs.blob_grammar.Places.{Begins, GoesPast, IsBadPlace}
use Rattle.image_meaning.specs.blob_grammar.Spelling.{container_blob}
use Rattle.image_meaning.specs.image_facts.Bodies.{blob_in, blob_room, body_block, record_in}
use Rattle.image_meaning.specs.image_blocks.Checks.{active_area, log_in, records_fault}
use Rattle.image_meaning.specs.image_facts.Checks.{blocks_fault, stamps_fault}
use Rattle.image_meaning.specs.image_facts.Layout.{header_block, open_gate, superblock}
use Rattle.image_meaning.specs.image_blocks.Logs.{HasRecords}
use Rattle.image_meaning.specs.image_blocks.declared.areas.Area.TheVariants.{A}
use Rattle.image_meaning.specs.Foreign.{IsBadBlob, IsBadRest, IsBadSpelling, IsBodyBlock, IsFirstRest, IsForeign}
use Rattle.image_meaning.specs.Parts.{chosen, cut_of}
use Rattle.image_examples.specs.Examples.{bad_at}
use Rattle.image_examples.specs.Images.{box_block, box_image, first_record, spotted_block, strange_block}
use Rattle.image_examples.proofs.Worked.{zeros_in}

pub lone_chosen : chosen (first_record ∷ []) 1 ≡ Some first_record
unfolding greatest covered
lone_chosen = refl

pub none_chosen : (x : ℕ) → (1 == x) ≡ false → chosen (first_record ∷ []) x ≡ None
none_chosen x e = ap (λ b. if b && 1 == cut_of (first_record ∷ []) x then Some first_record else None) e

pub lone_body : IsBodyBlock A (first_record ∷ []) 1 first_record 5
lone_body = record { slot = 0; there = refl; first = λ earlier lt. absurd (omega (arith, lt)); is_chosen = lone_chosen; is = refl }

pub box_spelt : SpellsContainer empty_container (0 ∷ []) (take 23 box_block)
unfolding container_blob
box_spelt = record { form = small_container; is = refl }

none_below : (y : ℕ) (r : Rec) → y < 1 → chosen (first_record ∷ []) y ≡ Some r → ⊥
none_below zero r lt e = clash r (sym (none_chosen zero refl) ∙ e)
none_below (suc y) r lt e = omega (arith, lt)

-- A BYTE BEHIND THE BLOB

spotted_good : records_fault (box_image spotted_block) ≡ None
unfolding records_fault superblock header_block open_gate body_block record_in stamps_fault blocks_fault
spotted_good = refl

spotted_active : active_area (box_image spotted_block) ≡ Some A
unfolding superblock header_block open_gate body_block
spotted_active = refl

spotted_log : log_in (box_image spotted_block) A ≡ first_record ∷ []
unfolding superblock header_block open_gate body_block record_in
spotted_log = refl

spotted_records : HasRecords (first_record ∷ []) (box_image spotted_block)
spotted_records = record { good = spotted_good; area = A; active = spotted_active; log = spotted_log }

spotted_room : blob_room (box_image spotted_block) first_record ≡ spotted_block
unfolding superblock header_block open_gate body_block
spotted_room = refl

-- the zeros between the blob and the 5
behind_front : List ℕ
behind_front = replicate 77 0 ++ 5 ∷ replicate 923 0

spot_behind : (q : ℕ) → 23 ≤ q → q < 100 → slice_index spotted_block q ≡ 0
unfolding behind_front
spot_behind q low high = get_or-append_right (take 23 box_block) behind_front 23 q 0 refl low ∙ zeros_in 77 (q - 23) (5 ∷ replicate 923 0) (omega (arith, low, high))

first_spot : IsFirstRest spotted_block 23 100
first_spot = record {
  from = omega arith;
  within = lit< tt;
  not_zero = five;
  first = spot_behind;
}
  where
    five : ◌≡◌ {A = ℕ} 5 0 → ⊥
    five e = omega (arith, e)

spotted_spelling : IsSpelling Container (take 23 spotted_block)
spotted_spelling = (empty_container, 0 ∷ [], box_spelt)

spotted_rest : IsBadRest 1 (box_image spotted_block) first_record (bad_at 2565 100)
spotted_rest = (
  subst (λ room. IsSpelling Container (take 23 room)) (sym spotted_room) spotted_spelling,
  100,
  subst (λ room. IsFirstRest room 23 100) (sym spotted_room) first_spot,
  refl,
)

spotted_bad : IsBadBlob (box_image spotted_block) (first_record ∷ []) A (bad_at 2565 100)
spotted_bad = record {
  entity = 1;
  rec = first_record;
  body = 5;
  at = lone_body;
  before = λ y r lt e. absurd (none_below y r lt e);
  fault = inr spotted_rest;
}

pub behind_blob : IsForeign (box_image spotted_block) (bad_at 2565 100)
unfolding spotted_records
behind_blob = inr (record { recs = first_record ∷ []; has = spotted_records; fault = inl spotted_bad })

-- A FIRST BYTE OF NO CONTAINER

strange_good : records_fault (box_image strange_block) ≡ None
unfolding records_fault superblock header_block open_gate body_block record_in stamps_fault blocks_fault
strange_good = refl

strange_active : active_area (box_image strange_block) ≡ Some A
unfolding superblock header_block open_gate body_block
strange_active = refl

strange_log : log_in (box_image strange_block) A ≡ first_record ∷ []
unfolding superblock header_block open_gate body_block record_in
strange_log = refl

strange_records : HasRecords (first_record ∷ []) (box_image strange_block)
strange_records = record { good = strange_good; area = A; active = strange_active; log = strange_log }

strange_room : blob_room (box_image strange_block) first_record ≡ strange_block
unfolding superblock header_block open_gate body_block
strange_room = refl

abbrev head_or : ℕ → List ℕ → ℕ
head_or d [] = d
head_or d (x ∷ xs) = x

-- the spelling of a container begins with a 1
no_two : (rest : List ℕ) → IsSpelling Container (2 ∷ rest) → ⊥
unfolding container_blob
no_two rest (c, table, spelled) = let e : 2 ≡ 1 = ap (head_or 0) spelled.is in omega (arith, e)

strange_place : IsBadPlace (IsSpelling Container) (take 23 strange_block) 0
strange_place = record {
  within = omega arith;
  begins = (take 23 box_block, (empty_container, 0 ∷ [], box_spelt));
  ends = λ lt more. no_two more.0 more.1;
  cut_off = λ e. absurd (cut e);
}
  where
    cut : 0 ≡ length (take 23 strange_block) → ⊥
    cut e = let is : length (take 23 strange_block) ≡ 23 = refl in omega (arith, e, is)

-- the empty front is no container
never_whole : GoesPast (IsSpelling Container) (take 23 strange_block) 0 → ⊥
unfolding container_blob
never_whole over = let e : 0 ≡ 1 = ap (head_or 0) over.whole.2.is in omega (arith, e)

strange_spelling : IsBadSpelling 1 (box_image strange_block) first_record 5 (bad_at 2565 0)
strange_spelling = (
  0,
  subst (λ room. IsBadPlace (IsSpelling Container) (take 23 room) 0) (sym strange_room) strange_place,
  inr (λ over. never_whole (subst (λ room. GoesPast (IsSpelling Container) (take 23 room) 0) strange_room over), refl),
)

strange_bad : IsBadBlob (box_image strange_block) (first_record ∷ []) A (bad_at 2565 0)
strange_bad = record {
  entity = 1;
  rec = first_record;
  body = 5;
  at = lone_body;
  before = λ y r lt e. absurd (none_below y r lt e);
  fault = inl strange_spelling;
}

pub other_kind : IsForeign (box_image strange_block) (bad_at 2565 0)
unfolding strange_records
other_kind = inr (record { recs = first_record ∷ []; has = strange_records; fault = inl strange_bad })
