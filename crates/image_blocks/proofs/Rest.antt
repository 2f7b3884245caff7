-- The records of an image rest on a few blocks.
use Rattle.std.proofs.Common.{◌≡◌, ℕ, zero, suc, ◌+◌, ◌-◌, ◌≤◌, ◌<◌, Bool, true, false, ◌==◌, if◌then◌else◌, inl, inr, List, [], ◌∷◌, ◌++◌, length, map, take, Option, Some, refl, sym, ap, subst, ◌∙◌, arith}
use Rattle.std.proofs.lemmas.List.{length-map, map-append}
use Rattle.edge_disk.specs.Image.{Image, block_at}
use Rattle.base_types.specs.Edges.{upto}
use Rattle.base_types.specs.declared.records.Rec.{Rec}
use Rattle.image_facts.specs.model_kernel.Words.{first}
use Rattle.image_facts.proofs.model_kernel_lemmas.Lists.{upto_len}
use Rattle.image_facts.specs.Bodies.{number_at, record_in}
use Rattle.image_blocks.specs.Checks.{Bad, active_area, active_by, area_fault, body_in, check_1, check_2, check_3, in_block, log_fault, log_in, records_fault, slot_fault, used_from, used_in}
use Rattle.image_facts.specs.Checks.{body_fault, count_in, header_fault, superblock_fault}
use Rattle.image_blocks.specs.Layout.{body_at, epoch_in, gate_at, header_at, other, slot_gate_at}
use Rattle.image_facts.specs.Layout.{first_number, is_open, slot_count}
use Rattle.image_blocks.specs.Logs.{HasRecords, RecordsRestLaw, RecordsRestOn}
use Rattle.image_blocks.specs.declared.areas.Area.{Area}
use Rattle.image_blocks.specs.declared.areas.Area.TheVariants.{A, B}

pub same_map : {X : Type 0} (f g : ℕ → X) (n : ℕ) → ((i : ℕ) → i < n → f i ≡ g i) → map f (upto n) ≡ map g (upto n)
same_map f g zero same = refl
same_map f g (suc n) same =
    map-append f (upto n) (n ∷ []) ∙ (ap (λ xs. xs ++ map f (n ∷ [])) (same_map f g n (λ i lt. same i (omega (arith, lt))))
    ∙ (ap (λ x. map g (upto n) ++ x ∷ []) (same n (omega arith)) ∙ sym (map-append g (upto n) (n ∷ []))))

-- no more slots are used than there are
used_most_one : (n : ℕ) (b : Bool) (k : ℕ) → k ≤ n → (if b then suc k else 0) ≤ suc n
used_most_one n true k le = omega (arith, le)
used_most_one n false k le = omega arith

pub used_most : (n : ℕ) (image : Image) (area : Area) (i : ℕ) → used_from n image area i ≤ n
used_most zero image area i = omega arith
used_most (suc n) image area i = used_most_one n (is_open image (slot_gate_at area i)) (used_from n image area (i + 1)) (used_most n image area (i + 1))

-- the epochs matter only where both gates are open
active_with : (p q : Bool) (a b k m : ℕ) → (p ≡ true → q ≡ true → (k ≡ a) × (m ≡ b)) → active_by p q k m ≡ active_by p q a b
active_with false false a b k m same = refl
active_with true false a b k m same = refl
active_with false true a b k m same = refl
active_with true true a b k m same = ap (λ n. active_by true true n m) (same refl refl).0 ∙ ap (λ n. active_by true true a n) (same refl refl).1

module _ (image c : Image) where
  open_same : (n : ℕ) → block_at c n ≡ block_at image n → is_open c n ≡ is_open image n
  open_same n e = ap (λ b. first_number b == 1) e

  used_one : (area : Area) (n i : ℕ) (b : Bool) → (b ≡ true → used_from n c area (i + 1) ≡ used_from n image area (i + 1))
      → (if b then suc (used_from n c area (i + 1)) else 0) ≡ (if b then suc (used_from n image area (i + 1)) else 0)
  used_one area n i true rest = ap suc (rest refl)
  used_one area n i false rest = refl

  used_same : (area : Area) (n i : ℕ) → i + n ≤ slot_count → ((j : ℕ) → i ≤ j → j ≤ i + used_from n image area i → j < slot_count → block_at c (slot_gate_at area j) ≡ block_at image (slot_gate_at area j))
      → used_from n c area i ≡ used_from n image area i
  used_same area zero i room same = refl
  used_same area (suc n) i room same =
      let gate : is_open c (slot_gate_at area i) ≡ is_open image (slot_gate_at area i) = open_same (slot_gate_at area i) (same i (omega arith) (omega arith) (omega (arith, room))) in
      ap (λ (b : Bool). if b then suc (used_from n c area (i + 1)) else 0) gate
      ∙ used_one area n i (is_open image (slot_gate_at area i)) (λ e. used_same area n (i + 1) (omega (arith, room)) (λ j from to low.
      same j (omega (arith, from)) (subst (λ (b : Bool). j ≤ i + (if b then suc (used_from n image area (i + 1)) else 0)) (sym e) (omega (arith, to))) low))

  epochs_by : (area : Area) → block_at c (header_at area) ≡ block_at image (header_at area)
      → (is_open image (gate_at (other area)) ≡ true → block_at c (header_at (other area)) ≡ block_at image (header_at (other area)))
      → is_open image 2 ≡ true → is_open image 4 ≡ true → (epoch_in c A ≡ epoch_in image A) × (epoch_in c B ≡ epoch_in image B)
  epochs_by A mine its a b = (ap first_number mine, ap first_number (its b))
  epochs_by B mine its a b = (ap first_number (its a), ap first_number mine)

  -- all that checks 1 to 3 look at
  module _ (recs : List Rec) (h : HasRecords recs image) (len : length c ≡ length image) (same : (n : ℕ) → RecordsRestOn image h.area (length recs) n → block_at c n ≡ block_at image n) where
    used_is : used_in image h.area ≡ length recs
    used_is = sym (upto_len (used_in image h.area)) ∙ (sym (length-map (upto (used_in image h.area)) (λ i. record_in (body_in image h.area i))) ∙ ap length h.log)

    log_gate : (j : ℕ) → j ≤ length recs → j < slot_count → block_at c (slot_gate_at h.area j) ≡ block_at image (slot_gate_at h.area j)
    log_gate j to low = same (slot_gate_at h.area j) (inr (inr (j, inr (to, low, refl))))

    used : used_in c h.area ≡ used_in image h.area
    used = used_same h.area slot_count 0 (omega arith) (λ j from to low. let e = used_is in log_gate j (omega (arith, to, e)) low)

    header_same : block_at c (header_at h.area) ≡ block_at image (header_at h.area)
    header_same = same (header_at h.area) (inr (inl (inr (inr (inl refl)))))

    other_same : is_open image (gate_at (other h.area)) ≡ true → block_at c (header_at (other h.area)) ≡ block_at image (header_at (other h.area))
    other_same gate = same (header_at (other h.area)) (inr (inl (inr (inr (inr (gate, refl))))))

    zero_same : block_at c 0 ≡ block_at image 0
    zero_same = same 0 (inl refl)

    gate_a : is_open c 2 ≡ is_open image 2
    gate_a = open_same 2 (same 2 (inr (inl (inl refl))))

    gate_b : is_open c 4 ≡ is_open image 4
    gate_b = open_same 4 (same 4 (inr (inl (inr (inl refl)))))

    epochs : is_open image 2 ≡ true → is_open image 4 ≡ true → (epoch_in c A ≡ epoch_in image A) × (epoch_in c B ≡ epoch_in image B)
    epochs a b = epochs_by h.area header_same other_same a b

    active_same : active_area c ≡ active_area image
    active_same =
        ap (λ (b : Bool). active_by b (is_open c 4) (epoch_in c A) (epoch_in c B)) gate_a
        ∙ (ap (λ (b : Bool). active_by (is_open image 2) b (epoch_in c A) (epoch_in c B)) gate_b
        ∙ active_with (is_open image 2) (is_open image 4) (epoch_in image A) (epoch_in image B) (epoch_in c A) (epoch_in c B) epochs)

    body_same : (i : ℕ) → i < used_in image h.area → body_in c h.area i ≡ body_in image h.area i
    body_same i lt = (let e = used_is in same (body_at h.area i) (inr (inr (i, inl (omega (arith, lt, e), refl)))))

    log_same : log_in c h.area ≡ log_in image h.area
    log_same = ap (λ n. map (λ i. record_in (body_in c h.area i)) (upto n)) used ∙ same_map (λ i. record_in (body_in c h.area i)) (λ i. record_in (body_in image h.area i)) (used_in image h.area) (λ i lt. ap record_in (body_same i lt))

    count_same : count_in c ≡ count_in image
    count_same = ap (number_at 12 4) zero_same

    slot_same : (i : ℕ) → i < used_in image h.area → slot_fault c h.area i ≡ slot_fault image h.area i
    slot_same i lt =
        ap (λ n. in_block (body_at h.area i) (body_fault n (take i (log_in c h.area)) (body_in c h.area i))) count_same
        ∙ (ap (λ (rs : List Rec). in_block (body_at h.area i) (body_fault (count_in image) (take i rs) (body_in c h.area i))) log_same
        ∙ ap (λ b. in_block (body_at h.area i) (body_fault (count_in image) (take i (log_in image h.area)) b)) (body_same i lt))

    log_fault_same : log_fault c (Some h.area) ≡ log_fault image (Some h.area)
    log_fault_same = ap (λ n. first (map (slot_fault c h.area) (upto n))) used ∙ ap first (same_map (slot_fault c h.area) (slot_fault image h.area) (used_in image h.area) slot_same)

    check_1_same : check_1 c ≡ check_1 image
    check_1_same =
        ap (λ n. if n == 0 then Some (record { block = 0; place = 0 }) else in_block 0 (superblock_fault n (block_at c 0))) len
        ∙ ap (λ b. if length image == 0 then Some (record { block = 0; place = 0 }) else in_block 0 (superblock_fault (length image) b)) zero_same

    check_2_same : check_2 c ≡ check_2 image
    check_2_same =
        ap (area_fault c) active_same ∙ (ap (area_fault c) h.active
        ∙ (ap (λ b. in_block (header_at h.area) (header_fault b)) header_same ∙ sym (ap (area_fault image) h.active)))

    check_3_same : check_3 c ≡ check_3 image
    check_3_same = ap (log_fault c) active_same ∙ (ap (log_fault c) h.active ∙ (log_fault_same ∙ sym (ap (log_fault image) h.active)))

    faults_same : records_fault c ≡ records_fault image
    unfolding records_fault
    faults_same =
        ap (λ (o : Option Bad). first (o ∷ check_2 c ∷ check_3 c ∷ [])) check_1_same
        ∙ (ap (λ (o : Option Bad). first (check_1 image ∷ o ∷ check_3 c ∷ [])) check_2_same
        ∙ ap (λ (o : Option Bad). first (check_1 image ∷ check_2 image ∷ o ∷ [])) check_3_same)

    records_rest : HasRecords recs c
    records_rest = record { good = faults_same ∙ h.good; area = h.area; active = active_same ∙ h.active; log = log_same ∙ h.log }

pub records_rest_law : RecordsRestLaw
unfolding records_rest
records_rest_law recs image c h len same = (records_rest image c recs h len same, refl)
