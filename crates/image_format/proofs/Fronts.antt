-- The blocks of an empty image, as they are written one after the other.
use Rattle.std.proofs.Common.{◌≡◌, ◌≢◌, ◌<◌, ◌≤◌, ◌+◌, ◌==◌, ◌⊎◌, inl, inr, ℕ, zero, suc, Bool, true, false, ◌&&◌, List, [], ◌∷◌, length, set, nat_le, refl, sym, ap, subst, ◌∙◌, arith}
use Rattle.std.proofs.lemmas.Bool.{le-leb}
use Rattle.std.proofs.lemmas.List.{get_or-set_other, get_or-set_same}
use Rattle.edge_disk.specs.Image.{HasRun, Image, SameOutside, block_at}
use Rattle.edge_disk.proofs.Images.{SameOutside-one, SameOutside-set, SameOutside-trans, SameOutside-weaker}
use Rattle.image_blocks.specs.image_facts.Checks.{is_count}
use Rattle.image_blocks.specs.image_facts.Layout.{closed_gate, first_number, header_block, is_open, open_gate, superblock}
use Rattle.log_append.proofs.log_facts_lemmas.Through.{gate_closed, gate_open}
use Rattle.image_meaning.specs.Empty.{IsFormatted}
use Rattle.image_format.specs.Formats.{HasEmptyFront, IsAreaGate, IsClosed, IsFrontBlock, IsMade}

-- both gates were written
pub gates_closed : (old mid new : Image) (a b : ℕ) (one two : List ℕ) → a ≡ 2 → b ≡ 4 → one ≡ closed_gate → two ≡ closed_gate → 4 < length old → mid ≡ set old a one → new ≡ set mid b two → IsClosed new
gates_closed old mid new a b one two is_a is_b is_one is_two within wrote_a wrote_b =
    let first : mid ≡ set old 2 one = wrote_a ∙ ap (λ n. set old n one) is_a in
    let second : new ≡ set mid 4 two = wrote_b ∙ ap (λ n. set mid n two) is_b in
    let len : length mid ≡ length old = (let e = (SameOutside-set old 2 one).len in ap length first ∙ e) in
    let low : 2 < length old = omega (arith, within) in
    let high : 4 < length mid = omega (arith, within, len) in
    let ne : 2 ≢ 4 = omega arith in
    record {
      a = gate_closed new 2 (ap (λ (i : Image). block_at i 2) second ∙ (get_or-set_other mid 4 2 two [] ne ∙ (ap (λ (i : Image). block_at i 2) first ∙ (get_or-set_same old 2 one [] low ∙ is_one))));
      b = gate_closed new 4 (ap (λ (i : Image). block_at i 4) second ∙ (get_or-set_same mid 4 two [] high ∙ is_two));
    }

-- the front was written
pub front_written : (count : ℕ) (run two new : Image) (b gate : ℕ) (first epoch other none : List ℕ) → b ≡ 3 → gate ≡ 6 → first ≡ superblock count → epoch ≡ header_block 1 → other ≡ header_block 0 → none ≡ closed_gate
    → 6 < length run → HasRun 0 (first ∷ epoch ∷ []) run → two ≡ set run b other → new ≡ set two gate none → HasEmptyFront count new
front_written count run two new b gate first epoch other none is_b is_gate is_first is_epoch is_other is_none within has wrote_b wrote_gate =
    let second : two ≡ set run 3 other = wrote_b ∙ ap (λ n. set run n other) is_b in
    let third : new ≡ set two 6 none = wrote_gate ∙ ap (λ n. set two n none) is_gate in
    let len : length two ≡ length run = ap length second ∙ (SameOutside-set run 3 other).len in
    let low : 3 < length run = omega (arith, within) in
    let high : 6 < length two = omega (arith, within, len) in
    let ne_0 : 0 ≢ 6 = omega arith in
    let ne_1 : 1 ≢ 6 = omega arith in
    let ne_3 : 3 ≢ 6 = omega arith in
    let of_0 : 0 ≢ 3 = omega arith in
    let of_1 : 1 ≢ 3 = omega arith in
    record {
      first = ap (λ (i : Image). block_at i 0) third ∙ (get_or-set_other two 6 0 none [] ne_0 ∙ (ap (λ (i : Image). block_at i 0) second ∙ (get_or-set_other run 3 0 other [] of_0 ∙ (has 0 (omega arith) ∙ is_first))));
      epoch = ap (λ (i : Image). block_at i 1) third ∙ (get_or-set_other two 6 1 none [] ne_1 ∙ (ap (λ (i : Image). block_at i 1) second ∙ (get_or-set_other run 3 1 other [] of_1 ∙ (has 1 (omega arith) ∙ is_epoch))));
      other = ap (λ (i : Image). block_at i 3) third ∙ (get_or-set_other two 6 3 none [] ne_3 ∙ (ap (λ (i : Image). block_at i 3) second ∙ (get_or-set_same run 3 other [] low ∙ is_other)));
      none = ap (λ (i : Image). block_at i 6) third ∙ (get_or-set_same two 6 none [] high ∙ is_none);
    }

-- the first two blocks are of the front
pub run_in_front : (n : ℕ) → (0 ≤ n) × (n < 0 + 2) → IsFrontBlock n
run_in_front zero low = inl refl
run_in_front (suc zero) low = inr (inl refl)
run_in_front (suc (suc n)) low = absurd (let high = low.1 in omega (arith, high))

-- the front is none of the gates
gate_not_front : (n : ℕ) → IsAreaGate n → IsFrontBlock n → ⊥
gate_not_front n (inl is) (inl at) = absurd (omega (arith, is, at))
gate_not_front n (inl is) (inr (inl at)) = absurd (omega (arith, is, at))
gate_not_front n (inl is) (inr (inr (inl at))) = absurd (omega (arith, is, at))
gate_not_front n (inl is) (inr (inr (inr at))) = absurd (omega (arith, is, at))
gate_not_front n (inr is) (inl at) = absurd (omega (arith, is, at))
gate_not_front n (inr is) (inr (inl at)) = absurd (omega (arith, is, at))
gate_not_front n (inr is) (inr (inr (inl at))) = absurd (omega (arith, is, at))
gate_not_front n (inr is) (inr (inr (inr at))) = absurd (omega (arith, is, at))

-- what is done to the front leaves the areas closed
pub still_closed : (d c : Image) → IsClosed d → SameOutside IsFrontBlock d c → IsClosed c
still_closed d c closed same = record {
  a = ap (λ b. first_number b == 1) (same.same 2 (gate_not_front 2 (inl refl))) ∙ closed.a;
  b = ap (λ b. first_number b == 1) (same.same 4 (gate_not_front 4 (inr refl))) ∙ closed.b;
}

-- what is done to area A's gate leaves the front
still_front : (count : ℕ) (d c : Image) → HasEmptyFront count d → SameOutside (λ n. n ≡ 2) d c → HasEmptyFront count c
still_front count d c front same = record {
  first = same.same 0 (λ is. absurd (omega (arith, is))) ∙ front.first;
  epoch = same.same 1 (λ is. absurd (omega (arith, is))) ∙ front.epoch;
  other = same.same 3 (λ is. absurd (omega (arith, is))) ∙ front.other;
  none = same.same 6 (λ is. absurd (omega (arith, is))) ∙ front.none;
}

-- so many blocks are enough
pub record IsEnough (count blocks : ℕ) : Type 0 where
  pub least : 2600 ≤ count
  pub most : count ≤ 65536
  pub within : count ≤ blocks

count_good : (count blocks : ℕ) → IsEnough count blocks → is_count blocks count ≡ true
count_good count blocks e =
    ap (λ b. b && nat_le count 65536 && nat_le count blocks) (le-leb 2600 count e.least)
    ∙ (ap (λ b. b && nat_le count blocks) (le-leb count 65536 e.most) ∙ le-leb count blocks e.within)

opened : (count : ℕ) (d c : Image) → IsEnough count (length d) → IsClosed d → HasEmptyFront count d → SameOutside (λ n. n ≡ 2) d c → is_open c 2 ≡ true → IsFormatted count c
opened count d c enough closed front same gate =
    let f = still_front count d c front same in
    record {
      size = subst (λ n. is_count n count ≡ true) (sym same.len) (count_good count (length d) enough);
      first = f.first;
      epoch = f.epoch;
      active = gate;
      other = ap (λ b. first_number b == 1) (same.same 4 (λ is. absurd (omega (arith, is)))) ∙ closed.b;
      none = gate_closed c 6 f.none;
    }

-- with any bytes in area A's gate no area is open, or the image is empty
pub opening : (count : ℕ) (d c : Image) → IsEnough count (length d) → IsClosed d → HasEmptyFront count d → SameOutside (λ n. n ≡ 2) d c → (b : Bool) → is_open c 2 ≡ b → IsClosed c ⊎ IsFormatted count c
opening count d c enough closed front same true gate = inr (opened count d c enough closed front same gate)
opening count d c enough closed front same false gate =
    inl (record { a = gate; b = ap (λ b. first_number b == 1) (same.same 4 (λ is. absurd (omega (arith, is)))) ∙ closed.b })

-- with the gate as it is written the image was made
pub made : (count : ℕ) (old mid late new : Image) (at : ℕ) (gate : List ℕ) → at ≡ 2 → IsEnough count (length late) → SameOutside IsAreaGate old mid → IsClosed mid → SameOutside IsFrontBlock mid late → HasEmptyFront count late
    → gate ≡ open_gate → new ≡ set late at gate → IsMade count old new
made count old mid late new at gate is_at enough first closed second front is wrote =
    let third : new ≡ set late 2 gate = wrote ∙ ap (λ n. set late n gate) is_at in
    let same : SameOutside (λ n. n ≡ 2) late new = subst (λ (i : Image). SameOutside (λ n. n ≡ 2) late i) (sym third) (SameOutside-set late 2 gate) in
    let within : 2 < length late = (let low = enough.least in let high = enough.within in omega (arith, low, high)) in
    let reads : is_open new 2 ≡ true = gate_open new 2 (ap (λ (i : Image). block_at i 2) third ∙ (get_or-set_same late 2 gate [] within ∙ is)) in
    record {
      formatted = opened count late new enough (still_closed mid late closed second) front same reads;
      front = still_front count late new front same;
      others =
          SameOutside-trans _ old late new
          (SameOutside-trans _ old mid late (SameOutside-weaker IsAreaGate _ old mid (λ n is_gate. inl is_gate) first) (SameOutside-weaker IsFrontBlock _ mid late (λ n at. inr at) second))
          (SameOutside-one _ 2 late new (inl (inl refl)) same);
    }
