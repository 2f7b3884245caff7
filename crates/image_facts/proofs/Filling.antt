-- A record's block that is filled from its front on.
use Rattle.std.proofs.Common.{◌≡◌, ◌≤◌, ◌<◌, ℕ, ◌+◌, ◌-◌, ◌*◌, List, [], ◌++◌, length, take, get_or, replicate, refl, sym, ap, subst, ◌∙◌, arith, append_assoc}
use Rattle.std.proofs.lemmas.List.{append-nil, take_all}
use Rattle.std.specs.List.{flat_map}
use Rattle.byteorder.specs.Endian.{little_bytes}
use Rattle.base_bytes.specs.Fields.{PutsNumber}
use Rattle.model_kernel.specs.base_types.declared.records.Rec.{Rec}
use Rattle.image_facts.specs.Bodies.{body_block}
use Rattle.base_bytes.proofs.Filling.{IsFilled, filled_more, filled_next, more_len}

unfoldable pub head_of : Rec → List ℕ
head_of r = (little_bytes 4 r.entity ++ little_bytes 4 r.length) ++ little_bytes 8 r.version

-- so many components of the stamp
unfoldable pub front_stamp : Rec → ℕ → List ℕ
front_stamp r y = head_of r ++ flat_map (little_bytes 8) (take y r.stamp)

-- so many blocks
unfoldable pub front_blocks : Rec → ℕ → List ℕ
front_blocks r i = (head_of r ++ flat_map (little_bytes 8) r.stamp) ++ flat_map (little_bytes 4) (take i r.blocks)

-- the first three
pub filled_head : (r : Rec) (x : ℕ) (b0 b1 b2 b3 : List ℕ) → b0 ≡ replicate 1024 0 → x ≡ r.entity → PutsNumber 0 4 x b0 b1 → PutsNumber 4 4 r.length b1 b2 → PutsNumber 8 8 r.version b2 b3
    → (length (front_stamp r 0) ≡ 16) × IsFilled (front_stamp r 0) b3
unfolding head_of front_stamp
filled_head r x b0 b1 b2 b3 is same first p2 p3 =
    let p1 : PutsNumber 0 4 r.entity b0 b1 = subst (λ (n : ℕ). PutsNumber 0 4 n b0 b1) same first in
    let f0 : IsFilled [] b0 = record { few = omega arith; is = is } in
    let f1 = filled_more [] b0 b1 0 4 r.entity refl f0 p1 in
    let l1 = more_len [] 0 4 r.entity refl in
    let f2 = filled_more (little_bytes 4 r.entity) b1 b2 4 4 r.length l1 f1 p2 in
    let l2 = more_len (little_bytes 4 r.entity) 4 4 r.length l1 in
    let f3 = filled_more (little_bytes 4 r.entity ++ little_bytes 4 r.length) b2 b3 8 8 r.version l2 f2 p3 in
    let l3 = more_len (little_bytes 4 r.entity ++ little_bytes 4 r.length) 8 8 r.version l2 in
    let e : head_of r ≡ front_stamp r 0 = sym (append-nil (head_of r)) in
    (ap length (sym e) ∙ l3, subst (λ (l : List ℕ). IsFilled l b3) e f3)

-- all components, and no block yet
pub filled_middle : (r : Rec) (y : ℕ) (block : List ℕ) → length r.stamp ≤ y → length (front_stamp r y) ≡ 528 → IsFilled (front_stamp r y) block → (length (front_blocks r 0) ≡ 528) × IsFilled (front_blocks r 0) block
unfolding front_stamp front_blocks
filled_middle r y block all len f =
    let e : front_stamp r y ≡ front_blocks r 0 =
    ap (λ (l : List ℕ). head_of r ++ flat_map (little_bytes 8) l) (take_all y r.stamp all) ∙ sym (append-nil (head_of r ++ flat_map (little_bytes 8) r.stamp)) in
    (ap length (sym e) ∙ len, subst (λ (l : List ℕ). IsFilled l block) e f)

pub filled_whole : (r : Rec) (i : ℕ) (block : List ℕ) → length r.blocks ≤ i → length (front_blocks r i) ≡ 560 → IsFilled (front_blocks r i) block → block ≡ body_block r
unfolding body_block head_of front_blocks
filled_whole r i block all len f =
    let e4 : List ℕ = little_bytes 4 r.entity in
    let l4 : List ℕ = little_bytes 4 r.length in
    let v8 : List ℕ = little_bytes 8 r.version in
    let s : List ℕ = flat_map (little_bytes 8) r.stamp in
    let b : List ℕ = flat_map (little_bytes 4) r.blocks in
    let z : List ℕ = replicate 464 0 in
    let zeros : replicate (1024 - length (front_blocks r i)) 0 ≡ z = ap (λ (n : ℕ). replicate n 0) (let w : 1024 - length (front_blocks r i) ≡ 464 = omega (arith, len) in w) in
    let front : front_blocks r i ≡ (((e4 ++ l4) ++ v8) ++ s) ++ b = ap (λ (l : List ℕ). (head_of r ++ s) ++ flat_map (little_bytes 4) l) (take_all i r.blocks all) in
    let one : front_blocks r i ++ replicate (1024 - length (front_blocks r i)) 0 ≡ ((((e4 ++ l4) ++ v8) ++ s) ++ b) ++ z =
    ap (λ (l : List ℕ). front_blocks r i ++ l) zeros ∙ ap (λ (l : List ℕ). l ++ z) front in
    let two : ((((e4 ++ l4) ++ v8) ++ s) ++ b) ++ z ≡ (((e4 ++ l4) ++ v8) ++ s) ++ (b ++ z) = append_assoc (((e4 ++ l4) ++ v8) ++ s) b z in
    let three : (((e4 ++ l4) ++ v8) ++ s) ++ (b ++ z) ≡ ((e4 ++ l4) ++ v8) ++ (s ++ (b ++ z)) = append_assoc ((e4 ++ l4) ++ v8) s (b ++ z) in
    let four : ((e4 ++ l4) ++ v8) ++ (s ++ (b ++ z)) ≡ (e4 ++ l4) ++ (v8 ++ (s ++ (b ++ z))) = append_assoc (e4 ++ l4) v8 (s ++ (b ++ z)) in
    let five : (e4 ++ l4) ++ (v8 ++ (s ++ (b ++ z))) ≡ e4 ++ (l4 ++ (v8 ++ (s ++ (b ++ z)))) = append_assoc e4 l4 (v8 ++ (s ++ (b ++ z))) in
    f.is ∙ (one ∙ (two ∙ (three ∙ (four ∙ five))))

pub filled_stamp : (r : Rec) (y x : ℕ) (old new : List ℕ) → y < length r.stamp → x ≡ get_or r.stamp y 0 → length (front_stamp r y) ≡ 16 + 8 * y → IsFilled (front_stamp r y) old → PutsNumber (16 + 8 * y) 8 x old new
    → (length (front_stamp r (y + 1)) ≡ 16 + 8 * (y + 1)) × IsFilled (front_stamp r (y + 1)) new
unfolding front_stamp
filled_stamp r y x old new lt is len f p =
    let next = filled_next (head_of r) 8 r.stamp y x (16 + 8 * y) old new lt is len f p in
    ((let e = next.0 in omega (arith, e)), next.1)

pub filled_block : (r : Rec) (i x : ℕ) (old new : List ℕ) → i < length r.blocks → x ≡ get_or r.blocks i 0 → length (front_blocks r i) ≡ 528 + 4 * i → IsFilled (front_blocks r i) old → PutsNumber (528 + 4 * i) 4 x old new
    → (length (front_blocks r (i + 1)) ≡ 528 + 4 * (i + 1)) × IsFilled (front_blocks r (i + 1)) new
unfolding front_blocks
filled_block r i x old new lt is len f p =
    let next = filled_next (head_of r ++ flat_map (little_bytes 8) r.stamp) 4 r.blocks i x (528 + 4 * i) old new lt is len f p in
    ((let e = next.0 in omega (arith, e)), next.1)
