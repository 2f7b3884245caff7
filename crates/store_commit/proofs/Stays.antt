-- What stays in an image of which some blocks change.
use Rattle.std.proofs.Common.{◌≡◌, ℕ, suc, ◌≤◌, ◌<◌, ◌+◌, true, ◌==◌, if◌then◌else◌, inl, inr, List, [], ◌∷◌, ◌++◌, length, map, take, drop, get_or, replicate, Option, Some, None, refl, sym, ap, subst, ◌∙◌, arith}
use Rattle.std.specs.Prelude.{All}
use Rattle.std.specs.List.{AllByRecursion, concat}
use Rattle.std.proofs.lemmas.Option.{slice_get_within}
use Rattle.byteorder.specs.Numbers.{little_number-reads_back}
use Rattle.edge_disk.specs.Image.{Image, SameOutside, block_at}
use Rattle.base_types.specs.declared.records.Rec.{Rec}
use Rattle.store_books.specs.model_kernel.Words.{first}
use Rattle.store_books.specs.image_facts.Bodies.{blob_blocks, blob_room, number_at}
use Rattle.store_books.specs.image_blocks.Checks.{Bad, check_1, in_block}
use Rattle.store_books.specs.image_facts.Checks.{header_fault, is_epoch, superblock_fault, unless_at}
use Rattle.store_books.specs.image_blocks.Layout.{body_at, epoch_in, gate_at, header_at, other, slot_gate_at, slots_at}
use Rattle.store_books.specs.image_facts.Layout.{first_number, header_block, last_number, pool_at, slot_count}
use Rattle.store_books.specs.image_blocks.Logs.{HasFront, HasLog, IsNextSlot, IsTurned, Place}
use Rattle.store_books.specs.image_blocks.declared.areas.Area.{Area}
use Rattle.store_books.specs.image_blocks.declared.areas.Area.TheVariants.{A, B}
use Rattle.store_books.specs.image_meaning.Stores.{IsFound, IsHeld, Kept, Page}
use Rattle.store_books.specs.Books.{AreApartFrom, IsApart, IsBeforePool}
use Rattle.store_books.proofs.log_facts_lemmas.Through.{same_gate}

-- WHAT IS HELD

map_all : (these : ℕ → Type 0) (f g : ℕ → List ℕ) (xs : List ℕ) → ((n : ℕ) → (these n → ⊥) → f n ≡ g n) → AllByRecursion (λ n. these n → ⊥) xs → map f xs ≡ map g xs
map_all these f g [] same all = refl
map_all these f g (x ∷ xs) same all = ap (λ (y : List ℕ). y ∷ map f xs) (same x all.0) ∙ ap (λ (ys : List (List ℕ)). g x ∷ ys) (map_all these f g xs same all.1)

pub found_all : (these : ℕ → Type 0) (d c : Image) → SameOutside these d c → (ps : List Page) → AllByRecursion (λ (p : Page). these p.block → ⊥) ps → AllByRecursion (IsFound d) ps → AllByRecursion (IsFound c) ps
found_all these d c same [] apart found = tt
found_all these d c same (p ∷ ps) apart found = (same.same p.block apart.0 ∙ found.0, found_all these d c same ps apart.1 found.1)

one_held : (these : ℕ → Type 0) (d c : Image) → SameOutside these d c → (k : Kept) → IsApart these k → IsHeld d k → IsHeld c k
one_held these d c same k apart h =
    let room : blob_room c k.rec ≡ blob_room d k.rec = ap concat (map_all these (block_at c) (block_at d) (blob_blocks k.rec) same.same apart.blob) in
    record {
      blob = ap (take k.rec.length) room ∙ h.blob;
      rest = subst (λ (bytes : List ℕ). All (λ b. b ≡ 0) (drop k.rec.length bytes)) (sym room) h.rest;
      pages = found_all these d c same k.pages apart.pages h.pages;
      components = h.components;
    }

pub held_same : (these : ℕ → Type 0) (d c : Image) → SameOutside these d c → (ks : List Kept) → AreApartFrom these ks → AllByRecursion (IsHeld d) ks → AllByRecursion (IsHeld c) ks
held_same these d c same [] apart held = tt
held_same these d c same (k ∷ ks) apart held = (one_held these d c same k apart.0 held.0, held_same these d c same ks apart.1 held.1)

pub all_more : {X : Type 0} (P : X → Type 0) (xs : List X) (x : X) → AllByRecursion P xs → P x → AllByRecursion P (xs ++ x ∷ [])
all_more P [] x all one = (one, tt)
all_more P (y ∷ ys) x all one = (all.0, all_more P ys x all.1 one)

pub all_weaker : {X : Type 0} (P Q : X → Type 0) (xs : List X) → ((x : X) → P x → Q x) → AllByRecursion P xs → AllByRecursion Q xs
all_weaker P Q [] more all = tt
all_weaker P Q (x ∷ xs) more all = (more x all.0, all_weaker P Q xs more all.1)

pub apart_weaker : (these those : ℕ → Type 0) (ks : List Kept) → ((n : ℕ) → those n → these n) → AreApartFrom these ks → AreApartFrom those ks
apart_weaker these those ks less apart =
    all_weaker (IsApart these) (IsApart those) ks (λ k a. record {
      blob = all_weaker (λ n. these n → ⊥) (λ n. those n → ⊥) (blob_blocks k.rec) (λ n out here. out (less n here)) a.blob;
      pages = all_weaker (λ (p : Page). these p.block → ⊥) (λ (p : Page). those p.block → ⊥) k.pages (λ p out here. out (less p.block here)) a.pages;
    }) apart

-- THE FRONT

abbrev check_by : ℕ → List ℕ → Option Bad
check_by len block = if len == 0 then Some (record { block = 0; place = 0 }) else in_block 0 (superblock_fault len block)

first_same : (d c : Image) → length c ≡ length d → block_at c 0 ≡ block_at d 0 → check_1 c ≡ check_1 d
first_same d c len same = ap (λ n. check_by n (block_at c 0)) len ∙ ap (λ b. check_by (length d) b) same

pub front_same : (count : ℕ) (p : Place) (d c : Image) → length c ≡ length d → block_at c 0 ≡ block_at d 0 → block_at c (header_at p.active) ≡ block_at d (header_at p.active) → HasFront count p d → HasFront count p c
front_same count p d c len same header f = record {
  first = first_same d c len same ∙ f.first;
  count_is = ap (number_at 12 4) same ∙ f.count_is;
  header = ap header_fault header ∙ f.header;
}

epoch_good : (n : ℕ) → 1 ≤ n → n ≤ last_number → is_epoch n ≡ true
epoch_good n low high = grind arith

header_good : (epoch : ℕ) → 1 ≤ epoch → epoch ≤ last_number → header_fault (header_block epoch) ≡ None
unfolding header_block
header_good epoch low high =
    let number : first_number (header_block epoch) ≡ epoch = little_number-reads_back 8 epoch (replicate 1016 0) (omega (arith, high)) in
    ap (λ n. first (unless_at (is_epoch n) 0 ∷ None ∷ [])) number ∙ ap (λ b. first (unless_at b 0 ∷ None ∷ [])) (epoch_good epoch low high)

-- the front of another area, with the header that a turn writes
pub front_next : (count : ℕ) (p q : Place) (d c : Image) → length c ≡ length d → block_at c 0 ≡ block_at d 0 → block_at c (header_at q.active) ≡ header_block q.epoch → 1 ≤ q.epoch → q.epoch ≤ last_number → HasFront count p d → HasFront count q c
front_next count p q d c len same header low high f = record {
  first = first_same d c len same ∙ f.first;
  count_is = ap (number_at 12 4) same ∙ f.count_is;
  header = ap header_fault header ∙ header_good q.epoch low high;
}

-- PLACES

pub zero_not_turned : (a : Area) → IsTurned a 0 → ⊥
zero_not_turned A (inl (inl is)) = absurd (omega (arith, is))
zero_not_turned A (inl (inr (inl is))) = absurd (omega (arith, is))
zero_not_turned A (inl (inr (inr run))) = absurd (let e = run.0 in omega (arith, e))
zero_not_turned A (inr is) = absurd (omega (arith, is))
zero_not_turned B (inl (inl is)) = absurd (omega (arith, is))
zero_not_turned B (inl (inr (inl is))) = absurd (omega (arith, is))
zero_not_turned B (inl (inr (inr run))) = absurd (let e = run.0 in omega (arith, e))
zero_not_turned B (inr is) = absurd (omega (arith, is))

pub turned_low : (a : Area) (n : ℕ) → IsTurned a n → IsBeforePool n
turned_low A n (inl (inl is)) = omega (arith, is)
turned_low A n (inl (inr (inl is))) = omega (arith, is)
turned_low A n (inl (inr (inr run))) = (let e = run.1 in omega (arith, e))
turned_low A n (inr is) = omega (arith, is)
turned_low B n (inl (inl is)) = omega (arith, is)
turned_low B n (inl (inr (inl is))) = omega (arith, is)
turned_low B n (inl (inr (inr run))) = (let e = run.1 in omega (arith, e))
turned_low B n (inr is) = omega (arith, is)

pub next_low : (a : Area) (used n : ℕ) → used < slot_count → IsNextSlot a used n → IsBeforePool n
next_low A used n room (inl is) = omega (arith, is, room)
next_low A used n room (inr (inl is)) = omega (arith, is, room)
next_low A used n room (inr (inr here)) = (let a = here.0 in let b = here.1 in omega (arith, a, b))
next_low B used n room (inl is) = omega (arith, is, room)
next_low B used n room (inr (inl is)) = omega (arith, is, room)
next_low B used n room (inr (inr here)) = (let a = here.0 in let b = here.1 in omega (arith, a, b))

pub zero_not_next : (a : Area) (used : ℕ) → IsNextSlot a used 0 → ⊥
zero_not_next A used (inl is) = absurd (omega (arith, is))
zero_not_next A used (inr (inl is)) = absurd (omega (arith, is))
zero_not_next A used (inr (inr here)) = absurd (let is = here.1 in omega (arith, is))
zero_not_next B used (inl is) = absurd (omega (arith, is))
zero_not_next B used (inr (inl is)) = absurd (omega (arith, is))
zero_not_next B used (inr (inr here)) = absurd (let is = here.1 in omega (arith, is))

pub header_low : (a : Area) → header_at a < 5
header_low A = omega arith
header_low B = omega arith

pub gate_low : (a : Area) → gate_at a < 5
gate_low A = omega arith
gate_low B = omega arith

slots_low : (a : Area) → slots_at a + 1280 ≤ pool_at
slots_low A = omega arith
slots_low B = omega arith

-- a log stays where no block before the pool changes
pub log_stays : (p : Place) (recs : List Rec) (d c : Image) → ((n : ℕ) → n < pool_at → block_at c n ≡ block_at d n) → HasLog p recs d → HasLog p recs c
log_stays p recs d c same has =
    let low = slots_low p.active in
    let few = has.slots.few in
    let gate = λ (a : Area). same_gate d c (gate_at a) (same (gate_at a) (let l = gate_low a in omega (arith, l))) in
    let epoch : (a : Area) → epoch_in c a ≡ epoch_in d a = λ a. ap first_number (same (header_at a) (let l = header_low a in omega (arith, l))) in
    record {
      active = record {
        gate = gate p.active ∙ has.active.gate;
        epoch = epoch p.active ∙ has.active.epoch;
        above = λ opens. (let lt = has.active.above (sym (gate (other p.active)) ∙ opens) in let e = epoch (other p.active) in omega (arith, lt, e));
      };
      slots = record {
        few = few;
        bodies = λ i r here. same (body_at p.active i) (let lt = slice_get_within recs i r here in omega (arith, low, few, lt)) ∙ has.slots.bodies i r here;
        gates = λ i lt. same_gate d c (slot_gate_at p.active i) (same (slot_gate_at p.active i) (omega (arith, low, few, lt))) ∙ has.slots.gates i lt;
        closed = λ lt. same_gate d c (slot_gate_at p.active (length recs)) (same (slot_gate_at p.active (length recs)) (omega (arith, low, lt))) ∙ has.slots.closed lt;
      };
    }

pub own_header : (a : Area) → IsTurned a (header_at a) → ⊥
own_header A (inl (inl is)) = absurd (omega (arith, is))
own_header A (inl (inr (inl is))) = absurd (omega (arith, is))
own_header A (inl (inr (inr run))) = absurd (let e = run.0 in omega (arith, e))
own_header A (inr is) = absurd (omega (arith, is))
own_header B (inl (inl is)) = absurd (omega (arith, is))
own_header B (inl (inr (inl is))) = absurd (omega (arith, is))
own_header B (inl (inr (inr run))) = absurd (let e = run.0 in omega (arith, e))
own_header B (inr is) = absurd (omega (arith, is))

pub header_not_next : (b a : Area) (used : ℕ) → IsNextSlot b used (header_at a) → ⊥
header_not_next A a used (inl is) = absurd (let l = header_low a in omega (arith, is, l))
header_not_next A a used (inr (inl is)) = absurd (let l = header_low a in omega (arith, is, l))
header_not_next A a used (inr (inr here)) = absurd (let is = here.1 in let l = header_low a in omega (arith, is, l))
header_not_next B a used (inl is) = absurd (let l = header_low a in omega (arith, is, l))
header_not_next B a used (inr (inl is)) = absurd (let l = header_low a in omega (arith, is, l))
header_not_next B a used (inr (inr here)) = absurd (let is = here.1 in let l = header_low a in omega (arith, is, l))

pub all_by_index : (P : ℕ → Type 0) (xs : List ℕ) → ((i : ℕ) → i < length xs → P (get_or xs i 0)) → AllByRecursion P xs
all_by_index P [] each = tt
all_by_index P (x ∷ xs) each = (each 0 (omega arith), all_by_index P xs (λ i lt. each (suc i) (omega (arith, lt))))
