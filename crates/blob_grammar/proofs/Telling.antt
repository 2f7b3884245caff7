-- Fields that tell where they end and what they spell, and what is put together of such fields.
use Rattle.std.proofs.Common.{◌≡◌, ◌<◌, ℕ, suc, ◌^◌, List, [], ◌∷◌, ◌++◌, length, take, drop, refl, sym, ap, ◌∙◌, arith, append_assoc}
use Rattle.std.proofs.lemmas.List.{append-nil, take_at, drop_at}
use Rattle.std.specs.Prelude.{All, slice_index}
use Rattle.std.specs.List.{AllByRecursion, flat_map}
use Rattle.byteorder.specs.Endian.{little_bytes, little_number}
use Rattle.byteorder.specs.Numbers.{length-bytes_low_first, little_number-reads_back}
use Rattle.blob_grammar.specs.Spelling.{listed}

-- Whatever follows these two, both lists are the same only where this holds, and then what follows is the same too.
pub record Tells (p q : List ℕ) (R : Type 0) : Type 0 where
  pub told : (a b : List ℕ) → p ++ a ≡ q ++ b → R × (a ≡ b)

-- one behind another, where the later may rest on what the earlier tells
pub and_then : {p q r s : List ℕ} {R S : Type 0} → Tells p q R → (R → Tells r s S) → Tells (p ++ r) (q ++ s) (R × S)
and_then {p = p} {q = q} {r = r} {s = s} {R = R} {S = S} first next = record {
  told = λ a b same.
      let one : R × (r ++ a ≡ s ++ b) = first.told (r ++ a) (s ++ b) (sym (append_assoc p r a) ∙ same ∙ append_assoc q s b) in
      let two : S × (a ≡ b) = (next one.0).told a b one.1 in
      ((one.0, two.0), two.1);
}

pub when : {p q : List ℕ} {R S : Type 0} → Tells p q R → (R → S) → Tells p q S
when t f = record { told = λ a b same. (f (t.told a b same).0, (t.told a b same).1) }

pub nothing_more : Tells [] [] (Unit {0})
nothing_more = record { told = λ a b same. (tt, same) }

-- A BYTE, and what is behind it
pub byte : (x y : ℕ) → Tells (x ∷ []) (y ∷ []) (x ≡ y)
byte x y = record { told = λ a b same. (ap (λ (l : List ℕ). slice_index l 0) same, ap (λ (l : List ℕ). drop 1 l) same) }

pub byte_then : (x y : ℕ) {r s : List ℕ} {S : Type 0} → (x ≡ y → Tells r s S) → Tells (x ∷ r) (y ∷ s) ((x ≡ y) × S)
byte_then x y {r = r} {s = s} next = and_then {p = x ∷ []} {q = y ∷ []} {r = r} {s = s} (byte x y) next

-- FIELDS OF ONE LENGTH
split_unique : (a b x y : List ℕ) → length a ≡ length b → a ++ x ≡ b ++ y → (a ≡ b) × (x ≡ y)
split_unique a b x y len same = (
  sym (take_at a x (length a) refl) ∙ ap (λ (l : List ℕ). take (length a) l) same ∙ take_at b y (length a) (sym len),
  sym (drop_at a x (length a) refl) ∙ ap (λ (l : List ℕ). drop (length a) l) same ∙ drop_at b y (length a) (sym len),
)

pub same_length : (a b : List ℕ) → length a ≡ length b → Tells a b (a ≡ b)
same_length a b len = record { told = λ x y same. split_unique a b x y len same }

-- A NUMBER
pub read_back : (width x : ℕ) → x < 256 ^ width → little_number width (little_bytes width x) ≡ x
read_back width x fits =
    ap (little_number width) (sym (append-nil (little_bytes width x))) ∙ little_number-reads_back width x [] fits

pub number : (width x y : ℕ) → x < 256 ^ width → y < 256 ^ width → Tells (little_bytes width x) (little_bytes width y) (x ≡ y)
number width x y x_fits y_fits =
    when (same_length (little_bytes width x) (little_bytes width y) (length-bytes_low_first 0 width x ∙ sym (length-bytes_low_first 0 width y)))
    (λ same. sym (read_back width x x_fits) ∙ ap (little_number width) same ∙ read_back width y y_fits)

-- LISTS
pub each : {A : Type 0} (P : A → Type 0) (xs : List A) → All P xs → AllByRecursion P xs
each P [] all = tt
each P (x ∷ xs) all = (all 0 x (omega arith), each P xs (λ i d lt. all (suc i) d (omega (arith, lt))))

module _ {A : Type 0} (item : A → List ℕ) (Fits : A → Type 0) (one : (x y : A) → Fits x → Fits y → Tells (item x) (item y) (x ≡ y)) where
  -- as many items
  pub items : (xs ys : List A) → AllByRecursion Fits xs → AllByRecursion Fits ys → length xs ≡ length ys → Tells (flat_map item xs) (flat_map item ys) (xs ≡ ys)
  items [] [] f g len = when nothing_more (λ _. refl)
  items [] (y ∷ ys) f g len = absurd (omega (arith, len))
  items (x ∷ xs) [] f g len = absurd (omega (arith, len))
  items (x ∷ xs) (y ∷ ys) f g len =
      when (and_then (one x y f.0 g.0) (λ _. items xs ys f.1 g.1 (omega (arith, len)))) (λ (p, q). λ i. p i ∷ q i)

  -- items with their number before them
  pub list : (xs ys : List A) → AllByRecursion Fits xs → AllByRecursion Fits ys → Tells (listed item xs) (listed item ys) (xs ≡ ys)
  list xs ys f g = when (byte_then (length xs) (length ys) (λ len. items xs ys f g len)) (λ (len, same). same)
