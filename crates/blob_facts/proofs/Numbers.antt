-- Numbers, read from the lowest byte on: which byte may come, and which bounds it leaves to the rest of the number.
use Rattle.std.proofs.Common.{◌≡◌, ◌<◌, ◌≤◌, ℕ, zero, suc, ◌+◌, ◌-◌, ◌*◌, ◌/◌, ◌%◌, ◌^◌, List, [], ◌∷◌, ◌++◌, length, refl, sym, ap, ◌∙◌, arith}
use Rattle.std.proofs.Math.Nat.{div-div-eq-div-mul, div-lt_iff_lt-mul, mod-lt, pow-suc, pow-succ'}
use Rattle.std.proofs.lemmas.Nat.{div-add-mod'}
use Rattle.std.proofs.lemmas.Grind.{div_ceil_times}
use Rattle.std.specs.Prelude.{slice_index, drop}
use Rattle.std.specs.Int.{bytes_low_first, byte_at, div_ceil}
use Rattle.byteorder.specs.Endian.{little_bytes}
use Rattle.blob_grammar.proofs.Telling.{number}
use Rattle.blob_facts.specs.Fields.{IsNumberIn, IsStuck, Spells}
use Rattle.blob_facts.proofs.Sequences.{TellsApart}

-- A NUMBER'S BYTES are its lowest, and those of what is above it
byte_above : (j x : ℕ) → byte_at (suc j) x ≡ byte_at j (x / 256)
byte_above zero x = refl
byte_above (suc j) x = ap (λ n. x / n % 256) (pow-succ' 256 (suc j)) ∙ ap (λ n. n % 256) (sym (div-div-eq-div-mul x 256 (256 ^ suc j)))

bytes_above : (k j x : ℕ) → bytes_low_first (suc j) k x ≡ bytes_low_first j k (x / 256)
bytes_above zero j x = refl
bytes_above (suc k) j x = λ i. byte_above j x i ∷ bytes_above k (suc j) x i

pub little_suc : (w x : ℕ) → little_bytes (suc w) x ≡ x % 256 ∷ little_bytes w (x / 256)
little_suc w x = λ i. x % 256 ∷ bytes_above w 0 x i

pub split : (x : ℕ) → (x / 256 * 256 + x % 256 ≡ x) × (x % 256 < 256)
split x = (div-add-mod' x 256, mod-lt x (omega arith))

digits : (m b : ℕ) → b < 256 → ((m * 256 + b) % 256 ≡ b) × ((m * 256 + b) / 256 ≡ m)
digits m b small =
    let s : ((m * 256 + b) / 256 * 256 + (m * 256 + b) % 256 ≡ m * 256 + b) × ((m * 256 + b) % 256 < 256) = split (m * 256 + b) in
    let e : (m * 256 + b) / 256 * 256 + (m * 256 + b) % 256 ≡ m * 256 + b = s.0 in
    let l : (m * 256 + b) % 256 < 256 = s.1 in
    (omega (arith, e, l, small), omega (arith, e, l, small))

-- THE BOUNDS that a byte leaves
abbrev pub low_above : ℕ → ℕ → ℕ
low_above least byte = div_ceil (least - byte) 256

abbrev pub high_above : ℕ → ℕ → ℕ
high_above most byte = (most - byte) / 256

low_facts : (least byte : ℕ) → (least - byte ≤ low_above least byte * 256) × (low_above least byte * 256 < (least - byte) + 256)
low_facts least byte = div_ceil_times (least - byte) 256 (omega arith)

pub above_fits : (w most byte : ℕ) → most < 256 ^ suc w → high_above most byte < 256 ^ w
above_fits w most byte fits =
    let e : 256 ^ suc w ≡ 256 ^ w * 256 = pow-suc 256 w in
    (div-lt_iff_lt-mul {k = 256} {x = most - byte} {y = 256 ^ w} (omega arith)).1 (omega (arith, e, fits))

module _ (w least most byte : ℕ) (small : byte < 256) (fits : most < 256 ^ suc w) where
  -- with a number within these bounds behind the byte there is a number within the first ones
  pub more : (m : ℕ) (a : List ℕ) → byte ≤ most → IsNumberIn w (low_above least byte) (high_above most byte) m a → IsNumberIn (suc w) least most (m * 256 + byte) (byte ∷ a)
  more m a top one =
      let low = (low_facts least byte).0 in
      let high = (split (most - byte)).0 in
      let l = one.low in
      let h = one.high in
      let d = digits m byte small in
      record {
        low = omega (arith, low, l);
        high = omega (arith, high, h, top);
        is = ap (λ (r : List ℕ). byte ∷ r) one.is ∙ sym (little_suc w (m * 256 + byte) ∙ (λ i. d.0 i ∷ little_bytes w (d.1 i)));
      }

  -- and each of those that begin with the byte is such a one
  pub less : (v : ℕ) (a : List ℕ) → v % 256 ≡ byte → IsNumberIn (suc w) least most v a
      → (byte ≤ most) × IsNumberIn w (low_above least byte) (high_above most byte) (v / 256) (little_bytes w (v / 256))
  less v a first one =
      let s : (v / 256 * 256 + v % 256 ≡ v) = (split v).0 in
      let low = (low_facts least byte).1 in
      let high = (split (most - byte)).0 in
      let rem = (split (most - byte)).1 in
      let l = one.low in
      let h = one.high in
      (omega (arith, s, first, h), record { low = omega (arith, s, first, low, l); high = omega (arith, s, first, high, rem, h); is = refl })

-- NUMBERS TELL where they end and what they are
pub tells : (w least most : ℕ) → most < 256 ^ w → TellsApart (IsNumberIn w least most)
tells w least most fits = record {
  told = λ v u a b x y f g same.
      let p = f.high in
      let q = g.high in
      (number w v u (omega (arith, p, fits)) (omega (arith, q, fits))).told x y (ap (λ (l : List ℕ). l ++ x) (sym f.is) ∙ same ∙ ap (λ (l : List ℕ). l ++ y) g.is);
}

-- there is one, within bounds that leave one
pub some_number : (w least most : ℕ) → least ≤ most → Spells (IsNumberIn w least most) (little_bytes w least)
some_number w least most some = record { value = least; spelled = record { low = omega arith; high = some; is = refl } }

-- WHERE A NUMBER IS REFUSED

-- the bytes end
pub ends : (w least most : ℕ) → least ≤ most → IsStuck (Spells (IsNumberIn (suc w) least most)) [] []
ends w least most some = record {
  begins = (little_bytes (suc w) least, some_number (suc w) least most some);
  stops = λ whole rest behind spelled same goes.
      let e : length (whole ++ rest) ≡ 0 = ap (λ (l : List ℕ). length l) (same ∙ goes) in
      let f : whole ++ rest ≡ little_bytes (suc w) spelled.value ++ rest = ap (λ (l : List ℕ). l ++ rest) spelled.spelled.is in
      let g : suc (length (little_bytes w (spelled.value / 256) ++ rest)) ≡ 0 = sym (ap (λ (l : List ℕ). length (l ++ rest)) (spelled.spelled.is ∙ little_suc w spelled.value)) ∙ e in
      omega (arith, g);
}

-- a byte comes that leaves none
pub refuses : (w least most byte : ℕ) (behind : List ℕ) → least ≤ most → byte < 256 → most < 256 ^ suc w
    → (byte ≤ most → low_above least byte ≤ high_above most byte → ⊥) → IsStuck (Spells (IsNumberIn (suc w) least most)) [] (byte ∷ behind)
refuses w least most byte behind some small fits none = record {
  begins = (little_bytes (suc w) least, some_number (suc w) least most some);
  stops = λ whole rest on spelled same goes.
      let g : spelled.value % 256 ∷ little_bytes w (spelled.value / 256) ++ rest ≡ byte ∷ goes.0 = sym (ap (λ (l : List ℕ). l ++ rest) (spelled.spelled.is ∙ little_suc w spelled.value)) ∙ (same ∙ goes.1) in
      let first : spelled.value % 256 ≡ byte = ap (λ (l : List ℕ). slice_index l 0) g in
      let l = less w least most byte small fits spelled.value whole first spelled.spelled in
      let a = l.1.low in
      let b = l.1.high in
      none l.0 (omega (arith, a, b));
}

-- the rest of the number is refused
pub refuses_above : (w least most byte : ℕ) (front behind : List ℕ) → byte ≤ most → byte < 256 → most < 256 ^ suc w
    → IsStuck (Spells (IsNumberIn w (low_above least byte) (high_above most byte))) front behind → IsStuck (Spells (IsNumberIn (suc w) least most)) (byte ∷ front) behind
refuses_above w least most byte front behind top small fits stuck = record {
  begins =
      let on = stuck.begins in
      (on.0, record { value = on.1.value * 256 + byte; spelled = more w least most byte small fits on.1.value (front ++ on.0) top on.1.spelled });
  stops = λ whole rest on spelled same goes.
      let g : spelled.value % 256 ∷ little_bytes w (spelled.value / 256) ++ rest ≡ byte ∷ front ++ on = sym (ap (λ (l : List ℕ). l ++ rest) (spelled.spelled.is ∙ little_suc w spelled.value)) ∙ same in
      let first : spelled.value % 256 ≡ byte = ap (λ (l : List ℕ). slice_index l 0) g in
      let l = less w least most byte small fits spelled.value whole first spelled.spelled in
      stuck.stops (little_bytes w (spelled.value / 256)) rest on (record { value = spelled.value / 256; spelled = l.1 }) (ap (λ (l : List ℕ). drop 1 l) g) goes;
}
