-- What a number's reader tells, from its first byte and from the rest of it.
use Rattle.std.proofs.Common.{◌≡◌, ◌<◌, ◌≤◌, ℕ, zero, suc, ◌+◌, ◌-◌, ◌*◌, ◌/◌, ◌^◌, List, [], ◌∷◌, length, refl, sym, ap, subst, ◌∙◌, arith}
use Rattle.std.specs.Prelude.{slice_index}
use Rattle.std.specs.Int.{div_ceil}
use Rattle.blob_facts.specs.Fields.{IsFound, IsNumberIn, IsRefused, Spells}
use Rattle.blob_facts.proofs.Numbers.{above_fits, ends, high_above, low_above, more, refuses, refuses_above}
use Rattle.blob_facts.proofs.Bytes.{empty}

pub refused_end : (width least most : ℕ) (bytes : List ℕ) → (width ≡ 0 → ⊥) → least ≤ most → length bytes ≡ 0
    → IsRefused (Spells (IsNumberIn width least most)) bytes bytes
refused_end zero least most bytes some in_order none = absurd (some refl)
refused_end (suc w) least most bytes some in_order none =
    let e : [] ≡ bytes = sym (empty bytes none) in
    subst (λ (l : List ℕ). IsRefused (Spells (IsNumberIn (suc w) least most)) l l) e (record { front = []; stuck = ends w least most in_order; is = refl })

pub refused_byte : (width least most : ℕ) (bytes : List ℕ) (byte : ℕ) (behind : List ℕ) → (width ≡ 0 → ⊥) → least ≤ most → byte < 256 → most < 256 ^ width
    → bytes ≡ byte ∷ behind → (byte ≤ most → low_above least byte ≤ high_above most byte → ⊥) → IsRefused (Spells (IsNumberIn width least most)) bytes bytes
refused_byte zero least most bytes byte behind some in_order small fits is none = absurd (some refl)
refused_byte (suc w) least most bytes byte behind some in_order small fits is none =
    subst (λ (l : List ℕ). IsRefused (Spells (IsNumberIn (suc w) least most)) l l) (sym is)
    (record { front = []; stuck = refuses w least most byte behind in_order small fits none; is = refl })

pub fits_above : (width most byte : ℕ) → (width ≡ 0 → ⊥) → most < 256 ^ width → high_above most byte < 256 ^ (width - 1)
fits_above zero most byte some fits = absurd (some refl)
fits_above (suc w) most byte some fits = subst (λ n. high_above most byte < 256 ^ n) (let e : w ≡ suc w - 1 = omega arith in e) (above_fits w most byte fits)

pub refused_above : (width least most : ℕ) (bytes : List ℕ) (byte : ℕ) (rest behind : List ℕ) → (width ≡ 0 → ⊥) → byte ≤ most → byte < 256 → most < 256 ^ width
    → bytes ≡ byte ∷ rest → IsRefused (Spells (IsNumberIn (width - 1) (low_above least byte) (high_above most byte))) rest behind
    → IsRefused (Spells (IsNumberIn width least most)) bytes behind
refused_above zero least most bytes byte rest behind some top small fits is r = absurd (some refl)
refused_above (suc w) least most bytes byte rest behind some top small fits is r =
    let q = subst (λ n. IsRefused (Spells (IsNumberIn n (low_above least byte) (high_above most byte))) rest behind) (let e : suc w - 1 ≡ w = omega arith in e) r in
    record {
      front = byte ∷ q.front;
      stuck = refuses_above w least most byte q.front behind top small fits q.stuck;
      is = is ∙ ap (λ (l : List ℕ). byte ∷ l) q.is;
    }

pub found_more : (width least most : ℕ) (bytes : List ℕ) (byte above : ℕ) (rest behind : List ℕ) → (width ≡ 0 → ⊥) → byte ≤ most → byte < 256 → most < 256 ^ width
    → bytes ≡ byte ∷ rest → IsFound (IsNumberIn (width - 1) (low_above least byte) (high_above most byte)) rest above behind
    → IsFound (IsNumberIn width least most) bytes (above * 256 + byte) behind
found_more zero least most bytes byte above rest behind some top small fits is r = absurd (some refl)
found_more (suc w) least most bytes byte above rest behind some top small fits is r =
    let q = subst (λ n. IsFound (IsNumberIn n (low_above least byte) (high_above most byte)) rest above behind) (let e : suc w - 1 ≡ w = omega arith in e) r in
    record {
      front = byte ∷ q.front;
      spelled = more w least most byte small fits above q.front top q.spelled;
      is = is ∙ ap (λ (l : List ℕ). byte ∷ l) q.is;
    }

pub first_fits : {bytes rest : List ℕ} {byte : ℕ} → bytes ≡ byte ∷ rest → slice_index bytes 0 < 256 → byte < 256
first_fits is fits = subst (λ n. n < 256) (ap (λ (l : List ℕ). slice_index l 0) is) fits

-- the test that the code makes
pub below : (least most first byte left low : ℕ) → byte ≡ first → left ≡ least - byte → low ≡ div_ceil left 256
    → (byte ≤ most → low ≤ (most - byte) / 256 → ⊥) → first ≤ most → low_above least first ≤ high_above most first → ⊥
below least most first byte left low is left_is low_is none =
    subst (λ b. b ≤ most → low_above least b ≤ high_above most b → ⊥) is
    (λ top lower. none top (subst (λ n. n ≤ (most - byte) / 256) (sym (low_is ∙ ap (λ n. div_ceil n 256) left_is)) lower))

-- the bounds under the names that the code has for them
pub bounds_are : (A : ℕ → ℕ → Type 0) (least most first byte left low : ℕ) → byte ≡ first → left ≡ least - byte → low ≡ div_ceil left 256
    → A low ((most - byte) / 256) → A (low_above least first) (high_above most first)
bounds_are A least most first byte left low is left_is low_is a =
    subst (λ b. A (low_above least b) (high_above most b)) is (subst (λ n. A n (high_above most byte)) (low_is ∙ ap (λ n. div_ceil n 256) left_is) a)
