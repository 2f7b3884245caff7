-- A step leaves fewer entries to come: it takes the four of a step left, and opens three wishes at most.
use Rattle.std.proofs.Common.{◌≡◌, ℕ, zero, suc, ◌+◌, ◌*◌, ◌<◌, ◌≤◌, Bool, true, false, ◌||◌, ◌==◌, nat_lt, if◌then◌else◌, List, [], ◌∷◌, length, slice_get, Some, refl, sym, ap, subst, ◌∙◌, arith, eqb-true, eq-eqb}
use Rattle.std.specs.List.{list_any}
use Rattle.std.proofs.lemmas.Bool.Decides.{nat_tests}
use Rattle.base_types.specs.declared.histories.Entry.{Entry}
use Rattle.table_steps.specs.cell_states.declared.cells.Cell.{Cell}
use Rattle.table_steps.specs.table_laws.Steps.{EntersStep}
use Rattle.table_steps.specs.table_laws.Tables.{AreNumbered}
use Rattle.kernel_commit_facts.specs.Steady.{entries_of, entries_to_come, steps_of, steps_to_come, total}
use Rattle.std.proofs.lemmas.Option.{same_Some}

-- HOW MANY of n numbers from k on are z
abbrev hits : ℕ → ℕ → ℕ → ℕ
hits z k zero = 0
hits z k (suc n) = (if z == k then 1 else 0) + hits z (suc k) n

hits_low : (z k n : ℕ) → z < k → hits z k n ≡ 0
hits_low z k zero lt = refl
hits_low z k (suc n) lt = elim (z == k) as (λ t. (z == k) ≡ t → (if t then 1 else 0) + hits z (suc k) n ≡ 0) [
  | true ↦ λ is. absurd (let e = eqb-true z k is in omega (arith, lt, e))
  | false ↦ λ is. (let rest = hits_low z (suc k) n (omega (arith, lt)) in omega (arith, rest))
] refl

hits_one : (z k n : ℕ) → hits z k n ≤ 1
hits_one z k zero = omega arith
hits_one z k (suc n) = elim (z == k) as (λ t. (z == k) ≡ t → (if t then 1 else 0) + hits z (suc k) n ≤ 1) [
  | true ↦ λ is. (let e = eqb-true z k is in let rest = hits_low z (suc k) n (omega (arith, e)) in omega (arith, rest))
  | false ↦ λ is. (let rest = hits_one z (suc k) n in omega (arith, rest))
] refl

apart_above : (z k : ℕ) → (z == k) ≡ false → k ≤ z → suc k ≤ z
apart_above z k is le = grind (arith, nat_tests)

hits_some : (z k n : ℕ) → k ≤ z → z < k + n → 1 ≤ hits z k n
hits_some z k zero le lt = absurd (omega (arith, le, lt))
hits_some z k (suc n) le lt = elim (z == k) as (λ t. (z == k) ≡ t → 1 ≤ (if t then 1 else 0) + hits z (suc k) n) [
  | true ↦ λ is. omega arith
  | false ↦ λ is. (let rest = hits_some z (suc k) n (apart_above z k is le) (omega (arith, lt)) in omega (arith, rest))
] refl

-- and how many are among these
abbrev marked : ℕ → ℕ → List ℕ → ℕ
marked k zero zs = 0
marked k (suc n) zs = (if list_any (λ z. z == k) zs then 1 else 0) + marked (suc k) n zs

marked_none : (k n : ℕ) → marked k n [] ≡ 0
marked_none k zero = refl
marked_none k (suc n) = let rest = marked_none (suc k) n in omega (arith, rest)

either : (a b : Bool) → (if a || b then 1 else 0) ≤ (if a then 1 else 0) + (if b then 1 else 0)
either true b = omega arith
either false b = omega arith

marked_more : (z : ℕ) (zs : List ℕ) (k n : ℕ) → marked k n (z ∷ zs) ≤ hits z k n + marked k n zs
marked_more z zs k zero = omega arith
marked_more z zs k (suc n) =
    let here = either (z == k) (list_any (λ y. y == k) zs) in
    let rest = marked_more z zs (suc k) n in
    omega (arith, here, rest)

marked_few : (zs : List ℕ) (k n : ℕ) → marked k n zs ≤ length zs
marked_few [] k n = let none = marked_none k n in omega (arith, none)
marked_few (z ∷ zs) k n =
    let more = marked_more z zs k n in
    let one = hits_one z k n in
    let rest = marked_few zs k n in
    omega (arith, more, one, rest)

-- THE SUM over the table
add_up : (a a' b b' h i m n : ℕ) → a' + 4 * h ≤ a + m → b' + 4 * i ≤ b + n → (a' + b') + 4 * (h + i) ≤ (a + b) + (m + n)
add_up a a' b b' h i m n here rest = omega (arith, here, rest)

abbrev Less : (Cell → ℕ) → ℕ → List ℕ → ℕ → Cell → Cell → Type 0
Less f me zs x c d = f d + 4 * (if me == x then 1 else 0) ≤ f c + (if list_any (λ z. z == x) zs then 1 else 0)

walk : (f : Cell → ℕ) (me : ℕ) (zs : List ℕ) (k : ℕ) (cs cs' : List Cell) → length cs' ≡ length cs
    → ((y : ℕ) (c d : Cell) → slice_get cs y ≡ Some c → slice_get cs' y ≡ Some d → Less f me zs (k + y) c d)
    → total f cs' + 4 * hits me k (length cs) ≤ total f cs + marked k (length cs) zs
walk f me zs k [] [] len each = omega arith
walk f me zs k [] (d ∷ cs') len each = absurd (omega (arith, len))
walk f me zs k (c ∷ cs) [] len each = absurd (omega (arith, len))
walk f me zs k (c ∷ cs) (d ∷ cs') len each =
    let here : f d + 4 * (if me == k then 1 else 0) ≤ f c + (if list_any (λ z. z == k) zs then 1 else 0) = subst (λ x. Less f me zs x c d) (none_more k) (each zero c d refl refl) in
    let rest = walk f me zs (suc k) cs cs' (omega (arith, len)) (λ y a b at to. subst (λ x. Less f me zs x a b) (next k y) (each (suc y) a b at to)) in
    add_up (f c) (f d) (total f cs) (total f cs') (if me == k then 1 else 0) (hits me (suc k) (length cs)) (if list_any (λ z. z == k) zs then 1 else 0) (marked (suc k) (length cs) zs) here rest
  where
    none_more : (k : ℕ) → k + 0 ≡ k
    none_more k = omega arith

    next : (k y : ℕ) → k + suc y ≡ suc k + y
    next k y = omega arith

-- ONE CELL
high_is : (me y : ℕ) → 40 < me → me ≡ y → nat_lt 40 y ≡ true
high_is me y high same = grind (arith, nat_tests)

steps_less : (me y l m : ℕ) → 40 < me → m + (if y == me then 1 else 0) ≡ l
    → (if nat_lt 40 y then 4 * m else 0) + 4 * (if me == y then 1 else 0) ≤ (if nat_lt 40 y then 4 * l else 0)
steps_less me y l m high left = elim (me == y) as (λ t. (me == y) ≡ t → (if nat_lt 40 y then 4 * m else 0) + 4 * (if t then 1 else 0) ≤ (if nat_lt 40 y then 4 * l else 0)) [
  | true ↦ λ is. (
      let same = eqb-true me y is in
      let one : m + 1 ≡ l = ap (λ t. m + (if t then 1 else 0)) (sym (eq-eqb y me (sym same))) ∙ left in
      subst (λ t. (if t then 4 * m else 0) + 4 * 1 ≤ (if t then 4 * l else 0)) (sym (high_is me y high same)) (omega (arith, one)))
  | false ↦ λ is. (
      let none : m ≡ l = same_left (y == me) refl is in
      subst (λ n. (if nat_lt 40 y then 4 * m else 0) + 4 * 0 ≤ (if nat_lt 40 y then 4 * n else 0)) none (omega arith))
] refl
  where
    same_left : (t : Bool) → (y == me) ≡ t → (me == y) ≡ false → m ≡ l
    same_left true here not = absurd (let e = eq-eqb me y (sym (eqb-true y me here)) in cc (e, not))
    same_left false other not = (let h = ap (λ t. m + (if t then 1 else 0)) (sym other) ∙ left in omega (arith, h))

open_one : (b : Bool) → (if b then 1 else 0) ≤ 1
open_one true = omega arith
open_one false = omega arith

opens_less : (t : Bool) (c d : Cell) → (t ≡ false → d ≡ c)
    → (if d.wish.by_step || d.wish.asked then 1 else 0) ≤ (if c.wish.by_step || c.wish.asked then 1 else 0) + (if t then 1 else 0)
opens_less true c d same = let one = open_one (d.wish.by_step || d.wish.asked) in omega (arith, one)
opens_less false c d same = let equal = ap {B = ℕ} (λ (k : Cell). if k.wish.by_step || k.wish.asked then 1 else 0) (same refl) in omega (arith, equal)

zero_more : (y : ℕ) → y ≡ 0 + y
zero_more y = omega arith

-- A STEP OF THE TABLE
module _ (me : ℕ) (cs cs' : List Cell) (e : Entry) (before : AreNumbered cs) (after : AreNumbered cs') (high : 40 < me) (enters : EntersStep me cs cs' e) where
  steps_at : (y : ℕ) (c d : Cell) → slice_get cs y ≡ Some c → slice_get cs' y ≡ Some d → steps_of d + 4 * (if me == y then 1 else 0) ≤ steps_of c
  steps_at y c d was is =
      let l = steps_less me y c.left d.left high (enters.left y c d was is) in
      let old : (if nat_lt 40 c.clock.entity then 4 * c.left else 0) ≡ (if nat_lt 40 y then 4 * c.left else 0) = ap (λ n. if nat_lt 40 n then 4 * c.left else 0) (before.each y c was) in
      let new : (if nat_lt 40 d.clock.entity then 4 * d.left else 0) ≡ (if nat_lt 40 y then 4 * d.left else 0) = ap (λ n. if nat_lt 40 n then 4 * d.left else 0) (after.each y d is) in
      omega (arith, old, new, l)

  none_among : (y : ℕ) (c d : Cell) → slice_get cs y ≡ Some c → slice_get cs' y ≡ Some d → Less steps_of me [] y c d
  none_among y c d was is = let l = steps_at y c d was is in omega (arith, l)

  at_cell : (y : ℕ) (c d : Cell) → slice_get cs y ≡ Some c → slice_get cs' y ≡ Some d → Less entries_of me enters.three.changed y c d
  at_cell y c d was is =
      let l = steps_at y c d was is in
      let o = opens_less (list_any (λ z. z == y) enters.three.changed) c d (λ none. same_Some d c (sym is ∙ enters.three.others y none ∙ was)) in
      omega (arith, l, o)

  pub step_room : me < 64 → entries_to_come cs' + 1 ≤ entries_to_come cs
  step_room low =
      let count = before.len in
      let count' = after.len in
      let sum = walk entries_of me enters.three.changed 0 cs cs' (omega (arith, count, count')) (λ y c d was is. subst (λ x. Less entries_of me enters.three.changed x c d) (zero_more y) (at_cell y c d was is)) in
      let some = hits_some me 0 (length cs) (omega arith) (omega (arith, low, count)) in
      let few = marked_few enters.three.changed 0 (length cs) in
      let three = enters.three.few in
      omega (arith, sum, some, few, three)

  pub step_spare : me < 64 → steps_to_come cs' + 4 ≤ steps_to_come cs
  step_spare low =
      let count = before.len in
      let count' = after.len in
      let sum = walk steps_of me [] 0 cs cs' (omega (arith, count, count')) (λ y c d was is. subst (λ x. Less steps_of me [] x c d) (zero_more y) (none_among y c d was is)) in
      let some = hits_some me 0 (length cs) (omega arith) (omega (arith, low, count)) in
      let none = marked_none 0 (length cs) in
      omega (arith, sum, some, none)
