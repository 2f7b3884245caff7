-- Room for the entries of a run.
use Rattle.std.proofs.Common.{◌≡◌, ◌≢◌, ℕ, zero, suc, ◌+◌, ◌*◌, ◌≤◌, Bool, true, false, ◌||◌, nat_lt, if◌then◌else◌, List, [], ◌∷◌, ◌++◌, length, slice_get, Some, refl, sym, ap, ◌∙◌, arith, length-append}
use Rattle.std.proofs.Math.Nat.{suc-mul}
use Rattle.base_types.specs.declared.histories.Entry.{Entry}
use Rattle.table_steps.specs.cell_states.declared.cells.Cell.{Cell}
use Rattle.table_steps.specs.cell_clocks.declared.Clock.{Clock}
use Rattle.table_steps.specs.cell_states.declared.cells.Wish.{Wish}
use Rattle.table_steps.specs.table_laws.Lending.{Lends}
use Rattle.table_steps.specs.cell_wish_laws.Founded.{IsRecordedNow}
use Rattle.kernel_commit_facts.specs.Steady.{entries_of, entries_taken, entries_to_come, steps_of, steps_to_come, total}
use Rattle.std.proofs.lemmas.Option.{same_Some}

pub taken_more : (es : List Entry) → length es + 65 ≤ entries_taken es
taken_more [] = omega arith
taken_more (e ∷ es) = omega arith

pub taken_next : (es : List Entry) (e : Entry) → entries_taken (es ++ e ∷ []) ≤ entries_taken es + 1
taken_next [] e = omega arith
taken_next (f ∷ es) e = let len = length-append es (e ∷ []) in omega (arith, len)

-- tables with the same cells have the same total
same_cells : (f : Cell → ℕ) (cs cs' : List Cell) → ((y : ℕ) → slice_get cs' y ≡ slice_get cs y) → total f cs' ≡ total f cs
same_cells f [] [] same = refl
same_cells f [] (a ∷ cs') same = absurd (let h = same zero in cc h)
same_cells f (a ∷ cs) [] same = absurd (let h = same zero in cc h)
same_cells f (a ∷ cs) (a' ∷ cs') same =
    let head : f a' ≡ f a = ap f (same_Some a' a (same zero)) in
    let rest = same_cells f cs cs' (λ y. same (suc y)) in
    omega (arith, head, rest)

-- one cell in the place of another
pub replaced : (f : Cell → ℕ) (cs cs' : List Cell) (x : ℕ) (c d : Cell) → slice_get cs x ≡ Some c → slice_get cs' x ≡ Some d → ((y : ℕ) → y ≢ x → slice_get cs' y ≡ slice_get cs y)
    → total f cs' + f c ≡ total f cs + f d
replaced f [] cs' x c d at is same = absurd (cc at)
replaced f (a ∷ cs) [] x c d at is same = absurd (cc is)
replaced f (a ∷ cs) (a' ∷ cs') zero c d at is same =
    let old : f a ≡ f c = ap f (same_Some a c at) in
    let new : f a' ≡ f d = ap f (same_Some a' d is) in
    let rest = same_cells f cs cs' (λ y. same (suc y) (λ e. absurd (omega (arith, e)))) in
    omega (arith, old, new, rest)
replaced f (a ∷ cs) (a' ∷ cs') (suc x) c d at is same =
    let head : f a' ≡ f a = ap f (same_Some a' a (same zero (λ e. absurd (omega (arith, e))))) in
    let rest = replaced f cs cs' x c d at is (λ y differs. same (suc y) (λ e. differs (omega (arith, e)))) in
    omega (arith, head, rest)

-- the steps are among the entries, and all there is where no wish may be open
pub steps_within : (cs : List Cell) → steps_to_come cs ≤ entries_to_come cs
steps_within [] = omega arith
steps_within (c ∷ cs) = let rest = steps_within cs in omega (arith, rest)

pub all_closed : (cs : List Cell) → ((y : ℕ) (c : Cell) → slice_get cs y ≡ Some c → (c.wish.by_step || c.wish.asked) ≡ false) → entries_to_come cs ≡ steps_to_come cs
all_closed [] closed = refl
all_closed (c ∷ cs) closed =
    let rest = all_closed cs (λ y. closed (suc y)) in
    let here = ap {B = ℕ} (λ (t : Bool). if t then 1 else 0) (closed zero c refl) in
    omega (arith, here, rest)

-- a record of a cell leaves the steps to come, and where a wish may have been open one entry less
module _ (cs cs' : List Cell) (c d : Cell) (lends : Lends cs cs' (c ∷ []) (d ∷ [])) (r : IsRecordedNow c d) where
  abbrev open_part : Cell → ℕ
  open_part k = if k.wish.by_step || k.wish.asked then 1 else 0

  same_left : steps_of d ≡ steps_of c
  same_left = ap (λ (k : Clock). if nat_lt 40 k.entity then 4 * d.left else 0) r.same_clock ∙ ap (λ n. if nat_lt 40 c.clock.entity then 4 * n else 0) r.same_left

  closed : open_part d ≡ 0
  closed = ap (λ (w : Wish). if w.by_step || w.asked then 1 else 0) r.wish

  swapped : (f : Cell → ℕ) → total f cs' + f c ≡ total f cs + f d
  swapped f = replaced f cs cs' c.clock.entity c d lends.stood.0 (ap (slice_get cs') (sym lends.numbers.0) ∙ lends.stand.0) (λ y differs. lends.others y (differs, tt))

  pub same_to_come : steps_to_come cs' ≡ steps_to_come cs
  same_to_come = let s = swapped steps_of in let l = same_left in omega (arith, s, l)

  pub one_less : (c.wish.by_step || c.wish.asked) ≡ true → entries_to_come cs' + 1 ≤ entries_to_come cs
  one_less noted =
      let s = swapped entries_of in let l = same_left in let o = closed in
      let was : open_part c ≡ 1 = ap (λ (t : Bool). if t then 1 else 0) noted in
      omega (arith, s, l, o, was)

-- AT THE START: four entries for each step of the 23 loci

abbrev count_high : ℕ → ℕ → ℕ
count_high k zero = 0
count_high k (suc n) = (if nat_lt 40 k then 1 else 0) + count_high (suc k) n

times : (t : Bool) (n m : ℕ) → ((if t then 1 else 0) + n) * m ≡ (if t then m else 0) + n * m
times true n m = (let one : 1 + n ≡ suc n = omega arith in let both = ap (λ k. k * m) one in let more = suc-mul n m in omega (arith, both, more))
times false n m = (let none : 0 + n ≡ n = omega arith in let both = ap (λ k. k * m) none in omega (arith, both))

pub begun_by : (steps k : ℕ) (cs : List Cell) → ((y : ℕ) (c : Cell) → slice_get cs y ≡ Some c → (c.clock.entity ≡ k + y) × (c.left ≡ steps) × (c.wish.by_step ≡ false) × (c.wish.asked ≡ false))
    → entries_to_come cs ≡ count_high k (length cs) * (4 * steps)
begun_by steps k [] fresh = sym (Rattle.std.proofs.Math.Nat.zero-mul (4 * steps))
begun_by steps k (c ∷ cs) fresh =
    let here = fresh zero c refl in
    let rest = begun_by steps (suc k) cs (λ y d at. (let h = fresh (suc y) d at in ((let e = h.0 in omega (arith, e)), h.1, h.2, h.3))) in
    let number : c.clock.entity ≡ k = (let e = here.0 in omega (arith, e)) in
    let one : entries_of c ≡ (if nat_lt 40 k then 4 * steps else 0) + 0 =
    ap (λ (w : Bool). (if nat_lt 40 c.clock.entity then 4 * c.left else 0) + (if w || c.wish.asked then 1 else 0)) here.2
    ∙ (ap (λ (w : Bool). (if nat_lt 40 c.clock.entity then 4 * c.left else 0) + (if w then 1 else 0)) here.3
    ∙ (ap (λ n. (if nat_lt 40 n then 4 * c.left else 0) + 0) number
    ∙ ap (λ n. (if nat_lt 40 k then 4 * n else 0) + 0) here.1)) in
    let more = times (nat_lt 40 k) (count_high (suc k) (length cs)) (4 * steps) in
    omega (arith, one, rest, more)

-- of a whole table
pub begun_few : (steps : ℕ) (cs : List Cell) → length cs ≡ 64 → ((x : ℕ) (c : Cell) → slice_get cs x ≡ Some c → c.clock.entity ≡ x)
    → ((x : ℕ) (c : Cell) → slice_get cs x ≡ Some c → (c.left ≡ steps) × (c.wish.by_step ≡ false) × (c.wish.asked ≡ false)) → entries_to_come cs ≡ 92 * steps
begun_few steps cs len numbers fresh =
    let all = begun_by steps 0 cs (λ y c at. ((let e = numbers y c at in omega (arith, e)), (fresh y c at).0, (fresh y c at).1, (fresh y c at).2)) in
    let many : count_high 0 (length cs) ≡ 23 = ap (count_high 0) len in
    let product = ap (λ n. n * (4 * steps)) many in
    omega (arith, all, product)
