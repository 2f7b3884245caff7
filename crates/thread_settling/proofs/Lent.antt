-- A cell of a row is lent, and comes back to its place.
use Rattle.std.proofs.Common.{◌≡◌, ◌≢◌, ℕ, zero, suc, ◌+◌, ◌==◌, ◌<◌, ◌≤◌, Bool, true, false, List, [], ◌∷◌, ◌++◌, length, map, take, sum_by, get_or, slice_get, slice_set, Some, refl, sym, ap, subst, ◌∙◌, arith}
use Rattle.std.proofs.lemmas.Option.{same_Some, slice_get-get_or, slice_get_within}
use Rattle.std.proofs.lemmas.List.{length-map, length-set, map-set, set-get_or}
use Rattle.base_types.specs.declared.histories.Entry.{Entry}
use Rattle.thread_cells.specs.Locked.{Keeping}
use Rattle.thread_commits.specs.kernel_commit_facts.cell_blobs.Blobs.{need_in}
use Rattle.thread_commits.specs.kernel_commit_facts.cell_states.declared.cells.Cell.{Cell}
use Rattle.thread_commits.specs.kernel_commit_facts.kernel_book_laws.Matching.{newest_of, version_of}
use Rattle.thread_commits.specs.kernel_commit_facts.table_laws.Tables.{IsOrderly}
use Rattle.thread_commits.proofs.kernel_commit_facts_lemmas.Through.{is_newest, not_newest}
use Rattle.thread_commits.proofs.kernel_commit_facts_lemmas.table_laws_lemmas.Needs.{next_need}
use Rattle.thread_settling.specs.Rows.{AreSameSeats, IsRow}

-- the cell at a place has the place's number
pub has_number : (ks : List Keeping) (i : ℕ) (k : Keeping) → IsRow ks → i < 64 → k ≡ get_or ks i k → k.number ≡ i
has_number ks i k row lt is = row.each i k (slice_get-get_or ks i k (let len = row.len in omega (arith, lt, len)) ∙ ap Some (sym is))

-- what comes back unchanged changes nothing
pub set_same : {A : Type 0} (xs : List A) (i : ℕ) (x y : A) → y ≡ get_or xs i y → x ≡ y → slice_set xs i x ≡ xs
set_same xs i x y is same = ap (slice_set xs i) (same ∙ is) ∙ set-get_or xs i y

each_set : (P : ℕ → Keeping → Type 0) (ks : List Keeping) (i j : ℕ) (m k : Keeping) → ((y : ℕ) (z : Keeping) → slice_get ks y ≡ Some z → P y z) → P i m
    → slice_get (slice_set ks i m) j ≡ Some k → P j k
each_set P [] i j m k all at is = all j k is
each_set P (z ∷ zs) zero zero m k all at is = subst (P zero) (same_Some m k is) at
each_set P (z ∷ zs) zero (suc j) m k all at is = all (suc j) k is
each_set P (z ∷ zs) (suc i) zero m k all at is = all zero k is
each_set P (z ∷ zs) (suc i) (suc j) m k all at is = each_set (λ y. P (suc y)) zs i j m k (λ y w e. all (suc y) w e) at is

-- a cell that comes back with its number leaves a row
pub row_set : (ks : List Keeping) (i : ℕ) (m : Keeping) → IsRow ks → m.number ≡ i → IsRow (slice_set ks i m)
row_set ks i m row number = record {
  len = length-set ks i m ∙ row.len;
  each = λ j k is. each_set (λ y (z : Keeping). z.number ≡ y) ks i j m k row.each number is;
}

-- and the same seats
kept_by : {A : Type 0} (f : Keeping → A) (ks : List Keeping) (i : ℕ) (m k : Keeping) → k ≡ get_or ks i k → f m ≡ f k → map f (slice_set ks i m) ≡ map f ks
kept_by f ks i m k is same =
    map-set f ks i m ∙ (ap (slice_set (map f ks) i) same ∙ (sym (map-set f ks i k) ∙ ap (map f) (set_same ks i k k is refl)))

pub seats_set : (olds ks : List Keeping) (i : ℕ) (m k : Keeping) → k ≡ get_or ks i k → m.number ≡ k.number → m.known ≡ k.known → AreSameSeats olds ks → AreSameSeats olds (slice_set ks i m)
seats_set olds ks i m k is number known s = record {
  numbers = kept_by (λ (z : Keeping). z.number) ks i m k is number ∙ s.numbers;
  known = kept_by (λ (z : Keeping). z.known) ks i m k is known ∙ s.known;
}

-- the same of what lends the cells, as guards do: what is lent at a place, and what comes back there
pub lent_here : {A : Type 0} (f : A → Keeping) (gs : List A) (i : ℕ) (g : A) (k : Keeping) → k ≡ f g → g ≡ get_or gs i g → k ≡ get_or (map f gs) i k
lent_here {A} f gs i g k same is = subst (λ z. z ≡ get_or (map f gs) i z) (sym same) (ap f is ∙ at gs i g)
  where
    at : (xs : List A) (j : ℕ) (x : A) → f (get_or xs j x) ≡ get_or (map f xs) j (f x)
    at [] j x = refl
    at (y ∷ ys) zero x = refl
    at (y ∷ ys) (suc j) x = at ys j x

back_is : {A : Type 0} (f : A → Keeping) (gs : List A) (i : ℕ) (g : A) (m : Keeping) → f g ≡ m → map f (slice_set gs i g) ≡ slice_set (map f gs) i m
back_is f gs i g m is = map-set f gs i g ∙ ap (slice_set (map f gs) i) is

pub row_back : {A : Type 0} (f : A → Keeping) (gs : List A) (i : ℕ) (g : A) (m : Keeping) → f g ≡ m → IsRow (map f gs) → m.number ≡ i → IsRow (map f (slice_set gs i g))
row_back f gs i g m is row number = subst IsRow (sym (back_is f gs i g m is)) (row_set (map f gs) i m row number)

pub seats_back : {A : Type 0} (f : A → Keeping) (olds gs : List A) (i : ℕ) (g : A) (m k : Keeping) → f g ≡ m → k ≡ get_or (map f gs) i k → m.number ≡ k.number → m.known ≡ k.known
    → AreSameSeats (map f olds) (map f gs) → AreSameSeats (map f olds) (map f (slice_set gs i g))
seats_back f olds gs i g m k is at number known s = subst (AreSameSeats (map f olds)) (sym (back_is f gs i g m is)) (seats_set (map f olds) (map f gs) i m k at number known s)

pub same_back : {A : Type 0} (f : A → Keeping) (gs : List A) (i : ℕ) (g : A) (m k : Keeping) → f g ≡ m → k ≡ get_or (map f gs) i k → m ≡ k → map f (slice_set gs i g) ≡ map f gs
same_back f gs i g m k is at same = back_is f gs i g m is ∙ set_same (map f gs) i m k at same

-- what is true of each by a part of it is true of that part of one
pub get_map : {A B : Type 0} (f : A → B) (xs : List A) (i : ℕ) (x : A) → slice_get xs i ≡ Some x → slice_get (map f xs) i ≡ Some (f x)
get_map f [] i x is = absurd (cc is)
get_map f (y ∷ ys) zero x is = ap (λ z. Some (f z)) (same_Some y x is)
get_map f (y ∷ ys) (suc i) x is = get_map f ys i x is

pub by_map : {A B : Type 0} (f : A → B) (P : ℕ → B → Type 0) (xs : List A) (i : ℕ) (b : B) → slice_get (map f xs) i ≡ Some b → ((j : ℕ) (x : A) → slice_get xs j ≡ Some x → P j (f x)) → P i b
by_map f P [] i b is all = absurd (cc is)
by_map f P (x ∷ xs) zero b is all = subst (P zero) (same_Some (f x) b is) (all zero x refl)
by_map f P (x ∷ xs) (suc i) b is all = by_map f (λ j. P (suc j)) xs i b is (λ j y at. all (suc j) y at)

-- so by its share, of the one that is lent
pub fits_here : (P : List Entry → Type 0) (olds ks : List Keeping) (i : ℕ) (k : Keeping) → AreSameSeats olds ks → IsRow ks → i < 64 → k ≡ get_or ks i k
    → ((j : ℕ) (z : Keeping) → slice_get olds j ≡ Some z → P z.known) → P k.known
fits_here P olds ks i k seats row lt is all =
    let here = slice_get-get_or ks i k (let len = row.len in omega (arith, lt, len)) ∙ ap Some (sym is) in
    by_map (λ (z : Keeping). z.known) (λ j. P) olds i k.known (ap (λ es. slice_get es i) (sym seats.known) ∙ get_map (λ (z : Keeping). z.known) ks i k here) all

-- the same seats are a row
pub row_stays : (ks ls : List Keeping) → IsRow ks → AreSameSeats ks ls → IsRow ls
row_stays ks ls row seats = record {
  len = sym (length-map ls (λ (z : Keeping). z.number)) ∙ (ap length seats.numbers ∙ (length-map ks (λ (z : Keeping). z.number) ∙ row.len));
  each = λ i k is.
      by_map (λ (z : Keeping). z.number) (λ j n. n ≡ j) ks i k.number
      (ap (λ ns. slice_get ns i) (sym seats.numbers) ∙ get_map (λ (z : Keeping). z.number) ls i k is) row.each;
}

-- one more is lent, with the next number
module _ {A : Type 0} (f : A → Keeping) (g : A) where
  numbers_from : (gs : List A) (m : ℕ) → ((i : ℕ) (k : Keeping) → slice_get (map f gs) i ≡ Some k → k.number ≡ m + i) → (f g).number ≡ m + length gs
      → (i : ℕ) (k : Keeping) → slice_get (map f (gs ++ g ∷ [])) i ≡ Some k → k.number ≡ m + i
  numbers_from [] m all last zero k is = ap (λ (z : Keeping). z.number) (same_Some k (f g) (sym is)) ∙ last
  numbers_from [] m all last (suc i) k is = absurd (cc is)
  numbers_from (x ∷ xs) m all last zero k is = all zero k is
  numbers_from (x ∷ xs) m all last (suc i) k is =
      let rest = numbers_from xs (suc m) (λ j z at. (let e = all (suc j) z at in omega (arith, e))) (omega (arith, last)) i k is in
      omega (arith, rest)

  pub one_more : (gs hs : List A) → hs ≡ gs ++ g ∷ [] → ((i : ℕ) (k : Keeping) → slice_get (map f gs) i ≡ Some k → k.number ≡ i) → (f g).number ≡ length gs
      → (i : ℕ) (k : Keeping) → slice_get (map f hs) i ≡ Some k → k.number ≡ i
  one_more gs hs is all last i k at =
      let n = numbers_from gs 0 (λ j z e. (let here = all j z e in omega (arith, here))) (omega (arith, last)) i k (ap (λ xs. slice_get (map f xs) i) (sym is) ∙ at) in
      omega (arith, n)

-- a lent cell that stands in the list is the list's next one: the needs go on by its own
pub lent_need : (held kept : ℕ → Bool) (cs now : List Cell) (ks ls : List Keeping) (i : ℕ) (k : Keeping) → IsOrderly held cs → IsRow ks → ls ≡ ks → now ≡ cs → i < 64 → k ≡ get_or ls i k
    → slice_get now k.number ≡ Some k.cell → (sum_by (need_in kept) (take (i + 1) cs) ≡ sum_by (need_in kept) (take i cs) + need_in kept k.cell) × (need_in kept k.cell ≤ 264)
lent_need held kept cs now ks ls i k ord row lent same lt is stands =
    let number = has_number ls i k (subst IsRow (sym lent) row) lt is in
    let at : slice_get cs i ≡ Some k.cell = ap (slice_get cs) (sym number) ∙ (ap (λ l. slice_get l k.number) (sym same) ∙ stands) in
    let within = slice_get_within cs i k.cell at in
    next_need held kept cs i k.cell ord within (same_Some k.cell (get_or cs i k.cell) (sym at ∙ slice_get-get_or cs i k.cell within))

-- the test of the lent cell, by the list of them
module _ (cs : List Cell) (i x : ℕ) (r : Bool) (number : x ≡ i) (test : r ≡ (version_of cs x == newest_of cs x)) where
  pub differs : r ≡ false → newest_of cs i ≢ version_of cs i
  differs isnt = not_newest cs cs i x number refl r test isnt

  pub agrees : r ≡ true → newest_of cs i ≡ version_of cs i
  agrees agree = is_newest cs cs i x number refl r test agree
