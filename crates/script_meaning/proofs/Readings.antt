-- What a reading that succeeds says of its parts.
use Rattle.std.proofs.Common.{◌≡◌, ℕ, ◌+◌, ◌≤◌, ℤ, pos, negsuc, Bool, true, false, ◌&&◌, nat_le, if◌then◌else◌, List, [], ◌∷◌, ◌++◌, length, Ok, Err, Option, Some, None, refl, ap, subst, arith, length-append}
use Rattle.std.proofs.lemmas.Bool.{and_parts}
use Rattle.std.proofs.lemmas.Bool.Decides.{nat_tests}
use Rattle.script_types.specs.model_kernel.State.{Text}
use Rattle.toml.specs.Data.{Data, Members, get_member, as_integer}
use Rattle.script_meaning.specs.Reading.{Blame, Reading, ◌>>=◌, refused, or_refused, optional, dotted}
use Rattle.script_meaning.specs.Fields.{at_most, a_list, in_range, a_number, required, number_at, number_or, list_at, each}
use Rattle.script_types.specs.declared.refusals.Why.{Why}
use Rattle.script_types.specs.declared.refusals.Why.TheVariants.{Kind, Range, TooMany}

pub err_is_not_ok : {A : Type 0} (b : Blame) (x : A) → ◌≡◌ {A = Reading A} (Err b) (Ok x) → ⊥
err_is_not_ok b x e = cc

pub same_ok : {A : Type 0} (x y : A) → ◌≡◌ {A = Reading A} (Ok x) (Ok y) → x ≡ y
same_ok x y e = cc

-- both succeed
pub then_ok : {A B : Type 0} (r : Reading A) (next : A → Reading B) (y : B) → (r >>= next) ≡ Ok y → (x : A) × (r ≡ Ok x) × (next x ≡ Ok y)
then_ok (Ok x) next y h = (x, refl, h)
then_ok (Err b) next y h = absurd (err_is_not_ok b y h)

pub or_ok : {A : Type 0} (why : Why) (key : Text) (o : Option A) (x : A) → or_refused why key o ≡ Ok x → o ≡ Some x
or_ok why key None x h = absurd (err_is_not_ok _ x h)
or_ok why key (Some z) x h = ap Some (same_ok z x h)

-- the test of a value that is let through
pub test_ok : {A : Type 0} (b : Bool) (x y : A) (why : Why) (key : Text) → (if b then Ok x else refused why key) ≡ Ok y → (b ≡ true) × (x ≡ y)
test_ok true x y why key h = (refl, same_ok x y h)
test_ok false x y why key h = absurd (err_is_not_ok _ y h)

-- NUMBERS

pub in_range_ok : (low high : ℕ) (key : Text) (z : ℤ) (n : ℕ) → in_range low high key z ≡ Ok n → (low ≤ n) × (n ≤ high)
in_range_ok low high key (pos m) n h =
    let t = test_ok (nat_le low m && nat_le m high) m n Range key h in
    let (l, g) = and_parts (nat_le low m) (nat_le m high) t.0 in
    let above : low ≤ m = grind (arith, nat_tests) in
    let below : m ≤ high = grind (arith, nat_tests) in
    (omega (arith, above, t.1), omega (arith, below, t.1))
in_range_ok low high key (negsuc m) n h = absurd (err_is_not_ok _ n h)

pub a_number_ok : (low high : ℕ) (key : Text) (d : Data) (n : ℕ) → a_number low high key d ≡ Ok n → (low ≤ n) × (n ≤ high)
a_number_ok low high key d n h =
    let p = then_ok (or_refused Kind key (as_integer d)) (in_range low high key) n h in
    in_range_ok low high key p.0 n p.2

pub number_at_ok : (low high : ℕ) (key name : Text) (ms : Members) (n : ℕ) → number_at low high key name ms ≡ Ok n → (low ≤ n) × (n ≤ high)
number_at_ok low high key name ms n h =
    let p = then_ok (required key name ms) (a_number low high (dotted key name)) n h in
    a_number_ok low high (dotted key name) p.0 n p.2

pub number_or_ok : (default low high : ℕ) (key name : Text) (ms : Members) (n : ℕ) → low ≤ default → default ≤ high → number_or default low high key name ms ≡ Ok n → (low ≤ n) × (n ≤ high)
number_or_ok default low high key name ms n l g h = by (get_member name ms) h
  where
    by : (o : Option Data) → optional default (a_number low high (dotted key name)) o ≡ Ok n → (low ≤ n) × (n ≤ high)
    by None f = let e = same_ok default n f in (omega (arith, e, l), omega (arith, e, g))
    by (Some d) f = a_number_ok low high (dotted key name) d n f

-- LISTS

pub at_most_ok : (most : ℕ) (key : Text) (ds xs : List Data) → at_most most key ds ≡ Ok xs → length xs ≤ most
at_most_ok most key ds xs h =
    let t = test_ok (nat_le (length ds) most) ds xs TooMany key h in
    let few : length ds ≤ most = grind (arith, nat_tests) in
    omega (arith, few, ap length t.1)

pub a_list_ok : (most : ℕ) (key : Text) (d : Data) (xs : List Data) → a_list most key d ≡ Ok xs → length xs ≤ most
a_list_ok most key d xs h =
    let p = then_ok _ (at_most most key) xs h in
    at_most_ok most key p.0 xs p.2

pub list_at_ok : (most : ℕ) (key name : Text) (ms : Members) (xs : List Data) → list_at most key name ms ≡ Ok xs → length xs ≤ most
list_at_ok most key name ms xs h = by (get_member name ms) h
  where
    by : (o : Option Data) → optional [] (a_list most (dotted key name)) o ≡ Ok xs → length xs ≤ most
    by None f = let e : length {A = Data} [] ≡ length xs = ap length (same_ok [] xs f) in omega (arith, e)
    by (Some d) f = a_list_ok most (dotted key name) d xs f

-- what each item keeps holds of the list
pub each_keeps : {A : Type 0} (P : List A → Type 0) (read : List A → Data → Reading A) → ((done : List A) (d : Data) (x : A) → P done → read done d ≡ Ok x → P (done ++ x ∷ []))
    → (ds : List Data) (done xs : List A) → P done → each read done ds ≡ Ok xs → P xs
each_keeps P read step [] done xs p h = subst P (same_ok done xs h) p
each_keeps P read step (d ∷ ds) done xs p h =
    let q = then_ok (read done d) (λ x. each read (done ++ x ∷ []) ds) xs h in
    each_keeps P read step ds (done ++ q.0 ∷ []) xs (step done d q.0 p q.1) q.2

pub each_length : {A : Type 0} (read : List A → Data → Reading A) (ds : List Data) (done xs : List A) → each read done ds ≡ Ok xs → length xs ≡ length done + length ds
each_length read [] done xs h = let e = ap length (same_ok done xs h) in omega (arith, e)
each_length read (d ∷ ds) done xs h =
    let q = then_ok (read done d) (λ x. each read (done ++ x ∷ []) ds) xs h in
    let more = each_length read ds (done ++ q.0 ∷ []) xs q.2 in
    let size : length (done ++ q.0 ∷ []) ≡ length done + 1 = length-append done (q.0 ∷ []) in
    omega (arith, more, size)

-- a list that may be missing, item by item
pub list_keeps : {A : Type 0} (P : List A → Type 0) (read : List A → Data → Reading A) → ((done : List A) (d : Data) (x : A) → P done → read done d ≡ Ok x → P (done ++ x ∷ []))
    → (most : ℕ) (key name : Text) (ms : Members) (xs : List A) → P [] → (list_at most key name ms >>= each read []) ≡ Ok xs → P xs × (length xs ≤ most)
list_keeps P read step most key name ms xs p h =
    let q = then_ok (list_at most key name ms) (each read []) xs h in
    let few = list_at_ok most key name ms q.0 q.1 in
    let size = each_length read q.0 [] xs q.2 in
    (each_keeps P read step q.0 [] xs p q.2, omega (arith, few, size))
