-- Names of a directory, one behind another.
use Rattle.std.proofs.Common.{◌≡◌, ℕ, zero, suc, ◌+◌, ◌-◌, ◌<◌, ◌≤◌, ◌==◌, Bool, true, false, if◌then◌else◌, nat_lt, codes, option_map, List, [], ◌∷◌, ◌++◌, length, Option, Some, None, refl, ap, ◌∙◌, ⊎_elim, arith}
use Rattle.std.specs.Prelude.{slice_get}
use Rattle.std.proofs.lemmas.Bool.{cases_lt}
use Rattle.std.proofs.lemmas.Bool.Decides.{nat_tests}
use Rattle.std.proofs.lemmas.Option.{slice_get_within}
use Rattle.std.proofs.lemmas.List.{length-append}
use Rattle.data_atlas.specs.data_atlas_facts.Directory.{Directory, name_of}
use Rattle.image_plain.specs.Names.{AreNames}

-- lists as long as each other that have the same items are one
pub same_list : {X : Type 0} (xs ys : List X) → length xs ≡ length ys → ((i : ℕ) (x : X) → slice_get ys i ≡ Some x → slice_get xs i ≡ Some x) → xs ≡ ys
same_list [] [] long each = refl
same_list [] (y ∷ ys) long each = absurd (omega (arith, long))
same_list (x ∷ xs) [] long each = absurd (omega (arith, long))
same_list (x ∷ xs) (y ∷ ys) long each =
    let first : x ≡ y = let e : Some x ≡ Some y = each zero y refl in cc in
    let rest = same_list xs ys (omega (arith, long)) (λ i z at. each (suc i) z at) in
    ap (λ z. z ∷ xs) first ∙ ap (λ zs. y ∷ zs) rest

at_front : {X : Type 0} (xs ys : List X) (i : ℕ) (x : X) → slice_get xs i ≡ Some x → slice_get (xs ++ ys) i ≡ Some x
at_front [] ys i x is = absurd (let e : None ≡ Some x = is in cc)
at_front (z ∷ xs) ys zero x is = is
at_front (z ∷ xs) ys (suc i) x is = at_front xs ys i x is

at_last : {X : Type 0} (xs : List X) (y : X) (i : ℕ) (x : X) → length xs ≡ i → y ≡ x → slice_get (xs ++ y ∷ []) i ≡ Some x
at_last [] y zero x long is = ap Some is
at_last [] y (suc i) x long is = absurd (omega (arith, long))
at_last (z ∷ xs) y zero x long is = absurd (omega (arith, long))
at_last (z ∷ xs) y (suc i) x long is = at_last xs y i x (omega (arith, long)) is

-- NAMES

module _ (a : Directory) (first : ℕ) where
  -- one more
  pub names_more : (n : ℕ) (names : List (List ℕ)) (new : List ℕ) → AreNames a first n names → ((name : List ℕ) → name_of a (first + n) ≡ Some name → new ≡ name) → AreNames a first (n + 1) (names ++ new ∷ [])
  names_more n names new are here = record {
    long = (let e = length-append names (new ∷ []) in let l = are.long in omega (arith, e, l));
    each = λ i name lt is. ⊎_elim
        (λ (less : i < n).
        let at = are.each i name less is in
        at_front names (new ∷ []) i name at)
        (λ (high : n ≤ i).
        let same : n ≡ i = omega arith in
        let e : new ≡ name = here name (ap (λ k. name_of a (first + k)) same ∙ is) in
        at_last names new i name (are.long ∙ same) e)
        (cases_lt i n);
  }

-- NUMBERS AND NAMES

pub none_is : {X Y : Type 0} (y : X) → None ≡ Some y → Y
none_is y is = absurd (let e : None ≡ Some y = is in cc)

-- the name that is told of a number
pub told_name : {T : Type 0} (f : T → List ℕ) (o : Option T) (a : Directory) (x y : ℕ) (name : List ℕ) → option_map f o ≡ name_of a x → x ≡ y → name_of a y ≡ Some name → option_map f o ≡ Some name
told_name f o a x y name told same is = told ∙ (ap (name_of a) same ∙ is)

container_name : (a : Directory) (i : ℕ) → i < 40 → name_of a (1 + i) ≡ slice_get a.containers i
container_name a i lt =
    let some : (1 + i == 0) ≡ false = grind (arith, nat_tests) in
    let low : nat_lt (1 + i) 41 ≡ true = grind (arith, nat_tests) in
    let same : 1 + i - 1 ≡ i = omega arith in
    ap (λ (b : Bool). if b then Some (codes "atlas") else if nat_lt (1 + i) 41 then slice_get a.containers (1 + i - 1) else slice_get a.loci (1 + i - 41)) some
    ∙ (ap (λ (b : Bool). if b then slice_get a.containers (1 + i - 1) else slice_get a.loci (1 + i - 41)) low ∙ ap (slice_get a.containers) same)

locus_name : (a : Directory) (i : ℕ) → name_of a (41 + i) ≡ slice_get a.loci i
locus_name a i =
    let some : (41 + i == 0) ≡ false = grind (arith, nat_tests) in
    let high : nat_lt (41 + i) 41 ≡ false = grind (arith, nat_tests) in
    let same : 41 + i - 41 ≡ i = omega arith in
    ap (λ (b : Bool). if b then Some (codes "atlas") else if nat_lt (41 + i) 41 then slice_get a.containers (41 + i - 1) else slice_get a.loci (41 + i - 41)) some
    ∙ (ap (λ (b : Bool). if b then slice_get a.containers (41 + i - 1) else slice_get a.loci (41 + i - 41)) high ∙ ap (slice_get a.loci) same)

pub all_containers : (a : Directory) (many : ℕ) (names : List (List ℕ)) → many ≡ length a.containers → length a.containers ≤ 40 → AreNames a 1 many names → names ≡ a.containers
all_containers a many names is few are = same_list names a.containers (are.long ∙ is)
    (λ i name at.
    let lt = slice_get_within a.containers i name at in
    are.each i name (omega (arith, lt, is)) (container_name a i (omega (arith, lt, few)) ∙ at))

pub all_loci : (a : Directory) (many : ℕ) (names : List (List ℕ)) → many ≡ length a.loci → AreNames a 41 many names → names ≡ a.loci
all_loci a many names is are = same_list names a.loci (are.long ∙ is)
    (λ i name at.
    let lt = slice_get_within a.loci i name at in
    are.each i name (omega (arith, lt, is)) (locus_name a i ∙ at))
