-- Which number a name leads to, and how a birth keeps the names apart.
use Rattle.std.proofs.Common.{◌≡◌, ℕ, zero, suc, ◌+◌, ◌-◌, ◌<◌, ◌≤◌, Bool, true, false, List, [], ◌∷◌, ◌++◌, length, length-append, Option, Some, None, refl, sym, ap, ◌∙◌, subst, ◌⊎◌, inl, inr, ⊎_elim, arith}
use Rattle.std.specs.Prelude.{◌==◌, if◌then◌else◌, nat_lt, IfSome, slice_get, slice_index, codes, replicate}
use Rattle.std.specs.Str.{bytes_eq}
use Rattle.std.proofs.lemmas.Bool.{false≢true, cases_lt}
use Rattle.std.proofs.lemmas.Fmt.{decimal_injective}
use Rattle.std.proofs.lemmas.Slice.Eq.{bytes_eq-Decides}
use Rattle.std.proofs.lemmas.Option.{slice_get_past, slice_get_within}
use borrow.Author.Tests.{ne_eqb, lt-ltb}
use Rattle.std.proofs.lemmas.Bool.Decides.{nat_tests}
use Rattle.data_atlas_facts.specs.Reached.{edges_in}
use Rattle.data_atlas_facts.specs.Directory.{Directory, name_of, entity_named, number_from, or_else, made_name, IsName, IsNameOf, IsDirectory}

no_number : {X : Type 0} {x : X} → None ≡ Some x → ⊥
no_number e = cc

le_not : (m n : ℕ) → m ≤ n → nat_lt n m ≡ false
le_not m n l = grind (arith, nat_tests)

-- NUMBERS OF NAMES IN A LIST

-- a name that is found stands at its number
number_found : (f : ℕ) (name : List ℕ) (xs : List (List ℕ)) (m : ℕ) → number_from f name xs ≡ Some m → (i : ℕ) × (m ≡ f + i) × (slice_get xs i ≡ Some name)
number_found f name [] m e = absurd (no_number e)
number_found f name (x ∷ xs) m e = by (λ g. number_found (f + 1) name xs m g) (bytes_eq x name) refl e
  where
    by : (number_from (f + 1) name xs ≡ Some m → (i : ℕ) × (m ≡ f + 1 + i) × (slice_get xs i ≡ Some name)) → (b : Bool) → bytes_eq x name ≡ b → (if b then Some f else number_from (f + 1) name xs) ≡ Some m → (i : ℕ) × (m ≡ f + i) × (slice_get (x ∷ xs) i ≡ Some name)
    by behind true is g = let same : f ≡ m = cc in (0, omega (arith, same), ap Some ((bytes_eq-Decides x name).0 is))
    by behind false is g = let more = behind g in (suc more.0, omega (arith, more.1), more.2)

-- another name behind the list changes nothing
number_kept : (f : ℕ) (name new : List ℕ) (xs : List (List ℕ)) → bytes_eq new name ≡ false → number_from f name (xs ++ new ∷ []) ≡ number_from f name xs
number_kept f name new [] e = ap (λ b. if b then Some f else None) e
number_kept f name new (x ∷ xs) e = ap (λ o. if bytes_eq x name then Some f else o) (number_kept (f + 1) name new xs e)

-- a name that wasn't there has the number behind all others
number_added : (f k : ℕ) (new : List ℕ) (xs : List (List ℕ)) → k ≡ f + length xs → number_from f new xs ≡ None → number_from f new (xs ++ new ∷ []) ≡ Some k
number_added f k new [] l e = ap (λ b. if b then Some f else None) ((bytes_eq-Decides new new).1 refl) ∙ ap Some (omega (arith, l))
number_added f k new (x ∷ xs) l e = by (λ g. number_added (f + 1) k new xs (omega (arith, l)) g) (bytes_eq x new) e
  where
    by : (number_from (f + 1) new xs ≡ None → number_from (f + 1) new (xs ++ new ∷ []) ≡ Some k) → (b : Bool) → (if b then Some f else number_from (f + 1) new xs) ≡ None → (if b then Some f else number_from (f + 1) new (xs ++ new ∷ [])) ≡ Some k
    by behind true g = absurd (no_number (sym g))
    by behind false g = behind g

-- THE NAME OF A NUMBER

module _ (a : Directory) (n : ℕ) where
  pub container_name : 0 < n → n < 41 → name_of a n ≡ slice_get a.containers (n - 1)
  container_name some small =
      ap (λ b. if b then Some (codes "atlas") else if nat_lt n 41 then slice_get a.containers (n - 1) else slice_get a.loci (n - 41)) (ne_eqb n 0 (omega arith))
      ∙ ap (λ b. if b then slice_get a.containers (n - 1) else slice_get a.loci (n - 41)) (lt-ltb n 41 small)

  pub locus_name : 41 ≤ n → name_of a n ≡ slice_get a.loci (n - 41)
  locus_name large =
      ap (λ b. if b then Some (codes "atlas") else if nat_lt n 41 then slice_get a.containers (n - 1) else slice_get a.loci (n - 41)) (ne_eqb n 0 (omega arith))
      ∙ ap (λ b. if b then slice_get a.containers (n - 1) else slice_get a.loci (n - 41)) (le_not 41 n large)

-- a number that a name leads to has this name
pub record Led (a : Directory) (name : List ℕ) (m : ℕ) : Type 0 where
  pub small : m < 64
  pub name_is : name_of a m ≡ Some name

module _ (a : Directory) (ok : IsDirectory a) (name : List ℕ) (m : ℕ) where
  led_container : number_from 1 name a.containers ≡ Some m → Led a name m
  led_container e =
      let at = number_found 1 name a.containers m e in
      let within = slice_get_within a.containers at.0 name at.2 in
      let same : m - 1 ≡ at.0 = omega (arith, at.1) in
      record {
        small = omega (arith, at.1, within, ok.few_containers);
        name_is = container_name a m (omega (arith, at.1)) (omega (arith, at.1, within, ok.few_containers)) ∙ ap (slice_get a.containers) same ∙ at.2;
      }

  led_locus : number_from 41 name a.loci ≡ Some m → Led a name m
  led_locus e =
      let at = number_found 41 name a.loci m e in
      let within = slice_get_within a.loci at.0 name at.2 in
      let same : m - 41 ≡ at.0 = omega (arith, at.1) in
      record {
        small = omega (arith, at.1, within, ok.few_loci);
        name_is = locus_name a m (omega (arith, at.1)) ∙ ap (slice_get a.loci) same ∙ at.2;
      }

  pub led : entity_named a name ≡ Some m → Led a name m
  led e = by (bytes_eq name (codes "atlas")) refl e
    where
      rest : (o : Option ℕ) → number_from 1 name a.containers ≡ o → or_else o (number_from 41 name a.loci) ≡ Some m → Led a name m
      rest None is f = led_locus f
      rest (Some k) is f = led_container (is ∙ f)

      atlas : 0 ≡ m → name ≡ codes "atlas" → Led a name m
      atlas same text = record { small = omega (arith, same); name_is = ap (name_of a) (sym same) ∙ ap Some (sym text) }

      by : (b : Bool) → bytes_eq name (codes "atlas") ≡ b → (if b then Some 0 else or_else (number_from 1 name a.containers) (number_from 41 name a.loci)) ≡ Some m → Led a name m
      by true is f = let same : 0 ≡ m = cc in atlas same ((bytes_eq-Decides name (codes "atlas")).0 is)
      by false is f = rest (number_from 1 name a.containers) refl f

-- MADE NAMES

made_apart : (m n : ℕ) → m < 64 → n < 64 → made_name m ≡ made_name n → m ≡ n
made_apart m n l k e = decimal_injective m n (omega arith) (omega arith) (ap tail e)
  where
    tail : List ℕ → List ℕ
    tail [] = []
    tail (x ∷ xs) = xs

-- the made name of a number that isn't born is no one's
pub made_is_new : (a : Directory) (k : ℕ) → IsDirectory a → k < 64 → name_of a k ≡ None → entity_named a (made_name k) ≡ None
made_is_new a k ok small none = by (entity_named a (made_name k)) refl
  where
    clash : (m : ℕ) → Led a (made_name k) m → IsNameOf m (made_name k) → ⊥
    clash m at form = ⊎_elim
        (λ (given : IsName (made_name k)). false≢true given.2)
        (λ (made : made_name k ≡ made_name m). no_number (sym none ∙ ap (name_of a) (made_apart k m small at.small made) ∙ at.name_is))
        form

    no_atlas : Some (codes "atlas") ≡ Some (made_name k) → ⊥
    no_atlas f = cc

    by : (o : Option ℕ) → entity_named a (made_name k) ≡ o → entity_named a (made_name k) ≡ None
    by None e = e
    by (Some zero) e = absurd (no_atlas (led a ok (made_name k) 0 e).name_is)
    by (Some (suc m)) e =
        let at = led a ok (made_name k) (suc m) e in
        absurd (clash (suc m) at (subst (λ o. IfSome o (IsNameOf (suc m))) at.name_is (ok.formed (suc m) (omega arith))))

-- BIRTHS

appended : {X : Type 0} (xs : List X) (y : X) (i : ℕ) → (slice_get (xs ++ y ∷ []) i ≡ slice_get xs i) ⊎ ((slice_get (xs ++ y ∷ []) i ≡ Some y) × (i ≡ length xs))
appended [] y zero = inr (refl, refl)
appended [] y (suc i) = inl refl
appended (x ∷ xs) y zero = inl refl
appended (x ∷ xs) y (suc i) = ⊎_elim
    (λ (same : slice_get (xs ++ y ∷ []) i ≡ slice_get xs i). inl same)
    (λ (here : (slice_get (xs ++ y ∷ []) i ≡ Some y) × (i ≡ length xs)). inr (here.0, ap suc here.1))
    (appended xs y i)

pub record IsNew (a : Directory) (new : List ℕ) : Type 0 where
  pub no_atlas : bytes_eq new (codes "atlas") ≡ false
  pub no_container : number_from 1 new a.containers ≡ None
  pub no_locus : number_from 41 new a.loci ≡ None

is_new : (a : Directory) (new : List ℕ) → entity_named a new ≡ None → IsNew a new
is_new a new e = by (bytes_eq new (codes "atlas")) refl e
  where
    rest : bytes_eq new (codes "atlas") ≡ false → (o : Option ℕ) → number_from 1 new a.containers ≡ o → or_else o (number_from 41 new a.loci) ≡ None → IsNew a new
    rest other None is f = record { no_atlas = other; no_container = is; no_locus = f }
    rest other (Some k) is f = absurd (no_number (sym f))

    by : (b : Bool) → bytes_eq new (codes "atlas") ≡ b → (if b then Some 0 else or_else (number_from 1 new a.containers) (number_from 41 new a.loci)) ≡ None → IsNew a new
    by true is f = absurd (no_number (sym f))
    by false is f = rest is (number_from 1 new a.containers) refl f

-- a name that leads to a number is another than one that doesn't
differs : (a : Directory) (new name : List ℕ) (n : ℕ) → entity_named a new ≡ None → entity_named a name ≡ Some n → bytes_eq new name ≡ false
differs a new name n none some = by (bytes_eq new name) refl
  where
    by : (b : Bool) → bytes_eq new name ≡ b → bytes_eq new name ≡ false
    by true is = absurd (no_number (sym none ∙ ap (entity_named a) ((bytes_eq-Decides new name).0 is) ∙ some))
    by false is = is

-- one more name at a number, where all other names and what they lead to stay
pub record OneMore (a b : Directory) (new : List ℕ) (k : ℕ) : Type 0 where
  pub names : (n : ℕ) → (name_of b n ≡ name_of a n) ⊎ ((name_of b n ≡ Some new) × (n ≡ k))
  pub kept : (name : List ℕ) (n : ℕ) → entity_named a name ≡ Some n → entity_named b name ≡ Some n
  pub own : entity_named b new ≡ Some k

module _ (a b : Directory) (new : List ℕ) (k : ℕ) (ok : IsDirectory a) (one : OneMore a b new k) where
  still_formed : IsNameOf k new → (n : ℕ) → 0 < n → IfSome (name_of b n) (IsNameOf n)
  still_formed form n some = ⊎_elim
      (λ (same : name_of b n ≡ name_of a n). subst (λ o. IfSome o (IsNameOf n)) (sym same) (ok.formed n some))
      (λ (here : (name_of b n ≡ Some new) × (n ≡ k)). subst (λ o. IfSome o (IsNameOf n)) (sym here.0) (subst (λ m. IsNameOf m new) (sym here.1) form))
      (one.names n)

  some_kept : (n : ℕ) (o : Option (List ℕ)) → IfSome o (λ name. entity_named a name ≡ Some n) → IfSome o (λ name. entity_named b name ≡ Some n)
  some_kept n None h = h
  some_kept n (Some name) h = one.kept name n h

  still_found : (n : ℕ) → IfSome (name_of b n) (λ name. entity_named b name ≡ Some n)
  still_found n = ⊎_elim
      (λ (same : name_of b n ≡ name_of a n). subst (λ o. IfSome o (λ name. entity_named b name ≡ Some n)) (sym same) (some_kept n (name_of a n) (ok.found n)))
      (λ (here : (name_of b n ≡ Some new) × (n ≡ k)). subst (λ o. IfSome o (λ name. entity_named b name ≡ Some n)) (sym here.0) (one.own ∙ ap Some (sym here.1)))
      (one.names n)

-- one more container, and one more locus
module _ (a : Directory) (new : List ℕ) (none : entity_named a new ≡ None) where
  more_containers : Directory
  more_containers = record a { containers = a.containers ++ new ∷ [] }

  more_loci : Directory
  more_loci = record a { loci = a.loci ++ new ∷ [] }

  container_names : length a.containers < 40 → (n : ℕ) → (name_of more_containers n ≡ name_of a n) ⊎ ((name_of more_containers n ≡ Some new) × (n ≡ length a.containers + 1))
  unfolding more_containers
  container_names room zero = inl refl
  container_names room (suc m) = ⊎_elim
      (λ (l : suc m < 41). ⊎_elim
      (λ (same : slice_get (a.containers ++ new ∷ []) (suc m - 1) ≡ slice_get a.containers (suc m - 1)).
      inl (container_name (record a { containers = a.containers ++ new ∷ [] }) (suc m) (omega arith) l ∙ same ∙ sym (container_name a (suc m) (omega arith) l)))
      (λ (here : (slice_get (a.containers ++ new ∷ []) (suc m - 1) ≡ Some new) × (suc m - 1 ≡ length a.containers)).
      inr (container_name (record a { containers = a.containers ++ new ∷ [] }) (suc m) (omega arith) l ∙ here.0, omega (arith, here.1)))
      (appended a.containers new (suc m - 1)))
      (λ (g : 41 ≤ suc m). inl (locus_name (record a { containers = a.containers ++ new ∷ [] }) (suc m) g ∙ sym (locus_name a (suc m) g)))
      (cases_lt (suc m) 41)

  locus_names : (n : ℕ) → (name_of more_loci n ≡ name_of a n) ⊎ ((name_of more_loci n ≡ Some new) × (n ≡ length a.loci + 41))
  unfolding more_loci
  locus_names zero = inl refl
  locus_names (suc m) = ⊎_elim
      (λ (l : suc m < 41). inl (container_name (record a { loci = a.loci ++ new ∷ [] }) (suc m) (omega arith) l ∙ sym (container_name a (suc m) (omega arith) l)))
      (λ (g : 41 ≤ suc m). ⊎_elim
      (λ (same : slice_get (a.loci ++ new ∷ []) (suc m - 41) ≡ slice_get a.loci (suc m - 41)).
      inl (locus_name (record a { loci = a.loci ++ new ∷ [] }) (suc m) g ∙ same ∙ sym (locus_name a (suc m) g)))
      (λ (here : (slice_get (a.loci ++ new ∷ []) (suc m - 41) ≡ Some new) × (suc m - 41 ≡ length a.loci)).
      inr (locus_name (record a { loci = a.loci ++ new ∷ [] }) (suc m) g ∙ here.0, omega (arith, here.1)))
      (appended a.loci new (suc m - 41)))
      (cases_lt (suc m) 41)

  one_more_container : length a.containers < 40 → OneMore a more_containers new (length a.containers + 1)
  unfolding more_containers
  one_more_container room = record {
    names = container_names room;
    kept = λ name n e. ap (λ o. if bytes_eq name (codes "atlas") then Some 0 else or_else o (number_from 41 name a.loci)) (number_kept 1 name new a.containers (differs a new name n none e)) ∙ e;
    own =
        ap (λ t. if t then Some 0 else or_else (number_from 1 new (a.containers ++ new ∷ [])) (number_from 41 new a.loci)) (is_new a new none).no_atlas
        ∙ ap (λ o. or_else o (number_from 41 new a.loci)) (number_added 1 (length a.containers + 1) new a.containers (omega arith) (is_new a new none).no_container);
  }

  one_more_locus : OneMore a more_loci new (length a.loci + 41)
  unfolding more_loci
  one_more_locus = record {
    names = locus_names;
    kept = λ name n e. ap (λ o. if bytes_eq name (codes "atlas") then Some 0 else or_else (number_from 1 name a.containers) o) (number_kept 41 name new a.loci (differs a new name n none e)) ∙ e;
    own =
        ap (λ t. if t then Some 0 else or_else (number_from 1 new a.containers) (number_from 41 new (a.loci ++ new ∷ []))) (is_new a new none).no_atlas
        ∙ ap (λ o. or_else o (number_from 41 new (a.loci ++ new ∷ []))) (is_new a new none).no_container
        ∙ number_added 41 (length a.loci + 41) new a.loci (omega arith) (is_new a new none).no_locus;
  }

  module _ (ok : IsDirectory a) where
    pub container_born : length a.containers < 40 → IsNameOf (length a.containers + 1) new → IsDirectory (record a { containers = a.containers ++ new ∷ [] })
    unfolding more_containers
    container_born room form =
        let one = one_more_container room in
        record {
          few_containers = omega (arith, length-append a.containers (new ∷ []));
          few_loci = ok.few_loci;
          formed = still_formed a (record a { containers = a.containers ++ new ∷ [] }) new (length a.containers + 1) ok one form;
          found = still_found a (record a { containers = a.containers ++ new ∷ [] }) new (length a.containers + 1) ok one;
        }

    pub locus_born : length a.loci < 23 → IsNameOf (length a.loci + 41) new → IsDirectory (record a { loci = a.loci ++ new ∷ [] })
    unfolding more_loci
    locus_born room form =
        let one = one_more_locus in
        record {
          few_containers = ok.few_containers;
          few_loci = omega (arith, length-append a.loci (new ∷ []));
          formed = still_formed a (record a { loci = a.loci ++ new ∷ [] }) new (length a.loci + 41) ok one form;
          found = still_found a (record a { loci = a.loci ++ new ∷ [] }) new (length a.loci + 41) ok one;
        }

-- the lowest free numbers aren't born
pub free_container_none : (a : Directory) → length a.containers < 40 → name_of a (length a.containers + 1) ≡ None
free_container_none a room = container_name a (length a.containers + 1) (omega arith) (omega arith) ∙ slice_get_past a.containers (length a.containers + 1 - 1) (omega arith)

pub free_locus_none : (a : Directory) → name_of a (length a.loci + 41) ≡ None
free_locus_none a = locus_name a (length a.loci + 41) (omega arith) ∙ slice_get_past a.loci (length a.loci + 41 - 41) (omega arith)

-- at first there are no edges
pub zeros : (n y : ℕ) → slice_index (replicate n 0) y ≡ 0
zeros zero y = refl
zeros (suc n) zero = refl
zeros (suc n) (suc y) = zeros n y

pub no_edges : (n m x y : ℕ) → edges_in (replicate n (replicate m 0)) x y ≡ 0
no_edges zero m x y = refl
no_edges (suc n) m zero y = zeros m y
no_edges (suc n) m (suc x) y = no_edges n m x y

-- and nothing but the atlas is born
none_born : (rows : List (List ℕ)) → IsDirectory (record { containers = []; loci = []; edges = rows })
none_born rows = record { few_containers = omega arith; few_loci = omega arith; formed = formed; found = found }
  where
    formed : (n : ℕ) → 0 < n → IfSome (name_of (record { containers = []; loci = []; edges = rows }) n) (IsNameOf n)
    formed n some = ⊎_elim
        (λ (l : n < 41). subst (λ o. IfSome o (IsNameOf n)) (sym (container_name (record { containers = []; loci = []; edges = rows }) n some l)) tt)
        (λ (g : 41 ≤ n). subst (λ o. IfSome o (IsNameOf n)) (sym (locus_name (record { containers = []; loci = []; edges = rows }) n g)) tt)
        (cases_lt n 41)

    found : (n : ℕ) → IfSome (name_of (record { containers = []; loci = []; edges = rows }) n) (λ name. entity_named (record { containers = []; loci = []; edges = rows }) name ≡ Some n)
    found zero = refl
    found (suc m) = ⊎_elim
        (λ (l : suc m < 41). subst (λ o. IfSome o (λ name. entity_named (record { containers = []; loci = []; edges = rows }) name ≡ Some (suc m))) (sym (container_name (record { containers = []; loci = []; edges = rows }) (suc m) (omega arith) l)) tt)
        (λ (g : 41 ≤ suc m). subst (λ o. IfSome o (λ name. entity_named (record { containers = []; loci = []; edges = rows }) name ≡ Some (suc m))) (sym (locus_name (record { containers = []; loci = []; edges = rows }) (suc m) g)) tt)
        (cases_lt (suc m) 41)

pub nothing_born : (cs ls rows : List (List ℕ)) → cs ≡ [] → ls ≡ [] → IsDirectory (record { containers = cs; loci = ls; edges = rows })
nothing_born cs ls rows e f =
    subst (λ l. IsDirectory (record { containers = l; loci = ls; edges = rows })) (sym e)
    (subst (λ l. IsDirectory (record { containers = []; loci = l; edges = rows })) (sym f) (none_born rows))

-- a list that isn't full
pub has_room : (n most : ℕ) → false ≡ (n == most) → n ≤ most → n < most
has_room n most e l = grind (arith, nat_tests)

-- a name that may be born at a number
pub record NewName (a : Directory) (k : ℕ) (new : List ℕ) : Type 0 where
  pub form : IsNameOf k new
  pub none : entity_named a new ≡ None

pub given_new : (a : Directory) (k : ℕ) (text new : List ℕ) → IsName text × (entity_named a text ≡ None) → new ≡ text → NewName a k new
given_new a k text new given is = record { form = inl (subst IsName (sym is) given.0); none = ap (entity_named a) is ∙ given.1 }

pub made_new : (a : Directory) (k : ℕ) (new : List ℕ) → IsDirectory a → k < 64 → name_of a k ≡ None → new ≡ made_name k → NewName a k new
made_new a k new ok small none is = record { form = inr is; none = ap (entity_named a) is ∙ made_is_new a k ok small none }

module _ (a : Directory) (new : List ℕ) (k : ℕ) (names : List (List ℕ)) (ok : IsDirectory a) (is : NewName a k new) where
  pub born_container : length a.containers < 40 → k ≡ length a.containers + 1 → names ≡ a.containers ++ new ∷ [] → IsDirectory (record a { containers = names })
  born_container room number after =
      subst (λ l. IsDirectory (record a { containers = l })) (sym after) (container_born a new is.none ok room (subst (λ n. IsNameOf n new) number is.form))

  pub born_locus : length a.loci < 23 → k ≡ length a.loci + 41 → names ≡ a.loci ++ new ∷ [] → IsDirectory (record a { loci = names })
  born_locus room number after =
      subst (λ l. IsDirectory (record a { loci = l })) (sym after) (locus_born a new is.none ok room (subst (λ n. IsNameOf n new) number is.form))
