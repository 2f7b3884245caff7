-- A drill keeps the rules of scripts, whatever words it is drawn from.
use Rattle.std.proofs.Common.{◌≡◌, ℕ, zero, suc, ◌+◌, ◌<◌, ◌≤◌, ◌%◌, Bool, true, false, ◌||◌, ◌&&◌, ◌==◌, if◌then◌else◌, List, [], ◌∷◌, ◌++◌, length, map, refl, sym, ap, subst, ◌∙◌, arith, eq-eqb, ⊎_elim}
use Rattle.std.specs.Fmt.{digits}
use Rattle.std.specs.List.{All, list_all}
use Rattle.std.proofs.lemmas.List.{map_push, length_push}
use Rattle.std.proofs.lemmas.List.Elements.{All-nil, All-cons, All-push}
use Rattle.std.proofs.lemmas.List.Folds.{list_all-append, list_any-append}
use Rattle.std.proofs.lemmas.Bool.{and_parts, cases_eq}
use Rattle.std.proofs.lemmas.Bool.Decides.{nat_tests}
use Rattle.base_types.specs.Edges.{upto}
use Rattle.base_types.specs.Instructions.{IsInstruction}
use Rattle.base_types.specs.declared.instructions.Instr.{Instr}
use Rattle.base_types.specs.declared.instructions.Instr.TheVariants.{Jump}
use Rattle.script_types.specs.model_kernel.State.{Text}
use Rattle.script_types.specs.model_kernel.Scripts.{RegionTable, CapTable, ContainerTable, LocusTable, text_eq, atlas_name}
use Rattle.script_types.specs.model_kernel.Soundness.{is_given_name, IsSoundCode}
use Rattle.script_types.specs.Rules.{is_among, AreDifferent, IsRegionTable, AreAllApart, IsCapTable, IsContainerTable, IsLocusTable, container_names, locus_names, AreContainerTables, AreLocusTables, IsScript}
use Rattle.script_types.proofs.Tables.{containers_more, loci_more}
use Rattle.script_drill.specs.Draws.{Words, Drawn, rest, each}
use Rattle.script_drill.specs.Drill.{container_name, locus_name, of_kind, instruction, program, region_onto, regions, container, cap_on, locus, drill_of}
use Rattle.std.proofs.Math.Bool.{or-true}

-- THINGS THAT ARE DRAWN ONE AFTER ANOTHER

length-each : {A : Type 0} (one : ℕ → Words → Drawn A) (n : ℕ) (ws : Words) → length (each one n ws).0 ≡ n
unfolding each
length-each one zero ws = refl
length-each one (suc n) ws = length_push (each one n ws).0 (one n (each one n ws).1).0 ∙ ap (λ k. k + 1) (length-each one n ws) ∙ grind arith

-- what holds of each thing that can be drawn
each_keeps : {A : Type 0} (P : A → Type 0) (one : ℕ → Words → Drawn A) (n : ℕ) (ws : Words) → ((i : ℕ) (vs : Words) → i < n → P (one i vs).0) → All P (each one n ws).0
unfolding each
each_keeps P one zero ws h = All-nil P
each_keeps P one (suc n) ws h =
    All-push P (each one n ws).0 (one n (each one n ws).1).0
    (each_keeps P one n ws (λ i vs lt. h i vs (omega arith)))
    (h n (each one n ws).1 (omega arith))

-- a part that does not depend on the words
each_shows : {A B : Type 0} (f : A → B) (shown : ℕ → B) (one : ℕ → Words → Drawn A) (n : ℕ) (ws : Words) → ((i : ℕ) (vs : Words) → f (one i vs).0 ≡ shown i) → map f (each one n ws).0 ≡ map shown (upto n)
unfolding each
each_shows f shown one zero ws h = refl
each_shows {B = B} f shown one (suc n) ws h =
    map_push f (each one n ws).0 (one n (each one n ws).1).0
    ∙ ap (λ (bs : List B). bs ++ f (one n (each one n ws).1).0 ∷ []) (each_shows f shown one n ws h)
    ∙ ap (λ (b : B). map shown (upto n) ++ b ∷ []) (h n (each one n ws).1)
    ∙ sym (map_push shown (upto n) n)

-- NAMES

same_text : (t : Text) → text_eq t t ≡ true
same_text [] = refl
same_text (x ∷ xs) = (let e : (x == x) ≡ true = eq-eqb x x refl in rw e (same_text xs))

-- of the numbers below n, what holds of all holds of each
below_all : (p : ℕ → Bool) (n k : ℕ) → list_all p (upto n) ≡ true → k < n → p k ≡ true
below_all p zero k all lt = absurd (omega arith)
below_all p (suc n) k all lt =
    let parts = and_parts (list_all p (upto n)) (p n && true) (sym (list_all-append p (upto n) (n ∷ [])) ∙ all) in
    ⊎_elim
    (λ (same : k ≡ n). ap p same ∙ (and_parts (p n) true parts.1).0)
    (λ (other : k ≡ n → ⊥). below_all p n k parts.0 (omega arith))
    (cases_eq k n)

-- the name of a number below n is among those of the numbers below n
among_below : (name : ℕ → Text) (n k : ℕ) → k < n → is_among (map name (upto n)) (name k) ≡ true
among_below name zero k lt = absurd (omega arith)
among_below name (suc n) k lt =
    ap (λ (ns : List Text). is_among ns (name k)) (map_push name (upto n) n)
    ∙ list_any-append (text_eq (name k)) (map name (upto n)) (name n ∷ [])
    ∙ ⊎_elim
    (λ (same : k ≡ n). ap (λ (b : Bool). is_among (map name (upto n)) (name k) || (b || false)) (ap (λ (j : ℕ). text_eq (name k) (name j)) (sym same) ∙ same_text (name k)) ∙ or-true (is_among (map name (upto n)) (name k)))
    (λ (other : k ≡ n → ⊥). ap (λ (b : Bool). b || (text_eq (name k) (name n) || false)) (among_below name n k (omega arith)))
    (cases_eq k n)

container_given : (c : ℕ) → c < 12 → is_given_name (container_name c) ≡ true
unfolding digits
container_given c lt = below_all (λ c. is_given_name (container_name c)) 12 c refl lt

locus_given : (l : ℕ) → l < 6 → is_given_name (locus_name l) ≡ true
unfolding digits
locus_given l lt = below_all (λ l. is_given_name (locus_name l)) 6 l refl lt

-- PROGRAMS

-- what holds of both sides of a choice
either_way : {A : Type 0} (P : A → Type 0) (b : Bool) (x y : A) → P x → P y → P (if b then x else y)
either_way P true x y p q = p
either_way P false x y p q = q

kind_good : (kind : ℕ) (ws : Words) → IsInstruction (of_kind kind ws).0
unfolding of_kind
kind_good kind ws =
    choose (kind == 0) _ _ (omega arith, omega arith)
    (choose (kind == 1) _ _ (omega arith, omega arith)
    (choose (kind == 2) _ _ (omega arith, omega arith)
    (choose (kind == 3) _ _ (omega arith, omega arith)
    (choose (kind == 4) _ _ (omega arith, omega arith)
    (choose (kind == 5) _ _ (omega arith)
    (choose (kind == 6) _ _ tt
    (choose (kind == 7) _ _ (omega arith)
    (choose (kind == 8) _ _ (omega arith) (omega arith)))))))))
  where
    choose : (b : Bool) (x y : Drawn Instr) → IsInstruction x.0 → IsInstruction y.0 → IsInstruction (if b then x else y).0
    choose = either_way (λ (d : Drawn Instr). IsInstruction d.0)

program_good : (ws : Words) → IsSoundCode (program ws).0
program_good ws = record {
  few = few (length_push (each (λ _. instruction) 39 ws).0 (Jump 0)) (length-each (λ _. instruction) 39 ws);
  each = All-push IsInstruction (each (λ _. instruction) 39 ws).0 (Jump 0)
      (each_keeps IsInstruction (λ _. instruction) 39 ws (λ i vs lt. kind_good (vs 0 % 10) (rest vs)))
      (omega arith);
}
  where
    few : {n m : ℕ} → n ≡ m + 1 → m ≡ 39 → n ≤ 128
    few a b = omega arith

-- CONTAINERS

-- what is known of the names before a table
abbrev Knows : List Text → ℕ → Type 0
Knows known c = (k : ℕ) → k < c → is_among known (container_name k) ≡ true

region_good : (known : List Text) (pages k : ℕ) → 1 ≤ pages → is_among known (container_name k) ≡ true → IsRegionTable known pages (region_onto k)
region_good known pages k some named = record {
  some = omega arith;
  at = omega arith;
  from = omega arith;
  access = (omega arith, omega arith);
  target = named;
}

record GoodRegions (known : List Text) (pages : ℕ) (rs : List RegionTable) : Type 0 where
  few : length rs ≤ 16
  each : All (IsRegionTable known pages) rs
  apart : AreAllApart rs

no_regions : (known : List Text) (pages : ℕ) → GoodRegions known pages []
no_regions known pages = record { few = omega arith; each = All-nil (IsRegionTable known pages); apart = tt }

one_region : (known : List Text) (pages : ℕ) (r : RegionTable) → IsRegionTable known pages r → GoodRegions known pages (r ∷ [])
one_region known pages r good = record {
  few = omega arith;
  each = All-cons (IsRegionTable known pages) r [] good (All-nil (IsRegionTable known pages));
  apart = (All-nil _, tt);
}

regions_good : (known : List Text) (pages c : ℕ) (ws : Words) → 1 ≤ pages → Knows known c → GoodRegions known pages (regions c ws).0
unfolding regions
regions_good known pages c ws some knows =
    by_number c (c == 0) refl knows
  where
    chosen : Bool → Drawn (List RegionTable) → Drawn (List RegionTable) → Drawn (List RegionTable)
    chosen b x y = if b then x else y

    by_number : (c : ℕ) (none : Bool) → (c == 0) ≡ none → Knows known c
        → GoodRegions known pages (chosen none (([], ws)) (chosen (ws 0 % 2 == 1) ((region_onto (ws 1 % c) ∷ [], rest (rest ws))) (([], rest ws)))).0
    by_number c true e knows = no_regions known pages
    by_number c false e knows =
        either_way (λ (d : Drawn (List RegionTable)). GoodRegions known pages d.0) (ws 0 % 2 == 1) _ _
        (one_region known pages (region_onto (ws 1 % c)) (region_good known pages (ws 1 % c) some (knows (ws 1 % c) (let lt : ws 1 % c < c = grind (arith, nat_tests) in lt))))
        (no_regions known pages)

container_good : (known : List Text) (c : ℕ) (ws : Words) → c < 12 → Knows known c → IsContainerTable known (container c ws).0
unfolding container
container_good known c ws lt knows =
    let pages : 1 ≤ 1 + ws 0 % 16 = omega arith in
    let shown = regions_good known (1 + ws 0 % 16) c (rest (rest (rest ws))) pages knows in
    record {
      name = container_given c lt;
      pages = (pages, omega arith);
      tag = omega arith;
      every = omega arith;
      code = program_good (regions c (rest (rest (rest ws)))).1;
      entry = λ p e. (let same : 0 ≡ p = cc in omega arith);
      few_regions = shown.few;
      regions = shown.each;
      apart = shown.apart;
      few_caps = omega arith;
      caps = All-nil _;
    }

container_named : (c : ℕ) (ws : Words) → (container c ws).0.name ≡ container_name c
unfolding container
container_named c ws = refl

-- the names of the first n containers
names_of_containers : (n : ℕ) (ws : Words) → container_names (each container n ws).0 ≡ map container_name (upto n)
names_of_containers n ws = each_shows (λ (t : ContainerTable). t.name) container_name container n ws container_named

containers_good : (n : ℕ) (ws : Words) → n ≤ 12 → AreContainerTables [] (each container n ws).0
unfolding each
containers_good zero ws le = tt
containers_good (suc n) ws le =
    containers_more [] (each container n ws).0 (container n (each container n ws).1).0 (containers_good n ws (omega arith))
    (λ known same. container_good known n (each container n ws).1 (omega arith)
    (λ k lt. same (container_name k) ∙ ap (λ (ns : List Text). is_among ns (container_name k)) (names_of_containers n ws) ∙ among_below container_name n k lt))

-- LOCI

-- a name that is among the first of two lists
among_front : (xs ys : List Text) (name : Text) → is_among xs name ≡ true → is_among (xs ++ ys) name ≡ true
among_front xs ys name h = list_any-append (text_eq name) xs ys ∙ ap (λ b. b || is_among ys name) h

locus_good : (containers known : List Text) (l : ℕ) (ws : Words) → l < 6 → Knows containers 12 → IsLocusTable containers known (locus l ws).0
unfolding locus
locus_good containers known l ws lt knows = record {
  name = locus_given l lt;
  host = knows (ws 0 % 12) (omega arith);
  at = omega arith;
  every = omega arith;
  few_caps = few (length_push (each cap_on 12 after).0 to_atlas) (length-each cap_on 12 after);
  caps = All-push (IsCapTable names) (each cap_on 12 after).0 to_atlas
      (each_keeps (IsCapTable names) cap_on 12 after (λ i vs below. behind_two (text_eq (container_name i) atlas_name) (text_eq (container_name i) (locus_name l)) (among_front containers known (container_name i) (knows i below))))
      refl;
}
  where
    after : Words
    after = rest (rest ws)

    to_atlas : CapTable
    to_atlas = record { entity = atlas_name; rights = 128 }

    names : List Text
    names = atlas_name ∷ locus_name l ∷ containers ++ known

    few : {n m : ℕ} → n ≡ m + 1 → m ≡ 12 → n ≤ 32
    few a b = omega arith

    behind_two : (a b : Bool) {c : Bool} → c ≡ true → (a || (b || c)) ≡ true
    behind_two true b h = refl
    behind_two false true h = refl
    behind_two false false h = h

locus_named : (l : ℕ) (ws : Words) → (locus l ws).0.name ≡ locus_name l
unfolding locus
locus_named l ws = refl

loci_good : (containers : List Text) (n : ℕ) (ws : Words) → n ≤ 6 → Knows containers 12 → AreLocusTables containers [] (each locus n ws).0
unfolding each
loci_good containers zero ws le knows = tt
loci_good containers (suc n) ws le knows =
    loci_more containers [] (each locus n ws).0 (locus n (each locus n ws).1).0 (loci_good containers n ws (omega arith) knows)
    (λ known same. locus_good containers known n (each locus n ws).1 (omega arith) knows)

-- THE SCRIPT

all_different : AreDifferent (map container_name (upto 12) ++ map locus_name (upto 6))
unfolding digits
all_different = (refl, (refl, (refl, (refl, (refl, (refl, (refl, (refl, (refl, (refl, (refl, (refl, (refl, (refl, (refl, (refl, (refl, (refl, tt))))))))))))))))))

pub IsScript-drill : (ws : Words) → IsScript (drill_of ws)
unfolding drill_of
IsScript-drill ws = record {
  steps = (omega arith, omega arith);
  few_containers = few_of _ 12 40 (length-each container 12 ws) (omega arith);
  few_loci = few_of _ 6 23 (length-each locus 6 (each container 12 ws).1) (omega arith);
  containers = containers_good 12 ws (omega arith);
  loci = loci_good (container_names (each container 12 ws).0) 6 (each container 12 ws).1 (omega arith)
      (λ k lt. ap (λ (ns : List Text). is_among ns (container_name k)) (names_of_containers 12 ws) ∙ among_below container_name 12 k lt);
  different = subst AreDifferent
      (sym (ap (λ (ns : List Text). ns ++ locus_names (each locus 6 (each container 12 ws).1).0) (names_of_containers 12 ws)
      ∙ ap (λ (ns : List Text). map container_name (upto 12) ++ ns) (each_shows (λ (t : LocusTable). t.name) locus_name locus 6 (each container 12 ws).1 locus_named)))
      all_different;
  few_picks = omega arith;
  order = refl;
}
  where
    few_of : (n m k : ℕ) → n ≡ m → m ≤ k → n ≤ k
    few_of n m k e le = omega arith
