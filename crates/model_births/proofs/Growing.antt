-- The births of a script that fits: each is defined, and the rest still fits.
use Rattle.std.proofs.Common.{◌≡◌, ℕ, ◌+◌, ◌<◌, ◌≤◌, Bool, true, false, ◌&&◌, ◌||◌, if◌then◌else◌, ◌==◌, nat_le, nat_lt, IsTrue, List, [], ◌∷◌, ◌++◌, length, Option, Some, None, is_some, is_none, unwrap_or, refl, sym, ap, subst, ◌∙◌, arith}
use Rattle.std.specs.List.{All}
use Rattle.std.proofs.lemmas.Bool.Decides.{nat_tests}
use Rattle.std.proofs.lemmas.List.{length-append}
use Rattle.std.proofs.lemmas.List.Elements.{All-cons, All-head, All-nil, All-tail}
use Rattle.model_sound_runs.specs.model_kernel.Births.{birth_named, container_birth, container_born, edges_from, knows_caps, knows_regions, locus_birth, locus_born, locus_in_host, with_container_name, with_locus_name}
use Rattle.model_sound_runs.specs.model_kernel.Changes.{Change, changed, ordered}
use Rattle.model_sound_runs.specs.model_kernel.Outcomes.{free_container, free_locus}
use Rattle.model_sound_runs.specs.model_kernel.Scripts.{ContainerTable, LocusTable, Script, atlas_name, container_named, container_table, locus_named, locus_table, number_in, number_of, place_of, text_eq}
use Rattle.model_sound_runs.specs.model_kernel.Soundness.{is_given_name}
use Rattle.model_sound_runs.specs.model_kernel.State.{Supply, Text, AtlasState, AtlasCell, KernelState}
use Rattle.model_sound_runs.specs.model_kernel.Words.{or_else}
use Rattle.model_sound_runs.proofs.model_kernel_lemmas.Faithful.{free_container_is, free_locus_is}
use Rattle.model_sound_runs.proofs.model_kernel_lemmas.Writes.{cell_with, changed_cell}
use Rattle.model_sound_runs.specs.script_types.Rules.{AreContainerTables, IsScript, container_names, is_among, locus_names}
use Rattle.model_sound_runs.proofs.Tables.{container_named_born}
use Rattle.model_sound_runs.proofs.TableEdges.{model_containers, model_loci}
use Rattle.model_sound_runs.specs.Kinds.{AreOfOneKind}
use Rattle.model_births.specs.Fitting.{Fits, new_containers, new_loci}
use Rattle.model_births.proofs.KnownNames.{IsNextContainer, IsNextLocus, NextName, OfContainer, OfLocus, different_apart, more_containers, more_loci, none_some, or_cases, some_none, true_false}
use Rattle.model_sound_runs.proofs.model_kernel_lemmas.Locality.{some_if}
use Rattle.model_sound_runs.proofs.model_sound_steps_lemmas.MadeNames.{same_text, text_same}
use Rattle.model_sound_runs.proofs.Births.{place_other, other_way}
use Rattle.model_sound_runs.proofs.Found.{not_atlas}
use Rattle.model_sound_runs.proofs.Naming.{above_0}

-- THE HOST

-- a container's name of the script is a given one, and no locus's
given_container : (a : AtlasState) (earlier : List Text) (ts : List ContainerTable) (x : Text) → AreContainerTables earlier ts → All (λ (t : ContainerTable). locus_named a t.name ≡ None) ts → IsTrue (is_among (container_names ts) x)
    → IsTrue (is_given_name x) × (locus_named a x ≡ None)
given_container a earlier [] x h kinds among = true_false false among refl
given_container a earlier (t ∷ ts) x h kinds among =
    or_cases (text_eq x t.name) (is_among (container_names ts) x) among
    (λ e. (subst (λ (n : Text). IsTrue (is_given_name n)) (sym (text_same x t.name e)) h.0.name, ap (locus_named a) (text_same x t.name e) ∙ All-head (λ (t : ContainerTable). locus_named a t.name ≡ None) t ts kinds))
    (λ e. given_container a (t.name ∷ earlier) ts x h.1 (All-tail (λ (t : ContainerTable). locus_named a t.name ≡ None) t ts kinds) e)

-- so, where it is known, it is a born container's
container_known : (a : AtlasState) (x : Text) → IsTrue (is_given_name x) → locus_named a x ≡ None → is_some (number_of a x) ≡ true → (h : ℕ) × (container_named a x ≡ Some h)
container_known a x given kind known = by_named (container_named a x) refl
  where
    by_named : (o : Option ℕ) → container_named a x ≡ o → (h : ℕ) × (container_named a x ≡ Some h)
    by_named (Some h) is = (h, is)
    by_named None is =
        let none : number_of a x ≡ None = ap (λ (b : Bool). if b then Some 0 else or_else (container_named a x) (locus_named a x)) (not_atlas x given) ∙ (λ i. or_else (is i) (kind i)) in
        none_some (number_of a x) none known

-- EACH BIRTH IS DEFINED

named_container : (s : Supply) (script : Script) (name : Text) (w : KernelState) (a : AtlasState) (t : ContainerTable) → number_of a name ≡ None → container_table script.containers name ≡ Some t → birth_named s script name w a ≡ container_birth s a t (free_container a)
named_container s script name w a t none is = rw (none, is) refl

named_locus : (s : Supply) (script : Script) (name : Text) (w : KernelState) (a : AtlasState) (t : LocusTable) → number_of a name ≡ None → container_table script.containers name ≡ None → locus_table script.loci name ≡ Some t
    → birth_named s script name w a ≡ locus_birth w a t (container_named a t.host)
named_locus s script name w a t none no' is = rw (none, no', is) refl

container_defined : (s : Supply) (a : AtlasState) (t : ContainerTable) → length a.containers < 40 → ((n : ℕ) → IsTrue (knows_regions (number_in a t.name n) t.regions && knows_caps (number_in a t.name n) t.caps)) → is_some (container_birth s a t (free_container a)) ≡ true
container_defined s a t few knows =
    let lt : nat_lt (length a.containers) 40 ≡ true = grind (arith, nat_tests) in
    let n = length a.containers + 1 in
    ap (λ (b : Bool). is_some (container_birth s a t (if b then Some n else None))) lt
    ∙ ap (λ (b : Bool). is_some {T = ℕ × Change} (if b then Some (n, container_born s a t n) else None)) (knows n)

locus_defined : (w : KernelState) (a : AtlasState) (t : LocusTable) (h : ℕ) → container_named a t.host ≡ Some h → length a.loci < 23 → ((n : ℕ) → IsTrue (knows_caps (number_in a t.name n) t.caps)) → is_some (locus_birth w a t (container_named a t.host)) ≡ true
locus_defined w a t h host few knows =
    let lt : nat_lt (length a.loci) 23 ≡ true = grind (arith, nat_tests) in
    let n = length a.loci + 41 in
    ap (λ o. is_some (locus_birth w a t o)) host
    ∙ ap (λ (b : Bool). is_some (locus_in_host a t h (w h).cell (if b then Some n else None))) lt
    ∙ ap (λ (b : Bool). is_some {T = ℕ × Change} (if b then Some (n, locus_born a t n h (w h).cell) else None)) (knows n)

pub named_defined : (s : Supply) (script : Script) (name : Text) (w : KernelState) (a : AtlasState) → IsScript script → Fits a script → NextName a script name → is_some (birth_named s script name w a) ≡ true
named_defined s script name w a rules fits (OfContainer next none) =
    ap is_some (named_container s script name w a next.table next.none next.found) ∙ container_defined s a next.table (let f = fits.containers in let n = next.new in omega (arith, f, n)) next.knows
named_defined s script name w a rules fits (OfLocus next none known) =
    let given = given_container a [] script.containers next.table.host rules.containers fits.kinds.containers next.host in
    let host = container_known a next.table.host given.0 given.1 (known next.table.host next.host) in
    ap is_some (named_locus s script name w a next.table next.none none next.found) ∙ locus_defined w a next.table host.0 host.1 (let f = fits.loci in let n = next.new in omega (arith, f, n)) next.knows

-- THE ATLAS AFTER A BIRTH

-- the name is the last of its kind
pub data Grew (a b : AtlasState) (script : Script) (name : Text) : Type 0 where
  ByContainer : (next : IsNextContainer a script.containers name) → b.containers ≡ a.containers ++ name ∷ [] → b.loci ≡ a.loci → Grew a b script name
  ByLocus : (next : IsNextLocus a (container_names script.containers) script.loci name) → b.containers ≡ a.containers → b.loci ≡ a.loci ++ name ∷ [] → Grew a b script name

pub container_change : (s : Supply) (a : AtlasState) (t : ContainerTable) (o : Option ℕ) (c : ℕ × Change) → container_birth s a t o ≡ Some c → (n : ℕ) × (o ≡ Some n) × ((n, container_born s a t n) ≡ c)
container_change s a t None c e = some_none c (sym e)
container_change s a t (Some n) c e = (n, refl, some_if (knows_regions (number_in a t.name n) t.regions && knows_caps (number_in a t.name n) t.caps) (n, container_born s a t n) c e)

pub locus_change : (w : KernelState) (a : AtlasState) (t : LocusTable) (o : Option ℕ) (c : ℕ × Change) → locus_birth w a t o ≡ Some c → (h n : ℕ) × (o ≡ Some h) × (free_locus a ≡ Some n) × ((n, locus_born a t n h (w h).cell) ≡ c)
locus_change w a t None c e = some_none c (sym e)
locus_change w a t (Some h) c e = by_free (free_locus a) refl e
  where
    by_free : (o : Option ℕ) → free_locus a ≡ o → locus_in_host a t h (w h).cell o ≡ Some c → (h' n : ℕ) × (Some h ≡ Some h') × (free_locus a ≡ Some n) × ((n, locus_born a t n h' (w h').cell) ≡ c)
    by_free None is e = some_none c (sym e)
    by_free (Some n) is e = (h, n, refl, is, some_if (knows_caps (number_in a t.name n) t.caps) (n, locus_born a t n h (w h).cell) c e)

pub born_atlas : (s : Supply) (script : Script) (name : Text) (w : KernelState) (a : AtlasState) (c : ℕ × Change) → NextName a script name → birth_named s script name w a ≡ Some c
    → (b : AtlasState) × ((changed w (ordered c.1.accesses) 0).cell ≡ AtlasCell b) × Grew a b script name
born_atlas s script name w a c (OfContainer next none) is =
    let t = next.table in
    let k = container_change s a t (free_container a) c (sym (named_container s script name w a t next.none next.found) ∙ is) in
    let n = k.0 in
    let number = number_in a t.name n in
    let b = edges_from number n t.regions (with_container_name a t.name) in
    let cell : (changed w (ordered c.1.accesses) 0).cell ≡ AtlasCell b =
    changed_cell w c.1.accesses 0 ∙ ap (λ (d : ℕ × Change). cell_with d.1.accesses 0 (w 0).cell) (sym k.2)
    ∙ ap (λ (q : Bool). if q then unwrap_or (Some (Rattle.model_sound_runs.specs.model_kernel.State.ContainerCell (Rattle.model_sound_runs.specs.model_kernel.Births.container_from s number t))) (AtlasCell b) else AtlasCell b) (above_0 n (free_container_is a n k.1).0) in
    (b, cell, ByContainer next (model_containers number n t.regions (with_container_name a t.name) ∙ ap (λ (x : Text). a.containers ++ x ∷ []) (sym next.named)) (model_loci number n t.regions (with_container_name a t.name)))
born_atlas s script name w a c (OfLocus next none known) is =
    let t = next.table in
    let k = locus_change w a t (container_named a t.host) c (sym (named_locus s script name w a t next.none none next.found) ∙ is) in
    let h = k.0 in
    let n = k.1 in
    let b = with_locus_name a t.name in
    let host : (h == 0) ≡ false = above_0 h (let i = container_named_born a t.host h k.2 in let l : nat_lt 0 h ≡ true = and_first (nat_lt 0 h) (nat_le h (length a.containers)) i in grind (arith, nat_tests)) in
    let me : (n == 0) ≡ false = above_0 n (let i = free_locus_is a n k.3 in omega (arith, i)) in
    let cell : (changed w (ordered c.1.accesses) 0).cell ≡ AtlasCell b =
    changed_cell w c.1.accesses 0 ∙ ap (λ (d : ℕ × Change). cell_with d.1.accesses 0 (w 0).cell) (sym k.4)
    ∙ ap (λ (q : Bool). if (n == 0) then Rattle.model_sound_runs.specs.model_kernel.State.LocusCell (Rattle.model_sound_runs.specs.model_kernel.Births.locus_from (number_in a t.name n) t h (Rattle.model_sound_runs.specs.model_kernel.Births.code_in (w h).cell)) else (if q then (w h).cell else AtlasCell b)) host
    ∙ ap (λ (q : Bool). if q then Rattle.model_sound_runs.specs.model_kernel.State.LocusCell (Rattle.model_sound_runs.specs.model_kernel.Births.locus_from (number_in a t.name n) t h (Rattle.model_sound_runs.specs.model_kernel.Births.code_in (w h).cell)) else AtlasCell b) me in
    (b, cell, ByLocus next refl (ap (λ (x : Text). a.loci ++ x ∷ []) (sym next.named)))
  where
    and_first : (p q : Bool) → (p && q) ≡ true → p ≡ true
    and_first true q e = refl
    and_first false q e = e

-- NAMES AFTER A BIRTH

pub place_more : (x : Text) (ts us : List Text) (k n : ℕ) → place_of x ts k ≡ Some n → place_of x (ts ++ us) k ≡ Some n
place_more x [] us k n is = some_none n (sym is)
place_more x (t ∷ ts) us k n is =
    elim (text_eq x t) as (λ b. (if b then Some k else place_of x ts (k + 1)) ≡ Some n → (if b then Some k else place_of x (ts ++ us) (k + 1)) ≡ Some n) [
      | true ↦ λ e. e
      | false ↦ λ e. place_more x ts us (k + 1) n e
    ] is

place_last : (x : Text) (ts : List Text) (k : ℕ) → is_some (place_of x (ts ++ x ∷ []) k) ≡ true
place_last x [] k = ap (λ (b : Bool). is_some (if b then Some k else None)) (same_text x)
place_last x (t ∷ ts) k =
    elim (text_eq x t) as (λ b. is_some (if b then Some k else place_of x (ts ++ x ∷ []) (k + 1)) ≡ true) [
      | true ↦ refl
      | false ↦ place_last x ts (k + 1)
    ]

place_grown : (x y : Text) (ts : List Text) (k : ℕ) → is_some (place_of x ts k) ≡ true → is_some (place_of x (ts ++ y ∷ []) k) ≡ true
place_grown x y ts k h = by_place (place_of x ts k) refl h
  where
    by_place : (o : Option ℕ) → place_of x ts k ≡ o → is_some o ≡ true → is_some (place_of x (ts ++ y ∷ []) k) ≡ true
    by_place (Some n) is e = ap is_some (place_more x ts (y ∷ []) k n is)
    by_place None is e = true_false false e refl

or_known : (b : Bool) (c d : Option ℕ) → (is_some (if b then Some 0 else or_else c d) ≡ true) ≡ ((b || is_some c || is_some d) ≡ true)
or_known true c d = refl
or_known false (Some n) d = refl
or_known false None d = refl

or_grown : (b c d c' d' : Bool) → (c ≡ true → c' ≡ true) → (d ≡ true → d' ≡ true) → (b || c || d) ≡ true → (b || c' || d') ≡ true
or_grown true c d c' d' f g h = refl
or_grown false true d c' d' f g h = rw (f refl) refl
or_grown false false d true d' f g h = refl
or_grown false false d false d' f g h = g h

-- the name is known by the containers or the loci
pub grown_known : (a b : AtlasState) (x : Text) → (is_some (container_named a x) ≡ true → is_some (container_named b x) ≡ true) → (is_some (locus_named a x) ≡ true → is_some (locus_named b x) ≡ true) → is_some (number_of a x) ≡ true → is_some (number_of b x) ≡ true
grown_known a b x c l h =
    let was = subst (λ (T : Type 0). T) (or_known (text_eq x atlas_name) (container_named a x) (locus_named a x)) h in
    subst (λ (T : Type 0). T) (sym (or_known (text_eq x atlas_name) (container_named b x) (locus_named b x)))
    (or_grown (text_eq x atlas_name) (is_some (container_named a x)) (is_some (locus_named a x)) (is_some (container_named b x)) (is_some (locus_named b x)) c l was)

-- what was known stays known
pub still_known : (a b : AtlasState) (script : Script) (name x : Text) → Grew a b script name → is_some (number_of a x) ≡ true → is_some (number_of b x) ≡ true
still_known a b script name x (ByContainer next containers loci) =
    grown_known a b x (λ h. subst (λ (ts : List Text). is_some (place_of x ts 1) ≡ true) (sym containers) (place_grown x name a.containers 1 h)) (λ h. subst (λ (ts : List Text). is_some (place_of x ts 41) ≡ true) (sym loci) h)
still_known a b script name x (ByLocus next containers loci) =
    grown_known a b x (λ h. subst (λ (ts : List Text). is_some (place_of x ts 1) ≡ true) (sym containers) h) (λ h. subst (λ (ts : List Text). is_some (place_of x ts 41) ≡ true) (sym loci) (place_grown x name a.loci 41 h))

or_known_of : (b : AtlasState) (x : Text) → (is_some (container_named b x) || is_some (locus_named b x)) ≡ true → is_some (number_of b x) ≡ true
or_known_of b x h = subst (λ (T : Type 0). T) (sym (or_known (text_eq x atlas_name) (container_named b x) (locus_named b x))) (or_more (text_eq x atlas_name) h)
  where
    or_more : (p : Bool) → (is_some (container_named b x) || is_some (locus_named b x)) ≡ true → (p || is_some (container_named b x) || is_some (locus_named b x)) ≡ true
    or_more true h = refl
    or_more false h = h

-- and the newborn's name is
pub now_known : (a b : AtlasState) (script : Script) (name : Text) → Grew a b script name → is_some (number_of b name) ≡ true
now_known a b script name (ByContainer next containers loci) =
    let here : is_some (container_named b name) ≡ true = subst (λ (ts : List Text). is_some (place_of name ts 1) ≡ true) (sym containers) (place_last name a.containers 1) in
    or_known_of b name (ap (λ p. p || is_some (locus_named b name)) here)
now_known a b script name (ByLocus next containers loci) =
    let here : is_some (locus_named b name) ≡ true = subst (λ (ts : List Text). is_some (place_of name ts 41) ≡ true) (sym loci) (place_last name a.loci 41) in
    or_known_of b name (ap (λ p. is_some (container_named b name) || p) here ∙ or_true (is_some (container_named b name)))
  where
    or_true : (p : Bool) → (p || true) ≡ true
    or_true true = refl
    or_true false = refl

-- COUNTS OF NEW NAMES

one_new : (o p : Option ℕ) → (is_some o ≡ true → is_some p ≡ true) → (if is_none p then 1 else 0) ≤ (if is_none o then 1 else 0)
one_new None None h = omega arith
one_new None (Some n) h = omega arith
one_new (Some n) None h = true_false false (h refl) refl
one_new (Some n) (Some m) h = omega arith

fewer_containers : (a b : AtlasState) (ts : List ContainerTable) → ((x : Text) → is_some (number_of a x) ≡ true → is_some (number_of b x) ≡ true) → new_containers b ts ≤ new_containers a ts
fewer_containers a b [] h = omega arith
fewer_containers a b (t ∷ ts) h =
    let m = more_containers a t ts in
    let n = more_containers b t ts in
    let one = one_new (number_of a t.name) (number_of b t.name) (h t.name) in
    let rest = fewer_containers a b ts h in
    omega (arith, m, n, one, rest)

fewer_loci : (a b : AtlasState) (ts : List LocusTable) → ((x : Text) → is_some (number_of a x) ≡ true → is_some (number_of b x) ≡ true) → new_loci b ts ≤ new_loci a ts
fewer_loci a b [] h = omega arith
fewer_loci a b (t ∷ ts) h =
    let m = more_loci a t ts in
    let n = more_loci b t ts in
    let one = one_new (number_of a t.name) (number_of b t.name) (h t.name) in
    let rest = fewer_loci a b ts h in
    omega (arith, m, n, one, rest)

born_now : (o p : Option ℕ) → o ≡ None → is_some p ≡ true → (if is_none p then 1 else 0) + 1 ≤ (if is_none o then 1 else 0)
born_now None None e h = true_false false h refl
born_now None (Some n) e h = omega arith
born_now (Some n) p e h = some_none n e

one_container_fewer : (a b : AtlasState) (ts : List ContainerTable) (name : Text) → ((x : Text) → is_some (number_of a x) ≡ true → is_some (number_of b x) ≡ true) → number_of a name ≡ None → is_some (number_of b name) ≡ true → IsTrue (is_among (container_names ts) name)
    → new_containers b ts + 1 ≤ new_containers a ts
one_container_fewer a b [] name h none now among = true_false false among refl
one_container_fewer a b (t ∷ ts) name h none now among =
    let m = more_containers a t ts in
    let n = more_containers b t ts in
    or_cases (text_eq name t.name) (is_among (container_names ts) name) among
    (λ e.
    let same = text_same name t.name e in
    let one = born_now (number_of a t.name) (number_of b t.name) (ap (number_of a) (sym same) ∙ none) (ap (λ x. is_some (number_of b x)) (sym same) ∙ now) in
    let rest = fewer_containers a b ts h in
    omega (arith, m, n, one, rest))
    (λ e.
    let one = one_new (number_of a t.name) (number_of b t.name) (h t.name) in
    let rest = one_container_fewer a b ts name h none now e in
    omega (arith, m, n, one, rest))

one_locus_fewer : (a b : AtlasState) (ts : List LocusTable) (name : Text) → ((x : Text) → is_some (number_of a x) ≡ true → is_some (number_of b x) ≡ true) → number_of a name ≡ None → is_some (number_of b name) ≡ true → IsTrue (is_among (locus_names ts) name)
    → new_loci b ts + 1 ≤ new_loci a ts
one_locus_fewer a b [] name h none now among = true_false false among refl
one_locus_fewer a b (t ∷ ts) name h none now among =
    let m = more_loci a t ts in
    let n = more_loci b t ts in
    or_cases (text_eq name t.name) (is_among (locus_names ts) name) among
    (λ e.
    let same = text_same name t.name e in
    let one = born_now (number_of a t.name) (number_of b t.name) (ap (number_of a) (sym same) ∙ none) (ap (λ x. is_some (number_of b x)) (sym same) ∙ now) in
    let rest = fewer_loci a b ts h in
    omega (arith, m, n, one, rest))
    (λ e.
    let one = one_new (number_of a t.name) (number_of b t.name) (h t.name) in
    let rest = one_locus_fewer a b ts name h none now e in
    omega (arith, m, n, one, rest))

-- THE REST STILL FITS

all_containers_by : (P Q : ContainerTable → Type 0) (ts : List ContainerTable) → ((t : ContainerTable) → IsTrue (is_among (container_names ts) t.name) → P t → Q t) → All P ts → All Q ts
all_containers_by P Q [] f all = All-nil Q
all_containers_by P Q (t ∷ ts) f all =
    All-cons Q t ts (f t (ap (λ b. b || is_among (container_names ts) t.name) (same_text t.name)) (All-head P t ts all))
    (all_containers_by P Q ts (λ u among p. f u (or_second (text_eq u.name t.name) (is_among (container_names ts) u.name) among) p) (All-tail P t ts all))
  where
    or_second : (p q : Bool) → q ≡ true → (p || q) ≡ true
    or_second true q e = refl
    or_second false q e = e

all_loci_by : (P Q : LocusTable → Type 0) (ts : List LocusTable) → ((t : LocusTable) → IsTrue (is_among (locus_names ts) t.name) → P t → Q t) → All P ts → All Q ts
all_loci_by P Q [] f all = All-nil Q
all_loci_by P Q (t ∷ ts) f all =
    All-cons Q t ts (f t (ap (λ b. b || is_among (locus_names ts) t.name) (same_text t.name)) (All-head P t ts all))
    (all_loci_by P Q ts (λ u among p. f u (or_second (text_eq u.name t.name) (is_among (locus_names ts) u.name) among) p) (All-tail P t ts all))
  where
    or_second : (p q : Bool) → q ≡ true → (p || q) ≡ true
    or_second true q e = refl
    or_second false q e = e

-- a name of the containers is none of the loci's
apart_texts : (xs ys : List Text) (x y : Text) → Rattle.model_sound_runs.specs.script_types.Rules.AreDifferent (xs ++ ys) → IsTrue (is_among xs x) → IsTrue (is_among ys y) → text_eq x y ≡ false
apart_texts xs ys x y different front back = by_test (text_eq x y) refl
  where
    by_test : (b : Bool) → text_eq x y ≡ b → text_eq x y ≡ false
    by_test false e = e
    by_test true e = true_false (is_among ys y) back (ap (is_among ys) (sym (text_same x y e)) ∙ different_apart xs ys x different front)

-- a name that is born leaves the others their kinds
pub kinds_after : (a b : AtlasState) (script : Script) (name : Text) → IsScript script → AreOfOneKind a script → Grew a b script name → AreOfOneKind b script
kinds_after a b script name rules kinds (ByContainer next containers loci) = record {
  containers = all_containers_by (λ (t : ContainerTable). locus_named a t.name ≡ None) (λ (t : ContainerTable). locus_named b t.name ≡ None) script.containers (λ t among h. ap (λ (ts : List Text). place_of t.name ts 41) loci ∙ h) kinds.containers;
  loci = all_loci_by (λ (t : LocusTable). container_named a t.name ≡ None) (λ (t : LocusTable). container_named b t.name ≡ None) script.loci
      (λ t among h.
      ap (λ (ts : List Text). place_of t.name ts 1) containers
      ∙ place_other t.name name a.containers 1 (other_way name t.name (apart_texts (container_names script.containers) (locus_names script.loci) name t.name rules.different next.among among)) h) kinds.loci;
}
kinds_after a b script name rules kinds (ByLocus next containers loci) = record {
  containers = all_containers_by (λ (t : ContainerTable). locus_named a t.name ≡ None) (λ (t : ContainerTable). locus_named b t.name ≡ None) script.containers
      (λ t among h.
      ap (λ (ts : List Text). place_of t.name ts 41) loci ∙ place_other t.name name a.loci 41 (apart_texts (container_names script.containers) (locus_names script.loci) t.name name rules.different among next.among) h) kinds.containers;
  loci = all_loci_by (λ (t : LocusTable). container_named a t.name ≡ None) (λ (t : LocusTable). container_named b t.name ≡ None) script.loci (λ t among h. ap (λ (ts : List Text). place_of t.name ts 1) containers ∙ h) kinds.loci;
}

pub fits_after : (a b : AtlasState) (script : Script) (name : Text) → IsScript script → Fits a script → number_of a name ≡ None → Grew a b script name → Fits b script
fits_after a b script name rules fits none (ByContainer next containers loci) =
    let grew : Grew a b script name = ByContainer next containers loci in
    let known = λ (x : Text). still_known a b script name x grew in
    let now = now_known a b script name grew in
    record {
      kinds = kinds_after a b script name rules fits.kinds grew;
      containers = (let f = fits.containers in let l = ap length containers in let m = length-append a.containers (name ∷ []) in let k = one_container_fewer a b script.containers name known none now next.among in omega (arith, f, l, m, k));
      loci = (let f = fits.loci in let l = ap length loci in let k = fewer_loci a b script.loci known in omega (arith, f, l, k));
    }
fits_after a b script name rules fits none (ByLocus next containers loci) =
    let grew : Grew a b script name = ByLocus next containers loci in
    let known = λ (x : Text). still_known a b script name x grew in
    let now = now_known a b script name grew in
    record {
      kinds = kinds_after a b script name rules fits.kinds grew;
      containers = (let f = fits.containers in let l = ap length containers in let k = fewer_containers a b script.containers known in omega (arith, f, l, k));
      loci = (let f = fits.loci in let l = ap length loci in let m = length-append a.loci (name ∷ []) in let k = one_locus_fewer a b script.loci name known none now next.among in omega (arith, f, l, m, k));
    }
