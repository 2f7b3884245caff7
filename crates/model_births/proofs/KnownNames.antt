-- Names of a script that are born, and the next one that isn't.
use Rattle.std.proofs.Common.{◌≡◌, ℕ, ◌+◌, ◌≤◌, Bool, true, false, not, ◌&&◌, ◌||◌, if◌then◌else◌, IsTrue, List, [], ◌∷◌, ◌++◌, Option, Some, None, is_some, is_none, refl, sym, ap, ◌∙◌, arith}
use Rattle.std.specs.List.{All}
use Rattle.std.proofs.lemmas.List.Elements.{All-head, All-tail}
use Rattle.std.proofs.lemmas.List.Sums.{sum_by-cons}
use Rattle.model_sound_runs.specs.model_kernel.Births.{knows_caps, knows_regions}
use Rattle.model_sound_runs.specs.model_kernel.Scripts.{CapTable, ContainerTable, LocusTable, RegionTable, Script, atlas_name, container_named, container_table, locus_named, locus_table, next_container_name, next_locus_name, next_name, number_in, number_of, text_eq}
use Rattle.model_sound_runs.specs.model_kernel.State.{Text, AtlasState}
use Rattle.model_sound_runs.specs.model_kernel.Words.{or_else}
use Rattle.model_sound_runs.specs.script_types.Rules.{AreContainerTables, AreDifferent, AreLocusTables, IsCapTable, IsRegionTable, IsScript, container_names, is_among, locus_names}
use Rattle.model_births.specs.Fitting.{new_containers, new_loci}
use Rattle.model_sound_runs.proofs.model_sound_steps_lemmas.MadeNames.{same_text, text_same}
use Rattle.std.proofs.lemmas.Bool.{and_from, or_parts, or_right}

-- TEXTS AND TESTS

pub true_false : {A : Type 0} (b : Bool) → b ≡ true → b ≡ false → A
true_false true e f = absurd (no f)
  where
    no : true ≡ false → ⊥
    no h = cc
true_false false e f = absurd (no e)
  where
    no : false ≡ true → ⊥
    no h = cc

pub some_none : {X A : Type 0} (x : X) → Some x ≡ None → A
some_none x e = absurd (no e)
  where
    no : Some x ≡ None → ⊥
    no h = cc

pub is_named : {X : Type 0} (o : Option X) → is_none o ≡ false → is_some o ≡ true
is_named None e = absurd (no e)
  where
    no : true ≡ false → ⊥
    no h = cc
is_named (Some x) e = refl

pub not_named : {X : Type 0} (o : Option X) → is_none o ≡ true → o ≡ None
not_named None e = refl
not_named (Some x) e = absurd (no e)
  where
    no : false ≡ true → ⊥
    no h = cc

pub none_some : {X A : Type 0} (o : Option X) → o ≡ None → is_some o ≡ true → A
none_some o none known = true_false (is_some o) known (ap is_some none)

pub or_cases : {A : Type 0} (p q : Bool) → (p || q) ≡ true → (p ≡ true → A) → (q ≡ true → A) → A
or_cases true q e f g = f refl
or_cases false q e f g = g e

-- a known name is not one that is new
pub other_text : (a : AtlasState) (x y : Text) → number_of a x ≡ None → is_some (number_of a y) ≡ true → text_eq x y ≡ false
other_text a x y none known = by_test (text_eq x y) refl
  where
    by_test : (b : Bool) → text_eq x y ≡ b → text_eq x y ≡ false
    by_test false e = e
    by_test true e = none_some (number_of a y) (ap (number_of a) (sym (text_same x y e)) ∙ none) known

-- KNOWN NAMES

-- each name to which the table refers is in the atlas or its own, whatever number it gets
abbrev pub KnowsContainer : AtlasState → ContainerTable → Type 0
KnowsContainer a t = (n : ℕ) → IsTrue (knows_regions (number_in a t.name n) t.regions && knows_caps (number_in a t.name n) t.caps)

-- the host aside
abbrev pub KnowsLocus : AtlasState → LocusTable → Type 0
KnowsLocus a t = (n : ℕ) → IsTrue (knows_caps (number_in a t.name n) t.caps)

-- each of these names is in the atlas
abbrev pub AllKnown : AtlasState → List Text → Type 0
AllKnown a names = (x : Text) → IsTrue (is_among names x) → is_some (number_of a x) ≡ true

known_more : (a : AtlasState) (name : Text) (names : List Text) → is_some (number_of a name) ≡ true → AllKnown a names → AllKnown a (name ∷ names)
known_more a name names here rest x among =
    or_cases (text_eq x name) (is_among names x) among (λ e. ap (λ t. is_some (number_of a t)) (text_same x name e) ∙ here) (λ e. rest x e)

known_atlas : (a : AtlasState) → is_some (number_of a atlas_name) ≡ true
known_atlas a = ap (λ (b : Bool). is_some (if b then Some 0 else or_else (container_named a atlas_name) (locus_named a atlas_name))) (same_text atlas_name)

among_both : {A : Type 0} (xs ys : List Text) (x : Text) → IsTrue (is_among (xs ++ ys) x) → (IsTrue (is_among xs x) → A) → (IsTrue (is_among ys x) → A) → A
among_both [] ys x among f g = g among
among_both (y ∷ xs) ys x among f g =
    or_cases (text_eq x y) (is_among (xs ++ ys) x) among (λ e. f (ap (λ b. b || is_among xs x) e)) (λ e. among_both xs ys x e (λ h. f (or_right (text_eq x y) (is_among xs x) h)) g)

known_both : (a : AtlasState) (xs ys : List Text) → AllKnown a xs → AllKnown a ys → AllKnown a (xs ++ ys)
known_both a xs ys h g x among = among_both xs ys x among (h x) (g x)

-- in a table, a name that is known or the table's own has a number
known_in : (a : AtlasState) (own : Text) (n : ℕ) (name : Text) → (text_eq name own ≡ false → is_some (number_of a name) ≡ true) → is_some (number_in a own n name) ≡ true
known_in a own n name h = by_test (text_eq name own) refl
  where
    by_test : (b : Bool) → text_eq name own ≡ b → is_some (number_in a own n name) ≡ true
    by_test true e = ap (λ (b : Bool). is_some (if b then Some n else number_of a name)) e
    by_test false e = ap (λ (b : Bool). is_some (if b then Some n else number_of a name)) e ∙ h e

-- the names to which capabilities may refer: the atlas, the table's own, and known ones
caps_known : (a : AtlasState) (own : Text) (n : ℕ) (names : List Text) (cs : List CapTable) → AllKnown a names → All (IsCapTable (atlas_name ∷ own ∷ names)) cs → IsTrue (knows_caps (number_in a own n) cs)
caps_known a own n names [] known all = refl
caps_known a own n names (c ∷ cs) known all =
    and_from (is_some (number_in a own n c.entity)) (knows_caps (number_in a own n) cs) (known_in a own n c.entity here)
    (caps_known a own n names cs known (All-tail (IsCapTable (atlas_name ∷ own ∷ names)) c cs all))
  where
    here : text_eq c.entity own ≡ false → is_some (number_of a c.entity) ≡ true
    here other =
        or_cases (text_eq c.entity atlas_name) (text_eq c.entity own || is_among names c.entity) (All-head (IsCapTable (atlas_name ∷ own ∷ names)) c cs all)
        (λ e. ap (λ t. is_some (number_of a t)) (text_same c.entity atlas_name e) ∙ known_atlas a)
        (λ e. or_cases (text_eq c.entity own) (is_among names c.entity) e (λ f. true_false (text_eq c.entity own) f other) (λ f. known c.entity f))

regions_known : (a : AtlasState) (own : Text) (n : ℕ) (names : List Text) (pages : ℕ) (rs : List RegionTable) → AllKnown a names → All (IsRegionTable names pages) rs → IsTrue (knows_regions (number_in a own n) rs)
regions_known a own n names pages [] known all = refl
regions_known a own n names pages (r ∷ rs) known all =
    and_from (is_some (number_in a own n r.target)) (knows_regions (number_in a own n) rs) (known_in a own n r.target (λ _. known r.target (All-head (IsRegionTable names pages) r rs all).target))
    (regions_known a own n names pages rs known (All-tail (IsRegionTable names pages) r rs all))

-- THE NEXT NAME

new_one : (b : Bool) → b ≡ true → 1 ≤ (if b then 1 else 0)
new_one true e = omega arith
new_one false e = true_false false e refl

-- the next container's table, found by its name
pub record IsNextContainer (a : AtlasState) (tables : List ContainerTable) (name : Text) : Type 0 where
  pub table : ContainerTable
  pub found : container_table tables name ≡ Some table
  pub named : name ≡ table.name
  pub none : number_of a name ≡ None
  pub knows : KnowsContainer a table
  pub new : 1 ≤ new_containers a tables
  pub among : IsTrue (is_among (container_names tables) name)

pub more_containers : (a : AtlasState) (t : ContainerTable) (ts : List ContainerTable) → new_containers a (t ∷ ts) ≡ (if is_none (number_of a t.name) then 1 else 0) + new_containers a ts
more_containers a t ts = sum_by-cons (λ (t : ContainerTable). if is_none (number_of a t.name) then 1 else 0) t ts

pub more_loci : (a : AtlasState) (t : LocusTable) (ts : List LocusTable) → new_loci a (t ∷ ts) ≡ (if is_none (number_of a t.name) then 1 else 0) + new_loci a ts
more_loci a t ts = sum_by-cons (λ (t : LocusTable). if is_none (number_of a t.name) then 1 else 0) t ts

pub next_container : (a : AtlasState) (earlier : List Text) (ts : List ContainerTable) (name : Text) → AreContainerTables earlier ts → AllKnown a earlier → next_container_name a ts ≡ Some name → IsNextContainer a ts name
next_container a earlier [] name h known is = some_none name (sym is)
next_container a earlier (t ∷ ts) name h known is =
    elim (is_none (number_of a t.name)) as (λ b. is_none (number_of a t.name) ≡ b → (if b then Some t.name else next_container_name a ts) ≡ Some name → IsNextContainer a (t ∷ ts) name) [
      | true ↦ λ new e.
          let same : t.name ≡ name = one_name t.name name e in
          let here : text_eq name t.name ≡ true = ap (λ x. text_eq x t.name) (sym same) ∙ same_text t.name in
          record {
            table = t;
            found = ap (λ (b : Bool). if b then Some t else container_table ts name) here;
            named = sym same;
            none = ap (number_of a) (sym same) ∙ not_named (number_of a t.name) new;
            knows = λ n. and_from (knows_regions (number_in a t.name n) t.regions) (knows_caps (number_in a t.name n) t.caps) (regions_known a t.name n earlier t.pages t.regions known h.0.regions) (caps_known a t.name n earlier t.caps known h.0.caps);
            new = (let m = more_containers a t ts in let one = new_one (is_none (number_of a t.name)) new in omega (arith, m, one));
            among = ap (λ b. b || is_among (container_names ts) name) here;
          }
      | false ↦ λ old e.
          let here = is_named (number_of a t.name) old in
          let r = next_container a (t.name ∷ earlier) ts name h.1 (known_more a t.name earlier here known) e in
          let other : text_eq name t.name ≡ false = other_text a name t.name r.none here in
          record {
            table = r.table;
            found = ap (λ (b : Bool). if b then Some t else container_table ts name) other ∙ r.found;
            named = r.named;
            none = r.none;
            knows = r.knows;
            new = (let m = more_containers a t ts in omega (arith, m, r.new));
            among = or_right (text_eq name t.name) (is_among (container_names ts) name) r.among;
          }
    ] refl is
  where
    one_name : (x y : Text) → Some x ≡ Some y → x ≡ y
    one_name x y e = cc

-- where no container's name is new, all are known
pub containers_known : (a : AtlasState) (ts : List ContainerTable) → next_container_name a ts ≡ None → AllKnown a (container_names ts)
containers_known a [] none x among = true_false false among refl
containers_known a (t ∷ ts) none x among =
    elim (is_none (number_of a t.name)) as (λ b. is_none (number_of a t.name) ≡ b → (if b then Some t.name else next_container_name a ts) ≡ None → is_some (number_of a x) ≡ true) [
      | true ↦ λ new e. some_none t.name e
      | false ↦ λ old e. known_more a t.name (container_names ts) (is_named (number_of a t.name) old) (containers_known a ts e) x among
    ] refl none

pub loci_known : (a : AtlasState) (ts : List LocusTable) → next_locus_name a ts ≡ None → AllKnown a (locus_names ts)
loci_known a [] none x among = true_false false among refl
loci_known a (t ∷ ts) none x among =
    elim (is_none (number_of a t.name)) as (λ b. is_none (number_of a t.name) ≡ b → (if b then Some t.name else next_locus_name a ts) ≡ None → is_some (number_of a x) ≡ true) [
      | true ↦ λ new e. some_none t.name e
      | false ↦ λ old e. known_more a t.name (locus_names ts) (is_named (number_of a t.name) old) (loci_known a ts e) x among
    ] refl none

-- the next locus's table, found by its name
pub record IsNextLocus (a : AtlasState) (containers : List Text) (tables : List LocusTable) (name : Text) : Type 0 where
  pub table : LocusTable
  pub found : locus_table tables name ≡ Some table
  pub named : name ≡ table.name
  pub none : number_of a name ≡ None
  pub knows : KnowsLocus a table
  pub host : IsTrue (is_among containers table.host)
  pub new : 1 ≤ new_loci a tables
  pub among : IsTrue (is_among (locus_names tables) name)

pub next_locus : (a : AtlasState) (containers earlier : List Text) (ts : List LocusTable) (name : Text) → AreLocusTables containers earlier ts → AllKnown a containers → AllKnown a earlier → next_locus_name a ts ≡ Some name → IsNextLocus a containers ts name
next_locus a containers earlier [] name h all known is = some_none name (sym is)
next_locus a containers earlier (t ∷ ts) name h all known is =
    elim (is_none (number_of a t.name)) as (λ b. is_none (number_of a t.name) ≡ b → (if b then Some t.name else next_locus_name a ts) ≡ Some name → IsNextLocus a containers (t ∷ ts) name) [
      | true ↦ λ new e.
          let same : t.name ≡ name = one_name t.name name e in
          let here : text_eq name t.name ≡ true = ap (λ x. text_eq x t.name) (sym same) ∙ same_text t.name in
          record {
            table = t;
            found = ap (λ (b : Bool). if b then Some t else locus_table ts name) here;
            named = sym same;
            none = ap (number_of a) (sym same) ∙ not_named (number_of a t.name) new;
            knows = λ n. caps_known a t.name n (containers ++ earlier) t.caps (known_both a containers earlier all known) h.0.caps;
            host = h.0.host;
            new = (let m = more_loci a t ts in let one = new_one (is_none (number_of a t.name)) new in omega (arith, m, one));
            among = ap (λ b. b || is_among (locus_names ts) name) here;
          }
      | false ↦ λ old e.
          let here = is_named (number_of a t.name) old in
          let r = next_locus a containers (t.name ∷ earlier) ts name h.1 all (known_more a t.name earlier here known) e in
          let other : text_eq name t.name ≡ false = other_text a name t.name r.none here in
          record {
            table = r.table;
            found = ap (λ (b : Bool). if b then Some t else locus_table ts name) other ∙ r.found;
            named = r.named;
            none = r.none;
            knows = r.knows;
            host = r.host;
            new = (let m = more_loci a t ts in omega (arith, m, r.new));
            among = or_right (text_eq name t.name) (is_among (locus_names ts) name) r.among;
          }
    ] refl is
  where
    one_name : (x y : Text) → Some x ≡ Some y → x ≡ y
    one_name x y e = cc

-- BOTH KINDS

-- a new name has no container's table, where those are all known
no_container_table : (a : AtlasState) (ts : List ContainerTable) (name : Text) → AllKnown a (container_names ts) → number_of a name ≡ None → container_table ts name ≡ None
no_container_table a [] name known none = refl
no_container_table a (t ∷ ts) name known none =
    let other = other_text a name t.name none (known t.name (ap (λ b. b || is_among (container_names ts) t.name) (same_text t.name))) in
    ap (λ (b : Bool). if b then Some t else container_table ts name) other ∙ no_container_table a ts name (λ x among. known x (or_right (text_eq x t.name) (is_among (container_names ts) x) among)) none

-- a name that is none of the loci's has no locus's table
no_locus_table : (ts : List LocusTable) (name : Text) → is_among (locus_names ts) name ≡ false → locus_table ts name ≡ None
no_locus_table [] name not = refl
no_locus_table (t ∷ ts) name not =
    let h = or_parts (text_eq name t.name) (is_among (locus_names ts) name) not in
    ap (λ (b : Bool). if b then Some t else locus_table ts name) h.0 ∙ no_locus_table ts name h.1

among_front : (xs ys : List Text) (x : Text) → is_among (xs ++ ys) x ≡ false → is_among ys x ≡ false
among_front [] ys x e = e
among_front (y ∷ xs) ys x e = among_front xs ys x (or_parts (text_eq x y) (is_among (xs ++ ys) x) e).1

-- names that are all different: one of the front is none of the rest
pub different_apart : (xs ys : List Text) (x : Text) → AreDifferent (xs ++ ys) → IsTrue (is_among xs x) → is_among ys x ≡ false
different_apart [] ys x h among = true_false false among refl
different_apart (y ∷ xs) ys x h among =
    or_cases (text_eq x y) (is_among xs x) among (λ e. ap (is_among ys) (text_same x y e) ∙ among_front xs ys y h.0) (λ e. different_apart xs ys x h.1 e)

-- what is known of the next name: it is a container's or a locus's
pub data NextName (a : AtlasState) (script : Script) (name : Text) : Type 0 where
  OfContainer : (next : IsNextContainer a script.containers name) → locus_table script.loci name ≡ None → NextName a script name
  OfLocus : (next : IsNextLocus a (container_names script.containers) script.loci name) → container_table script.containers name ≡ None → AllKnown a (container_names script.containers) → NextName a script name

pub next_name_is : (a : AtlasState) (script : Script) (name : Text) → IsScript script → next_name a script ≡ Some name → NextName a script name
next_name_is a script name rules is = by_containers (next_container_name a script.containers) refl is
  where
    by_containers : (o : Option Text) → next_container_name a script.containers ≡ o → or_else o (next_locus_name a script.loci) ≡ Some name → NextName a script name
    by_containers (Some other) at e =
        let next = next_container a [] script.containers name rules.containers (λ x among. true_false false among refl) (at ∙ e) in
        OfContainer next (no_locus_table script.loci name (different_apart (container_names script.containers) (locus_names script.loci) name rules.different next.among))
    by_containers None at e =
        let known = containers_known a script.containers at in
        let next = next_locus a (container_names script.containers) [] script.loci name rules.loci known (λ x among. true_false false among refl) e in
        OfLocus next (no_container_table a script.containers name known next.none) known

pub next_new : (a : AtlasState) (script : Script) (name : Text) → NextName a script name → number_of a name ≡ None
next_new a script name (OfContainer next none) = next.none
next_new a script name (OfLocus next none known) = next.none
