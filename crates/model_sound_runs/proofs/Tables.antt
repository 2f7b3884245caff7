-- Who is born in a sound state, and what stays sound when one more is.
use Rattle.std.proofs.Common.{◌≡◌, ◌≢◌, ℕ, zero, suc, ◌+◌, ◌<◌, ◌≤◌, ◌⊎◌, inl, inr, ⊎_elim, Bool, true, false, not, ◌&&◌, if◌then◌else◌, ◌==◌, nat_lt, IsTrue, List, [], ◌∷◌, ◌++◌, length, Option, Some, None, slice_get, unwrap_or, refl, sym, ap, subst, ◌∙◌, arith, eqb-true}
use Rattle.std.specs.List.{All}
use Rattle.std.proofs.lemmas.Bool.{cases_lt, or_left}
use Rattle.std.proofs.lemmas.Bool.Decides.{nat_tests}
use Rattle.std.proofs.lemmas.List.{length-set, length-replicate}
use Rattle.std.proofs.lemmas.List.Elements.{All-cons, All-head, All-nil, All-replicate, All-set, All-tail, All-weaker}
use Rattle.std.proofs.lemmas.Option.{get_or_from_slice_get, slice_get_within}
use Rattle.script_types.specs.base_types.Edges.{Edges, IsPath}
use Rattle.script_types.specs.base_types.declared.capabilities.Cap.{Cap}
use Rattle.script_types.specs.base_types.declared.capabilities.Region.{Region}
use Rattle.script_types.specs.model_kernel.Births.{caps_from, number_or_0, region_from, regions_from}
use Rattle.script_types.specs.model_kernel.Scripts.{CapTable, RegionTable, atlas_name, container_named, locus_named, number_in, number_of, place_of, text_eq}
use Rattle.script_types.specs.model_kernel.Soundness.{AreApart, AreSound, AreSoundCaps, HasNoCircle, IsSoundRegion, are_names_from, is_born, is_born_container, is_born_locus, is_given_name, is_name_of, regions_onto}
use Rattle.script_types.specs.model_kernel.State.{Text, AtlasState, Cell}
use Rattle.script_types.specs.model_kernel.Words.{insert_region, or_else}
use Rattle.model_sound_steps.proofs.RegionLists.{all_inserted, length_inserted, shown, shown_more}
use Rattle.script_types.specs.Rules.{AreAllApart, AreApart as AreApartTables, IsRegionTable}
use Rattle.model_sound_steps.proofs.Growth.{born_container, born_locus, Wider, wider_born}
use Rattle.model_sound_steps.proofs.MadeNames.{pushed_name, same_text}
use Rattle.model_sound_steps.proofs.Lists.{NamesBorn}

-- WHO SHOWS, AND WHAT IS SHOWN

none_shows : (k : Cell) (y : ℕ) → regions_onto k y ≡ 0 → 1 ≤ regions_onto k y → ⊥
none_shows k y e h = omega arith

-- only a born container shows regions
pub shows_born : (a : AtlasState) (cells : ℕ → Cell) (x y : ℕ) → AreSound a cells → 1 ≤ regions_onto (cells x) y → IsTrue (is_born_container a x)
shows_born a cells x y h some = by_born (x == 0) (is_born_container a x) (is_born_locus a x) refl refl refl
  where
    by_born : (z c l : Bool) → (x == 0) ≡ z → is_born_container a x ≡ c → is_born_locus a x ≡ l → IsTrue (is_born_container a x)
    by_born z true l ez ec el = ec
    by_born true false l ez ec el =
        let e : x ≡ 0 = eqb-true x 0 ez in
        absurd (none_shows (cells x) y (ap (λ k. regions_onto k y) (ap cells e ∙ h.atlas)) some)
    by_born false false true ez ec el =
        let l = h.loci x el in
        absurd (none_shows (cells x) y (ap (λ k. regions_onto k y) l.1) some)
    by_born false false false ez ec el = absurd (none_shows (cells x) y (ap (λ k. regions_onto k y) (h.others x (rw (ez, ec, el) refl))) some)

-- what holds of each region's target holds of what is shown
pub shown_target : (P : ℕ → Type 0) (rs : List Region) (y : ℕ) → All (λ (r : Region). P r.target) rs → 1 ≤ shown rs y → P y
shown_target P [] y all some = absurd (omega arith)
shown_target P (r ∷ rs) y all some =
    elim (r.target == y) as (λ b. (r.target == y) ≡ b → 1 ≤ (if b then 1 else 0) + shown rs y → P y) [
      | true ↦ λ is _. subst P (eqb-true r.target y is) (All-head (λ (r : Region). P r.target) r rs all)
      | false ↦ λ _ some. shown_target P rs y (All-tail (λ (r : Region). P r.target) r rs all) (omega arith)
    ] refl (subst (λ n. 1 ≤ n) (shown_more r rs y) some)

pub target_born : (a : AtlasState) (cells : ℕ → Cell) (x y : ℕ) → AreSound a cells → 1 ≤ regions_onto (cells x) y → IsTrue (is_born_container a y)
target_born a cells x y h some =
    let c = h.containers x (shows_born a cells x y h some) in
    shown_target (λ z. IsTrue (is_born_container a z)) c.0.regions y (All-weaker (IsSoundRegion a) (λ (r : Region). IsTrue (is_born_container a r.target)) (λ r s. s.target) c.0.regions c.2.regions)
    (subst (λ k. 1 ≤ regions_onto k y) c.1 some)

-- NUMBERS OF NAMES

place_bounds : (name : Text) (ts : List Text) (k m : ℕ) → place_of name ts k ≡ Some m → (k ≤ m) × (m < k + length ts)
place_bounds name [] k m is = absurd (no is)
  where
    no : None ≡ Some m → ⊥
    no e = cc
place_bounds name (t ∷ ts) k m is =
    elim (text_eq name t) as (λ b. (if b then Some k else place_of name ts (k + 1)) ≡ Some m → (k ≤ m) × (m < k + length (t ∷ ts))) [
      | true ↦ λ e. let same : k ≡ m = cc in (omega arith, omega arith)
      | false ↦ λ e. let rest = place_bounds name ts (k + 1) m e in (omega (arith, rest.0), omega (arith, rest.1))
    ] is

pub container_named_born : (a : AtlasState) (name : Text) (m : ℕ) → container_named a name ≡ Some m → IsTrue (is_born_container a m)
container_named_born a name m is =
    let b = place_bounds name a.containers 1 m is in
    let low : 1 ≤ m = b.0 in
    let high : m < 1 + length a.containers = b.1 in
    grind (arith, nat_tests)

locus_named_born : (a : AtlasState) (name : Text) (m : ℕ) → locus_named a name ≡ Some m → IsTrue (is_born_locus a m)
locus_named_born a name m is =
    let b = place_bounds name a.loci 41 m is in
    let low : 41 ≤ m = b.0 in
    let high : m < 41 + length a.loci = b.1 in
    grind (arith, nat_tests)

-- the number of a name, or the atlas's where it has none, is born
number_born : (a : AtlasState) (name : Text) → IsTrue (is_born a (unwrap_or (number_of a name) 0))
number_born a name =
    elim (text_eq name atlas_name) as (λ b. IsTrue (is_born a (unwrap_or (if b then Some 0 else or_else (container_named a name) (locus_named a name)) 0))) [
      | true ↦ refl
      | false ↦ by_named (container_named a name) (locus_named a name) refl refl
    ]
  where
    by_named : (c l : Option ℕ) → container_named a name ≡ c → locus_named a name ≡ l → IsTrue (is_born a (unwrap_or (or_else c l) 0))
    by_named (Some m) l ec el = born_container a m (container_named_born a name m ec)
    by_named None (Some m) ec el = born_locus a m (locus_named_born a name m el)
    by_named None None ec el = refl

-- MORE ARE BORN

-- CAPABILITIES AND REGIONS OF A TABLE

-- what a newborn's table may name is born with it
pub known_born : (a b : AtlasState) (own : Text) (n : ℕ) (name : Text) → Wider a b → IsTrue (is_born b n) → IsTrue (is_born b (number_or_0 (number_in a own n) name))
known_born a b own n name w born =
    elim (text_eq name own) as (λ t. IsTrue (is_born b (unwrap_or (if t then Some n else number_of a name) 0))) [
      | true ↦ born
      | false ↦ wider_born a b (unwrap_or (number_of a name) 0) w (number_born a name)
    ]

caps_named : (b : AtlasState) (number : Text → Option ℕ) → ((name : Text) → IsTrue (is_born b (number_or_0 number name))) → (i : ℕ) (cs : List CapTable) → All (NamesBorn b) (caps_from number i cs)
caps_named b number born i [] = All-replicate (NamesBorn b) 32 None (λ cap e. absurd (no cap e))
  where
    no : (cap : Cap) → None ≡ Some cap → ⊥
    no cap e = cc
caps_named b number born i (c ∷ cs) = All-set (NamesBorn b) (caps_from number (i + 1) cs) i _ (λ cap e. subst (λ x. IsTrue (is_born b x)) (same _ cap e) (born c.entity)) (caps_named b number born (i + 1) cs)
  where
    same : (k cap : Cap) → Some k ≡ Some cap → k.entity ≡ cap.entity
    same k cap e = let f : k ≡ cap = cc in ap (λ (c : Cap). c.entity) f

caps_slots : (number : Text → Option ℕ) (i : ℕ) (cs : List CapTable) → length (caps_from number i cs) ≡ 32
caps_slots number i [] = let none : Option Cap = None in length-replicate 32 none
caps_slots number i (c ∷ cs) = length-set (caps_from number (i + 1) cs) i _ ∙ caps_slots number (i + 1) cs

pub sound_caps : (b : AtlasState) (number : Text → Option ℕ) → ((name : Text) → IsTrue (is_born b (number_or_0 number name))) → (cs : List CapTable) → AreSoundCaps b (caps_from number 0 cs)
sound_caps b number born cs = record {
  slots = caps_slots number 0 cs;
  each = λ slot cap is.
      let caps = caps_from number 0 cs in
      subst (NamesBorn b) (get_or_from_slice_get caps slot (Some cap) None is) (caps_named b number born 0 cs slot None (slice_get_within caps slot (Some cap) is)) cap refl;
}

pub all_regions : (P : Region → Type 0) (number : Text → Option ℕ) (ts : List RegionTable) → All (λ (t : RegionTable). P (region_from number t)) ts → All P (regions_from number ts)
all_regions P number [] all = All-nil P
all_regions P number (t ∷ ts) all =
    all_inserted P (region_from number t) (regions_from number ts) (All-head (λ (t : RegionTable). P (region_from number t)) t ts all) (all_regions P number ts (All-tail (λ (t : RegionTable). P (region_from number t)) t ts all))

pub length_regions : (number : Text → Option ℕ) (ts : List RegionTable) → length (regions_from number ts) ≡ length ts
length_regions number [] = refl
length_regions number (t ∷ ts) = length_inserted (region_from number t) (regions_from number ts) ∙ ap suc (length_regions number ts)

-- one of two regions ends where the other begins or before
abbrev pub Clear : ℕ → ℕ → Region → Type 0
Clear at count s = (s.at + s.count ≤ at) ⊎ (at + count ≤ s.at)

clear : (p q u v : ℕ) → IsTrue (not (nat_lt p q && nat_lt u v)) → (q ≤ p) ⊎ (v ≤ u)
clear p q u v h = by_cases (cases_lt p q) (cases_lt u v)
  where
    by_cases : (p < q) ⊎ (q ≤ p) → (u < v) ⊎ (v ≤ u) → (q ≤ p) ⊎ (v ≤ u)
    by_cases (inr le) y = inl le
    by_cases (inl lt) (inr le) = inr le
    by_cases (inl lt) (inl lt') = absurd (no (nat_lt p q) (nat_lt u v) (grind (arith, nat_tests)) (grind (arith, nat_tests)) h)
      where
        no : (a b : Bool) → a ≡ true → b ≡ true → not (a && b) ≡ true → ⊥
        no true true e f h = cc
        no true false e f h = cc
        no false b e f h = cc

apart_inserted : (r : Region) (rs : List Region) → 1 ≤ r.count → All (λ (s : Region). 1 ≤ s.count) rs → All (Clear r.at r.count) rs → AreApart rs → AreApart (insert_region r rs)
apart_inserted r [] one all clears h = (All-nil (λ (s : Region). r.at + r.count ≤ s.at), tt)
apart_inserted r (s ∷ rs) one all clears h =
    elim (nat_lt r.at s.at) as (λ b. nat_lt r.at s.at ≡ b → AreApart (if b then r ∷ s ∷ rs else s ∷ insert_region r rs)) [
      | true ↦ λ is.
          let lt : r.at < s.at = grind (arith, nat_tests) in
          let end : r.at + r.count ≤ s.at = before lt (All-head (Clear r.at r.count) s rs clears) in (
            All-cons (λ (t : Region). r.at + r.count ≤ t.at) s rs end (All-weaker (λ (t : Region). s.at + s.count ≤ t.at) (λ (t : Region). r.at + r.count ≤ t.at) (λ t le. omega arith) rs h.0),
            h,
          )
      | false ↦ λ is.
          let ge : s.at ≤ r.at = grind (arith, nat_tests) in
          let end : s.at + s.count ≤ r.at = behind ge (All-head (Clear r.at r.count) s rs clears) in (
            all_inserted (λ (t : Region). s.at + s.count ≤ t.at) r rs end h.0,
            apart_inserted r rs one (All-tail (λ (s : Region). 1 ≤ s.count) s rs all) (All-tail (Clear r.at r.count) s rs clears) h.1,
          )
    ] refl
  where
    before : r.at < s.at → Clear r.at r.count s → r.at + r.count ≤ s.at
    before lt (inl le) = absurd (omega arith)
    before lt (inr le) = le

    behind : s.at ≤ r.at → Clear r.at r.count s → s.at + s.count ≤ r.at
    behind ge (inl le) = le
    behind ge (inr le) = absurd (omega arith)

pub apart_regions : (known : List Text) (pages : ℕ) (number : Text → Option ℕ) (ts : List RegionTable) → All (IsRegionTable known pages) ts → AreAllApart ts → AreApart (regions_from number ts)
apart_regions known pages number [] all h = tt
apart_regions known pages number (t ∷ ts) all h =
    let rest = All-tail (IsRegionTable known pages) t ts all in
    apart_inserted (region_from number t) (regions_from number ts) (All-head (IsRegionTable known pages) t ts all).some
    (all_regions (λ (s : Region). 1 ≤ s.count) number ts (All-weaker (IsRegionTable known pages) (λ (u : RegionTable). 1 ≤ u.count) (λ u k. k.some) ts rest))
    (all_regions (Clear t.at t.count) number ts (All-weaker (AreApartTables t) (λ (u : RegionTable). Clear t.at t.count (region_from number u)) (λ u k. clear t.at (u.at + u.count) u.at (t.at + t.count) k) ts h.0))
    (apart_regions known pages number ts rest h.1)

-- NO CIRCLE

module _ (old new : Edges) (n : ℕ) (others : (x y : ℕ) → x ≢ n → new x y ≡ old x y) (nobody : (x : ℕ) → new x n ≡ 0) where
  old_path : (c d : ℕ) (path : List ℕ) → c ≢ n → IsPath new c path d → IsPath old c path d
  old_path c d [] apart h = h
  old_path c d (x ∷ path) apart h =
      let apart' : x ≢ n = λ e. let z : new c n ≡ 0 = nobody c in let f : new c x ≡ new c n = ap (new c) e in let p : 0 < new c x = h.0 in omega arith in
      (subst (λ k. 0 < k) (others c x apart) h.0, old_path x d path apart' h.1)

  path_end : (c d x : ℕ) (path : List ℕ) → IsPath new c (x ∷ path) d → d ≢ n
  path_end c d x [] h e =
      let z : new c n ≡ 0 = nobody c in
      let f : new c x ≡ new c n = ap (new c) (h.1 ∙ e) in
      let p : 0 < new c x = h.0 in
      omega arith
  path_end c d x (y ∷ path) h e = path_end x d y path h.1 e

  -- edges of one to which none leads close no circle
  pub no_new_circle : HasNoCircle old → HasNoCircle new
  no_new_circle none c x path h = none c x path (old_path c c (x ∷ path) (path_end c c x path h) h)

-- NAMES

-- a name that has no place stands nowhere
pub fresh_place : (name : Text) (ts : List Text) (k i : ℕ) → place_of name ts k ≡ None → slice_get ts i ≡ Some name → ⊥
fresh_place name [] k i none is = cc
fresh_place name (t ∷ ts) k zero none is =
    let e : t ≡ name = cc in
    let same : text_eq name t ≡ true = ap (text_eq name) e ∙ same_text name in
    no (rw same at none)
  where
    no : Some k ≡ None → ⊥
    no e = cc
fresh_place name (t ∷ ts) k (suc i) none is =
    elim (text_eq name t) as (λ b. (if b then Some k else place_of name ts (k + 1)) ≡ None → ⊥) [
      | true ↦ λ e. cc
      | false ↦ λ e. fresh_place name ts (k + 1) i e is
    ] none

pub record IsFresh (a : AtlasState) (name : Text) : Type 0 where
  pub container : container_named a name ≡ None
  pub locus : locus_named a name ≡ None

pub fresh : (a : AtlasState) (name : Text) → number_of a name ≡ None → IsFresh a name
fresh a name none =
    elim (text_eq name atlas_name) as (λ b. (if b then Some 0 else or_else (container_named a name) (locus_named a name)) ≡ None → IsFresh a name) [
      | true ↦ λ e. absurd (no 0 e)
      | false ↦ λ e. by_named (container_named a name) (locus_named a name) refl refl e
    ] none
  where
    no : (k : ℕ) → Some k ≡ None → ⊥
    no k e = cc

    by_named : (c l : Option ℕ) → container_named a name ≡ c → locus_named a name ≡ l → or_else c l ≡ None → IsFresh a name
    by_named (Some m) l ec el e = absurd (no m e)
    by_named None (Some m) ec el e = absurd (no m e)
    by_named None None ec el e = record { container = ec; locus = el }

pub pushed_different : (ts : List Text) (name : Text) (k : ℕ) → place_of name ts k ≡ None → ((i j : ℕ) (t : Text) → slice_get ts i ≡ Some t → slice_get ts j ≡ Some t → i ≡ j)
    → (i j : ℕ) (t : Text) → slice_get (ts ++ name ∷ []) i ≡ Some t → slice_get (ts ++ name ∷ []) j ≡ Some t → i ≡ j
pushed_different ts name k none differ i j t at at' = by_cases (pushed_name ts name t i at) (pushed_name ts name t j at')
  where
    by_cases : (slice_get ts i ≡ Some t) ⊎ ((i ≡ length ts) × (name ≡ t)) → (slice_get ts j ≡ Some t) ⊎ ((j ≡ length ts) × (name ≡ t)) → i ≡ j
    by_cases (inl p) (inl q) = differ i j t p q
    by_cases (inl p) (inr q) = absurd (fresh_place name ts k i none (p ∙ ap Some (sym q.1)))
    by_cases (inr p) (inl q) = absurd (fresh_place name ts k j none (q ∙ ap Some (sym p.1)))
    by_cases (inr p) (inr q) = p.0 ∙ sym q.0

pub pushed_apart : (ts us : List Text) (name : Text) (k : ℕ) → place_of name us k ≡ None → ((i j : ℕ) (t : Text) → slice_get ts i ≡ Some t → slice_get us j ≡ Some t → ⊥)
    → (i j : ℕ) (t : Text) → slice_get (ts ++ name ∷ []) i ≡ Some t → slice_get us j ≡ Some t → ⊥
pushed_apart ts us name k none differ i j t at at' =
    ⊎_elim {C = ⊥} (λ p. differ i j t p at') (λ p. fresh_place name us k j none (at' ∙ ap Some (sym p.1))) (pushed_name ts name t i at)

pub pushed_names : (n : ℕ) (ts : List Text) (name : Text) → IsTrue (is_given_name name) → IsTrue (are_names_from n ts) → IsTrue (are_names_from n (ts ++ name ∷ []))
pushed_names n [] name given h = both (is_name_of n name) true (or_left _ _ given) refl
  where
    both : (a b : Bool) → a ≡ true → b ≡ true → (a && b) ≡ true
    both true b e f = f
    both false b e f = e
pushed_names n (t ∷ ts) name given h =
    elim (is_name_of n t) as (λ b. (b && are_names_from (n + 1) ts) ≡ true → (b && are_names_from (n + 1) (ts ++ name ∷ [])) ≡ true) [
      | true ↦ λ rest. pushed_names (n + 1) ts name given rest
      | false ↦ λ e. e
    ] h
