-- Lists of capabilities and of private regions, options and tests.
use Rattle.std.proofs.Common.{◌≡◌, ℕ, suc, ◌+◌, ◌≤◌, Bool, true, false, ◌&&◌, ◌||◌, if◌then◌else◌, ◌==◌, nat_lt, IsTrue, List, [], ◌∷◌, length, filter, find, replicate, Option, Some, None, slice_get, slice_set, refl, ap, subst, ◌∙◌, arith}
use Rattle.std.specs.List.{All, list_any}
use Rattle.std.specs.Option.{ForSome}
use Rattle.std.proofs.lemmas.Bool.Decides.{nat_tests}
use Rattle.std.proofs.lemmas.List.{length-replicate, length-set}
use Rattle.std.proofs.lemmas.List.Elements.{All-cons, All-filter, All-head, All-nil, All-replicate, All-set, All-tail, All-weaker}
use Rattle.std.proofs.lemmas.List.Sums.{count_by-le-length, length-filter}
use Rattle.std.proofs.lemmas.Option.{get_or_from_slice_get, slice_get_within, slice_get-get_or}
use Rattle.model_kernel.specs.base_types.declared.capabilities.Cap.{Cap}
use Rattle.model_kernel.specs.base_types.declared.capabilities.Private.{Private}
use Rattle.model_kernel.specs.base_types.declared.instructions.Call.{Call}
use Rattle.model_kernel.specs.base_types.declared.instructions.Reply.{Reply}
use Rattle.model_kernel.specs.State.{AtlasState}
use Rattle.model_kernel.specs.Outcomes.{insert_private}
use Rattle.model_kernel.specs.Soundness.{AreOrdered, AreSoundCaps, IsBefore, is_born}
use Rattle.model_kernel.proofs.Lists.{all_private}
use Rattle.model_kernel.specs.Words.{but_last, cap_at, first, flat, last_call, overlaps, unless}

-- OPTIONS

-- where no check refuses, the first doesn't
pub first_passes : {A : Type 0} (o : Option A) (rest : List (Option A)) → first (o ∷ rest) ≡ None → (o ≡ None) × (first rest ≡ None)
first_passes None rest h = (refl, h)
first_passes (Some x) rest h = cc

pub test_passes : (test : Bool) (r : Reply) → unless test r ≡ None → test ≡ true
test_passes true r h = refl
test_passes false r h = cc

-- what holds of each holds of the one that is found
pub find_all : {X : Type 0} (P : X → Type 0) (test : X → Bool) (xs : List X) → All P xs → ForSome (find test xs) P
find_all P test [] all x h = cc
find_all P test (y ∷ ys) all x h =
    elim (test y) as (λ b. (if b then Some y else find test ys) ≡ Some x → P x) [
      | true ↦ λ e. let same : y ≡ x = cc in subst P same (All-head P y ys all)
      | false ↦ λ e. find_all P test ys (All-tail P y ys all) x e
    ] h

-- CALLS

pub last_of_all : (P : Call → Type 0) (cs : List Call) (call : Call) → All P cs → last_call cs ≡ Some call → P call
last_of_all P [] call all h = cc
last_of_all P (c ∷ []) call all h = let same : c ≡ call = cc in subst P same (All-head P c [] all)
last_of_all P (c ∷ d ∷ cs) call all h = last_of_all P (d ∷ cs) call (All-tail P c (d ∷ cs) all) h

pub all_but_last : (P : Call → Type 0) (cs : List Call) → All P cs → All P (but_last cs)
all_but_last P [] all = all
all_but_last P (c ∷ []) all = All-nil P
all_but_last P (c ∷ d ∷ cs) all = All-cons P c (but_last (d ∷ cs)) (All-head P c (d ∷ cs) all) (all_but_last P (d ∷ cs) (All-tail P c (d ∷ cs) all))

pub fewer_but_last : (cs : List Call) → length (but_last cs) ≤ length cs
fewer_but_last [] = omega arith
fewer_but_last (c ∷ []) = omega arith
fewer_but_last (c ∷ d ∷ cs) = let rest = fewer_but_last (d ∷ cs) in omega arith

-- CAPABILITIES

-- a capability in the slot names a born entity
abbrev pub NamesBorn : AtlasState → Option Cap → Type 0
NamesBorn a o = (cap : Cap) → o ≡ Some cap → IsTrue (is_born a cap.entity)

all_named : (a : AtlasState) (caps : List (Option Cap)) → AreSoundCaps a caps → All (NamesBorn a) caps
all_named a caps h k d lt cap is = h.each k cap (slice_get-get_or caps k d lt ∙ ap Some is)

named_all : (a : AtlasState) (caps : List (Option Cap)) → length caps ≡ 32 → All (NamesBorn a) caps → AreSoundCaps a caps
named_all a caps slots all = record {
  slots = slots;
  each = λ slot cap is. subst (NamesBorn a) (get_or_from_slice_get caps slot (Some cap) None is) (all slot None (slice_get_within caps slot (Some cap) is)) cap refl;
}

pub caps_put : (a : AtlasState) (caps : List (Option Cap)) (slot : ℕ) (o : Option Cap) → AreSoundCaps a caps → NamesBorn a o → AreSoundCaps a (slice_set caps slot o)
caps_put a caps slot o h born = named_all a (slice_set caps slot o) (length-set caps slot o ∙ h.slots) (All-set (NamesBorn a) caps slot o born (all_named a caps h))

pub none_named : (a : AtlasState) → NamesBorn a None
none_named a cap e = cc

pub one_named : (a : AtlasState) (cap : Cap) → IsTrue (is_born a cap.entity) → NamesBorn a (Some cap)
one_named a cap born k e = let same : cap ≡ k = cc in subst (λ (c : Cap). IsTrue (is_born a c.entity)) same born

pub no_caps : (a : AtlasState) → AreSoundCaps a (replicate 32 None)
no_caps a = let none : Option Cap = None in named_all a (replicate 32 none) (length-replicate 32 none) (All-replicate (NamesBorn a) 32 none (none_named a))

-- a capability in a slot names a born entity
pub cap_born : (a : AtlasState) (caps : List (Option Cap)) (slot : ℕ) (cap : Cap) → AreSoundCaps a caps → cap_at caps slot ≡ Some cap → IsTrue (is_born a cap.entity)
cap_born a caps slot cap h is = by_slot (slice_get caps slot) refl is
  where
    by_slot : (o : Option (Option Cap)) → slice_get caps slot ≡ o → flat o ≡ Some cap → IsTrue (is_born a cap.entity)
    by_slot None at e = cc
    by_slot (Some o) at e = h.each slot cap (at ∙ ap Some e)

-- PRIVATE REGIONS

pub length_private : (p : Private) (ps : List Private) → length (insert_private p ps) ≡ suc (length ps)
length_private p [] = refl
length_private p (q ∷ ps) =
    elim (nat_lt p.made q.made || p.made == q.made && nat_lt p.region.at q.region.at) as (λ b. length (if b then p ∷ q ∷ ps else q ∷ insert_private p ps) ≡ suc (length (q ∷ ps))) [
      | true ↦ refl
      | false ↦ ap suc (length_private p ps)
    ]

before_both : (p q r : Private) → IsBefore p q → IsBefore q r → IsBefore p r
before_both p q r h k = (made_le h.0 k.0, λ e. ends (h.1 (between e h.0 k.0)) (k.1 (between' e h.0 k.0)))
  where
    made_le : p.made ≤ q.made → q.made ≤ r.made → p.made ≤ r.made
    made_le h k = omega arith

    between : p.made ≡ r.made → p.made ≤ q.made → q.made ≤ r.made → p.made ≡ q.made
    between e h k = omega arith

    between' : p.made ≡ r.made → p.made ≤ q.made → q.made ≤ r.made → q.made ≡ r.made
    between' e h k = omega arith

    ends : p.region.at + p.region.count ≤ q.region.at → q.region.at + q.region.count ≤ r.region.at → p.region.at + p.region.count ≤ r.region.at
    ends h k = omega arith

none_first : (p q : Bool) → (p || q) ≡ false → p ≡ false
none_first true q h = h
none_first false q h = refl

pub none_second : (p q : Bool) → (p || q) ≡ false → q ≡ false
none_second true q h = cc
none_second false q h = h

-- no region made in the same host overlaps this one
abbrev pub clashes : Private → Private → Bool
clashes p q = q.made == p.made && overlaps p.region q.region

pub ordered_private : (p : Private) (ps : List Private) → 1 ≤ p.region.count → All (λ (q : Private). 1 ≤ q.region.count) ps → list_any (clashes p) ps ≡ false → AreOrdered ps → AreOrdered (insert_private p ps)
ordered_private p [] one all clear h = (All-nil (IsBefore p), tt)
ordered_private p (q ∷ ps) one all clear h =
    let some : 1 ≤ q.region.count = All-head (λ (q : Private). 1 ≤ q.region.count) q ps all in
    let off = none_first (clashes p q) (list_any (clashes p) ps) clear in
    elim (nat_lt p.made q.made || p.made == q.made && nat_lt p.region.at q.region.at) as (λ b. (nat_lt p.made q.made || p.made == q.made && nat_lt p.region.at q.region.at) ≡ b → AreOrdered (if b then p ∷ q ∷ ps else q ∷ insert_private p ps)) [
      | true ↦ λ is.
          let end : IsBefore p q = before p.made q.made p.region.at p.region.count q.region.at q.region.count one some is off in (
            All-cons (IsBefore p) q ps end (All-weaker (IsBefore q) (IsBefore p) (λ r k. before_both p q r end k) ps h.0),
            h,
          )
      | false ↦ λ is.
          let end : IsBefore q p = behind p.made q.made p.region.at p.region.count q.region.at q.region.count one some is off in (
            all_private (IsBefore q) p ps end h.0,
            ordered_private p ps one (All-tail (λ (q : Private). 1 ≤ q.region.count) q ps all) (none_second (clashes p q) (list_any (clashes p) ps) clear) h.1,
          )
    ] refl
  where
    before : (m n u j v k : ℕ) → 1 ≤ j → 1 ≤ k → (nat_lt m n || m == n && nat_lt u v) ≡ true → (n == m && (nat_lt u (v + k) && nat_lt v (u + j))) ≡ false → (m ≤ n) × (m ≡ n → u + j ≤ v)
    before m n u j v k one some is off = grind (arith, nat_tests)

    behind : (m n u j v k : ℕ) → 1 ≤ j → 1 ≤ k → (nat_lt m n || m == n && nat_lt u v) ≡ false → (n == m && (nat_lt u (v + k) && nat_lt v (u + j))) ≡ false → (n ≤ m) × (n ≡ m → v + k ≤ u)
    behind m n u j v k one some is off = grind (arith, nat_tests)

pub ordered_kept : (test : Private → Bool) (ps : List Private) → AreOrdered ps → AreOrdered (filter test ps)
ordered_kept test [] h = tt
ordered_kept test (p ∷ ps) h =
    elim (test p) as (λ b. AreOrdered (if b then p ∷ filter test ps else filter test ps)) [
      | true ↦ (All-filter test (IsBefore p) ps h.0, ordered_kept test ps h.1)
      | false ↦ ordered_kept test ps h.1
    ]

pub fewer_kept : {X : Type 0} (test : X → Bool) (xs : List X) → length (filter test xs) ≤ length xs
fewer_kept test xs =
    let e = length-filter test xs in
    let le = count_by-le-length test xs in
    omega arith
