-- Names in the directory and in the model.
use Rattle.std.proofs.Common.{◌≡◌, ℕ, ◌+◌, ◌≤◌, Bool, true, false, ◌&&◌, ◌||◌, List, [], ◌∷◌, length, Option, Some, None, refl, sym, ap, ◌∙◌, arith}
use Rattle.std.specs.Prelude.{◌==◌, ◌↔◌, if◌then◌else◌, nat_lt, nat_le, IsTrue, slice_index, codes}
use Rattle.std.specs.List.{list_all}
use Rattle.std.specs.Bool.{Decides, one_answer}
use Rattle.std.specs.Str.{bytes_eq}
use Rattle.std.proofs.lemmas.Bool.{and_from, and_parts, false≢true}
use Rattle.std.proofs.lemmas.Bool.Decides.{nat_tests}
use Rattle.std.proofs.lemmas.Slice.Eq.{bytes_eq-Decides, compares_Decides}
use Rattle.act_calls.specs.model_kernel.Scripts.{text_eq, place_of, atlas_name, number_of}
use Rattle.act_calls.specs.model_kernel.Words.{or_else as model_or_else}
use Rattle.act_calls.specs.model_kernel.Soundness.{is_letter as model_letter, is_name_byte as model_name_byte, begins_with_letter, is_given_name}
use Rattle.act_calls.specs.data_atlas_facts.Directory.{Directory, entity_named, number_from, or_else, is_letter, is_name_byte, IsName}
use Rattle.act_calls.specs.Calls.{atlas_state}

text_decides : (a b : List ℕ) → Decides (text_eq a b) (a ≡ b)
text_decides = compares_Decides text_eq (record { empty = refl; shorter = λ y ys. refl; longer = λ x xs. refl; heads = λ x y xs ys. refl })

same_test : (a b : List ℕ) → bytes_eq a b ≡ text_eq a b
same_test a b = one_answer (bytes_eq a b) (text_eq a b) (bytes_eq-Decides a b) (text_decides a b)

turned_test : (a b : List ℕ) → bytes_eq b a ≡ text_eq a b
turned_test a b = let d = bytes_eq-Decides b a in one_answer (bytes_eq b a) (text_eq a b) ((λ e. sym (d.0 e)), λ e. d.1 (sym e)) (text_decides a b)

-- NUMBERS OF NAMES

number_same : (n : ℕ) (name : List ℕ) (ts : List (List ℕ)) → number_from n name ts ≡ place_of name ts n
number_same n name [] = refl
number_same n name (t ∷ ts) =
    ap (λ b. if b then Some n else number_from (n + 1) name ts) (turned_test name t)
    ∙ ap (λ o. if text_eq name t then Some n else o) (number_same (n + 1) name ts)

or_same : (x y : Option ℕ) → or_else x y ≡ model_or_else x y
or_same None y = refl
or_same (Some x) y = refl

pub numbers_same : (a : Directory) (name : List ℕ) → entity_named a name ≡ number_of (atlas_state a) name
numbers_same a name =
    ap (λ b. if b then Some 0 else or_else (number_from 1 name a.containers) (number_from 41 name a.loci)) (same_test name (codes "atlas"))
    ∙ ap (λ o. if text_eq name (codes "atlas") then Some 0 else o)
    (ap (λ o. or_else o (number_from 41 name a.loci)) (number_same 1 name a.containers)
    ∙ ap (λ o. or_else (place_of name a.containers 1) o) (number_same 41 name a.loci)
    ∙ or_same (place_of name a.containers 1) (place_of name a.loci 41))

-- GIVEN NAMES

below : (c m : ℕ) → nat_lt c (m + 1) ≡ nat_le c m
below c m = grind (arith, nat_tests)

letter_same : (c : ℕ) → is_letter c ≡ model_letter c
letter_same c =
    ap (λ b. (nat_lt 64 c && b) || (nat_lt 96 c && nat_lt c 123)) (below c 90)
    ∙ ap (λ b. (nat_lt 64 c && nat_le c 90) || (nat_lt 96 c && b)) (below c 122)

byte_same : (c : ℕ) → is_name_byte c ≡ model_name_byte c
byte_same c =
    ap (λ b. b || (nat_lt 47 c && nat_lt c 58) || c == 95 || c == 45 || c == 46) (letter_same c)
    ∙ ap (λ b. model_letter c || (nat_lt 47 c && b) || c == 95 || c == 45 || c == 46) (below c 57)

all_same : (p q : ℕ → Bool) → ((c : ℕ) → p c ≡ q c) → (cs : List ℕ) → list_all p cs ≡ list_all q cs
all_same p q same [] = refl
all_same p q same (c ∷ cs) = ap (λ b. b && list_all p cs) (same c) ∙ ap (λ b. q c && b) (all_same p q same cs)

begins : (name : List ℕ) → begins_with_letter name ≡ true → (1 ≤ length name) × IsTrue (is_letter (slice_index name 0))
begins [] e = absurd (false≢true e)
begins (c ∷ cs) e = (omega arith, letter_same c ∙ e)

begun : (name : List ℕ) → 1 ≤ length name → IsTrue (is_letter (slice_index name 0)) → begins_with_letter name ≡ true
begun [] some e = absurd (omega arith)
begun (c ∷ cs) some e = sym (letter_same c) ∙ e

given : (name : List ℕ) → IsTrue (is_given_name name) → IsName name
given name h = by (text_eq name atlas_name) refl
  where
    never : (p : Bool) → (p && false) ≡ true → ⊥
    never true e = false≢true e
    never false e = false≢true e

    parts : text_eq name atlas_name ≡ false → (begins_with_letter name && list_all model_name_byte name && nat_le (length name) 24) ≡ true → IsName name
    parts other p =
        let one = and_parts (begins_with_letter name && list_all model_name_byte name) (nat_le (length name) 24) p in
        let two = and_parts (begins_with_letter name) (list_all model_name_byte name) one.0 in
        let first = begins name two.0 in
        (first.0, few (length name) one.1, first.1, all_same is_name_byte model_name_byte byte_same name ∙ two.1, λ e. false≢true (sym other ∙ (text_decides name atlas_name).1 e))
      where
        few : (n : ℕ) → nat_le n 24 ≡ true → n ≤ 24
        few n e = grind (arith, nat_tests)

    by : (b : Bool) → text_eq name atlas_name ≡ b → IsName name
    by true e = absurd (never (begins_with_letter name && list_all model_name_byte name && nat_le (length name) 24) (rw e at h))
    by false e = parts e (and_parts (begins_with_letter name && list_all model_name_byte name && nat_le (length name) 24) true (rw e at h)).0

may_be_given : (name : List ℕ) → IsName name → IsTrue (is_given_name name)
may_be_given name h = by (text_eq name atlas_name) refl
  where
    few : (n : ℕ) → n ≤ 24 → nat_le n 24 ≡ true
    few n l = grind (arith, nat_tests)

    front : (begins_with_letter name && list_all model_name_byte name && nat_le (length name) 24) ≡ true
    front =
        and_from (begins_with_letter name && list_all model_name_byte name) (nat_le (length name) 24)
        (and_from (begins_with_letter name) (list_all model_name_byte name) (begun name h.0 h.2) (sym (all_same is_name_byte model_name_byte byte_same name) ∙ h.3))
        (few (length name) h.1)

    by : (b : Bool) → text_eq name atlas_name ≡ b → IsTrue (is_given_name name)
    by true e = absurd (h.4 ((text_decides name atlas_name).0 e))
    by false e = rw e (and_from (begins_with_letter name && list_all model_name_byte name && nat_le (length name) 24) true front refl)

pub given_names_same : (name : List ℕ) → IsName name ↔ IsTrue (is_given_name name)
given_names_same name = (may_be_given name, given name)
