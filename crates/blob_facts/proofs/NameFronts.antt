-- Which fronts go on to a name of so many bytes that is no one's.
use Rattle.std.proofs.Common.{◌≡◌, ◌<◌, ◌≤◌, ◌⊎◌, inl, inr, ℕ, zero, suc, ◌+◌, ◌-◌, ◌/◌, ◌%◌, ◌&&◌, ◌||◌, ◌==◌, nat_lt, Bool, true, false, List, [], ◌∷◌, ◌++◌, length, replicate, Option, Some, None, refl, sym, ap, subst, ◌∙◌, arith, append_assoc}
use Rattle.std.proofs.lemmas.Bool.{and_parts, cases_lt, false≢true}
use Rattle.std.proofs.lemmas.Bool.Decides.{nat_tests}
use borrow.Author.Tests.{lt-ltb, ltb-true}
use Rattle.std.proofs.lemmas.List.{append-nil, length-append, length-replicate}
use Rattle.std.specs.Prelude.{codes, slice_index}
use Rattle.std.specs.List.{list_all}
use Rattle.act_atlas_laws.specs.data_atlas_facts.Directory.{Directory, IsDirectory, IsName, IsNameOf, entity_named, is_letter, is_name_byte, made_name, name_of}
use Rattle.act_atlas_laws.proofs.data_atlas_facts_lemmas.Digits.{one_digit, two_digits}
use Rattle.act_atlas_laws.proofs.data_atlas_facts_lemmas.Naming.{made_is_new}
use Rattle.blob_grammar.specs.Places.{Begins}
use Rattle.blob_facts.specs.Names.{GoesOn, HasShortName, IsGivenFront, IsTextIn}
use Rattle.act_atlas_laws.proofs.data_atlas_facts_lemmas.Pigeons.{no_ones}

-- LISTS
first_of : (p q : List ℕ) → 1 ≤ length p → slice_index (p ++ q) 0 ≡ slice_index p 0
first_of [] q some = absurd (omega (arith, some))
first_of (c ∷ p) q some = refl

module _ (test : ℕ → Bool) where
  pub all_join : (p q : List ℕ) → list_all test p ≡ true → list_all test q ≡ true → list_all test (p ++ q) ≡ true
  all_join [] q a b = b
  all_join (c ∷ p) q a b =
      let h = and_parts (test c) (list_all test p) a in
      (λ i. h.0 i && list_all test (p ++ q)) ∙ all_join p q h.1 b

  pub all_front : (p q : List ℕ) → list_all test (p ++ q) ≡ true → (list_all test p ≡ true) × (list_all test q ≡ true)
  all_front [] q a = (refl, a)
  all_front (c ∷ p) q a =
      let h = and_parts (test c) (list_all test (p ++ q)) a in
      let more = all_front p q h.1 in
      ((λ i. h.0 i && list_all test p) ∙ more.0, more.1)

all_small : (n : ℕ) → list_all is_name_byte (replicate n 97) ≡ true
all_small zero = refl
all_small (suc n) = all_small n

abbrev is_none : Option ℕ → Type 0
is_none None = Unit {0}
is_none (Some n) = ⊥

module _ (a : Directory) (ok : IsDirectory a) (number size : ℕ) (small : number < 64) (free : name_of a number ≡ None) (short : size ≤ 24) where
  -- what is no one's is not the atlas's
  not_atlas : (text : List ℕ) → entity_named a text ≡ None → text ≡ codes "atlas" → ⊥
  not_atlas text new e = subst is_none (sym new ∙ ap (entity_named a) e) tt

  pub given_text : (text : List ℕ) → IsGivenFront text → length text ≡ size → entity_named a text ≡ None → IsTextIn a number size text
  given_text text f is new = record {
    long = is;
    form = inl (f.some, (let e = is in omega (arith, e, short)), f.letter, f.all, not_atlas text new);
    new = new;
  }

  -- a front that is shorter goes on
  pub given_goes_on : (front : List ℕ) → IsGivenFront front → length front < size → Begins (IsTextIn a number size) front
  given_goes_on front f less =
      let r = replicate (size - length front - 1) 97 in
      let last = no_ones a ok (front ++ r) in
      let text : List ℕ = (front ++ r) ++ last.0 ∷ [] in
      let l1 = length-append (front ++ r) (last.0 ∷ []) in
      let l2 = length-append front r in
      let l3 : length r ≡ size - length front - 1 = length-replicate (size - length front - 1) 97 in
      let is : text ≡ front ++ (r ++ last.0 ∷ []) = append_assoc front r (last.0 ∷ []) in
      let some = f.some in (
        r ++ last.0 ∷ [],
        subst (IsTextIn a number size) is (given_text text
            (record {
              some = omega (arith, l1, l2, some);
              letter = ap is_letter (ap (λ (l : List ℕ). slice_index l 0) is ∙ first_of front (r ++ last.0 ∷ []) some) ∙ f.letter;
              all = all_join is_name_byte (front ++ r) (last.0 ∷ []) (all_join is_name_byte front r f.all (all_small (size - length front - 1))) ((λ i. last.1 i && true));
            })
            (omega (arith, l1, l2, l3, less)) last.2),
      )

  -- the made name
  made_text : size ≡ length (made_name number) → IsTextIn a number size (made_name number)
  made_text is = record { long = sym is; form = inr refl; new = made_is_new a number ok small free }

  -- WHAT BEGINS A NAME
  pub goes_on : (front : List ℕ) → length front ≤ size → GoesOn a number size front → Begins (IsTextIn a number size) front
  goes_on front few (inl made) = (made.rest, subst (IsTextIn a number size) made.is (made_text made.long))
  goes_on front few (inr given) = by given.new
    where
      whole_or_more : (length front < size) ⊎ (size ≤ length front) → entity_named a front ≡ None → Begins (IsTextIn a number size) front
      whole_or_more (inl less) new = given_goes_on front given.given less
      whole_or_more (inr whole) new = ([], subst (IsTextIn a number size) (sym (append-nil front)) (given_text front given.given (omega (arith, whole, few)) new))

      by : (length front < size) ⊎ (entity_named a front ≡ None) → Begins (IsTextIn a number size) front
      by (inl more) = given_goes_on front given.given more
      by (inr new) = whole_or_more (cases_lt (length front) size) new

  -- and nothing else does
  pub went_on : (front : List ℕ) → 1 ≤ length front → Begins (IsTextIn a number size) front → GoesOn a number size front
  went_on front some (rest, text) = by text.form rest refl
    where
      front_given : IsName (front ++ rest) → IsGivenFront front
      front_given given = record {
        some = some;
        letter = ap is_letter (sym (first_of front rest some)) ∙ given.2;
        all = (all_front is_name_byte front rest given.3).0;
      }

      by : IsNameOf number (front ++ rest) → (r : List ℕ) → rest ≡ r → GoesOn a number size front
      by (inr made) r is = inl (record { long = sym text.long ∙ ap (λ (l : List ℕ). length l) made; rest = rest; is = sym made })
      by (inl given) [] is = inr (record { given = front_given given; new = inr (sym (ap (entity_named a) (ap (λ (l : List ℕ). front ++ l) is ∙ append-nil front)) ∙ text.new) })
      by (inl given) (x ∷ r) is =
          let l1 = length-append front rest in
          let l3 : length rest ≡ suc (length r) = ap (λ (l : List ℕ). length l) is in
          let s = text.long in
          inr (record { given = front_given given; new = inl (omega (arith, l1, l3, s)) })

  -- AT THE BEGINNING: which lengths a name may have
  pub begins_long : 2 ≤ size → Begins (IsTextIn a number size) []
  begins_long long =
      let on = given_goes_on (97 ∷ []) (record { some = omega arith; letter = refl; all = refl }) (omega (arith, long)) in
      (97 ∷ on.0, on.1)

  pub begins_short : HasShortName a → size ≡ 1 → Begins (IsTextIn a number size) []
  begins_short one is =
      (one.letter ∷ [], given_text (one.letter ∷ []) (record { some = omega arith; letter = one.is; all = λ i. letter_is one.letter one.is i && true }) (sym is) one.new)
    where
      letter_is : (c : ℕ) → is_letter c ≡ true → is_name_byte c ≡ true
      letter_is c h = ap (λ b. b || (nat_lt 47 c && nat_lt c 58) || c == 95 || c == 45 || c == 46) h

-- ALL OF IT IS ASCII
small_letter : (c : ℕ) → is_name_byte c ≡ true → c < 128
small_letter c h = by (cases_lt c 128)
  where
    none : 128 ≤ c → is_name_byte c ≡ false
    none large = grind (arith, nat_tests)

    by : (c < 128) ⊎ (128 ≤ c) → c < 128
    by (inl small) = small
    by (inr large) = absurd (false≢true (sym (none large) ∙ h))

abbrev is_small : ℕ → Bool
is_small c = nat_lt c 128

made_small : (n : ℕ) → n < 64 → list_all is_small (made_name n) ≡ true
made_small n few = by (cases_lt n 10)
  where
    by : (n < 10) ⊎ (10 ≤ n) → list_all is_small (made_name n) ≡ true
    by (inl one) = sym (ap (list_all is_small) (one_digit n one)) ∙ (λ i. lt-ltb (48 + n) 128 (omega (arith, few)) i && true)
    by (inr two) =
        sym (ap (list_all is_small) (two_digits n two few))
        ∙ (λ i. lt-ltb (48 + n / 10) 128 (omega (arith, few)) i && (lt-ltb (48 + n % 10) 128 (omega arith) i && true))

pub ascii : (a : Directory) (number size : ℕ) → number < 64 → (front : List ℕ) (byte : ℕ) → GoesOn a number size (front ++ byte ∷ []) → byte < 128
ascii a number size few front byte (inl made) =
    let all = all_front is_small (front ++ byte ∷ []) made.rest (sym (ap (list_all is_small) made.is) ∙ made_small number few) in
    let last = all_front is_small front (byte ∷ []) all.0 in
    ltb-true byte 128 (and_parts (is_small byte) true last.1).0
ascii a number size few front byte (inr given) =
    small_letter byte (and_parts (is_name_byte byte) true (all_front is_name_byte front (byte ∷ []) given.given.all).1).0
