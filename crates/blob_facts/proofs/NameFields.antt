-- A name by its length and its bytes.
use Rattle.std.proofs.Common.{◌≡◌, ◌<◌, ◌≤◌, ◌⊎◌, inl, inr, ℕ, List, [], ◌∷◌, ◌++◌, length, None, refl, sym, ap, ◌∙◌, arith}
use Rattle.std.proofs.lemmas.Bool.{cases_lt}
use Rattle.std.specs.Prelude.{drop, slice_index}
use Rattle.act_atlas_laws.specs.data_atlas_facts.Directory.{Directory, IsDirectory, IsNameOf, entity_named, made_name, name_of}
use Rattle.act_atlas_laws.proofs.data_atlas_facts_lemmas.Digits.{one_digit, two_digits}
use Rattle.blob_grammar.specs.Places.{Begins}
use Rattle.blob_grammar.specs.Spelling.{text_bytes}
use Rattle.blob_grammar.proofs.Fields.{text}
use Rattle.blob_facts.specs.Fields.{IsFound, IsRefused, Spells, Then}
use Rattle.blob_facts.proofs.Sequences.{TellsApart, chain, joined, refused_as, refused_here, refused_later}
use Rattle.blob_facts.specs.Names.{HasShortName, IsNameIn, IsSizeSpelled, IsTextIn, IsTextSpelled}
use Rattle.blob_facts.proofs.NameFronts.{begins_long, begins_short}

-- a made name has two or three bytes
made_length : (n : ℕ) → n < 64 → (2 ≤ length (made_name n)) × (length (made_name n) ≤ 3)
made_length n small = by (cases_lt n 10)
  where
    by : (n < 10) ⊎ (10 ≤ n) → (2 ≤ length (made_name n)) × (length (made_name n) ≤ 3)
    by (inl one) = let e : 2 ≡ length (made_name n) = ap (λ (t : List ℕ). length t) (one_digit n one) in (omega (arith, e), omega (arith, e))
    by (inr two) = let e : 3 ≡ length (made_name n) = ap (λ (t : List ℕ). length t) (two_digits n two small) in (omega (arith, e), omega (arith, e))

module _ (a : Directory) (ok : IsDirectory a) (number : ℕ) (small : number < 64) (free : name_of a number ≡ None) where
  abbrev NameFields : List ℕ → Type 0
  NameFields = Then (IsSizeSpelled a) (λ size. Spells (IsTextSpelled a number size))

  name_of_fields : (y : List ℕ) → NameFields y → Spells (IsNameIn a number) y
  name_of_fields y f =
      let g = f.followed in
      let t = g.spelled.good in
      record {
        value = g.value;
        spelled = record { form = t.form; new = t.new; is = joined f.is (f.spelled.is ∙ (λ i. sym t.long i ∷ [])) g.spelled.is };
      }

  -- no name is empty, or longer than 24 bytes, and one of one byte is a letter
  name_length : (name : List ℕ) → IsNameOf number name → (1 ≤ length name) × (length name ≤ 24)
  name_length name (inl given) = (given.0, given.1)
  name_length name (inr made) =
      let l = made_length number small in
      let low = l.0 in
      let high = l.1 in
      let e : length name ≡ length (made_name number) = ap (λ (t : List ℕ). length t) made in
      (omega (arith, low, e), omega (arith, high, e))

  short_name : (name : List ℕ) → IsNameOf number name → entity_named a name ≡ None → length name ≡ 1 → HasShortName a
  short_name name (inr made) new one =
      let low = (made_length number small).0 in
      let e : length name ≡ length (made_name number) = ap (λ (t : List ℕ). length t) made in
      absurd (omega (arith, low, e, one))
  short_name [] (inl given) new one = absurd (omega (arith, one))
  short_name (c ∷ []) (inl given) new one = record { letter = c; is = given.2; new = new }
  short_name (c ∷ d ∷ name) (inl given) new one = absurd (omega (arith, one))

  fields_of_name : (y : List ℕ) → Spells (IsNameIn a number) y → NameFields y
  fields_of_name y s =
      let name = s.value in
      let f = s.spelled in
      let len = name_length name f.form in
      record {
        value = length name;
        front = length name ∷ [];
        behind = name;
        spelled = record { good = record { some = len.0; few = len.1; short = short_name name f.form f.new }; is = refl };
        followed = record { value = name; spelled = record { good = record { long = refl; form = f.form; new = f.new }; is = refl } };
        is = f.is;
      }

  -- what a length leaves
  pub begins_size : (size : ℕ) → 1 ≤ size → size ≤ 24 → (size ≡ 1 → HasShortName a) → Begins (IsTextIn a number size) []
  begins_size size some few short = by (cases_lt 1 size)
    where
      by : (1 < size) ⊎ (size ≤ 1) → Begins (IsTextIn a number size) []
      by (inl more) = begins_long a ok number size small free few more
      by (inr less) = let one : size ≡ 1 = omega (arith, less, some) in begins_short a ok number size small free few (short one) one

  some_text : (size : ℕ) (x : List ℕ) → IsSizeSpelled a size x → (b : List ℕ) × Spells (IsTextSpelled a number size) b
  some_text size x f =
      let on = begins_size size f.good.some f.good.few f.good.short in
      (on.0, record { value = on.0; spelled = record { good = on.1; is = refl } })

  size_tells : TellsApart (IsSizeSpelled a)
  size_tells = record {
    told = λ v w x y p q f g same.
        let e : v ∷ p ≡ w ∷ q = ap (λ (l : List ℕ). l ++ p) (sym f.is) ∙ same ∙ ap (λ (l : List ℕ). l ++ q) g.is in
        (ap (λ (l : List ℕ). slice_index l 0) e, ap (λ (l : List ℕ). drop 1 l) e);
  }

  module _ (bytes rest behind : List ℕ) where
    pub size_refused : IsRefused (Spells (IsSizeSpelled a)) bytes behind → IsRefused (Spells (IsNameIn a number)) bytes behind
    size_refused r = refused_as name_of_fields fields_of_name (refused_here some_text r)

    pub text_refused : (size : ℕ) → IsFound (IsSizeSpelled a) bytes size rest → IsRefused (Spells (IsTextSpelled a number size)) rest behind → IsRefused (Spells (IsNameIn a number)) bytes behind
    text_refused size f r = refused_as name_of_fields fields_of_name (refused_later size_tells f r)

    pub name_found : (size : ℕ) (name : List ℕ) → IsFound (IsSizeSpelled a) bytes size rest → IsFound (IsTextSpelled a number size) rest name behind → IsFound (IsNameIn a number) bytes name behind
    name_found size name f g =
        let t = g.spelled.good in
        record {
          front = text_bytes name;
          spelled = record { form = t.form; new = t.new; is = refl };
          is = chain name behind f.is (f.spelled.is ∙ (λ i. sym t.long i ∷ [])) (joined g.is g.spelled.is refl);
        }

pub name_tells : (a : Directory) (number : ℕ) → TellsApart (IsNameIn a number)
name_tells a number = record {
  told = λ v w x y p q f g same. (text v w tt tt).told p q (ap (λ (l : List ℕ). l ++ p) (sym f.is) ∙ same ∙ ap (λ (l : List ℕ). l ++ q) g.is);
}
