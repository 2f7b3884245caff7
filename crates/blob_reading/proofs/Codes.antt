-- Bytes that stand for one of a few values.
use Rattle.std.proofs.Common.{◌≡◌, ◌≤◌, ℕ, zero, suc, List, [], ◌∷◌, ◌++◌, refl, sym, ap, ◌∙◌, arith}
use Rattle.std.specs.Prelude.{drop, slice_index}
use Rattle.base_types.specs.declared.instructions.Condition.{Condition}
use Rattle.base_types.specs.declared.instructions.Condition.TheVariants.{Running, Stopped, Halted}
use Rattle.blob_grammar.specs.Spelling.{condition_number}
use Rattle.blob_grammar.proofs.Fields.{condition_same}
use Rattle.blob_facts.specs.Fields.{IsByteIn, IsRefused, Spells}
use Rattle.blob_facts.specs.Loci.{IsConditionSpelled}
use Rattle.blob_reading.specs.Loci.{IsFormSpelled, form_byte}
use Rattle.blob_reading.specs.declared.forms.Form.{Form}
use Rattle.blob_reading.specs.declared.forms.Form.TheVariants.{Short, Long}
use Rattle.blob_facts.proofs.Sequences.{TellsApart, refused_as}

module _ {A : Type 0} (code : A → ℕ) where
  abbrev pub Coded : A → List ℕ → Type 0
  Coded v bytes = bytes ≡ code v ∷ []

  coded_tells : ((v w : A) → code v ≡ code w → v ≡ w) → TellsApart Coded
  coded_tells same_code = record {
    told = λ v w a b x y f g same.
        let e : code v ∷ x ≡ code w ∷ y = ap (λ (l : List ℕ). l ++ x) (sym f) ∙ same ∙ ap (λ (l : List ℕ). l ++ y) g in
        (same_code v w (ap (λ (l : List ℕ). slice_index l 0) e), ap (λ (l : List ℕ). drop 1 l) e);
  }

  module _ (least most : ℕ) where
    coded_refused : (bytes behind : List ℕ) → ((n : ℕ) → least ≤ n → n ≤ most → (v : A) × (n ≡ code v)) → ((v : A) → (least ≤ code v) × (code v ≤ most))
        → IsRefused (Spells (IsByteIn least most)) bytes behind → IsRefused (Spells Coded) bytes behind
    coded_refused bytes behind value within r =
        refused_as
        (λ y s. let v = value s.value s.spelled.low s.spelled.high in record { value = v.0; spelled = s.spelled.is ∙ ap (λ n. n ∷ []) v.1 })
        (λ y s. record { value = code s.value; spelled = record { low = (within s.value).0; high = (within s.value).1; is = s.spelled } })
        r

-- FORMS
form_same : (f g : Form) → form_byte f ≡ form_byte g → f ≡ g
form_same Short Short e = refl
form_same Long Long e = refl
form_same Short Long e = absurd (omega (arith, e))
form_same Long Short e = absurd (omega (arith, e))

form_of : (n : ℕ) → 2 ≤ n → n ≤ 3 → (f : Form) × (n ≡ form_byte f)
form_of zero low high = absurd (omega (arith, low))
form_of (suc zero) low high = absurd (omega (arith, low))
form_of (suc (suc zero)) low high = (Short, refl)
form_of (suc (suc (suc zero))) low high = (Long, refl)
form_of (suc (suc (suc (suc n)))) low high = absurd (omega (arith, high))

form_within : (f : Form) → (2 ≤ form_byte f) × (form_byte f ≤ 3)
form_within Short = (omega arith, omega arith)
form_within Long = (omega arith, omega arith)

pub form_tells : TellsApart IsFormSpelled
form_tells = coded_tells form_byte form_same

pub form_refused : (bytes behind : List ℕ) → IsRefused (Spells (IsByteIn 2 3)) bytes behind → IsRefused (Spells IsFormSpelled) bytes behind
form_refused bytes behind r = coded_refused form_byte 2 3 bytes behind form_of form_within r

-- CONDITIONS
condition_of : (n : ℕ) → 0 ≤ n → n ≤ 2 → (c : Condition) × (n ≡ condition_number c)
condition_of zero low high = (Running, refl)
condition_of (suc zero) low high = (Stopped, refl)
condition_of (suc (suc zero)) low high = (Halted, refl)
condition_of (suc (suc (suc n))) low high = absurd (omega (arith, high))

condition_within : (c : Condition) → (0 ≤ condition_number c) × (condition_number c ≤ 2)
condition_within Running = (omega arith, omega arith)
condition_within Stopped = (omega arith, omega arith)
condition_within Halted = (omega arith, omega arith)

pub condition_tells : TellsApart IsConditionSpelled
condition_tells = coded_tells condition_number condition_same

pub condition_refused : (bytes behind : List ℕ) → IsRefused (Spells (IsByteIn 0 2)) bytes behind → IsRefused (Spells IsConditionSpelled) bytes behind
condition_refused bytes behind r = coded_refused condition_number 0 2 bytes behind condition_of condition_within r
