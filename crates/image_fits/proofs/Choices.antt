-- What is chosen of each entity in a list.
use Rattle.std.proofs.Common.{◌≡◌, ℕ, zero, suc, ◌+◌, ◌<◌, ◌≤◌, Bool, true, false, ◌&&◌, List, [], ◌∷◌, Option, Some, None, length, get_or, refl, sym, ap, ◌∙◌, subst, ⊎_elim, arith}
use Rattle.std.specs.Prelude.{IsTrue, is_some, not}
use Rattle.std.proofs.lemmas.Bool.{cases_lt, false≢true}
use Rattle.image_fit_facts.proofs.image_meaning_lemmas.Fitting.{none_some}
use Rattle.image_fits.specs.Fits.{AreFitBy, IsFirstUnfitBy, IsFitBy}
use Rattle.image_fit_facts.specs.image_meaning.Parts.{Part}
use Rattle.image_fits.specs.Chosen.{entity_at, part_in, part_of, parts_of}
use Rattle.image_fits.specs.declared.chosen.ChosenEntity.{ChosenEntity}
use Rattle.std.proofs.lemmas.Option.{same_Some}

-- one that is read from the list is that of its number
pub read_at : (es : List (Option ChosenEntity)) (x : ℕ) (o : Option ChosenEntity) → x < length es → o ≡ get_or es x o → entity_at es x ≡ o
read_at [] x o lt is = absurd (omega arith)
read_at (e ∷ es) zero o lt is = sym is
read_at (e ∷ es) (suc x) o lt is = read_at es x o (omega arith) is

-- past the end nothing is chosen
pub none_past : (es : List (Option ChosenEntity)) (x : ℕ) → length es ≤ x → entity_at es x ≡ None
none_past [] x le = refl
none_past (e ∷ es) zero le = absurd (omega arith)
none_past (e ∷ es) (suc x) le = none_past es x (omega arith)

-- one that is named, and isn't both named and missing, is chosen
pub chosen_there : (es : List (Option ChosenEntity)) (x : ℕ) (o : Option ChosenEntity) (named missing : Bool) → x < length es → o ≡ get_or es x o → named ≡ true
    → (named && missing) ≡ false → is_some o ≡ not missing → (part : Part) × (parts_of es x ≡ Some part)
chosen_there es x o named missing lt is born not_both tells =
    let here : entity_at es x ≡ o = read_at es x o lt is in
    let there : missing ≡ false = sym (ap (λ b. b && missing) born) ∙ not_both in
    by o (tells ∙ ap not there) here
  where
    by : (p : Option ChosenEntity) → is_some p ≡ true → entity_at es x ≡ p → (part : Part) × (parts_of es x ≡ Some part)
    by None e at = absurd (false≢true e)
    by (Some e) f at = (part_of e.part, ap part_in at)

-- what is chosen where there is a part
pub part_there : (o : Option ChosenEntity) (part : Part) → part_in o ≡ Some part → (e : ChosenEntity) × (o ≡ Some e) × (part_of e.part ≡ part)
part_there None part is = none_some part is
part_there (Some e) part is = (e, refl, same_Some (part_of e.part) part is)

-- THE FIRST THAT DOESN'T FIT

module _ (uses : List ℕ) (es : List (Option ChosenEntity)) where
  pub fit_more : (n : ℕ) (o : Option ChosenEntity) → n < length es → o ≡ get_or es n o → ((e : ChosenEntity) → o ≡ Some e → IsFitBy uses es n (part_of e.part))
      → ((y : ℕ) (p : Part) → y < n → parts_of es y ≡ Some p → IsFitBy uses es y p) → (y : ℕ) (p : Part) → y < n + 1 → parts_of es y ≡ Some p → IsFitBy uses es y p
  fit_more n o lt is here before y p below at = ⊎_elim
      (λ (less : y < n). before y p less at)
      (λ (behind : n ≤ y).
      let same : y ≡ n = omega arith in
      let there = part_there (entity_at es y) p at in
      let read : o ≡ Some there.0 = sym (read_at es n o lt is) ∙ (ap (entity_at es) (sym same) ∙ there.1) in
      subst (λ z. IsFitBy uses es z p) (sym same) (subst (λ (q : Part). IsFitBy uses es n q) there.2 (here there.0 read)))
      (cases_lt y n)

  pub fit_all : (n : ℕ) → length es ≤ n → ((y : ℕ) (p : Part) → y < n → parts_of es y ≡ Some p → IsFitBy uses es y p) → AreFitBy uses es
  fit_all n past below x part at = ⊎_elim
      (λ (less : x < n). below x part less at)
      (λ (behind : n ≤ x). none_some part (sym (ap part_in (none_past es x (omega arith))) ∙ at))
      (cases_lt x n)

  pub first_here : (x n : ℕ) (o : Option ChosenEntity) (e : ChosenEntity) (fits : Bool) → x ≡ n → n < length es → o ≡ get_or es n o → o ≡ Some e → fits ≡ false
      → (IsFitBy uses es x (part_of e.part) → IsTrue fits) → ((y : ℕ) (p : Part) → y < n → parts_of es y ≡ Some p → IsFitBy uses es y p) → IsFirstUnfitBy uses es x
  first_here x n o e fits same lt is some fails back before = record {
    part = part_of e.part;
    is = ap part_in (ap (entity_at es) same ∙ (read_at es n o lt is ∙ some));
    before = λ y p less at. before y p (subst (λ z. y < z) same less) at;
    unfit = λ fit. false≢true (sym fails ∙ back fit);
  }
