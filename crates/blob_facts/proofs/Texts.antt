-- Texts of one length, read byte by byte: which front goes on, and where they are refused.
use Rattle.std.proofs.Common.{◌≡◌, ◌<◌, ◌≤◌, ℕ, List, [], ◌∷◌, ◌++◌, length, take, drop, refl, sym, ap, subst, ◌∙◌, arith, append_assoc}
use Rattle.std.proofs.lemmas.List.{length-append, take-append-drop, take-append-le, take_at}
use Rattle.blob_grammar.specs.Places.{Begins}
use Rattle.blob_facts.specs.Fields.{IsRefused, IsStuck}

module _ (Text : List ℕ → Type 0) (size : ℕ) (long : (text : List ℕ) → Text text → length text ≡ size) where
  -- the bytes end before the text does
  pub text_ends : (front : List ℕ) → length front < size → Begins Text front → IsStuck Text front []
  text_ends front short begins = record {
    begins = begins;
    stops = λ whole more rest one same goes.
        let e : length (whole ++ more) ≡ length (front ++ rest) = ap (λ (l : List ℕ). length l) same in
        let none : length rest ≡ 0 = ap (λ (l : List ℕ). length l) goes in
        let a = length-append whole more in
        let b = length-append front rest in
        let l = long whole one in
        omega (arith, e, none, a, b, l, short);
  }

  -- a byte with which none goes on
  pub text_stops : (front : List ℕ) (byte : ℕ) (behind : List ℕ) → length front < size → Begins Text front → (Begins Text (front ++ byte ∷ []) → ⊥) → IsStuck Text front (byte ∷ behind)
  text_stops front byte behind short begins none = record {
    begins = begins;
    stops = λ whole more rest one same goes. none (goes_on whole more goes.0 one (same ∙ ap (λ (l : List ℕ). front ++ l) goes.1));
  }
    where
      goes_on : (whole more rest : List ℕ) → Text whole → whole ++ more ≡ front ++ byte ∷ rest → Begins Text (front ++ byte ∷ [])
      goes_on whole more rest one same =
          let a = length-append front (byte ∷ []) in
          let l = long whole one in
          let within : length (front ++ byte ∷ []) ≤ length whole = omega (arith, a, l, short) in
          let whole_is : whole ++ more ≡ (front ++ byte ∷ []) ++ rest = same ∙ sym (append_assoc front (byte ∷ []) rest) in
          let first : take (length (front ++ byte ∷ [])) whole ≡ front ++ byte ∷ [] =
          sym (take-append-le (length (front ++ byte ∷ [])) whole more within) ∙ ap (take (length (front ++ byte ∷ []))) whole_is ∙ take_at (front ++ byte ∷ []) rest (length (front ++ byte ∷ [])) refl in
          (drop (length (front ++ byte ∷ [])) whole, subst Text (sym (take-append-drop (length (front ++ byte ∷ [])) whole) ∙ ap (λ (l : List ℕ). l ++ drop (length (front ++ byte ∷ [])) whole) first) one)

  -- the same of what a reader tells
  pub text_cut_off : (bytes front rest : List ℕ) → bytes ≡ front ++ rest → rest ≡ [] → length front < size → Begins Text front → IsRefused Text bytes rest
  text_cut_off bytes front rest is none short begins =
      subst (λ (r : List ℕ). IsRefused Text bytes r) (sym none) (record { front = front; stuck = text_ends front short begins; is = is ∙ ap (λ (r : List ℕ). front ++ r) none })

  pub text_refused : (bytes front rest : List ℕ) (byte : ℕ) (behind : List ℕ) → bytes ≡ front ++ rest → rest ≡ byte ∷ behind → length front < size → Begins Text front
      → (Begins Text (front ++ byte ∷ []) → ⊥) → IsRefused Text bytes rest
  text_refused bytes front rest byte behind is rest_is short begins none =
      subst (λ (r : List ℕ). IsRefused Text bytes r) (sym rest_is)
      (record { front = front; stuck = text_stops front byte behind short begins none; is = is ∙ ap (λ (r : List ℕ). front ++ r) rest_is })
