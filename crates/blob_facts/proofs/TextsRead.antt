-- A reader of a name's text, at each byte.
use Rattle.std.proofs.Common.{◌≡◌, ◌<◌, ◌≤◌, ℕ, ◌+◌, List, [], ◌∷◌, ◌++◌, length, None, refl, sym, ap, subst, ◌∙◌, arith, append_assoc}
use Rattle.std.proofs.lemmas.List.{append-nil, length-append, nil_from_length}
use Rattle.act_atlas_laws.specs.data_atlas_facts.Directory.{Directory, IsDirectory, name_of}
use Rattle.blob_grammar.specs.Places.{Begins}
use Rattle.blob_facts.specs.Fields.{IsFound, IsRefused, Spells}
use Rattle.blob_facts.proofs.Sequences.{refused_as}
use Rattle.blob_facts.specs.Names.{GoesOn, IsTextIn, IsTextSpelled}
use Rattle.blob_facts.proofs.NameFronts.{goes_on, went_on}
use Rattle.blob_facts.proofs.Texts.{text_cut_off, text_refused}

module _ (a : Directory) (number size : ℕ) (bytes : List ℕ) where
  -- the text so far begins a name, and stands before the rest
  pub record SoFar (place : ℕ) (text rest : List ℕ) : Type 0 where
    pub long : length text ≡ place
    pub begins : Begins (IsTextIn a number size) text
    pub is : bytes ≡ text ++ rest

  spelled : (y : List ℕ) → IsTextIn a number size y → Spells (IsTextSpelled a number size) y
  spelled y t = record { value = y; spelled = record { good = t; is = refl } }

  unspelled : (y : List ℕ) → Spells (IsTextSpelled a number size) y → IsTextIn a number size y
  unspelled y s = subst (IsTextIn a number size) (sym s.spelled.is) s.spelled.good

  module _ (place : ℕ) (text rest : List ℕ) (more : place < size) (so_far : SoFar place text rest) where
    less : length text < size
    less = let l = so_far.long in omega (arith, l, more)

    pub wanting : length rest ≡ 0 → IsRefused (Spells (IsTextSpelled a number size)) bytes rest
    wanting none =
        refused_as spelled unspelled
        (text_cut_off (IsTextIn a number size) size (λ t g. g.long) bytes text rest so_far.is (nil_from_length rest none) less so_far.begins)

    module _ (ok : IsDirectory a) (small : number < 64) (free : name_of a number ≡ None) (short : size ≤ 24) (byte : ℕ) (behind : List ℕ) (rest_is : rest ≡ byte ∷ behind) where
      len : length (text ++ byte ∷ []) ≡ place + 1
      len = length-append text (byte ∷ []) ∙ ap (λ n. n + 1) so_far.long

      pub refused : (GoesOn a number size (text ++ byte ∷ []) → ⊥) → IsRefused (Spells (IsTextSpelled a number size)) bytes rest
      refused none =
          refused_as spelled unspelled
          (text_refused (IsTextIn a number size) size (λ t g. g.long) bytes text rest byte behind so_far.is rest_is less so_far.begins
          (λ begins. none (went_on a ok number size small free short (text ++ byte ∷ []) (let l = len in omega (arith, l)) begins)))

      pub longer : (front : List ℕ) → front ≡ text ++ byte ∷ [] → GoesOn a number size front → SoFar (place + 1) front behind
      longer front is goes =
          let e : length front ≡ place + 1 = ap (λ (l : List ℕ). length l) is ∙ len in
          record {
            long = e;
            begins = goes_on a ok number size small free short front (omega (arith, e, more)) goes;
            is =
                so_far.is ∙ ap (λ (l : List ℕ). text ++ l) rest_is ∙ sym (append_assoc text (byte ∷ []) behind) ∙ ap (λ (l : List ℕ). l ++ behind) (sym is);
          }

  pub begun : (text : List ℕ) → text ≡ [] → Begins (IsTextIn a number size) [] → SoFar 0 text bytes
  begun text none begins = subst (λ (l : List ℕ). SoFar 0 l bytes) (sym none) (record { long = refl; begins = begins; is = refl })

  -- at the end it is a name
  pub all_read : (place : ℕ) (text rest : List ℕ) → size ≤ place → SoFar place text rest → IsFound (IsTextSpelled a number size) bytes text rest
  all_read place text rest end so_far =
      let on = so_far.begins in
      let full : length (text ++ on.0) ≡ size = on.1.long in
      let l = length-append text on.0 in
      let here = so_far.long in
      let none : on.0 ≡ [] = nil_from_length on.0 (omega (arith, full, l, here, end)) in
      record {
        front = text;
        spelled = record { good = subst (IsTextIn a number size) (ap (λ (r : List ℕ). text ++ r) none ∙ append-nil text) on.1; is = refl };
        is = so_far.is;
      }
