-- The first two words of a line.
use Rattle.std.proofs.Common.{◌≡◌, ℕ, zero, suc, ◌+◌, ◌<◌, ◌==◌, Bool, false, [], ◌∷◌, ◌++◌, length, take, drop, get_or, refl, sym, ap, ◌∙◌, ◌⊎◌, inl, inr, arith, eqb-true, eq-eqb, append_assoc}
use Rattle.std.specs.List.{after_first, before_first, position_or_len}
use Rattle.std.proofs.Math.Seq.{drop-append-add, get_or-append_seam, take-append_seam, take-length}
use Rattle.std.proofs.lemmas.Bool.{cases_lt}
use Rattle.std.proofs.lemmas.Bool.Decides.{nat_tests}
use Rattle.std.proofs.lemmas.List.{get_or_append_left, length-append, take_all}
use Rattle.std.proofs.lemmas.List.Sums.{passes_at_first, position_or_len_is, split_at_first}
use Rattle.line_entry_laws.proofs.Splits.{Lacks}
use Rattle.line_text.specs.model_kernel.State.{Text}
use Rattle.trace_steps.proofs.plain_facts_lemmas.NextNames.{drop_end}
use Rattle.trace_facts.specs.Traces.{BeginsWith}
use Rattle.trace_facts.specs.Words.{first_word, rest_words}

off : (c b : ℕ) → (c ≡ b → ⊥) → (c == b) ≡ false
off c b h = grind (arith, nat_tests)

abbrev is_byte : ℕ → ℕ → Bool
is_byte b = λ c. c == b

lacks_at : (b : ℕ) (xs : Text) (k d : ℕ) → Lacks b xs → k < length xs → is_byte b (get_or xs k d) ≡ false
lacks_at b [] k d h lt = absurd (omega (arith, lt))
lacks_at b (x ∷ xs) zero d h lt = off x b h.0
lacks_at b (x ∷ xs) (suc k) d h lt = lacks_at b xs k d h.1 (omega (arith, lt))

-- BEFORE AND BEHIND A BYTE

module _ (b : ℕ) (xs ys : Text) (h : Lacks b xs) where
  cut_at : position_or_len (is_byte b) (xs ++ b ∷ ys) ≡ length xs
  cut_at =
      position_or_len_is (is_byte b) (xs ++ b ∷ ys) (length xs) 0 (let n = length-append xs (b ∷ ys) in omega (arith, n))
      (λ k lt. ap (is_byte b) (get_or_append_left xs (b ∷ ys) 0 k lt) ∙ lacks_at b xs k 0 h lt)
      (λ _. ap (is_byte b) (get_or-append_seam xs b ys 0) ∙ eq-eqb b b refl)

  pub before_cut : before_first (is_byte b) (xs ++ b ∷ ys) ≡ xs
  before_cut = ap (λ n. take n (xs ++ b ∷ ys)) cut_at ∙ take-append_seam xs (b ∷ ys)

  pub after_cut : after_first (is_byte b) (xs ++ b ∷ ys) ≡ ys
  after_cut = ap (λ n. drop (n + 1) (xs ++ b ∷ ys)) cut_at ∙ drop-append-add xs (b ∷ ys) 1

pub before_all : (b : ℕ) (xs : Text) → Lacks b xs → before_first (is_byte b) xs ≡ xs
before_all b xs h =
    ap (λ n. take n xs) (position_or_len_is (is_byte b) xs (length xs) 0 (omega arith) (λ k lt. lacks_at b xs k 0 h lt) (λ lt. absurd (omega (arith, lt)))) ∙ take-length xs

-- the text is cut at the byte, or lacks it
pub cut_cases : (b : ℕ) (text : Text) → (text ≡ before_first (is_byte b) text ++ b ∷ after_first (is_byte b) text) ⊎ ((text ≡ before_first (is_byte b) text) × (after_first (is_byte b) text ≡ []))
cut_cases b text =
    let n = position_or_len (is_byte b) text in
    elim (cases_lt n (length text)) as (λ _. (text ≡ before_first (is_byte b) text ++ b ∷ after_first (is_byte b) text) ⊎ ((text ≡ before_first (is_byte b) text) × (after_first (is_byte b) text ≡ []))) [
      | inl lt ↦ inl (split_at_first (is_byte b) text 0 lt ∙ ap (λ c. before_first (is_byte b) text ++ c ∷ after_first (is_byte b) text) (eqb-true _ b (passes_at_first (is_byte b) text 0 lt)))
      | inr past ↦ inr (sym (take_all n text past), drop_end text (n + 1) (omega (arith, past)))
    ]

-- TWO WORDS

pub record Parsed (line w name : Text) : Type 0 where
  pub first : first_word line ≡ w
  pub second : first_word (rest_words line) ≡ name

pub parse : (line w name : Text) → Lacks 32 w → Lacks 32 name → BeginsWith line (w ++ 32 ∷ name) → Parsed line w name
parse line w name h k begins = elim begins as (λ _. Parsed line w name) [
  | inl e ↦ record {
    first = ap first_word e ∙ before_cut 32 w name h;
    second = ap (λ (t : Text). first_word (rest_words t)) e ∙ ap first_word (after_cut 32 w name h) ∙ before_all 32 name k;
  }
  | inr more ↦ (
      let rest = more.0 in
      let whole : line ≡ w ++ 32 ∷ (name ++ 32 ∷ rest) = more.1 ∙ append_assoc w (32 ∷ name) (32 ∷ rest) in
      record {
        first = ap first_word whole ∙ before_cut 32 w (name ++ 32 ∷ rest) h;
        second = ap (λ (t : Text). first_word (rest_words t)) whole ∙ ap first_word (after_cut 32 w (name ++ 32 ∷ rest) h) ∙ before_cut 32 name rest k;
      })
]

pub compose : (line w name : Text) → first_word line ≡ w → first_word (rest_words line) ≡ name → (name ≡ [] → ⊥) → BeginsWith line (w ++ 32 ∷ name)
compose line w name first second some = elim (cut_cases 32 line) as (λ _. BeginsWith line (w ++ 32 ∷ name)) [
  | inl cut ↦ (
      let rest = rest_words line in
      let here : line ≡ w ++ 32 ∷ rest = cut ∙ ap (λ (t : Text). t ++ 32 ∷ rest) first in
      elim (cut_cases 32 rest) as (λ _. BeginsWith line (w ++ 32 ∷ name)) [
        | inl more ↦ inr (rest_words rest, here ∙ ap (λ (t : Text). w ++ 32 ∷ t) (more ∙ ap (λ (t : Text). t ++ 32 ∷ rest_words rest) second) ∙ sym (append_assoc w (32 ∷ name) (32 ∷ rest_words rest)))
        | inr all ↦ inl (here ∙ ap (λ (t : Text). w ++ 32 ∷ t) (all.0 ∙ second))
      ])
  | inr whole ↦ absurd (some (sym second ∙ ap first_word whole.1))
]
