-- The loci that are looked at, one behind another: picks of the order, then rounds.
use Rattle.std.proofs.Common.{◌≡◌, ℕ, zero, suc, ◌+◌, ◌-◌, ◌<◌, ◌≤◌, List, [], ◌∷◌, ◌++◌, length, take, drop, get_or, slice_get, Option, Some, None, refl, sym, ap, ◌∙◌, arith}
use Rattle.std.proofs.Math.Seq.{take-length}
use Rattle.std.proofs.lemmas.List.{append-nil, append_assoc, take-append-drop, take_more}
use Rattle.std.proofs.lemmas.Option.{get_or_from_slice_get, slice_get_within}
use Rattle.model_serial.specs.model_kernel.Histories.{Run}
use Rattle.model_serial.specs.model_kernel.Scripts.{Script, locus_named}
use Rattle.model_serial.specs.model_kernel.Serial.{all_loci, looks_of, picks_of, rounds}
use Rattle.model_serial.specs.model_kernel.State.{AtlasState, Text}
use Rattle.model_serial.specs.model_kernel.Steps.{atlas_in}
use Rattle.model_serial.proofs.Histories.{numbers, rounds_append}
use Rattle.model_serial_turns.specs.Turns.{ComeFirst, before_locus, before_pick}

-- PICKS

abbrev pub picked : Option ℕ → List ℕ
picked None = []
picked (Some l) = l ∷ []

picks-cons : (a : AtlasState) (name : Text) (names : List Text) (o : Option ℕ) → locus_named a name ≡ o → picks_of a (name ∷ names) ≡ picked o ++ picks_of a names
picks-cons a name names None is = rw is refl
picks-cons a name names (Some l) is = rw is refl

pub picks-append : (a : AtlasState) (xs ys : List Text) → picks_of a (xs ++ ys) ≡ picks_of a xs ++ picks_of a ys
picks-append a [] ys = refl
picks-append a (x ∷ xs) ys =
    let first = picked (locus_named a x) in
    picks-cons a x (xs ++ ys) (locus_named a x) refl
    ∙ ap (λ ls. first ++ ls) (picks-append a xs ys)
    ∙ sym (append_assoc first (picks_of a xs) (picks_of a ys))
    ∙ ap (λ ls. ls ++ picks_of a ys) (sym (picks-cons a x xs (locus_named a x) refl))

pub pick_more : (script : Script) (r : Run) (i : ℕ) (name : Text) (o : Option ℕ) → slice_get script.order i ≡ Some name → locus_named (atlas_in (r.state 0).cell) name ≡ o
    → before_pick script r (i + 1) ≡ before_pick script r i ++ picked o
pick_more script r i name o here is =
    let a = atlas_in (r.state 0).cell in
    ap (picks_of a) (take_more script.order i name (slice_get_within script.order i name here) ∙ ap (λ x. take i script.order ++ x ∷ []) (get_or_from_slice_get script.order i name name here))
    ∙ picks-append a (take i script.order) (name ∷ [])
    ∙ ap (λ ls. before_pick script r i ++ ls) (picks-cons a name [] o is ∙ append-nil (picked o))

pub all_picked : (script : Script) (r : Run) → before_pick script r (length script.order) ≡ looks_of script r 0
all_picked script r = ap (picks_of (atlas_in (r.state 0).cell)) (take-length script.order) ∙ sym (append-nil (picks_of (atlas_in (r.state 0).cell) script.order))

pub picks_first : (script : Script) (r : Run) (i : ℕ) → ComeFirst script r (before_pick script r i)
picks_first script r i =
    let a = atlas_in (r.state 0).cell in
    let rest = picks_of a (drop i script.order) in
    record {
      rounds_made = 0;
      rest = rest ++ rounds 0;
      front =
          sym (append_assoc (before_pick script r i) rest (rounds 0))
          ∙ ap (λ ls. ls ++ rounds 0) (sym (picks-append a (take i script.order) (drop i script.order)) ∙ ap (picks_of a) (take-append-drop i script.order));
    }

-- ROUNDS

number_at : (from n i : ℕ) → i < n → get_or (numbers from n) i 0 ≡ from + i
number_at from zero i h = absurd (omega (arith, h))
number_at from (suc n) zero h = omega arith
number_at from (suc n) (suc i) h = (let rest = number_at (suc from) n i (omega (arith, h)) in omega (arith, rest))

pub locus_more : (script : Script) (r : Run) (made l : ℕ) → 41 ≤ l → l < 64 → before_locus script r made (l + 1) ≡ before_locus script r made l ++ l ∷ []
locus_more script r made l low high =
    let i = l - 41 in
    let next : l + 1 - 41 ≡ i + 1 = omega (arith, low) in
    let few : i < 23 = omega (arith, low, high) in
    let at : get_or all_loci i 0 ≡ l = number_at 41 23 i few ∙ (let e : 41 + i ≡ l = omega (arith, low) in e) in
    ap (λ k. looks_of script r made ++ take k all_loci) next
    ∙ ap (λ ls. looks_of script r made ++ ls) (take_more all_loci i 0 few ∙ ap (λ k. take i all_loci ++ k ∷ []) at)
    ∙ sym (append_assoc (looks_of script r made) (take i all_loci) (l ∷ []))

round_behind : (script : Script) (r : Run) (made : ℕ) → looks_of script r made ++ all_loci ≡ looks_of script r (made + 1)
round_behind script r made =
    let picks = picks_of (atlas_in (r.state 0).cell) script.order in
    append_assoc picks (rounds made) all_loci ∙ ap (λ ls. picks ++ ls) (sym (rounds_append made 1))

pub rounded : (script : Script) (r : Run) (made : ℕ) → before_locus script r made 64 ≡ looks_of script r (made + 1)
rounded script r made = round_behind script r made

pub loci_first : (script : Script) (r : Run) (made l : ℕ) → ComeFirst script r (before_locus script r made l)
loci_first script r made l = record {
  rounds_made = made + 1;
  rest = drop (l - 41) all_loci;
  front = append_assoc (looks_of script r made) (take (l - 41) all_loci) (drop (l - 41) all_loci) ∙ ap (λ ls. looks_of script r made ++ ls) (take-append-drop (l - 41) all_loci) ∙ round_behind script r made;
}
