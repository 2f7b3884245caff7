-- Tables some of whose cells are lent.
use Rattle.std.proofs.Common.{◌≡◌, ◌⊎◌, inl, inr, ℕ, ◌≤◌, true, false, ◌==◌, List, [], ◌∷◌, length, slice_get, Some, refl, sym, ap, ◌∙◌, eqb-true, eq-eqb, arith}
use Rattle.std.specs.List.{list_any}
use Rattle.cell_steps.specs.cell_states.declared.cells.Cell.{Cell}
use Rattle.table_laws.specs.Lending.{ForPairs, IsApart, IsSameNumber, Lends, StandIn}
use Rattle.table_laws.specs.Steps.{ChangesThree}
use Rattle.std.proofs.lemmas.Bool.{false≢true, or_parts}

-- the cell at this number is one of those lent
pub record IsLent (R : Cell → Cell → Type 0) (cs cs' : List Cell) (x : ℕ) : Type 0 where
  pub before : Cell
  pub after : Cell
  pub was : slice_get cs x ≡ Some before
  pub is : slice_get cs' x ≡ Some after
  pub at_before : before.clock.entity ≡ x
  pub at_after : after.clock.entity ≡ x
  pub holds : R before after

-- or it stays
pub record IsLeft (cs cs' old : List Cell) (x : ℕ) : Type 0 where
  pub same : slice_get cs' x ≡ slice_get cs x
  pub apart : IsApart x old

module _ (R : Cell → Cell → Type 0) (cs cs' : List Cell) (x : ℕ) where
  by_cells : (old new : List Cell) → ForPairs R old new → ForPairs IsSameNumber old new → StandIn cs old → StandIn cs' new → IsLent R cs cs' x ⊎ IsApart x old
  by_cells [] [] holds numbers stood stand = inr tt
  by_cells (c ∷ old) (d ∷ new) holds numbers stood stand =
      elim (x == c.clock.entity) as (λ b. (x == c.clock.entity) ≡ b → IsLent R cs cs' x ⊎ IsApart x (c ∷ old)) [
        | true ↦ λ is. (let here = eqb-true x c.clock.entity is in inl (record {
          before = c;
          after = d;
          was = ap (slice_get cs) here ∙ stood.0;
          is = ap (slice_get cs') (here ∙ sym numbers.0) ∙ stand.0;
          at_before = sym here;
          at_after = numbers.0 ∙ sym here;
          holds = holds.0;
        }))
        | false ↦ λ is. elim (by_cells old new holds.1 numbers.1 stood.1 stand.1) as (λ _. IsLent R cs cs' x ⊎ IsApart x (c ∷ old)) [
          | inl lent ↦ inl lent
          | inr apart ↦ inr ((λ e. absurd (false≢true (sym is ∙ eq-eqb x c.clock.entity e))), apart)
        ]
      ] refl
  by_cells [] (d ∷ new) holds numbers stood stand = absurd holds
  by_cells (c ∷ old) [] holds numbers stood stand = absurd holds

  pub spot : (old new : List Cell) → Lends cs cs' old new → ForPairs R old new → IsLent R cs cs' x ⊎ IsLeft cs cs' old x
  spot old new lends holds = elim (by_cells old new holds lends.numbers lends.stood lends.stand) as (λ _. IsLent R cs cs' x ⊎ IsLeft cs cs' old x) [
    | inl lent ↦ inl lent
    | inr apart ↦ inr (record { same = lends.others x apart; apart = apart })
  ]

-- at most three cells that are lent are all that changes
numbers_of : List Cell → List ℕ
numbers_of [] = []
numbers_of (c ∷ cs) = c.clock.entity ∷ numbers_of cs

as_many : (old : List Cell) → length (numbers_of old) ≡ length old
unfolding numbers_of
as_many [] = refl
as_many (c ∷ old) = let rest = as_many old in omega (arith, rest)

apart_by : (x : ℕ) (old : List Cell) → list_any (λ y. y == x) (numbers_of old) ≡ false → IsApart x old
unfolding numbers_of
apart_by x [] none = tt
apart_by x (c ∷ old) none =
    let both = or_parts (c.clock.entity == x) (list_any (λ y. y == x) (numbers_of old)) none in
    ((λ e. absurd (false≢true (sym both.0 ∙ eq-eqb c.clock.entity x (sym e)))), apart_by x old both.1)

pub lent_three : (cs cs' old new : List Cell) → Lends cs cs' old new → length old ≤ 3 → ChangesThree cs cs'
lent_three cs cs' old new lends few = record {
  changed = numbers_of old;
  few = (let same = as_many old in omega (arith, same, few));
  others = λ x none. lends.others x (apart_by x old none);
}
