-- A step over lent cells is one over the table.
use Rattle.std.proofs.Common.{◌≡◌, inl, inr, ℕ, List, slice_get, Option, Some, None, refl, sym, ap, ◌∙◌, subst}
use Rattle.cell_steps.specs.base_types.declared.histories.Entry.{Entry}
use Rattle.cell_steps.specs.model_kernel.Histories.{Run, after_step, goes_on, locus_in, writes}
use Rattle.cell_steps.specs.model_kernel.LocalEvents.{touch_at}
use Rattle.cell_steps.specs.model_kernel.Scripts.{Script}
use Rattle.cell_steps.specs.model_kernel.State.{Supply}
use Rattle.cell_steps.specs.model_kernel.Steps.{step}
use Rattle.cell_steps.specs.cell_states.declared.cells.Cell.{Cell}
use Rattle.cell_steps.specs.cell_states.Cells.{HasCell, part_of}
use Rattle.cell_steps.specs.cell_states.Wishes.{HasWish}
use Rattle.cell_step_laws.proofs.cell_wish_laws_lemmas.Going.{unwritten_wish, wish_left}
use Rattle.cell_steps.specs.Advances.{HasCells, StepsCells}
use Rattle.table_laws.specs.Tables.{AreNumbered, HasTableWishes, entity_by, entity_in, state_in}
use Rattle.table_laws.specs.Lending.{ForPairs, IsApart, Lends}
use Rattle.table_laws.proofs.Having.{each_has, each_wishes, is_entity, raised_cells, state_has_all, wishes_all}
use Rattle.table_laws.proofs.Lent.{spot}
use Rattle.table_laws.proofs.Untouched.{raised, untouched, untouched_stays, untouched_unwritten}
use Rattle.std.proofs.lemmas.Option.{same_Some}

module _ (s : Supply) (words words' : ℕ → List ℕ) (me : ℕ) (cs cs' old new : List Cell) (e : Entry)
    (steps : StepsCells s words words' me old new e) (lends : Lends cs cs' old new) (numbers : AreNumbered cs)
    (others : (x : ℕ) (c : Cell) → slice_get cs x ≡ Some c → IsApart x old → part_of s words' c.part ≡ part_of s words c.part) where
  had : HasCells s words (state_in s words cs) old
  had = state_has_all s words cs old lends.stood

  pub apart_untouched : (z : ℕ) → IsApart z old → touch_at e.touched z ≡ None
  apart_untouched z apart =
      let made = steps.step (state_in s words cs) had in
      let again = steps.step (raised (state_in s words cs) z) (raised_cells s words (state_in s words cs) z old apart had) in
      untouched s me (state_in s words cs) made.0 again.0 e z made.1 again.1

  same_entity : (x : ℕ) → IsApart x old → (o : Option Cell) → slice_get cs x ≡ o → entity_in s words x o ≡ entity_in s words' x o
  same_entity x apart (Some c) is = λ i. record { cell = sym (others x c is apart) i; version = c.clock.version; stamp = (entity_by s words c).stamp }
  same_entity x apart None is = refl

  goes_at : (x : ℕ) → (steps.step (state_in s words cs) had).0 x ≡ state_in s words' cs' x
  goes_at x =
      let made = steps.step (state_in s words cs) had in
      let w = state_in s words cs in
      elim (spot (λ c d. HasCell s words' made.0 d) cs cs' x old new lends (each_has s words' made.0 old new lends.numbers made.2)) as (λ _. made.0 x ≡ state_in s words' cs' x) [
        | inl k ↦ ap made.0 (sym k.at_after) ∙ is_entity s words' made.0 k.after k.holds ∙ ap (entity_in s words' x) (sym k.is)
        | inr k ↦ untouched_stays s me w made.0 e x made.1 (apart_untouched x k.apart) ∙ same_entity x k.apart (slice_get cs x) refl ∙ ap (entity_in s words' x) (sym k.same)
      ]

  pub table_steps : step s me (state_in s words cs) ≡ Some (e, state_in s words' cs')
  table_steps = (steps.step (state_in s words cs) had).1 ∙ (λ i. Some (e, λ x. goes_at x i))

  -- WISHES
  module _ (count : ℕ) (script : Script) (r : Run) (at : r.state ≡ state_in s words cs) (wishes : HasTableWishes count r cs) where
    made : step s me r.state ≡ Some (e, state_in s words' cs')
    made = ap (step s me) at ∙ table_steps

    lent_wishes : ForPairs (λ c d. HasWish count (after_step r e (locus_in (r.state me).cell) (state_in s words' cs')) d) old new
    lent_wishes = each_wishes count (after_step r e (locus_in (r.state me).cell) (state_in s words' cs')) old new lends.numbers
        (steps.wishes count r (state_in s words' cs') (subst (λ w. HasCells s words w old) (sym at) had) (wishes_all count r cs old lends.stood wishes))

    pub table_wishes : HasTableWishes count (goes_on s script r e) cs'
    table_wishes x d is =
        elim (spot (λ c d. HasWish count (after_step r e (locus_in (r.state me).cell) (state_in s words' cs')) d) cs cs' x old new lends lent_wishes) as (λ _. HasWish count (goes_on s script r e) d) [
          | inl k ↦ subst (HasWish count (goes_on s script r e)) (same_Some k.after d (sym k.is ∙ is)) (wish_left s script r me e (state_in s words' cs') made count k.after k.holds)
          | inr k ↦ (
              let here = sym k.same ∙ is in
              unwritten_wish s script r me e (state_in s words' cs') made d
              (ap (writes e) (numbers.each x d here) ∙ untouched_unwritten e x (apart_untouched x k.apart)) count (wishes x d here))
        ]
