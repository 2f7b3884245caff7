-- A snapshot closes the wish.
use Rattle.std.proofs.Common.{◌≡◌, ℕ, ◌-◌, Bool, true, false, ◌&&◌, ◌||◌, List, refl, sym, ap, subst, ◌∙◌, arith}
use Rattle.std.proofs.lemmas.Bool.{false≢true}
use Rattle.cell_clocks.specs.model_kernel.Histories.{Policy, every_of}
use Rattle.cell_clocks.specs.model_kernel.State.{Supply}
use Rattle.cell_states.specs.declared.cells.Cell.{Cell}
use Rattle.cell_states.specs.declared.cells.Wish.{Wish}
use Rattle.cell_states.specs.Cells.{part_of}
use Rattle.kernel_records.specs.cell_wish_laws.Founded.{IsFoundedCell, IsRecordedNow}
use Rattle.store_snapshots.specs.store_facts.State.{State, books}
use Rattle.kernel_records.specs.Snapping.{has_room, is_snapped}

module _ {D : Type 0} (policy : Policy) (c d : Cell) (old new : State D)
    (none : (s : Supply) (words : ℕ → List ℕ) → is_snapped policy s words c (books old) ≡ false → (d ≡ c) × (new ≡ old))
    (made : (s : Supply) (words : ℕ → List ℕ) → is_snapped policy s words c (books old) ≡ true → IsRecordedNow c d) where
  closed : (s : Supply) (words : ℕ → List ℕ) → IsRecordedNow c d → is_snapped policy s words d (books new) ≡ false
  closed s words h = ap (λ (w : Wish). (w.by_step && policy (every_of (part_of s words d.part)) (d.clock.version - w.newest) || w.asked) && has_room (books new) d.clock.entity) h.wish

  same : (s : Supply) (words : ℕ → List ℕ) → is_snapped policy s words c (books old) ≡ false → is_snapped policy s words d (books new) ≡ false
  same s words is =
      let as_before = none s words is in
      ap (λ (x : Cell). is_snapped policy s words x (books new)) as_before.0 ∙ (ap (λ (y : State D). is_snapped policy s words c (books y)) as_before.1 ∙ is)

  -- no snapshot is made behind it
  pub never_again : (s : Supply) (words : ℕ → List ℕ) → is_snapped policy s words d (books new) ≡ false
  never_again s words = by_test (is_snapped policy s words c (books old)) refl
    where
      by_test : (b : Bool) → is_snapped policy s words c (books old) ≡ b → is_snapped policy s words d (books new) ≡ false
      by_test true is = closed s words (made s words is)
      by_test false is = same s words is

  pub founded_again : Supply → (ℕ → List ℕ) → IsFoundedCell c → IsFoundedCell d
  founded_again s words founded = by_test (is_snapped policy s words c (books old)) refl
    where
      by_test : (b : Bool) → is_snapped policy s words c (books old) ≡ b → IsFoundedCell d
      by_test true is =
          let h = made s words is in
          let newest : d.wish.newest ≡ c.clock.version = ap (λ (w : Wish). w.newest) h.wish in
          let version : d.clock.version ≡ c.clock.version = ap (λ k. k.version) h.same_clock in
          let noted : (d.wish.by_step || d.wish.asked) ≡ false = ap (λ (w : Wish). w.by_step || w.asked) h.wish in
          record { past = omega (arith, newest, version); changed = λ is_noted. absurd (false≢true (sym noted ∙ is_noted)) }
      by_test false is = subst IsFoundedCell (sym (none s words is).0) founded
