-- The clock's choice of a victim is one.
use Rattle.std.proofs.Common.{◌≡◌, ◌⊎◌, ℕ, true, false, Some, Option, sym, ap, ◌∙◌, inl, inr, arith}
use Rattle.std.proofs.lemmas.Bool.{cases_Bool}
use Rattle.std.proofs.lemmas.Bool.Decides.{nat_tests}
use Rattle.std.proofs.lemmas.Option.{same_Some}
use Rattle.data_frames.specs.FrameTable.{FrameTable, GoesRound, IsVictim, Passes, comes_before, page_in}

-- of two frames one comes before the other, or they are one
one_frame : (hand a b : ℕ) → comes_before hand a b ≡ false → comes_before hand b a ≡ false → a ≡ b
one_frame hand a b first second = grind (arith, nat_tests)

module _ (old : FrameTable) where
  -- the hand passes no frame of an unused page
  not_passed : (f p g q : ℕ) (new new' : FrameTable) → page_in old f ≡ Some p → Passes f p old new → Passes g q old new' → comes_before old.hand f g ≡ false
  not_passed f p g q new new' at mine other = elim (cases_Bool (comes_before old.hand f g)) [
    | inl before ↦ let clash : true ≡ false = sym (other.passed f p at before).0 ∙ mine.unused in absurd (cc clash)
    | inr not ↦ not
  ]

  -- two choices from the same frames are one page
  pub victim_once : (p q : ℕ) (new new' : FrameTable) → IsVictim p old new → IsVictim q old new' → p ≡ q
  victim_once p q new new' first second = same_Some p q (sym first.at ∙ ap (page_in old) (frames first.chosen second.chosen) ∙ second.at)
    where
      frames : (Passes first.frame p old new ⊎ GoesRound first.frame old new) → (Passes second.frame q old new' ⊎ GoesRound second.frame old new') → first.frame ≡ second.frame
      frames (inl a) (inl b) = one_frame old.hand first.frame second.frame (not_passed first.frame p second.frame q new new' first.at a b) (not_passed second.frame q first.frame p new' new second.at b a)
      frames (inl a) (inr b) = let clash : true ≡ false = sym (b.all_used first.frame p first.at).0 ∙ a.unused in absurd (cc clash)
      frames (inr a) (inl b) = let clash : true ≡ false = sym (a.all_used second.frame q second.at).0 ∙ b.unused in absurd (cc clash)
      frames (inr a) (inr b) = one_frame old.hand first.frame second.frame (b.first first.frame p first.at) (a.first second.frame q second.at)
