-- Where text is left behind the last letter, there is no set.
use Rattle.std.proofs.Common.{◌≡◌, ℕ, false, ◌==◌, [], ◌∷◌, length, None, refl, sym, ◌∙◌, codes}
use Rattle.std.proofs.lemmas.Bool.{false≢true}
use Rattle.script_types.specs.model_kernel.State.{Text}
use Rattle.base_instructions.specs.Reader.{letters_set}
use Rattle.script_reading.proofs.strings.letters_set.Goals as goal

none_left : (bit set : ℕ) (text : Text) → (length text == 0) ≡ false → None ≡ letters_set [] bit set text
none_left bit set [] h = absurd (false≢true (sym h))
none_left bit set (b ∷ text) h = refl

pub returns-else-is_empty : goal.returns-else-is_empty
returns-else-is_empty c =
    none_left 256 _ _ (sym c.is_empty.ensures ∙ c.if-is_empty.false)
    ∙ c.with_letter-set-8.ensures.step []
    ∙ c.with_letter-set-7.ensures.step (codes "t")
    ∙ c.with_letter-set-6.ensures.step (codes "kt")
    ∙ c.with_letter-set-5.ensures.step (codes "skt")
    ∙ c.with_letter-set-4.ensures.step (codes "cskt")
    ∙ c.with_letter-set-3.ensures.step (codes "mcskt")
    ∙ c.with_letter-set-2.ensures.step (codes "imcskt")
    ∙ c.with_letter-set.ensures.step (codes "wimcskt")
