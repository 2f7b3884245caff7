-- A word behind a blank.
use Rattle.std.proofs.Common.{◌≡◌, [], ◌∷◌, ◌++◌, append_assoc, ap, ◌∙◌}
use Rattle.model_kernel.specs.State.{Text}
use Rattle.line_text.specs.Lines.{word}

-- a blank, and then the word
pub behind_blank : (front blank text : Text) → blank ≡ 32 ∷ [] → (front ++ blank) ++ text ≡ front ++ word text
unfolding word
behind_blank front blank text is = append_assoc front blank text ∙ ap (λ (b : Text). front ++ (b ++ text)) is
