-- The words of a line, and the names of a born entity.
use Rattle.std.specs.Prelude.{◌≡◌, ◌==◌, ℕ, Bool, IsTrue}
use Rattle.std.specs.List.{after_first, before_first}
use Rattle.line_text.specs.model_kernel.Soundness.{is_born}
use Rattle.line_text.specs.model_kernel.State.{AtlasState, Text}
use Rattle.line_text.specs.Lines.{name_in}

abbrev pub is_blank : ℕ → Bool
is_blank b = b == 32

-- what stands before the first blank, or all
abbrev pub first_word : Text → Text
first_word text = before_first is_blank text

-- and behind it
abbrev pub rest_words : Text → Text
rest_words text = after_first is_blank text

-- the entity is born, with this name
pub record IsNamed (a : AtlasState) (name : Text) (x : ℕ) : Type 0 where
  pub born : IsTrue (is_born a x)
  pub named : name_in a x ≡ name
