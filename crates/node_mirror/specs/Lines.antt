-- The line between the two nodes.
use Rattle.std.specs.Prelude.{ℕ, List}
use Rattle.drawn_words.specs.Words.{words_of}
use Rattle.node_mirror.specs.declared.lines.Line.{Line}
use Rattle.node_rounds.specs.Going.{GoesBy}

-- ROUNDS WERE MADE over it as they are drawn, before each of which so many were offered
abbrev pub Runs : {E : Type 0} → List ℕ → Line E → Line E → Type 0
Runs offers old new = GoesBy old.loss offers (words_of old.words) (words_of new.words) old.sender new.sender old.standby new.standby
