-- Pieces of a line, put one after another.
use Rattle.std.proofs.Common.{◌++◌, ℕ, List, [], ◌∷◌, Option}
use Rattle.std.specs.Io.KnownBytes.{Appends}
use Rattle.std.proofs.KnownBytes.{Appends-trans}
use Rattle.edge_streams.specs.Streams.{AppendsPart}
use Rattle.edge_streams.proofs.Streams.{AppendsPart-after, AppendsPart-more}
use Rattle.command_outcomes.specs.Faults.{line}

module _ (a b c d : Option (List ℕ)) (front middle rest : List ℕ) (one : Appends a b front) (two : Appends b c middle) where
  -- a front of the third piece was put
  pub third_part : AppendsPart c d rest → AppendsPart a d (line (front ++ middle ++ rest))
  third_part part =
      AppendsPart-more a d (front ++ middle ++ rest) (10 ∷ []) (AppendsPart-after a c d (front ++ middle) rest (Appends-trans a b c front middle one two) part)

  -- all three were put, and a front of the end of the line
  pub end_part : (e : Option (List ℕ)) → Appends c d rest → AppendsPart d e (10 ∷ []) → AppendsPart a e (line (front ++ middle ++ rest))
  end_part e all part =
      AppendsPart-after a d e (front ++ middle ++ rest) (10 ∷ []) (Appends-trans a c d (front ++ middle) rest (Appends-trans a b c front middle one two) all) part
