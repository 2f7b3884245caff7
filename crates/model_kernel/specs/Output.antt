-- The lines that a history prints.
use Rattle.std.specs.Prelude.{ℕ, ◌-◌, List, [], ◌∷◌, ◌++◌, unwrap_or, slice_get, decimal}
use Rattle.std.specs.List.{flat_map}
use Rattle.base_types.specs.declared.histories.Answer.{Answer}
use Rattle.base_types.specs.declared.histories.Answer.TheVariants.{Quiet, Hop, Reply, Read, Print}
use Rattle.base_types.specs.declared.histories.Entry.{Entry}
use Rattle.model_kernel.specs.State.{Text, AtlasState}

-- the name of a locus
abbrev pub name_of_locus : AtlasState → ℕ → Text
name_of_locus a l = unwrap_or (slice_get a.loci (l - 41)) []

-- a name, a blank, a number, and the end of the line
abbrev pub printed_line : Text → ℕ → Text
printed_line name value = name ++ 32 ∷ decimal value ++ 10 ∷ []

abbrev pub line_by : Text → Answer → Text
line_by name (Print value) = printed_line name value
line_by name Quiet = []
line_by name Hop = []
line_by name (Reply r) = []
line_by name (Read value) = []

-- a line for each printed value
abbrev pub line_of : AtlasState → Entry → Text
line_of a e = line_by (name_of_locus a e.actor) e.answer

-- the printed values of a history in order, each with the name of its locus
abbrev pub output_of : AtlasState → List Entry → Text
output_of a es = flat_map (line_of a) es
