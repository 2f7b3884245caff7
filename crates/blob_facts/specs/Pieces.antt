-- Pieces of spellings, as they are written.
use Rattle.std.specs.Prelude.{ℕ, List, [], ◌∷◌, ◌++◌, codes}
use Rattle.std.specs.List.{flat_map}
use Rattle.byteorder.specs.Endian.{little_bytes}
use Rattle.act_atlas_laws.specs.base_types.Edges.{Edges, upto}
use Rattle.act_atlas_laws.specs.base_types.declared.entities.Kind.{Kind}
use Rattle.act_atlas_laws.specs.base_types.declared.entities.Kind.TheVariants.{Atlas, Container, Locus}
use Rattle.act_atlas_laws.specs.data_atlas_facts.Directory.{Directory}
use Rattle.blob_grammar.specs.Spelling.{Counted, counted, entry_byte}
use Rattle.act_atlas_laws.specs.act_alone.declared.loci.Head.{Head}

-- a container from the kind up to the entry
abbrev pub head_front : Head → List ℕ
head_front h = 1 ∷ little_bytes 2 h.pages ++ (little_bytes 8 h.tag ++ (little_bytes 4 h.every ++ entry_byte h.entry ∷ []))

-- the names of the entities of a kind, in the order of their numbers
abbrev pub names_of : Kind → Directory → List (List ℕ)
names_of Atlas a = codes "atlas" ∷ []
names_of Container a = a.containers
names_of Locus a = a.loci

-- the number of the first of a kind
abbrev pub first_of : Kind → ℕ
first_of Atlas = 0
first_of Container = 1
first_of Locus = 41

-- the edges that count, from one number to those below n
unfoldable pub row_edges : Edges → ℕ → ℕ → List Counted
row_edges edges from n = flat_map (counted edges from) (upto n)

-- and from all numbers below m
unfoldable pub rows_edges : Edges → ℕ → ℕ → List Counted
rows_edges edges m n = flat_map (λ from. flat_map (counted edges from) (upto n)) (upto m)
