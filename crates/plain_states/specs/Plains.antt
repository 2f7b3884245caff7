-- What the plain structs are in the model.
use Rattle.std.specs.Prelude.{ℕ, ◌-◌, ◌/◌, ◌%◌, ◌&&◌, ◌==◌, nat_lt, if◌then◌else◌, List, [], ◌∷◌, map, slice_get, Option, Some, None, unwrap_or, string_bytes}
use Rattle.std.specs.BTreeMap.{get}
use Rattle.std.specs.Ordering.{nat_cmp}
use Rattle.model_kernel.specs.State.{Supply, AtlasState, ContainerState, LocusState, Cell, NotBorn, AtlasCell, ContainerCell, LocusCell}
use Rattle.plain_states.specs.declared.plain.Edge.{Edge}
use Rattle.plain_states.specs.declared.plain.Plain.{Plain}
use Rattle.plain_states.specs.declared.plain.PlainAtlas.{PlainAtlas}
use Rattle.plain_states.specs.declared.plain.PlainContainer.{PlainContainer}
use Rattle.plain_states.specs.declared.plain.PlainLocus.{PlainLocus}

-- how many regions of d the container c shows
abbrev pub edges_of : List Edge → ℕ → ℕ → ℕ
edges_of [] c d = 0
edges_of (e ∷ es) c d = if e.from == c && e.to == d then e.count else edges_of es c d

abbrev pub atlas_of : PlainAtlas → AtlasState
atlas_of p = record { containers = map string_bytes p.containers.items; loci = map string_bytes p.loci.items; edges = edges_of p.edges.items }

abbrev pub container_of : Supply → PlainContainer → ContainerState
container_of s p = record {
  pages = p.pages;
  tag = p.tag;
  every = p.every;
  entry = p.entry;
  code = p.code.items;
  regions = p.regions.items;
  caps = p.caps.items;
  words = λ address. unwrap_or (get nat_cmp p.words address) (s p.tag (address / 128) (address % 128));
}

abbrev pub locus_of : PlainLocus → LocusState
locus_of p = record {
  registers = p.registers;
  place = p.place;
  code = p.code.items;
  host = p.host;
  chain = p.chain.items;
  privates = p.privates.items;
  caps = p.caps.items;
  walk = p.walk;
  condition = p.condition;
  every = p.every;
  printed = p.printed;
}

abbrev pub container_cell : Supply → Option PlainContainer → Cell
container_cell s None = NotBorn
container_cell s (Some c) = ContainerCell (container_of s c)

abbrev pub locus_cell : Option PlainLocus → Cell
locus_cell None = NotBorn
locus_cell (Some l) = LocusCell (locus_of l)

abbrev pub cells_by : Supply → AtlasState → List PlainContainer → List PlainLocus → ℕ → Cell
cells_by s a cs ls x =
    if x == 0 then AtlasCell a else if nat_lt x 41 then container_cell s (slice_get cs (x - 1)) else locus_cell (slice_get ls (x - 41))

-- what each entity is
abbrev pub cells_of : Supply → Plain → ℕ → Cell
cells_of s p = cells_by s (atlas_of p.atlas) p.containers.items p.loci.items
