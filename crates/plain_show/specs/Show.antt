-- What is shown of a state: its containers, and then its loci, each by its lines.
use Rattle.std.specs.Prelude.{ℕ, ◌+◌, ◌*◌, ◌==◌, if◌then◌else◌, List, [], ◌++◌, Option, Some, None, codes, decimal, length}
use Rattle.std.specs.List.{flat_map}
use Rattle.base_types.specs.Edges.{upto}
use Rattle.base_types.specs.declared.capabilities.Cap.{Cap}
use Rattle.base_types.specs.declared.capabilities.Private.{Private}
use Rattle.base_types.specs.declared.capabilities.Region.{Region}
use Rattle.base_types.specs.declared.instructions.Call.{Call}
use Rattle.base_types.specs.declared.instructions.Walk.{Walk}
use Rattle.plain_states.specs.model_kernel.Outcomes.{supplied}
use Rattle.plain_states.specs.model_kernel.State.{Supply, Text, AtlasState, ContainerState, LocusState, Cell, NotBorn, AtlasCell, ContainerCell, LocusCell}
use Rattle.plain_states.specs.model_kernel.Steps.{atlas_in}
use Rattle.plain_states.specs.model_kernel.Words.{cap_at}
use Rattle.base_instructions.specs.Spelling.{rights}
use Rattle.line_text.specs.Lines.{line_end, name_in, word}
use Rattle.plain_show.specs.Lines.{condition_word, named, optional}

-- PARTS OF BOTH KINDS

-- at which page, onto which container from which page, how many pages, and the access
abbrev pub region_words : AtlasState → Region → Text
region_words a r = word (decimal r.at) ++ word (name_in a r.target) ++ word (decimal r.from) ++ word (decimal r.count) ++ word (rights r.rights.0)

abbrev pub cap_line : AtlasState → ℕ → ℕ → Option Cap → Text
cap_line a x slot None = []
cap_line a x slot (Some cap) = named a (codes "cap") x ++ word (decimal slot) ++ word (name_in a cap.entity) ++ word (rights cap.rights.0) ++ line_end

-- a line for each slot that has a capability
abbrev pub cap_lines : AtlasState → ℕ → List (Option Cap) → Text
cap_lines a x caps = flat_map (λ slot. cap_line a x slot (cap_at caps slot)) (upto (length caps))

-- A CONTAINER

abbrev pub container_line : AtlasState → ℕ → ContainerState → Text
container_line a x c = named a (codes "container") x ++ word (decimal c.pages) ++ word (decimal c.tag) ++ word (decimal c.every) ++ word (optional c.entry) ++ line_end

abbrev pub region_line : AtlasState → ℕ → Region → Text
region_line a x r = named a (codes "region") x ++ region_words a r ++ line_end

-- the word at an address, if it differs from the supplier's
abbrev pub changed_word : Supply → ContainerState → ℕ → Option ℕ
changed_word s c address = if c.words address == supplied s c.tag address then None else Some (c.words address)

abbrev pub word_line_by : AtlasState → ℕ → ℕ → Option ℕ → Text
word_line_by a x address None = []
word_line_by a x address (Some value) = named a (codes "word") x ++ word (decimal address) ++ word (decimal value) ++ line_end

abbrev pub word_line : Supply → AtlasState → ℕ → ContainerState → ℕ → Text
word_line s a x c address = word_line_by a x address (changed_word s c address)

abbrev pub container_lines : Supply → AtlasState → ℕ → ContainerState → Text
container_lines s a x c = container_line a x c ++ flat_map (region_line a x) c.regions ++ cap_lines a x c.caps ++ flat_map (word_line s a x c) (upto (128 * c.pages))

-- A LOCUS

abbrev pub locus_front : AtlasState → ℕ → LocusState → Text
locus_front a x l = named a (codes "locus") x ++ word (name_in a l.host) ++ word (decimal l.place) ++ word (condition_word l.condition) ++ word (decimal l.every)

abbrev pub register_words : List ℕ → Text
register_words registers = flat_map (λ value. word (decimal value)) registers

abbrev pub locus_line : AtlasState → ℕ → LocusState → Text
locus_line a x l = locus_front a x l ++ register_words l.registers ++ line_end

abbrev pub printed_line : AtlasState → ℕ → ℕ → Text
printed_line a x printed = if printed == 0 then [] else named a (codes "printed") x ++ word (decimal printed) ++ line_end

abbrev pub private_line : AtlasState → ℕ → Private → Text
private_line a x p = named a (codes "private") x ++ word (name_in a p.made) ++ region_words a p.region ++ line_end

abbrev pub call_line : AtlasState → ℕ → Call → Text
call_line a x call = named a (codes "call") x ++ word (name_in a call.container) ++ word (decimal call.place) ++ line_end

abbrev pub walk_line : AtlasState → ℕ → Option Walk → Text
walk_line a x None = []
walk_line a x (Some walk) = named a (codes "walk") x ++ word (name_in a walk.at) ++ word (decimal walk.address) ++ word (decimal walk.hops) ++ line_end

abbrev pub locus_lines : AtlasState → ℕ → LocusState → Text
locus_lines a x l =
    locus_line a x l ++ printed_line a x l.printed ++ flat_map (private_line a x) l.privates ++ flat_map (call_line a x) l.chain ++ walk_line a x l.walk ++ cap_lines a x l.caps

-- ALL

abbrev pub cell_lines : Supply → AtlasState → ℕ → Cell → Text
cell_lines s a x NotBorn = []
cell_lines s a x (AtlasCell b) = []
cell_lines s a x (ContainerCell c) = container_lines s a x c
cell_lines s a x (LocusCell l) = locus_lines a x l

-- the lines of the entity of this number
abbrev pub entity_lines : Supply → AtlasState → (ℕ → Cell) → ℕ → Text
entity_lines s a cells x = cell_lines s a x (cells x)

abbrev pub shown_by : Supply → AtlasState → (ℕ → Cell) → Text
shown_by s a cells =
    flat_map (λ i. entity_lines s a cells (i + 1)) (upto (length a.containers)) ++ flat_map (λ i. entity_lines s a cells (i + 41)) (upto (length a.loci))

-- THE TEXT that is shown of a state
abbrev pub shown : Supply → (ℕ → Cell) → Text
shown s cells = shown_by s (atlas_in (cells 0)) cells
