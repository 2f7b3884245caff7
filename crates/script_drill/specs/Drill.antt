-- The drill of a number: a script that is drawn from the words of a generator.
use Rattle.std.specs.Prelude.{ℕ, ◌+◌, ◌%◌, ◌==◌, if◌then◌else◌, List, [], ◌∷◌, ◌++◌, Some, codes, decimal}
use Rattle.base_types.specs.declared.instructions.Instr.{Instr}
use Rattle.base_types.specs.declared.instructions.Instr.TheVariants.{Set, Add, Jump, Load, Store, Invoke, Return, Snap, Stabilise, Print}
use Rattle.script_types.specs.model_kernel.State.{Text}
use Rattle.script_types.specs.model_kernel.Scripts.{RegionTable, CapTable, ContainerTable, LocusTable, Script as Tables, atlas_name}
use Rattle.script_drill.specs.Draws.{Words, Drawn, rest, one_drawn, two_drawn, each, words_numbered}

abbrev pub container_name : ℕ → Text
container_name c = codes "c" ++ decimal c

abbrev pub locus_name : ℕ → Text
locus_name l = codes "l" ++ decimal l

-- PROGRAMS

-- the instruction of a kind, with its operands: registers below 6, and register 6 for slots of capabilities
unfoldable pub of_kind : ℕ → Words → Drawn Instr
of_kind kind ws =
    if kind == 0 then two_drawn 6 2048 (λ x v. Set x v) ws
    else if kind == 1 then two_drawn 6 6 (λ x y. Add x y) ws
    else if kind == 2 then two_drawn 6 6 (λ x y. Load x y) ws
    else if kind == 3 then two_drawn 6 6 (λ x y. Store x y) ws
    else if kind == 4 then one_drawn 13 (λ v. Set 6 v) ws
    else if kind == 5 then (Invoke 6, ws)
    else if kind == 6 then (Return, ws)
    else if kind == 7 then one_drawn 6 (λ x. Print x) ws
    else if kind == 8 then (Snap 6, ws)
    else (Stabilise 6, ws)

-- an instruction: one of ten kinds
abbrev pub instruction : Words → Drawn Instr
instruction ws = of_kind (ws 0 % 10) (rest ws)

-- 39 instructions, and the jump to the first
abbrev pub program : Words → Drawn (List Instr)
program ws = ((each (λ _. instruction) 39 ws).0 ++ Jump 0 ∷ [], (each (λ _. instruction) 39 ws).1)

-- CONTAINERS

-- page 0 shows page 0 of an earlier container
abbrev pub region_onto : ℕ → RegionTable
region_onto target = record { at = 0; target = container_name target; from = 0; count = 1; rights = 3 }

-- a region or none for container c; none for the first
unfoldable pub regions : ℕ → Words → Drawn (List RegionTable)
regions c ws =
    if c == 0 then ([], ws)
    else if ws 0 % 2 == 1 then (region_onto (ws 1 % c) ∷ [], rest (rest ws))
    else ([], rest ws)

-- container c, of 1 to 16 pages
unfoldable pub container : ℕ → Words → Drawn ContainerTable
container c ws =
    let shown = regions c (rest (rest (rest ws))) in
    let code = program shown.1 in
    (record { name = container_name c; pages = 1 + ws 0 % 16; tag = ws 1 % 1000; every = ws 2 % 40; code = code.0; entry = Some 0; regions = shown.0; caps = [] }, code.1)

-- LOCI

-- any rights on container c
abbrev pub cap_on : ℕ → Words → Drawn CapTable
cap_on c = one_drawn 128 (λ rights. record { entity = container_name c; rights = rights })

-- a capability on each container, and one to make all stable on the atlas
abbrev pub caps : Words → Drawn (List CapTable)
caps ws = ((each cap_on 12 ws).0 ++ record { entity = atlas_name; rights = 128 } ∷ [], (each cap_on 12 ws).1)

-- locus l, at the first instruction of any container
unfoldable pub locus : ℕ → Words → Drawn LocusTable
locus l ws =
    (record { name = locus_name l; host = container_name (ws 0 % 12); at = 0; every = ws 1 % 40; caps = (caps (rest (rest ws))).0 }, (caps (rest (rest ws))).1)

-- THE SCRIPT: twelve containers and then six loci, drawn from the words
unfoldable pub drill_of : Words → Tables
drill_of ws =
    let containers = each container 12 ws in
    record { steps = 5000; order = []; containers = containers.0; loci = (each locus 6 containers.1).0 }

-- the drill of this number
abbrev pub drill : ℕ → Tables
drill n = drill_of (words_numbered n)
