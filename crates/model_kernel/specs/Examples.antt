-- Small scripts, and what runs of them give by hand.
use Rattle.std.specs.Prelude.{ℕ, zero, suc, ◌+◌, ◌*◌, ◌%◌, ◌^◌, true, false, List, [], ◌∷◌, filter_map, Option, Some, None, codes}
use Rattle.base_types.specs.declared.capabilities.Right.TheVariants.{Write}
use Rattle.base_types.specs.declared.histories.Answer.{Answer}
use Rattle.base_types.specs.declared.histories.Answer.TheVariants.{Quiet, Hop, Reply as Replied, Read, Print as Printed}
use Rattle.base_types.specs.declared.histories.Entry.{Entry}
use Rattle.base_types.specs.declared.histories.Event.TheVariants.{Birth, Step, Stable}
use Rattle.base_types.specs.declared.histories.Touch.{Touch}
use Rattle.base_types.specs.declared.instructions.Instr.{Instr}
use Rattle.base_types.specs.declared.instructions.Instr.TheVariants.{Set, Load, Store, Invoke, Return, Map, Lmap, Print, Halt}
use Rattle.base_types.specs.declared.instructions.Reply.TheVariants.{Ok, Denied}
use Rattle.model_kernel.specs.State.{Supply, Text, empty_state}
use Rattle.model_kernel.specs.Refusals.{rights_with}
use Rattle.model_kernel.specs.Scripts.{RegionTable, CapTable, ContainerTable, LocusTable, Script}
use Rattle.model_kernel.specs.Histories.{mark}
use Rattle.model_kernel.specs.Serial.{serial_with}

-- no word for tag 0, and else the tag and the place counted over the pages
abbrev pub counting_supply : Supply
counting_supply zero page place = 0
counting_supply (suc tag) page place = (suc tag + page * 128 + place) % 2 ^ 64

-- the serial history of a script from nothing, with this many rounds
abbrev pub played : Script → ℕ → List Entry
played script n = serial_with counting_supply script empty_state n

abbrev pub value_of : Answer → Option ℕ
value_of (Printed v) = Some v
value_of answer = None

-- the values that are printed
abbrev pub prints : Script → ℕ → List ℕ
prints script n = filter_map (λ e. value_of e.answer) (played script n)

-- TABLES

abbrev pub container : Text → ℕ → List Instr → List RegionTable → ContainerTable
container name tag code regions = record { name = name; pages = 1; tag = tag; every = 0; code = code; entry = None; regions = regions; caps = [] }

abbrev pub with_entry : ContainerTable → ℕ → ContainerTable
with_entry t place = record t { entry = Some place }

abbrev pub locus_in_host : Text → Text → List CapTable → LocusTable
locus_in_host name host caps = record { name = name; host = host; at = 0; every = 0; caps = caps }

abbrev pub cap_on : Text → ℕ → CapTable
cap_on name rights = record { entity = name; rights = rights }

-- page 0 shows page 0 of another container
abbrev pub first_page_of : Text → ℕ → RegionTable
first_page_of name rights = record { at = 0; target = name; from = 0; count = 1; rights = rights }

abbrev pub with_tables : List ContainerTable → List LocusTable → Script
with_tables containers loci = record { steps = 100; order = []; containers = containers; loci = loci }

abbrev pub a : Text
a = codes "a"

abbrev pub b : Text
b = codes "b"

abbrev pub c : Text
c = codes "c"

abbrev pub h : Text
h = codes "h"

abbrev pub l : Text
l = codes "l"

-- ENTRIES

abbrev pub written_at : ℕ → ℕ → Touch
written_at x version = record { version = version; entity = x; wrote = true }

abbrev pub read_at : ℕ → ℕ → Touch
read_at x version = record { version = version; entity = x; wrote = false }

abbrev pub born_with : ℕ → List Touch → Entry
born_with x touched = record { event = Birth; actor = x; touched = touched; version = 0; answer = Quiet }

abbrev pub stepped : List Touch → Answer → Entry
stepped touched answer = record { event = Step; actor = 41; touched = touched; version = 0; answer = answer }

-- A STORE, A LOAD AND A PRINT

abbrev pub five_instructions : Script
five_instructions = with_tables (container a 0 (Set 0 5 ∷ Store 1 0 ∷ Load 2 1 ∷ Print 2 ∷ Halt ∷ []) [] ∷ []) (locus_in_host l a [] ∷ [])

abbrev pub five_entries : List Entry
five_entries =
    born_with 1 (written_at 0 1 ∷ written_at 1 1 ∷ [])
    ∷ born_with 41 (written_at 0 2 ∷ written_at 1 2 ∷ written_at 41 1 ∷ [])
    ∷ mark Stable 0 0
    ∷ stepped (written_at 41 2 ∷ []) Quiet
    ∷ stepped (written_at 1 3 ∷ written_at 41 3 ∷ []) (Replied Ok)
    ∷ stepped (read_at 1 3 ∷ written_at 41 4 ∷ []) (Read 5)
    ∷ stepped (written_at 41 5 ∷ []) (Printed 5)
    ∷ stepped (written_at 41 6 ∷ []) Quiet
    ∷ []

-- A WALK THROUGH TWO REGIONS, the second of which may not be written through

abbrev pub two_regions : Script
two_regions = with_tables
    (container c 0 [] [] ∷ container b 0 [] (first_page_of c 1 ∷ []) ∷ container a 0 (Store 0 1 ∷ Print 7 ∷ Halt ∷ []) (first_page_of b 3 ∷ []) ∷ [])
    (locus_in_host l a [] ∷ [])

abbrev pub two_regions_entries : List Entry
two_regions_entries =
    born_with 1 (written_at 0 1 ∷ written_at 1 1 ∷ [])
    ∷ born_with 2 (written_at 0 2 ∷ written_at 2 1 ∷ [])
    ∷ born_with 3 (written_at 0 3 ∷ written_at 3 1 ∷ [])
    ∷ born_with 41 (written_at 0 4 ∷ written_at 3 2 ∷ written_at 41 1 ∷ [])
    ∷ mark Stable 0 0
    ∷ stepped (read_at 3 2 ∷ written_at 41 2 ∷ []) Hop
    ∷ stepped (read_at 2 1 ∷ written_at 41 3 ∷ []) (Replied (Denied Write))
    ∷ stepped (written_at 41 4 ∷ []) (Printed 17)
    ∷ stepped (written_at 41 5 ∷ []) Quiet
    ∷ []

-- MAPPINGS OF WHICH THE LAST TWO WOULD CLOSE A CIRCLE

abbrev pub read_only : ℕ → ℕ → ℕ → Instr
read_only into at target = Map into at target 6 5 (rights_with 1)

abbrev pub closing_circles : Script
closing_circles = with_tables
    (
    record (container a 0 [] []) { pages = 2 } ∷ container b 0 [] [] ∷ container c 0 [] []
    ∷ container h 0 (
    Set 5 1 ∷ Set 1 1 ∷ Set 2 2
    ∷ read_only 0 6 1 ∷ Print 7 ∷ read_only 1 6 2 ∷ Print 7 ∷ read_only 2 6 0 ∷ Print 7 ∷ read_only 0 1 0 ∷ Print 7 ∷ Halt ∷ []
    ) [] ∷ []
    )
    (locus_in_host l h (cap_on a 9 ∷ cap_on b 9 ∷ cap_on c 9 ∷ []) ∷ [])

-- A PRIVATE REGION, which does not count in another host

abbrev pub d : Text
d = codes "d"

abbrev pub private_in_one_host : Script
private_in_one_host = with_tables
    (
    container c 2000 [] []
    ∷ with_entry (container d 3000 (Load 1 0 ∷ Print 1 ∷ Return ∷ []) []) 0
    ∷ container a 0 (
    Set 5 1 ∷ Lmap 2 3 4 5 (rights_with 1) ∷ Load 1 0 ∷ Print 1 ∷ Set 6 1 ∷ Invoke 6 ∷ Load 1 0 ∷ Print 1 ∷ Halt ∷ []
    ) [] ∷ []
    )
    (locus_in_host l a (cap_on c 1 ∷ cap_on d 4 ∷ []) ∷ [])
