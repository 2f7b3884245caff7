-- What a source means: its script, or the first refusal of a walk through it.
use Rattle.std.specs.Prelude.{ℕ, pos, ◌+◌, Bool, true, false, not, ◌&&◌, nat_lt, nat_le, if◌then◌else◌, List, [], ◌∷◌, ◌++◌, length, Ok, Option, Some, None, codes}
use Rattle.std.specs.List.{list_all}
use Rattle.std.specs.Str.{is_utf8}
use Rattle.base_types.specs.declared.instructions.Instr.{Instr}
use Rattle.script_types.specs.model_kernel.State.{Text}
use Rattle.script_types.specs.model_kernel.Scripts.{RegionTable, CapTable, ContainerTable, LocusTable, Script as Tables, text_eq, atlas_name}
use Rattle.toml.specs.Data.{Data, Members, no_members, member, get_member}
use Rattle.toml.specs.Parse.{parse_document}
use Rattle.base_instructions.specs.Reader.{instr_of}
use Rattle.base_managers.specs.Managing.{ManagerTable, ManagerTables, has_number, is_managing}
use Rattle.script_meaning.specs.Ordered.{in_order}
use Rattle.script_meaning.specs.Reading.{Reading, ◌>>=◌, refused, or_refused, optional, dotted}
use Rattle.script_meaning.specs.Strings.{RegionForm, CapForm, ManagerForm, region_form, cap_form, manager_form}
use Rattle.script_meaning.specs.Fields.{a_string, a_table, a_list, in_range, a_number, only, text_at, number_at, number_or, list_at, name_at, item_key, each}
use Rattle.script_types.specs.Rules.{is_among, container_names, locus_names}
use Rattle.script_types.specs.declared.refusals.Why.TheVariants.{NotToml, Unknown, Range, BadCode, Long, Clash}

-- PROGRAMS

pub record Program : Type 0 where
  pub name : Text
  pub code : List Instr

-- `spelled` is the instruction that a line spells
module _ (spelled : Text → Option Instr) where
  abbrev pub a_line : Text → List Instr → Data → Reading Instr
  a_line key done d =
      let at = item_key key (length done) in
      a_string at d >>= (λ line. or_refused BadCode at (spelled line))

  abbrev pub a_program : Text → Data → Reading (List Instr)
  a_program name d =
      let key = dotted (codes "program") name in
      a_list 128 key d >>= each (a_line key) []

  abbrev pub more_programs : List Program → Members → Reading (List Program)
  more_programs done no_members = Ok done
  more_programs done (member name d ms) = a_program name d >>= (λ code. more_programs (done ++ record { name = name; code = code } ∷ []) ms)

  -- in the order of their names' bytes
  abbrev pub programs_in : Members → Reading (List Program)
  programs_in ms = more_programs [] (in_order ms)

  abbrev pub programs_at : Members → Reading (List Program)
  programs_at ms = optional [] (λ d. a_table (codes "program") d >>= programs_in) (get_member (codes "program") ms)

abbrev pub code_named : Text → List Program → Option (List Instr)
code_named name [] = None
code_named name (p ∷ ps) = if text_eq name p.name then Some p.code else code_named name ps

-- REGIONS AND CAPABILITIES

abbrev pub overlap : RegionForm → RegionTable → Bool
overlap r s = nat_lt r.at (s.at + s.count) && nat_lt s.at (r.at + r.count)

-- one page or more, within the pages of the container, of which there are at most 256, and within 256 of the other side
abbrev pub is_within : ℕ → RegionForm → Bool
is_within pages r = nat_le 1 r.count && (nat_le (r.at + r.count) pages && nat_le (r.from + r.count) 256)

-- apart from the regions before, too
abbrev pub fits : ℕ → List RegionTable → RegionForm → Bool
fits pages done r = is_within pages r && list_all (λ s. not (overlap r s)) done

abbrev pub table_of_region : RegionForm → RegionTable
table_of_region r = record { at = r.at; target = r.target; from = r.from; count = r.count; rights = r.rights }

-- `known` are the names of the containers before
abbrev pub placed_region : List Text → ℕ → Text → List RegionTable → RegionForm → Reading RegionTable
placed_region known pages at done r =
    if not (is_among known r.target) then refused Unknown at
    else if fits pages done r then Ok (table_of_region r) else refused Range at

abbrev pub a_region : List Text → ℕ → Text → List RegionTable → Data → Reading RegionTable
a_region known pages key done d =
    let at = item_key key (length done) in
    a_string at d >>= (λ text. or_refused BadCode at (region_form text) >>= placed_region known pages at done)

abbrev pub regions_at : List Text → ℕ → Text → Members → Reading (List RegionTable)
regions_at known pages key ms = list_at 16 key (codes "regions") ms >>= each (a_region known pages (dotted key (codes "regions"))) []

abbrev pub known_cap : List Text → Text → CapForm → Reading CapTable
known_cap known at c = if is_among known c.entity then Ok (record { entity = c.entity; rights = c.rights }) else refused Unknown at

abbrev pub a_cap : List Text → Text → List CapTable → Data → Reading CapTable
a_cap known key done d =
    let at = item_key key (length done) in
    a_string at d >>= (λ text. or_refused BadCode at (cap_form text) >>= known_cap known at)

abbrev pub caps_at : List Text → Text → Members → Reading (List CapTable)
caps_at known key ms = list_at 32 key (codes "caps") ms >>= each (a_cap known (dotted key (codes "caps"))) []

-- the names of these containers and loci
abbrev pub names_of : List ContainerTable → List LocusTable → List Text
names_of containers loci = container_names containers ++ locus_names loci

-- the names that a capability may have in the table with this own name
abbrev pub known_names : Text → List ContainerTable → List LocusTable → List Text
known_names own containers loci = atlas_name ∷ own ∷ names_of containers loci

-- CONTAINERS

-- what the policy of snapshots is asked with
abbrev pub every_at : Text → Members → Reading ℕ
every_at key ms = number_or 0 0 1000000 key (codes "every") ms

-- the name and the numbers of a container, without the rest
abbrev pub sized_container : List ContainerTable → Text → Members → Reading ContainerTable
sized_container done key ms =
    name_at (names_of done []) key ms
    >>= (λ name. number_at 1 256 key (codes "pages") ms
    >>= (λ pages. number_or 0 0 9223372036854775807 key (codes "tag") ms
    >>= (λ tag. every_at key ms
    >>= (λ every. Ok (record { name = name; pages = pages; tag = tag; every = every; code = []; entry = None; regions = []; caps = [] })))))

-- the code of the program that the table names
abbrev pub code_at : List Program → Text → Members → Reading (List Instr)
code_at programs key ms =
    let at = dotted key (codes "program") in
    optional [] (λ d. a_string at d >>= (λ name. or_refused Unknown at (code_named name programs))) (get_member (codes "program") ms)

abbrev pub entry_at : Text → Members → Reading (Option ℕ)
entry_at key ms = optional None (λ d. a_number 0 127 (dotted key (codes "entry")) d >>= (λ n. Ok (Some n))) (get_member (codes "entry") ms)

-- with code and entry
abbrev pub coded_container : List Program → List ContainerTable → Text → Members → Reading ContainerTable
coded_container programs done key ms =
    sized_container done key ms
    >>= (λ t. code_at programs key ms
    >>= (λ code. entry_at key ms
    >>= (λ entry. Ok (record t { code = code; entry = entry }))))

-- with regions and capabilities
abbrev pub whole_container : List Program → List ContainerTable → Text → Members → Reading ContainerTable
whole_container programs done key ms =
    coded_container programs done key ms
    >>= (λ t. regions_at (container_names done) t.pages key ms
    >>= (λ regions. caps_at (known_names t.name done []) key ms
    >>= (λ caps. Ok (record t { regions = regions; caps = caps }))))

abbrev pub container_keys : List Text
container_keys = codes "name" ∷ codes "pages" ∷ codes "tag" ∷ codes "every" ∷ codes "program" ∷ codes "entry" ∷ codes "regions" ∷ codes "caps" ∷ []

abbrev pub a_container : List Program → List ContainerTable → Data → Reading ContainerTable
a_container programs done d =
    let key = item_key (codes "container") (length done) in
    a_table key d >>= (λ ms. only container_keys key ms >>= (λ _. whole_container programs done key ms))

abbrev pub containers_at : List Program → Members → Reading (List ContainerTable)
containers_at programs ms = list_at 40 [] (codes "container") ms >>= each (a_container programs) []

-- LOCI

-- the container in which a locus begins
abbrev pub host_at : List ContainerTable → Text → Members → Reading Text
host_at containers key ms =
    text_at key (codes "host") ms
    >>= (λ host. if is_among (container_names containers) host then Ok host else refused Unknown (dotted key (codes "host")))

abbrev pub whole_locus : List ContainerTable → List LocusTable → Text → Members → Reading LocusTable
whole_locus containers done key ms =
    name_at (names_of containers done) key ms
    >>= (λ name. host_at containers key ms
    >>= (λ host. number_or 0 0 127 key (codes "at") ms
    >>= (λ at. every_at key ms
    >>= (λ every. caps_at (known_names name containers done) key ms
    >>= (λ caps. Ok (record { name = name; host = host; at = at; every = every; caps = caps }))))))

abbrev pub locus_keys : List Text
locus_keys = codes "name" ∷ codes "host" ∷ codes "at" ∷ codes "every" ∷ codes "caps" ∷ []

abbrev pub a_locus : List ContainerTable → List LocusTable → Data → Reading LocusTable
a_locus containers done d =
    let key = item_key (codes "locus") (length done) in
    a_table key d >>= (λ ms. only locus_keys key ms >>= (λ _. whole_locus containers done key ms))

abbrev pub loci_at : List ContainerTable → Members → Reading (List LocusTable)
loci_at containers ms = list_at 23 [] (codes "locus") ms >>= each (a_locus containers) []

-- ORDER

abbrev pub a_pick : List Text → List Text → Data → Reading Text
a_pick names done d =
    let at = item_key (codes "order") (length done) in
    a_string at d >>= (λ name. if is_among names name then Ok name else refused Unknown at)

abbrev pub order_at : List Text → Members → Reading (List Text)
order_at names ms = list_at 4096 [] (codes "order") ms >>= each (a_pick names) []

-- MANAGERS

-- the code of the program with this name, where a manager may have it
abbrev pub managing_code : List Program → Text → Text → Reading (List Instr)
managing_code programs at name =
    or_refused Unknown at (code_named name programs)
    >>= (λ code. if list_all is_managing code then Ok code else refused BadCode at)

-- a manager of this number, which no manager before has
abbrev pub new_manager : List ManagerTable → Text → ℕ → List Instr → Reading ManagerTable
new_manager done at number code = if not (has_number done number) then Ok (record { number = number; code = code }) else refused Clash at

abbrev pub formed_manager : ℕ → List Program → Text → List ManagerTable → ManagerForm → Reading ManagerTable
formed_manager greatest programs at done m =
    in_range 1 greatest at (pos m.number)
    >>= (λ number. managing_code programs at m.program >>= new_manager done at number)

abbrev pub a_manager : ℕ → List Program → Text → List ManagerTable → Data → Reading ManagerTable
a_manager greatest programs key done d =
    let at = item_key key (length done) in
    a_string at d >>= (λ text. or_refused BadCode at (manager_form text) >>= formed_manager greatest programs at done)

-- the managers of one kind, which stand at this key of the top table
abbrev pub managers_at : ℕ → List Program → Text → Members → Reading (List ManagerTable)
managers_at greatest programs key ms = list_at 16 [] key ms >>= each (a_manager greatest programs key) []

-- the number of a supplier is a tag, and that of a policy an `every`
abbrev pub both_kinds : List Program → Members → Reading ManagerTables
both_kinds programs ms =
    managers_at 9223372036854775807 programs (codes "supply") ms
    >>= (λ supply. managers_at 1000000 programs (codes "policy") ms
    >>= (λ policy. Ok (record { supply = supply; policy = policy })))

-- THE WHOLE

abbrev pub top_keys : List Text
top_keys = codes "steps" ∷ codes "frames" ∷ codes "program" ∷ codes "container" ∷ codes "locus" ∷ codes "order" ∷ codes "supply" ∷ codes "policy" ∷ []

-- a script's tables, and the frames of each container, which are no part of the abstract kernel
pub record FramedTables : Type 0 where
  pub tables : Tables
  pub frames : ℕ

-- a script and the managers that it brings
pub record Source : Type 0 where
  pub script : FramedTables
  pub managers : ManagerTables

-- containers, loci and order, behind the numbers and the programs
abbrev pub entities_at : ℕ → ℕ → List Program → Members → Reading FramedTables
entities_at steps frames programs ms =
    containers_at programs ms
    >>= (λ containers. loci_at containers ms
    >>= (λ loci. order_at (locus_names loci) ms
    >>= (λ order. Ok (record { tables = record { steps = steps; order = order; containers = containers; loci = loci }; frames = frames }))))

module _ (spelled : Text → Option Instr) where
  abbrev pub tree_meaning : Members → Reading Source
  tree_meaning ms =
      only top_keys [] ms
      >>= (λ _. number_or 10000 1 40000 [] (codes "steps") ms
      >>= (λ steps. number_or 32 1 256 [] (codes "frames") ms
      >>= (λ frames. programs_at spelled ms
      >>= (λ programs. entities_at steps frames programs ms
      >>= (λ script. both_kinds programs ms
      >>= (λ managers. Ok (record { script = script; managers = managers })))))))

  -- what the bytes mean, of at most 1,048,576
  abbrev pub meaning_by : Text → Reading Source
  meaning_by bytes =
      if nat_le (length bytes) 1048576
      then (if is_utf8 bytes then or_refused NotToml (codes "-") (parse_document bytes) else refused NotToml (codes "-")) >>= tree_meaning
      else refused Long (codes "-")

-- what the bytes mean
abbrev pub script_meaning : Text → Reading Source
script_meaning = meaning_by instr_of
