-- What an act makes of the entities that it touches, from their cells alone.
use Rattle.std.specs.Prelude.{ℕ, ◌+◌, ◌-◌, ◌*◌, ◌/◌, ◌%◌, ◌^◌, not, ◌&&◌, ◌||◌, ◌==◌, nat_lt, nat_le, if◌then◌else◌, List, [], ◌∷◌, ◌++◌, length, Option, Some, None, unwrap_or, slice_set, find, filter, replicate, bit_and, decimal}
use Rattle.std.specs.List.{list_any}
use Rattle.base_types.specs.Edges.{leads}
use Rattle.base_types.specs.Replies.{reply_number}
use Rattle.base_types.specs.declared.capabilities.Cap.{Cap}
use Rattle.base_types.specs.declared.capabilities.Private.{Private}
use Rattle.base_types.specs.declared.capabilities.Region.{Region}
use Rattle.base_types.specs.declared.histories.Answer.{Answer}
use Rattle.base_types.specs.declared.histories.Answer.TheVariants.{Quiet, Hop, Reply as Replied, Read, Print as Printed}
use Rattle.base_types.specs.declared.instructions.Call.{Call}
use Rattle.base_types.specs.declared.instructions.Condition.{Condition}
use Rattle.base_types.specs.declared.instructions.Condition.TheVariants.{Running, Stopped, Halted}
use Rattle.base_types.specs.declared.instructions.Instr.{Instr}
use Rattle.base_types.specs.declared.instructions.Instr.TheVariants.{Set, Copy, Add, Sub, Jump, Jz, Load, Store, Invoke, Leave, Return, Map, Unmap, Lmap, Lunmap, Take, Give, Drop, Make, Spawn, Stop, Go, Snap, Stabilise, Print}
use Rattle.base_types.specs.declared.instructions.Reply.{Reply}
use Rattle.base_types.specs.declared.instructions.Reply.TheVariants.{Ok, NoSlot, WrongKind, NoPage, Circle, Overlap, ListFull, NoCaller, NoEntry, Deep, NoNumber, NoRegion}
use Rattle.base_types.specs.declared.instructions.Walk.{Walk}
use Rattle.model_kernel.specs.State.{Supply, Text, AtlasState, ContainerState, LocusState, Cell, ContainerCell, LocusCell, no_atlas}
use Rattle.model_kernel.specs.Words.{unless, first, denied, cap_at, free_slot, covers, overlaps, insert_region, last_call, but_last, put}
use Rattle.model_kernel.specs.Refusals.{reg, rights_with, entity_of, rights_of, private_at, new_region}
use Rattle.model_kernel.specs.Acts.{Act}

-- `other` is the other entity's new cell where the act writes it, and None where it only reads it
pub record Outcome : Type 0 where
  pub locus : LocusState
  pub answer : Answer
  pub atlas : AtlasState
  pub other : Option Cell
  pub newborn : Option (ℕ × Cell)

-- the locus alone changes
abbrev pub own : LocusState → Answer → Outcome
own l answer = record { locus = l; answer = answer; atlas = no_atlas; other = None; newborn = None }

abbrev pub set_reg : LocusState → ℕ → ℕ → LocusState
set_reg l r v = record l { registers = slice_set l.registers r v }

abbrev pub next : LocusState → LocusState
next l = record l { place = l.place + 1 }

-- the reply in register 7 and the next place, the walk ended
abbrev pub finish : LocusState → Reply → LocusState
finish l r = record l { registers = slice_set l.registers 7 (reply_number r); place = l.place + 1; walk = None }

abbrev pub own_reply : LocusState → Reply → Outcome
own_reply l r = own (finish l r) (Replied r)

-- the other entity is written too
abbrev pub with_other : LocusState → Reply → Cell → Outcome
with_other l r c = record { locus = finish l r; answer = Replied r; atlas = no_atlas; other = Some c; newborn = None }

-- the atlas is written too
abbrev pub with_atlas : LocusState → Reply → AtlasState → Option Cell → Outcome
with_atlas l r a c = record { locus = finish l r; answer = Replied r; atlas = a; other = c; newborn = None }

-- THE LOCUS ALONE

-- private regions ascend by the host where they were made, and then by page
abbrev pub insert_private : Private → List Private → List Private
insert_private p [] = p ∷ []
insert_private p (q ∷ rest) =
    if nat_lt p.made q.made || p.made == q.made && nat_lt p.region.at q.region.at
    then p ∷ q ∷ rest
    else q ∷ insert_private p rest

abbrev pub with_private : LocusState → Region → LocusState
with_private l r = record l { privates = insert_private (record { made = l.host; region = r }) l.privates }

abbrev pub without_private : LocusState → ℕ → LocusState
without_private l page = record l { privates = filter (λ p. not (p.made == l.host && p.region.at == page)) l.privates }

-- the count of printed values stands still at 2^62
abbrev pub one_more_printed : LocusState → LocusState
one_more_printed l = record l { printed = if nat_lt l.printed (2 ^ 62) then l.printed + 1 else l.printed }

-- the acts that touch the locus alone and are not refused
unfoldable pub local_act : LocusState → Instr → Outcome
local_act l (Set d n) = own (next (set_reg l d n)) Quiet
local_act l (Copy d s) = own (next (set_reg l d (reg l s))) Quiet
local_act l (Add d s) = own (next (set_reg l d ((reg l d + reg l s) % 2 ^ 64))) Quiet
local_act l (Sub d s) = own (next (set_reg l d ((reg l d + 2 ^ 64 - reg l s) % 2 ^ 64))) Quiet
local_act l (Jump p) = own (record l { place = p }) Quiet
local_act l (Jz s p) = own (if reg l s == 0 then record l { place = p } else next l) Quiet
local_act l (Lmap a c b n rights) = own_reply (with_private l (new_region l a c b n rights)) Ok
local_act l (Lunmap a) = own_reply (without_private l (reg l a)) Ok
local_act l (Drop s) = own_reply (record l { caps = slice_set l.caps (reg l s) None }) Ok
local_act l (Stop c) = own_reply (record l { condition = Stopped }) Ok
local_act l (Go c) = own_reply l Ok
local_act l (Snap c) = own_reply l Ok
local_act l (Stabilise c) = own_reply l Ok
local_act l (Print s) = own (next (one_more_printed l)) (Printed (reg l s))
local_act l i = own (record l { condition = Halted }) Quiet

-- LOOKS

-- an address seen through a region
abbrev pub moved_address : Region → ℕ → ℕ
moved_address r address = (address / 128 - r.at + r.from) * 128 + address % 128

abbrev pub first_address : ℕ → Option Private → ℕ
first_address address (Some p) = moved_address p.region address
first_address address None = address

abbrev pub address_of_look : LocusState → ℕ → Option Walk → ℕ
address_of_look l address (Some w) = w.address
address_of_look l address None = first_address address (private_at l (address / 128))

-- the address in the container of the next look
abbrev pub look_address : LocusState → ℕ → ℕ
look_address l address = address_of_look l address l.walk

abbrev pub hops_of_walk : Option Walk → ℕ
hops_of_walk (Some w) = w.hops
hops_of_walk None = 0

-- the hops that the walk has made
abbrev pub look_hops : LocusState → ℕ
look_hops l = hops_of_walk l.walk

-- the walk goes on at the region's target
abbrev pub hop_to : LocusState → Region → ℕ → Outcome
hop_to l r address = own (record l { walk = Some (record { at = r.target; address = moved_address r address; hops = look_hops l + 1 }) }) Hop

-- a region covers the page: a denial, or one hop more, of which a walk makes 63 at most
abbrev pub through : LocusState → Region → ℕ → Option Reply → Outcome
through l r address (Some why) = own_reply l why
through l r address None = if nat_lt (look_hops l) 63 then hop_to l r address else own_reply l Deep

-- `done` is what is made of the word where no region covers the page
abbrev pub looked_by : LocusState → ℕ → ℕ → Outcome → Option Region → Outcome
looked_by l address needed done (Some r) = through l r address (denied r.rights.0 needed)
looked_by l address needed done None = done

-- the cases of a look, the first that holds
abbrev pub looked : LocusState → ContainerState → ℕ → ℕ → Outcome → Outcome
looked l c address needed done =
    if nat_lt (address / 128) c.pages
    then looked_by l address needed done (find (λ r. covers r (address / 128)) c.regions)
    else own_reply l NoPage

unfoldable pub load : LocusState → ContainerState → ℕ → ℕ → Outcome
load l c d address = looked l c address 1 (own (finish (set_reg l d (c.words address)) Ok) (Read (c.words address)))

abbrev pub with_word : ContainerState → ℕ → ℕ → ContainerState
with_word c address word = record c { words = put c.words address word }

unfoldable pub store : LocusState → ContainerState → ℕ → ℕ → Outcome
store l c address word = looked l c address 2 (with_other l Ok (ContainerCell (with_word c address word)))

-- INVOCATION

-- the locus goes on in a container, at a place of its code
abbrev pub enter : LocusState → ℕ → ContainerState → ℕ → List Call → LocusState
enter l host c place chain = record l { host = host; code = c.code; place = place; chain = chain; registers = slice_set l.registers 7 0; walk = None }

abbrev pub entered : ContainerState → LocusState → Outcome
entered c new = record { locus = new; answer = Replied Ok; atlas = no_atlas; other = Some (ContainerCell c); newborn = None }

abbrev pub invoke_at : LocusState → ℕ → ContainerState → Option ℕ → Outcome
invoke_at l x c None = with_other l NoEntry (ContainerCell c)
invoke_at l x c (Some entry) =
    if nat_lt (length l.chain) 64
    then entered c (enter l x c entry (l.chain ++ record { container = l.host; place = l.place + 1 } ∷ []))
    else with_other l ListFull (ContainerCell c)

unfoldable pub invoke : LocusState → ℕ → ContainerState → Outcome
invoke l x c = invoke_at l x c c.entry

abbrev pub leave_at : LocusState → ℕ → ContainerState → Option ℕ → Outcome
leave_at l x c None = with_other l NoEntry (ContainerCell c)
leave_at l x c (Some entry) = entered c (enter l x c entry l.chain)

unfoldable pub leave : LocusState → ℕ → ContainerState → Outcome
leave l x c = leave_at l x c c.entry

abbrev pub back_to : LocusState → ContainerState → Option Call → Outcome
back_to l c (Some call) = entered c (enter l call.container c call.place (but_last l.chain))
back_to l c None = own_reply l NoCaller

unfoldable pub back : LocusState → ContainerState → Outcome
back l c = back_to l c (last_call l.chain)

-- MAPPINGS

abbrev pub edge_put : AtlasState → ℕ → ℕ → ℕ → AtlasState
edge_put a c d n = record a { edges = put a.edges c (put (a.edges c) d n) }

abbrev pub map_refusal : AtlasState → ℕ → ContainerState → Region → Option Reply
map_refusal a x c r =
    first (
    unless (nat_le (r.at + r.count) c.pages) NoPage
    ∷ unless (not (list_any (overlaps r) c.regions)) Overlap
    ∷ unless (not (leads 40 a.edges r.target x)) Circle
    ∷ unless (nat_lt (length c.regions) 16) ListFull ∷ []
    )

abbrev pub map_by : LocusState → AtlasState → ℕ → ContainerState → Region → Option Reply → Outcome
map_by l a x c r (Some why) = with_atlas l why a (Some (ContainerCell c))
map_by l a x c r None = with_atlas l Ok (edge_put a x r.target (a.edges x r.target + 1)) (Some (ContainerCell (record c { regions = insert_region r c.regions })))

unfoldable pub map_region : LocusState → AtlasState → ℕ → ContainerState → Region → Outcome
map_region l a x c r = map_by l a x c r (map_refusal a x c r)

abbrev pub unmap_at : LocusState → AtlasState → ℕ → ContainerState → ℕ → Option Region → Outcome
unmap_at l a x c at None = with_atlas l NoRegion a (Some (ContainerCell c))
unmap_at l a x c at (Some r) = with_atlas l Ok (edge_put a x r.target (a.edges x r.target - 1)) (Some (ContainerCell (record c { regions = filter (λ s. not (s.at == at)) c.regions })))

unfoldable pub unmap : LocusState → AtlasState → ℕ → ContainerState → ℕ → Outcome
unmap l a x c at = unmap_at l a x c at (find (λ r. r.at == at) c.regions)

-- CAPABILITIES

abbrev pub take_by : LocusState → ContainerState → ℕ → Option Cap → Option ℕ → Outcome
take_by l c d None slot = with_other l NoSlot (ContainerCell c)
take_by l c d (Some cap) None = with_other l ListFull (ContainerCell c)
take_by l c d (Some cap) (Some slot) = with_other (record (set_reg l d slot) { caps = slice_set l.caps slot (Some cap) }) Ok (ContainerCell c)

unfoldable pub take_cap : LocusState → ContainerState → ℕ → ℕ → Outcome
take_cap l c d y = take_by l c d (cap_at c.caps y) (free_slot l.caps)

abbrev pub give_at : LocusState → ContainerState → ℕ → Cap → Option ℕ → Outcome
give_at l c d cap None = with_other l ListFull (ContainerCell c)
give_at l c d cap (Some slot) = with_other (set_reg l d slot) Ok (ContainerCell (record c { caps = slice_set c.caps slot (Some cap) }))

unfoldable pub give : LocusState → ContainerState → ℕ → Cap → Outcome
give l c d cap = give_at l c d cap (free_slot c.caps)

-- a capability with the rights that it and the instruction both have
abbrev pub given_cap : LocusState → ℕ → ℕ → Cap
given_cap l s rights = record { entity = entity_of l s; rights = rights_with (bit_and (rights_of l s) rights) }

-- BIRTHS BY A PROGRAM

-- `#` and the number
abbrev pub made_name : ℕ → Text
made_name n = 35 ∷ decimal n

-- the lowest free number of a container
abbrev pub free_container : AtlasState → Option ℕ
free_container a = if nat_lt (length a.containers) 40 then Some (length a.containers + 1) else None

-- the lowest free number of a locus
abbrev pub free_locus : AtlasState → Option ℕ
free_locus a = if nat_lt (length a.loci) 23 then Some (length a.loci + 41) else None

-- the locus's lowest empty slot gets a capability with all rights but Stabilise, and the register the slot
abbrev pub holding : LocusState → ℕ → ℕ → LocusState
holding l d x =
    record (set_reg l d (unwrap_or (free_slot l.caps) 0)) {
      caps = slice_set l.caps (unwrap_or (free_slot l.caps) 0) (Some (record { entity = x; rights = rights_with 127 }));
    }

abbrev pub born : LocusState → ℕ → AtlasState → ℕ → Cell → Outcome
born l d a x c = record { locus = finish (holding l d x) Ok; answer = Replied Ok; atlas = a; other = None; newborn = Some (x, c) }

-- the supplier's words
abbrev pub supplied : Supply → ℕ → ℕ → ℕ
supplied s tag = λ address. s tag (address / 128) (address % 128)

abbrev pub code_for : LocusState → Option ℕ → List Instr
code_for l None = []
code_for l (Some entry) = l.code

-- a container that the locus makes
abbrev pub made_container : Supply → LocusState → ℕ → ℕ → Option ℕ → ContainerState
made_container s l pages tag entry = record { pages = pages; tag = tag; every = 0; entry = entry; code = code_for l entry; regions = []; caps = replicate 32 None; words = supplied s tag }

abbrev pub make_at : Supply → LocusState → AtlasState → ℕ → ℕ → ℕ → Option ℕ → Option ℕ → Outcome
make_at s l a d pages tag entry None = with_atlas l NoNumber a None
make_at s l a d pages tag entry (Some x) = born l d (record a { containers = a.containers ++ made_name x ∷ [] }) x (ContainerCell (made_container s l pages tag entry))

unfoldable pub make : Supply → LocusState → AtlasState → ℕ → ℕ → ℕ → Option ℕ → Outcome
make s l a d pages tag entry = make_at s l a d pages tag entry (free_container a)

-- a locus like this one, at another place, with nothing begun
abbrev pub spawned : LocusState → ℕ → LocusState
spawned l place = record l { place = place; chain = []; privates = []; walk = None; condition = Running; printed = 0 }

abbrev pub spawn_at : LocusState → AtlasState → ℕ → ℕ → Option ℕ → Outcome
spawn_at l a d place None = with_atlas l NoNumber a None
spawn_at l a d place (Some x) = born l d (record a { loci = a.loci ++ made_name x ∷ [] }) x (LocusCell (spawned l place))

unfoldable pub spawn : LocusState → AtlasState → ℕ → ℕ → Outcome
spawn l a d place = spawn_at l a d place (free_locus a)

-- CONTROL

abbrev pub stopped : Condition → Condition
stopped Running = Stopped
stopped c = c

abbrev pub going : Condition → Condition
going Stopped = Running
going c = c

-- ONE ACT. The last clause of each is never met in a sound state.

unfoldable pub on_cell : Supply → LocusState → AtlasState → ℕ → Instr → Cell → Outcome
on_cell s l a x (Load d r) (ContainerCell c) = load l c d (look_address l (reg l r))
on_cell s l a x (Store r v) (ContainerCell c) = store l c (look_address l (reg l r)) (reg l v)
on_cell s l a x (Invoke r) (ContainerCell c) = invoke l x c
on_cell s l a x (Leave r) (ContainerCell c) = leave l x c
on_cell s l a x Return (ContainerCell c) = back l c
on_cell s l a x (Map d r k b n rights) (ContainerCell c) = map_region l a x c (new_region l r k b n rights)
on_cell s l a x (Unmap d r) (ContainerCell c) = unmap l a x c (reg l r)
on_cell s l a x (Take d k y) (ContainerCell c) = take_cap l c d (reg l y)
on_cell s l a x (Give d k r rights) (ContainerCell c) = give l c d (given_cap l r rights.0)
on_cell s l a x (Stop c) (LocusCell m) = with_other l Ok (LocusCell (record m { condition = stopped m.condition }))
on_cell s l a x (Go c) (LocusCell m) = with_other l Ok (LocusCell (record m { condition = going m.condition }))
on_cell s l a x (Snap c) cell = with_other l Ok cell
on_cell s l a x i cell = with_atlas l WrongKind a (Some cell)

unfoldable pub with_newborn : Supply → LocusState → AtlasState → Instr → Outcome
with_newborn s l a (Make d n t e) = make s l a d (reg l n) (reg l t) e
with_newborn s l a (Spawn d p) = spawn l a d p
with_newborn s l a i = local_act l i

-- by the other entity, if there is one
abbrev pub by_other : Supply → LocusState → AtlasState → Instr → Option ℕ → Cell → Outcome
by_other s l a i (Some x) cell = on_cell s l a x i cell
by_other s l a i None cell = with_newborn s l a i

-- a refusal that the locus alone decides leaves all else
abbrev pub by_refused : Supply → LocusState → AtlasState → Instr → Option Reply → Option ℕ → Cell → Outcome
by_refused s l a i (Some why) other cell = own_reply l why
by_refused s l a i None other cell = by_other s l a i other cell

-- what the act makes of the locus, the atlas and the other entity's cell
unfoldable pub outcome : Supply → LocusState → Act → AtlasState → Cell → Outcome
outcome s l act a cell = by_refused s l a act.instr act.refused act.other cell
