-- What a locus wants to do, and the refusals that it alone decides.
use Rattle.std.specs.Prelude.{ℕ, ◌+◌, ◌/◌, Bool, not, ◌&&◌, ◌==◌, nat_lt, nat_le, [], ◌∷◌, length, Option, Some, None, is_some, unwrap_or, slice_index, slice_get, find}
use Rattle.std.specs.List.{list_any}
use Rattle.base_types.specs.declared.capabilities.Cap.{Cap}
use Rattle.base_types.specs.declared.capabilities.Private.{Private}
use Rattle.base_types.specs.declared.capabilities.Region.{Region}
use Rattle.base_types.specs.declared.capabilities.Rights.{Rights}
use Rattle.base_types.specs.declared.instructions.Instr.{Instr}
use Rattle.base_types.specs.declared.instructions.Instr.TheVariants.{Set, Copy, Add, Sub, Jump, Jz, Load, Store, Invoke, Leave, Return, Map, Unmap, Lmap, Lunmap, Take, Give, Drop, Make, Spawn, Stop, Go, Snap, Stabilise, Print, Halt}
use Rattle.base_types.specs.declared.instructions.Reply.{Reply}
use Rattle.base_types.specs.declared.instructions.Reply.TheVariants.{NoSlot, WrongKind, NoPage, Overlap, ListFull, NoCaller, NoRegion}
use Rattle.base_types.specs.declared.instructions.Walk.{Walk}
use Rattle.model_kernel.specs.State.{LocusState}
use Rattle.model_kernel.specs.Words.{unless, first, is_container, is_locus, denied, cap_at, free_slot, covers, overlaps}

-- REGISTERS AND CAPABILITIES

abbrev pub reg : LocusState → ℕ → ℕ
reg l r = slice_index l.registers r

-- the instruction at the locus's place; past the end of the code it halts
abbrev pub instr_at : LocusState → Instr
instr_at l = unwrap_or (slice_get l.code l.place) Halt

-- a set of rights
abbrev pub rights_with : ℕ → Rights
rights_with bits = record { 0 = bits }

-- no right on the atlas
abbrev pub no_cap : Cap
no_cap = record { entity = 0; rights = rights_with 0 }

-- the capability in the slot that a register names
abbrev pub named : LocusState → ℕ → Option Cap
named l r = cap_at l.caps (reg l r)

abbrev pub entity_of : LocusState → ℕ → ℕ
entity_of l r = (unwrap_or (named l r) no_cap).entity

abbrev pub rights_of : LocusState → ℕ → ℕ
rights_of l r = (unwrap_or (named l r) no_cap).rights.0

-- CHECKS

abbrev pub no_slot : LocusState → ℕ → Option Reply
no_slot l r = unless (is_some (named l r)) NoSlot

abbrev pub no_container : LocusState → ℕ → Option Reply
no_container l r = unless (is_container (entity_of l r)) WrongKind

abbrev pub no_locus : LocusState → ℕ → Option Reply
no_locus l r = unless (is_locus (entity_of l r)) WrongKind

abbrev pub lacks : LocusState → ℕ → ℕ → Option Reply
lacks l r needed = denied (rights_of l r) needed

-- no pages are mapped, or pages past the greatest size on either side
abbrev pub no_page : LocusState → ℕ → ℕ → ℕ → Option Reply
no_page l a b n = unless (nat_lt 0 (reg l n) && nat_le (reg l a + reg l n) 256 && nat_le (reg l b + reg l n) 256) NoPage

abbrev pub no_free_slot : LocusState → Option Reply
no_free_slot l = unless (is_some (free_slot l.caps)) ListFull

-- PRIVATE REGIONS

-- the private region made in the present host that covers the page
abbrev pub private_at : LocusState → ℕ → Option Private
private_at l page = find (λ p. p.made == l.host && covers p.region page) l.privates

abbrev pub private_denied : Option Private → ℕ → Option Reply
private_denied None needed = None
private_denied (Some p) needed = denied p.region.rights.0 needed

-- a private region is looked at in the first look of a walk alone
abbrev pub first_look_denied : LocusState → Option Walk → ℕ → ℕ → Option Reply
first_look_denied l (Some w) address needed = None
first_look_denied l None address needed = private_denied (private_at l (address / 128)) needed

-- the region that a mapping would make
abbrev pub new_region : LocusState → ℕ → ℕ → ℕ → ℕ → Rights → Region
new_region l a c b n rights = record { at = reg l a; count = reg l n; target = entity_of l c; from = reg l b; rights = rights }

-- it overlaps a private region made in the present host
abbrev pub overlaps_private : LocusState → Region → Bool
overlaps_private l r = list_any (λ p. p.made == l.host && overlaps r p.region) l.privates

-- a private region made in the present host begins at the page
abbrev pub begins_private : LocusState → ℕ → Bool
begins_private l page = list_any (λ p. p.made == l.host && p.region.at == page) l.privates

-- THE REFUSAL THAT THE LOCUS ALONE DECIDES, in the order of the checks
unfoldable pub refusal : LocusState → Instr → Option Reply
refusal l (Load d a) = first_look_denied l l.walk (reg l a) 1
refusal l (Store a s) = first_look_denied l l.walk (reg l a) 2
refusal l (Invoke c) = first (no_slot l c ∷ no_container l c ∷ lacks l c 4 ∷ [])
refusal l (Leave c) = first (no_slot l c ∷ no_container l c ∷ lacks l c 4 ∷ [])
refusal l Return = unless (nat_lt 0 (length l.chain)) NoCaller
refusal l (Map d a c b n rights) = first (no_slot l d ∷ no_slot l c ∷ no_container l d ∷ no_container l c ∷ lacks l d 8 ∷ lacks l c rights.0 ∷ no_page l a b n ∷ [])
refusal l (Unmap d a) = first (no_slot l d ∷ no_container l d ∷ lacks l d 8 ∷ [])
refusal l (Lmap a c b n rights) =
    first (
    no_slot l c ∷ no_container l c ∷ lacks l c rights.0 ∷ no_page l a b n
    ∷ unless (not (overlaps_private l (new_region l a c b n rights))) Overlap
    ∷ unless (nat_lt (length l.privates) 16) ListFull ∷ []
    )
refusal l (Lunmap a) = unless (begins_private l (reg l a)) NoRegion
refusal l (Take d c y) = first (no_slot l c ∷ no_container l c ∷ lacks l c 16 ∷ [])
refusal l (Give d c s rights) = first (no_slot l c ∷ no_slot l s ∷ no_container l c ∷ lacks l c 16 ∷ [])
refusal l (Drop s) = no_slot l s
refusal l (Make d n t e) = first (unless (nat_lt 0 (reg l n) && nat_le (reg l n) 256) NoPage ∷ no_free_slot l ∷ [])
refusal l (Spawn d p) = no_free_slot l
refusal l (Stop c) = first (no_slot l c ∷ no_locus l c ∷ lacks l c 64 ∷ [])
refusal l (Go c) = first (no_slot l c ∷ no_locus l c ∷ lacks l c 64 ∷ [])
refusal l (Snap c) = first (no_slot l c ∷ lacks l c 32 ∷ [])
refusal l (Stabilise c) = first (no_slot l c ∷ unless (entity_of l c == 0) WrongKind ∷ lacks l c 128 ∷ [])
refusal l (Set d n) = None
refusal l (Copy d s) = None
refusal l (Add d s) = None
refusal l (Sub d s) = None
refusal l (Jump p) = None
refusal l (Jz s p) = None
refusal l (Print s) = None
refusal l Halt = None
