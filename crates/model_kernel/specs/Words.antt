-- Small words on options, kinds, slots, regions and functions of numbers.
use Rattle.std.specs.Prelude.{ℕ, Bool, ◌&&◌, ◌==◌, nat_lt, if◌then◌else◌, List, [], ◌∷◌, Option, Some, None, option_map}
use Rattle.base_types.specs.Rights.{missing_right}
use Rattle.base_types.specs.declared.instructions.Call.{Call}
use Rattle.base_types.specs.declared.instructions.Reply.{Reply}
use Rattle.base_types.specs.declared.instructions.Reply.TheVariants.{Denied}
pub use Rattle.base_types.specs.Regions.{covers, insert_region, overlaps}
pub use Rattle.base_types.specs.Slots.{cap_at, flat, free_slot, free_slot_from}

-- this refusal where the test fails
abbrev pub unless : Bool → Reply → Option Reply
unless test reply = if test then None else Some reply

-- the first that is there
abbrev pub first : {A : Type 0} → List (Option A) → Option A
first [] = None
first (Some x ∷ rest) = Some x
first (None ∷ rest) = first rest

-- this one, or else the other
abbrev pub or_else : {A : Type 0} → Option A → Option A → Option A
or_else (Some x) y = Some x
or_else None y = y

abbrev pub is_container : ℕ → Bool
is_container n = nat_lt 0 n && nat_lt n 41

abbrev pub is_locus : ℕ → Bool
is_locus n = nat_lt 40 n

-- a denial of the lowest right that is needed and not held
abbrev pub denied : ℕ → ℕ → Option Reply
denied held needed = option_map Denied (missing_right held needed)

-- CALLS

abbrev pub last_call : List Call → Option Call
last_call [] = None
last_call (c ∷ []) = Some c
last_call (c ∷ d ∷ rest) = last_call (d ∷ rest)

abbrev pub but_last : List Call → List Call
but_last [] = []
but_last (c ∷ []) = []
but_last (c ∷ d ∷ rest) = c ∷ but_last (d ∷ rest)

-- FUNCTIONS

-- a function of numbers, changed at one
abbrev pub put : {A : Type 0} → (ℕ → A) → ℕ → A → ℕ → A
put f k v = λ x. if x == k then v else f x
