-- Lists of slots, each of which holds a capability or is empty.
use Rattle.std.specs.Prelude.{ℕ, ◌+◌, List, [], ◌∷◌, Option, Some, None, slice_get}
use Rattle.base_types.specs.declared.capabilities.Cap.{Cap}

abbrev pub flat : {A : Type 0} → Option (Option A) → Option A
flat None = None
flat (Some x) = x

-- the capability in a slot, where there is the slot and it isn't empty
abbrev pub cap_at : List (Option Cap) → ℕ → Option Cap
cap_at caps slot = flat (slice_get caps slot)

abbrev pub free_slot_from : ℕ → List (Option Cap) → Option ℕ
free_slot_from n [] = None
free_slot_from n (None ∷ caps) = Some n
free_slot_from n (Some c ∷ caps) = free_slot_from (n + 1) caps

-- the lowest empty slot
abbrev pub free_slot : List (Option Cap) → Option ℕ
free_slot caps = free_slot_from 0 caps
