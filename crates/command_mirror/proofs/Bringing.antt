-- Why a script that brings managers is refused, and when it brings none.
use Rattle.std.proofs.Common.{◌≡◌, ℕ, inl, inr, Bool, false, true, List, [], ◌∷◌, length, map, vec_len, ◌==◌, eqb-true, refl, sym, ap, ◌∙◌, arith}
use Rattle.std.specs.Prelude.{codes}
use Rattle.base_managers.specs.Managing.{manager_of, managers_of}
use Rattle.base_managers.specs.declared.ScriptManager.{ScriptManager}
use Rattle.base_managers.specs.declared.ScriptManagers.{ScriptManagers}
use Rattle.command_open.specs.command_promises.Booked.{none_brought}
use Rattle.command_outcomes.specs.declared.faults.Fault.{Fault}
use Rattle.command_outcomes.specs.declared.faults.Fault.TheVariants as fault
use Rattle.command_mirror.specs.Leaving.{IsManagedFault}
use Rattle.command_mirror.specs.Refusing.{IsUnknownKey}

-- by whether there are any
none_at : (ms : List ScriptManager) → (length ms == 0) ≡ true → ms ≡ []
none_at [] is = refl
none_at (m ∷ ms) is = absurd (let none = eqb-true (length (m ∷ ms)) 0 is in omega (arith, none))

some_at : (ms : List ScriptManager) → (length ms == 0) ≡ false → map manager_of ms ≡ [] → ⊥
some_at [] is none = absurd (cc is)
some_at (m ∷ ms) is none = absurd (cc none)

-- by the length that is kept beside the items
module _ (ms : ScriptManagers) where
  suppliers_are : (b : Bool) → (vec_len ms.supply == 0) ≡ b → (length ms.supply.items == 0) ≡ b
  suppliers_are b is = ap (λ (n : ℕ). n == 0) (sym ms.supply.ok.0) ∙ is

  policies_are : (b : Bool) → (vec_len ms.policy == 0) ≡ b → (length ms.policy.items == 0) ≡ b
  policies_are b is = ap (λ (n : ℕ). n == 0) (sym ms.policy.ok.0) ∙ is

-- suppliers are told first
pub for_suppliers : (ms : ScriptManagers) → (vec_len ms.supply == 0) ≡ false → (f : Fault) → IsUnknownKey (codes "supply") f → IsManagedFault (managers_of ms) f
for_suppliers ms some (fault.Script refusal) h = (h.0, inl (some_at ms.supply.items (suppliers_are ms false some), h.1))
for_suppliers ms some fault.Memory h = tt
for_suppliers ms some fault.Usage h = absurd h
for_suppliers ms some (fault.Foreign block place) h = absurd h
for_suppliers ms some fault.DiskFault h = absurd h
for_suppliers ms some fault.Source h = absurd h
for_suppliers ms some (fault.NoBlocks n) h = absurd h

-- or else policies
pub for_policies : (ms : ScriptManagers) → (vec_len ms.supply == 0) ≡ true → (vec_len ms.policy == 0) ≡ false → (f : Fault) → IsUnknownKey (codes "policy") f → IsManagedFault (managers_of ms) f
for_policies ms none some (fault.Script refusal) h = (h.0, inr (ap (map manager_of) (none_at ms.supply.items (suppliers_are ms true none)), some_at ms.policy.items (policies_are ms false some), h.1))
for_policies ms none some fault.Memory h = tt
for_policies ms none some fault.Usage h = absurd h
for_policies ms none some (fault.Foreign block place) h = absurd h
for_policies ms none some fault.DiskFault h = absurd h
for_policies ms none some fault.Source h = absurd h
for_policies ms none some (fault.NoBlocks n) h = absurd h

-- and else none are brought
pub brings_none : (ms : ScriptManagers) → (vec_len ms.supply == 0) ≡ true → (vec_len ms.policy == 0) ≡ true → managers_of ms ≡ none_brought
brings_none ms none nor =
    let suppliers : map manager_of ms.supply.items ≡ [] = ap (map manager_of) (none_at ms.supply.items (suppliers_are ms true none)) in
    let policies : map manager_of ms.policy.items ≡ [] = ap (map manager_of) (none_at ms.policy.items (policies_are ms true nor)) in
    λ i. record { supply = suppliers i; policy = policies i }
