-- Private regions in their order.
use Rattle.std.proofs.Common.{◌≡◌, suc, ◌+◌, if◌then◌else◌, true, false, not, List, [], ◌∷◌, refl, ap, arith}
use Rattle.std.specs.List.{insert, position_or_len}
use Rattle.base_types.specs.declared.capabilities.Private.{Private}
use Rattle.model_kernel.specs.Outcomes.{insert_private}
use Rattle.plain_facts.specs.Acts.{stands_before}

-- a private region goes before the first one that comes after it, or to the end
pub private_at_place : (p : Private) (ps : List Private) → insert ps (position_or_len (stands_before p) ps) p ≡ insert_private p ps
private_at_place p [] = refl
private_at_place p (q ∷ ps) =
    let n = position_or_len (stands_before p) ps in
    elim (stands_before p q) as (λ b. insert (q ∷ ps) (if not b then 1 + n else 0) p ≡ (if b then p ∷ q ∷ ps else q ∷ insert_private p ps)) [
      | true ↦ refl
      | false ↦ let e : 1 + n ≡ suc n = omega arith in rw e (ap (λ l. q ∷ l) (private_at_place p ps))
    ]
