-- The byte of an entry.
use Rattle.std.proofs.Common.{◌≡◌, ◌<◌, ℕ, List, [], ◌∷◌, Option, Some, None, refl, ap, subst, arith}
use Rattle.std.specs.Prelude.{slice_index}
use Rattle.blob_grammar.specs.Spelling.{entry_byte}
use Rattle.blob_facts.specs.Fields.{Spells}
use Rattle.blob_facts.specs.Parts.{IsEntrySpelled}
use Rattle.blob_facts.proofs.Bytes.{IsOneByte}

pub one_entry : IsOneByte IsEntrySpelled
one_entry = record { byte = λ v a f. (entry_byte v, f.is) }

pub some_entry : (a : List ℕ) × Spells IsEntrySpelled a
some_entry = (0 ∷ [], record { value = Some 0; spelled = record { good = λ p is. subst (λ (o : Option ℕ). of o < 128) is (omega arith); is = refl } })
  where
    of : Option ℕ → ℕ
    of None = 0
    of (Some p) = p

pub no_entry : (byte : ℕ) → (byte ≡ 255 → ⊥) → (byte < 128 → ⊥) → (v : Option ℕ) → IsEntrySpelled v (byte ∷ []) → ⊥
no_entry byte none place None f = none (ap (λ (l : List ℕ). slice_index l 0) f.is)
no_entry byte none place (Some p) f =
    let small : p < 128 = f.good p refl in
    let e : byte ≡ p = ap (λ (l : List ℕ). slice_index l 0) f.is in
    place (omega (arith, e, small))
