-- Names of one letter, looked for from the first letter on; and how many bytes a name has.
use Rattle.std.proofs.Common.{◌≡◌, ◌<◌, ℕ, List, [], ◌∷◌, length, None, refl, sym, ap, subst, arith}
use Rattle.std.specs.Prelude.{IsTrue, slice_index}
use Rattle.act_atlas_laws.specs.data_atlas_facts.Directory.{Directory, entity_named, is_letter}
use Rattle.blob_facts.specs.Fields.{IsRefused, Spells}
use Rattle.blob_facts.proofs.Bytes.{IsOneByte, byte_refused, byte_wanting}
use Rattle.blob_facts.specs.Names.{IsSize, IsSizeSpelled}

-- each letter below the byte is someone's name
abbrev pub NoneBelow : Directory → ℕ → Type 0
NoneBelow a byte = (c : ℕ) → c < byte → IsTrue (is_letter c) → entity_named a (c ∷ []) ≡ None → ⊥

-- THE SIZE of a name
module _ (a : Directory) (bytes : List ℕ) where
  one_size : IsOneByte (IsSizeSpelled a)
  one_size = record { byte = λ v x f. (v, f.is) }

  some_size : (x : List ℕ) × Spells (IsSizeSpelled a) x
  some_size = (2 ∷ [], record { value = 2; spelled = record { good = record { some = omega arith; few = omega arith; short = λ e. absurd (omega (arith, e)) }; is = refl } })

  pub size_wanting : length bytes ≡ 0 → IsRefused (Spells (IsSizeSpelled a)) bytes bytes
  size_wanting none = byte_wanting (IsSizeSpelled a) one_size some_size bytes none

  pub size_refused : (size : ℕ) (behind : List ℕ) → bytes ≡ size ∷ behind → (IsSize a size → ⊥) → IsRefused (Spells (IsSizeSpelled a)) bytes bytes
  size_refused size behind is none =
      byte_refused (IsSizeSpelled a) one_size some_size bytes size behind is
      (λ v f. none (subst (IsSize a) (sym (ap (λ (l : List ℕ). slice_index l 0) f.is)) f.good))
