-- A walk, field by field.
use Rattle.std.proofs.Common.{◌≡◌, ◌<◌, ◌≤◌, ℕ, zero, suc, ◌^◌, List, [], ◌∷◌, ◌++◌, Option, Some, None, refl, sym, ap, subst, ◌∙◌, arith}
use Rattle.std.specs.Option.{ForSome}
use Rattle.byteorder.specs.Endian.{little_bytes}
use Rattle.act_atlas_laws.specs.base_types.declared.instructions.Walk.{Walk}
use Rattle.blob_grammar.specs.Forms.{IsNumber}
use Rattle.blob_grammar.specs.Shapes.{IsWalkOver}
use Rattle.blob_grammar.specs.Spelling.{walk_bytes}
use Rattle.blob_facts.specs.Fields.{IsByteIn, IsFound, IsNumberIn, IsRefused, Spells, Then}
use Rattle.blob_facts.specs.Loci.{IsWalkSpelled}
use Rattle.blob_facts.proofs.Bytes.{byte_tells, some_byte}
use Rattle.blob_facts.proofs.Numbers.{tells}
use Rattle.blob_facts.proofs.RegisterLists.{last_number}
use Rattle.blob_facts.proofs.Sequences.{joined, refused_as, refused_here, refused_later}

-- WHAT FOLLOWS each field
abbrev BehindAt : List ℕ → Type 0
BehindAt = Then (IsNumberIn 8 0 last_number) (λ _. Spells (IsByteIn 1 63))

abbrev OnWalk : List ℕ → Type 0
OnWalk = Then (IsByteIn 0 63) (λ _. BehindAt)

abbrev BehindKind : ℕ → List ℕ → Type 0
BehindKind zero y = y ≡ []
BehindKind (suc n) y = OnWalk y

abbrev WalkFields : List ℕ → Type 0
WalkFields = Then (IsByteIn 0 1) BehindKind

behind_at : (b : List ℕ) × BehindAt b
behind_at = (little_bytes 8 0 ++ 1 ∷ [], record { value = 0; front = little_bytes 8 0; behind = 1 ∷ []; spelled = record { low = omega arith; high = omega arith; is = refl }; followed = record { value = 1; spelled = record { low = omega arith; high = omega arith; is = refl } }; is = refl })

on_walk : (b : List ℕ) × OnWalk b
on_walk = let on = behind_at in (0 ∷ on.0, record { value = 0; front = 0 ∷ []; behind = on.0; spelled = record { low = omega arith; high = omega arith; is = refl }; followed = on.1; is = refl })

behind_kind : (n : ℕ) → (b : List ℕ) × BehindKind n b
behind_kind zero = ([], refl)
behind_kind (suc n) = on_walk

-- NO WALK, and a walk
abbrev pub walk_with : ℕ → ℕ → ℕ → Walk
walk_with at address hops = record { at = at; address = address; hops = hops }

abbrev is_none : Option Walk → Type 0
is_none None = Unit {0}
is_none (Some w) = ⊥

none_spelled : IsWalkSpelled None (0 ∷ [])
none_spelled = record { good = λ w is. absurd (subst is_none is tt); address = λ w is. absurd (subst is_none is tt); is = refl }

abbrev walk_in : Walk → Option Walk → Walk
walk_in w None = w
walk_in w (Some v) = v

module _ (at address hops : ℕ) (small : at ≤ 63) (fits : address ≤ last_number) (some : 1 ≤ hops) (few : hops ≤ 63) where
  keeps : (w : Walk) → w ≡ walk_with at address hops → IsWalkOver IsNumber w × (w.address < 2 ^ 64)
  keeps w e = subst (λ (v : Walk). IsWalkOver IsNumber v × (v.address < 2 ^ 64)) (sym e) (record { at = omega (arith, small); some = some; hops = few }, omega (arith, fits))

  some_spelled : IsWalkSpelled (Some (walk_with at address hops)) (walk_bytes (Some (walk_with at address hops)))
  some_spelled = record {
    good = λ w is. (keeps w (sym (ap (walk_in w) is))).0;
    address = λ w is. (keeps w (sym (ap (walk_in w) is))).1;
    is = refl;
  }

walk_of : (y : List ℕ) → WalkFields y → Spells IsWalkSpelled y
walk_of y f = by f.value f.behind f.followed (joined f.is f.spelled.is refl) f.spelled.high
  where
    by : (n : ℕ) (b : List ℕ) → BehindKind n b → y ≡ n ∷ b → n ≤ 1 → Spells IsWalkSpelled y
    by zero b none is few = record { value = None; spelled = subst (IsWalkSpelled None) (sym (is ∙ ap (λ (l : List ℕ). 0 ∷ l) none)) none_spelled }
    by (suc n) b g is few =
        let one : suc n ≡ 1 = omega (arith, few) in
        let h = g.followed in
        let k = h.followed in
        let v = Some (walk_with g.value h.value k.value) in
        record {
          value = v;
          spelled = subst (IsWalkSpelled v) (sym (is ∙ (λ i. one i ∷ (joined g.is g.spelled.is (joined h.is h.spelled.is k.spelled.is)) i)))
              (some_spelled g.value h.value k.value g.spelled.high h.spelled.high k.spelled.low k.spelled.high);
        }

fields_of : (y : List ℕ) → Spells IsWalkSpelled y → WalkFields y
fields_of y s = by s.value s.spelled.good s.spelled.address s.spelled.is
  where
    by : (v : Option Walk) → ForSome v (IsWalkOver IsNumber) → ForSome v (λ (w : Walk). w.address < 2 ^ 64) → y ≡ walk_bytes v → WalkFields y
    by None good address is = record { value = 0; front = 0 ∷ []; behind = []; spelled = record { low = omega arith; high = omega arith; is = refl }; followed = refl; is = is }
    by (Some w) good address is =
        let g = good w refl in
        let small = g.at in
        let fits = address w refl in
        record {
          value = 1;
          front = 1 ∷ [];
          behind = w.at ∷ little_bytes 8 w.address ++ w.hops ∷ [];
          spelled = record { low = omega arith; high = omega arith; is = refl };
          followed = record {
            value = w.at;
            front = w.at ∷ [];
            behind = little_bytes 8 w.address ++ w.hops ∷ [];
            spelled = record { low = omega arith; high = omega (arith, small); is = refl };
            followed = record {
              value = w.address;
              front = little_bytes 8 w.address;
              behind = w.hops ∷ [];
              spelled = record { low = omega arith; high = omega (arith, fits); is = refl };
              followed = record { value = w.hops; spelled = record { low = g.some; high = g.hops; is = refl } };
              is = refl;
            };
            is = refl;
          };
          is = is;
        }

module _ (bytes b1 b2 b3 behind : List ℕ) (kind at address hops : ℕ) where
  on : (kind ≡ 0 → ⊥) → IsRefused OnWalk b1 behind → IsRefused (BehindKind kind) b1 behind
  on some r = by kind some
    where
      by : (n : ℕ) → (n ≡ 0 → ⊥) → IsRefused (BehindKind n) b1 behind
      by zero other = absurd (other refl)
      by (suc n) other = r

  pub kind_refused : IsRefused (Spells (IsByteIn 0 1)) bytes behind → IsRefused (Spells IsWalkSpelled) bytes behind
  kind_refused r = refused_as walk_of fields_of (refused_here (λ v a f. behind_kind v) r)

  pub at_refused : (kind ≡ 0 → ⊥) → IsFound (IsByteIn 0 1) bytes kind b1 → IsRefused (Spells (IsByteIn 0 63)) b1 behind → IsRefused (Spells IsWalkSpelled) bytes behind
  at_refused some f r = refused_as walk_of fields_of (refused_later (byte_tells 0 1) f (on some (refused_here (λ v a g. behind_at) r)))

  pub address_refused : (kind ≡ 0 → ⊥) → IsFound (IsByteIn 0 1) bytes kind b1 → IsFound (IsByteIn 0 63) b1 at b2 → IsRefused (Spells (IsNumberIn 8 0 last_number)) b2 behind
      → IsRefused (Spells IsWalkSpelled) bytes behind
  address_refused some f g r =
      refused_as walk_of fields_of (refused_later (byte_tells 0 1) f (on some (refused_later (byte_tells 0 63) g (refused_here (λ v a h. some_byte 1 63 (omega arith)) r))))

  pub hops_refused : (kind ≡ 0 → ⊥) → IsFound (IsByteIn 0 1) bytes kind b1 → IsFound (IsByteIn 0 63) b1 at b2 → IsFound (IsNumberIn 8 0 last_number) b2 address b3
      → IsRefused (Spells (IsByteIn 1 63)) b3 behind → IsRefused (Spells IsWalkSpelled) bytes behind
  hops_refused some f g h r =
      refused_as walk_of fields_of (refused_later (byte_tells 0 1) f (on some (refused_later (byte_tells 0 63) g (refused_later (tells 8 0 last_number (omega arith)) h r))))

pub some_walk : (b : List ℕ) × Spells IsWalkSpelled b
some_walk = (0 ∷ [], record { value = None; spelled = none_spelled })
