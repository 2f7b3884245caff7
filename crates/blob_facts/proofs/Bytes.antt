-- Single bytes.
use Rattle.std.proofs.Common.{◌≡◌, ◌≤◌, ℕ, suc, List, [], ◌∷◌, ◌++◌, length, refl, sym, ap, subst, ◌∙◌, arith}
use Rattle.std.specs.Prelude.{slice_index, drop}
use Rattle.blob_facts.specs.Fields.{IsByteIn, IsFound, IsRefused, Spells}
use Rattle.blob_facts.proofs.Sequences.{TellsApart}

-- a field of one byte
pub record IsOneByte {A : Type 0} (Field : A → List ℕ → Type 0) : Type 0 where
  pub byte : (v : A) (a : List ℕ) → Field v a → (b : ℕ) × (a ≡ b ∷ [])

pub empty : (bytes : List ℕ) → length bytes ≡ 0 → bytes ≡ []
empty [] e = refl
empty (b ∷ bytes) e = absurd (omega (arith, e))

module _ {A : Type 0} (Field : A → List ℕ → Type 0) (one : IsOneByte Field) (some : (a : List ℕ) × Spells Field a) where
  -- the bytes end
  pub byte_wanting : (bytes : List ℕ) → length bytes ≡ 0 → IsRefused (Spells Field) bytes bytes
  byte_wanting bytes none =
      subst (λ (l : List ℕ). IsRefused (Spells Field) l l) (sym (empty bytes none)) (record {
        front = [];
        stuck = record {
          begins = some;
          stops = λ whole more rest spelled same goes.
              let b = one.byte spelled.value whole spelled.spelled in
              let e : suc (length more) ≡ 0 = ap (λ (l : List ℕ). length l) (ap (λ (l : List ℕ). l ++ more) (sym b.1) ∙ same ∙ goes) in
              omega (arith, e);
        };
        is = refl;
      })

  -- a byte comes that spells nothing
  pub byte_refused : (bytes : List ℕ) (byte : ℕ) (behind : List ℕ) → bytes ≡ byte ∷ behind → ((v : A) → Field v (byte ∷ []) → ⊥) → IsRefused (Spells Field) bytes bytes
  byte_refused bytes byte behind is none =
      subst (λ (l : List ℕ). IsRefused (Spells Field) l l) (sym is) (record {
        front = [];
        stuck = record {
          begins = some;
          stops = λ whole more rest spelled same goes.
              let b = one.byte spelled.value whole spelled.spelled in
              let first : b.0 ≡ byte = ap (λ (l : List ℕ). slice_index l 0) (ap (λ (l : List ℕ). l ++ more) (sym b.1) ∙ same ∙ goes.1) in
              none spelled.value (subst (λ (l : List ℕ). Field spelled.value l) (b.1 ∙ ap (λ n. n ∷ []) first) spelled.spelled);
        };
        is = refl;
      })

-- BYTES WITHIN BOUNDS
pub one_byte : (least most : ℕ) → IsOneByte (IsByteIn least most)
one_byte least most = record { byte = λ v a f. (v, f.is) }

pub some_byte : (least most : ℕ) → least ≤ most → (a : List ℕ) × Spells (IsByteIn least most) a
some_byte least most some = (least ∷ [], record { value = least; spelled = record { low = omega arith; high = some; is = refl } })

pub byte_tells : (least most : ℕ) → TellsApart (IsByteIn least most)
byte_tells least most = record {
  told = λ v w a b x y f g same.
      let e : v ∷ x ≡ w ∷ y = ap (λ (l : List ℕ). l ++ x) (sym f.is) ∙ same ∙ ap (λ (l : List ℕ). l ++ y) g.is in
      (ap (λ (l : List ℕ). slice_index l 0) e, ap (λ (l : List ℕ). drop 1 l) e);
}

pub byte_found : (least most byte : ℕ) (bytes behind : List ℕ) → bytes ≡ byte ∷ behind → least ≤ byte → byte ≤ most → IsFound (IsByteIn least most) bytes byte behind
byte_found least most byte bytes behind is low high = record { front = byte ∷ []; spelled = record { low = low; high = high; is = refl }; is = is }

pub byte_outside : (least most byte : ℕ) → (least ≤ byte → byte ≤ most → ⊥) → (v : ℕ) → IsByteIn least most v (byte ∷ []) → ⊥
byte_outside least most byte none v f =
    let e : byte ≡ v = ap (λ (l : List ℕ). slice_index l 0) f.is in
    let l = f.low in
    let h = f.high in
    none (omega (arith, e, l)) (omega (arith, e, h))
