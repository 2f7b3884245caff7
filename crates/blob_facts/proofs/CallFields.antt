-- Calls, field by field, and lists of them.
use Rattle.std.proofs.Common.{◌≡◌, ◌<◌, ℕ, List, [], ◌∷◌, ◌++◌, refl, sym, ap, ◌∙◌, arith}
use Rattle.act_atlas_laws.specs.base_types.declared.instructions.Call.{Call}
use Rattle.blob_grammar.specs.Forms.{IsNumber}
use Rattle.blob_grammar.specs.Shapes.{IsCallOver}
use Rattle.blob_grammar.specs.Spelling.{call_bytes}
use Rattle.blob_grammar.proofs.Fields.{call}
use Rattle.blob_facts.specs.Fields.{IsByteIn, IsFound, IsRefused, Spells, Then}
use Rattle.blob_facts.specs.Loci.{AreCallsSpelled, IsCallSpelled}
use Rattle.blob_facts.proofs.Bytes.{byte_tells, some_byte}
use Rattle.blob_facts.proofs.Listed.{item_refused, list_found, listed_tells, number_refused}
use Rattle.blob_facts.proofs.Plain.{Plain, PlainSoFar}
use Rattle.blob_facts.proofs.Sequences.{TellsApart, chain, joined, refused_as, refused_here, refused_later}

-- ONE CALL
abbrev CallFields : List ℕ → Type 0
CallFields = Then (IsByteIn 0 63) (λ _. Spells (IsByteIn 0 128))

abbrev pub call_with : ℕ → ℕ → Call
call_with container place = record { container = container; place = place }

call_of : (y : List ℕ) → CallFields y → Spells IsCallSpelled y
call_of y f =
    let g = f.followed in
    let a = f.spelled.high in
    record { value = call_with f.value g.value; spelled = record { good = record { container = omega (arith, a); place = g.spelled.high }; is = joined f.is f.spelled.is g.spelled.is } }

fields_of : (y : List ℕ) → Spells IsCallSpelled y → CallFields y
fields_of y s =
    let v = s.value in
    let a = s.spelled.good.container in
    record {
      value = v.container;
      front = v.container ∷ [];
      behind = v.place ∷ [];
      spelled = record { low = omega arith; high = omega (arith, a); is = refl };
      followed = record { value = v.place; spelled = record { low = omega arith; high = s.spelled.good.place; is = refl } };
      is = s.spelled.is;
    }

module _ (bytes rest behind : List ℕ) where
  pub container_refused : IsRefused (Spells (IsByteIn 0 63)) bytes behind → IsRefused (Spells IsCallSpelled) bytes behind
  container_refused r = refused_as call_of fields_of (refused_here (λ v a f. some_byte 0 128 (omega arith)) r)

  pub place_refused : (container : ℕ) → IsFound (IsByteIn 0 63) bytes container rest → IsRefused (Spells (IsByteIn 0 128)) rest behind → IsRefused (Spells IsCallSpelled) bytes behind
  place_refused container f r = refused_as call_of fields_of (refused_later (byte_tells 0 63) f r)

  pub call_found : (container place : ℕ) → IsFound (IsByteIn 0 63) bytes container rest → IsFound (IsByteIn 0 128) rest place behind → IsFound IsCallSpelled bytes (call_with container place) behind
  call_found container place f g =
      let a = f.spelled.high in
      record {
        front = container ∷ place ∷ [];
        spelled = record { good = record { container = omega (arith, a); place = g.spelled.high }; is = refl };
        is = chain (place ∷ []) behind f.is f.spelled.is (joined g.is g.spelled.is refl);
      }

pub call_tells : TellsApart IsCallSpelled
call_tells = record {
  told = λ v w a b x y f g same. (call v w tt tt).told x y (ap (λ (l : List ℕ). l ++ x) (sym f.is) ∙ same ∙ ap (λ (l : List ℕ). l ++ y) g.is);
}

-- LISTS
call_good : (v : Call) (a : List ℕ) → IsCallSpelled v a → IsCallOver IsNumber v × (a ≡ call_bytes v)
call_good v a f = (f.good, f.is)

call_item : (v : Call) → IsCallOver IsNumber v → IsCallSpelled v (call_bytes v)
call_item v good = record { good = good; is = refl }

some_call : (v : Call) × IsCallOver IsNumber v
some_call = (call_with 0 0, record { container = omega arith; place = omega arith })

pub calls_tell : (most : ℕ) → TellsApart (AreCallsSpelled most)
calls_tell most = listed_tells (IsCallOver IsNumber) call_bytes most (λ x y f g. call x y tt tt)

module _ (most : ℕ) (bytes rest behind : List ℕ) where
  pub calls_refused : IsRefused (Spells (IsByteIn 0 most)) bytes behind → IsRefused (Spells (AreCallsSpelled most)) bytes behind
  calls_refused = number_refused IsCallSpelled (IsCallOver IsNumber) call_bytes call_good call_item some_call most bytes behind

  pub one_call_refused : (count place : ℕ) (vs : List Call) (now : List ℕ) → IsFound (IsByteIn 0 most) bytes count rest → place < count
      → PlainSoFar IsCallSpelled count rest place vs now → IsRefused (Spells IsCallSpelled) now behind → IsRefused (Spells (AreCallsSpelled most)) bytes behind
  one_call_refused = item_refused IsCallSpelled (IsCallOver IsNumber) call_bytes call_good call_item some_call most bytes rest behind

  pub calls_found : (count : ℕ) (vs : List Call) → IsFound (IsByteIn 0 most) bytes count rest → IsFound (Plain IsCallSpelled count) rest vs behind → IsFound (AreCallsSpelled most) bytes vs behind
  calls_found = list_found IsCallSpelled (IsCallOver IsNumber) call_bytes call_good call_item some_call most bytes rest behind
