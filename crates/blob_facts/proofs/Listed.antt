-- Lists of items that don't rest on each other, with their number before them.
use Rattle.std.proofs.Common.{◌≡◌, ◌<◌, ◌≤◌, ℕ, List, [], ◌∷◌, ◌++◌, length, refl, sym, ap, ◌∙◌, arith}
use Rattle.std.specs.List.{flat_map}
use Rattle.blob_grammar.proofs.Telling.{Tells, each, list}
use Rattle.blob_facts.specs.Fields.{IsByteIn, IsFound, IsRefused, Spells, Then}
use Rattle.blob_facts.specs.Loci.{AreListed}
use Rattle.blob_facts.proofs.Bytes.{byte_tells}
use Rattle.blob_facts.proofs.Plain.{Plain, PlainSoFar, plain_good, plain_items, plain_refused, some_plain}
use Rattle.blob_facts.proofs.Sequences.{TellsApart, joined, refused_as, refused_here, refused_later}

pub listed_tells : {A : Type 0} (Good : A → Type 0) (spell : A → List ℕ) (most : ℕ) → ((x y : A) → Good x → Good y → Tells (spell x) (spell y) (x ≡ y)) → TellsApart (AreListed Good spell most)
listed_tells Good spell most one = record {
  told = λ v w a b x y f g same.
      (list spell Good one v w (each Good v f.good) (each Good w g.good)).told x y
      (ap (λ (l : List ℕ). l ++ x) (sym f.is) ∙ same ∙ ap (λ (l : List ℕ). l ++ y) g.is);
}

module _ {A : Type 0} (Item : A → List ℕ → Type 0) (Good : A → Type 0) (spell : A → List ℕ)
    (good : (v : A) (a : List ℕ) → Item v a → Good v × (a ≡ spell v)) (item : (v : A) → Good v → Item v (spell v)) (some : (v : A) × Good v) (most : ℕ) where
  abbrev pub Numbered : List ℕ → Type 0
  Numbered = Then (IsByteIn 0 most) (λ n. Spells (Plain Item n))

  are_listed : (n : ℕ) (vs : List A) (y z : List ℕ) → n ≤ most → Plain Item n vs y → z ≡ n ∷ y → AreListed Good spell most vs z
  are_listed n vs y z few items is =
      let g = plain_good Item Good spell good item n vs y items in
      let len = g.0 in
      record { few = omega (arith, len, few); good = g.1; is = is ∙ (λ i. sym g.0 i ∷ g.2 i) }

  of_numbered : (y : List ℕ) → Numbered y → Spells (AreListed Good spell most) y
  of_numbered y l = record { value = l.followed.value; spelled = are_listed l.value l.followed.value l.behind y l.spelled.high l.followed.spelled (joined l.is l.spelled.is refl) }

  to_numbered : (y : List ℕ) → Spells (AreListed Good spell most) y → Numbered y
  to_numbered y s =
      let vs = s.value in
      record {
        value = length vs;
        front = length vs ∷ [];
        behind = flat_map spell vs;
        spelled = record { low = omega arith; high = s.spelled.few; is = refl };
        followed = record { value = vs; spelled = plain_items Item Good spell good item vs (each Good vs s.spelled.good) };
        is = s.spelled.is;
      }

  pub number_refused : (bytes behind : List ℕ) → IsRefused (Spells (IsByteIn 0 most)) bytes behind → IsRefused (Spells (AreListed Good spell most)) bytes behind
  number_refused bytes behind r = refused_as of_numbered to_numbered (refused_here (λ n a f. some_plain Item Good spell good item some n) r)

  pub item_refused : (bytes rest behind : List ℕ) (count place : ℕ) (vs : List A) (now : List ℕ) → IsFound (IsByteIn 0 most) bytes count rest → place < count
      → PlainSoFar Item count rest place vs now → IsRefused (Spells Item) now behind → IsRefused (Spells (AreListed Good spell most)) bytes behind
  item_refused bytes rest behind count place vs now f more so_far r =
      refused_as of_numbered to_numbered (refused_later (byte_tells 0 most) f (plain_refused Item Good spell good item some count rest place vs now behind more so_far r))

  pub list_found : (bytes rest behind : List ℕ) (count : ℕ) (vs : List A) → IsFound (IsByteIn 0 most) bytes count rest → IsFound (Plain Item count) rest vs behind
      → IsFound (AreListed Good spell most) bytes vs behind
  list_found bytes rest behind count vs f g = record {
    front = count ∷ g.front;
    spelled = are_listed count vs g.front (count ∷ g.front) f.spelled.high g.spelled refl;
    is = joined f.is f.spelled.is g.is;
  }
