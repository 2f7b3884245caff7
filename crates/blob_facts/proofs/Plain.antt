-- Lists of items that don't rest on each other.
use Rattle.std.proofs.Common.{◌≡◌, ◌<◌, ◌≤◌, ℕ, zero, suc, ◌+◌, ◌-◌, List, [], ◌∷◌, ◌++◌, length, refl, sym, ap, subst, arith}
use Rattle.std.specs.Prelude.{All}
use Rattle.std.specs.List.{AllByRecursion, flat_map}
use Rattle.std.proofs.lemmas.List.Elements.{All-cons, All-nil}
use Rattle.blob_facts.specs.Fields.{IsFound, IsRefused, Items, Spells}
use Rattle.blob_facts.proofs.Items.{HasRead, all_read, one_more, one_refused}
use Rattle.blob_facts.proofs.Sequences.{TellsApart, joined}

module _ {A : Type 0} (Item : A → List ℕ → Type 0) where
  abbrev pub Each : Unit {0} → ℕ → A → List ℕ → Type 0
  Each s n = Item

  abbrev pub same : Unit {0} → A → Unit {0}
  same s v = tt

  -- so many items
  abbrev pub Plain : ℕ → List A → List ℕ → Type 0
  Plain n = Items Each same n tt

  -- a reader of so many items at the item of a place, and those before it
  abbrev pub PlainSoFar : ℕ → List ℕ → ℕ → List A → List ℕ → Type 0
  PlainSoFar count bytes place vs rest = HasRead Each same count tt bytes vs (count - place) tt rest

  module _ (count : ℕ) (bytes : List ℕ) where
    plain_still : (place : ℕ) (vs : List A) (rest : List ℕ) → place < count → PlainSoFar count bytes place vs rest → HasRead Each same count tt bytes vs (suc (count - place - 1)) tt rest
    plain_still place vs rest more so_far = subst (λ n. HasRead Each same count tt bytes vs n tt rest) (let e : count - place ≡ suc (count - place - 1) = omega (arith, more) in e) so_far

    pub plain_more : (place : ℕ) (vs : List A) (rest behind : List ℕ) (v : A) (ws : List A) → TellsApart Item → place < count → PlainSoFar count bytes place vs rest
        → IsFound Item rest v behind → ws ≡ vs ++ v ∷ [] → PlainSoFar count bytes (place + 1) ws behind
    plain_more place vs rest behind v ws tells more so_far f is =
        subst (λ (l : List A). PlainSoFar count bytes (place + 1) l behind) (sym is)
        (subst (λ n. HasRead Each same count tt bytes (vs ++ v ∷ []) n tt behind) (let e : count - place - 1 ≡ count - (place + 1) = omega arith in e)
        (one_more Each same count tt bytes vs (count - place - 1) tt rest v behind tells (plain_still place vs rest more so_far) f))

    pub plain_all : (place : ℕ) (vs : List A) (rest : List ℕ) → count ≤ place → PlainSoFar count bytes place vs rest → IsFound (Plain count) bytes vs rest
    plain_all place vs rest end so_far =
        all_read Each same count tt bytes vs tt rest (subst (λ n. HasRead Each same count tt bytes vs n tt rest) (let e : count - place ≡ 0 = omega (arith, end) in e) so_far)

  module _ (Good : A → Type 0) (spell : A → List ℕ) (good : (v : A) (a : List ℕ) → Item v a → Good v × (a ≡ spell v)) (item : (v : A) → Good v → Item v (spell v)) where
    pub plain_good : (n : ℕ) (vs : List A) (y : List ℕ) → Plain n vs y → (length vs ≡ n) × All Good vs × (y ≡ flat_map spell vs)
    plain_good zero [] y h = (refl, All-nil Good, h.1)
    plain_good zero (v ∷ vs) y h = absurd (let e = ap length h.0 in omega (arith, e))
    plain_good (suc n) [] y h = absurd h
    plain_good (suc n) (v ∷ vs) y h =
        let g = good v h.0 h.2 in
        let more = plain_good n vs h.1 h.3 in
        let len = more.0 in
        (omega (arith, len), All-cons Good v vs g.0 more.1, joined h.4 g.1 more.2)

    pub plain_items : (vs : List A) → AllByRecursion Good vs → Plain (length vs) vs (flat_map spell vs)
    plain_items [] all = (refl, refl)
    plain_items (v ∷ vs) all = (spell v, flat_map spell vs, item v all.0, plain_items vs all.1, refl)

    module _ (some : (v : A) × Good v) where
      pub some_plain : (n : ℕ) → (b : List ℕ) × Spells (Plain n) b
      some_plain zero = ([], record { value = []; spelled = (refl, refl) })
      some_plain (suc n) =
          let more = some_plain n in
          (spell some.0 ++ more.0, record { value = some.0 ∷ more.1.value; spelled = (spell some.0, more.0, item some.0 some.1, more.1.spelled, refl) })

      pub plain_refused : (count : ℕ) (bytes : List ℕ) (place : ℕ) (vs : List A) (rest behind : List ℕ) → place < count → PlainSoFar count bytes place vs rest
          → IsRefused (Spells Item) rest behind → IsRefused (Spells (Plain count)) bytes behind
      plain_refused count bytes place vs rest behind more so_far r =
          one_refused Each same count tt bytes vs (count - place - 1) tt rest behind (λ v a f. some_plain (count - place - 1)) (plain_still count bytes place vs rest more so_far) r
