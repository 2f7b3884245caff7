-- Counted edges in a list, pair by pair.
use Rattle.std.proofs.Common.{◌≡◌, ℕ, ◌+◌, ◌*◌, ◌<◌, ◌≤◌, Bool, true, false, ◌&&◌, ◌||◌, ◌==◌, nat_lt, if◌then◌else◌, List, [], ◌∷◌, ◌++◌, refl, sym, ap, ◌∙◌, ⊎_elim, arith}
use Rattle.std.proofs.lemmas.Bool.{cases_eq, cases_lt}
use Rattle.std.proofs.lemmas.Bool.Decides.{nat_tests}
use Rattle.std.proofs.lemmas.List.Elements.{All-nil, All-push}
use Rattle.model_circles.specs.Containers.{IsAmongContainers}
use Rattle.base_types.specs.Edges.{Edges}
use Rattle.plain_states.specs.Born.{AreAscending, AreEdges, is_before}
use Rattle.plain_states.specs.Plains.{edges_of}
use Rattle.plain_states.specs.declared.plain.Edge.{Edge}

-- each edge's pair is before the pair n, and its second number is a container's
abbrev pub AreBefore : ℕ → List Edge → Type 0
AreBefore n [] = Unit {0}
AreBefore n (e ∷ es) = (41 * e.from + e.to < n) × (e.to < 41) × AreBefore n es

-- TESTS

apart : (a b c d n : ℕ) → 41 * a + b < n → n ≤ 41 * c + d → (a == c && b == d) ≡ false
apart a b c d n low high = grind (arith, nat_tests)

wide : (a b c d : ℕ) → b < 41 → 41 ≤ d → (a == c && b == d) ≡ false
wide a b c d low high = grind (arith, nat_tests)

other_pair : (a b c d n : ℕ) → 41 * a + b ≡ n → 41 * c + d < n → (a == c && b == d) ≡ false
other_pair a b c d n is low = grind (arith, nat_tests)

same_pair : (a b c d : ℕ) → a ≡ c → b ≡ d → (a == c && b == d) ≡ true
same_pair a b c d e f = grind (arith, nat_tests)

-- LISTS

none_before : (es : List Edge) (n c d : ℕ) → AreBefore n es → n ≤ 41 * c + d → edges_of es c d ≡ 0
none_before [] n c d before le = refl
none_before (e ∷ es) n c d (low, to, rest) le =
    ap (λ (b : Bool). if b then e.count else edges_of es c d) (apart e.from e.to c d n low le) ∙ none_before es n c d rest le

none_wide : (es : List Edge) (n c d : ℕ) → AreBefore n es → 41 ≤ d → edges_of es c d ≡ 0
none_wide [] n c d before le = refl
none_wide (e ∷ es) n c d (low, to, rest) le =
    ap (λ (b : Bool). if b then e.count else edges_of es c d) (wide e.from e.to c d to le) ∙ none_wide es n c d rest le

-- an edge behind the others is seen by its own pair alone
last_other : (es : List Edge) (e : Edge) (c d : ℕ) → (e.from == c && e.to == d) ≡ false → edges_of (es ++ e ∷ []) c d ≡ edges_of es c d
last_other [] e c d misses = ap (λ (b : Bool). if b then e.count else 0) misses
last_other (x ∷ es) e c d misses = ap (λ (n : ℕ). if x.from == c && x.to == d then x.count else n) (last_other es e c d misses)

last_here : (es : List Edge) (e : Edge) (n c d : ℕ) → AreBefore n es → n ≤ 41 * c + d → (e.from == c && e.to == d) ≡ true → edges_of (es ++ e ∷ []) c d ≡ e.count
last_here [] e n c d before le meets = ap (λ (b : Bool). if b then e.count else 0) meets
last_here (x ∷ es) e n c d (low, to, rest) le meets =
    ap (λ (b : Bool). if b then x.count else edges_of (es ++ e ∷ []) c d) (apart x.from x.to c d n low le) ∙ last_here es e n c d rest le meets

before_more : (es : List Edge) (n m : ℕ) → n ≤ m → AreBefore n es → AreBefore m es
before_more [] n m le before = tt
before_more (e ∷ es) n m le (low, to, rest) = (omega (arith, low, le), to, before_more es n m le rest)

before_push : (es : List Edge) (e : Edge) (n m : ℕ) → n ≤ m → 41 * e.from + e.to < m → e.to < 41 → AreBefore n es → AreBefore m (es ++ e ∷ [])
before_push [] e n m le here to before = (here, to, tt)
before_push (x ∷ es) e n m le here to (low, also, rest) = (omega (arith, low, le), also, before_push es e n m le here to rest)

-- ORDER

-- an earlier pair is before a later one
pair_before : (a b c d n : ℕ) → 41 * a + b < n → 41 * c + d ≡ n → d < 41 → (nat_lt a c || a == c && nat_lt b d) ≡ true
pair_before a b c d n low is to = grind (arith, nat_tests)

all_are_before : (es : List Edge) (e : Edge) (n : ℕ) → AreBefore n es → 41 * e.from + e.to ≡ n → e.to < 41 → AreAscending es → AreAscending (es ++ e ∷ [])
all_are_before [] e n before is small up = (All-nil (λ f. is_before e f ≡ true), tt)
all_are_before (x ∷ es) e n (low, to, rest) is small up =
    (All-push (λ f. is_before x f ≡ true) es e up.0 (pair_before x.from x.to e.from e.to n low is small), all_are_before es e n rest is small up.1)

edges_push : (es : List Edge) (e : Edge) (n : ℕ) → AreBefore n es → 41 * e.from + e.to ≡ n → e.to < 41 → 1 ≤ e.count → AreEdges es → AreEdges (es ++ e ∷ [])
edges_push es e n before is small some are = record {
  ascending = all_are_before es e n before is small are.ascending;
  counts = All-push (λ (f : Edge). 1 ≤ f.count) es e are.counts some;
}

-- THE EDGES THAT ARE COUNTED SO FAR
pub record AreCountedTo (f : Edges) (es : List Edge) (n : ℕ) : Type 0 where
  pub before : AreBefore n es
  pub listed : AreEdges es
  pub same : (c d : ℕ) → d < 41 → 41 * c + d < n → edges_of es c d ≡ f c d
  pub inside : 0 < n → IsAmongContainers f

module _ (f : Edges) (es : List Edge) (n a b : ℕ) (so_far : AreCountedTo f es n) (inside : IsAmongContainers f) (pair : 41 * a + b ≡ n) (to : b < 41) where
  pub counted_more : (count : ℕ) → 1 ≤ count → count ≡ f a b → AreCountedTo f (es ++ record { from = a; to = b; count = count } ∷ []) (n + 1)
  counted_more count some is =
      let e : Edge = record { from = a; to = b; count = count } in
      record {
        before = before_push es e n (n + 1) (omega arith) (omega (arith, pair)) to so_far.before;
        listed = edges_push es e n so_far.before pair to some so_far.listed;
        same = λ c d small lt. ⊎_elim
            (λ (less : 41 * c + d < n). last_other es e c d (other_pair a b c d n pair less) ∙ so_far.same c d small less)
            (λ (high : n ≤ 41 * c + d).
            let first : a ≡ c = omega (arith, pair, lt, high, small, to) in
            let second : b ≡ d = omega (arith, pair, lt, high, small, to) in
            last_here es e n c d so_far.before high (same_pair a b c d first second) ∙ (is ∙ (ap (λ x. f x b) first ∙ ap (f c) second)))
            (cases_lt (41 * c + d) n);
        inside = λ some. inside;
      }

  pub counted_none : f a b ≡ 0 → AreCountedTo f es (n + 1)
  counted_none zero = record {
    before = before_more es n (n + 1) (omega arith) so_far.before;
    listed = so_far.listed;
    same = λ c d small lt. ⊎_elim
        (λ (less : 41 * c + d < n). so_far.same c d small less)
        (λ (high : n ≤ 41 * c + d).
        let first : a ≡ c = omega (arith, pair, lt, high, small, to) in
        let second : b ≡ d = omega (arith, pair, lt, high, small, to) in
        none_before es n c d so_far.before high ∙ (sym zero ∙ (ap (λ x. f x b) first ∙ ap (f c) second)))
        (cases_lt (41 * c + d) n);
    inside = λ some. inside;
  }

-- no edge is counted past the containers
outside : (f : Edges) (c d : ℕ) → IsAmongContainers f → (c < 41 → d < 41 → ⊥) → f c d ≡ 0
outside f c d inside far = ⊎_elim
    (λ (none : f c d ≡ 0). none)
    (λ (some : f c d ≡ 0 → ⊥). absurd (let positive : 0 < f c d = omega (arith, some) in let all = inside c d positive in far all.1 all.3))
    (cases_eq (f c d) 0)

pub all_counted : (f : Edges) (es : List Edge) (n : ℕ) → n ≡ 1681 → AreCountedTo f es n → edges_of es ≡ f
all_counted f es n is all = λ i c d. at c d i
  where
    at : (c d : ℕ) → edges_of es c d ≡ f c d
    at c d = ⊎_elim
        (λ (small : d < 41). ⊎_elim
        (λ (lt : 41 * c + d < n). all.same c d small lt)
        (λ (high : n ≤ 41 * c + d). none_before es n c d all.before high ∙ sym (outside f c d (all.inside (omega (arith, is))) (λ low lower. omega (arith, is, high, low, lower))))
        (cases_lt (41 * c + d) n))
        (λ (wide : 41 ≤ d). none_wide es n c d all.before wide ∙ sym (outside f c d (all.inside (omega (arith, is))) (λ low lower. omega (arith, wide, lower))))
        (cases_lt d 41)
