-- One lent cell after another hears the present history.
use Rattle.std.proofs.Common.{◌≡◌, ℕ, zero, suc, ◌+◌, ◌<◌, List, [], ◌∷◌, map, slice_get, slice_set, Some, sym, ap, subst, ◌∙◌, arith}
use Rattle.std.proofs.lemmas.List.{map-set}
use Rattle.std.proofs.lemmas.Option.{same_Some, slice_get_within}
use Rattle.base_types.specs.declared.histories.Entry.{Entry}
use Rattle.thread_cells.specs.Locked.{Keeping}
use Rattle.thread_desk_stables.specs.Rows.{AllHeard}
use Rattle.thread_stables.specs.thread_settling.Rows.{IsRow}

-- those below the number have
abbrev pub HeardBelow : List Entry → ℕ → List Keeping → Type 0
HeardBelow told n ks = (i : ℕ) (k : Keeping) → slice_get ks i ≡ Some k → i < n → k.known ≡ told

heard_set : (told : List Entry) (ks : List Keeping) (n : ℕ) (m : Keeping) → HeardBelow told n ks → m.known ≡ told → HeardBelow told (suc n) (slice_set ks n m)
heard_set told [] n m all here i k is lt = absurd (cc is)
heard_set told (z ∷ zs) zero m all here zero k is lt = subst (λ (w : Keeping). w.known ≡ told) (same_Some m k is) here
heard_set told (z ∷ zs) zero m all here (suc i) k is lt = absurd (omega (arith, lt))
heard_set told (z ∷ zs) (suc n) m all here zero k is lt = all zero k is (omega arith)
heard_set told (z ∷ zs) (suc n) m all here (suc i) k is lt =
    heard_set told zs n m (λ j w at low. all (suc j) w at (omega (arith, low))) here i k is (omega (arith, lt))

-- one more, lent and come back
pub heard_back : {A : Type 0} (f : A → Keeping) (told : List Entry) (gs : List A) (n : ℕ) (g : A) → HeardBelow told n (map f gs) → (f g).known ≡ told → HeardBelow told (n + 1) (map f (slice_set gs n g))
heard_back f told gs n g all here =
    let more : suc n ≡ n + 1 = omega arith in
    subst (λ ks. HeardBelow told (n + 1) ks) (sym (map-set f gs n g)) (subst (λ m. HeardBelow told m (slice_set (map f gs) n (f g))) more (heard_set told (map f gs) n (f g) all here))

-- all have
pub all_heard : (told : List Entry) (ks : List Keeping) (n : ℕ) → IsRow ks → HeardBelow told n ks → n ≡ 64 → AllHeard told ks
all_heard told ks n row all is i k at = all i k at (let len = row.len in let within = slice_get_within ks i k at in omega (arith, len, within, is))
