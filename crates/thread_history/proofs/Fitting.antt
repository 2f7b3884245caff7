-- What views know after one or two of them change, and that there is one chronicle.
use Rattle.std.proofs.Common.{◌≡◌, ◌≢◌, ◌⊎◌, ℕ, zero, suc, true, false, true≢false, List, [], ◌∷◌, ◌++◌, length, set, inl, inr, refl, ap, sym, ◌∙◌, subst, ⊎_elim}
use mathlib.Core.Option.{some, some-ne-none, some-injective}
use mathlib.Core.List.{IsPrefix}
use mathlib.Core.Logic.{dite}
use native.Mathlib.Decide.{ℕ_discrete}
use lib.ListN.{get_elem?}
use Rattle.thread_history.specs.declared.views.View.{View}
use Rattle.thread_history.specs.declared.views.Role.{Role}
use Rattle.thread_history.specs.declared.views.Role.TheVariants.{Chronicler, Share, Note, NoteOf, Spent}
use Rattle.atomic_table.proofs.Lists.{at_set, set_else, at_longer}
use Rattle.thread_history.specs.Rules.{Story, Knows, Fits, AllFit, IsChroniclers, IsTaken}
use Rattle.thread_history.proofs.Lists.{prefix_self}

pub off : {X : Type 0} → false ≡ true → X
off e = absurd (true≢false (sym e))

module _ {V : Type 0} where
  -- what is true of each view, by its seat
  abbrev pub AllAt : (ℕ → V → Type 0) → List V → Type 0
  AllAt P views = (seat : ℕ) (v : V) → get_elem? views seat ≡ some v → P seat v

  -- a change of one view
  pub all_set : (P Q : ℕ → V → Type 0) (views : List V) (id : ℕ) (w : V) → AllAt P views → ((j : ℕ) (u : V) → j ≢ id → P j u → Q j u) → Q id w → AllAt Q (set views id w)
  all_set P Q views id w all others mine j u e =
      ⊎_elim
      (λ (x : (j ≡ id) × (w ≡ u)). subst (λ (y : ℕ × V). Q y.0 y.1) (λ i. (sym x.0 i, x.1 i)) mine)
      (λ (x : (j ≢ id) × (get_elem? views j ≡ some u)). others j u x.0 (all j u x.1))
      (at_set views id j w u e)

  pub all_set_two : (P Q : ℕ → V → Type 0) (views : List V) (id other : ℕ) (w u : V) → AllAt P views → ((j : ℕ) (x : V) → j ≢ id → j ≢ other → P j x → Q j x) → Q id w → Q other u → AllAt Q (set (set views id w) other u)
  all_set_two P Q views id other w u all others mine theirs j y e =
      ⊎_elim
      (λ (x : (j ≡ other) × (u ≡ y)). subst (λ (z : ℕ × V). Q z.0 z.1) (λ i. (sym x.0 i, x.1 i)) theirs)
      (λ (x : (j ≢ other) × (get_elem? (set views id w) j ≡ some y)).
      ⊎_elim
      (λ (z : (j ≡ id) × (w ≡ y)). subst (λ (q : ℕ × V). Q q.0 q.1) (λ i. (sym z.0 i, z.1 i)) mine)
      (λ (z : (j ≢ id) × (get_elem? views j ≡ some y)). others j y z.0 x.0 (all j y z.1))
      (at_set views id j w y x.1))
      (at_set (set views id w) other j u y e)

module _ {A : Type 0} where
  pub all_fit_set : (t now : Story A) (views : List (View A)) (id : ℕ) (w : View A) → AllFit t views → ((j : ℕ) (u : View A) → j ≢ id → Fits t j u → Fits now j u) → Fits now id w → AllFit now (set views id w)
  all_fit_set t now = all_set (Fits t) (Fits now)

  pub all_fit_set_two : (t now : Story A) (views : List (View A)) (id other : ℕ) (w u : View A) → AllFit t views → ((j : ℕ) (x : View A) → j ≢ id → j ≢ other → Fits t j x → Fits now j x) → Fits now id w → Fits now other u → AllFit now (set (set views id w) other u)
  all_fit_set_two t now = all_set_two (Fits t) (Fits now)

  -- each view is a beginning of the chronicle's
  pub known : (t : Story A) (id : ℕ) (v : View A) (r : Role) → Knows t id v r → IsPrefix v.since t.since
  known t id v Chronicler k = subst (λ es. IsPrefix es t.since) (sym k.1) (prefix_self t.since)
  known t id v (Share x) k = k.2
  known t id v Note k = k
  known t id v (NoteOf x) k = k.1
  known t id v Spent k = k

-- A VIEW THAT IS THERE
pub set_at : {X : Type 0} (l : List X) (i : ℕ) (a b : X) → get_elem? l i ≡ some b → get_elem? (set l i a) i ≡ some a
set_at [] i a b e = absurd (some-ne-none b (sym e))
set_at (x ∷ xs) zero a b e = refl
set_at (x ∷ xs) (suc i) a b e = set_at xs i a b e

-- what stands in a list with one more: it was there, or is the last, and its place
pub at_end : {A : Type 0} (l : List A) (a b : A) (j : ℕ) → get_elem? (l ++ a ∷ []) j ≡ some b → (get_elem? l j ≡ some b) ⊎ ((j ≡ length l) × (a ≡ b))
at_end [] a b zero e = inr (refl, some-injective a b e)
at_end [] a b (suc j) e = absurd (some-ne-none b (sym e))
at_end (x ∷ xs) a b zero e = inl e
at_end (x ∷ xs) a b (suc j) e = ⊎_elim (λ h. inl h) (λ (h : (j ≡ length xs) × (a ≡ b)). inr (ap suc h.0, h.1)) (at_end xs a b j e)

-- a view of which P is true stays where another seat's view changes, and where one comes to be
module _ {V : Type 0} (P : V → Type 0) (views : List V) (c : ℕ) where
  -- P is true of the view of the seat c
  abbrev IsThere : List V → Type 0
  IsThere vs = (v : V) × (get_elem? vs c ≡ some v) × P v

  pub there_set : (id : ℕ) (v w : V) → get_elem? views id ≡ some v → (P v → P w) → IsThere views → IsThere (set views id w)
  there_set id v w at keeps there =
      dite (ℕ_discrete c id)
      (λ same.
      let is : there.0 ≡ v = some-injective there.0 v (sym there.1 ∙ ap (get_elem? views) same ∙ at) in
      (w, subst (λ k. get_elem? (set views id w) k ≡ some w) (sym same) (set_at views id w v at), keeps (subst P is there.2)))
      (λ other. (there.0, set_else views id c w other ∙ there.1, there.2))

  pub there_more : (w : V) → IsThere views → IsThere (views ++ w ∷ [])
  there_more w there = (there.0, at_longer views (w ∷ []) c there.0 there.1, there.2)

-- ONE CHRONICLE
module _ {A : Type 0} (views : List (View A)) (c : ℕ) where
  abbrev IsOne : View A → Type 0
  IsOne v = v.role ≡ Chronicler

  pub chronicle_set : (id : ℕ) (v w : View A) → get_elem? views id ≡ some v → (v.role ≡ Chronicler → w.role ≡ Chronicler) → IsChroniclers c views → IsChroniclers c (set views id w)
  chronicle_set = there_set IsOne views c

  pub chronicle_more : (w : View A) → IsChroniclers c views → IsChroniclers c (views ++ w ∷ [])
  chronicle_more = there_more IsOne views c

  -- what is no chronicle's may be spent
  pub chronicle_spent : (other : ℕ) (w u : View A) → get_elem? views other ≡ some w → IsTaken w.role → IsChroniclers c views → IsChroniclers c (set views other u)
  chronicle_spent other w u at taken = there_set IsOne views c other w u at (λ (is : w.role ≡ Chronicler). absurd (subst IsTaken is taken))
