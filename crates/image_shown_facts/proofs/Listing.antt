-- Cells in a list, one behind another.
use Rattle.std.proofs.Common.{◌≡◌, ℕ, ◌+◌, ◌<◌, ◌≤◌, List, [], ◌∷◌, ◌++◌, length, Option, Some, sym, ap, subst, ◌∙◌, ⊎_elim, arith}
use Rattle.std.specs.Prelude.{None, slice_get, slice_index_or}
use Rattle.std.proofs.lemmas.Bool.{cases_lt}
use Rattle.std.proofs.lemmas.List.{get_or_append_left, get_or_default, get_or_push, length-append}
use Rattle.std.proofs.lemmas.Option.{slice_get-get_or}
use Rattle.image_facts.specs.model_kernel.State.{Cell, Supply}
use Rattle.image_state_laws.specs.image_meaning.Parts.{Part}
use Rattle.image_chosen.specs.image_fits.Chosen.{part_in, parts_of}
use Rattle.image_chosen.specs.image_fits.declared.chosen.ChosenEntity.{ChosenEntity}
use Rattle.image_shown_facts.specs.States.{IsCellOf, cell_in}

-- ITEMS
module _ {X : Type 0} (xs : List X) (x : X) where
  pub get_front : (i : ℕ) → i < length xs → slice_get (xs ++ x ∷ []) i ≡ slice_get xs i
  get_front i lt =
      let len = length-append xs (x ∷ []) in
      slice_get-get_or (xs ++ x ∷ []) i x (omega (arith, lt, len)) ∙ (ap Some (get_or_append_left xs (x ∷ []) x i lt) ∙ sym (slice_get-get_or xs i x lt))

  pub get_last : (n : ℕ) → length xs ≡ n → slice_get (xs ++ x ∷ []) n ≡ Some x
  get_last n long =
      let len = length-append xs (x ∷ []) in
      slice_get-get_or (xs ++ x ∷ []) n x (omega (arith, long, len)) ∙ ap Some (get_or_push xs x x n long)

  -- what holds of each of them and of the one behind
  pub more : (P : ℕ → Option X → Type 0) (n : ℕ) → length xs ≡ n → ((i : ℕ) → i < n → P i (slice_get xs i)) → P n (Some x) → (i : ℕ) → i < n + 1 → P i (slice_get (xs ++ x ∷ []) i)
  more P n long before here i lt = ⊎_elim
      (λ (low : i < n). subst (P i) (sym (get_front i (omega (arith, low, long)))) (before i low))
      (λ (high : n ≤ i).
      let same : n ≡ i = omega (arith, high, lt) in
      subst (λ (k : ℕ). P k (slice_get (xs ++ x ∷ []) k)) same (subst (P n) (sym (get_last n long)) here))
      (cases_lt i n)

-- an entity that is read of a list
pub read_part : (es : List (Option ChosenEntity)) (x : ℕ) (o : Option ChosenEntity) → x < length es → o ≡ slice_index_or es x o → part_in o ≡ parts_of es x
read_part es x o lt is = ap part_in (is ∙ get_or_default es x o None lt)

-- the same cell over the same bytes
pub same_bytes : (tells : Type 0) (s : Supply) (f g : ℕ → List ℕ) (x : ℕ) (part : Option Part) (cell : Cell) → (tells → f ≡ g) → IsCellOf tells s f x part cell → IsCellOf tells s g x part cell
same_bytes tells s f g x part cell same c = record { words = c.words; is = c.is; told = λ t. c.told t ∙ ap (λ (h : ℕ → List ℕ). cell_in s h x part) (same t) }
