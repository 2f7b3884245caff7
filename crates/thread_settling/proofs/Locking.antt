-- Cells with their shares and fragments, the last of which go under a lock.
use Rattle.std.proofs.Common.{◌≡◌, inl, inr, ℕ, zero, suc, ◌+◌, ◌<◌, List, [], ◌∷◌, ◌++◌, length, slice_get, Some, refl, sym, ap, ◌∙◌, arith, length-append}
use Rattle.std.proofs.lemmas.Bool.{cases_lt}
use Rattle.std.proofs.lemmas.List.{length-map}
use Rattle.std.proofs.lemmas.Option.{same_Some, slice_get_within}
use Rattle.base_types.specs.declared.histories.Entry.{Entry}
use Rattle.thread_commits.specs.kernel_commit_facts.cell_states.declared.cells.Cell.{Cell}
use Rattle.thread_commits.specs.kernel_commit_facts.table_laws.Tables.{AreNumbered}
use Rattle.thread_history.specs.Sides.{Side, sides_upto}
use Rattle.thread_ties.specs.Rules.{Shown, numbered, shown}
use Rattle.thread_ties.specs.Sides.{fragments_of}
use Rattle.thread_settling.specs.Rows.{AreBeside, IsBeside}

module _ {A : Type 0} where
  at_end : (xs : List A) (x : A) (n : ℕ) → n ≡ length xs → slice_get (xs ++ x ∷ []) n ≡ Some x
  at_end [] x zero is = refl
  at_end [] x (suc n) is = absurd (omega (arith, is))
  at_end (y ∷ ys) x zero is = absurd (omega (arith, is))
  at_end (y ∷ ys) x (suc n) is = at_end ys x n (omega (arith, is))

  pub at_front : (xs ys : List A) (i : ℕ) (x : A) → slice_get xs i ≡ Some x → slice_get (xs ++ ys) i ≡ Some x
  at_front [] ys i x is = absurd (cc is)
  at_front (y ∷ xs) ys zero x is = is
  at_front (y ∷ xs) ys (suc i) x is = at_front xs ys i x is

  length_last : (xs zs : List A) (x : A) → zs ≡ xs ++ x ∷ [] → length zs ≡ length xs + 1
  length_last xs zs x is = ap length is ∙ length-append xs (x ∷ [])

-- the last cell has its own, and so have those before
module _ (cs cs' : List Cell) (ss ss' : List (Side Entry)) (fs fs' : List (Shown Cell)) (c : Cell) (s : Side Entry) (f : Shown Cell)
    (cells : cs ≡ cs' ++ c ∷ []) (shares : ss ≡ ss' ++ s ∷ []) (fragments : fs ≡ fs' ++ f ∷ []) (beside : AreBeside cs ss fs) where
  fewer_shares : length ss' ≡ length cs'
  fewer_shares = let a = length_last cs' cs c cells in let b = length_last ss' ss s shares in let same = beside.shares in omega (arith, a, b, same)

  fewer_fragments : length fs' ≡ length cs'
  fewer_fragments = let a = length_last cs' cs c cells in let b = length_last fs' fs f fragments in let same = beside.fragments in omega (arith, a, b, same)

  pub last_beside : IsBeside c s f
  last_beside = beside.each (length cs') c s f
      (ap (λ xs. slice_get xs (length cs')) cells ∙ at_end cs' c (length cs') refl)
      (ap (λ xs. slice_get xs (length cs')) shares ∙ at_end ss' s (length cs') (sym fewer_shares))
      (ap (λ xs. slice_get xs (length cs')) fragments ∙ at_end fs' f (length cs') (sym fewer_fragments))

  pub rest_beside : AreBeside cs' ss' fs'
  rest_beside = record {
    shares = fewer_shares;
    fragments = fewer_fragments;
    each = λ i k t g at_k at_t at_g. beside.each i k t g
        (ap (λ xs. slice_get xs i) cells ∙ at_front cs' (c ∷ []) i k at_k)
        (ap (λ xs. slice_get xs i) shares ∙ at_front ss' (s ∷ []) i t at_t)
        (ap (λ xs. slice_get xs i) fragments ∙ at_front fs' (f ∷ []) i g at_g);
  }

-- the shares of the first numbers, in order
sides_length : (n : ℕ) → length (sides_upto {A = Entry} n) ≡ n
sides_length zero = refl
sides_length (suc n) = (let same = sides_length n in let more = length-append (sides_upto {A = Entry} n) (record { number = n; since = [] } ∷ []) in omega (arith, same, more))

side_number : (n i : ℕ) (s : Side Entry) → slice_get (sides_upto n) i ≡ Some s → s.number ≡ i
side_number zero i s is = absurd (cc is)
side_number (suc n) i s is = elim (cases_lt i n) as (λ _. s.number ≡ i) [
  | inl low ↦ side_number n i s (front (sides_upto n) (record { number = n; since = [] }) i s (let same = sides_length n in omega (arith, low, same)) is)
  | inr high ↦
      (let within = slice_get_within (sides_upto (suc n)) i s is in
      let whole = sides_length (suc n) in
      let here : i ≡ n = omega (arith, high, within, whole) in
      let last = at_end (sides_upto n) (record { number = n; since = [] }) i (here ∙ sym (sides_length n)) in
      ap (λ (t : Side Entry). t.number) (same_Some s (record { number = n; since = [] }) (sym is ∙ last)) ∙ sym here)
]
  where
    front : (xs : List (Side Entry)) (y : Side Entry) (j : ℕ) (t : Side Entry) → j < length xs → slice_get (xs ++ y ∷ []) j ≡ Some t → slice_get xs j ≡ Some t
    front [] y j t lt at = absurd (omega (arith, lt))
    front (x ∷ xs) y zero t lt at = at
    front (x ∷ xs) y (suc j) t lt at = front xs y j t (omega (arith, lt)) at

numbered_length : (n : ℕ) (cs : List Cell) → length (numbered n cs) ≡ length cs
numbered_length n [] = refl
numbered_length n (c ∷ cs) = ap suc (numbered_length (suc n) cs)

-- at first each cell has its own
pub all_beside : ((vs : List Cell) (k : ℕ) (v : Cell) → slice_get vs k ≡ Some v → slice_get (fragments_of vs) k ≡ Some (record { number = k; value = Some v })) → (cs : List Cell) (ss : List (Side Entry)) (fs : List (Shown Cell)) → AreNumbered cs → ss ≡ sides_upto 64 → fs ≡ fragments_of cs → AreBeside cs ss fs
all_beside law cs ss fs numbers shares fragments = record {
  shares = ap length shares ∙ (sides_length 64 ∙ sym numbers.len);
  fragments = ap length fragments ∙ (length-map (numbered 0 cs) shown ∙ numbered_length 0 cs);
  each = λ i c s f at_c at_s at_f.
      let number = numbers.each i c at_c in
      let own = same_Some f (record { number = i; value = Some c }) (sym at_f ∙ (ap (λ xs. slice_get xs i) fragments ∙ law cs i c at_c)) in
      record {
        share = side_number 64 i s (ap (λ xs. slice_get xs i) (sym shares) ∙ at_s) ∙ sym number;
        fragment = ap (λ (g : Shown Cell). g.number) own ∙ sym number;
        value = ap (λ (g : Shown Cell). g.value) own;
      };
}
