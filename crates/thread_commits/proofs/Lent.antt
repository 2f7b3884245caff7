-- Which of the lent cells is an entity's, and what a cell that comes back leaves of the others.
use Rattle.std.proofs.Common.{◌≡◌, ℕ, ◌<◌, Bool, true, false, ◌==◌, ◌&&◌, ◌||◌, List, [], ◌∷◌, length, get_or, slice_get, slice_set, Some, refl, sym, ap, subst, ◌∙◌}
use Rattle.std.specs.List.{list_any}
use Rattle.std.proofs.lemmas.Bool.{eq-eqb, eqb-true, true≢false}
use Rattle.std.proofs.lemmas.List.{length-set, set-get_or}
use Rattle.std.proofs.lemmas.List.Folds.{list_any_at}
use Rattle.std.proofs.lemmas.Option.{same_Some, slice_get-get_or, slice_get_within}
use Rattle.base_types.specs.declared.histories.Entry.{Entry}
use Rattle.base_types.specs.declared.histories.Touch.{Touch}
use Rattle.kernel_commit_facts.specs.cell_states.declared.cells.Cell.{Cell}
use Rattle.kernel_commit_facts.proofs.table_laws_lemmas.plain_states_lemmas.CellLemmas.{slice_get-set_other}
use Rattle.thread_history.specs.Rules.{is_among}
use Rattle.thread_commits.specs.Lent.{OthersStay}
use Rattle.thread_commits.specs.Snapping.{WritesAmong}

or_none : (b : Bool) → (b || false) ≡ true → b ≡ true
or_none true is = refl
or_none false is = is

or_right : (a b : Bool) → (a || b) ≡ false → b ≡ false
or_right true b is = absurd (true≢false is)
or_right false b is = is

-- WHOSE IT IS

pub is_only : (e a : ℕ) → is_among e (a ∷ []) ≡ true → a ≡ e
is_only e a among = eqb-true a e (or_none (a == e) among)

pub is_this : (e a : ℕ) (r : Bool) → r ≡ (a == e) → r ≡ true → a ≡ e
is_this e a r is same = eqb-true a e (sym is ∙ same)

pub is_another : (e a : ℕ) (xs : List ℕ) (r : Bool) → r ≡ (a == e) → r ≡ false → is_among e (a ∷ xs) ≡ true → is_among e xs ≡ true
is_another e a xs r is apart among = sym (ap (λ b. b || is_among e xs) (sym is ∙ apart)) ∙ among

-- what a step wrote is among those that it writes at most
pub among_written : (e : Entry) (xs : List ℕ) (ts : List Touch) (i : ℕ) (t : Touch) → WritesAmong e xs → ts ≡ e.touched → i < length ts → t ≡ get_or ts i t → t.wrote ≡ true → is_among t.entity xs ≡ true
among_written e xs ts i t among same lt is wrote =
    among t.entity (subst (λ us. list_any (λ (u : Touch). u.entity == t.entity && u.wrote) us ≡ true) same
    (list_any_at (λ (u : Touch). u.entity == t.entity && u.wrote) ts i t lt
    (subst (λ (u : Touch). (u.entity == t.entity && u.wrote) ≡ true) is
    (subst (λ b. (t.entity == t.entity && b) ≡ true) (sym wrote) (ap (λ b. b && true) (eq-eqb t.entity t.entity refl))))))

-- the numbers of lent cells that have kept theirs
pub same_two : (a b x y : ℕ) → a ≡ x → b ≡ y → (a ∷ b ∷ []) ≡ (x ∷ y ∷ [])
same_two a b x y p q = ap (λ n. n ∷ b ∷ []) p ∙ ap (λ n. x ∷ n ∷ []) q

pub same_three : (a b c x y z : ℕ) → a ≡ x → b ≡ y → c ≡ z → (a ∷ b ∷ c ∷ []) ≡ (x ∷ y ∷ z ∷ [])
same_three a b c x y z p q r = ap (λ n. n ∷ b ∷ c ∷ []) p ∙ ap (λ ns. x ∷ ns) (same_two b c y z q r)

-- THE OTHERS

-- a cell that stands there already
pub set_there : (cs : List Cell) (n : ℕ) (c : Cell) → slice_get cs n ≡ Some c → slice_set cs n c ≡ cs
set_there cs n c is = ap (slice_set cs n) (same_Some c (get_or cs n c) (sym is ∙ slice_get-get_or cs n c (slice_get_within cs n c is))) ∙ set-get_or cs n c

pub others_begin : (xs : List ℕ) (cs : List Cell) → OthersStay xs cs cs
others_begin xs cs = record { len = refl; same = λ x far. refl }

pub others_then : (xs : List ℕ) (cs mid cs' : List Cell) → OthersStay xs cs mid → OthersStay xs mid cs' → OthersStay xs cs cs'
others_then xs cs mid cs' p q = record { len = q.len ∙ p.len; same = λ x far. q.same x far ∙ p.same x far }

-- one more is lent
pub others_more : (n : ℕ) (xs : List ℕ) (cs cs' : List Cell) → OthersStay xs cs cs' → OthersStay (n ∷ xs) cs cs'
others_more n xs cs cs' p = record { len = p.len; same = λ x far. p.same x (or_right (n == x) (is_among x xs) far) }

-- the entity's own came back
pub others_set : (xs : List ℕ) (e n : ℕ) (cs cs' : List Cell) (d : Cell) → cs' ≡ slice_set cs n d → n ≡ e → is_among e xs ≡ true → OthersStay xs cs cs'
others_set xs e n cs cs' d is same among = subst (OthersStay xs cs) (sym is) (record {
  len = length-set cs n d;
  same = λ x far. slice_get-set_other cs n x d (λ at. true≢false (sym among ∙ ap (λ y. is_among y xs) (sym same ∙ at) ∙ far));
})
