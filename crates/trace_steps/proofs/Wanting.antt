-- What may be committed next, by what a checker keeps.
use Rattle.std.proofs.Common.{◌≡◌, ℕ, ◌-◌, ◌<◌, Bool, true, false, not, ◌&&◌, ◌||◌, IsTrue, ◌↔◌, List, [], ◌∷◌, nat_lt, if◌then◌else◌, Some, None, is_some, slice_index, inl, inr, refl, sym, ap, subst, ◌∙◌, arith}
use Rattle.std.specs.Prelude.{find}
use Rattle.base_types.specs.Edges.{upto}
use Rattle.plain_states.specs.model_kernel.Histories.{MayCommit, Policy, Run, every_of, has_changed, has_wish, is_full}
use Rattle.plain_states.specs.model_kernel.Scripts.{Script}
use Rattle.plain_states.specs.model_kernel.State.{Supply}
use Rattle.plain_states.specs.Plains.{cells_of}
use Rattle.plain_states.proofs.model_sound_runs_lemmas.Counting.{AllLess, upto_less}
use Rattle.trace_step_facts.specs.data_cut_facts.Searches.{mark_at}
use Rattle.trace_step_facts.specs.Recording.{first_changed, is_changed}
use Rattle.trace_steps.specs.Standing.{Keeps}
use Rattle.trace_steps.specs.declared.checker.Checker.{Checker}

-- tests that agree on a list find the same in it
find_same : (f g : ℕ → Bool) (xs : List ℕ) (m : ℕ) → AllLess m xs → ((x : ℕ) → x < m → f x ≡ g x) → find f xs ≡ find g xs
find_same f g [] m all same = refl
find_same f g (x ∷ xs) m all same = λ i. if same x all.0 i then Some x else find_same f g xs m all.1 same i

module _ (s : Supply) (script : Script) (r : Run) (c : Checker) (k : Keeps s script r c) where
  pub wish_same : (policy : Policy) (x every : ℕ) → x < 64 → every_of (cells_of s c.state x) ≡ every
      → has_wish policy r x ≡ (mark_at c.wishes.by_step x && policy every (slice_index c.versions x - slice_index c.wishes.newest x) || mark_at c.wishes.asked x)
  wish_same policy x every low is =
      let interval : every_of (r.state x).cell ≡ every = ap every_of (k.has.cells x) ∙ is in
      λ i. k.wishes.by_step x low i && policy (interval i) (k.has.numbers x i - k.wishes.newest x low i) || k.wishes.asked x low i

  -- with no Stable owed
  pub may_by_wish : (policy : Policy) (x : ℕ) (wish full : Bool) → x < 64 → c.owed ≡ None → has_wish policy r x ≡ wish → full ≡ mark_at c.wishes.full x → IsTrue (wish && not full) ↔ MayCommit policy r x
  may_by_wish policy x wish full low none is is_marked =
      let same : is_full r x ≡ full = k.wishes.full x low ∙ sym is_marked in
      let owed : r.owed ≡ None = k.marks.owed ∙ none in (
        λ h. inl (subst (λ b. IsTrue b) (sym is) (left wish full h), subst (λ b. IsTrue (not b)) (sym same) (right wish full h), owed),
        λ may. elim may as (λ _. IsTrue (wish && not full)) [
          | inl h ↦ both wish full (subst (λ b. IsTrue b) is h.0) (subst (λ b. IsTrue (not b)) same h.1)
          | inr h ↦ absurd (apart (sym (ap is_some owed)) h.0)
        ],
      )
    where
      left : (a f : Bool) → IsTrue (a && not f) → IsTrue a
      left true f h = refl
      left false f h = h

      right : (a f : Bool) → IsTrue (a && not f) → IsTrue (not f)
      right true f h = h
      right false true h = h
      right false false h = refl

      both : (a f : Bool) → IsTrue a → IsTrue (not f) → IsTrue (a && not f)
      both true f h g = g
      both false f h g = h

      apart : false ≡ is_some r.owed → IsTrue (is_some r.owed) → ⊥
      apart e h = cc

  changed_same : (x : ℕ) → x < 64 → has_changed r x ≡ is_changed c.wishes.newest c.versions x
  changed_same x low = λ i. nat_lt (k.wishes.newest x low i) (k.has.numbers x i)

  same_first : (n : ℕ) → n < 65 → find (has_changed r) (upto n) ≡ find (is_changed c.wishes.newest c.versions) (upto n)
  same_first n low = find_same (has_changed r) (is_changed c.wishes.newest c.versions) (upto n) 64 (upto_less 64 n (omega arith)) changed_same

  -- with a Stable owed
  pub may_by_stable : (policy : Policy) (x actor : ℕ) (b : Bool) → c.owed ≡ Some actor → IsTrue b ↔ (first_changed c.wishes.newest c.versions ≡ Some x) → IsTrue b ↔ MayCommit policy r x
  unfolding first_changed
  may_by_stable policy x actor b is both =
      let owed : r.owed ≡ Some actor = k.marks.owed ∙ is in
      let first = same_first 64 (omega arith) in (
        λ h. inr (ap is_some owed, first ∙ both.0 h),
        λ may. elim may as (λ _. IsTrue b) [
          | inl h ↦ absurd (apart (sym owed ∙ h.2))
          | inr h ↦ both.1 (sym first ∙ h.1)
        ],
      )
    where
      apart : Some actor ≡ None → ⊥
      apart e = cc
