-- A flag of a run that an entry sets, and that a commit or another entry takes back: it is set exactly where the history has such
-- an entry, and nothing behind it that takes it back.
use Rattle.std.proofs.Common.{◌≡◌, ℕ, Bool, true, false, ◌||◌, List, [], ◌∷◌, ◌++◌, ◌⊎◌, inl, inr, refl, sym, ap, subst, ◌∙◌, arith}
use Rattle.std.specs.List.{list_any}
use Rattle.base_types.specs.declared.histories.Entry.{Entry}
use Rattle.model_run_laws.specs.model_kernel.State.{Supply, KernelState}
use Rattle.model_run_laws.specs.model_kernel.Scripts.{Script}
use Rattle.model_run_laws.specs.model_kernel.Histories.{Policy, Run, May, goes_on, IsLegalFrom, run_after}
use Rattle.model_run_laws.proofs.model_kernel_lemmas.Basics.{or_false_left, or_false_right}
use Rattle.model_run_laws.proofs.Wishes.{legal_back}
use Rattle.model_run_rules.specs.Newest.{commit_count}
use Rattle.model_run_rules.proofs.Counts.{counts_grow}
use Rattle.model_run_rules.proofs.Fresh.{IsFresh, fresh_next, fresh_over}
use Rattle.model_run_laws.proofs.model_kernel_lemmas.StableCuts.{legal_front, run_append}

module _ (s : Supply) (policy : Policy) (script : Script) (x : ℕ) (flag : Run → Bool) (Sets : KernelState → Entry → Type 0) (ends : Entry → Bool) where
  abbrev pub IsSameCount : Run → Run → Type 0
  IsSameCount r q = commit_count q.commits x ≡ commit_count r.commits x

  -- how one entry changes the flag
  pub record IsFlag : Type 0 where
    pub was : (r : Run) (e : Entry) → May s policy script r e → flag (goes_on s script r e) ≡ true
        → Sets r.state e ⊎ ((flag r ≡ true) × (ends e ≡ false) × IsSameCount r (goes_on s script r e))
    pub set : (r : Run) (e : Entry) → May s policy script r e → Sets r.state e → flag (goes_on s script r e) ≡ true
    pub stays : (r : Run) (e : Entry) → May s policy script r e → IsFresh r → flag r ≡ true → ends e ≡ false → IsSameCount r (goes_on s script r e) → flag (goes_on s script r e) ≡ true

  -- an entry set it, and nothing took it back
  pub record IsSet (r : Run) (es : List Entry) : Type 0 where
    pub before : List Entry
    pub entry : Entry
    pub later : List Entry
    pub split : es ≡ before ++ entry ∷ later
    pub sets : Sets (run_after s script r before).state entry
    pub last : list_any ends later ≡ false
    pub since : IsSameCount (run_after s script r (before ++ entry ∷ [])) (run_after s script r es)

  set_first : (e : Entry) (r : Run) (es : List Entry) → IsSet (goes_on s script r e) es → IsSet r (e ∷ es)
  set_first e r es k = record { before = e ∷ k.before; entry = k.entry; later = k.later; split = ap (λ fs. e ∷ fs) k.split; sets = k.sets; last = k.last; since = k.since }

  pub was_set : IsFlag → (es : List Entry) (r : Run) → IsLegalFrom s policy script r es → flag (run_after s script r es) ≡ true
      → IsSet r es ⊎ ((flag r ≡ true) × (list_any ends es ≡ false) × IsSameCount r (run_after s script r es))
  was_set f [] r legal is = inr (is, refl, refl)
  was_set f (e ∷ es) r legal is =
      elim (was_set f es (goes_on s script r e) legal.1 is) as (λ _. IsSet r (e ∷ es) ⊎ ((flag r ≡ true) × (list_any ends (e ∷ es) ≡ false) × IsSameCount r (run_after s script (goes_on s script r e) es))) [
        | inl k ↦ inl (set_first e r es k)
        | inr k ↦ elim (f.was r e legal.0 k.0) as (λ _. IsSet r (e ∷ es) ⊎ ((flag r ≡ true) × (list_any ends (e ∷ es) ≡ false) × IsSameCount r (run_after s script (goes_on s script r e) es))) [
          | inl sets ↦ inl (record { before = []; entry = e; later = es; split = refl; sets = sets; last = k.1; since = k.2 })
          | inr old ↦ inr (old.0, ap (λ b. b || list_any ends es) old.1 ∙ k.1, k.2 ∙ old.2)
        ]
      ]

  stays_over : IsFlag → (es : List Entry) (r : Run) → IsLegalFrom s policy script r es → IsFresh r → flag r ≡ true → list_any ends es ≡ false → IsSameCount r (run_after s script r es) → flag (run_after s script r es) ≡ true
  stays_over f [] r legal fresh is none same = is
  stays_over f (e ∷ es) r legal fresh is none same =
      let next = goes_on s script r e in
      let up = counts_grow s policy script r (e ∷ []) x in
      let more = counts_grow s policy script next es x in
      let here : IsSameCount r next = omega (arith, up, more, same) in
      let there : IsSameCount next (run_after s script next es) = omega (arith, up, more, same) in
      stays_over f es next legal.1 (fresh_next s policy script r e legal.0 fresh) (f.stays r e legal.0 fresh is (or_false_left (ends e) _ none) here) (or_false_right (ends e) _ none) there

  pub is_set : IsFlag → (es : List Entry) (r : Run) → IsLegalFrom s policy script r es → IsFresh r → IsSet r es → flag (run_after s script r es) ≡ true
  is_set f es r legal fresh k =
      let split = subst (IsLegalFrom s policy script r) k.split legal in
      let front = legal_front s policy script r k.before (k.entry ∷ k.later) split in
      let back = legal_back s policy script r k.before (k.entry ∷ k.later) split in
      let q = run_after s script r k.before in
      let next = goes_on s script q k.entry in
      let calm = fresh_over s policy script k.before r front fresh in
      let here : run_after s script r (k.before ++ k.entry ∷ []) ≡ next = run_append s policy script r k.before (k.entry ∷ []) in
      let whole : run_after s script r es ≡ run_after s script next k.later = ap (run_after s script r) k.split ∙ run_append s policy script r k.before (k.entry ∷ k.later) in
      let same : IsSameCount next (run_after s script next k.later) = ap (λ (u : Run). commit_count u.commits x) (sym whole) ∙ k.since ∙ ap (λ (u : Run). commit_count u.commits x) here in
      ap flag whole ∙ stays_over f k.later next back.1 (fresh_next s policy script q k.entry back.0 calm) (f.set q k.entry back.0 k.sets) k.last same
