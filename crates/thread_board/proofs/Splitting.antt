-- Making the table, a load and a split keep the rule.
use Rattle.std.proofs.Common.{◌≡◌, ℕ, zero, suc, Bool, List, [], ◌∷◌, length, set, refl, ap, sym, ◌∙◌, subst, ⊎_elim, arith}
use Rattle.std.specs.Prelude.{slice_index}
use mathlib.Core.Option.{some, some-ne-none, some-injective, none}
use mathlib.Core.List.{IsPrefix}
use lib.ListN.{get_elem?}
use Rattle.thread_board.specs.declared.views.View.{View}
use Rattle.thread_board.specs.declared.views.Role.{Role}
use Rattle.thread_board.specs.declared.views.Role.TheVariants.{Note, Commits, Items, Pass}
use Rattle.atomic_table.specs.Table.{State, step, keeps, opening, Allows, Splits}
use Rattle.atomic_table.proofs.Lists.{at_snoc, set_again}
use Rattle.thread_board.specs.Lines.{StopsLast}
use Rattle.thread_board.specs.Rules.{Story, Knows, Fits, AllFit, AreWriters, IsTale, IsBegun, IsNoted, Looked, Shows, first_view, note_of}
use Rattle.thread_board.proofs.Beginnings.{begun_first}
use Rattle.thread_history.specs.Rules.{AllDiffer}
use Rattle.thread_history.proofs.Lists.{prefix_nil, set_same}
use Rattle.thread_history.proofs.Fitting.{there_more}

module _ {C T : Type 0} (stops : C → Bool) where
  -- MAKING
  abbrev first_story : Story C T
  first_story = record { commits = []; items = []; passes = 0; owner = λ x. 0; back = [] }

  pub begins : IsNoted {T = T} stops (opening (0 ∷ 0 ∷ 0 ∷ []) [] first_view)
  begins = (
    first_story,
    refl,
    record { no_commits = λ e. refl; no_items = λ le. (refl, refl); stops_last = tt; few_passes = omega arith; few_items = omega arith; back_differ = tt; back_drawn = λ x le. refl },
    one,
    record { commits = λ lt. absurd (omega (arith, lt)); items = λ lt. absurd (omega (arith, lt)) },
  )
    where
      one : (j : ℕ) (v : View C T) → get_elem? (first_view ∷ []) j ≡ some v → Fits first_story j v
      one zero v e = subst (Fits first_story 0) (some-injective _ _ e) (refl, begun_first first_story)
      one (suc j) v e = absurd (some-ne-none v (sym e))

  -- A LOAD
  shows : (s : State (Unit {0}) (View C T)) (t : Story C T) (id i : ℕ) (v : View C T) → s.words ≡ length t.commits ∷ t.passes ∷ length t.items ∷ [] → IsTale stops t → IsBegun t v
      → (r : Role) → Knows t id v r → Shows stops i (slice_index s.words i) v r
  shows s t id i v words tale begun Note k = tt
  shows s t id i v words tale begun Commits k = (
    subst (IsPrefix v.shown_commits) (sym k.2) begun.shown_commits,
    subst (λ cs. StopsLast stops cs) (sym k.2) tale.stops_last,
    λ is. ap (slice_index s.words) is ∙ ap (λ ws. slice_index ws 0) words ∙ ap length (sym k.2),
  )
  shows s t id i v words tale begun Items k = (
    subst (IsPrefix v.shown_items) (sym k.2) begun.shown_items,
    subst AllDiffer (sym k.3) tale.back_differ,
    λ is. ap (slice_index s.words) is ∙ ap (λ ws. slice_index ws 2) words ∙ ap length (sym k.2),
  )
  shows s t id i v words tale begun (Pass n) k = tt

  pub looks : (slots id i : ℕ) (v : View C T) (c : List (ℕ × Unit {0})) → Allows (IsNoted stops) slots id (v, c) i (λ n. n) (Looked stops (step slots i 0 0 none) (v, c))
  looks slots id i v c s h homes at fits =
      let fit = h.3 id v at in
      let same = sym (set_again s.views id v at) in
      (v, keeps, tt, (h.0, set_same s.words i ∙ h.1, h.2, subst (λ l. AllFit h.0 l) same h.3, subst (λ l. AreWriters h.0 l) same h.4), (refl, shows s h.0 id i v h.1 h.2 fit.1 v.role fit.0))

  -- A SPLIT
  note_fits : (t : Story C T) (id j : ℕ) (v : View C T) → Fits t id v → Fits t j (note_of v)
  note_fits t id j v f = (refl, record { commits = f.1.commits; items = f.1.items; shown_commits = prefix_nil t.commits; shown_items = prefix_nil t.items })

  pub splits : (id : ℕ) (v : View C T) → Splits (IsNoted stops) id v v (note_of v)
  splits id v s h at =
      let same = sym (set_again s.views id v at) in
      let now = set s.views id v in
      let kept = subst (λ l. AreWriters h.0 l) same h.4 in (
        h.0,
        h.1,
        h.2,
        λ j u e. ⊎_elim
            (λ was. subst (λ l. AllFit h.0 l) same h.3 j u was)
            (λ (is : note_of v ≡ u). subst (Fits h.0 j) is (note_fits h.0 id j v (h.3 id v at)))
            (at_snoc now (note_of v) u j e),
        record {
          commits = λ lt. there_more (λ (u : View C T). u.role ≡ Commits) now (h.0.owner 0) (note_of v) (kept.commits lt);
          items = λ lt. there_more (λ (u : View C T). u.role ≡ Items) now (h.0.owner 1) (note_of v) (kept.items lt);
        },
      )
