-- What the rule says of the views.
use Rattle.std.proofs.Common.{◌≡◌, ℕ, ◌<◌, ◌≤◌, ◌^◌, Bool, length, Some, ap, sym, ◌∙◌, subst}
use Rattle.std.specs.Prelude.{slice_index}
use mathlib.Core.List.{IsPrefix}
use Rattle.thread_board.specs.declared.views.View.{View}
use Rattle.thread_board.specs.declared.views.Role.{Role}
use Rattle.thread_board.specs.declared.views.Role.TheVariants.{Note, Commits, Items, Pass}
use Rattle.thread_board.specs.Lines.{StopsLast}
use Rattle.thread_board.specs.Parts.{AreCommits, AreItems, AreNumbers, AreWritten, AreFew, number_of}
use Rattle.thread_board.specs.Rules.{Story, Knows}
use Rattle.thread_board.proofs.Beginnings.{prefix_of_nil}

module _ {C T : Type 0} (stops : C → Bool) where
  pub commits_hold : AreCommits C T stops
  commits_hold s h seat u at is =
      let k : Knows h.0 seat u Commits = subst (Knows h.0 seat u) is (h.3 seat u at).0 in (
        ap (λ ws. slice_index ws 0) h.1 ∙ ap length (sym k.2),
        subst (λ cs. StopsLast stops cs) (sym k.2) h.2.stops_last,
        λ other v there. subst (IsPrefix v.commits) (sym k.2) (h.3 other v there).1.commits,
      )

  pub items_hold : AreItems C T stops
  items_hold s h seat u at is =
      let k : Knows h.0 seat u Items = subst (Knows h.0 seat u) is (h.3 seat u at).0 in
      (ap (λ ws. slice_index ws 2) h.1 ∙ ap length (sym k.2), λ other v there. subst (IsPrefix v.items) (sym k.2) (h.3 other v there).1.items)

  drawn : (t : Story C T) (seat n : ℕ) (v : View C T) (r : Role) → Knows t seat v r → number_of r ≡ Some n → (n < t.passes) × (t.owner n ≡ seat)
  drawn t seat n v Note k e = absurd (cc (e))
  drawn t seat n v Commits k e = let is : 0 ≡ n = cc (e) in (subst (λ m. m < t.passes) is k.0, subst (λ m. t.owner m ≡ seat) is k.1)
  drawn t seat n v Items k e = let is : 1 ≡ n = cc (e) in (subst (λ m. m < t.passes) is k.0, subst (λ m. t.owner m ≡ seat) is k.1)
  drawn t seat n v (Pass m) k e = let is : m ≡ n = cc (e) in (subst (λ j. j < t.passes) is k.1, subst (λ j. t.owner j ≡ seat) is k.2)

  pub numbers_hold : AreNumbers C T stops
  numbers_hold s h =
      let word : slice_index s.words 1 ≡ h.0.passes = ap (λ ws. slice_index ws 1) h.1 in (
        (λ n seat v at is. subst (λ p. n < p) (sym word) (drawn h.0 seat n v v.role (h.3 seat v at).0 is).0),
        λ n seat other v u at is there too. sym (drawn h.0 seat n v v.role (h.3 seat v at).0 is).1 ∙ (drawn h.0 other n u u.role (h.3 other u there).0 too).1,
      )

  pub written_hold : AreWritten C T stops
  written_hold s h =
      let word : slice_index s.words 1 ≡ h.0.passes = ap (λ ws. slice_index ws 1) h.1 in (
        (λ lt. (h.0.owner 0, h.4.commits (subst (λ p. 0 < p) word lt))),
        (λ lt. (h.0.owner 1, h.4.items (subst (λ p. 1 < p) word lt))),
        λ seat v at.
            let b = (h.3 seat v at).1 in (
              (λ none. let e = h.2.no_commits (sym word ∙ none) in prefix_of_nil v.commits h.0.commits b.commits e ∙ e),
              λ few. let e = (h.2.no_items (subst (λ p. p ≤ 1) word few)).0 in prefix_of_nil v.items h.0.items b.items e ∙ e,
            ),
      )

  pub few_hold : AreFew C T stops
  few_hold s h = (
    subst (λ p. p ≤ 2 ^ 62) (sym (ap (λ ws. slice_index ws 1) h.1)) h.2.few_passes,
    subst (λ p. p ≤ 2 ^ 62) (sym (ap (λ ws. slice_index ws 2) h.1)) h.2.few_items,
  )
