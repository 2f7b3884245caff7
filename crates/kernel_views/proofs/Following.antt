-- The cells of a kernel are what its run makes.
use Rattle.std.proofs.Common.{◌≡◌, ℕ, ◌+◌, ◌<◌, Bool, true, false, ◌||◌, cond, List, [], ◌∷◌, slice_get, count_by, Option, Some, None, refl, sym, ap, ◌∙◌, arith}
use Rattle.std.specs.List.{list_any}
use Rattle.std.proofs.lemmas.List.Sums.{sum_by-cons}
use Rattle.edge_disk.specs.Image.{Image}
use Rattle.base_types.specs.declared.histories.Entry.{Entry}
use Rattle.kernel_records.specs.model_kernel.Histories.{Run, start_run, version_of, writes}
use Rattle.kernel_records.specs.model_kernel.State.{KernelState}
use Rattle.kernel_records.proofs.model_kernel_lemmas.LegalRuns.{state_after as state_run}
use Rattle.kernel_records.proofs.model_run_laws_lemmas.Wishes.{steps_stay}
use Rattle.kernel_records.proofs.model_run_laws_lemmas.Tellings.{versions_told}
use Rattle.kernel_records.specs.cell_states.declared.cells.Cell.{Cell}
use Rattle.kernel_records.specs.cell_states.Wishes.{HasWish}
use Rattle.kernel_records.specs.cell_wish_laws.Founded.{IsFoundedIn}
use Rattle.kernel_records.proofs.cell_wish_laws_lemmas.Founding.{founded}
use Rattle.table_laws.specs.Tables.{AreNumbered, entity_in}
use Rattle.kernel_records.specs.kernel_record_facts.Cells.{words_on}
use Rattle.kernel_laws.specs.store_books.Books.{Books}
use Rattle.kernel_laws.specs.kernel_invariant.Beginnings.{Beginning, IsLegal, run_of}
use Rattle.kernel_laws.specs.kernel_invariant.Live.{Follows}
use Rattle.kernel_laws.specs.kernel_invariant.declared.stopping.Stopped.{Stopped}
use Rattle.kernel_views.specs.Views.{FollowsRun, asked_at, by_step_at, left_at, newest_at, view_in}

-- an entity without an open mark and a newest record at no version
no_mark : (a b : Bool) → ((a || b) ≡ true → 0 < 0) → (a ≡ false) × (b ≡ false)
no_mark false false none = (refl, refl)
no_mark true b none = absurd (let less = none refl in omega (arith, less))
no_mark false true none = absurd (let less = none refl in omega (arith, less))

none_more : (f : Entry → Bool) (e : Entry) (n : ℕ) (rest : Bool) (t : Bool) → f e ≡ t → cond (f e) 1 0 + n ≡ 0 → rest ≡ false → (f e || rest) ≡ false
none_more f e n rest true at is none = absurd (let one : cond {A = ℕ} (f e) 1 0 ≡ 1 = ap (λ t. cond t 1 0) at in omega (arith, one, is))
none_more f e n rest false at is none = ap (λ t. t || rest) at ∙ none

none_counted : (f : Entry → Bool) (es : List Entry) → count_by f es ≡ 0 → list_any f es ≡ false
none_counted f [] is = refl
none_counted f (e ∷ es) is =
    let sum : count_by f (e ∷ es) ≡ cond (f e) 1 0 + count_by f es = sum_by-cons (λ (e : Entry). cond (f e) 1 0) e es in
    none_more f e (count_by f es) (list_any f es) (f e) refl (sym sum ∙ is) (none_counted f es (omega (arith, sum, is)))

module _ (b : Beginning) (es : List Entry) (image : Image) (cs : List Cell) (num : AreNumbered cs) where
  abbrev run : Run
  run = run_of b es

  module _ (legal : IsLegal b es) (f : FollowsRun b (words_on image) cs es) where
    marks_at : (x : ℕ) → IsFoundedIn run x
    marks_at x = founded b.supply b.policy b.script b.state es x legal

    -- a number past the cells has no version
    no_version : (x : ℕ) → slice_get cs x ≡ None → version_of run x ≡ 0
    no_version x none = ap (λ (w : KernelState). (w x).version) (sym f.state) ∙ ap (λ o. (entity_in b.supply (words_on image) x o).version) none

    no_mark_at : (x : ℕ) → slice_get cs x ≡ None → (run.by_step x ≡ false) × (run.asked x ≡ false)
    no_mark_at x none =
        let m = marks_at x in
        no_mark (run.by_step x) (run.asked x) (λ noted. (let less = m.changed noted in let version = no_version x none in omega (arith, less, version)))

    newest_is : (x : ℕ) (o : Option Cell) → slice_get cs x ≡ o → newest_at o ≡ run.newest x
    newest_is x None none = (let m = (marks_at x).past in let version = no_version x none in omega (arith, m, version))
    newest_is x (Some c) at = sym (f.wishes x c at).newest ∙ ap run.newest (num.each x c at)

    by_step_is : (x : ℕ) (o : Option Cell) → slice_get cs x ≡ o → by_step_at o ≡ run.by_step x
    by_step_is x None none = sym (no_mark_at x none).0
    by_step_is x (Some c) at = sym (f.wishes x c at).by_step ∙ ap run.by_step (num.each x c at)

    asked_is : (x : ℕ) (o : Option Cell) → slice_get cs x ≡ o → asked_at o ≡ run.asked x
    asked_is x None none = sym (no_mark_at x none).1
    asked_is x (Some c) at = sym (f.wishes x c at).asked ∙ ap run.asked (num.each x c at)

    no_steps : (x : ℕ) → slice_get cs x ≡ None → run.steps x ≡ 0
    no_steps x none =
        let told = versions_told b.supply b.policy b.script b.state es x legal in
        let same : version_of run x ≡ _ = ap (λ (w : KernelState). (w x).version) (state_run b.supply b.policy b.script (start_run b.state) es) in
        let version = no_version x none in
        let count : count_by (λ e. writes e x) es ≡ 0 = omega (arith, told, same, version) in
        steps_stay b.supply b.policy b.script b.state [] es x legal (none_counted (λ e. writes e x) es count)

    left_is : (x : ℕ) (o : Option Cell) → slice_get cs x ≡ o → left_at b.script.steps o + run.steps x ≡ b.script.steps
    left_is x None none = (let zero = no_steps x none in omega (arith, zero))
    left_is x (Some c) at = (let h = (f.wishes x c at).left in let same = ap run.steps (num.each x c at) in omega (arith, h, same))

    pub follows : (bk : Books) (marks : List ℕ) (stop : Option Stopped) → Follows b (view_in b.supply b.script.steps image cs bk es marks stop)
    follows bk marks stop = record {
      state = f.state ∙ state_run b.supply b.policy b.script (start_run b.state) es;
      newest = λ i x. newest_is x (slice_get cs x) refl i;
      by_step = λ i x. by_step_is x (slice_get cs x) refl i;
      asked = λ i x. asked_is x (slice_get cs x) refl i;
      left = λ x. left_is x (slice_get cs x) refl;
    }

  -- and the other way round
  module _ (bk : Books) (marks : List ℕ) (stop : Option Stopped) (fol : Follows b (view_in b.supply b.script.steps image cs bk es marks stop)) where
    wish_is : (x : ℕ) (c : Cell) → slice_get cs x ≡ Some c → HasWish b.script.steps run c
    wish_is x c at = record {
      newest = ap run.newest (num.each x c at) ∙ (sym (ap (λ (g : ℕ → ℕ). g x) fol.newest) ∙ ap newest_at at);
      by_step = ap run.by_step (num.each x c at) ∙ (sym (ap (λ (g : ℕ → Bool). g x) fol.by_step) ∙ ap by_step_at at);
      asked = ap run.asked (num.each x c at) ∙ (sym (ap (λ (g : ℕ → Bool). g x) fol.asked) ∙ ap asked_at at);
      left = (
          let all = fol.left x in
          let here : left_at b.script.steps (slice_get cs x) ≡ c.left = ap (left_at b.script.steps) at in
          let same = ap run.steps (num.each x c at) in
          omega (arith, all, here, same));
    }

    pub cells_follow : FollowsRun b (words_on image) cs es
    cells_follow = record {
      state = fol.state ∙ sym (state_run b.supply b.policy b.script (start_run b.state) es);
      wishes = wish_is;
    }
