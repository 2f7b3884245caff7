-- An entity that a step wrote or a snap named since its newest commit has changed since.
use Rattle.std.proofs.Common.{◌≡◌, ℕ, ◌+◌, ◌-◌, ◌<◌, Bool, true, false, not, ◌&&◌, ◌||◌, ◌==◌, if◌then◌else◌, List, [], ◌∷◌, refl, sym, ap, ◌∙◌, subst, arith, eqb-true}
use Rattle.std.proofs.lemmas.Bool.{false≢true}
use Rattle.std.proofs.lemmas.Bool.Decides.{nat_tests}
use Rattle.cell_states.specs.base_types.declared.histories.Entry.{Entry}
use Rattle.cell_states.specs.base_types.declared.histories.Event.TheVariants.{Birth, Step, Snap as SnapEvent, Stable, Tried}
use Rattle.model_run_laws.specs.model_kernel.State.{EntityState, KernelState, Supply}
use Rattle.model_run_laws.specs.model_kernel.Scripts.{Script}
use Rattle.model_run_laws.specs.model_kernel.Histories.{Policy, Run, IsLegalFrom, IsLegalRun, May, asked_by, goes_on, has_changed, has_wish, every_of, locus_in, may, run_after, start_run, version_of, went_on, writes}
use Rattle.model_run_laws.proofs.model_kernel_lemmas.LegalRuns.{next_legal}
use Rattle.model_run_laws.proofs.Tellings.{written_rises}
use Rattle.model_run_laws.proofs.Wishes.{with_asked_at}
use Rattle.model_run_laws.proofs.Writing.{entry_stays, step_is, step_writes_asked}
use Rattle.cell_states.specs.declared.cells.Cell.{Cell}
use Rattle.cell_states.specs.Cells.{HasCell}
use Rattle.cell_states.specs.Wishes.{HasWish}
use Rattle.cell_wish_laws.specs.Founded.{IsFounded, IsFoundedCell, IsFoundedIn}

-- what is written once more has changed
pub written_founded : (n v v' : ℕ) (b b' : Bool) → v' ≡ v + 1 → IsFounded n v b → IsFounded n v' b'
written_founded n v v' b b' rises f = record { past = omega (arith, f.past); changed = λ _. omega (arith, f.past) }

-- along equal numbers and marks
pub same_founded : (n n' v v' : ℕ) (b b' : Bool) → n ≡ n' → v ≡ v' → b ≡ b' → IsFounded n v b → IsFounded n' v' b'
same_founded n n' v v' b b' newest version noted f =
    record { past = omega (arith, f.past); changed = λ is. (let more = f.changed (noted ∙ is) in omega arith) }

-- right after a commit
none_founded : (v v' : ℕ) → v ≡ v' → IsFounded v v' false
none_founded v v' same = record { past = omega arith; changed = λ is. absurd (false≢true is) }

module _ (s : Supply) (policy : Policy) (script : Script) where
  founded_next : (r : Run) (e : Entry) (x : ℕ) → May s policy script r e → IsFoundedIn r x → IsFoundedIn (goes_on s script r e) x
  founded_next r e x m f =
      let next = next_legal s policy script r e m in
      let rises : writes e x ≡ true → _ = written_rises s policy script r.state e next x in
      let stays = λ (none : writes e x ≡ false). ap (λ (b : EntityState). b.version) (sym (entry_stays s policy script r.state e next x none)) in
      elim e.event as (λ ev. e.event ≡ ev → IsFoundedIn (went_on s script r e ev) x) [
        | Birth ↦ λ is. elim (writes e x) as (λ b. writes e x ≡ b → IsFoundedIn (went_on s script r e Birth) x) [
          | true ↦ λ wrote. written_founded _ _ _ _ _ (rises wrote) f
          | false ↦ λ none. same_founded _ _ _ _ _ _ refl (stays none) (λ i. not (sym none i) && r.by_step x || r.asked x) f
        ] refl
        | Step ↦ λ is. elim (writes e x) as (λ b. writes e x ≡ b → IsFoundedIn (went_on s script r e Step) x) [
          | true ↦ λ wrote. written_founded _ _ _ _ _ (rises wrote) f
          | false ↦ λ none. (
              let made = step_is s e.actor r.state e (subst (may s policy script r e) is m.1).4 in
              let asked = with_asked_at (asked_by e.answer (locus_in (r.state e.actor).cell)) r.asked x (λ h. false≢true (sym none ∙ step_writes_asked s e.actor r.state e x made h)) in
              same_founded _ _ _ _ _ _ refl (stays none) (λ i. sym none i || r.by_step x || sym asked i) f)
        ] refl
        | SnapEvent ↦ λ is. elim (x == e.actor) as (λ b. (x == e.actor) ≡ b → IsFounded (if b then version_of r e.actor else r.newest x) (version_of r x) ((if b then false else r.by_step x) || (if b then false else r.asked x))) [
          | true ↦ λ at. none_founded _ _ (ap (version_of r) (sym (eqb-true x e.actor at)))
          | false ↦ λ _. f
        ] refl
        | Stable ↦ λ is. none_founded _ _ refl
        | Tried ↦ λ is. f
      ] refl

  founded_over : (es : List Entry) (r : Run) (x : ℕ) → IsLegalFrom s policy script r es → IsFoundedIn r x → IsFoundedIn (run_after s script r es) x
  founded_over [] r x legal f = f
  founded_over (e ∷ es) r x legal f = founded_over es (goes_on s script r e) x legal.1 (founded_next r e x legal.0 f)

  pub founded : (w : KernelState) (es : List Entry) (x : ℕ) → IsLegalRun s policy w script es → IsFoundedIn (run_after s script (start_run w) es) x
  founded w es x legal = founded_over es (start_run w) x legal (none_founded _ _ refl)

either : (a b c : Bool) → (a && b || c) ≡ true → (a || c) ≡ true
either true b c is = refl
either false b c is = is

-- an open wish is one of an entity that has changed
pub wish_changed : (policy : Policy) (r : Run) (x : ℕ) → IsFoundedIn r x → has_wish policy r x ≡ true → has_changed r x ≡ true
wish_changed policy r x f is =
    let less : r.newest x < version_of r x = f.changed (either (r.by_step x) (policy (every_of (r.state x).cell) (version_of r x - r.newest x)) (r.asked x) is) in
    grind (arith, nat_tests)

-- a cell of the run
pub cell_founded : (s : Supply) (words : ℕ → List ℕ) (steps : ℕ) (r : Run) (c : Cell) → HasCell s words r.state c → HasWish steps r c → IsFoundedIn r c.clock.entity → IsFoundedCell c
cell_founded s words steps r c has wish f =
    same_founded _ _ _ _ _ _ wish.newest has.clock.version (λ i. wish.by_step i || wish.asked i) f
