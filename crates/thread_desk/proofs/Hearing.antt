-- What a cell is that the desk knows.
use Rattle.std.proofs.Common.{◌≡◌, ℕ, List, ◌++◌, Option, Some, slice_get, slice_set, sym, ap, ◌∙◌, subst}
use Rattle.std.proofs.lemmas.Option.{same_Some, slice_get_within}
use mathlib.Core.List.{IsPrefix}
use Rattle.edge_disk.specs.declared.disk.Disk.{Ghosts}
use Rattle.base_types.specs.declared.histories.Entry.{Entry}
use Rattle.kernel_core.specs.kernel_core_facts.cell_states.declared.cells.Cell.{Cell}
use Rattle.kernel_core.specs.kernel_core_facts.kernel_commit_facts.Parts.{Noted}
use Rattle.kernel_core.specs.kernel_core_facts.kernel_invariant.Beginnings.{Beginning, IsLegal, state_after}
use Rattle.kernel_core.specs.kernel_core_facts.kernel_invariant.declared.stopping.Stopped.{Stopped}
use Rattle.kernel_core.specs.kernel_core_facts.kernel_record_facts.Cells.{words_on}
use Rattle.kernel_core.specs.kernel_core_facts.store_facts.State.{State, books}
use Rattle.kernel_core.specs.kernel_core_facts.table_births.model_kernel.Histories.{IsLegalRun, Policy, event_of, writes}
use Rattle.kernel_core.specs.kernel_core_facts.table_births.model_kernel.Parts.{after}
use Rattle.kernel_core.specs.kernel_core_facts.table_births.model_kernel.Scripts.{Script}
use Rattle.kernel_core.specs.kernel_core_facts.table_births.model_kernel.State.{KernelState, Supply}
use Rattle.kernel_core.specs.kernel_core_facts.table_laws.Tables.{entity_by, entity_in}
use Rattle.table_laws.proofs.Facing.{ready_at}
use Rattle.table_laws.proofs.plain_states_lemmas.CellLemmas.{slice_get-set_same}
use Rattle.thread_history.specs.Rules.{concerning}
use Rattle.thread_desk.specs.Desks.{Terms, IsDesk, IsKernel, knowing}
use Rattle.thread_desk.specs.Sights.{AreKnown, IsSighted}

-- WHAT THE LAW OF KNOWN STATES SAYS
abbrev pub KnownLaw : Type 0
KnownLaw = (s : Supply) (policy : Policy) (script : Script) (w : KernelState) (kept es hs : List Entry) (x : ℕ) → IsPrefix es hs → concerning writes x es ≡ concerning writes x hs
    → IsLegalRun s policy w script (kept ++ hs) → after (event_of s script) w (kept ++ hs) x ≡ after (event_of s script) w (kept ++ es) x

module _ {D : Type 0} (disks : Ghosts D) (b : Beginning) (terms : Terms) (kept : List Entry) where
  -- the same lists are the same desk
  pub same_desk : (ss xs : List (State D)) (cs ys : List Cell) (n : Noted) (es fs : List Entry) (stop : Option Stopped) → xs ≡ ss → ys ≡ cs → fs ≡ es
      → IsDesk disks b terms kept (knowing ss cs n es stop) → IsDesk disks b terms kept (knowing xs ys n fs stop)
  same_desk ss xs cs ys n es fs stop stores cells told k =
      subst (λ l. IsDesk disks b terms kept (knowing l ys n fs stop)) (sym stores)
      (subst (λ l. IsDesk disks b terms kept (knowing ss l n fs stop)) (sym cells)
      (subst (λ l. IsDesk disks b terms kept (knowing ss cs n l stop)) (sym told) k))

  -- the desk's kernel over the store that a till has
  pub with_store : (ss : List (State D)) (cs : List Cell) (n : Noted) (es : List Entry) (stop : Option Stopped) (number : ℕ) (value : Option (State D)) (st : State D)
      → number ≡ 0 → value ≡ Some st → slice_get ss number ≡ value → IsDesk disks b terms kept (knowing ss cs n es stop) → IsKernel disks b terms kept (knowing ss cs n es stop) st
  with_store ss cs n es stop number value st zero is agreed k = k st (ap (slice_get ss) (sym zero) ∙ (agreed ∙ is))

  module _ (ss : List (State D)) (cs : List Cell) (n : Noted) (es : List Entry) (stop : Option Stopped) (st : State D) (k : IsKernel disks b terms kept (knowing ss cs n es stop) st) where
    -- the cells are what the whole history makes
    pub known_cells : AreKnown disks terms.told b kept st cs es
    known_cells = record {
      order = record { held = (books st).held; orderly = k.is_kept.orderly };
      state = λ told x. ap (λ (w : KernelState). w x) (k.lives told).live.running.follows.state ∙ ap (λ fs. state_after b fs x) k.entries;
    }

    -- a cell is what the history that its share knows makes of its entity
    pub heard : (known : List Entry) (x : ℕ) (a : Cell) → terms.told → slice_get cs x ≡ Some a → IsPrefix known es → concerning writes x known ≡ concerning writes x es → KnownLaw
        → entity_by b.supply (words_on (disks.reading st.disk)) a ≡ state_after b (kept ++ known) x
    heard known x a told at begins quiet law =
        let legal = subst (IsLegal b) k.entries (k.lives told).live.running.legal in
        sym (ap (entity_in b.supply (words_on (disks.reading st.disk)) x) at)
        ∙ (known_cells.state told x
        ∙ law b.supply b.policy b.script b.state kept known es x begins quiet legal)

-- a cell that is known may be let go
pub sight : {D : Type 0} (disks : Ghosts D) (spoken : Type 0) (b : Beginning) (kept : List Entry) (st : State D) (cs : List Cell) (es : List Entry) (x : ℕ) (a : Cell) → AreKnown disks spoken b kept st cs es → slice_get cs x ≡ Some a
    → IsSighted disks spoken b kept (record { number = x; cell = a; known = es; store = st })
sight disks spoken b kept st cs es x a known at = record {
  state = λ told. sym (ap (entity_in b.supply (words_on (disks.reading st.disk)) x) at) ∙ known.state told x;
  ready = λ l is. ready_at known.order.held cs known.order.orderly x a l at is;
}

-- the store that was put back is the one that is known
pub put_store : {A : Type 0} (ss ts xs : List A) (number : ℕ) (was now z : A) → xs ≡ slice_set ts number now → ts ≡ ss → number ≡ 0 → slice_get ss 0 ≡ Some was → slice_get xs 0 ≡ Some z → z ≡ now
put_store ss ts xs number was now z is same zero at found =
    let put = is ∙ ap (λ l. slice_set l number now) same ∙ ap (λ m. slice_set ss m now) zero in
    same_Some z now (sym found ∙ ap (λ l. slice_get l 0) put ∙ slice_get-set_same ss 0 now (slice_get_within ss 0 was at))
