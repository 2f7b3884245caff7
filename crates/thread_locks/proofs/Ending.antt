-- The kernel that a board gives back, and the items of its passes.
use Rattle.std.proofs.Common.{◌≡◌, List, Option, sym, ap, ◌∙◌, subst}
use mathlib.Core.List.{IsPrefix}
use Rattle.edge_disk.specs.declared.disk.Disk.{Ghosts}
use Rattle.base_types.specs.declared.histories.Entry.{Entry}
use Rattle.thread_items.specs.kernel_core.Parts.{held_of}
use Rattle.kernel_run_facts.specs.kernel_core_facts.Kernels.{Held, IsKept, Lives, StaysClean}
use Rattle.kernel_run_facts.specs.kernel_core_facts.cell_states.declared.cells.Cell.{Cell}
use Rattle.kernel_run_facts.specs.kernel_core_facts.kernel_commit_facts.Parts.{Noted}
use Rattle.kernel_run_facts.specs.kernel_core_facts.kernel_invariant.Beginnings.{Beginning}
use Rattle.kernel_run_facts.specs.kernel_core_facts.kernel_invariant.declared.stopping.Stopped.{Stopped}
use Rattle.kernel_run_facts.specs.kernel_core_facts.store_facts.State.{State}
use Rattle.kernel_run_facts.specs.Alongs.{IsAlong}
use Rattle.thread_board.specs.declared.views.PassItem.{PassItem}
use Rattle.thread_board.specs.Items.{Each, IsWithin}
use Rattle.thread_board.specs.Sides.{PassSeen}
use Rattle.thread_board.proofs.Within.{each_map}
use Rattle.thread_items.specs.thread_desk.Desks.{Terms, IsCountedFrom, IsKernel, knowing}
use Rattle.thread_items.specs.declared.items.LookItem.{LookItem}
use Rattle.thread_items.specs.Items.{AreTrueItems}
use Rattle.thread_items.proofs.Truths.{items_within}

-- THE PARTS that the desk knew, with the cells that came back
module _ {D : Type 0} (disks : Ghosts D) (b : Beginning) (terms : Terms) (kept : List Entry) (ss : List (State D)) (cs ds : List Cell) (n : Noted) (told : List Entry) (stop : Option Stopped) (st : State D)
    (is : IsKernel disks b terms kept (knowing ss cs n told stop) st) (same : ds ≡ cs) where
  pub kept_again : IsKept disks (held_of st ds n stop)
  kept_again = subst (λ (l : List Cell). IsKept disks (held_of st l n stop)) (sym same) is.is_kept

  module _ (k : Held D) (made : k ≡ held_of st ds n stop) where
    known_again : k ≡ held_of st cs n stop
    known_again = made ∙ ap (λ (l : List Cell). held_of st l n stop) same

    pub counted_again : IsCountedFrom disks terms.counts k
    counted_again = subst (IsCountedFrom disks terms.counts) (sym known_again) is.counted

    pub clean_again : StaysClean disks b.supply k
    clean_again = subst (StaysClean disks b.supply) (sym known_again) is.clean

    pub lives_again : terms.told → Lives disks b k
    lives_again t = subst (Lives disks b) (sym known_again) (is.lives t)

    pub along_again : terms.told → IsAlong disks b k
    along_again t = subst (IsAlong disks b) (sym known_again) (is.along t)

    pub begun_again : IsPrefix kept k.parts.noted.entries
    begun_again = (told, sym (ap (λ (h : Held D). h.parts.noted.entries) made ∙ is.entries))

-- THE ITEMS of passes that stand among all are true where all are
module _ (tells : Type 0) (b : Beginning) (es fs : List Entry) (stop end : Option Stopped) (all : List (PassItem LookItem)) (R : PassSeen LookItem → Type 0) where
  abbrev Stands : PassSeen LookItem → Type 0
  Stands p = IsWithin p.items all × R p

  pub items_back : fs ≡ es → end ≡ stop → AreTrueItems tells b es stop all → (ps : List (PassSeen LookItem)) → Each Stands ps → Each (λ (p : PassSeen LookItem). AreTrueItems tells b fs end p.items) ps
  items_back same_history same_stop are_true ps each =
      each_map Stands (λ (p : PassSeen LookItem). AreTrueItems tells b fs end p.items)
      (λ (p : PassSeen LookItem) (s : Stands p).
      subst (λ (l : List Entry). AreTrueItems tells b l end p.items) (sym same_history)
      (subst (λ (o : Option Stopped). AreTrueItems tells b es o p.items) (sym same_stop) (items_within tells b es stop p.items all s.0 are_true)))
      ps each

  -- of what was seen of the desk
  pub rest_back : (ps : List (PassSeen LookItem)) → Each Stands ps → Each R ps
  rest_back ps each = each_map Stands R (λ (p : PassSeen LookItem) (s : Stands p). s.1) ps each

-- the items of passes, where they are told of another desk that is the same
pub told_again : (tells : Type 0) (b : Beginning) (es fs : List Entry) (stop end : Option Stopped) (ps : List (PassSeen LookItem)) → fs ≡ es → end ≡ stop
    → Each (λ (p : PassSeen LookItem). AreTrueItems tells b es stop p.items) ps → Each (λ (p : PassSeen LookItem). AreTrueItems tells b fs end p.items) ps
told_again tells b es fs stop end ps same_history same_stop each =
    subst (λ (l : List Entry). Each (λ (p : PassSeen LookItem). AreTrueItems tells b l end p.items) ps) (sym same_history)
    (subst (λ (o : Option Stopped). Each (λ (p : PassSeen LookItem). AreTrueItems tells b es o p.items) ps) (sym same_stop) each)
