-- What is true of the items of all passes.
use Rattle.std.specs.Prelude.{◌≡◌, ◌≤◌, ℕ, List, length, Option, Some, Result, slice_get}
use Rattle.base_types.specs.declared.histories.Entry.{Entry}
use Rattle.thread_desk_stables.specs.kernel_core_facts.kernel_invariant.Beginnings.{Beginning}
use Rattle.thread_desk_stables.specs.kernel_core_facts.kernel_invariant.declared.stopping.Stopped.{Stopped}
use Rattle.thread_desk_stables.specs.kernel_core_facts.declared.looked.Looked.{Looked}
use Rattle.thread_board.specs.declared.views.PassItem.{PassItem}
use Rattle.thread_board.specs.Items.{Each}
use Rattle.thread_board.specs.Sides.{Noting}
use Rattle.thread_desk_stables.specs.thread_desk.Desks.{Knowing}
use Rattle.thread_desk_stables.specs.thread_desk_looks.Items.{StandsAt, WasIdle}
use Rattle.thread_items.specs.declared.items.Came.{Came}
use Rattle.thread_items.specs.declared.items.Came.TheVariants.{Made, Idle, Stopped as StoppedFor, StoppedBehind}
use Rattle.thread_items.specs.declared.items.LookItem.{LookItem}
use Rattle.thread_items.specs.Places.{came_by}

-- what came of a look at the locus IS TRUE of a history and of why the kernel has stopped: its step stands at the place; after so many entries the
-- locus couldn't step; or the kernel has stopped for just this
abbrev pub IsTrueCame : Type 0 → Beginning → List Entry → Option Stopped → ℕ → ℕ → Came → Type 0
IsTrueCame tells b es stop me place (Made e) = StandsAt me place e.value es
IsTrueCame tells b es stop me place (Idle why) = WasIdle tells b me place why es
IsTrueCame tells b es stop me place (StoppedFor why) = (place ≤ length es) × (stop ≡ Some why)
IsTrueCame tells b es stop me place (StoppedBehind e why) = StandsAt me place e.value es × (stop ≡ Some why)

-- AN ITEM IS TRUE
abbrev pub IsTrueItem : Type 0 → Beginning → List Entry → Option Stopped → LookItem → Type 0
IsTrueItem tells b es stop i = IsTrueCame tells b es stop i.locus i.place i.came

-- each item of these is
abbrev pub AreTrueItems : Type 0 → Beginning → List Entry → Option Stopped → List (PassItem LookItem) → Type 0
AreTrueItems tells b es stop = Each (λ (x : PassItem LookItem). IsTrueItem tells b es stop x.item)

-- the item of a look at the locus that answered this after so many entries, by the history behind it
abbrev pub item_of : ℕ → ℕ → Result Looked Stopped → List Entry → LookItem
item_of me place r es = record { locus = me; place = place; came = came_by r (slice_get es place) }

-- a desk and the items of all passes
pub record Itemized (D C : Type 0) : Type 0 where
  pub desk : Knowing D
  pub noting : Noting C LookItem
