-- A kernel stops between its entries.
use Rattle.std.proofs.Common.{ℕ, List, Some, None, refl, ◌∙◌}
use Rattle.edge_disk.specs.declared.disk.Disk.{Ghosts}
use Rattle.base_types.specs.declared.histories.Entry.{Entry}
use Rattle.kernel_records.specs.store_facts.State.{State, books}
use Rattle.kernel_records.specs.cell_states.declared.cells.Cell.{Cell}
use Rattle.kernel_records.specs.kernel_record_facts.Cells.{words_on}
use Rattle.kernel_laws.specs.kernel_invariant.Beginnings.{Beginning, run_of}
use Rattle.kernel_laws.specs.kernel_invariant.declared.stopping.Stopped.{Stopped}
use Rattle.kernel_laws.specs.Going.{StoppedBetween}
use Rattle.kernel_views.specs.Events.{StopsOver}
use Rattle.kernel_views.specs.Snaps.{Stands}
use Rattle.kernel_views.specs.Views.{FollowsRun, view_of}
use Rattle.kernel_views.proofs.Following.{cells_follow, follows}

module _ {D : Type 0} (disks : Ghosts D)
    (b : Beginning) (cs cs' : List Cell) (old new : State D) (es : List Entry) (marks : List ℕ) (why : Stopped)
    (st : Stands disks b cs old es marks)
    (k : StopsOver disks b cs cs' old new) where
  before : FollowsRun b (words_on (disks.reading old.disk)) cs es
  before = cells_follow b es (disks.reading old.disk) cs st.orderly.numbers (books old) marks None st.runs.follows

  after : FollowsRun b (words_on (disks.reading new.disk)) cs' es
  after = record { state = k.state ∙ before.state; wishes = k.wishes b.script.steps (run_of b es) before.wishes }

  pub stops : StoppedBetween b disks (view_of disks.reading b cs old es marks None)
      (view_of disks.reading b cs' new es marks (Some why)) old.disk new.disk
  stops = record {
    was_going = refl;
    why = why;
    stop = refl;
    history = refl;
    marks = refl;
    follows = follows b es (disks.reading new.disk) cs' k.numbers st.runs.legal after (books new) marks (Some why);
    pages = (k.before, k.after, k.pages);
  }
