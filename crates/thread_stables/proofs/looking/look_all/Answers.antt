use Rattle.std.proofs.Common.{◌+◌, ◌<◌, [], ◌∷◌, map}
use Rattle.std.specs.Sync.Mutex.{mutex_guard_value}
use Rattle.kernel_core_facts.specs.kernel_commit_facts.Parts.{parts_of}
use Rattle.kernel_core_facts.specs.kernel_commit_facts.Steady.{entries_taken, steps_to_come}
use Rattle.kernel_core_facts.specs.Stepping.{HasStepped}
use Rattle.kernel_core_facts.specs.table_steps.declared.stepping.Made.{Made as Step}
use Rattle.thread_looks.specs.thread_cell_steps.Advancing.{TouchesThese}
use Rattle.thread_settling.specs.thread_commits.Snapping.{WritesAmong}
use Rattle.thread_looks.proofs.Ends.{if_made, if_same, some_not}
use Rattle.thread_stables.proofs.Seats.{seats_then}
use Rattle.thread_stables.proofs.looking.look_all.Goals as goal

pub look_behind-requires : goal.look_behind-requires
look_behind-requires g c =
    let old = parts_of c.args.store.now c.args.all.now c.args.notes.now in
    let mid = parts_of c.make_at.new.store c.make_at.new.all c.make_at.new.notes in
    record {
      wishes = c.requires.wishes;
      row = c.in-Some.ensures.row;
      steady = c.in-Some.ensures.makes.steady;
      spare = if_made (λ (m : Step). HasStepped g.D.Disk c.args.me old mid m.entry) (λ (m : Step). steps_to_come mid.cells + entries_taken mid.noted.entries < mid.noted.room) (λ m h. h.spare) c.in-Some.came c.in-Some.ensures.makes.made;
      among = if_made (TouchesThese c.args.all.now c.args.me []) (λ (m : Step). WritesAmong m.entry (c.args.me ∷ [])) (λ m t. t.only) c.in-Some.came c.in-Some.ensures.touches;
    }

pub returns-in-Some-clause-seats : goal.returns-in-Some-clause-seats
returns-in-Some-clause-seats g c =
    seats_then (map mutex_guard_value c.args.cells.now) (map mutex_guard_value c.make_at.new.cells) (map mutex_guard_value c.look_behind.new.cells) c.in-Some.ensures.seats c.look_behind.ensures.seats

pub returns-in-Some-clause-unfit : goal.returns-in-Some-clause-unfit
returns-in-Some-clause-unfit g c = some_not c.in-Some.came c.look_behind.result c.in-Some.ensures.unfit

pub returns-in-Some-clause-looks : goal.returns-in-Some-clause-looks
returns-in-Some-clause-looks g c =
    c.look_behind.ensures.looks (g.S.Supplier.word c.args.gate.now.supply) (parts_of c.args.store.now c.args.all.now c.args.notes.now) c.requires.steady c.in-Some.ensures.makes

pub returns-in-Some-clause-touches : goal.returns-in-Some-clause-touches
returns-in-Some-clause-touches g c = if_same (TouchesThese c.args.all.now c.args.me []) c.in-Some.came c.look_behind.result c.look_behind.ensures.same c.in-Some.ensures.touches
