use Rattle.std.proofs.Common.{[], ◌∷◌, refl, ap, sym, subst}
use Rattle.thread_stables.specs.kernel_core_facts.kernel_commit_facts.Parts.{parts_of}
use Rattle.thread_stables.specs.thread_cell_steps.Advancing.{TouchesThese}
use Rattle.thread_stables.specs.thread_commits.Snapping.{WritesAmong}
use Rattle.thread_stables.proofs.thread_looks_lemmas.Adding.{look_notes, undone_notes}
use Rattle.thread_stables.proofs.thread_looks_lemmas.Ends.{if_made, some_not}
use Rattle.thread_desk_stables.proofs.stepping.look_or_owe.Goals as goal

pub snap_behind-requires : goal.snap_behind-requires
snap_behind-requires g c =
    let me = c.args.locus.now.number in
    let same = ap (λ n. n ∷ []) c.make_one.ensures.locus.0 in
    record {
      wishes = c.requires.wishes;
      steady = c.in-Some.ensures.makes.steady;
      among = if_made (TouchesThese c.args.all.now me []) (λ m. WritesAmong m.entry (c.make_one.new.locus.number ∷ [])) (λ m t. subst (WritesAmong m.entry) (sym same) t.only) c.in-Some.came c.in-Some.ensures.touches;
    }

pub returns-in-None-clause-adds : goal.returns-in-None-clause-adds
returns-in-None-clause-adds g c =
    undone_notes c.args.locus.now.number (c.args.locus.now.number ∷ []) (parts_of c.args.store.now c.args.all.now c.args.notes.now) (parts_of c.make_one.new.store c.make_one.new.all c.make_one.new.notes) (c.in-None.ensures.undone refl)

pub returns-in-Some-clause-unfit : goal.returns-in-Some-clause-unfit
returns-in-Some-clause-unfit g c = some_not c.in-Some.came c.snap_behind.result c.in-Some.ensures.unfit

pub returns-in-Some-clause-looks : goal.returns-in-Some-clause-looks
returns-in-Some-clause-looks g c =
    c.snap_behind.ensures.looks (g.S.Supplier.word c.args.gate.now.supply) c.args.locus.now.number (parts_of c.args.store.now c.args.all.now c.args.notes.now) c.requires.steady c.in-Some.ensures.makes

pub returns-in-Some-clause-adds : goal.returns-in-Some-clause-adds
returns-in-Some-clause-adds g c =
    look_notes g.D.Disk (g.S.Supplier.word c.args.gate.now.supply) c.args.locus.now.number c.args.all.now [] (parts_of c.args.store.now c.args.all.now c.args.notes.now)
    (parts_of c.make_one.new.store c.make_one.new.all c.make_one.new.notes) c.snap_behind.new.notes.entries c.in-Some.came c.in-Some.ensures.makes c.in-Some.ensures.touches c.snap_behind.ensures.adds
