use Rattle.std.proofs.Common.{◌≡◌, ℕ, List, [], ◌∷◌, false, refl, sym, subst}
use Rattle.kernel_core_facts.specs.kernel_commit_facts.Parts.{parts_of}
use Rattle.kernel_core_facts.specs.Stepping.{is_owing}
use Rattle.kernel_core_facts.specs.table_steps.declared.stepping.Made.{Made as Step}
use Rattle.thread_cell_steps.specs.Advancing.{TouchesThese}
use Rattle.thread_commits.specs.Lent.{OthersStay}
use Rattle.thread_commits.specs.Snapping.{WritesAmong}
use Rattle.thread_commits.proofs.Lent.{others_then}
use Rattle.thread_looks.proofs.Adding.{look_notes, undone_notes}
use Rattle.thread_looks.proofs.Ends.{if_made, if_same, some_not}
use Rattle.thread_looks.proofs.Free.{other_free}
use Rattle.thread_looks.proofs.Others.{stay_three}
use Rattle.thread_looks.proofs.looking.look_three.Goals as goal

pub snap_behind_three-requires : goal.snap_behind_three-requires
snap_behind_three-requires g c =
    let same : (c.make_three.new.locus.number ∷ c.make_three.new.atlas.number ∷ c.make_three.new.other.number ∷ []) ≡ (c.args.locus.now.number ∷ c.args.atlas.now.number ∷ c.args.other.now.number ∷ []) = λ i. c.make_three.ensures.locus.0 i ∷ c.make_three.ensures.atlas.0 i ∷ c.make_three.ensures.other.0 i ∷ [] in
    record {
      wishes = c.requires.wishes;
      steady = c.in-Some.ensures.makes.steady;
      among = if_made (TouchesThese c.args.all.now c.args.locus.now.number (c.args.atlas.now.number ∷ c.args.other.now.number ∷ [])) (λ m. WritesAmong m.entry (c.make_three.new.locus.number ∷ c.make_three.new.atlas.number ∷ c.make_three.new.other.number ∷ [])) (λ m t. subst (WritesAmong m.entry) (sym same) t.only) c.in-Some.came c.in-Some.ensures.touches;
    }

pub returns-in-None-clause-others : goal.returns-in-None-clause-others
returns-in-None-clause-others g c =
    stay_three c.args.all.now c.make_three.new.all c.args.locus.now.number c.args.atlas.now.number c.args.other.now.number c.make_three.new.locus.cell c.make_three.new.atlas.cell c.make_three.new.other.cell c.make_three.ensures.all

pub returns-in-Some-clause-others : goal.returns-in-Some-clause-others
returns-in-Some-clause-others g c =
    let same : (c.make_three.new.locus.number ∷ c.make_three.new.atlas.number ∷ c.make_three.new.other.number ∷ []) ≡ (c.args.locus.now.number ∷ c.args.atlas.now.number ∷ c.args.other.now.number ∷ []) = λ i. c.make_three.ensures.locus.0 i ∷ c.make_three.ensures.atlas.0 i ∷ c.make_three.ensures.other.0 i ∷ [] in
    others_then (c.args.locus.now.number ∷ c.args.atlas.now.number ∷ c.args.other.now.number ∷ []) c.args.all.now c.make_three.new.all c.snap_behind_three.new.all
    (stay_three c.args.all.now c.make_three.new.all c.args.locus.now.number c.args.atlas.now.number c.args.other.now.number c.make_three.new.locus.cell c.make_three.new.atlas.cell c.make_three.new.other.cell c.make_three.ensures.all)
    (subst (λ (ns : List ℕ). OthersStay ns c.make_three.new.all c.snap_behind_three.new.all) same c.snap_behind_three.ensures.others)

pub returns-in-Some-clause-unfit : goal.returns-in-Some-clause-unfit
returns-in-Some-clause-unfit g c = some_not c.in-Some.came c.snap_behind_three.result c.in-Some.ensures.unfit

pub returns-in-Some-clause-looks : goal.returns-in-Some-clause-looks
returns-in-Some-clause-looks g c =
    c.snap_behind_three.ensures.looks (g.S.Supplier.word c.args.gate.now.supply) c.args.locus.now.number (parts_of c.args.store.now c.args.all.now c.args.notes.now) c.requires.steady c.in-Some.ensures.makes
    (if_made (TouchesThese c.args.all.now c.args.locus.now.number (c.args.atlas.now.number ∷ c.args.other.now.number ∷ [])) (λ (m : Step). is_owing m.instr m.entry.answer ≡ false)
    (λ m t. other_free c.args.all.now c.args.locus.now.number c.args.atlas.now.number (c.args.other.now.number ∷ []) m t) c.in-Some.came c.in-Some.ensures.touches)

pub returns-in-Some-clause-touches : goal.returns-in-Some-clause-touches
returns-in-Some-clause-touches g c = if_same (TouchesThese c.args.all.now c.args.locus.now.number (c.args.atlas.now.number ∷ c.args.other.now.number ∷ [])) c.in-Some.came c.snap_behind_three.result c.snap_behind_three.ensures.same c.in-Some.ensures.touches

pub returns-in-None-clause-adds : goal.returns-in-None-clause-adds
returns-in-None-clause-adds g c =
    undone_notes c.args.locus.now.number (c.args.locus.now.number ∷ c.args.atlas.now.number ∷ c.args.other.now.number ∷ []) (parts_of c.args.store.now c.args.all.now c.args.notes.now) (parts_of c.make_three.new.store c.make_three.new.all c.make_three.new.notes) (c.in-None.ensures.undone refl)

pub returns-in-Some-clause-adds : goal.returns-in-Some-clause-adds
returns-in-Some-clause-adds g c =
    look_notes g.D.Disk (g.S.Supplier.word c.args.gate.now.supply) c.args.locus.now.number c.args.all.now (c.args.atlas.now.number ∷ c.args.other.now.number ∷ []) (parts_of c.args.store.now c.args.all.now c.args.notes.now)
    (parts_of c.make_three.new.store c.make_three.new.all c.make_three.new.notes) c.snap_behind_three.new.notes.entries c.in-Some.came c.in-Some.ensures.makes c.in-Some.ensures.touches c.snap_behind_three.ensures.adds
