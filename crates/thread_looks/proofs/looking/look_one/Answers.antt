use Rattle.std.proofs.Common.{◌≡◌, inl, inr, List, [], ◌∷◌, false, refl, sym, ap, subst, ◌∙◌}
use Rattle.std.proofs.lemmas.Bool.{true≢false}
use Rattle.kernel_core_facts.specs.cell_states.declared.cells.Cell.{Cell}
use Rattle.kernel_core_facts.specs.table_laws.Tables.{AreClean}
use Rattle.kernel_core_facts.specs.kernel_commit_facts.Parts.{parts_of}
use Rattle.kernel_core_facts.specs.kernel_commit_facts.Steady.{IsSteady}
use Rattle.kernel_core_facts.specs.kernel_record_facts.Cells.{words_on}
use Rattle.kernel_core_facts.specs.Stepping.{is_owing}
use Rattle.kernel_core_facts.specs.table_steps.declared.stepping.Made.{Made as Step}
use Rattle.std.specs.Prelude.{IfOk}
use Rattle.thread_cells.specs.Locked.{Keeping}
use Rattle.thread_cell_steps.specs.Advancing.{IsPlanOf, TouchesThese, WantsOthers}
use Rattle.thread_commits.specs.Lent.{OthersStay}
use Rattle.thread_commits.specs.Snapping.{WritesAmong}
use Rattle.thread_commits.proofs.Lent.{others_begin, others_then}
use Rattle.thread_looks.specs.Looking.{LooksAsSerial, NotesLook, WantsStable}
use Rattle.thread_looks.specs.Looking.NotesLook.{Nothing}
use Rattle.kernel_core_facts.specs.Looked.{IfMade}
use Rattle.thread_looks.proofs.Adding.{look_notes, undone_notes}
use Rattle.thread_looks.proofs.Ends.{either_not, if_made, if_same}
use Rattle.thread_looks.proofs.Free.{unwanted_free}
use Rattle.thread_looks.proofs.Others.{stay_one}
use Rattle.thread_looks.proofs.looking.look_one.Goals as goal

pub plan_lent-planned-requires : goal.plan_lent-planned-requires
plan_lent-planned-requires g c = record { order = record { held = _; orderly = c.requires.steady.sound.matches.orderly } }

pub make_planned-requires : goal.make_planned-requires
make_planned-requires g c =
    let same = sym c.plan_lent-planned.ensures.same.0 in
    let st = c.args.store.now in
    record {
      planned = subst (λ (k : Keeping). IsPlanOf k.cell c.plan_lent-planned.result) (sym c.plan_lent-planned.ensures.same.1) c.plan_lent-planned.ensures.planned;
      keeps = c.requires.keeps;
      steady = subst (λ (cs : List Cell). IsSteady g.D.Disk (parts_of st cs c.args.notes.now)) same c.requires.steady;
      clean = λ told. subst (AreClean (g.S.Supplier.word c.args.gate.now.supply) (words_on (g.D.Disk.reading st.disk))) same (c.requires.clean told);
    }

pub snap_behind_one-requires : goal.snap_behind_one-requires
snap_behind_one-requires g c =
    let all = c.plan_lent-planned.new.all in
    let me = c.plan_lent-planned.new.locus.number in
    let same : c.make_planned.new.locus.number ∷ [] ≡ c.plan_lent-planned.new.locus.number ∷ [] = ap (λ n. n ∷ []) c.make_planned.ensures.locus.0 in
    record {
      wishes = c.requires.wishes;
      steady = c.in-Some.ensures.makes.steady;
      among = if_made (TouchesThese all me []) (λ m. WritesAmong m.entry (c.make_planned.new.locus.number ∷ [])) (λ m t. subst (WritesAmong m.entry) (sym same) t.only) c.in-Some.came c.in-Some.ensures.touches;
    }

pub returns-then-wants_stable-clause-others : goal.returns-then-wants_stable-clause-others
returns-then-wants_stable-clause-others g c =
    let xs = c.args.locus.now.number ∷ [] in
    subst (OthersStay (c.args.locus.now.number ∷ []) c.args.all.now) (sym c.plan_lent-planned.ensures.same.0) (others_begin (c.args.locus.now.number ∷ []) c.args.all.now)

pub returns-then-wants_stable-clause-unfit : goal.returns-then-wants_stable-clause-unfit
returns-then-wants_stable-clause-unfit g c = ((λ none. inr ((c.wants_stable.ensures c.args.all.now c.args.locus.now.number (record { idle = c.plan_lent-planned.ensures.idle; plans = c.plan_lent-planned.ensures.plans })).0 c.if-wants_stable.true)), (λ w. refl))

pub returns-in-None-clause-others : goal.returns-in-None-clause-others
returns-in-None-clause-others g c =
    subst (λ n. OthersStay (n ∷ []) c.args.all.now c.make_planned.new.all) (ap (λ (k : Keeping). k.number) c.plan_lent-planned.ensures.same.1)
    (subst (λ (cs : List Cell). OthersStay (c.plan_lent-planned.new.locus.number ∷ []) cs c.make_planned.new.all) c.plan_lent-planned.ensures.same.0
    (stay_one c.plan_lent-planned.new.all c.make_planned.new.all c.plan_lent-planned.new.locus.number c.make_planned.new.locus.cell c.make_planned.ensures.all))

pub returns-in-None-clause-unfit : goal.returns-in-None-clause-unfit
returns-in-None-clause-unfit g c = (
  (λ none. inl (subst (λ n. WantsOthers c.args.all.now n []) (ap (λ (k : Keeping). k.number) c.plan_lent-planned.ensures.same.1)
      (subst (λ (cs : List Cell). WantsOthers cs c.plan_lent-planned.new.locus.number []) c.plan_lent-planned.ensures.same.0 (c.in-None.ensures.unfit.0 refl)))),
  (λ w. refl),
)

pub returns-in-Some-clause-others : goal.returns-in-Some-clause-others
returns-in-Some-clause-others g c =
    let me = c.plan_lent-planned.new.locus.number in
    let behind = subst (λ n. OthersStay (n ∷ []) c.make_planned.new.all c.snap_behind_one.new.all) c.make_planned.ensures.locus.0 c.snap_behind_one.ensures.others in
    subst (λ n. OthersStay (n ∷ []) c.args.all.now c.snap_behind_one.new.all) (ap (λ (k : Keeping). k.number) c.plan_lent-planned.ensures.same.1)
    (subst (λ (cs : List Cell). OthersStay (c.plan_lent-planned.new.locus.number ∷ []) cs c.snap_behind_one.new.all) c.plan_lent-planned.ensures.same.0
    (others_then (me ∷ []) c.plan_lent-planned.new.all c.make_planned.new.all c.snap_behind_one.new.all
    (stay_one c.plan_lent-planned.new.all c.make_planned.new.all me c.make_planned.new.locus.cell c.make_planned.ensures.all) behind))

pub returns-in-Some-clause-unfit : goal.returns-in-Some-clause-unfit
returns-in-Some-clause-unfit g c = (
  (λ none. absurd (cc none)),
  (λ w. either_not c.snap_behind_one.result
      (λ others.
      let here = subst (λ (cs : List Cell). WantsOthers cs c.plan_lent-planned.new.locus.number []) (sym c.plan_lent-planned.ensures.same.0)
      (subst (λ n. WantsOthers c.args.all.now n []) (sym (ap (λ (k : Keeping). k.number) c.plan_lent-planned.ensures.same.1)) others) in
      let none = c.in-Some.ensures.unfit.1 here in
      cc none)
      (λ stable. true≢false (sym ((c.wants_stable.ensures c.args.all.now c.args.locus.now.number (record { idle = c.plan_lent-planned.ensures.idle; plans = c.plan_lent-planned.ensures.plans })).1 stable) ∙ c.if-wants_stable.false)) w),
)

pub returns-in-Some-clause-looks : goal.returns-in-Some-clause-looks
returns-in-Some-clause-looks g c =
    let s = g.S.Supplier.word c.args.gate.now.supply in
    let policy = g.P.Policy.wish c.args.gate.now.policy in
    let st = c.args.store.now in
    let notes = c.args.notes.now in
    let all = c.plan_lent-planned.new.all in
    let me = c.plan_lent-planned.new.locus.number in
    let new = parts_of c.snap_behind_one.new.store c.snap_behind_one.new.all c.snap_behind_one.new.notes in
    let steady = subst (λ (cs : List Cell). IsSteady g.D.Disk (parts_of st cs notes)) (sym c.plan_lent-planned.ensures.same.0) c.requires.steady in
    let none : WantsStable c.plan_lent-planned.new.all c.plan_lent-planned.new.locus.number → ⊥ = λ stable.
    (let here = subst (λ n. WantsStable c.args.all.now n) (ap (λ (k : Keeping). k.number) c.plan_lent-planned.ensures.same.1)
    (subst (λ (cs : List Cell). WantsStable cs c.plan_lent-planned.new.locus.number) c.plan_lent-planned.ensures.same.0 stable) in
    true≢false (sym ((c.wants_stable.ensures c.args.all.now c.args.locus.now.number (record { idle = c.plan_lent-planned.ensures.idle; plans = c.plan_lent-planned.ensures.plans })).1 here) ∙ c.if-wants_stable.false)) in
    subst (λ n. LooksAsSerial g.D.Disk s policy n (parts_of st c.args.all.now notes) new c.snap_behind_one.result) (ap (λ (k : Keeping). k.number) c.plan_lent-planned.ensures.same.1)
    (subst (λ (cs : List Cell). LooksAsSerial g.D.Disk s policy me (parts_of st cs notes) new c.snap_behind_one.result) c.plan_lent-planned.ensures.same.0
    (c.snap_behind_one.ensures.looks s me (parts_of st all notes) steady c.in-Some.ensures.makes
    (if_made (TouchesThese all me []) (λ (m : Step). is_owing m.instr m.entry.answer ≡ false) (λ m t. unwanted_free all me m none t) c.in-Some.came c.in-Some.ensures.touches)))

pub returns-in-Some-clause-touches : goal.returns-in-Some-clause-touches
returns-in-Some-clause-touches g c =
    let all = c.plan_lent-planned.new.all in
    let me = c.plan_lent-planned.new.locus.number in
    subst (λ n. IfOk c.snap_behind_one.result (λ o. IfMade o (TouchesThese c.args.all.now n []))) (ap (λ (k : Keeping). k.number) c.plan_lent-planned.ensures.same.1)
    (subst (λ (cs : List Cell). IfOk c.snap_behind_one.result (λ o. IfMade o (TouchesThese cs me []))) c.plan_lent-planned.ensures.same.0
    (if_same (TouchesThese all me []) c.in-Some.came c.snap_behind_one.result c.snap_behind_one.ensures.same c.in-Some.ensures.touches))

pub returns-then-wants_stable-clause-adds : goal.returns-then-wants_stable-clause-adds
returns-then-wants_stable-clause-adds g c = Nothing refl

pub returns-in-None-clause-adds : goal.returns-in-None-clause-adds
returns-in-None-clause-adds g c =
    undone_notes c.args.locus.now.number (c.args.locus.now.number ∷ []) (parts_of c.args.store.now c.plan_lent-planned.new.all c.args.notes.now) (parts_of c.make_planned.new.store c.make_planned.new.all c.make_planned.new.notes) (c.in-None.ensures.undone refl)

pub returns-in-Some-clause-adds : goal.returns-in-Some-clause-adds
returns-in-Some-clause-adds g c =
    let all = c.plan_lent-planned.new.all in
    let me = c.plan_lent-planned.new.locus.number in
    subst (λ n. NotesLook n (n ∷ []) c.args.notes.now.entries c.snap_behind_one.new.notes.entries) (ap (λ (k : Keeping). k.number) c.plan_lent-planned.ensures.same.1)
    (look_notes g.D.Disk (g.S.Supplier.word c.args.gate.now.supply) me all [] (parts_of c.args.store.now all c.args.notes.now) (parts_of c.make_planned.new.store c.make_planned.new.all c.make_planned.new.notes)
    c.snap_behind_one.new.notes.entries c.in-Some.came c.in-Some.ensures.makes c.in-Some.ensures.touches c.snap_behind_one.ensures.adds)
