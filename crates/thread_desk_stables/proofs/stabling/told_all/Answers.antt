use Rattle.std.proofs.Common.{◌≡◌, [], ◌∷◌, Some, None, refl, sym, ap, ◌∙◌}
use Rattle.thread_stables.specs.kernel_core_facts.kernel_commit_facts.Parts.{parts_of}
use Rattle.thread_desk_stables.proofs.Owing.{not_owing, owing_lets, owing_made, owing_step, stable_ended, stable_notes, stable_stopped}
use Rattle.thread_desk_stables.proofs.stabling.told_all.Goals as goal

pub stable_told-requires : goal.stable_told-requires
stable_told-requires g c =
    let d = g.D.Disk in
    let s = g.S.Supplier.word c.args.gate.now.supply in
    let policy = g.P.Policy.wish c.args.gate.now.policy in
    let old = parts_of c.args.store.now c.args.all.now c.args.notes.now in
    let mid = parts_of c.step_at-came.new.store c.step_at-came.new.all c.step_at-came.new.notes in
    let step = owing_step d s policy c.args.me old mid c.step_at-came.result c.in-Some.made (sym c.in-Some.ensures) c.step_at-came.ensures.looks in
    record {
      row = c.step_at-came.ensures.row;
      steady = step.steady;
      spare = step.made.spare;
      lawful = owing_lets d g.B.Board.begin g.B.Board.terms g.B.Run.kept s policy c.requires.managers.0 c.requires.managers.1 c.args.me c.args.all.now c.args.notes.now c.args.annals.now c.args.store.now c.requires.kernel
          c.step_at-came.new.store c.step_at-came.new.all c.step_at-came.new.notes c.step_at-came.new.annals c.step_at-came.ensures.told c.in-Some.made step;
      told = c.step_at-came.ensures.told;
    }

pub returns-in-None-clause-looks : goal.returns-in-None-clause-looks
returns-in-None-clause-looks g c =
    not_owing g.D.Disk (g.S.Supplier.word c.args.gate.now.supply) (g.P.Policy.wish c.args.gate.now.policy) c.args.me (parts_of c.args.store.now c.args.all.now c.args.notes.now)
    (parts_of c.step_at-came.new.store c.step_at-came.new.all c.step_at-came.new.notes) c.step_at-came.result (sym c.in-None.ensures) c.step_at-came.ensures.looks

pub returns-in-Ok-clause-looks : goal.returns-in-Ok-clause-looks
returns-in-Ok-clause-looks g c =
    let d = g.D.Disk in
    let s = g.S.Supplier.word c.args.gate.now.supply in
    let policy = g.P.Policy.wish c.args.gate.now.policy in
    let old = parts_of c.args.store.now c.args.all.now c.args.notes.now in
    let mid = parts_of c.step_at-came.new.store c.step_at-came.new.all c.step_at-came.new.notes in
    let new = parts_of c.stable_told.new.store c.stable_told.new.all c.stable_told.new.notes in
    let came = c.step_at-came.result in
    let m = c.in-Some.made in
    let o = owing_made came m (sym c.in-Some.ensures) in
    stable_ended d s policy c.args.me old mid new m (owing_step d s policy c.args.me old mid came m (sym c.in-Some.ensures) c.step_at-came.ensures.looks) o.1 c.stable_told.result c.stable_told.ensures.settles c.in-Ok.is came o.0

pub returns-in-Ok-clause-notes : goal.returns-in-Ok-clause-notes
returns-in-Ok-clause-notes g c =
    let d = g.D.Disk in
    let s = g.S.Supplier.word c.args.gate.now.supply in
    let policy = g.P.Policy.wish c.args.gate.now.policy in
    let old = parts_of c.args.store.now c.args.all.now c.args.notes.now in
    let mid = parts_of c.step_at-came.new.store c.step_at-came.new.all c.step_at-came.new.notes in
    let new = parts_of c.stable_told.new.store c.stable_told.new.all c.stable_told.new.notes in
    let came = c.step_at-came.result in
    let m = c.in-Some.made in
    let o = owing_made came m (sym c.in-Some.ensures) in
    stable_notes d s policy c.args.me old mid new m (owing_step d s policy c.args.me old mid came m (sym c.in-Some.ensures) c.step_at-came.ensures.looks) o.1 c.stable_told.result c.stable_told.ensures.settles (c.args.me ∷ []) c.step_at-came.ensures.notes

pub returns-in-Ok-clause-undone : goal.returns-in-Ok-clause-undone
returns-in-Ok-clause-undone g c none =
    absurd (let made = (owing_made c.step_at-came.result c.in-Some.made (sym c.in-Some.ensures)).0 in cc (none, made))

pub returns-in-Err-clause-looks : goal.returns-in-Err-clause-looks
returns-in-Err-clause-looks g c =
    let d = g.D.Disk in
    let s = g.S.Supplier.word c.args.gate.now.supply in
    let policy = g.P.Policy.wish c.args.gate.now.policy in
    let old = parts_of c.args.store.now c.args.all.now c.args.notes.now in
    let mid = parts_of c.step_at-came.new.store c.step_at-came.new.all c.step_at-came.new.notes in
    let new = parts_of c.stable_told.new.store c.stable_told.new.all c.stable_told.new.notes in
    let came = c.step_at-came.result in
    let m = c.in-Some.made in
    let o = owing_made came m (sym c.in-Some.ensures) in
    stable_stopped d s policy c.args.me old mid new m (owing_step d s policy c.args.me old mid came m (sym c.in-Some.ensures) c.step_at-came.ensures.looks) o.1 c.stable_told.result c.stable_told.ensures.settles c.in-Err.why c.in-Err.is

pub returns-in-Err-clause-notes : goal.returns-in-Err-clause-notes
returns-in-Err-clause-notes g c =
    let d = g.D.Disk in
    let s = g.S.Supplier.word c.args.gate.now.supply in
    let policy = g.P.Policy.wish c.args.gate.now.policy in
    let old = parts_of c.args.store.now c.args.all.now c.args.notes.now in
    let mid = parts_of c.step_at-came.new.store c.step_at-came.new.all c.step_at-came.new.notes in
    let new = parts_of c.stable_told.new.store c.stable_told.new.all c.stable_told.new.notes in
    let came = c.step_at-came.result in
    let m = c.in-Some.made in
    let o = owing_made came m (sym c.in-Some.ensures) in
    stable_notes d s policy c.args.me old mid new m (owing_step d s policy c.args.me old mid came m (sym c.in-Some.ensures) c.step_at-came.ensures.looks) o.1 c.stable_told.result c.stable_told.ensures.settles (c.args.me ∷ []) c.step_at-came.ensures.notes

pub returns-in-Err-clause-unfit : goal.returns-in-Err-clause-unfit
returns-in-Err-clause-unfit g c = (
  (λ none. absurd (cc none)),
  (λ w. absurd (let made = (owing_made c.step_at-came.result c.in-Some.made (sym c.in-Some.ensures)).0 in let none = c.step_at-came.ensures.unfit.1 w in cc (none, made))),
)
