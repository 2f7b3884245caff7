use Rattle.std.proofs.Common.{◌≡◌, ℕ, ◌+◌, ◌<◌, ap, sym, refl, ◌∙◌, arith, slice_index}
use Rattle.std.specs.List.{list_any}
use Rattle.std.proofs.lemmas.Bool.{false≢true}
use Rattle.base_types.specs.declared.histories.Touch.{Touch}
use Rattle.plain_states.specs.model_kernel.Histories.{locus_in}
use Rattle.plain_states.specs.model_kernel.Words.{put}
use Rattle.plain_states.specs.Plains.{cells_of}
use Rattle.script_types.specs.Scripts.{tables_of}
use Rattle.trace_steps.specs.Asking.{due_at, if_ok}
use Rattle.trace_steps.proofs.Stepping.{asked_ok, can_of, due_refuses, few_versions, idle_refuses, named, owed_ok, step_may, step_stands}
use Rattle.trace_steps.proofs.steps.step.Goals as goal

below : (n x : ℕ) → n ≡ x → n < 64 → x < 64
below n x e h = omega arith

pub returns-then-not-may_step-clause-none : goal.returns-then-not-may_step-clause-none
returns-then-not-may_step-clause-none g c = λ w es h e ev by may.
    false≢true (sym c.if-not-may_step.true ∙ c.may_step.ensures.1 (can_of g.gate.word g.gate.wish (tables_of c.args.script.now) w es c.args.checker.now h c.requires.1.1.1.1.1.1.0 c.args.locus e ev by may))

pub plain_step-requires : goal.plain_step-requires
plain_step-requires g c κs within =
    let at = c.requires.1.1.1.1.1.1.1 in
    let k = at.2.keeps in
    (λ a mem. within a mem, (c.requires.1.1.0, (c.requires.1.1.1.0, (k.sound, (few_versions g.gate.word g.gate.wish (tables_of c.args.script.now) at.0 at.1 (cells_of g.gate.word c.args.checker.now.state) c.args.checker.now.versions at.2.run k.has, k.edges)))))

pub returns-in_default-clause-none : goal.returns-in_default-clause-none
returns-in_default-clause-none g c = λ w es h e ev by may.
    let idle = rw c.in_default.is at c.in_ok-entry.ensures.idle in
    idle_refuses g.gate.word g.gate.wish (tables_of c.args.script.now) w es c.args.checker.now h c.requires.1.1.1.1.1.1.0 c.args.locus (idle.0 refl) e ev by may

pub returns-then-is_any_due-clause-none : goal.returns-then-is_any_due-clause-none
returns-then-is_any_due-clause-none g c = λ w es h f ev by may.
    let old = c.args.checker.now in
    let makes = rw c.in-Some.is at c.in_ok-entry.ensures.step in
    due_refuses g.gate.word g.gate.wish (tables_of c.args.script.now) w es old h c.requires.1.1.1.1.1.1.0 c.args.locus c.plain_step.new.state c.plain_step.new.versions c.in-Some.entry makes c.intervals-everies.result (c.intervals-everies.ensures g.gate.word)
    (sym (c.is_any_due.ensures ∙ ap (list_any (λ (t : Touch). due_at g.gate.wish old.wishes c.intervals-everies.result old.versions t.entity)) c.as_slice.ensures.touches) ∙ c.if-is_any_due.true) f ev by may

pub returns-clause-some : goal.returns-clause-some
returns-clause-some g c = λ w es h.
    let s = g.gate.word in
    let p = g.gate.wish in
    let script = tables_of c.args.script.now in
    let old = c.args.checker.now in
    let l = c.args.locus in
    let st = c.plain_step.new.state in
    let vs = c.plain_step.new.versions in
    let e = c.in-Some.entry in
    let tried = c.requires.1.1.1.1.1.1.0 in
    let makes = rw c.in-Some.is at c.in_ok-entry.ensures.step in
    let can = c.may_step.ensures.0 c.if-not-may_step.false in
    let low = below _ _ c.number.ensures.number c.number.ensures.small in
    let name = named s p script w es old h tried l st vs e makes in
    let may =
    step_may s p script w es old h tried l st vs e makes c.intervals-everies.result low can (c.intervals-everies.ensures s)
    (sym (c.is_any_due.ensures ∙ ap (list_any (λ (t : Touch). due_at p old.wishes c.intervals-everies.result old.versions t.entity)) c.as_slice.ensures.touches) ∙ c.if-is_any_due.false) in
    record {
      made = name.0;
      by = name.1;
      may = may;
      stands = step_stands s p script w es old h tried l st vs e makes may low c.plain_step.ensures.sound c.plain_step.ensures.edges c.plain_step.ensures.names can.born c.take_in.new.self c.take_step.new.self c.count_step.new.made
          c.where_ok-checker.result c.where_ok.result c.take_in.ensures
          (λ y. c.count_step.ensures y ∙ ap (λ n. put (slice_index old.made) n (slice_index old.made n + 1) y) c.number.ensures.number)
          (sym (owed_ok l e.answer (locus_in (cells_of s old.state l))) ∙ ap (if_ok e.answer) (c.owed_at-owed.ensures s) ∙ sym c.where_ok-checker.ensures)
          (sym (asked_ok e.answer (locus_in (cells_of s old.state l))) ∙ ap (if_ok e.answer) (c.asked_at-asked.ensures s) ∙ sym c.where_ok.ensures)
          c.take_step.ensures.by_step c.take_step.ensures.asked c.take_step.ensures.was_full c.take_step.ensures.newest c.take_step.ensures.full;
    }
