use Rattle.std.proofs.Common.{sym, ap, subst}
use Rattle.std.proofs.lemmas.Result.{err_from_is_err_and}
use Rattle.cell_states.specs.model_kernel.Acts.{wanted}
use Rattle.cell_states.specs.model_kernel.Outcomes.{outcome}
use Rattle.cell_states.specs.model_kernel.State.{no_atlas}
use Rattle.act_look.specs.act_alone.Loci.{locus_of}
use Rattle.cell_states.specs.Cells.{part_of}
use Rattle.cell_looks.specs.Looking.{part_with}
use Rattle.cell_looks.proofs.AtWord.{on_any_fault, word_step}
use Rattle.cell_looks.proofs.Short.{short_err, short_ok, turned_err}
use Rattle.cell_looks.proofs.Stored.{TellsStores, look_tells}
use Rattle.cell_looks.proofs.LookSteps.{look_touches, stepped_at}
use Rattle.cell_looks.proofs.looks.step_look.Goals as goal

pub returns-clause-step : goal.returns-clause-step
returns-clause-step g c tells w hasc hasd =
    let s = g.S.Supplier.word c.args.gate.now.supply in
    let words = g.B.PageStore.words c.args.store.now in
    let words' = g.B.PageStore.words c.look_in_parts.new.store in
    let run = c.requires.wants in
    let l = locus_of run.0 in
    let me = c.args.locus.now.clock.entity in
    let x = c.args.other.now.clock.entity in
    let there = ap (part_of s words) c.requires.memory.is in
    let stores = subst (λ k. TellsStores (outcome s l (wanted me l) no_atlas k)) (sym there) (look_tells s l no_atlas x me _ run.2) in
    let r = stepped_at s words words' w c.args.locus.now _ c.args.other.now.clock _ _ _ l _ c.write_look.result hasc hasd.part (ap (part_of s words) run.1.is) run.1.runs (look_touches me x l run.2) c.requires.lower
    (c.in_ok-answer.ensures.looked tells me s words' l no_atlas (ap (part_of s words') run.1.is)) stores
    c.write_look.ensures.entity_locus c.write_look.ensures.entity_other (λ j k told. c.write_look.ensures.carries w hasc.clock hasd.clock j k told) in
    (r.0, r.1, (r.2.0, record { part = r.2.1; clock = r.2.2 }))

pub returns-clause-somehow : goal.returns-clause-somehow
returns-clause-somehow g c =
    let made = c.in_ok-answer.ensures.somehow in
    let run = c.requires.wants in
    let l = locus_of run.0 in
    let me = c.args.locus.now.clock.entity in
    let x = c.args.other.now.clock.entity in
    record {
      before = made.before;
      after = made.after;
      past = made.past;
      step = λ own s words w hasc hasd.
          let stores = subst (λ k. TellsStores (outcome s l (wanted me l) no_atlas k)) (sym (ap (part_with (made.before own)) c.requires.memory.is)) (look_tells s l no_atlas x me _ run.2) in
          let r = stepped_at s words words w c.args.locus.now _ c.args.other.now.clock _ _ _ l _ c.write_look.result hasc hasd.part (ap (part_of s words) run.1.is) run.1.runs (look_touches me x l run.2) c.requires.lower
          (made.made own me s words l no_atlas (ap (part_of s words) run.1.is)) stores
          c.write_look.ensures.entity_locus c.write_look.ensures.entity_other (λ j k told. c.write_look.ensures.carries w hasc.clock hasd.clock j k told) in
          (r.0, r.1, (r.2.0, record { part = r.2.1; clock = r.2.2 }));
    }

pub returns-in_err-answer-clause-at_word : goal.returns-in_err-answer-clause-at_word
returns-in_err-answer-clause-at_word g c =
    let run = c.requires.wants in
    on_any_fault c.from_residual.result (word_step c.args.locus.now c.args.other.now run.0 run.1 run.2 c.in_err-answer.ensures.at_word)

pub returns-in_err-answer-clause-no_blocks : goal.returns-in_err-answer-clause-no_blocks
returns-in_err-answer-clause-no_blocks g c =
    let p = err_from_is_err_and c.from_residual.result c.from_residual.ensures.1 in
    rw (p.1, p.2) (short_err _ c.in_err-answer.ensures.no_blocks)

pub returns-in_err-answer-clause-turned : goal.returns-in_err-answer-clause-turned
returns-in_err-answer-clause-turned g c =
    let p = err_from_is_err_and c.from_residual.result c.from_residual.ensures.1 in
    rw (p.1, p.2) (turned_err _ c.in_err-answer.ensures.turned)

pub returns-clause-no_blocks : goal.returns-clause-no_blocks
returns-clause-no_blocks g c = short_ok _ _ c.in_ok-answer.ensures.no_blocks
