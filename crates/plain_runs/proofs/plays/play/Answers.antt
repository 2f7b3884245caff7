use Rattle.std.proofs.Common.{IsTrue, List, Ok, Err, OnOk, is_ok, refl, sym, subst}
use Rattle.base_types.specs.declared.histories.Entry.{Entry}
use Rattle.plain_steps.specs.model_kernel.Serial.{IsSerial}
use Rattle.plain_steps.specs.model_kernel.State.{KernelState, empty_state}
use Rattle.plain_states.specs.Plains.{atlas_of, cells_of}
use Rattle.script_types.specs.Scripts.{tables_of}
use Rattle.plain_runs.specs.Standing.{Stands}
use Rattle.plain_runs.proofs.Beginning.{play_of}
use Rattle.plain_steps.proofs.plain_facts_lemmas.ShortNames.{sound_short}
use Rattle.plain_runs.proofs.plays.play.Goals as goal

pub finish-requires : goal.finish-requires
finish-requires g c κs lives =
    let q = c.requires.1.1.1 in
    let script = tables_of c.args.script.now in
    let begun = subst (λ (es : List Entry). Stands g.s script empty_state c.fresh-run.result es) (sym c.new-history.ensures.items) (c.fresh-run.ensures g.s script q.1 q.0) in
    (λ a mem. lives a mem, (c.requires.1.0, (c.requires.1.1.0, (empty_state, begun))))

pub returns-clause-play : goal.returns-clause-play
returns-clause-play g c =
    let q = c.requires.1.1.1 in
    let script = tables_of c.args.script.now in
    let begun = subst (λ (es : List Entry). Stands g.s script empty_state c.fresh-run.result es) (sym c.new-history.ensures.items) (c.fresh-run.ensures g.s script q.1 q.0) in
    play_of g.s script c.finish.new.run c.into_parts-state.result.0 c.finish.new.history.items c.into_parts-state.ensures.state (c.finish.ensures.records empty_state begun)

pub returns-clause-names : goal.returns-clause-names
returns-clause-names g c =
    let q = c.requires.1.1.1 in
    let script = tables_of c.args.script.now in
    let begun = subst (λ (es : List Entry). Stands g.s script empty_state c.fresh-run.result es) (sym c.new-history.ensures.items) (c.fresh-run.ensures g.s script q.1 q.0) in
    let play = play_of g.s script c.finish.new.run c.into_parts-state.result.0 c.finish.new.history.items c.into_parts-state.ensures.state (c.finish.ensures.records empty_state begun) in
    sound_short (cells_of g.s c.into_parts-state.result.0) (atlas_of c.into_parts-state.result.0.atlas) play.sound refl

pub returns-clause-whole : goal.returns-clause-whole
returns-clause-whole g c whole =
    let q = c.requires.1.1.1 in
    let script = tables_of c.args.script.now in
    let es = c.finish.new.history.items in
    let begun = subst (λ (es : List Entry). Stands g.s script empty_state c.fresh-run.result es) (sym c.new-history.ensures.items) (c.fresh-run.ensures g.s script q.1 q.0) in
    let over = elim c.finish.result as (λ res. IsTrue (is_ok res) → OnOk res ((w : KernelState) → Stands g.s script w c.fresh-run.result c.new-history.result.items → IsSerial g.s script w es) → (w : KernelState) → Stands g.s script w c.fresh-run.result c.new-history.result.items → IsSerial g.s script w es) [
      | Ok x ↦ λ t h. h
      | Err e ↦ λ t h. (let bad : ⊥ = cc in absurd bad)
    ] (subst IsTrue c.is_ok-whole.ensures.value whole) c.finish.ensures.over in
    over empty_state begun
