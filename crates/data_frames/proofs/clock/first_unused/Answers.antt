use Rattle.std.proofs.Common.{◌≡◌, ◌⊎◌, ◌+◌, subst, sym, ◌∙◌, arith}
use Rattle.data_frames.specs.Held.{HavePassed}
use Rattle.data_frames.proofs.Turns.{passes_to, all_cleared}
use Rattle.data_frames.proofs.clock.first_unused.Goals as goal

pub returns-then-stops_at-clause-passes : goal.returns-then-stops_at-clause-passes
returns-then-stops_at-clause-passes c =
    let keys = c.capacity-keys.result in
    let key = c.key_after-key.result in
    let turn = subst (λ start. (key ≡ start + c.loop-step.step) ⊎ (key + keys ≡ start + c.loop-step.step)) c.min-start.ensures c.key_after-key.ensures.turn in
    let have = subst (λ start. HavePassed start keys c.loop-step.step c.args.held.now c.loop-step.held) c.min-start.ensures c.loop-step.invariant.passed in
    passes_to c.args.hand keys c.loop-step.step key c.key_after-key.ensures.within c.loop-step-test.true turn c.args.held.now c.loop-step.held c.stops_at.new.held c.loop-step.invariant.slots have c.stops_at.ensures.spares
    (sym c.stops_at.ensures.value ∙ c.if-stops_at.true)

pub returns-clause-none : goal.returns-clause-none
returns-clause-none c = all_cleared _ _ _ _ _ c.loop-step.invariant.slots (omega arith) c.loop-step.invariant.passed
