use Rattle.std.proofs.Common.{◌≡◌, ◌⊎◌, ◌+◌, subst}
use Rattle.data_frames.specs.Held.{NoneBehind}
use Rattle.data_frames.proofs.Turns.{first_key}
use Rattle.data_frames.proofs.clock.first_frame.Goals as goal

pub returns-then-contains-clause-first : goal.returns-then-contains-clause-first
returns-then-contains-clause-first c =
    let keys = c.capacity-keys.result in
    let key = c.key_after-key.result in
    let turn = subst (λ start. (key ≡ start + c.loop-step.step) ⊎ (key + keys ≡ start + c.loop-step.step)) c.min-start.ensures c.key_after-key.ensures.turn in
    let none = subst (λ start. NoneBehind start keys c.loop-step.step c.args.held.now) c.min-start.ensures c.loop-step.invariant.none in
    first_key c.args.hand keys c.loop-step.step key c.key_after-key.ensures.within c.loop-step-test.true turn c.args.held.now c.loop-step.invariant.slots none
