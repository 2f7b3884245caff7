use Rattle.std.proofs.Common.{refl, arith}
use Rattle.data_frames.proofs.Kept.{empty_frame, no_empty_frame, some_taken, victim_resident}
use Rattle.data_frames.proofs.Victims.{victim_is}
use Rattle.data_frames.proofs.Frames.victim.Goals as goal

pub returns-then-len-self-clause-none : goal.returns-then-len-self-clause-none
returns-then-len-self-clause-none c = rw (← c.self.view_is) (λ _. empty_frame _ _ _ c.self.invariant (omega arith), λ _. refl)

pub unreachable-requires : goal.unreachable-requires
unreachable-requires c = some_taken _ _ _ c.self.invariant (omega arith) c.in_default.ensures.none

pub returns-clause-none : goal.returns-clause-none
returns-clause-none c =
    rw (← c.self.view_is) (λ none. absurd (cc none), λ empty. absurd (no_empty_frame _ _ _ c.self.invariant (omega arith) empty))

pub returns-clause-resident : goal.returns-clause-resident
returns-clause-resident c =
    let kept = c.in-Some.ensures.kept in
    rw (← c.self.view_is) (victim_resident _ _ _ c.self.invariant _ kept c.in-Some.key c.index.result.now c.index.ensures)

pub returns-clause-victim : goal.returns-clause-victim
returns-clause-victim c =
    rw (← c.self.view_is) (victim_is _ _ _ _ c.self.invariant c.in-Some.ensures.kept c.self.inside.hand c.in-Some.key c.index.result.now c.index.ensures c.in-Some.ensures.chosen)
