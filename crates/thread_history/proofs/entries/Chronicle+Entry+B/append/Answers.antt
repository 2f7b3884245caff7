use Rattle.std.proofs.Common.{[], ◌∷◌, ap}
use Rattle.thread_history.proofs.entries.Chronicle+Entry+B.append.Goals as goal

pub returns-in-Some-c-clause-a : goal.returns-in-Some-c-clause-a
returns-in-Some-c-clause-a g c = rw c.in-Some.is (ap (λ s. s ∷ []) c.append_with_three.ensures.a)

pub returns-in-Some-c-clause-b : goal.returns-in-Some-c-clause-b
returns-in-Some-c-clause-b g c = rw c.in-Some-b.is (ap (λ s. s ∷ []) c.append_with_three.ensures.b)

pub returns-in-Some-c-clause-c : goal.returns-in-Some-c-clause-c
returns-in-Some-c-clause-c g c = rw c.in-Some-c.is (ap (λ s. s ∷ []) c.append_with_three.ensures.c)

pub returns-in-None-c-clause-a : goal.returns-in-None-c-clause-a
returns-in-None-c-clause-a g c = rw c.in-Some.is (ap (λ s. s ∷ []) c.append_with_two.ensures.a)

pub returns-in-None-c-clause-b : goal.returns-in-None-c-clause-b
returns-in-None-c-clause-b g c = rw c.in-Some-b.is (ap (λ s. s ∷ []) c.append_with_two.ensures.b)

pub returns-in-Some-c-2-clause-a : goal.returns-in-Some-c-2-clause-a
returns-in-Some-c-2-clause-a g c = rw c.in-Some.is (ap (λ s. s ∷ []) c.append_with_two-in-Some-c-2.ensures.a)

pub returns-in-Some-c-2-clause-c : goal.returns-in-Some-c-2-clause-c
returns-in-Some-c-2-clause-c g c = rw c.in-Some-c-2.is (ap (λ s. s ∷ []) c.append_with_two-in-Some-c-2.ensures.b)

pub returns-in-None-c-2-clause-a : goal.returns-in-None-c-2-clause-a
returns-in-None-c-2-clause-a g c = rw c.in-Some.is (ap (λ s. s ∷ []) c.append_with_one.ensures.a)

pub returns-in-Some-c-3-clause-b : goal.returns-in-Some-c-3-clause-b
returns-in-Some-c-3-clause-b g c = rw c.in-Some-b-2.is (ap (λ s. s ∷ []) c.append_with_two-in-Some-c-3.ensures.a)

pub returns-in-Some-c-3-clause-c : goal.returns-in-Some-c-3-clause-c
returns-in-Some-c-3-clause-c g c = rw c.in-Some-c-3.is (ap (λ s. s ∷ []) c.append_with_two-in-Some-c-3.ensures.b)

pub returns-in-None-c-3-clause-b : goal.returns-in-None-c-3-clause-b
returns-in-None-c-3-clause-b g c = rw c.in-Some-b-2.is (ap (λ s. s ∷ []) c.append_with_one-in-None-c-3.ensures.a)

pub returns-in-Some-c-4-clause-c : goal.returns-in-Some-c-4-clause-c
returns-in-Some-c-4-clause-c g c = rw c.in-Some-c-4.is (ap (λ s. s ∷ []) c.append_with_one-in-Some-c-4.ensures.a)
