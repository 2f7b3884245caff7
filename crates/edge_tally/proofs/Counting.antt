-- Counts that go on together.
use Rattle.std.proofs.Common.{◌≤◌, ◌<◌, ◌-◌, ◌^◌, ◌+◌, ℕ, refl, ◌∙◌, ⊎_elim, arith}
use Rattle.std.proofs.lemmas.Bool.{cases_lt}
use Rattle.edge_disk.specs.Disk.{Ticks}
use Rattle.edge_tally.specs.Counts.{Begins, CountsOn, Shown}

pub CountsOn-stay : (a m : ℕ) → CountsOn a a m m
CountsOn-stay a m = record { clock_later = omega arith; begun_later = omega arith; same = λ since at low. at }

pub CountsOn-then : (a b c k m n : ℕ) → CountsOn a b k m → CountsOn b c m n → CountsOn a c k n
CountsOn-then a b c k m n p q = record {
  clock_later = (let one = p.clock_later in let two = q.clock_later in omega (arith, one, two));
  begun_later = (let one = p.begun_later in let two = q.begun_later in omega (arith, one, two));
  same = λ since at low. q.same since (p.same since at (let two = q.clock_later in omega (arith, two, low))) low;
}

-- CALLS of which each begins a few writes and syncs at most

pub Begins-fewer : (m n : ℕ) (a b : Shown) → m ≤ n → Begins m a b → Begins n a b
Begins-fewer m n a b le p = record { count = p.count; few = (let one = p.few in omega (arith, le, one)); counts = p.counts; later = p.later }

pub Begins-stay : (m : ℕ) (a : Shown) → Begins m a a
Begins-stay m a = record { count = refl; few = omega arith; counts = CountsOn-stay a.clock a.begun; later = omega arith }

pub Begins-then : (m n : ℕ) (a b c : Shown) → Begins m a b → Begins n b c → Begins (m + n) a c
Begins-then m n a b c p q = record {
  count = q.count ∙ p.count;
  few = (let one = p.few in let two = q.few in omega (arith, one, two));
  counts = CountsOn-then a.clock b.clock c.clock a.begun b.begun c.begun p.counts q.counts;
  later = (let one = p.later in let two = q.later in omega (arith, one, two));
}

-- where something was begun, the first of it has ended
pub first_ended : (most blocks blocks' faults faults' old now begun first : ℕ) → Begins most (record { blocks = blocks; clock = old; faults = faults; begun = 0 }) (record { blocks = blocks'; clock = now; faults = faults'; begun = begun })
    → 0 < begun → Ticks old first → first ≤ now
first_ended most blocks blocks' faults faults' old now begun first begins some ticks = ⊎_elim
    (λ (short : now < 2 ^ 64 - 1).
    let later = begins.counts.clock_later in
    let is = begins.counts.same old (omega arith) short in
    let one = ticks.one_more (omega (arith, later, short)) in
    omega (arith, is, one, some))
    (λ (end : 2 ^ 64 - 1 ≤ now). ⊎_elim
    (λ (before : old < 2 ^ 64 - 1). (let one = ticks.one_more before in omega (arith, one, before, end)))
    (λ (past : 2 ^ 64 - 1 ≤ old). (let same = ticks.at_end past in let later = begins.counts.clock_later in omega (arith, same, later)))
    (cases_lt old (2 ^ 64 - 1)))
    (cases_lt now (2 ^ 64 - 1))
