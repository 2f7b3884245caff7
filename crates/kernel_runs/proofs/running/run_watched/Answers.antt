use Rattle.std.proofs.Common.{◌≡◌, ◌+◌, ◌*◌, ◌^◌, ◌++◌, [], None, Some, Option, List, length, map, refl, sym, ap, subst, ◌∙◌, arith}
use Rattle.std.specs.Prelude.{Err, IfSome, Ok, Result, string_bytes, ⊤}
use Rattle.base_types.specs.declared.histories.Entry.{Entry}
use Rattle.script_types.specs.model_kernel.Scripts.{Script}
use Rattle.script_types.specs.Scripts.{tables_of}
use Rattle.kernel_run_facts.specs.model_serial.Serial.{opening}
use Rattle.kernel_run_facts.specs.kernel_invariant.declared.stopping.Stopped.{Stopped}
use Rattle.kernel_run_facts.specs.kernel_commits.Telling.{told_again}
use Rattle.kernel_run_facts.specs.kernel_commits.declared.stopping.Stop.{Stop}
use Rattle.kernel_run_facts.proofs.kernel_commits_lemmas.Telling.{adds_then, answers_behind}
use Rattle.kernel_run_facts.proofs.kernel_commit_facts_lemmas.Counting.{CountsWithin-fewer, CountsWithin-then}
use Rattle.kernel_run_facts.specs.declared.halts.Halt.{Halt}
use Rattle.kernel_run_facts.specs.declared.halts.Halt.TheVariants as halt
use Rattle.kernel_run_facts.specs.Running.{look_most, picks_in}
use Rattle.kernel_run_facts.specs.Watching.{answer_of}
use Rattle.kernel_run_facts.proofs.Alongs.{none_first, opens, run_by, stops_opening}
use Rattle.kernel_run_facts.proofs.Caused.{births_cause}
use Rattle.kernel_run_facts.proofs.Serial.{rounds_serial}
use Rattle.kernel_run_facts.proofs.Watched.{cause_behind, cut_before, next_births, stopped_for}
use Rattle.kernel_runs.proofs.running.run_watched.Goals as goal

-- a call that answers Ok found the kernel going on
was_going : (o : Option Stopped) (P : Stopped → Type 0) → IfSome o (λ why. ◌≡◌ {A = Result ⊤ Stop} (Ok tt) (Err (told_again why)) × P why) → o ≡ None
was_going None P was = refl
was_going (Some why) P was = absurd (let clash = was.0 in cc clash)

not_stopped : (o : Option Stopped) (P : Stopped → Type 0) → o ≡ None → IfSome o P
not_stopped o P none = subst (λ x. IfSome x P) (sym none) tt

-- WHAT IS CALLED

pub ask-requires : goal.ask-requires
ask-requires g c = record { going = c.in_default.ensures.ends (was_going c.args.kernel.now.stop _ c.in_default.ensures.was_stopped) }

pub look_for_all-requires-clause-clean : goal.look_for_all-requires-clause-clean
look_for_all-requires-clause-clean g c = c.ask.ensures.lent.clean (g.S.Supplier.word c.args.gate.now.supply) (c.births.ensures.clean (g.S.Supplier.word c.args.gate.now.supply) c.requires.clean)

-- A KERNEL THAT HAD STOPPED

pub returns-in-Err-clause-was_stopped : goal.returns-in-Err-clause-was_stopped
returns-in-Err-clause-was_stopped g c = by c.args.kernel.now.stop c.in-Err.ensures.was_stopped
  where
    by : (o : Option Stopped) → IfSome o (λ why. ◌≡◌ {A = Result ⊤ Stop} (Err c.in-Err.stop) (Err (told_again why)) × (c.births.new.self ≡ c.args.kernel.now))
        → IfSome o (λ why. ◌≡◌ {A = Result ⊤ Halt} (Err (halt.Kernel c.in-Err.stop)) (Err (halt.Kernel (told_again why))) × (c.births.new.self ≡ c.args.kernel.now) × (c.args.watcher.now ≡ c.args.watcher.now))
    by None was = tt
    by (Some why) was = (let same : c.in-Err.stop ≡ told_again why = (let e = was.0 in cc e) in ap (λ s. Err (halt.Kernel s)) same, was.1, refl)

pub returns-in-Err-ask-clause-was_stopped : goal.returns-in-Err-ask-clause-was_stopped
returns-in-Err-ask-clause-was_stopped g c = not_stopped c.args.kernel.now.stop _ (was_going c.args.kernel.now.stop _ c.in_default.ensures.was_stopped)

pub returns-in-Err-look_for_all-clause-was_stopped : goal.returns-in-Err-look_for_all-clause-was_stopped
returns-in-Err-look_for_all-clause-was_stopped g c = not_stopped c.args.kernel.now.stop _ (was_going c.args.kernel.now.stop _ c.in_default.ensures.was_stopped)

pub returns-clause-was_stopped : goal.returns-clause-was_stopped
returns-clause-was_stopped g c = not_stopped c.args.kernel.now.stop _ (was_going c.args.kernel.now.stop _ c.in_default.ensures.was_stopped)

-- THE RUN

pub returns-in-Err-clause-run : goal.returns-in-Err-clause-run
returns-in-Err-clause-run g c = λ told going b supply policy script lives knows.
    let d = g.D.Disk in
    let old = c.args.kernel.now in
    let new = c.births.new.self in
    let n = c.births.ensures in
    let stop = stopped_for d (g.P.Policy.wish c.args.gate.now.policy) old.parts new.parts c.in-Err.stop new.stop (c.in-Err.ensures.ends going)
    (births_cause d (g.P.Policy.wish c.args.gate.now.policy) (tables_of c.args.script.now) old.parts new.parts c.in-Err.stop (c.in-Err.ensures.no_blocks going) (c.in-Err.ensures.fails going)) in
    let cut =
    cut_before d (g.W.Watcher.watches c.args.watcher.now) (g.W.Watcher.leaves c.args.watcher.now) b (picks_in b) [] new stop.0 stop.1
    (stops_opening d (g.S.Supplier.word c.args.gate.now.supply) (g.P.Policy.wish c.args.gate.now.policy) b (picks_in b) old new (n.run told b script lives) c.requires.first (n.notes told b script lives going) stop.0 stop.1)
    knows (new.parts.noted.entries, refl) in
    rounds_serial d b new (g.W.Watcher.watches c.args.watcher.now) (g.W.Watcher.leaves c.args.watcher.now) (Err (halt.Kernel c.in-Err.stop)) cut

pub returns-in-Err-ask-clause-run : goal.returns-in-Err-ask-clause-run
returns-in-Err-ask-clause-run g c = λ told going b supply policy script lives knows.
    let d = g.D.Disk in
    let new = c.births.new.self in
    let opened = (c.births.ensures.notes told b script lives going).whole (c.in_default.ensures.ends going) ∙ ap (λ (es : List Entry). es ++ opening b.supply b.script b.state) c.requires.first in
    let along = opens d (g.S.Supplier.word c.args.gate.now.supply) (g.P.Policy.wish c.args.gate.now.policy) b new (c.births.ensures.run told b script lives) opened in
    let w = c.ask.new.watcher in
    rounds_serial d b c.ask.new.kernel (g.W.Watcher.watches w) (g.W.Watcher.leaves w) (Err c.in-Err-ask.halt) (c.in-Err-ask.ensures.knows told b (picks_in b) [] [] knows (next_births b new.parts.noted.entries opened) (none_first (picks_in b)) along)

pub returns-in-Err-look_for_all-clause-run : goal.returns-in-Err-look_for_all-clause-run
returns-in-Err-look_for_all-clause-run g c = λ told going b supply policy script lives knows.
    let d = g.D.Disk in
    let new = c.births.new.self in
    let given = run_by d (g.S.Supplier.word c.args.gate.now.supply) (g.P.Policy.wish c.args.gate.now.policy) b _ c.args.kernel.now supply policy script c.requires.first c.requires.fits lives in
    let opened = (c.births.ensures.notes told b script lives going).whole (c.in_default.ensures.ends going) ∙ ap (λ (es : List Entry). es ++ opening b.supply b.script b.state) c.requires.first in
    let along = opens d (g.S.Supplier.word c.args.gate.now.supply) (g.P.Policy.wish c.args.gate.now.policy) b new (c.births.ensures.run told b script lives) opened in
    let order = ap (λ (t : Script). t.order) script ∙ ap (map string_bytes) (sym c.deref.ensures.value) in
    let w = c.look_for_all.new.watcher in
    rounds_serial d b c.look_for_all.new.kernel (g.W.Watcher.watches w) (g.W.Watcher.leaves w) (Err c.in-Err-look_for_all.halt)
    (c.in-Err-look_for_all.ensures.run told b given order (c.in_default-ask.ensures.knows told b (picks_in b) [] [] knows (next_births b new.parts.noted.entries opened) (none_first (picks_in b)) along))

pub returns-clause-run : goal.returns-clause-run
returns-clause-run g c = λ told going b supply policy script lives knows.
    let d = g.D.Disk in
    let new = c.births.new.self in
    let given = run_by d (g.S.Supplier.word c.args.gate.now.supply) (g.P.Policy.wish c.args.gate.now.policy) b _ c.args.kernel.now supply policy script c.requires.first c.requires.fits lives in
    let opened = (c.births.ensures.notes told b script lives going).whole (c.in_default.ensures.ends going) ∙ ap (λ (es : List Entry). es ++ opening b.supply b.script b.state) c.requires.first in
    let along = opens d (g.S.Supplier.word c.args.gate.now.supply) (g.P.Policy.wish c.args.gate.now.policy) b new (c.births.ensures.run told b script lives) opened in
    let order = ap (λ (t : Script). t.order) script ∙ ap (map string_bytes) (sym c.deref.ensures.value) in
    let w = c.go_round.new.watcher in
    rounds_serial d b c.go_round.new.kernel (g.W.Watcher.watches w) (g.W.Watcher.leaves w) c.go_round.result
    (c.go_round.ensures.run told b (picks_in b) 0 given
    (c.in_default-look_for_all.ensures.run told b given order (c.in_default-ask.ensures.knows told b (picks_in b) [] [] knows (next_births b new.parts.noted.entries opened) (none_first (picks_in b)) along)))

-- WHAT STOPPED IT

pub returns-in-Err-clause-caused : goal.returns-in-Err-clause-caused
returns-in-Err-clause-caused g c = λ going.
    births_cause g.D.Disk (g.P.Policy.wish c.args.gate.now.policy) (tables_of c.args.script.now) c.args.kernel.now.parts c.births.new.self.parts c.in-Err.stop (c.in-Err.ensures.no_blocks going) (c.in-Err.ensures.fails going)

pub returns-in-Err-ask-clause-caused : goal.returns-in-Err-ask-clause-caused
returns-in-Err-ask-clause-caused g c = λ going.
    cause_behind g.D.Disk (g.P.Policy.wish c.args.gate.now.policy) c.args.kernel.now.parts c.births.new.self.parts c.ask.new.kernel.parts (answer_of (Err c.in-Err-ask.halt)) c.births.ensures.counts.later c.ask.ensures.lent.counts.later
    (c.in-Err-ask.ensures.caused (g.P.Policy.wish c.args.gate.now.policy))

pub returns-in-Err-look_for_all-clause-caused : goal.returns-in-Err-look_for_all-clause-caused
returns-in-Err-look_for_all-clause-caused g c = λ going.
    let early = c.births.ensures.counts.later in
    let asked = c.ask.ensures.lent.counts.later in
    cause_behind g.D.Disk (g.P.Policy.wish c.args.gate.now.policy) c.args.kernel.now.parts c.ask.new.kernel.parts c.look_for_all.new.kernel.parts (answer_of (Err c.in-Err-look_for_all.halt)) (omega (arith, early, asked)) c.look_for_all.ensures.counts.later
    c.in-Err-look_for_all.ensures.caused

pub returns-clause-caused : goal.returns-clause-caused
returns-clause-caused g c = λ going.
    let early = c.births.ensures.counts.later in
    let asked = c.ask.ensures.lent.counts.later in
    let later = c.look_for_all.ensures.counts.later in
    cause_behind g.D.Disk (g.P.Policy.wish c.args.gate.now.policy) c.args.kernel.now.parts c.look_for_all.new.kernel.parts c.go_round.new.kernel.parts (answer_of c.go_round.result) (omega (arith, early, asked, later)) c.go_round.ensures.counts.later
    c.go_round.ensures.caused

-- HOW IT ENDS

pub returns-in-Err-clause-clean : goal.returns-in-Err-clause-clean
returns-in-Err-clause-clean g c = c.births.ensures.clean (g.S.Supplier.word c.args.gate.now.supply) c.requires.clean

pub returns-in-Err-ask-clause-clean : goal.returns-in-Err-ask-clause-clean
returns-in-Err-ask-clause-clean g c = c.ask.ensures.lent.clean (g.S.Supplier.word c.args.gate.now.supply) (c.births.ensures.clean (g.S.Supplier.word c.args.gate.now.supply) c.requires.clean)

pub returns-in-Err-ask-clause-tries : goal.returns-in-Err-ask-clause-tries
returns-in-Err-ask-clause-tries g c =
    answers_behind (answer_of (Err c.in-Err-ask.halt)) c.args.kernel.now.parts.noted.entries c.births.new.self.parts.noted.entries c.ask.new.kernel.parts.noted.entries c.in_default.ensures.tries c.in-Err-ask.ensures.tries

pub returns-in-Err-look_for_all-clause-tries : goal.returns-in-Err-look_for_all-clause-tries
returns-in-Err-look_for_all-clause-tries g c =
    answers_behind (answer_of (Err c.in-Err-look_for_all.halt)) c.args.kernel.now.parts.noted.entries c.ask.new.kernel.parts.noted.entries c.look_for_all.new.kernel.parts.noted.entries
    (adds_then c.args.kernel.now.parts.noted.entries c.births.new.self.parts.noted.entries c.ask.new.kernel.parts.noted.entries c.in_default.ensures.tries c.in_default-ask.ensures.tries) c.in-Err-look_for_all.ensures.tries

pub returns-clause-tries : goal.returns-clause-tries
returns-clause-tries g c =
    let es = c.args.kernel.now.parts.noted.entries in
    answers_behind (answer_of c.go_round.result) es c.look_for_all.new.kernel.parts.noted.entries c.go_round.new.kernel.parts.noted.entries
    (adds_then es c.ask.new.kernel.parts.noted.entries c.look_for_all.new.kernel.parts.noted.entries
    (adds_then es c.births.new.self.parts.noted.entries c.ask.new.kernel.parts.noted.entries c.in_default.ensures.tries c.in_default-ask.ensures.tries) c.in_default-look_for_all.ensures.tries)
    c.go_round.ensures.tries

pub returns-in-Err-ask-clause-counts : goal.returns-in-Err-ask-clause-counts
returns-in-Err-ask-clause-counts g c =
    let d = g.D.Disk in
    let n = length c.args.script.now.order.items in
    CountsWithin-fewer d (64 * 1556) (64 * 1556 + n * look_most + (2 ^ 22 + 1) * (23 * look_most)) c.args.kernel.now.parts.store c.ask.new.kernel.parts.store (omega arith)
    (CountsWithin-then d (64 * 1556) 0 c.args.kernel.now.parts.store c.births.new.self.parts.store c.ask.new.kernel.parts.store c.births.ensures.counts c.ask.ensures.lent.counts)

pub returns-in-Err-look_for_all-clause-counts : goal.returns-in-Err-look_for_all-clause-counts
returns-in-Err-look_for_all-clause-counts g c =
    let d = g.D.Disk in
    let n = length c.args.script.now.order.items in
    let few = ap length c.deref.ensures.value in
    let played = CountsWithin-fewer d (length c.deref.result.now * look_most) (n * look_most) c.ask.new.kernel.parts.store c.look_for_all.new.kernel.parts.store (omega (arith, few)) c.look_for_all.ensures.counts in
    CountsWithin-fewer d (64 * 1556 + n * look_most) (64 * 1556 + n * look_most + (2 ^ 22 + 1) * (23 * look_most)) c.args.kernel.now.parts.store c.look_for_all.new.kernel.parts.store (omega arith)
    (CountsWithin-then d (64 * 1556) (n * look_most) c.args.kernel.now.parts.store c.ask.new.kernel.parts.store c.look_for_all.new.kernel.parts.store
    (CountsWithin-then d (64 * 1556) 0 c.args.kernel.now.parts.store c.births.new.self.parts.store c.ask.new.kernel.parts.store c.births.ensures.counts c.ask.ensures.lent.counts) played)

pub returns-clause-counts : goal.returns-clause-counts
returns-clause-counts g c =
    let d = g.D.Disk in
    let n = length c.args.script.now.order.items in
    let few = ap length c.deref.ensures.value in
    let played = CountsWithin-fewer d (length c.deref.result.now * look_most) (n * look_most) c.ask.new.kernel.parts.store c.look_for_all.new.kernel.parts.store (omega (arith, few)) c.look_for_all.ensures.counts in
    CountsWithin-then d (64 * 1556 + n * look_most) ((2 ^ 22 + 1) * (23 * look_most)) c.args.kernel.now.parts.store c.look_for_all.new.kernel.parts.store c.go_round.new.kernel.parts.store
    (CountsWithin-then d (64 * 1556) (n * look_most) c.args.kernel.now.parts.store c.ask.new.kernel.parts.store c.look_for_all.new.kernel.parts.store
    (CountsWithin-then d (64 * 1556) 0 c.args.kernel.now.parts.store c.births.new.self.parts.store c.ask.new.kernel.parts.store c.births.ensures.counts c.ask.ensures.lent.counts) played)
    c.go_round.ensures.counts
