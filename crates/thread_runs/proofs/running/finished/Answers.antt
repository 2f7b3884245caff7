use Rattle.std.proofs.Common.{◌≡◌, true, false, refl, sym, ◌∙◌}
use Rattle.std.proofs.lemmas.Option.{IfSome_then}
use Rattle.kernel_runs.proofs.kernel_run_facts_lemmas.Caused.{cause_kept}
use Rattle.thread_runs.proofs.Counted.{counted_finished}
use Rattle.thread_runs.proofs.Orders.{ends_finished, ends_lacking, if_any}
use Rattle.thread_runs.proofs.running.finished.Goals as goal

pub returns-clause-counted : goal.returns-clause-counted
returns-clause-counted g c = λ counts counted.
    let d = g.D.Disk in
    let old = c.args.left.kernel in
    let f = c.finish in
    counted_finished d counts old f.new.kernel _ counted f.ensures.was_stopped f.ensures.counts.later f.ensures.counts.same_count
    (λ going. cause_kept d (g.P.Policy.wish c.args.left.gate.policy) old.parts f.new.kernel.parts f.result f.new.kernel.stop (f.ensures.ends going) (f.ensures.caused going))

pub returns-then-lacked-clause-run : goal.returns-then-lacked-clause-run
returns-then-lacked-clause-run g c = λ told b given lives along. ends_lacking g.D.Disk b c.args.left.kernel c.args.left.lacked c.if-lacked.true lives along

pub returns-clause-run : goal.returns-clause-run
returns-clause-run g c = λ told b given lives along.
    let f = c.finish in
    ends_finished g.D.Disk b c.args.left.kernel f.new.kernel c.args.left.lacked _ lives along f.ensures.was_stopped (λ going first made behind. f.ensures.behind told going b first made given behind)

pub returns-then-lacked-clause-stopped : goal.returns-then-lacked-clause-stopped
returns-then-lacked-clause-stopped g c = if_any c.args.left.kernel.stop (λ why. refl)

pub returns-clause-stopped : goal.returns-clause-stopped
returns-clause-stopped g c = IfSome_then c.args.left.kernel.stop c.finish.ensures.was_stopped (λ why is. is.1)

pub returns-clause-lacking : goal.returns-clause-lacking
returns-clause-lacking g c = λ yes. absurd (let clash : false ≡ true = sym c.if-lacked.false ∙ yes in cc clash)
