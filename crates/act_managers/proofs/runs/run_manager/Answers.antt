use Rattle.std.proofs.Common.{inl, inr, ◌∙◌, ap}
use Rattle.act_alone.specs.model_kernel.Refusals.{reg}
use Rattle.act_alone.specs.Loci.{locus_of}
use Rattle.act_managers.specs.Answering.{manager_answer}
use Rattle.act_managers.proofs.Running.{is_alone, manages_next, goes_further, at_end, not_going}
use Rattle.act_managers.proofs.runs.run_manager.Goals as goal
use Rattle.act_managers.proofs.runs.run_manager.Goals.{else-loop-test, then-loop-test+in_default}

pub local-requires-clause-alone : goal.local-requires-clause-alone
local-requires-clause-alone c = is_alone 64 _ (manages_next c.args.code.now c.args.start c.requires.managing _ _ c.loop.invariant)

pub loop-preserved : goal.loop-preserved
loop-preserved c =
    goes_further c.args.code.now c.args.start c.requires.managing (locus_of c.loop.locus) (locus_of c.local.new.self) c.loop.counter
    c.loop-test.true c.loop.invariant c.in-Running.is c.local.ensures.ready c.local.ensures.locus

pub returns : goal.returns
unfolding manager_answer
returns c =
    let end = at_end c.args.code.now c.args.start c.requires.managing (locus_of c.loop.locus) c.loop.counter c.loop.invariant in
    elim c.loop-test.branch [
      | else-loop-test w ↦ c.register.ensures ∙ ap (λ l. reg l 3) (end (inl w.loop-test.false))
      | then-loop-test+in_default w ↦ c.register.ensures ∙ ap (λ l. reg l 3) (end (inr (not_going c.loop.locus.condition w.in_default.not-Running)))
    ]
