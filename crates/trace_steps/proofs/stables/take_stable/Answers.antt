use Rattle.std.proofs.Common.{◌∙◌, subst}
use Rattle.base_types.specs.declared.records.Cut.{Cut}
use Rattle.plain_states.specs.model_kernel.Choices.{IsGreatest}
use Rattle.trace_step_facts.specs.data_cut_facts.Records.{choice}
use Rattle.model_run_rules.specs.model_cut_laws.Records.{commits_of}
use Rattle.trace_steps.proofs.Stabling.{stable_ascending, stable_few, stable_stands}
use Rattle.trace_steps.proofs.stables.take_stable.Goals as goal

pub raise-requires-clause-few : goal.raise-requires-clause-few
raise-requires-clause-few g c =
    let k = c.requires.0 in
    stable_few k.supply g.p k.script k.start k.entries c.args.checker.now k.stands c.requires.1 c.args.actor k.owed k.whole c.append_changed.new.cuts.recs.items c.in_ok-append_changed.ensures.recs

pub raise-requires-clause-ascending : goal.raise-requires-clause-ascending
raise-requires-clause-ascending g c =
    let k = c.requires.0 in
    stable_ascending k.supply g.p k.script k.start k.entries c.args.checker.now k.stands c.requires.1 c.args.actor k.owed k.whole c.append_changed.new.cuts.recs.items c.in_ok-append_changed.ensures.recs

pub returns : goal.returns
returns g c = λ s script w es h.
    let k = c.requires.0 in
    let all = c.append_changed.new.cuts.recs.items in
    let start = c.append_changed.ensures.start in
    stable_stands s g.p script w es c.args.checker.now h c.requires.1 c.args.actor k.owed k.whole all c.in_ok-append_changed.ensures.recs c.raise.new.self c.take_records.new.self c.full-full.result (c.raise.ensures.start ∙ start)
    (subst (λ (f : Cut). IsGreatest (choice f) (commits_of all) (choice c.raise.new.self.cut)) start c.raise.ensures.greatest) c.raise.ensures.kept c.full-full.ensures c.take_records.ensures.newest c.take_records.ensures.by_step c.take_records.ensures.asked
    c.take_records.ensures.was_full c.take_records.ensures.full
