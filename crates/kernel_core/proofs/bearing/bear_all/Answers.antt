use Rattle.std.proofs.Common.{◌≤◌, sym, subst, length, arith}
use Rattle.script_types.specs.Scripts.{tables_of}
use Rattle.kernel_core_facts.specs.table_births.Births.{atlas_state_in}
use Rattle.kernel_core_facts.specs.kernel_commit_facts.Parts.{Parts}
use Rattle.kernel_core_facts.proofs.kernel_commit_facts_lemmas.Steadying.{entry_room}
use Rattle.kernel_core_facts.specs.Bearing.{HasBorneAll, IsInBirths, RunsInBirths}
use Rattle.kernel_core_facts.proofs.Births.{borne_next, few_entries, in_births_next, in_order, none_borne, runs_next, too_many}
use Rattle.kernel_core_facts.proofs.Paired.{few_writes}
use Rattle.kernel_core.proofs.bearing.bear_all.Goals as goal

pub loop-init : goal.loop-init
loop-init g c = record {
  in_births = c.requires.in_births;
  under_way = record { fits = c.requires.fits; begun = c.new-progress.ensures (atlas_state_in c.args.core.now.cells) (tables_of c.args.script.now) };
  count = omega arith;
  made = none_borne (tables_of c.args.script.now) c.args.core.now;
  run = λ told b same r. r;
}

pub bear_one-requires-clause-order : goal.bear_one-requires-clause-order
bear_one-requires-clause-order g c = in_order g.D.Disk c.loop.core c.loop.invariant.in_births.steady

pub bear_one-requires-clause-few : goal.bear_one-requires-clause-few
bear_one-requires-clause-few g c = few_writes g.D.Disk c.loop.core c.loop.invariant.in_births.steady

pub bear_one-requires-clause-room : goal.bear_one-requires-clause-room
bear_one-requires-clause-room g c = entry_room g.D.Disk c.loop.core c.loop.invariant.in_births.steady

pub bear_one-requires-clause-under_way : goal.bear_one-requires-clause-under_way
bear_one-requires-clause-under_way g c = c.loop.invariant.under_way

pub loop-preserved : goal.loop-preserved
loop-preserved g c =
    let h = c.bear_one.ensures.made c.if-not-bear_one.false in
    let store = c.bear_one.ensures.store in
    record {
      in_births = in_births_next g.D.Disk (tables_of c.args.script.now) c.loop.core c.bear_one.new.core c.loop.invariant.in_births h store;
      under_way = c.bear_one.ensures.under_way;
      count = (let was = c.loop.invariant.count in let more = h.bears.more in omega (arith, was, more));
      made = borne_next (tables_of c.args.script.now) c.args.core.now c.loop.core c.bear_one.new.core c.loop.invariant.made h store;
      run = λ told b same r. runs_next g.D.Disk g.met.D.Disk.counts_later g.met.D.Disk.only_now b (tables_of c.args.script.now) same told c.loop.core c.bear_one.new.core (c.loop.invariant.run told b same r) h store;
    }

-- where a search found none

pub returns-then-not-bear_one-clause-run : goal.returns-then-not-bear_one-clause-run
returns-then-not-bear_one-clause-run g c = λ told b same r.
    subst (RunsInBirths g.D.Disk b) (sym (c.bear_one.ensures.still c.if-not-bear_one.true)) (c.loop.invariant.run told b same r)

pub returns-then-not-bear_one-clause-all : goal.returns-then-not-bear_one-clause-all
returns-then-not-bear_one-clause-all g c =
    subst (λ (p : Parts g.row.D.Denot). HasBorneAll (tables_of c.args.script.now) c.args.core.now p) (sym (c.bear_one.ensures.still c.if-not-bear_one.true))
    (record { made = c.loop.invariant.made; none = c.bear_one.ensures.none c.if-not-bear_one.true })

pub returns-then-not-bear_one-clause-in_births : goal.returns-then-not-bear_one-clause-in_births
returns-then-not-bear_one-clause-in_births g c =
    subst (IsInBirths g.D.Disk) (sym (c.bear_one.ensures.still c.if-not-bear_one.true)) c.loop.invariant.in_births

pub returns-then-not-bear_one-clause-few : goal.returns-then-not-bear_one-clause-few
returns-then-not-bear_one-clause-few g c =
    subst (λ (p : Parts g.row.D.Denot). length p.noted.entries ≤ 63) (sym (c.bear_one.ensures.still c.if-not-bear_one.true))
    (few_entries g.D.Disk (tables_of c.args.script.now) c.loop.core c.loop.invariant.in_births c.loop.invariant.under_way.fits)

-- behind all searches

pub returns-clause-all : goal.returns-clause-all
returns-clause-all g c =
    absurd (too_many (tables_of c.args.script.now) c.loop.core.cells c.loop.invariant.under_way.fits (let many = c.loop.invariant.count in let done = c.loop-test.false in omega (arith, many, done)))

pub returns-clause-in_births : goal.returns-clause-in_births
returns-clause-in_births g c = c.loop.invariant.in_births

pub returns-clause-few : goal.returns-clause-few
returns-clause-few g c = few_entries g.D.Disk (tables_of c.args.script.now) c.loop.core c.loop.invariant.in_births c.loop.invariant.under_way.fits

pub returns-clause-run : goal.returns-clause-run
returns-clause-run g c = c.loop.invariant.run
