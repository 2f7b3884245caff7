use Rattle.std.proofs.Common.{◌*◌, sym, ◌∙◌, subst}
use Rattle.script_types.specs.Scripts.{tables_of}
use Rattle.kernel_core_facts.specs.store_facts.State.{State}
use Rattle.kernel_core_facts.specs.kernel_commit_facts.Pieces.{CountsWithin}
use Rattle.kernel_core_facts.specs.kernel_commit_facts.Stabilising.{AreShort}
use Rattle.kernel_core_facts.proofs.Opened.{clean_births, counts_stay, none_noted, opened_empty, opened_stable, opens_empty, opens_settled, owes, short_empty, short_stable, some_noted, spare, stopped_births, untried_births}
use Rattle.kernel_core_facts.proofs.kernel_commits_lemmas.Telling.{tries_behind}
use Rattle.kernel_core.proofs.bearing.open_core.Goals as goal

pub settle-requires-clause-spare : goal.settle-requires-clause-spare
settle-requires-clause-spare g c =
    spare g.D.Disk c.bear_all.new.core c.bear_all.ensures.in_births c.bear_all.ensures.few
    (some_noted c.bear_all.new.core.noted.entries (sym c.is_new.ensures ∙ c.if-is_new.false))

-- where no birth was made

pub returns-then-is_new-clause-made : goal.returns-then-is_new-clause-made
returns-then-is_new-clause-made g c =
    opened_empty (tables_of c.args.script.now) c.args.core.now c.bear_all.new.core c.bear_all.ensures.all (none_noted c.bear_all.new.core.noted.entries (sym c.is_new.ensures ∙ c.if-is_new.true))

pub returns-then-is_new-clause-no_blocks : goal.returns-then-is_new-clause-no_blocks
returns-then-is_new-clause-no_blocks g c =
    short_empty (tables_of c.args.script.now) c.args.core.now c.bear_all.new.core c.bear_all.ensures.all (none_noted c.bear_all.new.core.noted.entries (sym c.is_new.ensures ∙ c.if-is_new.true))

pub returns-then-is_new-clause-run : goal.returns-then-is_new-clause-run
returns-then-is_new-clause-run g c = λ told b same r.
    opens_empty g.D.Disk b (tables_of c.args.script.now) same c.bear_all.new.core (c.bear_all.ensures.run told b same r) c.bear_all.ensures.all.none
    (none_noted c.bear_all.new.core.noted.entries (sym c.is_new.ensures ∙ c.if-is_new.true))

pub returns-then-is_new-clause-clean : goal.returns-then-is_new-clause-clean
returns-then-is_new-clause-clean g c = λ told s clean. clean_births (tables_of c.args.script.now) c.args.core.now c.bear_all.new.core c.bear_all.ensures.all g.D.Disk.reading s clean

pub returns-then-is_new-clause-counts : goal.returns-then-is_new-clause-counts
returns-then-is_new-clause-counts g c = counts_stay g.D.Disk (64 * 1556) c.args.core.now.store c.bear_all.new.core.store c.bear_all.ensures.all.made.store

-- behind the Stable

pub returns-clause-made : goal.returns-clause-made
returns-clause-made g c =
    opened_stable (tables_of c.args.script.now) c.args.core.now c.bear_all.new.core c.bear_all.ensures.all (some_noted c.bear_all.new.core.noted.entries (sym c.is_new.ensures ∙ c.if-is_new.false))
    c.settle.new.core c.settle.result c.settle.ensures.stabilised

pub returns-clause-no_blocks : goal.returns-clause-no_blocks
returns-clause-no_blocks g c =
    short_stable (tables_of c.args.script.now) c.args.core.now c.bear_all.new.core c.bear_all.ensures.all (some_noted c.bear_all.new.core.noted.entries (sym c.is_new.ensures ∙ c.if-is_new.false))
    c.settle.new.core c.settle.result c.settle.ensures.no_blocks c.settle.ensures.untouched

pub returns-clause-stopped : goal.returns-clause-stopped
returns-clause-stopped g c = stopped_births (tables_of c.args.script.now) c.args.core.now c.bear_all.new.core c.bear_all.ensures.all g.D.Disk.faults (AreShort c.settle.new.core) c.settle.new.core c.settle.result c.settle.ensures.stopped

pub returns-clause-run : goal.returns-clause-run
returns-clause-run g c = λ told b same r.
    let along = c.bear_all.ensures.run told b same r in
    let some = some_noted c.bear_all.new.core.noted.entries (sym c.is_new.ensures ∙ c.if-is_new.false) in
    let owed = owes g.D.Disk b (tables_of c.args.script.now) same c.bear_all.new.core along c.bear_all.ensures.all.none some in
    opens_settled g.D.Disk b (tables_of c.args.script.now) same c.bear_all.new.core along c.bear_all.ensures.all.none some c.settle.result c.settle.new.core
    c.settle.ensures.stabilised (c.settle.ensures.run told b owed) (c.settle.ensures.part told b owed) (c.settle.ensures.enough told b owed)

pub returns-clause-clean : goal.returns-clause-clean
returns-clause-clean g c = λ told s clean. c.settle.ensures.clean told s (clean_births (tables_of c.args.script.now) c.args.core.now c.bear_all.new.core c.bear_all.ensures.all g.D.Disk.reading s clean)

pub returns-clause-counts : goal.returns-clause-counts
returns-clause-counts g c = subst (λ (st : State g.row.D.Denot). CountsWithin g.D.Disk (64 * 1556) st c.settle.new.core.store) c.bear_all.ensures.all.made.store c.settle.ensures.counts

pub returns-then-is_new-clause-notes : goal.returns-then-is_new-clause-notes
returns-then-is_new-clause-notes g c = untried_births (tables_of c.args.script.now) c.args.core.now c.bear_all.new.core c.bear_all.ensures.all

pub returns-clause-notes : goal.returns-clause-notes
returns-clause-notes g c =
    tries_behind c.settle.result c.args.core.now.noted.entries c.bear_all.new.core.noted.entries c.settle.new.core.noted.entries
    (untried_births (tables_of c.args.script.now) c.args.core.now c.bear_all.new.core c.bear_all.ensures.all) c.settle.ensures.notes
