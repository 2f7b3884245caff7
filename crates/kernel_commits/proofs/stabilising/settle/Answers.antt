use Rattle.std.proofs.Common.{◌*◌, [], ◌∷◌, refl, sym, ap, subst}
use Rattle.base_types.specs.declared.histories.Event.TheVariants.{Stable}
use Rattle.kernel_commit_facts.specs.model_kernel.Histories.{mark}
use Rattle.kernel_commit_facts.specs.table_laws.Tables.{AreClean}
use Rattle.kernel_commit_facts.specs.kernel_record_facts.Cells.{words_on}
use Rattle.kernel_commit_facts.specs.Parts.{Parts}
use Rattle.kernel_commit_facts.specs.Pieces.{CountsWithin}
use Rattle.kernel_commit_facts.proofs.Settled.{entries_are, has_stabilised, marks_are, stable_steady}
use Rattle.kernel_commit_facts.proofs.Settling.{stable_calm, stable_stands}
use Rattle.kernel_commit_facts.proofs.Dues.{lacks_first}
use Rattle.kernel_commit_facts.proofs.Enough.{lacks_blocks}
use Rattle.kernel_commit_facts.proofs.Within.{all_within}
use Rattle.kernel_commits.proofs.Telling.{adds_one, stops_noting}
use Rattle.kernel_commits.proofs.stabilising.settle.Goals as goal

pub returns-in-Err-clause-run : goal.returns-in-Err-clause-run
returns-in-Err-clause-run g c = λ told b owes. record { stands = tt; calm = tt; lives = c.in-Err.ensures.lives told b c.args.actor owes }

pub returns-clause-stabilised : goal.returns-clause-stabilised
returns-clause-stabilised g c = has_stabilised g.D.Disk c.args.actor c.args.core.now c.record_changed.new.core c.note_stable.new.core c.in_default.ensures.through c.noted_so_far-entries.result.0 c.noted_so_far-entries.result.1 c.noted_so_far-entries.ensures.entries c.noted_so_far-entries.ensures.marks c.note_stable.ensures.store c.note_stable.ensures.cells c.note_stable.ensures.entries c.note_stable.ensures.marks c.note_stable.ensures.room

pub returns-clause-steady : goal.returns-clause-steady
returns-clause-steady g c = stable_steady g.D.Disk c.args.actor c.args.core.now c.record_changed.new.core c.note_stable.new.core c.in_default.ensures.through c.noted_so_far-entries.result.0 c.noted_so_far-entries.result.1 c.noted_so_far-entries.ensures.entries c.noted_so_far-entries.ensures.marks c.note_stable.ensures.store c.note_stable.ensures.cells c.note_stable.ensures.entries c.note_stable.ensures.marks c.note_stable.ensures.room c.requires.steady c.requires.spare

pub returns-clause-run : goal.returns-clause-run
returns-clause-run g c = λ told b owes.
    let u = c.in_default.ensures.run told b c.args.actor owes in
    record {
      stands = stable_stands g.D.Disk b c.args.actor c.args.core.now c.record_changed.new.core c.note_stable.new.core owes c.in_default.ensures.through u c.note_stable.ensures.store c.note_stable.ensures.cells (entries_are g.D.Disk c.args.actor c.args.core.now c.record_changed.new.core c.note_stable.new.core c.in_default.ensures.through c.noted_so_far-entries.result.0 c.noted_so_far-entries.result.1 c.noted_so_far-entries.ensures.entries c.noted_so_far-entries.ensures.marks c.note_stable.ensures.store c.note_stable.ensures.cells c.note_stable.ensures.entries c.note_stable.ensures.marks c.note_stable.ensures.room) (marks_are g.D.Disk c.args.actor c.args.core.now c.record_changed.new.core c.note_stable.new.core c.in_default.ensures.through c.noted_so_far-entries.result.0 c.noted_so_far-entries.result.1 c.noted_so_far-entries.ensures.entries c.noted_so_far-entries.ensures.marks c.note_stable.ensures.store c.note_stable.ensures.cells c.note_stable.ensures.entries c.note_stable.ensures.marks c.note_stable.ensures.room);
      calm = stable_calm g.D.Disk b c.args.actor c.args.core.now c.record_changed.new.core c.note_stable.new.core owes c.in_default.ensures.through u c.note_stable.ensures.store c.note_stable.ensures.cells (entries_are g.D.Disk c.args.actor c.args.core.now c.record_changed.new.core c.note_stable.new.core c.in_default.ensures.through c.noted_so_far-entries.result.0 c.noted_so_far-entries.result.1 c.noted_so_far-entries.ensures.entries c.noted_so_far-entries.ensures.marks c.note_stable.ensures.store c.note_stable.ensures.cells c.note_stable.ensures.entries c.note_stable.ensures.marks c.note_stable.ensures.room) (marks_are g.D.Disk c.args.actor c.args.core.now c.record_changed.new.core c.note_stable.new.core c.in_default.ensures.through c.noted_so_far-entries.result.0 c.noted_so_far-entries.result.1 c.noted_so_far-entries.ensures.entries c.noted_so_far-entries.ensures.marks c.note_stable.ensures.store c.note_stable.ensures.cells c.note_stable.ensures.entries c.note_stable.ensures.marks c.note_stable.ensures.room);
      lives = tt;
    }

pub returns-in-Err-clause-part : goal.returns-in-Err-clause-part
returns-in-Err-clause-part g c = λ told b owes. c.in-Err.ensures.part told b c.args.actor owes

pub returns-clause-clean : goal.returns-clause-clean
returns-clause-clean g c = λ told s clean.
    subst (λ st. AreClean s (words_on (g.D.Disk.reading st.disk)) c.note_stable.new.core.cells) (sym c.note_stable.ensures.store)
    (subst (λ cs. AreClean s (words_on (g.D.Disk.reading c.record_changed.new.core.store.disk)) cs) (sym c.note_stable.ensures.cells) (c.in_default.ensures.through.clean told s clean))

pub returns-clause-counts : goal.returns-clause-counts
returns-clause-counts g c =
    subst (λ st. CountsWithin g.D.Disk (64 * 1556) c.args.core.now.store st) (sym c.note_stable.ensures.store) c.record_changed.ensures.counts

pub returns-in-Err-clause-enough : goal.returns-in-Err-clause-enough
returns-in-Err-clause-enough g c = λ told b owes n is.
    let d = g.D.Disk in
    let short = (c.in-Err.ensures.no_blocks n).0 is in
    lacks_first d b n (mark Stable c.args.actor 0) [] (mark Stable c.args.actor 0 ∷ []) c.args.core.now c.record_changed.new.core refl tt (c.in-Err.ensures.untouched n is)
    (lacks_blocks d b c.args.core.now told owes.stands owes.whole short.fewer) short (all_within d b c.args.core.now told owes.stands c.requires.steady.sound.matches.few n short)

pub returns-in-Err-clause-notes : goal.returns-in-Err-clause-notes
returns-in-Err-clause-notes g c =
    stops_noting c.in-Err.why c.args.core.now.noted.entries c.record_changed.new.core.noted.entries
    (λ n is. ap (λ (p : Parts g.row.D.Denot). p.noted.entries) (c.in-Err.ensures.untouched n is)) c.in-Err.ensures.no_read

pub returns-clause-notes : goal.returns-clause-notes
returns-clause-notes g c =
    adds_one c.args.core.now.noted.entries c.note_stable.new.core.noted.entries _ (returns-clause-stabilised g c).entries (λ is. cc is)
