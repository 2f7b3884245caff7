use Rattle.kernel_invariant.proofs.Stretches.{cuts_over_entry, cuts_over_event, cuts_over_pages}
use Rattle.kernel_invariant.proofs.moments_law.Goals as goal

pub returns-clause-pages : goal.returns-clause-pages
returns-clause-pages g c b es marks count old new told right legal cuts l =
    cuts_over_pages g.D.Disk (λ disk s t image le left. g.met.D.Disk.counts_later disk s t image told le left) (λ disk image left. g.met.D.Disk.only_now disk image told left)
    b right es marks count old new cuts legal l

pub returns-clause-event : goal.returns-clause-event
returns-clause-event g c b es e marks disk told legal each out cuts =
    cuts_over_event g.D.Disk (λ disk s t image le left. g.met.D.Disk.counts_later disk s t image told le left) (λ disk image left. g.met.D.Disk.only_now disk image told left)
    b es e marks disk legal each out cuts

pub returns-clause-entry : goal.returns-clause-entry
returns-clause-entry g c b es e marks m count old new told right legal each cuts l stable =
    cuts_over_entry g.D.Disk (λ disk s t image le left. g.met.D.Disk.counts_later disk s t image told le left) (λ disk image left. g.met.D.Disk.only_now disk image told left)
    b right es marks count old new cuts e m legal each l stable
