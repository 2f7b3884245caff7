use Rattle.std.proofs.Common.{None, arith}
use Rattle.std.proofs.lemmas.List.{get_or_past}
use Rattle.data_stamps.specs.Stamps.{component}
use Rattle.data_cut_facts.specs.Records.{choice}
use Rattle.data_cut_facts.specs.Searches.{place_at, mark_at}
use Rattle.data_cut_facts.proofs.Lowering.{starts}
use Rattle.data_cuts.proofs.search.Search.new.Goals as goal

pub returns : goal.returns
returns c =
    starts (choice c.args.chains.now.start) c.args.recs.now c.requires.ascending c.requires.entities (place_at c.args.chains.now.newest) (component c.versions_of-cut.result) (mark_at c.marks_of-lacking.result)
    c.requires.newest (λ x high. get_or_past c.args.chains.now.newest x None (omega arith)) c.versions_of-cut.ensures c.marks_of-lacking.ensures
