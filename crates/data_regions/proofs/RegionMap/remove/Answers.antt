use Rattle.data_regions.proofs.RegionLemmas.{Removed, removed}
use Rattle.data_regions.proofs.RegionMap.remove.Given.{Over}
use Rattle.data_regions.proofs.RegionMap.remove.Goals as goal

taken_out : (g : Over) (c : goal.After-remove g) → Removed c.args.at c.self.inside.regions.items c.remove.result c.remove.new.self.items
taken_out g c =
    removed c.args.at c.self.inside.regions.items c.in-Some.place c.remove.result c.remove.new.self.items c.self.invariant (rw (c.as_slice.ensures.all, ← c.self.view_is) at c.in-Some.ensures.some) c.remove.ensures.value c.remove.ensures.items

pub invariant_of-self : goal.invariant_of-self
invariant_of-self g c = (taken_out g c).kept

pub returns-in-Some-clause-answer : goal.returns-in-Some-clause-answer
returns-in-Some-clause-answer g c = rw (← c.self.view_is, (taken_out g c).was)

pub returns-in-Some-clause-ok : goal.returns-in-Some-clause-ok
returns-in-Some-clause-ok g c = rw (← c.self.view_is) (taken_out g c).left

pub returns-in-Some-clause-regions : goal.returns-in-Some-clause-regions
returns-in-Some-clause-regions g c = (taken_out g c).kept
