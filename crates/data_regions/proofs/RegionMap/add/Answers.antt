use Rattle.std.proofs.Common.{ap, sym, ◌∙◌}
use Rattle.std.specs.Prelude.{insert}
use Rattle.std.specs.List.{list_any}
use Rattle.data_regions.specs.Regions.{overlaps}
use Rattle.data_regions.proofs.RegionLemmas.{added}
use Rattle.data_regions.proofs.RegionMap.add.Goals as goal

pub invariant_of-self : goal.invariant_of-self
invariant_of-self g c =
    let rs = c.self.inside.regions.items in
    added c.args.region rs c.place_behind-place.result c.insert.new.self.items c.requires c.self.invariant
    (ap (list_any (overlaps c.args.region)) c.self.view_is ∙ sym c.overlaps.ensures ∙ c.if-overlaps.false)
    (rw (c.as_slice.ensures.all, ← c.self.view_is) at c.place_behind-place.ensures.place)
    c.insert.ensures.items

pub returns-clause-regions : goal.returns-clause-regions
returns-clause-regions g c = invariant_of-self g c
