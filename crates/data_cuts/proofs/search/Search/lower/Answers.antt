use Rattle.std.proofs.Common.{ℕ, ◌||◌, None, false, get_or, arith, ap, ◌∙◌, get_or-set_same, get_or-set_other}
use Rattle.std.proofs.Math.ListN.{set}
use Rattle.data_stamps.specs.Stamps.{component}
use Rattle.data_cut_facts.specs.Records.{choice}
use Rattle.data_cut_facts.specs.Searches.{place_at, mark_at, needs_more}
use Rattle.data_cut_facts.proofs.Lowering.{falls_to}
use Rattle.data_cuts.proofs.search.Search.lower.Goals as goal

pub returns-in-Some-clause-search : goal.returns-in-Some-clause-search
returns-in-Some-clause-search c =
    let recs = c.args.recs.now in
    let x = c.args.x in
    let chosen = c.args.self.now.chosen in
    let cut = c.args.self.now.cut.0 in
    let lacking = c.args.self.now.lacking in
    let place = c.lowered-place.result in
    let version = c.version_of-version.result in
    let is_version = c.version_of-version.ensures in
    let later = λ (y : ℕ). needs_more recs (place_at (set chosen x place) y) x in
    falls_to (choice c.args.chains.now.start) recs c.requires.ascending (place_at chosen) (place_at (set chosen x place)) (component c.args.self.now.cut) (λ y. get_or (set cut x version) y 0)
    (mark_at lacking) (mark_at c.mark_later.new.lacking) x c.in-Some.k place c.requires.search c.in-Some.is c.requires.lacking c.lowered-place.ensures
    (get_or-set_same chosen x place None (omega arith))
    (λ y n. get_or-set_other chosen x y place None n)
    (get_or-set_same cut x version 0 (omega arith) ∙ is_version)
    (λ y n. get_or-set_other cut x y version 0 n)
    (c.mark_later.ensures x ∙ ap (λ b. b || later x version) (get_or-set_same lacking x false false (omega arith)) ∙ ap (later x) is_version)
    (λ y n. c.mark_later.ensures y ∙ ap (λ b. b || later y version) (get_or-set_other lacking x y false false n) ∙ ap (λ v. mark_at lacking y || later y v) is_version)
