use Rattle.std.proofs.Common.{◌≡◌, ◌≤◌, ◌⊎◌, inl, inr, refl, length, subst, ◌∙◌, arith}
use Rattle.edge_disk.specs.Image.{Image, SameOutside}
use Rattle.edge_disk.proofs.Phases.{IsImage-reading, LeavesOnly-from_quiet, LeavesOnly-quiet, told}
use Rattle.image_blocks.specs.image_facts.Layout.{is_open}
use Rattle.image_format.specs.Formats.{IsAreaGate, IsFormatting, IsFrontBlock}
use Rattle.image_format.proofs.Fronts.{IsEnough, made, opening, still_closed}
use Rattle.image_format.proofs.formatting.make_empty.Goals as goal

pub returns-in_err-close_areas-clause-any_moment : goal.returns-in_err-close_areas-clause-any_moment
returns-in_err-close_areas-clause-any_moment g c t =
    let disk = g.met.D.Disk in
    let laws = told g.D.Disk t disk.counts_now disk.only_now in
    let formatting = IsFormatting g.D.Disk.may_leave c.args.blocks c.args.disk.now in
    LeavesOnly-from_quiet laws {these = IsAreaGate} formatting (c.close_areas.ensures.any_moment t) (λ d i could same. inl (record { from = d; could = could; same = same }))

pub returns-in_err-write_front-clause-any_moment : goal.returns-in_err-write_front-clause-any_moment
returns-in_err-write_front-clause-any_moment g c t =
    let disk = g.met.D.Disk in
    let laws = told g.D.Disk t disk.counts_now disk.only_now in
    let formatting = IsFormatting g.D.Disk.may_leave c.args.blocks c.args.disk.now in
    let first = LeavesOnly-from_quiet laws {these = IsAreaGate} formatting (c.close_areas.ensures.any_moment t) (λ d i could same. inl (record { from = d; could = could; same = same })) in
    LeavesOnly-quiet laws {these = IsFrontBlock} first (c.write_front.ensures.any_moment t) (λ d i could same.
    inr (inl (still_closed (g.D.Disk.reading c.close_areas.new.disk) i (c.in_ok-close_areas.ensures.closed t) (subst (λ (e : Image). SameOutside IsFrontBlock e i) (c.in_ok-close_areas.ensures.stable t d could) same))))

pub returns-in_err-write_and_sync-clause-any_moment : goal.returns-in_err-write_and_sync-clause-any_moment
returns-in_err-write_and_sync-clause-any_moment g c t =
    let disk = g.met.D.Disk in
    let laws = told g.D.Disk t disk.counts_now disk.only_now in
    let formatting = IsFormatting g.D.Disk.may_leave c.args.blocks c.args.disk.now in
    let whole = IsImage-reading g.D.Disk t disk.reads_now disk.counts_now disk.whole c.write_front.new.disk in
    let enough : IsEnough c.args.blocks (length (g.D.Disk.reading c.write_front.new.disk)) = record {
      least = c.requires.least;
      most = c.requires.most;
      within = (let len = whole.len in let one = c.close_areas.ensures.count in let two = c.write_front.ensures.count in let all = c.requires.enough in omega (arith, len, one, two, all));
    } in
    let closed = still_closed (g.D.Disk.reading c.close_areas.new.disk) (g.D.Disk.reading c.write_front.new.disk) (c.in_ok-close_areas.ensures.closed t) (c.write_front.ensures.reading t) in
    let first = LeavesOnly-from_quiet laws {these = IsAreaGate} formatting (c.close_areas.ensures.any_moment t) (λ d i could same. inl (record { from = d; could = could; same = same })) in
    let second = LeavesOnly-quiet laws {these = IsFrontBlock} first (c.write_front.ensures.any_moment t) (λ d i could same.
    inr (inl (still_closed (g.D.Disk.reading c.close_areas.new.disk) i (c.in_ok-close_areas.ensures.closed t) (subst (λ (e : Image). SameOutside IsFrontBlock e i) (c.in_ok-close_areas.ensures.stable t d could) same)))) in
    LeavesOnly-quiet laws {these = λ n. n ≡ c.gate_of.result} second (c.write_and_sync.ensures.any_moment t) (λ d i could same.
    let here : SameOutside (λ n. n ≡ 2) (g.D.Disk.reading c.write_front.new.disk) i = subst (λ k. SameOutside (λ n. n ≡ k) (g.D.Disk.reading c.write_front.new.disk) i) c.gate_of.ensures.at (subst (λ (e : Image). SameOutside (λ n. n ≡ c.gate_of.result) e i) (c.in_ok-write_front.ensures.stable t d could) same) in
    inr (opening c.args.blocks (g.D.Disk.reading c.write_front.new.disk) i enough closed (c.in_ok-write_front.ensures.front t) here (is_open i 2) refl))

pub returns-clause-any_moment : goal.returns-clause-any_moment
returns-clause-any_moment g c t =
    let disk = g.met.D.Disk in
    let laws = told g.D.Disk t disk.counts_now disk.only_now in
    let formatting = IsFormatting g.D.Disk.may_leave c.args.blocks c.args.disk.now in
    let whole = IsImage-reading g.D.Disk t disk.reads_now disk.counts_now disk.whole c.write_front.new.disk in
    let enough : IsEnough c.args.blocks (length (g.D.Disk.reading c.write_front.new.disk)) = record {
      least = c.requires.least;
      most = c.requires.most;
      within = (let len = whole.len in let one = c.close_areas.ensures.count in let two = c.write_front.ensures.count in let all = c.requires.enough in omega (arith, len, one, two, all));
    } in
    let closed = still_closed (g.D.Disk.reading c.close_areas.new.disk) (g.D.Disk.reading c.write_front.new.disk) (c.in_ok-close_areas.ensures.closed t) (c.write_front.ensures.reading t) in
    let first = LeavesOnly-from_quiet laws {these = IsAreaGate} formatting (c.close_areas.ensures.any_moment t) (λ d i could same. inl (record { from = d; could = could; same = same })) in
    let second = LeavesOnly-quiet laws {these = IsFrontBlock} first (c.write_front.ensures.any_moment t) (λ d i could same.
    inr (inl (still_closed (g.D.Disk.reading c.close_areas.new.disk) i (c.in_ok-close_areas.ensures.closed t) (subst (λ (e : Image). SameOutside IsFrontBlock e i) (c.in_ok-close_areas.ensures.stable t d could) same)))) in
    LeavesOnly-quiet laws {these = λ n. n ≡ c.gate_of.result} second (c.write_and_sync.ensures.any_moment t) (λ d i could same.
    let here : SameOutside (λ n. n ≡ 2) (g.D.Disk.reading c.write_front.new.disk) i = subst (λ k. SameOutside (λ n. n ≡ k) (g.D.Disk.reading c.write_front.new.disk) i) c.gate_of.ensures.at (subst (λ (e : Image). SameOutside (λ n. n ≡ c.gate_of.result) e i) (c.in_ok-write_front.ensures.stable t d could) same) in
    inr (opening c.args.blocks (g.D.Disk.reading c.write_front.new.disk) i enough closed (c.in_ok-write_front.ensures.front t) here (is_open i 2) refl))

pub returns-clause-made : goal.returns-clause-made
returns-clause-made g c t =
    let disk = g.met.D.Disk in
    let whole = IsImage-reading g.D.Disk t disk.reads_now disk.counts_now disk.whole c.write_front.new.disk in
    let enough : IsEnough c.args.blocks (length (g.D.Disk.reading c.write_front.new.disk)) = record {
      least = c.requires.least;
      most = c.requires.most;
      within = (let len = whole.len in let one = c.close_areas.ensures.count in let two = c.write_front.ensures.count in let all = c.requires.enough in omega (arith, len, one, two, all));
    } in
    made c.args.blocks _ (g.D.Disk.reading c.close_areas.new.disk) _ _ _ _ c.gate_of.ensures.at enough (c.close_areas.ensures.reading t) (c.in_ok-close_areas.ensures.closed t) (c.write_front.ensures.reading t) (c.in_ok-write_front.ensures.front t) c.open_gate.ensures (c.in_ok-write_and_sync.ensures.block t)
