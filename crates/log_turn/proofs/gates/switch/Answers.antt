use Rattle.std.proofs.Common.{◌≡◌, ◌<◌, inl, length, ap, ◌∙◌, arith}
use Rattle.edge_disk.proofs.Images.{SameOutside-weaker}
use Rattle.edge_disk.proofs.Phases.{IsImage-reading, Quiet-weaker, told}
use Rattle.edge_tally.proofs.Counting.{CountsOn-then}
use Rattle.log_append.specs.image_blocks.Layout.{gate_at, other}
use Rattle.log_append.proofs.log_facts_lemmas.Through.{gate_open}
use Rattle.log_append.specs.log_facts.Stages.{IsEitherGate}
use Rattle.log_append.proofs.log_facts_lemmas.Slots.{wrote}
use Rattle.log_append.proofs.log_facts_lemmas.Turning.{other_gate_same, switch_closing, switch_opening, switch_same}
use Rattle.log_turn.proofs.gates.switch.Goals as goal

pub returns-in_err-write_and_sync-clause-any_moment : goal.returns-in_err-write_and_sync-clause-any_moment
returns-in_err-write_and_sync-clause-any_moment g c t =
    let disk = g.met.D.Disk in
    let reading = g.D.Disk.reading in
    let laws = told g.D.Disk t disk.counts_now disk.only_now in
    let at : c.gate_of-at.result ≡ gate_at (other c.args.active) = c.gate_of-at.ensures.at ∙ ap gate_at c.other_area.ensures in
    let first = Quiet-weaker laws (λ n. n ≡ gate_at (other c.args.active)) (λ n here. here ∙ at) (c.write_and_sync.ensures.any_moment t) in
    switch_opening laws c.args.active c.args.disk.now c.write_and_sync.new.disk (c.requires.synced t) first

pub returns-in_err-write_and_sync-2-clause-any_moment : goal.returns-in_err-write_and_sync-2-clause-any_moment
returns-in_err-write_and_sync-2-clause-any_moment g c t =
    let disk = g.met.D.Disk in
    let reading = g.D.Disk.reading in
    let laws = told g.D.Disk t disk.counts_now disk.only_now in
    let at : c.gate_of-at.result ≡ gate_at (other c.args.active) = c.gate_of-at.ensures.at ∙ ap gate_at c.other_area.ensures in
    let first = Quiet-weaker laws (λ n. n ≡ gate_at (other c.args.active)) (λ n here. here ∙ at) (c.write_and_sync.ensures.any_moment t) in
    let one = SameOutside-weaker (λ n. n ≡ c.gate_of-at.result) (λ n. n ≡ gate_at (other c.args.active)) _ _ (λ n here. here ∙ at) (c.write_and_sync.ensures.reading t) in
    let whole = IsImage-reading g.D.Disk t disk.reads_now disk.counts_now disk.whole c.args.disk.now in
    let within : c.gate_of-at.result < length (reading c.args.disk.now) = (let a = c.gate_of-at.ensures.low in let b = c.requires.enough in let l = whole.len in omega (arith, a, b, l)) in
    let opens = gate_open (reading c.write_and_sync.new.disk) (gate_at (other c.args.active))
    (wrote (reading c.args.disk.now) (reading c.write_and_sync.new.disk) c.gate_of-at.result (gate_at (other c.args.active)) _ at within (c.in_ok-write_and_sync.ensures.block t) ∙ c.open_gate.ensures) in
    let second = Quiet-weaker laws (λ n. n ≡ gate_at c.args.active) (λ n here. here ∙ c.gate_of.ensures.at) (c.write_and_sync-2.ensures.any_moment t) in
    switch_closing laws c.args.active c.args.disk.now c.write_and_sync.new.disk (c.requires.synced t) first c.write_and_sync-2.new.disk (c.in_ok-write_and_sync.ensures.stable t) one opens second

pub returns-clause-any_moment : goal.returns-clause-any_moment
returns-clause-any_moment g c t =
    let disk = g.met.D.Disk in
    let reading = g.D.Disk.reading in
    let laws = told g.D.Disk t disk.counts_now disk.only_now in
    let at : c.gate_of-at.result ≡ gate_at (other c.args.active) = c.gate_of-at.ensures.at ∙ ap gate_at c.other_area.ensures in
    let first = Quiet-weaker laws (λ n. n ≡ gate_at (other c.args.active)) (λ n here. here ∙ at) (c.write_and_sync.ensures.any_moment t) in
    let one = SameOutside-weaker (λ n. n ≡ c.gate_of-at.result) (λ n. n ≡ gate_at (other c.args.active)) _ _ (λ n here. here ∙ at) (c.write_and_sync.ensures.reading t) in
    let whole = IsImage-reading g.D.Disk t disk.reads_now disk.counts_now disk.whole c.args.disk.now in
    let within : c.gate_of-at.result < length (reading c.args.disk.now) = (let a = c.gate_of-at.ensures.low in let b = c.requires.enough in let l = whole.len in omega (arith, a, b, l)) in
    let opens = gate_open (reading c.write_and_sync.new.disk) (gate_at (other c.args.active))
    (wrote (reading c.args.disk.now) (reading c.write_and_sync.new.disk) c.gate_of-at.result (gate_at (other c.args.active)) _ at within (c.in_ok-write_and_sync.ensures.block t) ∙ c.open_gate.ensures) in
    let second = Quiet-weaker laws (λ n. n ≡ gate_at c.args.active) (λ n here. here ∙ c.gate_of.ensures.at) (c.write_and_sync-2.ensures.any_moment t) in
    switch_closing laws c.args.active c.args.disk.now c.write_and_sync.new.disk (c.requires.synced t) first c.write_and_sync-2.new.disk (c.in_ok-write_and_sync.ensures.stable t) one opens second

pub returns-clause-opened : goal.returns-clause-opened
returns-clause-opened g c t =
    let disk = g.met.D.Disk in
    let reading = g.D.Disk.reading in
    let at : c.gate_of-at.result ≡ gate_at (other c.args.active) = c.gate_of-at.ensures.at ∙ ap gate_at c.other_area.ensures in
    let whole = IsImage-reading g.D.Disk t disk.reads_now disk.counts_now disk.whole c.args.disk.now in
    let within : c.gate_of-at.result < length (reading c.args.disk.now) = (let a = c.gate_of-at.ensures.low in let b = c.requires.enough in let l = whole.len in omega (arith, a, b, l)) in
    let two = SameOutside-weaker (λ n. n ≡ c.gate_of.result) (λ n. n ≡ gate_at c.args.active) _ _ (λ n here. here ∙ c.gate_of.ensures.at) (c.write_and_sync-2.ensures.reading t) in
    other_gate_same c.args.active (reading c.write_and_sync.new.disk) (reading c.write_and_sync-2.new.disk) two
    ∙ (wrote (reading c.args.disk.now) (reading c.write_and_sync.new.disk) c.gate_of-at.result (gate_at (other c.args.active)) _ at within (c.in_ok-write_and_sync.ensures.block t) ∙ c.open_gate.ensures)

pub returns-clause-closed : goal.returns-clause-closed
returns-clause-closed g c t =
    let disk = g.met.D.Disk in
    let reading = g.D.Disk.reading in
    let whole = IsImage-reading g.D.Disk t disk.reads_now disk.counts_now disk.whole c.write_and_sync.new.disk in
    let within : c.gate_of.result < length (reading c.write_and_sync.new.disk) =
    (let a = c.gate_of.ensures.low in let b = c.requires.enough in let e = c.write_and_sync.ensures.count in let l = whole.len in omega (arith, a, b, e, l)) in
    wrote (reading c.write_and_sync.new.disk) (reading c.write_and_sync-2.new.disk) c.gate_of.result (gate_at c.args.active) _ c.gate_of.ensures.at within (c.in_ok-write_and_sync-2.ensures.block t) ∙ c.closed_gate.ensures

pub returns-in_err-write_and_sync-clause-reading : goal.returns-in_err-write_and_sync-clause-reading
returns-in_err-write_and_sync-clause-reading g c t =
    let disk = g.met.D.Disk in
    let reading = g.D.Disk.reading in
    let laws = told g.D.Disk t disk.counts_now disk.only_now in
    let at : c.gate_of-at.result ≡ gate_at (other c.args.active) = c.gate_of-at.ensures.at ∙ ap gate_at c.other_area.ensures in
    let first = Quiet-weaker laws (λ n. n ≡ gate_at (other c.args.active)) (λ n here. here ∙ at) (c.write_and_sync.ensures.any_moment t) in
    let one = SameOutside-weaker (λ n. n ≡ c.gate_of-at.result) (λ n. n ≡ gate_at (other c.args.active)) _ _ (λ n here. here ∙ at) (c.write_and_sync.ensures.reading t) in
    SameOutside-weaker (λ n. n ≡ gate_at (other c.args.active)) (IsEitherGate c.args.active) _ _ (λ n here. inl here) one

pub returns-in_err-write_and_sync-2-clause-reading : goal.returns-in_err-write_and_sync-2-clause-reading
returns-in_err-write_and_sync-2-clause-reading g c t =
    let disk = g.met.D.Disk in
    let reading = g.D.Disk.reading in
    let laws = told g.D.Disk t disk.counts_now disk.only_now in
    let at : c.gate_of-at.result ≡ gate_at (other c.args.active) = c.gate_of-at.ensures.at ∙ ap gate_at c.other_area.ensures in
    let first = Quiet-weaker laws (λ n. n ≡ gate_at (other c.args.active)) (λ n here. here ∙ at) (c.write_and_sync.ensures.any_moment t) in
    let one = SameOutside-weaker (λ n. n ≡ c.gate_of-at.result) (λ n. n ≡ gate_at (other c.args.active)) _ _ (λ n here. here ∙ at) (c.write_and_sync.ensures.reading t) in
    let two = SameOutside-weaker (λ n. n ≡ c.gate_of.result) (λ n. n ≡ gate_at c.args.active) _ _ (λ n here. here ∙ c.gate_of.ensures.at) (c.write_and_sync-2.ensures.reading t) in
    switch_same c.args.active _ _ _ one two

pub returns-clause-reading : goal.returns-clause-reading
returns-clause-reading g c t =
    let disk = g.met.D.Disk in
    let reading = g.D.Disk.reading in
    let laws = told g.D.Disk t disk.counts_now disk.only_now in
    let at : c.gate_of-at.result ≡ gate_at (other c.args.active) = c.gate_of-at.ensures.at ∙ ap gate_at c.other_area.ensures in
    let first = Quiet-weaker laws (λ n. n ≡ gate_at (other c.args.active)) (λ n here. here ∙ at) (c.write_and_sync.ensures.any_moment t) in
    let one = SameOutside-weaker (λ n. n ≡ c.gate_of-at.result) (λ n. n ≡ gate_at (other c.args.active)) _ _ (λ n here. here ∙ at) (c.write_and_sync.ensures.reading t) in
    let two = SameOutside-weaker (λ n. n ≡ c.gate_of.result) (λ n. n ≡ gate_at c.args.active) _ _ (λ n here. here ∙ c.gate_of.ensures.at) (c.write_and_sync-2.ensures.reading t) in
    switch_same c.args.active _ _ _ one two

pub returns-in_err-write_and_sync-2-clause-counts : goal.returns-in_err-write_and_sync-2-clause-counts
returns-in_err-write_and_sync-2-clause-counts g c =
    CountsOn-then _ _ _ _ _ _ c.write_and_sync.ensures.counts c.write_and_sync-2.ensures.counts

pub returns-clause-counts : goal.returns-clause-counts
returns-clause-counts g c =
    CountsOn-then _ _ _ _ _ _ c.write_and_sync.ensures.counts c.write_and_sync-2.ensures.counts
