use Rattle.std.proofs.Common.{ℕ, ◌<◌, length, take, refl, sym, ap, subst, ◌∙◌, arith}
use Rattle.std.proofs.lemmas.List.{get_or-take, length-take, length-take-le}
use Rattle.edge_disk.proofs.Phases.{told}
use Rattle.edge_disk.specs.Image.{SameOutside}
use Rattle.edge_tally.proofs.Counting.{Begins-fewer}
use Rattle.base_types.specs.declared.records.Rec.{Rec}
use Rattle.store_facts.specs.image_facts.Bodies.{blocks_for}
use Rattle.data_blocks.specs.Ledger.{Ledger}
use Rattle.store_facts.specs.store_commit.Storing.{HasPlaces, IsCommitBlock}
use Rattle.store_facts.specs.store_books.Books.{recs_in}
use Rattle.store_facts.specs.Keeping.{HasRecounted}
use Rattle.store_facts.specs.State.{State, books, state_of}
use Rattle.store_facts.specs.Taking.{HasReleased}
use Rattle.store_facts.proofs.Committable.{IsRecordOf, blob_bytes, in_free, taken_placed, taken_places}
use Rattle.store_facts.proofs.Course.{commits, failed_shut, moments_behind, new_record, recounted_either, stands_now, true_behind, used_same}
use Rattle.store_facts.proofs.Holding.{free_is, kept_is}
use Rattle.store_facts.proofs.Listing.{few_blocks}
use Rattle.store_snapshots.proofs.store.Store.write_record.Goals as goal
use Rattle.store_snapshots.proofs.store.Store.write_record.Goals.{in-Ok, in-Err}

pub take_blocks-blocks-requires-clause-free : goal.take_blocks-blocks-requires-clause-free
take_blocks-blocks-requires-clause-free g c =
    let i = c.self.inside in
    let st : State g.row.D.Denot = state_of i.disk i.areas i.log i.kept i.cut i.blocks i.small i.shut i.read_calls in
    let free = rw (← c.self.view_is) at c.requires.free in
    let is = free_is g.D.Disk.block_count st c.self.invariant in
    omega (arith, free, is)

pub put_record-done-requires-clause-few : goal.put_record-done-requires-clause-few
put_record-done-requires-clause-few g c =
    let i = c.self.inside in
    let st : State g.row.D.Denot = state_of i.disk i.areas i.log i.kept i.cut i.blocks i.small i.shut i.read_calls in
    let room = rw (← c.self.view_is) at c.requires.room in
    let kept = ap length (kept_is g.D.Disk.block_count st c.self.invariant) in
    let many = c.spelled_blocks.ensures.many in
    let few = few_blocks (length c.args.bytes.now) c.requires.bytes.1 in
    (omega (arith, room, kept), omega (arith, many, few))

pub put_record-done-requires-clause-places : goal.put_record-done-requires-clause-places
put_record-done-requires-clause-places g c =
    let r : Rec = record { entity = c.args.entity; version = c.args.version; stamp = c.args.stamp.now; length = length c.args.bytes.now; blocks = c.take_blocks-blocks.result } in
    let many = c.spelled_blocks.ensures.many in
    subst (λ (n : ℕ). HasPlaces r n c.take_blocks-blocks.new.ledger.end) (sym many) (taken_places r (blocks_for (length c.args.bytes.now)) c.take_blocks-blocks.new.ledger.end c.self.inside.blocks c.take_blocks-blocks.new.ledger c.take_blocks-blocks.ensures (let first = c.self.invariant.first in omega (arith, first)) (sym (ap (λ (l : Ledger). l.end) c.take_blocks-blocks.ensures.only)))

pub put_record-done-requires-clause-placed : goal.put_record-done-requires-clause-placed
put_record-done-requires-clause-placed g c =
    let i = c.self.inside in
    let st : State g.row.D.Denot = state_of i.disk i.areas i.log i.kept i.cut i.blocks i.small i.shut i.read_calls in
    let r : Rec = record { entity = c.args.entity; version = c.args.version; stamp = c.args.stamp.now; length = length c.args.bytes.now; blocks = c.take_blocks-blocks.result } in
    let pages = rw (← c.self.view_is) at c.requires.pages in
    taken_placed g.D.Disk.block_count st c.self.invariant c.take_blocks-blocks.new.ledger r c.args.table.now c.take_blocks-blocks.ensures c.requires.bytes.1 pages (omega arith)

pub put_record-done-requires-clause-stands : goal.put_record-done-requires-clause-stands
put_record-done-requires-clause-stands g c =
    let i = c.self.inside in
    let st : State g.row.D.Denot = state_of i.disk i.areas i.log i.kept i.cut i.blocks i.small i.shut i.read_calls in
    let working = rw (← c.self.view_is) at c.requires.working in
    let right = rw (← c.self.view_is) at c.requires.true_books in
    λ t. (recs_in (books st), stands_now g.D.Disk st c.self.invariant working.0 (right t))

pub release_blocks-requires-clause-range : goal.release_blocks-requires-clause-range
release_blocks-requires-clause-range g c k lt =
    let i = c.self.inside in
    let st : State g.row.D.Denot = state_of i.disk i.areas i.log i.kept i.cut i.blocks i.small i.shut i.read_calls in
    let j = c.self-2.inside in
    let st2 : State g.row.D.Denot = state_of j.disk j.areas j.log j.kept j.cut j.blocks j.small j.shut j.read_calls in
    let r : Rec = record { entity = c.args.entity; version = c.args.version; stamp = c.args.stamp.now; length = length c.args.bytes.now; blocks = c.take_blocks-blocks.result } in
    let same : HasRecounted c.take_blocks-blocks.new.ledger c.self-2.inside.blocks = rw (← c.self-2.view_is) at (recounted_either _ c.put_record-done.result (record { rec = r; table = c.args.table.now }) (record st { blocks = c.take_blocks-blocks.new.ledger }) c.put_record-done.new.self c.put_record-done.ensures.put c.put_record-done.ensures.failed) in
    let inside : k < (blocks_for (length c.args.bytes.now)) = (let len = length-take (blocks_for (length c.args.bytes.now)) c.take_blocks-blocks.result in omega (arith, lt, len)) in
    let here = get_or-take (blocks_for (length c.args.bytes.now)) c.take_blocks-blocks.result k 0 inside in
    let range = c.take_blocks-blocks.ensures.range k inside in
    let first = ap (λ (l : Ledger). l.first) same.only ∙ ap (λ (l : Ledger). l.first) c.take_blocks-blocks.ensures.only in
    let end = ap (λ (l : Ledger). l.end) same.only ∙ ap (λ (l : Ledger). l.end) c.take_blocks-blocks.ensures.only in
    (let low = range.0 in omega (arith, low, first, here), let high = range.1 in omega (arith, high, end, here))

pub release_blocks-requires-clause-different : goal.release_blocks-requires-clause-different
release_blocks-requires-clause-different g c i k lt less is =
    let inside : i < (blocks_for (length c.args.bytes.now)) = (let len = length-take (blocks_for (length c.args.bytes.now)) c.take_blocks-blocks.result in omega (arith, lt, len)) in
    let before : k < (blocks_for (length c.args.bytes.now)) = omega (arith, inside, less) in
    c.take_blocks-blocks.ensures.different i k inside less (sym (get_or-take (blocks_for (length c.args.bytes.now)) c.take_blocks-blocks.result k 0 before) ∙ (is ∙ get_or-take (blocks_for (length c.args.bytes.now)) c.take_blocks-blocks.result i 0 inside))

pub returns-clause-committed : goal.returns-clause-committed
returns-clause-committed g c t =
    let i = c.self.inside in
    let st : State g.row.D.Denot = state_of i.disk i.areas i.log i.kept i.cut i.blocks i.small i.shut i.read_calls in
    let j = c.self-2.inside in
    let st2 : State g.row.D.Denot = state_of j.disk j.areas j.log j.kept j.cut j.blocks j.small j.shut j.read_calls in
    let r : Rec = record { entity = c.args.entity; version = c.args.version; stamp = c.args.stamp.now; length = length c.args.bytes.now; blocks = c.take_blocks-blocks.result } in
    let newer = rw (← c.self.view_is) at c.requires.newer in
    let is : IsRecordOf r c.args.bytes.now (recs_in (books st)) = record { entity = c.requires.entity; length_is = refl; some = c.requires.bytes.0; most = c.requires.bytes.1; first = newer.0; newer = newer.1; own = c.requires.own; components = omega arith; places = omega arith } in
    let working = rw (← c.self.view_is) at c.requires.working in
    let pages = rw (← c.self.view_is) at c.requires.pages in
    let released : HasReleased (blocks_for (length c.args.bytes.now)) c.self-2.inside.blocks c.release_blocks.new.ledger (take (blocks_for (length c.args.bytes.now)) c.take_blocks-blocks.result) =
    subst (λ (k : ℕ). HasReleased k c.self-2.inside.blocks c.release_blocks.new.ledger (take (blocks_for (length c.args.bytes.now)) c.take_blocks-blocks.result)) (length-take-le (blocks_for (length c.args.bytes.now)) c.take_blocks-blocks.result (let few = few_blocks (length c.args.bytes.now) c.requires.bytes.1 in omega (arith, few))) c.release_blocks.ensures in
    elim c.match-done.branch [
      | in-Ok w ↦
          let put = rw (← c.self-2.view_is) at w.in-Ok.ensures.put in
          let has = rw (← c.self-2.view_is) at (w.in-Ok.ensures.blob t) in
          let epoch = rw (← c.self-2.view_is) at w.in-Ok.ensures.epoch in
          let done = commits st st2 c.take_blocks-blocks.new.ledger c.release_blocks.new.ledger (blocks_for (length c.args.bytes.now)) c.take_blocks-blocks.result c.take_blocks-blocks.ensures released r c.args.table.now put g.D.Disk.block_count c.self.invariant working.0 (g.D.Disk.reading c.self-2.inside.disk) c.args.bytes.now refl
          (blob_bytes r c.args.bytes.now (take (blocks_for (length c.args.bytes.now)) c.spelled_blocks.result) (recs_in (books st)) (g.D.Disk.reading c.self-2.inside.disk) is c.spelled_blocks.ensures has)
          (in_free g.D.Disk.block_count st c.self.invariant c.take_blocks-blocks.new.ledger r c.take_blocks-blocks.ensures) epoch in
          rw (← c.self.view_is) (rw w.result-is done)
      | in-Err w ↦ rw w.result-is tt
    ]

pub returns-clause-in_memory : goal.returns-clause-in_memory
returns-clause-in_memory g c =
    let i = c.self.inside in
    let st : State g.row.D.Denot = state_of i.disk i.areas i.log i.kept i.cut i.blocks i.small i.shut i.read_calls in
    let j = c.self-2.inside in
    let st2 : State g.row.D.Denot = state_of j.disk j.areas j.log j.kept j.cut j.blocks j.small j.shut j.read_calls in
    let r : Rec = record { entity = c.args.entity; version = c.args.version; stamp = c.args.stamp.now; length = length c.args.bytes.now; blocks = c.take_blocks-blocks.result } in
    let working = rw (← c.self.view_is) at c.requires.working in
    let pages = rw (← c.self.view_is) at c.requires.pages in
    let released : HasReleased (blocks_for (length c.args.bytes.now)) c.self-2.inside.blocks c.release_blocks.new.ledger (take (blocks_for (length c.args.bytes.now)) c.take_blocks-blocks.result) =
    subst (λ (k : ℕ). HasReleased k c.self-2.inside.blocks c.release_blocks.new.ledger (take (blocks_for (length c.args.bytes.now)) c.take_blocks-blocks.result)) (length-take-le (blocks_for (length c.args.bytes.now)) c.take_blocks-blocks.result (let few = few_blocks (length c.args.bytes.now) c.requires.bytes.1 in omega (arith, few))) c.release_blocks.ensures in
    elim c.match-done.branch [
      | in-Ok w ↦
          let put = rw (← c.self-2.view_is) at w.in-Ok.ensures.put in
          let epoch = rw (← c.self-2.view_is) at w.in-Ok.ensures.epoch in
          let done = new_record st st2 c.take_blocks-blocks.new.ledger c.release_blocks.new.ledger (blocks_for (length c.args.bytes.now)) c.take_blocks-blocks.result c.take_blocks-blocks.ensures released r c.args.table.now put g.D.Disk.block_count c.self.invariant working.0
          (in_free g.D.Disk.block_count st c.self.invariant c.take_blocks-blocks.new.ledger r c.take_blocks-blocks.ensures) epoch in
          rw (← c.self.view_is) (rw w.result-is done)
      | in-Err w ↦ rw w.result-is tt
    ]

pub returns-clause-true_books : goal.returns-clause-true_books
returns-clause-true_books g c t =
    let i = c.self.inside in
    let st : State g.row.D.Denot = state_of i.disk i.areas i.log i.kept i.cut i.blocks i.small i.shut i.read_calls in
    let j = c.self-2.inside in
    let st2 : State g.row.D.Denot = state_of j.disk j.areas j.log j.kept j.cut j.blocks j.small j.shut j.read_calls in
    let r : Rec = record { entity = c.args.entity; version = c.args.version; stamp = c.args.stamp.now; length = length c.args.bytes.now; blocks = c.take_blocks-blocks.result } in
    let newer = rw (← c.self.view_is) at c.requires.newer in
    let is : IsRecordOf r c.args.bytes.now (recs_in (books st)) = record { entity = c.requires.entity; length_is = refl; some = c.requires.bytes.0; most = c.requires.bytes.1; first = newer.0; newer = newer.1; own = c.requires.own; components = omega arith; places = omega arith } in
    let working = rw (← c.self.view_is) at c.requires.working in
    let pages = rw (← c.self.view_is) at c.requires.pages in
    let right = rw (← c.self.view_is) at c.requires.true_books in
    let released : HasReleased (blocks_for (length c.args.bytes.now)) c.self-2.inside.blocks c.release_blocks.new.ledger (take (blocks_for (length c.args.bytes.now)) c.take_blocks-blocks.result) =
    subst (λ (k : ℕ). HasReleased k c.self-2.inside.blocks c.release_blocks.new.ledger (take (blocks_for (length c.args.bytes.now)) c.take_blocks-blocks.result)) (length-take-le (blocks_for (length c.args.bytes.now)) c.take_blocks-blocks.result (let few = few_blocks (length c.args.bytes.now) c.requires.bytes.1 in omega (arith, few))) c.release_blocks.ensures in
    elim c.match-done.branch [
      | in-Ok w ↦
          let put = rw (← c.self-2.view_is) at w.in-Ok.ensures.put in
          let stands = rw (← c.self-2.view_is) at (w.in-Ok.ensures.committed t) in
          let stable = rw (← c.self-2.view_is) at (w.in-Ok.ensures.stable t) in
          let epoch = rw (← c.self-2.view_is) at w.in-Ok.ensures.epoch in
          let stored = rw (← c.self-2.view_is) at (w.in-Ok.ensures.stored t) in
          rw w.result-is
          (true_behind g.D.Disk st st2 c.take_blocks-blocks.new.ledger c.release_blocks.new.ledger r (take (blocks_for (length c.args.bytes.now)) c.spelled_blocks.result) c.args.bytes.now c.args.table.now c.self.invariant working.0 is c.spelled_blocks.ensures pages c.take_blocks-blocks.ensures (right t)
          (λ d. g.met.D.Disk.reads_now d t) released put stands stable epoch.0 stored)
      | in-Err w ↦ rw w.result-is tt
    ]

pub returns-clause-any_moment : goal.returns-clause-any_moment
returns-clause-any_moment g c =
    let i = c.self.inside in
    let st : State g.row.D.Denot = state_of i.disk i.areas i.log i.kept i.cut i.blocks i.small i.shut i.read_calls in
    let j = c.self-2.inside in
    let st2 : State g.row.D.Denot = state_of j.disk j.areas j.log j.kept j.cut j.blocks j.small j.shut j.read_calls in
    let r : Rec = record { entity = c.args.entity; version = c.args.version; stamp = c.args.stamp.now; length = length c.args.bytes.now; blocks = c.take_blocks-blocks.result } in
    let newer = rw (← c.self.view_is) at c.requires.newer in
    let is : IsRecordOf r c.args.bytes.now (recs_in (books st)) = record { entity = c.requires.entity; length_is = refl; some = c.requires.bytes.0; most = c.requires.bytes.1; first = newer.0; newer = newer.1; own = c.requires.own; components = omega arith; places = omega arith } in
    let working = rw (← c.self.view_is) at c.requires.working in
    let pages = rw (← c.self.view_is) at c.requires.pages in
    let right = rw (← c.self.view_is) at c.requires.true_books in
    let moments = rw (← c.self-2.view_is) at c.put_record-done.ensures.any_moment in
    rw (← c.self.view_is)
    (λ t small own.
    moments_behind g.D.Disk st st2 c.take_blocks-blocks.new.ledger c.release_blocks.new.ledger r (take (blocks_for (length c.args.bytes.now)) c.spelled_blocks.result) c.args.bytes.now c.args.table.now c.self.invariant working.0 is c.spelled_blocks.ensures pages c.take_blocks-blocks.ensures (right t)
    (told g.D.Disk t g.met.D.Disk.counts_now g.met.D.Disk.only_now) (in_free g.D.Disk.block_count st c.self.invariant c.take_blocks-blocks.new.ledger r c.take_blocks-blocks.ensures) small own (moments t))

pub returns-clause-failed : goal.returns-clause-failed
returns-clause-failed g c =
    let i = c.self.inside in
    let st : State g.row.D.Denot = state_of i.disk i.areas i.log i.kept i.cut i.blocks i.small i.shut i.read_calls in
    let j = c.self-2.inside in
    let st2 : State g.row.D.Denot = state_of j.disk j.areas j.log j.kept j.cut j.blocks j.small j.shut j.read_calls in
    let released : HasReleased (blocks_for (length c.args.bytes.now)) c.self-2.inside.blocks c.release_blocks.new.ledger (take (blocks_for (length c.args.bytes.now)) c.take_blocks-blocks.result) =
    subst (λ (k : ℕ). HasReleased k c.self-2.inside.blocks c.release_blocks.new.ledger (take (blocks_for (length c.args.bytes.now)) c.take_blocks-blocks.result)) (length-take-le (blocks_for (length c.args.bytes.now)) c.take_blocks-blocks.result (let few = few_blocks (length c.args.bytes.now) c.requires.bytes.1 in omega (arith, few))) c.release_blocks.ensures in
    elim c.match-done.branch [
      | in-Ok w ↦ rw w.result-is tt
      | in-Err w ↦
          let failed = rw (← c.self-2.view_is) at w.in-Err.ensures.failed in
          rw (← c.self.view_is) (rw w.result-is (failed.1, failed_shut st st2 c.take_blocks-blocks.new.ledger c.release_blocks.new.ledger (blocks_for (length c.args.bytes.now)) c.take_blocks-blocks.result c.take_blocks-blocks.ensures released failed.0))
    ]

pub returns-clause-begins : goal.returns-clause-begins
returns-clause-begins g c =
    let i = c.self.inside in
    let st : State g.row.D.Denot = state_of i.disk i.areas i.log i.kept i.cut i.blocks i.small i.shut i.read_calls in
    let room = rw (← c.self.view_is) at c.requires.room in
    let kept = ap length (kept_is g.D.Disk.block_count st c.self.invariant) in
    let many = c.spelled_blocks.ensures.many in
    let few = few_blocks (length c.args.bytes.now) c.requires.bytes.1 in
    let begins = rw (← c.self-2.view_is) at c.put_record-done.ensures.begins in
    rw (← c.self.view_is) (Begins-fewer _ 1300 _ _ (omega (arith, room, kept, many, few)) begins)

pub returns-clause-same_used : goal.returns-clause-same_used
returns-clause-same_used g c =
    let i = c.self.inside in
    let st : State g.row.D.Denot = state_of i.disk i.areas i.log i.kept i.cut i.blocks i.small i.shut i.read_calls in
    let r : Rec = record { entity = c.args.entity; version = c.args.version; stamp = c.args.stamp.now; length = length c.args.bytes.now; blocks = c.take_blocks-blocks.result } in
    let many = c.spelled_blocks.ensures.many in
    let outside = rw (← c.self-2.view_is) at c.put_record-done.ensures.outside in
    rw (← c.self.view_is)
    (λ t. used_same g.D.Disk.block_count st c.self.invariant r (blocks_for (length c.args.bytes.now)) c.take_blocks-blocks.new.ledger (g.D.Disk.reading c.self.inside.disk) (g.D.Disk.reading c.self-2.inside.disk) c.take_blocks-blocks.ensures
    (subst (λ (n : ℕ). SameOutside (IsCommitBlock r n) (g.D.Disk.reading c.self.inside.disk) (g.D.Disk.reading c.self-2.inside.disk)) many (outside t)))
