use Rattle.std.proofs.Common.{◌≡◌, ◌+◌, ◌/◌, ◌<◌, ◌≤◌, length, inl, sym, ap, ◌∙◌, arith}
use Rattle.edge_disk.proofs.Phases.{LeavesOnly-start, told}
use Rattle.edge_disk.specs.declared.disk.NoBlocks.{NoBlocks}
use Rattle.store_facts.specs.image_facts.Bodies.{blocks_for}
use Rattle.store_facts.specs.store_books.Between.{stored_each}
use Rattle.store_facts.specs.store_books.Books.{free_in, kept_of, recs_in}
use Rattle.store_facts.specs.Committed.{StoresKeptOrMore}
use Rattle.store_facts.specs.State.{State, books, state_of}
use Rattle.store_snapshots.proofs.CommitAnswering.{made_answers, short_answers, shut_answers}
use Rattle.store_facts.proofs.Holding.{free_is}
use Rattle.store_snapshots.proofs.store.Store.commit.Goals as goal

pub returns-then-free-need-clause-any_moment : goal.returns-then-free-need-clause-any_moment
returns-then-free-need-clause-any_moment g c =
    let i = c.self.inside in
    let st : State g.row.D.Denot = state_of i.disk i.areas i.log i.kept i.cut i.blocks i.small i.shut i.read_calls in
    let right = rw (← c.self.view_is) at c.requires.true_books in
    rw (← c.self.view_is)
    (λ t small own working.
    LeavesOnly-start (told g.D.Disk t g.met.D.Disk.counts_now g.met.D.Disk.only_now) c.self.inside.disk (StoresKeptOrMore (g.D.Disk.reading c.self.inside.disk) (books st) c.args.entity c.args.version c.args.stamp.now c.args.blob.now c.args.pages.now.0)
    (λ image may. inl (stored_each g.D.Disk (books st).count (books st).place (recs_in (books st)) (kept_of (g.D.Disk.reading c.self.inside.disk) (books st)) c.self.inside.disk ((right t).stored small working) image may)))

pub returns-then-self-clause-answers : goal.returns-then-self-clause-answers
returns-then-self-clause-answers g c = rw (← c.self.view_is) (shut_answers g.D.Disk.faults (length c.args.blob.now) _ c.if-self.true)

pub returns-then-free-need-clause-answers : goal.returns-then-free-need-clause-answers
returns-then-free-need-clause-answers g c =
    let i = c.self.inside in
    let st : State g.row.D.Denot = state_of i.disk i.areas i.log i.kept i.cut i.blocks i.small i.shut i.read_calls in
    let free : c.free-free.result ≡ free_in (books st) = c.free-free.ensures ∙ free_is g.D.Disk.block_count st c.self.invariant in
    let need : (c.len.result + 1023) / 1024 ≡ blocks_for (length c.args.blob.now) = ap blocks_for c.len.ensures.len in
    let x : NoBlocks = record { need = (c.len.result + 1023) / 1024; free = c.free-free.result } in
    let y : NoBlocks = record { need = blocks_for (length c.args.blob.now); free = free_in (books st) } in
    let same : x ≡ y = λ k. record { need = need k; free = free k } in
    let less : free_in (books st) < blocks_for (length c.args.blob.now) = (let lt = c.if-free-need.true in omega (arith, lt, free, need)) in
    rw (← c.self.view_is) (short_answers g.D.Disk.faults (length c.args.blob.now) st x (record { working = c.if-self.false; fewer = less; numbers = same }))

pub write_record-requires-clause-free : goal.write_record-requires-clause-free
write_record-requires-clause-free g c =
    let i = c.self.inside in
    let st : State g.row.D.Denot = state_of i.disk i.areas i.log i.kept i.cut i.blocks i.small i.shut i.read_calls in
    let free : c.free-free.result ≡ free_in (books st) = c.free-free.ensures ∙ free_is g.D.Disk.block_count st c.self.invariant in
    let need : blocks_for (length c.as_slice.result.now) ≡ (c.len.result + 1023) / 1024 = ap blocks_for (ap length c.as_slice.ensures.bytes ∙ sym c.len.ensures.len) in
    rw (← c.self.view_is) (let low = c.if-free-need.false in omega (arith, low, free, need))

pub returns-clause-answers : goal.returns-clause-answers
returns-clause-answers g c =
    let i = c.self.inside in
    let st : State g.row.D.Denot = state_of i.disk i.areas i.log i.kept i.cut i.blocks i.small i.shut i.read_calls in
    let free : c.free-free.result ≡ free_in (books st) = c.free-free.ensures ∙ free_is g.D.Disk.block_count st c.self.invariant in
    let need : (c.len.result + 1023) / 1024 ≡ blocks_for (length c.args.blob.now) = ap blocks_for c.len.ensures.len in
    let room : blocks_for (length c.args.blob.now) ≤ free_in (books st) = (let low = c.if-free-need.false in omega (arith, low, free, need)) in
    let failed = rw (← c.self.view_is) at c.write_record.ensures.failed in
    rw (← c.self.view_is) (made_answers g.D.Disk.faults (length c.args.blob.now) st c.write_record.result c.write_record.new.self c.if-self.false room c.write_record.ensures.only_write_fault failed)
