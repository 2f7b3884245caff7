use Rattle.std.proofs.Common.{◌≡◌, ◌≤◌, min, rules, subst, arith}
use Rattle.std.specs.Prelude.{IfOk}
use Rattle.edge_disk.specs.Kept.{MayLeave}
use Rattle.edge_disk.specs.MemoryDisk.{moments_of, reading_of, stood_at}
use Rattle.edge_disk.specs.declared.memory.MemoryDisk.{MemoryDisk}
use Rattle.edge_managers.specs.Managers.{counted_word}
use Rattle.image_reading.specs.image_shown_facts.Facts.{MeansState}
use Rattle.kernel_clients.proofs.Finding.{finds}
use Rattle.kernel_clients.proofs.stopping.stop_and_find.Goals as goal

pub returns-clause-found : goal.returns-clause-found
returns-clause-found c b supply lives first =
    let end = c.into_ended-disk.ensures in
    let left = c.in_ok-left.left in
    let t = c.min-stopped.result in
    let n = c.read_image-facts.ensures in
    let now = moments_of c.args.kernel.parts.store.disk in
    let stops : t ≡ min c.args.moment now = search rules in
    let within : t ≤ now = omega (arith, stops) in
    finds b c.args.kernel _ (reading_of left) supply lives end.history end.marks end.disk within
    (subst (λ (d : MemoryDisk). MayLeave (stood_at d t) (reading_of left)) end.disk c.in_ok-left.ensures.may)
    (n.same.same_reading tt)
    (λ read is. subst (λ r. IfOk r (λ facts. MeansState counted_word (reading_of left) facts.state facts.cut.0)) is (n.meaning tt))
    (λ bad is. n.foreign tt bad is)
    first
