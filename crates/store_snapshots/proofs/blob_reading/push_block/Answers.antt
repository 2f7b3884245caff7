use Rattle.std.proofs.Common.{◌≡◌, ◌≤◌, ◌+◌, ◌-◌, ◌++◌, List, ℕ, length, min, take, [], None, length-append, sym, ap, subst, ◌∙◌, arith}
use Rattle.std.proofs.lemmas.List.{get_or_past}
use Rattle.edge_disk.proofs.Phases.{IsImage-reading}
use Rattle.store_facts.proofs.BlobReads.{nothing_pushed, pushed, rest_none, rest_of_none, rest_some}
use Rattle.store_facts.specs.Rests.{IsRest}
use Rattle.store_facts.specs.image_meaning.Foreign.{IsFirstRest}
use Rattle.store_snapshots.proofs.blob_reading.push_block.Goals as goal

pub returns-then-blocks-at-clause-bytes : goal.returns-then-blocks-at-clause-bytes
returns-then-blocks-at-clause-bytes g c t =
    let disk = g.met.D.Disk in
    let whole = IsImage-reading g.D.Disk t disk.reads_now disk.counts_now disk.whole c.args.disk.now in
    let past : length (g.D.Disk.reading c.args.disk.now) ≤ c.args.at = (let len = whole.len in let all = c.blocks-2.ensures in let le = c.if-blocks-at.true in omega (arith, len, all, le)) in
    nothing_pushed c.args.most c.args.out.now c.requires.few ∙ ap (λ (l : List ℕ). take c.args.most (c.args.out.now ++ l)) (sym (get_or_past (g.D.Disk.reading c.args.disk.now) c.args.at [] past))

pub returns-then-blocks-at-clause-rest : goal.returns-then-blocks-at-clause-rest
returns-then-blocks-at-clause-rest g c t =
    let disk = g.met.D.Disk in
    let whole = IsImage-reading g.D.Disk t disk.reads_now disk.counts_now disk.whole c.args.disk.now in
    let past : length (g.D.Disk.reading c.args.disk.now) ≤ c.args.at = (let len = whole.len in let all = c.blocks-2.ensures in let le = c.if-blocks-at.true in omega (arith, len, all, le)) in
    subst (λ (l : List ℕ). IsRest (c.args.out.now ++ l) c.args.most None) (sym (get_or_past (g.D.Disk.reading c.args.disk.now) c.args.at [] past)) (rest_of_none c.args.most (c.args.out.now ++ []) (let few = c.requires.few in let all = length-append c.args.out.now [] in omega (arith, few, all)))

pub returns-in-Some-clause-bytes : goal.returns-in-Some-clause-bytes
returns-in-Some-clause-bytes g c t =
    let len : length c.read.new.out ≡ 1024 = omega arith in
    c.put_bytes.ensures
    ∙ (pushed c.args.most c.min-many.result c.args.out.now c.read.new.out c.requires.few len (c.min-many.ensures ∙ ap (λ n. min (c.args.most - n) 1024) c.len.ensures.len)
    ∙ ap (λ (l : List ℕ). take c.args.most (c.args.out.now ++ l)) (c.in_ok-read.ensures.block t))

pub returns-in-None-clause-bytes : goal.returns-in-None-clause-bytes
returns-in-None-clause-bytes g c t =
    let len : length c.read.new.out ≡ 1024 = omega arith in
    c.put_bytes.ensures
    ∙ (pushed c.args.most c.min-many.result c.args.out.now c.read.new.out c.requires.few len (c.min-many.ensures ∙ ap (λ n. min (c.args.most - n) 1024) c.len.ensures.len)
    ∙ ap (λ (l : List ℕ). take c.args.most (c.args.out.now ++ l)) (c.in_ok-read.ensures.block t))

pub returns-in-Some-clause-rest : goal.returns-in-Some-clause-rest
returns-in-Some-clause-rest g c t =
    let len : length c.read.new.out ≡ 1024 = omega arith in
    subst (λ (l : List ℕ). IsFirstRest (c.args.out.now ++ l) c.args.most (c.args.most + c.in-Some.place)) (c.in_ok-read.ensures.block t)
    (rest_some c.args.most c.min-many.result c.args.out.now c.read.new.out c.requires.few len (c.min-many.ensures ∙ ap (λ n. min (c.args.most - n) 1024) c.len.ensures.len) c.in-Some.place c.in-Some.ensures)

pub returns-in-None-clause-rest : goal.returns-in-None-clause-rest
returns-in-None-clause-rest g c t =
    let len : length c.read.new.out ≡ 1024 = omega arith in
    subst (λ (l : List ℕ). IsRest (c.args.out.now ++ l) c.args.most None) (c.in_ok-read.ensures.block t)
    (rest_none c.args.most c.min-many.result c.args.out.now c.read.new.out c.requires.few len (c.min-many.ensures ∙ ap (λ n. min (c.args.most - n) 1024) c.len.ensures.len) c.in-None.ensures)
