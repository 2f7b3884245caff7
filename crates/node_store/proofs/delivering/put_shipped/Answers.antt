use Rattle.std.proofs.Common.{◌≡◌, ℕ, zero, suc, ◌+◌, ◌-◌, ◌≤◌, Bool, true, false, arith, List, replicate, length, refl, sym, ap, subst, ◌∙◌}
use Rattle.std.specs.Prelude.{IsErrOf, OnErr, OnOk, Result, Ok, Err, slice_index}
use Rattle.std.specs.Result.{is_err}
use Rattle.std.proofs.lemmas.Bool.{false≢true}
use Rattle.std.proofs.lemmas.Result.{err_from_is_err_and}
use Rattle.edge_disk.specs.Counts.{Rose}
use Rattle.edge_disk.proofs.Ticks.{Rose-before}
use Rattle.store_snapshots.specs.CommitAnswers.{CommitAnswers}
use Rattle.store_snapshots.specs.store_facts.image_facts.Bodies.{blocks_for}
use Rattle.store_snapshots.specs.store_facts.State.{State, books}
use Rattle.store_snapshots.specs.store_books.Books.{free_in}
use Rattle.store_snapshots.specs.declared.faults.StoreFault.{StoreFault as Fault}
use Rattle.store_snapshots.specs.declared.faults.StoreFault.TheVariants as fault
use Rattle.node_store.proofs.Delivered.{by_all, by_commit, by_pages, keeps_given, takes_record}
use Rattle.node_store.proofs.Placed.{below}
use Rattle.node_store.proofs.delivering.put_shipped.Goals as goal

worked : {T E : Type 0} {P : Type 0} (r : Result T E) → is_err r ≡ false → OnOk r P → P
worked (Ok x) e h = h
worked (Err e) is h = absurd (cc is)

broke : {T E : Type 0} {P : Type 0} (r : Result T E) → is_err r ≡ true → OnErr r P → P
broke (Ok x) e h = absurd (cc e)
broke (Err e) is h = h

none_named : (n k : ℕ) → slice_index (replicate n 0) k ≡ 0
none_named zero k = refl
none_named (suc n) zero = refl
none_named (suc n) (suc k) = none_named n k

-- where there is room and the store works, only a write fails
only_write : {D T : Type 0} (faults : D → ℕ) (length : ℕ) (r : Result T Fault) (old new : State D) → CommitAnswers faults length r old new → (books old).shut ≡ false → blocks_for length ≤ free_in (books old)
    → (e : Fault) → IsErrOf r e → (e ≡ fault.WriteFault) × Rose (faults old.disk) (faults new.disk) × ((books new).shut ≡ true)
only_write faults length r old new answers working room (fault.NoBlocks b) h = absurd (let less = ((answers.no_blocks b).0 h).fewer in omega (arith, less, room))
only_write faults length r old new answers working room fault.ReadFault h = absurd (answers.no_read h)
only_write faults length r old new answers working room fault.WriteFault h = let both = answers.write_fault h in (refl, both.0, both.1.shut)
only_write faults length r old new answers working room fault.Shut h = absurd (false≢true (sym working ∙ answers.shut.1 h))

pub write_pages-written-requires-clause-empty : goal.write_pages-written-requires-clause-empty
write_pages-written-requires-clause-empty g c = λ p. ap (λ (ts : List ℕ). slice_index ts p) c.new-table.ensures ∙ none_named 256 p

pub returns-then-is_err-clause-any_moment : goal.returns-then-is_err-clause-any_moment
returns-then-is_err-clause-any_moment g c = λ t b es cs m may.
    by_pages g.D.Disk b es cs m c.args.entity c.args.version c.args.stamp.now (g.S.Spelt.bytes c.args.part.now) c.args.pages.now c.args.store.now
    t may (c.requires.true_books t) c.requires.working.0 c.write_pages-written.new.store c.write_pages-written.ensures.goes_on.between

pub returns-then-is_err-clause-failed : goal.returns-then-is_err-clause-failed
returns-then-is_err-clause-failed g c = λ e is.
    let why = broke c.write_pages-written.result (sym c.is_err.ensures.value ∙ c.if-is_err.true) c.write_pages-written.ensures.goes_on.failed c.requires.working.0 in
    let same : fault.WriteFault ≡ e = cc is in
    (sym same, why.0, why.1)

pub returns-in_err-commit-clause-any_moment : goal.returns-in_err-commit-clause-any_moment
returns-in_err-commit-clause-any_moment g c = λ t b es cs m may.
    let ok = sym c.is_err.ensures.value ∙ c.if-is_err.false in
    let w = worked c.write_pages-written.result ok c.write_pages-written.ensures.written in
    let shut = worked c.write_pages-written.result ok c.write_pages-written.ensures.goes_on.same_shut in
    by_commit g.D.Disk b es cs m c.args.entity c.args.version c.args.stamp.now (g.S.Spelt.bytes c.args.part.now) c.args.pages.now c.args.store.now
    t may (c.requires.true_books t) c.requires.working.0 c.write_pages-written.new.table.0 c.write_pages-written.new.store w c.write_pages-written.ensures.goes_on.between c.held_law.ensures c.read_blocks.ensures.long c.read_blocks.ensures.low
    c.commit.new.self c.spell.new.blob c.spell.ensures.bytes (shut ∙ c.requires.working.0) c.commit.ensures.any_moment

pub returns-in_err-commit-clause-failed : goal.returns-in_err-commit-clause-failed
returns-in_err-commit-clause-failed g c = λ e is.
    let ok = sym c.is_err.ensures.value ∙ c.if-is_err.false in
    let w = worked c.write_pages-written.result ok c.write_pages-written.ensures.written in
    let shut = worked c.write_pages-written.result ok c.write_pages-written.ensures.goes_on.same_shut in
    let p = err_from_is_err_and c.from_residual.result c.from_residual.ensures.1 in
    let room : blocks_for (length c.spell.new.blob) ≤ free_in (books c.write_pages-written.new.store) =
    fits (length c.args.pages.now) (blocks_for (length c.spell.new.blob)) (free_in (books c.args.store.now)) (free_in (books c.write_pages-written.new.store)) w.taken.free_is
    (subst (λ n. length c.args.pages.now + blocks_for n ≤ free_in (books c.args.store.now)) (sym c.spell.ensures.length) c.requires.free) in
    let failed = only_write g.D.Disk.faults (length c.spell.new.blob) c.commit.result c.write_pages-written.new.store c.commit.new.self c.commit.ensures.answers (shut ∙ c.requires.working.0) room c.in_err-commit.field-0.0 c.in_err-commit.was in
    let gives : c.from_residual.result ≡ Err p.0 = p.1 in
    let handed : p.0 ≡ c.in_err-commit.field-0.0 = p.2 in
    let why : c.in_err-commit.field-0.0 ≡ fault.WriteFault = failed.0 in
    let same : e ≡ fault.WriteFault = cc (gives, handed, why, is) in
    (same, Rose-before (g.D.Disk.faults c.args.store.now.disk) (g.D.Disk.faults c.write_pages-written.new.store.disk) (g.D.Disk.faults c.commit.new.self.disk) c.write_pages-written.ensures.goes_on.later c.commit.ensures.begins.later failed.1, failed.2)
  where
    fits : (pages blob free now : ℕ) → now + pages ≡ free → pages + blob ≤ free → blob ≤ now
    fits pages blob free now is room = omega arith

pub give_back_pages-requires-clause-held : goal.give_back_pages-requires-clause-held
give_back_pages-requires-clause-held g c = λ k q at.
    let ok = sym c.is_err.ensures.value ∙ c.if-is_err.false in
    let w = worked c.write_pages-written.result ok c.write_pages-written.ensures.written in
    let some = w.each k q (below c.args.pages.now k q at) at in
    ap (λ (f : ℕ → Bool). f (slice_index c.write_pages-written.new.table.0 q.page)) c.in_ok-commit.ensures.in_memory.same_held ∙ w.taken.now_held q.page some

pub give_back_pages-requires-clause-apart : goal.give_back_pages-requires-clause-apart
give_back_pages-requires-clause-apart g c = λ i k p q lt one two same.
    let ok = sym c.is_err.ensures.value ∙ c.if-is_err.false in
    let w = worked c.write_pages-written.result ok c.write_pages-written.ensures.written in
    let some = w.each k q (below c.args.pages.now k q two) two in
    let less = c.requires.ascending i k p q lt one two in
    let is = w.taken.apart q.page p.page some same in
    let no : ⊥ = omega (arith, less, is) in no

pub returns-clause-keeps : goal.returns-clause-keeps
returns-clause-keeps g c = λ t b es cs m may.
    let ok = sym c.is_err.ensures.value ∙ c.if-is_err.false in
    let w = worked c.write_pages-written.result ok c.write_pages-written.ensures.written in
    let shut = worked c.write_pages-written.result ok c.write_pages-written.ensures.goes_on.same_shut in
    keeps_given g.D.Disk b es cs m c.args.entity c.args.version c.args.stamp.now (g.S.Spelt.bytes c.args.part.now) c.args.pages.now c.args.store.now
    t may (c.requires.true_books t) c.requires.working.0 c.write_pages-written.new.table.0 c.write_pages-written.new.store w c.write_pages-written.ensures.goes_on.between c.held_law.ensures c.read_blocks.ensures.long c.read_blocks.ensures.low
    c.commit.new.self c.spell.new.blob c.spell.ensures.bytes (shut ∙ c.requires.working.0) c.commit.ensures.any_moment
    c.give_back_pages.new.store (c.in_ok-commit.ensures.committed t) (c.commit.ensures.same_used t) c.in_ok-commit.ensures.small (c.write_pages-written.ensures.goes_on.between.only.true_books t (c.requires.true_books t)) (c.in_ok-commit.ensures.true_books t) c.in_ok-commit.ensures.in_memory.working
    c.give_back_pages.ensures.given c.give_back_pages.ensures.between

pub returns-clause-any_moment : goal.returns-clause-any_moment
returns-clause-any_moment g c = λ t b es cs m may.
    let ok = sym c.is_err.ensures.value ∙ c.if-is_err.false in
    let w = worked c.write_pages-written.result ok c.write_pages-written.ensures.written in
    let shut = worked c.write_pages-written.result ok c.write_pages-written.ensures.goes_on.same_shut in
    by_all g.D.Disk b es cs m c.args.entity c.args.version c.args.stamp.now (g.S.Spelt.bytes c.args.part.now) c.args.pages.now c.args.store.now
    t may (c.requires.true_books t) c.requires.working.0 c.write_pages-written.new.table.0 c.write_pages-written.new.store w c.write_pages-written.ensures.goes_on.between c.held_law.ensures c.read_blocks.ensures.long c.read_blocks.ensures.low
    c.commit.new.self c.spell.new.blob c.spell.ensures.bytes (shut ∙ c.requires.working.0) c.commit.ensures.any_moment
    c.give_back_pages.new.store (c.in_ok-commit.ensures.committed t) (c.commit.ensures.same_used t) c.in_ok-commit.ensures.small (c.write_pages-written.ensures.goes_on.between.only.true_books t (c.requires.true_books t)) (c.in_ok-commit.ensures.true_books t) c.in_ok-commit.ensures.in_memory.working
    c.give_back_pages.ensures.given c.give_back_pages.ensures.between

pub returns-clause-in_memory : goal.returns-clause-in_memory
returns-clause-in_memory g c =
    let ok = sym c.is_err.ensures.value ∙ c.if-is_err.false in
    let w = worked c.write_pages-written.result ok c.write_pages-written.ensures.written in
    takes_record g.D.Disk c.args.pages.now c.write_pages-written.new.table.0 c.args.store.now c.write_pages-written.new.store c.commit.new.self c.give_back_pages.new.store c.args.entity c.args.version (length c.spell.new.blob) c.args.stamp.now
    w c.write_pages-written.ensures.goes_on.between c.in_ok-commit.ensures.in_memory c.in_ok-commit.ensures.small c.give_back_pages.ensures.given c.give_back_pages.ensures.between c.give_back_pages.ensures.shut c.requires.working.1
