use Rattle.std.proofs.Common.{◌≡◌, ◌+◌, ℕ, ap, length, set, refl, sym, true, ◌∙◌, arith}
use Rattle.std.proofs.lemmas.Result.{on_ok_weaker}
use Rattle.data_blocks.specs.Ledger.{Ledger, is_held, unused_blocks}
use Rattle.store_facts.specs.State.{State, state_of}
use Rattle.store_facts.proofs.Holding.{err_weaker, free_is, free_moves, fresh_by, held_by, marks_of}
use Rattle.store_facts.proofs.PageCalls.{taken_put, taken_within}
use Rattle.store_snapshots.proofs.paged_store.StorePageStore.take_block.Goals as goal

pub returns-clause-between : goal.returns-clause-between
returns-clause-between g c =
    let i = c.self.inside in
    let st : State g.row.D.Denot = state_of i.disk i.areas i.log i.kept i.cut i.blocks i.small i.shut i.read_calls in
    let m = marks_of _ (λ e. e ≡ record { need = 1; free = 0 }) c.take_block.result c.self.inside.blocks c.take_block.new.self (λ (n : ℕ). set c.self.inside.blocks.held n true) c.take_block.ensures.value c.take_block.ensures.none in
    rw (← c.self.view_is)
    (record {
      only = held_by g.D.Disk st c.take_block.new.self m.0 m.1 (λ image told left. g.met.D.Disk.only_now c.self.inside.disk image told left);
      later = omega arith;
    })

pub returns-clause-free : goal.returns-clause-free
returns-clause-free g c =
    let i = c.self.inside in
    let st : State g.row.D.Denot = state_of i.disk i.areas i.log i.kept i.cut i.blocks i.small i.shut i.read_calls in
    let m = marks_of _ (λ e. e ≡ record { need = 1; free = 0 }) c.take_block.result c.self.inside.blocks c.take_block.new.self (λ (n : ℕ). set c.self.inside.blocks.held n true) c.take_block.ensures.value c.take_block.ensures.none in
    rw (← c.self.view_is)
    (on_ok_weaker c.take_block.result
    (λ (e : length (unused_blocks c.take_block.new.self) + 1 ≡ length (unused_blocks c.self.inside.blocks)). ap (λ (k : ℕ). k + 1) (sym (free_moves g.D.Disk.block_count st c.take_block.new.self m.0 c.self.invariant m.1)) ∙ (e ∙ free_is g.D.Disk.block_count st c.self.invariant)) c.take_block.ensures.fewer)

pub returns-clause-none : goal.returns-clause-none
returns-clause-none g c =
    let i = c.self.inside in
    let st : State g.row.D.Denot = state_of i.disk i.areas i.log i.kept i.cut i.blocks i.small i.shut i.read_calls in
    rw (← c.self.view_is)
    (err_weaker c.take_block.result _ _ (λ e none. (sym (free_is g.D.Disk.block_count st c.self.invariant) ∙ none.0, none.1, ap (λ (l : Ledger). record st { blocks = l }) none.2)) c.take_block.ensures.none)

pub returns-clause-fresh : goal.returns-clause-fresh
returns-clause-fresh g c =
    let i = c.self.inside in
    let st : State g.row.D.Denot = state_of i.disk i.areas i.log i.kept i.cut i.blocks i.small i.shut i.read_calls in
    rw (← c.self.view_is) (fresh_by g.D.Disk.block_count st c.self.invariant c.take_block.result c.take_block.ensures.unused c.take_block.ensures.range)

pub returns-clause-held : goal.returns-clause-held
returns-clause-held g c =
    rw (← c.self.view_is) (taken_put c.take_block.result c.self.inside.blocks.held (is_held c.take_block.new.self) (taken_within c.take_block.result c.self.inside.blocks c.take_block.new.self c.self.invariant.marked c.take_block.ensures.value c.take_block.ensures.range))

pub returns-clause-same_words : goal.returns-clause-same_words
returns-clause-same_words g c = rw (← c.self.view_is) (λ t n named out. refl)
