use Rattle.std.proofs.Common.{◌≡◌, false, set, ap, subst, sym, ◌∙◌, true, length, ◌<◌, refl, arith}
use Rattle.data_blocks.specs.Ledger.{Ledger, is_held}
use Rattle.store_facts.specs.store_books.Books.{free_in}
use Rattle.store_facts.specs.State.{State, books, state_of}
use Rattle.store_facts.proofs.Holding.{held_by}
use Rattle.store_facts.proofs.PageCalls.{free_given, held_put}
use Rattle.store_snapshots.proofs.paged_store.StorePageStore.give_back.Goals as goal

pub returns-clause-between : goal.returns-clause-between
returns-clause-between g c =
    let i = c.self.inside in
    let st : State g.row.D.Denot = state_of i.disk i.areas i.log i.kept i.cut i.blocks i.small i.shut i.read_calls in
    rw (← c.self.view_is)
    (record {
      only = held_by g.D.Disk st c.give_back.new.self (set c.self.inside.blocks.held c.args.block false) c.give_back.ensures (λ image told left. g.met.D.Disk.only_now c.self.inside.disk image told left);
      later = omega arith;
    })

pub returns-clause-free : goal.returns-clause-free
returns-clause-free g c =
    let i = c.self.inside in
    let st : State g.row.D.Denot = state_of i.disk i.areas i.log i.kept i.cut i.blocks i.small i.shut i.read_calls in
    let held : is_held i.blocks c.args.block ≡ true = subst (λ (s : State g.row.D.Denot). is_held s.blocks c.args.block ≡ true) (sym c.self.view_is) c.requires in
    rw (← c.self.view_is) (ap (λ (l : Ledger). free_in (books (record st { blocks = l }))) c.give_back.ensures ∙ free_given g.D.Disk.block_count st c.args.block c.self.invariant held)

pub returns-clause-held : goal.returns-clause-held
returns-clause-held g c =
    let i = c.self.inside in
    let held : is_held i.blocks c.args.block ≡ true = subst (λ (s : State g.row.D.Denot). is_held s.blocks c.args.block ≡ true) (sym c.self.view_is) c.requires in
    let within : c.args.block < length i.blocks.held = (let range = (c.self.invariant.held c.args.block held).1 in let all = c.self.invariant.marked in omega (arith, range, all)) in
    rw (← c.self.view_is) (ap is_held c.give_back.ensures ∙ held_put i.blocks.held c.args.block false within)

pub returns-clause-same_words : goal.returns-clause-same_words
returns-clause-same_words g c = rw (← c.self.view_is) (λ t n named out. refl)
