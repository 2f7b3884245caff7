use Rattle.std.proofs.Common.{◌≡◌, ◌≤◌, ◌||◌, false, List, length, take, refl, sym, ap, subst, ◌∙◌, arith}
use Rattle.std.specs.List.{list_any}
use Rattle.std.specs.Result.{is_err}
use Rattle.std.proofs.lemmas.List.{length-take}
use Rattle.edge_disk.specs.Moments.{LeavesOnly}
use Rattle.edge_disk.proofs.Phases.{told}
use Rattle.base_types.specs.declared.records.Rec.{Rec}
use Rattle.store_facts.specs.image_facts.Logs.{AreFitting}
use Rattle.data_blocks.specs.Ledger.{Ledger, is_held}
use Rattle.store_facts.specs.store_books.Books.{Logged, recs_in}
use Rattle.store_facts.specs.Choosing.{IsKeeping, are_chosen, with_tables}
use Rattle.store_facts.specs.Holds.{names_page}
use Rattle.store_facts.specs.State.{State, books, state_of}
use Rattle.store_facts.proofs.Holds.{held_whole}
use Rattle.store_facts.proofs.Keep.{chosen_fit, chosen_row, found_logged, placed_row, whole_rows}
use Rattle.store_facts.proofs.PageCalls.{worked}
use Rattle.store_facts.proofs.Turned.{kept_books_true, moments_keeping, next_is}
use Rattle.store_snapshots.proofs.store.Store.keep_chosen.Goals as goal

pub turn-requires-clause-stands : goal.turn-requires-clause-stands
turn-requires-clause-stands g c t failed =
    let i = c.self.inside in
    let st : State g.row.D.Denot = state_of i.disk i.areas i.log i.kept i.cut i.blocks i.small i.shut i.read_calls in
    let log = rw (← c.self.view_is) at c.requires.log in
    (recs_in (books st), found_logged g.D.Disk st c.self.invariant c.if-self.false (log t))

pub returns-then-is_err-clause-any_moment : goal.returns-then-is_err-clause-any_moment
returns-then-is_err-clause-any_moment g c =
    let i = c.self.inside in
    let disk = g.met.D.Disk in
    let st : State g.row.D.Denot = state_of i.disk i.areas i.log i.kept i.cut i.blocks i.small i.shut i.read_calls in
    let log = rw (← c.self.view_is) at c.requires.log in
    let range = rw (← c.self.view_is) at c.requires.range in
    let row : List Rec = take c.chosen_recs-recs.result.1 c.chosen_recs-recs.result.0 in
    let row_is : row ≡ are_chosen st = c.chosen_recs-recs.ensures.chosen ∙ chosen_row st c.recs.result.now c.recs.ensures in
    let fit : AreFitting st.blocks.end row = subst (AreFitting st.blocks.end) (sym row_is) (chosen_fit st st.blocks.end c.self.invariant.most range) in
    rw (← c.self.view_is)
    (λ t working low.
    subst (λ (rs : List Rec). LeavesOnly g.D.Disk i.disk c.turn.new.disk (IsKeeping (g.D.Disk.reading i.disk) (books st) rs)) row_is
    (moments_keeping g.D.Disk (books st) i.disk (log t) (told g.D.Disk t disk.counts_now disk.only_now) c.turn.new.disk row fit low
    (c.turn.ensures.any_moment t (c.self.invariant.working c.if-self.false) (recs_in (books st)) (found_logged g.D.Disk st c.self.invariant c.if-self.false (log t)))))

pub returns-clause-any_moment : goal.returns-clause-any_moment
returns-clause-any_moment g c =
    let i = c.self.inside in
    let disk = g.met.D.Disk in
    let st : State g.row.D.Denot = state_of i.disk i.areas i.log i.kept i.cut i.blocks i.small i.shut i.read_calls in
    let log = rw (← c.self.view_is) at c.requires.log in
    let range = rw (← c.self.view_is) at c.requires.range in
    let row : List Rec = take c.chosen_recs-recs.result.1 c.chosen_recs-recs.result.0 in
    let row_is : row ≡ are_chosen st = c.chosen_recs-recs.ensures.chosen ∙ chosen_row st c.recs.result.now c.recs.ensures in
    let fit : AreFitting st.blocks.end row = subst (AreFitting st.blocks.end) (sym row_is) (chosen_fit st st.blocks.end c.self.invariant.most range) in
    rw (← c.self.view_is)
    (λ t working low.
    subst (λ (rs : List Rec). LeavesOnly g.D.Disk i.disk c.turn.new.disk (IsKeeping (g.D.Disk.reading i.disk) (books st) rs)) row_is
    (moments_keeping g.D.Disk (books st) i.disk (log t) (told g.D.Disk t disk.counts_now disk.only_now) c.turn.new.disk row fit low
    (c.turn.ensures.any_moment t (c.self.invariant.working c.if-self.false) (recs_in (books st)) (found_logged g.D.Disk st c.self.invariant c.if-self.false (log t)))))

pub list_all-requires-clause-placed : goal.list_all-requires-clause-placed
list_all-requires-clause-placed g c =
    let i = c.self.inside in
    let st : State g.row.D.Denot = state_of i.disk i.areas i.log i.kept i.cut i.blocks i.small i.shut i.read_calls in
    let placed = rw (← c.self.view_is) at c.requires.placed in
    let row_is = c.chosen_recs-recs.ensures.chosen ∙ chosen_row st c.recs.result.now c.recs.ensures in
    placed_row c.args.tables.now (take c.chosen_recs-recs.result.1 c.chosen_recs-recs.result.0) (are_chosen st) i.blocks c.count_names.new.ledger row_is c.count_names.ensures placed

pub hold_pages-requires-clause-marked : goal.hold_pages-requires-clause-marked
hold_pages-requires-clause-marked g c =
    let same : c.list_all.new.ledger ≡ record c.self.inside.blocks { all_named = false; names = c.list_all.new.ledger.names } =
    c.list_all.ensures.ledger.only ∙ ap (λ (l : Ledger). record l { names = c.list_all.new.ledger.names }) c.count_names.ensures in
    ap (λ (l : Ledger). length l.held) same ∙ (c.self.invariant.marked ∙ sym (ap (λ (l : Ledger). l.end) same))

pub hold_pages-requires-clause-placed : goal.hold_pages-requires-clause-placed
hold_pages-requires-clause-placed g c = c.list_all.ensures.listed.placed

pub invariant_of-self-2 : goal.invariant_of-self-2
invariant_of-self-2 g c =
    let i = c.self.inside in
    let st : State g.row.D.Denot = state_of i.disk i.areas i.log i.kept i.cut i.blocks i.small i.shut i.read_calls in
    let range = rw (← c.self.view_is) at c.requires.range in
    let older = rw (← c.self.view_is) at c.requires.older in
    let row : List Rec = take c.chosen_recs-recs.result.1 c.chosen_recs-recs.result.0 in
    let row_is : row ≡ are_chosen st = c.chosen_recs-recs.ensures.chosen ∙ chosen_row st c.recs.result.now c.recs.ensures in
    let few : length row ≤ 64 = (let cut = length-take c.chosen_recs-recs.result.1 c.chosen_recs-recs.result.0 in let most = c.chosen_recs-recs.ensures.few in omega (arith, cut, most)) in
    let ok : is_err c.turn.result ≡ false = sym c.is_err.ensures.value ∙ c.if-is_err.false in
    let listed : State g.row.D.Denot = state_of c.turn.new.disk c.turn.new.self c.copy_from.new.self c.list_all.new.kept i.cut c.list_all.new.ledger i.small false i.read_calls in
    held_whole g.D.Disk.block_count listed c.hold_pages.new.ledger
    (whole_rows g.D.Disk.block_count st c.turn.new.disk c.turn.new.self c.args.tables.now row c.copy_from.new.self c.list_all.new.kept c.count_names.new.ledger c.list_all.new.ledger c.self.invariant c.turn.ensures.begins.count
    c.count_names.ensures c.list_all.ensures.ledger c.list_all.ensures.listed row_is c.list_all.ensures.kept c.copy_from.ensures older range few (worked c.turn.result ok c.turn.ensures.areas.working) (worked c.turn.result ok c.turn.ensures.areas.used))
    c.list_all.ensures.listed c.hold_pages.ensures

pub returns-clause-true_books : goal.returns-clause-true_books
returns-clause-true_books g c t =
    let i = c.self.inside in
    let st : State g.row.D.Denot = state_of i.disk i.areas i.log i.kept i.cut i.blocks i.small i.shut i.read_calls in
    let log = rw (← c.self.view_is) at c.requires.log in
    let range = rw (← c.self.view_is) at c.requires.range in
    let older = rw (← c.self.view_is) at c.requires.older in
    let placed = rw (← c.self.view_is) at c.requires.placed in
    let spelt = rw (← c.self.view_is) at c.requires.spelt in
    let row : List Rec = take c.chosen_recs-recs.result.1 c.chosen_recs-recs.result.0 in
    let row_is : row ≡ are_chosen st = c.chosen_recs-recs.ensures.chosen ∙ chosen_row st c.recs.result.now c.recs.ensures in
    let few : length row ≤ 64 = (let cut = length-take c.chosen_recs-recs.result.1 c.chosen_recs-recs.result.0 in let most = c.chosen_recs-recs.ensures.few in omega (arith, cut, most)) in
    let ok : is_err c.turn.result ≡ false = sym c.is_err.ensures.value ∙ c.if-is_err.false in
    let listed : State g.row.D.Denot = state_of c.turn.new.disk c.turn.new.self c.copy_from.new.self c.list_all.new.kept i.cut c.list_all.new.ledger i.small false i.read_calls in
    let whole =
    held_whole g.D.Disk.block_count listed c.hold_pages.new.ledger
    (whole_rows g.D.Disk.block_count st c.turn.new.disk c.turn.new.self c.args.tables.now row c.copy_from.new.self c.list_all.new.kept c.count_names.new.ledger c.list_all.new.ledger c.self.invariant c.turn.ensures.begins.count
    c.count_names.ensures c.list_all.ensures.ledger c.list_all.ensures.listed row_is c.list_all.ensures.kept c.copy_from.ensures older range few (worked c.turn.result ok c.turn.ensures.areas.working) (worked c.turn.result ok c.turn.ensures.areas.used))
    c.list_all.ensures.listed c.hold_pages.ensures in
    kept_books_true g.D.Disk st
    (state_of c.turn.new.disk c.turn.new.self c.copy_from.new.self c.list_all.new.kept i.cut c.hold_pages.new.ledger i.small false i.read_calls) c.args.tables.now row (log t) whole row_is
    (c.copy_from.ensures ∙ c.list_all.ensures.kept) c.list_all.ensures.kept (ap (λ (l : Ledger). l.end) c.hold_pages.ensures.only ∙ (ap (λ (l : Ledger). l.end) c.list_all.ensures.ledger.only ∙ ap (λ (l : Ledger). l.end) c.count_names.ensures))
    c.self.invariant.first c.self.invariant.most range placed (spelt t) (worked c.turn.result ok (c.turn.ensures.turned t (c.self.invariant.working c.if-self.false))) (c.turn.ensures.outside t) (worked c.turn.result ok (c.turn.ensures.stable t))
    (next_is i.areas c.turn.new.self (worked c.turn.result ok c.turn.ensures.areas.area) (worked c.turn.result ok c.turn.ensures.areas.epoch))

pub returns-clause-stable : goal.returns-clause-stable
returns-clause-stable g c t = worked c.turn.result (sym c.is_err.ensures.value ∙ c.if-is_err.false) (c.turn.ensures.stable t)

pub returns-clause-kept : goal.returns-clause-kept
returns-clause-kept g c =
    let i = c.self.inside in
    let st : State g.row.D.Denot = state_of i.disk i.areas i.log i.kept i.cut i.blocks i.small i.shut i.read_calls in
    let row_is = c.chosen_recs-recs.ensures.chosen ∙ chosen_row st c.recs.result.now c.recs.ensures in
    let ok : is_err c.turn.result ≡ false = sym c.is_err.ensures.value ∙ c.if-is_err.false in
    let rows = c.list_all.ensures.kept ∙ ap (with_tables c.args.tables.now) row_is in
    rw (← c.self.view_is)
    (record {
      log = c.copy_from.ensures ∙ rows;
      kept = rows;
      cut = refl;
      read = ap (λ (l : Ledger). l.all_named) c.hold_pages.ensures.only ∙ (ap (λ (l : Ledger). l.all_named) c.list_all.ensures.ledger.only ∙ ap (λ (l : Ledger). l.all_named) c.count_names.ensures);
      held = λ n.
          c.hold_pages.ensures.held n
          ∙ (ap (λ (l : Ledger). is_held l n || list_any (names_page n) c.list_all.new.kept) (c.list_all.ensures.ledger.only ∙ ap (λ (l : Ledger). record l { names = c.list_all.new.ledger.names }) c.count_names.ensures)
          ∙ ap (λ (ls : List Logged). is_held i.blocks n || list_any (names_page n) ls) rows);
      same_count = ap (λ (l : Ledger). l.end) c.hold_pages.ensures.only ∙ (ap (λ (l : Ledger). l.end) c.list_all.ensures.ledger.only ∙ ap (λ (l : Ledger). l.end) c.count_names.ensures);
      same_small = refl;
      working = refl;
      place = next_is i.areas c.turn.new.self (worked c.turn.result ok c.turn.ensures.areas.area) (worked c.turn.result ok c.turn.ensures.areas.epoch);
    })
