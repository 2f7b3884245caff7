use Rattle.std.proofs.Common.{ℕ, ◌<◌, List, [], ◌∷◌, ◌++◌, if◌then◌else◌, length, filter, sym, ap, subst, ◌∙◌}
use Rattle.std.specs.Prelude.{slice_index}
use Rattle.base_types.specs.declared.records.Rec.{Rec}
use Rattle.page_store.specs.model_kernel.Choices.{IsClosedChoice, IsGreatest}
use Rattle.store_facts.specs.data_cut_facts.Records.{IsAscending}
use Rattle.store_facts.specs.model_cut_laws.Agreeing.{nothing}
use Rattle.store_facts.specs.model_cut_laws.Records.{commits_of}
use Rattle.store_facts.specs.image_facts.Layout.{slot_count}
use Rattle.data_blocks.specs.Ledger.{Ledger}
use Rattle.store_facts.specs.store_books.Books.{Logged, logged_recs}
use Rattle.store_facts.specs.Keeping.{AreKept}
use Rattle.store_facts.specs.Shelves.{is_from}
use Rattle.store_facts.proofs.Choices.{closed_still, few_recs, kept_ascending, kept_settled, room_either}
use Rattle.store_facts.proofs.Listing.{recounted_then}
use Rattle.store_snapshots.proofs.settling.settle.Goals as goal

pub push-requires : goal.push-requires
push-requires c = subst (λ (ls : List Logged). length ls < slot_count) (sym c.turn_to.ensures) (room_either c.args.turned c.args.kept.now c.args.log.now slot_count c.requires.room.0 c.requires.room.1)

pub raise-requires-clause-few : goal.raise-requires-clause-few
raise-requires-clause-few c =
    let l : Logged = record { rec = c.args.rec.now; table = c.args.table.now.0 } in
    few_recs c.args.kept.now l c.recs.result.now slot_count (c.recs.ensures ∙ ap logged_recs c.list_record.ensures.kept) c.requires.room.0

pub raise-requires-clause-ascending : goal.raise-requires-clause-ascending
raise-requires-clause-ascending c =
    let l : Logged = record { rec = c.args.rec.now; table = c.args.table.now.0 } in
    subst IsAscending (sym (c.recs.ensures ∙ ap logged_recs c.list_record.ensures.kept)) (kept_ascending c.args.log.now c.args.kept.now (slice_index c.args.cut.now.0) c.requires.kept l c.requires.newer c.requires.components)

pub raise-requires-clause-closed : goal.raise-requires-clause-closed
raise-requires-clause-closed c =
    let l : Logged = record { rec = c.args.rec.now; table = c.args.table.now.0 } in
    subst (λ (rs : List Rec). IsClosedChoice nothing (commits_of rs) (slice_index c.args.cut.now.0)) (sym (c.recs.ensures ∙ ap logged_recs c.list_record.ensures.kept)) (closed_still c.args.log.now c.args.kept.now (slice_index c.args.cut.now.0) c.requires.kept l)

pub drop_below-requires-clause-sized : goal.drop_below-requires-clause-sized
drop_below-requires-clause-sized c = c.list_record.ensures.ledger.same_size ∙ (c.requires.sized ∙ sym (ap (λ (l : Ledger). l.end) c.list_record.ensures.ledger.only))

pub returns-clause-log : goal.returns-clause-log
returns-clause-log c = c.push.ensures ∙ ap (λ (ls : List Logged). ls ++ record { rec = c.args.rec.now; table = c.args.table.now.0 } ∷ []) c.turn_to.ensures

pub returns-clause-kept : goal.returns-clause-kept
returns-clause-kept c =
    let l : Logged = record { rec = c.args.rec.now; table = c.args.table.now.0 } in
    let p : ℕ → ℕ = slice_index c.raise.result.0 in
    let same = c.push.ensures ∙ ap (λ (ls : List Logged). ls ++ l ∷ []) c.turn_to.ensures in
    let kept = c.drop_below.ensures.kept ∙ ap (λ (ls : List Logged). filter (is_from p) ls) c.list_record.ensures.kept in
    let greatest = subst (λ (rs : List Rec). IsGreatest nothing (commits_of rs) p) (c.recs.ensures ∙ ap logged_recs c.list_record.ensures.kept) c.raise.ensures in
    subst (λ (ls : List Logged). AreKept ls c.drop_below.new.kept p) (sym same)
    (subst (λ (ls : List Logged). AreKept ((if c.args.turned then c.args.kept.now else c.args.log.now) ++ l ∷ []) ls p) (sym kept)
    (kept_settled c.args.log.now c.args.kept.now (slice_index c.args.cut.now.0) c.requires.kept l c.requires.newer c.requires.components p c.args.turned greatest))

pub returns-clause-ledger : goal.returns-clause-ledger
returns-clause-ledger c = recounted_then c.args.ledger.now c.list_record.new.ledger c.drop_below.new.ledger c.list_record.ensures.ledger c.drop_below.ensures.ledger
