use Rattle.std.proofs.Common.{◌≡◌, ℕ, ◌<◌, List, length, get_or, arith, refl, sym, ap, subst, ◌∙◌}
use Rattle.std.proofs.lemmas.List.{get_or_default}
use Rattle.std.proofs.lemmas.Bool.{false≢true}
use Rattle.base_types.specs.declared.records.Rec.{Rec}
use Rattle.data_cut_facts.specs.Searches.{no_record, record_at}
use Rattle.data_cut_facts.proofs.Ascending.{IsAscendingTo, none_read, one_more_read, falls_below, all_read}
use Rattle.data_cuts.proofs.is_ascending.Goals as goal

pub loop-rec-init : goal.loop-rec-init
loop-rec-init c = none_read _

-- the record that was read
read : (recs : List Rec) (i : ℕ) (r : Rec) → i < length recs → r ≡ get_or recs i r → record_at recs i ≡ r
read recs i r lt is = get_or_default recs i no_record r lt ∙ sym is

pub returns-then-rec-newest : goal.returns-then-rec-newest
returns-then-rec-newest c =
    let recs = c.args.recs.now in
    let i = c.loop-rec.rec-index in
    let lt : i < length recs = omega arith in
    let is = read recs i c.rec-item.result lt c.rec-item.is in
    let less : (record_at recs i).version < get_or c.loop-rec.newest c.number-x.result 0 = subst (λ (r : Rec). r.version < get_or c.loop-rec.newest c.number-x.result 0) (sym is) c.if-rec-newest.true in
    (λ h. absurd (false≢true h), λ up. absurd (falls_below recs i c.number-x.result c.loop-rec.newest c.loop-rec.invariant lt (ap (λ (r : Rec). r.entity) is ∙ sym c.number-x.ensures.number) less up))

pub loop-rec-preserved : goal.loop-rec-preserved
loop-rec-preserved c =
    let recs = c.args.recs.now in
    let i = c.loop-rec.rec-index in
    let lt : i < length recs = omega arith in
    let is = read recs i c.rec-item.result lt c.rec-item.is in
    one_more_read recs i c.number-x.result c.rec-item.result.version c.loop-rec.newest c.loop-rec.invariant c.number-x.ensures.small (ap (λ (r : Rec). r.entity) is ∙ sym c.number-x.ensures.number) (ap (λ (r : Rec). r.version) is) c.if-rec-newest.false

pub returns : goal.returns
returns c =
    let recs = c.args.recs.now in
    let e : c.loop-rec.rec-index ≡ length recs = omega arith in
    (λ _. all_read recs c.loop-rec.newest (subst (λ n. IsAscendingTo recs n c.loop-rec.newest) e c.loop-rec.invariant), λ _. refl)
