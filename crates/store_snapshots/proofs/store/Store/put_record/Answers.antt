use Rattle.std.proofs.Common.{List, [], ◌∷◌, ◌++◌, length, sym, ap, subst, arith}
use Rattle.std.proofs.lemmas.List.{length-map}
use Rattle.base_types.specs.declared.records.Rec.{Rec}
use Rattle.store_facts.specs.log_turn.Standing.{Stands, used_of}
use Rattle.store_facts.specs.store_books.Books.{Logged}
use Rattle.store_facts.specs.store_commit.Storing.{HasLogged, IsReady, new_of, roomy_log}
use Rattle.store_facts.proofs.Committable.{places_within}
use Rattle.store_snapshots.proofs.store.Store.put_record.Goals as goal

pub commit_record-requires-clause-enough : goal.commit_record-requires-clause-enough
commit_record-requires-clause-enough g c = (let enough = c.self.invariant.enough in let within = c.self.invariant.within in omega (arith, enough, within))

pub commit_record-requires-clause-few : goal.commit_record-requires-clause-few
commit_record-requires-clause-few g c =
    let few = rw (← c.self.view_is) at c.requires.few in
    let same = ap length c.recs.ensures in
    let all = length-map c.self.inside.kept (λ (l : Logged). l.rec) in
    (let one = few.0 in omega (arith, one, same, all), few.1)

pub commit_record-requires-clause-epoch : goal.commit_record-requires-clause-epoch
commit_record-requires-clause-epoch g c = rw (← c.self.view_is) at c.requires.epoch

pub commit_record-requires-clause-working : goal.commit_record-requires-clause-working
commit_record-requires-clause-working g c = (let both = rw (← c.self.view_is) at c.requires.working in c.self.invariant.working both.0)

pub commit_record-requires-clause-places : goal.commit_record-requires-clause-places
commit_record-requires-clause-places g c = places_within c.args.rec.now (length c.args.blob.now) c.self.inside.blocks.end _ (rw (← c.self.view_is) at c.requires.places) c.self.invariant.within

pub commit_record-requires-clause-stands : goal.commit_record-requires-clause-stands
commit_record-requires-clause-stands g c = rw (← c.self.view_is) at c.requires.stands

pub returns-clause-committed : goal.returns-clause-committed
returns-clause-committed g c =
    rw (← c.self.view_is)
    (λ t recs stands. subst (λ (ks : List Rec). Stands g.D.Disk c.commit_record.new.areas (roomy_log (used_of c.self.inside.areas) recs ks ++ c.args.rec.now ∷ []) c.commit_record.new.disk) c.recs.ensures
    (c.in_ok-commit_record.ensures.committed t recs stands))

pub returns-clause-stored : goal.returns-clause-stored
returns-clause-stored g c =
    rw (← c.self.view_is)
    (λ t next ready.
    subst (λ (ks : List Rec). HasLogged g.D.Disk next.count c.commit_record.new.areas (roomy_log (used_of c.self.inside.areas) next.recs ks ++ c.args.rec.now ∷ []) (next.ks ++ new_of next c.args.rec.now ∷ []) c.commit_record.new.disk) c.recs.ensures
    (c.in_ok-commit_record.ensures.stored t next (subst (λ (ks : List Rec). IsReady g.D.Disk next c.self.inside.areas ks c.args.rec.now c.args.blob.now c.self.inside.disk) (sym c.recs.ensures) ready)))

pub returns-clause-any_moment : goal.returns-clause-any_moment
returns-clause-any_moment g c =
    rw (← c.self.view_is)
    (λ t next ready. c.commit_record.ensures.any_moment t next (subst (λ (ks : List Rec). IsReady g.D.Disk next c.self.inside.areas ks c.args.rec.now c.args.blob.now c.self.inside.disk) (sym c.recs.ensures) ready))

pub returns-in_err-commit_record-clause-any_moment : goal.returns-in_err-commit_record-clause-any_moment
returns-in_err-commit_record-clause-any_moment g c =
    rw (← c.self.view_is)
    (λ t next ready. c.commit_record.ensures.any_moment t next (subst (λ (ks : List Rec). IsReady g.D.Disk next c.self.inside.areas ks c.args.rec.now c.args.blob.now c.self.inside.disk) (sym c.recs.ensures) ready))
