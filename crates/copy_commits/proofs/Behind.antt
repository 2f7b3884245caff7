-- What a second record asks behind a first one.
use Rattle.std.proofs.Common.{◌≡◌, inl, inr, ℕ, ◌<◌, Bool, List, [], ◌∷◌, ◌++◌, sym, ap, subst, ◌∙◌, arith}
use Rattle.std.specs.Prelude.{All}
use Rattle.std.proofs.lemmas.List.{map-append}
use Rattle.std.proofs.lemmas.List.Elements.{All-append, All-cons, All-nil}
use Rattle.base_types.specs.declared.records.Rec.{Rec}
use Rattle.kernel_records.specs.cell_states.declared.cells.Cell.{Cell}
use Rattle.kernel_records.specs.kernel_record_facts.Cells.{IsSoundIn, table_of}
use Rattle.kernel_records.specs.store_books.Books.{Books, Logged, logged_recs, recs_in}
use Rattle.kernel_records.specs.store_facts.Committed.{HasNewRecord}
use Rattle.kernel_records.specs.Committing.{MayCommit}
use Rattle.kernel_records.proofs.Fewer.{keeps_one_more}
use Rattle.copy_commits.specs.Committing.{MayCommitPair}

module _ (old mid : Books) (a n : Cell) (len : ℕ) (may : MayCommitPair old a n)
    (h : HasNewRecord a.clock.entity a.clock.version len a.clock.stamp.0 (table_of a.part) old mid) where
  abbrev l : Logged
  l = record { rec = h.rec; table = table_of a.part }

  log_is : mid.logged ≡ old.logged ++ l ∷ []
  log_is = elim h.log as (λ _. mid.logged ≡ old.logged ++ record { rec = h.rec; table = table_of a.part } ∷ []) [
    | inl is ↦ is
    | inr is ↦ is ∙ ap (λ (ls : List Logged). ls ++ record { rec = h.rec; table = table_of a.part } ∷ []) may.all_kept
  ]

  recs_are : recs_in mid ≡ recs_in old ++ h.rec ∷ []
  recs_are = ap logged_recs log_is ∙ map-append (λ (k : Logged). k.rec) old.logged (record { rec = h.rec; table = table_of a.part } ∷ [])

  newer : All (λ (r : Rec). r.entity ≡ n.clock.entity → r.version < n.clock.version) (recs_in mid)
  newer = subst (All (λ (r : Rec). r.entity ≡ n.clock.entity → r.version < n.clock.version)) (sym recs_are)
      (All-append (λ (r : Rec). r.entity ≡ n.clock.entity → r.version < n.clock.version) (recs_in old) (h.rec ∷ []) may.second.newer
      (All-cons (λ (r : Rec). r.entity ≡ n.clock.entity → r.version < n.clock.version) h.rec [] (λ is. absurd (may.apart (sym h.entity_is ∙ is))) (All-nil (λ (r : Rec). r.entity ≡ n.clock.entity → r.version < n.clock.version))))

  pub may_second : MayCommit mid n
  may_second = record {
    spellable = may.second.spellable;
    own = may.second.own;
    some = may.second.some;
    newer = newer;
    table = subst (λ (held : ℕ → Bool). IsSoundIn held n.part) (sym h.same_held) may.second.table;
    read = h.same_found ∙ may.second.read;
    room = (let more = (keeps_one_more a.clock.entity a.clock.version len a.clock.stamp.0 (table_of a.part) old mid h).all in let few = may.room in omega (arith, more, few));
    epoch = (let rise = h.epoch.1 in let low = may.epoch in omega (arith, rise, low));
  }
