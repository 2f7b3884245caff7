-- How the records that are kept agree with those of a log, before a commit and behind it.
use Rattle.std.specs.Prelude.{ℕ, List, [], ◌∷◌, ◌++◌}
use Rattle.base_types.specs.declared.records.Rec.{Rec}
use Rattle.store_books.specs.model_kernel.Choices.{IsBelow, IsGreatest}
use Rattle.store_books.specs.model_cut_laws.Agreeing.{nothing}
use Rattle.store_books.specs.model_cut_laws.Records.{AgreeInRecs, commits_of, recs_from}
use Rattle.store_books.specs.image_facts.Logs.{AreFitting}

-- the log agrees with the kept records, which agree with themselves, and so it goes on with one record more
pub record AreAgreed (recs kept : List Rec) (r : Rec) : Type 0 where
  pub agree : AgreeInRecs recs kept
  pub kept_agree : AgreeInRecs kept kept
  pub agree_more : AgreeInRecs (recs ++ r ∷ []) (kept ++ r ∷ [])
  pub kept_agree_more : AgreeInRecs (kept ++ r ∷ []) (kept ++ r ∷ [])

-- THE LAW: records at or above the greatest closed choice agree so with the log, where one record more doesn't lower that choice
abbrev pub AgreedLaw : Type 0
AgreedLaw = (recs : List Rec) (r : Rec) (cut next : ℕ → ℕ) → IsGreatest nothing (commits_of recs) cut → IsGreatest nothing (commits_of (recs ++ r ∷ [])) next
    → IsBelow cut next → AreAgreed recs (recs_from cut recs) r

-- THE LAW: records at or above a choice fit behind one another, where the log does
abbrev pub KeptFitLaw : Type 0
KeptFitLaw = (count : ℕ) (cut : ℕ → ℕ) (recs : List Rec) → AreFitting count recs → AreFitting count (recs_from cut recs)
