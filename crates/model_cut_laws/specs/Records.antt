-- Snapshot records as commits, and lists of records that agree from a cut on.
use Rattle.std.specs.Prelude.{◌≡◌, ℕ, Bool, nat_le, List, map, filter, slice_index}
use Rattle.model_kernel.specs.base_types.declared.records.Rec.{Rec}
use Rattle.model_kernel.specs.Choices.{Commit, IsGreatest}
use Rattle.model_cut_laws.specs.Agreeing.{nothing}

-- the commit that a record holds; its stamp is 0 past the last entity
abbrev pub commit_of : Rec → Commit
commit_of r = record { entity = r.entity; version = r.version; stamp = slice_index r.stamp }

abbrev pub commits_of : List Rec → List Commit
commits_of recs = map commit_of recs

-- a record at or above a choice
abbrev pub is_rec_from : (ℕ → ℕ) → Rec → Bool
is_rec_from cut r = nat_le (cut r.entity) r.version

-- those at or above it, in order
abbrev pub recs_from : (ℕ → ℕ) → List Rec → List Rec
recs_from cut recs = filter (is_rec_from cut) recs

-- the two agree, blobs' blocks too, from the greatest closed choice of the first on
pub record AgreeInRecs (recs others : List Rec) : Type 0 where
  pub cut : ℕ → ℕ
  pub greatest : IsGreatest nothing (commits_of recs) cut
  pub same : recs_from cut recs ≡ recs_from cut others
