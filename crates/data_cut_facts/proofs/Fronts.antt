-- Cuts of the first records of a list, one after another.
use Rattle.std.proofs.Common.{◌≡◌, ℕ, ◌+◌, ◌≤◌, ◌<◌, List, [], ◌∷◌, length, take, inl, inr, sym, ap, subst, ◌∙◌, arith}
use Rattle.std.proofs.Math.ListN.{replicate}
use Rattle.std.proofs.lemmas.List.{map_more, get_or-take, length-take-le}
use Rattle.std.specs.Prelude.{slice_index, slice_index_or}
use Rattle.data_stamps.proofs.Blanks.{get_or-replicate_all}
use Rattle.base_types.specs.declared.records.Rec.{Rec}
use Rattle.model_cut_laws.specs.model_kernel.Choices.{Commit, IsClosedChoice, IsGreatest}
use Rattle.model_cut_laws.specs.Agreeing.{nothing}
use Rattle.model_cut_laws.specs.Records.{commit_of, commits_of}
use Rattle.model_cut_laws.proofs.Joins.{closed_more}
use Rattle.data_cut_facts.specs.Records.{IsAscending}
use Rattle.data_cut_facts.specs.Searches.{no_record, record_at}

-- versions that are all 0 are those of nothing
pub zeros : slice_index (replicate 64 0) ≡ nothing
zeros i x = get_or-replicate_all 64 x 0 i

pub greatest_of_none : (p : ℕ → ℕ) → p ≡ nothing → IsGreatest nothing [] p
greatest_of_none p e = subst (λ (p : ℕ → ℕ). IsGreatest nothing [] p) (sym e) (record {
  closed = λ x. inl (omega arith);
  greatest = λ q closed x. elim (closed x) as (λ _. q x ≤ nothing x) [ inl h ↦ omega arith | inr none ↦ absurd none ];
})

-- one more record leaves a greatest choice closed
pub closed_with_next : (recs : List Rec) (n : ℕ) (p : ℕ → ℕ) → n < length recs → IsGreatest nothing (commits_of (take n recs)) p → IsClosedChoice nothing (commits_of (take (n + 1) recs)) p
closed_with_next recs n p lt g =
    subst (λ (cs : List Commit). IsClosedChoice nothing cs p) (sym (map_more commit_of recs n no_record lt))
    (closed_more nothing (commits_of (take n recs)) (commit_of (record_at recs n) ∷ []) p g.closed)

-- the first records ascend where all do
pub ascending_front : (recs : List Rec) (n : ℕ) → n ≤ length recs → IsAscending recs → IsAscending (take n recs)
ascending_front recs n le up i j d less lt same =
    let size = length-take-le n recs le in
    let low : j < n = omega arith in
    let a : slice_index_or (take n recs) i d ≡ slice_index_or recs i d = get_or-take n recs i d (omega arith) in
    let b : slice_index_or (take n recs) j d ≡ slice_index_or recs j d = get_or-take n recs j d low in
    let of = λ (r : Rec). r.entity in
    let at = λ (r : Rec). r.version in
    let up_there = up i j d less (omega arith) (sym (ap of a) ∙ same ∙ ap of b) in
    let va = ap at a in
    let vb = ap at b in
    omega arith
