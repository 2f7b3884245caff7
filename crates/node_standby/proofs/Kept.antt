-- How many records are kept, counted by the log's records.
use Rattle.std.proofs.Common.{◌≡◌, ℕ, List, length, sym, ap, ◌∙◌}
use Rattle.std.specs.Prelude.{count_by, slice_index}
use Rattle.std.proofs.lemmas.List.{length-map}
use Rattle.std.proofs.lemmas.List.Sums.{length-filter}
use Rattle.node_shipments.specs.kernel_invariant.model_cut_laws.Records.{is_rec_from}
use Rattle.store_facts.proofs.Choices.{recs_from_is}
use Rattle.kernel_views.specs.store_snapshots.store_books.Books.{Books, Logged, cut_in, kept_in, recs_in}

pub kept_many : (bk : Books) (cut : List ℕ) → ((x : ℕ) → slice_index cut x ≡ cut_in bk x) → count_by (is_rec_from (slice_index cut)) (recs_in bk) ≡ length (kept_in bk)
kept_many bk cut same =
    ap (λ (f : ℕ → ℕ). count_by (is_rec_from f) (recs_in bk)) (λ i x. same x i)
    ∙ (sym (length-filter (is_rec_from (cut_in bk)) (recs_in bk))
    ∙ (ap length (sym (recs_from_is (cut_in bk) bk.logged)) ∙ length-map (kept_in bk) (λ (l : Logged). l.rec)))
