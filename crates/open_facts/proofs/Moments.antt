-- What stops leave of an opening means the same.
use Rattle.std.proofs.Common.{◌≡◌, ℕ, List, sym, ap, ◌∙◌, ⊎_elim}
use Rattle.base_types.specs.declared.records.Rec.{Rec}
use Rattle.image_facts.specs.Checks.{count_in}
use Rattle.table_opened.specs.image_blocks.Logs.{HasRecords}
use Rattle.table_opened.specs.image_meaning.Parts.{chosen}
use Rattle.table_opened.specs.store_books.Books.{recs_in}
use Rattle.open_facts.specs.Keeping.{KeepingLaw}
use Rattle.kernel_views.proofs.store_facts_lemmas.ChosenAlone.{row_of, same_chosen}
use Rattle.kernel_views.proofs.store_commit_lemmas.SameMeaning.{same_meaning}

pub keeping_law : KeepingLaw
keeping_law s image c v m b recs_are count range older keeps =
    let back : (x : ℕ) → chosen (recs_in b) x ≡ chosen m.accepted.recs x = λ x. ap (λ (rs : List Rec). chosen rs x) (sym recs_are) in
    let blocks : count_in c ≡ count_in image = keeps.blocks ∙ count in
    ⊎_elim
    (λ (found : HasRecords (recs_in b) c). same_meaning s image c v m (recs_in b) found back keeps.same blocks)
    (λ (alone : HasRecords (row_of (recs_in b)) c). same_meaning s image c v m (row_of (recs_in b)) alone (λ x. same_chosen b.count (recs_in b) range older x ∙ back x) keeps.same blocks)
    keeps.records
