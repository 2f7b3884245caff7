use Rattle.std.proofs.Common.{◌≡◌, ◌+◌, ◌==◌, ◌++◌, ◌∷◌, [], ℕ, List, if◌then◌else◌, take, sym, ap, ◌∙◌}
use Rattle.std.proofs.lemmas.List.{take_more}
use Rattle.base_types.specs.declared.records.Rec.{Rec}
use Rattle.image_facts.specs.Checks.{last_version}
use Rattle.image_facts.proofs.LastVersions.{last_version-more}
use Rattle.image_blocks.proofs.body_reading.last_version.Goals as goal

pub loop-rec-preserved : goal.loop-rec-preserved
loop-rec-preserved c =
    let before : List Rec = c.args.before.now in
    let rec : Rec = c.rec-item.result in
    let i : ℕ = c.loop-rec.rec-index in
    let x : ℕ = c.args.entity in
    let items : take (i + 1) before ≡ take i before ++ rec ∷ [] = take_more before i rec c.loop-rec-test.true ∙ ap (λ (r : Rec). take i before ++ r ∷ []) (sym c.rec-item.is) in
    c.last_with-last.ensures
    ∙ (ap (λ (n : ℕ). if rec.entity == x then rec.version else n) c.loop-rec.invariant
    ∙ (sym (last_version-more (take i before) rec x) ∙ ap (λ (l : List Rec). last_version l x) (sym items)))
