use Rattle.std.proofs.Common.{◌≡◌, ℕ, ◌+◌, ◌≤◌, ◌==◌, ◌&&◌, Bool, true, false, if◌then◌else◌, List, ◌∷◌, Some, drop, length, sym, ap, ◌∙◌, arith}
use Rattle.std.specs.Prelude.{slice_index}
use Rattle.std.proofs.lemmas.List.{drop_all, drop_more}
use Rattle.base_types.specs.declared.records.Rec.{Rec}
use Rattle.store_facts.specs.image_meaning.Parts.{chosen_by}
use Rattle.store_snapshots.proofs.choosing.chosen_one.Goals as goal

-- the first of the records that are left
next : (cut : ℕ → ℕ) (recs : List Rec) (i x : ℕ) (r : Rec) (b : Bool) → drop i recs ≡ r ∷ drop (i + 1) recs → ((r.entity == x) && (r.version == cut x)) ≡ b → chosen_by cut (drop i recs) x ≡ (if b then Some r else chosen_by cut (drop (i + 1) recs) x)
next cut recs i x r b is test = ap (λ (l : List Rec). chosen_by cut l x) is ∙ ap (λ (t : Bool). if t then Some r else chosen_by cut (drop (i + 1) recs) x) test

pub loop-rec-preserved : goal.loop-rec-preserved
loop-rec-preserved c =
    let recs : List Rec = c.args.recs.now in
    let rec : Rec = c.rec-item.result in
    let i : ℕ = c.loop-rec.rec-index in
    let is : drop i recs ≡ rec ∷ drop (i + 1) recs = drop_more recs i rec c.loop-rec-test.true ∙ ap (λ (r : Rec). r ∷ drop (i + 1) recs) (sym c.rec-item.is) in
    sym (next (slice_index c.args.cut.now.0) recs i c.args.entity rec false is (sym c.is_at.ensures ∙ c.if-is_at.false)) ∙ c.loop-rec.invariant

pub returns-then-is_at : goal.returns-then-is_at
returns-then-is_at c =
    let recs : List Rec = c.args.recs.now in
    let rec : Rec = c.rec-item.result in
    let i : ℕ = c.loop-rec.rec-index in
    let is : drop i recs ≡ rec ∷ drop (i + 1) recs = drop_more recs i rec c.loop-rec-test.true ∙ ap (λ (r : Rec). r ∷ drop (i + 1) recs) (sym c.rec-item.is) in
    sym (next (slice_index c.args.cut.now.0) recs i c.args.entity rec true is (sym c.is_at.ensures ∙ c.if-is_at.true)) ∙ c.loop-rec.invariant

pub returns : goal.returns
returns c =
    let recs : List Rec = c.args.recs.now in
    let past : length recs ≤ c.loop-rec.rec-index = (let a = c.loop-rec-test.false in omega (arith, a)) in
    sym (ap (λ (l : List Rec). chosen_by (slice_index c.args.cut.now.0) l c.args.entity) (drop_all c.loop-rec.rec-index recs past)) ∙ c.loop-rec.invariant
