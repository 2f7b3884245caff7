-- Which records are chosen, of a log and of the records that it agrees with.
use Rattle.std.proofs.Common.{◌≡◌, ℕ, Bool, true, false, ◌&&◌, ◌==◌, nat_le, if◌then◌else◌, List, [], ◌∷◌, Option, Some, option_map, refl, sym, ap, subst, ◌∙◌, arith, eqb-true}
use Rattle.std.specs.List.{AllByRecursion}
use Rattle.std.proofs.lemmas.Bool.Decides.{nat_tests}
use Rattle.std.proofs.lemmas.List.{get_or_past}
use Rattle.image_blocks.specs.base_types.declared.records.Rec.{Rec}
use Rattle.blob_grammar.specs.model_kernel.Choices.{IsNarrow}
use Rattle.model_cut_laws.specs.Agreeing.{from_cut}
use Rattle.model_cut_laws.specs.Records.{commit_of, commits_of, is_rec_from, recs_from}
use Rattle.image_meaning.specs.Parts.{chosen_by}
use Rattle.image_meaning.specs.Stores.{IsHeld, Kept, kept_by, recs_of}
use Rattle.image_blocks.specs.edge_disk.Image.{Image}
use Rattle.image_meaning.proofs.Finding.{test}

-- FROM A CUT ON

from_one : (cut : ℕ → ℕ) (r : Rec) (rs : List Rec) (b : Bool) → from_cut cut (commits_of rs) ≡ commits_of (recs_from cut rs)
    → (if b then commit_of r ∷ from_cut cut (commits_of rs) else from_cut cut (commits_of rs)) ≡ commits_of (if b then r ∷ recs_from cut rs else recs_from cut rs)
from_one cut r rs true e = ap (λ cs. commit_of r ∷ cs) e
from_one cut r rs false e = e

pub from_commits : (cut : ℕ → ℕ) (rs : List Rec) → from_cut cut (commits_of rs) ≡ commits_of (recs_from cut rs)
from_commits cut [] = refl
from_commits cut (r ∷ rs) = from_one cut r rs (is_rec_from cut r) (from_commits cut rs)

-- CHOSEN

-- what is chosen stands at the cut
at_cut_by : (cut : ℕ → ℕ) (x : ℕ) (r : Rec) (b : Bool) → (r.entity == x) ≡ b → nat_le (cut r.entity) r.version ≡ false → (b && r.version == cut x) ≡ false
at_cut_by cut x r false e low = refl
at_cut_by cut x r true e low =
    let is : r.entity ≡ x = eqb-true r.entity x e in
    let less : nat_le (cut x) r.version ≡ false = subst (λ y. nat_le (cut y) r.version ≡ false) is low in
    grind (arith, nat_tests, less)

at_cut : (cut : ℕ → ℕ) (x : ℕ) (r : Rec) → is_rec_from cut r ≡ false → test cut x r ≡ false
at_cut cut x r low = at_cut_by cut x r (r.entity == x) refl low

drop_one : (cut : ℕ → ℕ) (x : ℕ) (r : Rec) (rs : List Rec) (b : Bool) → is_rec_from cut r ≡ b → chosen_by cut (recs_from cut rs) x ≡ chosen_by cut rs x
    → chosen_by cut (if b then r ∷ recs_from cut rs else recs_from cut rs) x ≡ (if test cut x r then Some r else chosen_by cut rs x)
drop_one cut x r rs true e same = ap (λ (o : Option Rec). if test cut x r then Some r else o) same
drop_one cut x r rs false e same = subst (λ (b : Bool). chosen_by cut (recs_from cut rs) x ≡ (if b then Some r else chosen_by cut rs x)) (sym (at_cut cut x r e)) same

-- records below the cut are not chosen
pub chosen_from : (cut : ℕ → ℕ) (x : ℕ) (rs : List Rec) → chosen_by cut (recs_from cut rs) x ≡ chosen_by cut rs x
chosen_from cut x [] = refl
chosen_from cut x (r ∷ rs) = drop_one cut x r rs (is_rec_from cut r) refl (chosen_from cut x rs)

keep_one : (k : Kept) (o : Option Rec) (p : Option Kept) (b : Bool) → o ≡ option_map (λ (m : Kept). m.rec) p
    → (if b then Some k.rec else o) ≡ option_map (λ (m : Kept). m.rec) (if b then Some k else p)
keep_one k o p true e = refl
keep_one k o p false e = e

pub chosen_kept_rec : (cut : ℕ → ℕ) (x : ℕ) (ks : List Kept) → chosen_by cut (recs_of ks) x ≡ option_map (λ (m : Kept). m.rec) (kept_by cut ks x)
chosen_kept_rec cut x [] = refl
chosen_kept_rec cut x (k ∷ ks) = keep_one k (chosen_by cut (recs_of ks) x) (kept_by cut ks x) (k.rec.entity == x && k.rec.version == cut x) (chosen_kept_rec cut x ks)

-- of lists that agree from the cut on the chosen are the same
pub same_chosen : (cut : ℕ → ℕ) (x : ℕ) (rs : List Rec) (ks : List Kept) → recs_from cut rs ≡ recs_from cut (recs_of ks) → chosen_by cut rs x ≡ option_map (λ (m : Kept). m.rec) (kept_by cut ks x)
same_chosen cut x rs ks same =
    sym (chosen_from cut x rs) ∙ (ap (λ (qs : List Rec). chosen_by cut qs x) same ∙ (chosen_from cut x (recs_of ks) ∙ chosen_kept_rec cut x ks))

-- STAMPS

pub narrow_kept : (c : Image) (ks : List Kept) → AllByRecursion (IsHeld c) ks → IsNarrow (commits_of (recs_of ks))
narrow_kept c [] held = tt
narrow_kept c (k ∷ ks) (one, held) = ((λ y far. get_or_past k.rec.stamp y 0 (let e = one.components in omega (arith, e, far))), narrow_kept c ks held)
