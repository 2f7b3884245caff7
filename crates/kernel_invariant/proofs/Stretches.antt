-- What a stop at any moment leaves, over a stretch of a disk's calls.
use Rattle.std.proofs.Common.{◌≡◌, ℕ, ◌+◌, ◌-◌, ◌≤◌, ◌<◌, ◌^◌, Bool, true, false, List, [], ◌∷◌, ◌++◌, count_by, length, if◌then◌else◌, refl, sym, ap, subst, ◌∙◌, arith, ◌⊎◌, inl, inr}
use Rattle.std.proofs.lemmas.Bool.{cases_lt, false≢true}
use Rattle.edge_disk.specs.declared.disk.Disk.{Ghosts}
use Rattle.edge_disk.specs.Image.{Image}
use Rattle.edge_disk.specs.Moments.{LeavesOnly}
use Rattle.store_books.specs.base_types.declared.histories.Entry.{Entry}
use Rattle.kernel_invariant.specs.Beginnings.{Beginning, BeginsRight, IsLegal, completed, with_tried}
use Rattle.kernel_invariant.specs.Left.{IsCutImage, LeavesCuts, StoresNext, marks_with}
use Rattle.kernel_invariant.specs.Marks.{completes}
use Rattle.kernel_invariant.specs.Records.{StoresCommits}
use Rattle.kernel_invariant.proofs.Leaving.{image_counts, image_stays, image_sure, image_tried, legal_before}

-- what each image is stays so where it is said in other words
pub leaves_map : {D : Type 0} (disks : Ghosts D) (old new : D) (P Q : Image → Type 0) → ((c : Image) → P c → Q c) → LeavesOnly disks old new P → LeavesOnly disks old new Q
leaves_map disks old new P Q f l = record {
  later = l.later;
  each = λ c left. f c (l.each c left);
  before = λ t c le left. elim (l.before t c le left) as (λ _. disks.left_since old t c ⊎ Q c) [ inl h ↦ inl h | inr h ↦ inr (f c h) ];
}

module _ {D : Type 0} (disks : Ghosts D)
    (counts_later : (disk : D) (s t : ℕ) (c : Image) → s ≤ t → disks.left_since disk t c → disks.left_since disk s c)
    (only_now : (disk : D) (c : Image) → disks.left_since disk (disks.clock disk) c → disks.may_leave disk c) where
  -- an image of a moment of the stretch was left before it, or is one of the stretch
  at_moment : (old new : D) (P : Image → Type 0) → LeavesOnly disks old new P → (t : ℕ) (c : Image) → disks.left_since new t c → disks.left_since old t c ⊎ P c
  at_moment old new P l t c left = elim (cases_lt (disks.clock old) t) as (λ _. disks.left_since old t c ⊎ P c) [
    | inl lt ↦ inr (l.each c (counts_later new (disks.clock old) t c (omega (arith, lt)) left))
    | inr ge ↦ l.before t c ge left
  ]

  module _ (b : Beginning) (right : BeginsRight b) (es : List Entry) (marks : List ℕ) (count : ℕ) (old new : D) (cuts : LeavesCuts b disks es marks old) where
    -- only what the history's commits store was left
    pub cuts_over_pages : IsLegal b es → LeavesOnly disks old new (StoresCommits b es count (completed b es)) → LeavesCuts b disks es marks new
    cuts_over_pages legal l t c from left = elim (at_moment old new _ l t c left) as (λ _. IsCutImage b es marks (disks.clock new) t c) [
      | inl was ↦ image_counts b es marks (disks.clock old) (disks.clock new) t c l.later (cuts t c from was)
      | inr st ↦ image_sure b es right legal count marks (disks.clock new) t c st
    ]

    module _ (e : Entry) (m : ℕ) (legal : IsLegal b (es ++ e ∷ [])) (each : length marks ≡ count_by completes es) (l : LeavesOnly disks old new (StoresNext b es e count)) where
      before_mark : (t : ℕ) (c : Image) → b.first ≤ t → disks.left_since new t c → (completes e ≡ true → disks.clock new < 2 ^ 64 - 1 → t < b.since + m) → IsCutImage b (es ++ e ∷ []) (marks_with marks e m) (disks.clock new) t c
      before_mark t c from left later = elim (at_moment old new _ l t c left) as (λ _. IsCutImage b (es ++ e ∷ []) (marks_with marks e m) (disks.clock new) t c) [
        | inl was ↦ image_stays b es e legal marks m (disks.clock new) t each later c (image_counts b es marks (disks.clock old) (disks.clock new) t c l.later (cuts t c from was))
        | inr st ↦ elim st as (λ _. IsCutImage b (es ++ e ∷ []) (marks_with marks e m) (disks.clock new) t c) [
          | inl sure ↦ image_stays b es e legal marks m (disks.clock new) t each later c (image_sure b es right (legal_before b es e legal) count marks (disks.clock new) t c sure)
          | inr next ↦ image_tried b (es ++ e ∷ []) right legal count (marks_with marks e m) (disks.clock new) t c next
        ]
      ]

      -- a commit for the next entry, which is acknowledged only where all that a stop may leave is its
      pub cuts_over_entry : (completes e ≡ true → (disks.clock new < 2 ^ 64 - 1 → disks.clock new ≡ b.since + m) × ((c : Image) → disks.may_leave new c → StoresCommits b (es ++ e ∷ []) count (with_tried b (es ++ e ∷ [])) c))
          → LeavesCuts b disks (es ++ e ∷ []) (marks_with marks e m) new
      cuts_over_entry stable t c from left = by_mark (completes e) refl
        where
          by_mark : (done : Bool) → completes e ≡ done → IsCutImage b (es ++ e ∷ []) (marks_with marks e m) (disks.clock new) t c
          by_mark false is = before_mark t c from left (λ yes. absurd (false≢true (sym is ∙ yes)))
          by_mark true is = elim (cases_lt t (disks.clock new)) as (λ _. IsCutImage b (es ++ e ∷ []) (marks_with marks e m) (disks.clock new) t c) [
            | inl lt ↦ before_mark t c from left (λ yes told. let at = (stable is).0 told in omega (arith, lt, at))
            | inr ge ↦ image_tried b (es ++ e ∷ []) right legal count (marks_with marks e m) (disks.clock new) t c ((stable is).1 c (only_now new c (counts_later new (disks.clock new) t c ge left)))
          ]

  -- an entry that completes no commit, without a call of the disk
  pub cuts_over_event : (b : Beginning) (es : List Entry) (e : Entry) (marks : List ℕ) (disk : D) → IsLegal b (es ++ e ∷ []) → length marks ≡ count_by completes es → completes e ≡ false
      → LeavesCuts b disks es marks disk → LeavesCuts b disks (es ++ e ∷ []) marks disk
  cuts_over_event b es e marks disk legal each out cuts t c from left =
      let same : marks_with marks e 0 ≡ marks = ap (λ done. if done then marks ++ 0 ∷ [] else marks) out in
      subst (λ ms. IsCutImage b (es ++ e ∷ []) ms (disks.clock disk) t c) same
      (image_stays b es e legal marks 0 (disks.clock disk) t each (λ yes. absurd (false≢true (sym out ∙ yes))) c (cuts t c from left))
