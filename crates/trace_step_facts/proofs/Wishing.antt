-- What wishes rest on goes on with each kind of entry.
use Rattle.std.proofs.Common.{◌≡◌, ℕ, ◌<◌, Bool, true, false, not, ◌&&◌, ◌||◌, ◌==◌, if◌then◌else◌, List, Option, Some, None, slice_index, sym, ap, ◌∙◌}
use Rattle.base_types.specs.declared.histories.Entry.{Entry}
use Rattle.plain_runs.specs.model_kernel.Histories.{Run, after_birth, after_snap, after_stable, after_step, asked_by, is_full, noting, owing_births, version_of, with_asked, writes}
use Rattle.plain_runs.specs.model_kernel.Scripts.{Script}
use Rattle.plain_runs.specs.model_kernel.State.{KernelState, LocusState}
use Rattle.plain_runs.specs.model_kernel.Words.{put}
use Rattle.data_cut_facts.specs.Searches.{mark_at}
use Rattle.trace_state.specs.Flags.{wrote_in}
use Rattle.trace_state.specs.declared.wishes.Wishes.{Wishes}
use Rattle.trace_step_facts.specs.Keeping.{HasWishes}

pub birth_wishes : (script : Script) (r : Run) (e : Entry) (v : KernelState) (old new : Wishes) → HasWishes r old
    → ((x : ℕ) → mark_at new.by_step x ≡ (not (wrote_in e.touched x) && mark_at old.by_step x))
    → ((x : ℕ) → mark_at new.was_full x ≡ (mark_at old.was_full x || mark_at old.full x))
    → new.newest ≡ old.newest → new.asked ≡ old.asked → new.full ≡ old.full → HasWishes (noting (owing_births script (after_birth r e v))) new
birth_wishes script r e v old new has by_step was_full newest asked full = record {
  newest = λ x h. has.newest x h ∙ ap (λ us. slice_index us x) (sym newest);
  by_step = λ x h. ap (λ b. not (writes e x) && b) (has.by_step x h) ∙ sym (by_step x);
  asked = λ x h. has.asked x h ∙ ap (λ bs. mark_at bs x) (sym asked);
  was_full = λ x h. (λ i. has.was_full x h i || has.full x h i) ∙ sym (was_full x);
  full = λ x h. has.full x h ∙ ap (λ bs. mark_at bs x) (sym full);
}

asked_same : (o : Option ℕ) (f g : ℕ → Bool) (x : ℕ) → f x ≡ g x → with_asked o f x ≡ with_asked o g x
asked_same None f g x e = e
asked_same (Some k) f g x e = ap (λ b. if x == k then true else b) e

pub step_wishes : (r : Run) (e : Entry) (l : Option LocusState) (v : KernelState) (asked : Option ℕ) (old new : Wishes) → HasWishes r old → asked_by e.answer l ≡ asked
    → ((x : ℕ) → x < 64 → mark_at new.by_step x ≡ (wrote_in e.touched x || mark_at old.by_step x))
    → ((x : ℕ) → mark_at new.asked x ≡ with_asked asked (mark_at old.asked) x)
    → ((x : ℕ) → mark_at new.was_full x ≡ (not (wrote_in e.touched x) && mark_at old.was_full x || mark_at old.full x))
    → new.newest ≡ old.newest → new.full ≡ old.full → HasWishes (noting (after_step r e l v)) new
step_wishes r e l v asked old new has same by_step asks was_full newest full = record {
  newest = λ x h. has.newest x h ∙ ap (λ us. slice_index us x) (sym newest);
  by_step = λ x h. ap (λ b. writes e x || b) (has.by_step x h) ∙ sym (by_step x h);
  asked = λ x h. asked_same (asked_by e.answer l) r.asked (mark_at old.asked) x (has.asked x h) ∙ ap (λ o. with_asked o (mark_at old.asked) x) same ∙ sym (asks x);
  was_full = λ x h. (λ i. (not (writes e x) && has.was_full x h i) || has.full x h i) ∙ sym (was_full x);
  full = λ x h. has.full x h ∙ ap (λ bs. mark_at bs x) (sym full);
}

put_same : {A : Type 0} (f g : ℕ → A) (k : ℕ) (v : A) (x : ℕ) → f x ≡ g x → put f k v x ≡ put g k v x
put_same {A} f g k v x e = ap (λ (a : A). if x == k then v else a) e

pub snap_wishes : (r : Run) (k : ℕ) (old new : Wishes) → HasWishes r old
    → ((x : ℕ) → x < 64 → is_full (after_snap r k) x ≡ mark_at new.full x)
    → ((x : ℕ) → slice_index new.newest x ≡ put (slice_index old.newest) k (version_of r k) x)
    → ((x : ℕ) → mark_at new.by_step x ≡ put (mark_at old.by_step) k false x)
    → ((x : ℕ) → mark_at new.asked x ≡ put (mark_at old.asked) k false x)
    → ((x : ℕ) → mark_at new.was_full x ≡ (mark_at old.was_full x || mark_at new.full x)) → HasWishes (noting (after_snap r k)) new
snap_wishes r k old new has full newest by_step asked was_full = record {
  newest = λ x h. put_same r.newest (slice_index old.newest) k (version_of r k) x (has.newest x h) ∙ sym (newest x);
  by_step = λ x h. put_same r.by_step (mark_at old.by_step) k false x (has.by_step x h) ∙ sym (by_step x);
  asked = λ x h. put_same r.asked (mark_at old.asked) k false x (has.asked x h) ∙ sym (asked x);
  was_full = λ x h. (λ i. has.was_full x h i || full x h i) ∙ sym (was_full x);
  full = full;
}

pub stable_wishes : (r : Run) (versions : List ℕ) (old new : Wishes) → HasWishes r old → ((x : ℕ) → version_of r x ≡ slice_index versions x)
    → ((x : ℕ) → x < 64 → is_full (after_stable r) x ≡ mark_at new.full x) → new.newest ≡ versions
    → ((x : ℕ) → mark_at new.by_step x ≡ false) → ((x : ℕ) → mark_at new.asked x ≡ false)
    → ((x : ℕ) → mark_at new.was_full x ≡ (mark_at old.was_full x || mark_at new.full x)) → HasWishes (noting (after_stable r)) new
stable_wishes r versions old new has same full newest by_step asked was_full = record {
  newest = λ x h. same x ∙ ap (λ us. slice_index us x) (sym newest);
  by_step = λ x h. sym (by_step x);
  asked = λ x h. sym (asked x);
  was_full = λ x h. (λ i. has.was_full x h i || full x h i) ∙ sym (was_full x);
  full = full;
}
