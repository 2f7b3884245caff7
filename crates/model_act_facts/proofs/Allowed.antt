-- What holds where the locus refuses nothing.
use Rattle.std.proofs.Common.{◌≡◌, ℕ, ◌<◌, true, not, nat_lt, List, [], ◌∷◌, length, Option, Some, None, is_some, Result, OnOk, slice_set, ap, ◌∙◌, subst}
use Rattle.std.specs.Option.{ok_or}
use Rattle.std.proofs.lemmas.Bool.{ltb-true}
use Rattle.model_acts.specs.base_types.declared.capabilities.Cap.{Cap}
use Rattle.model_acts.specs.base_types.declared.capabilities.Rights.{Rights}
use Rattle.model_acts.specs.base_types.declared.instructions.Instr.TheVariants.{Lmap, Drop}
use Rattle.model_acts.specs.base_types.declared.instructions.Reply.{Reply}
use Rattle.model_acts.specs.base_types.declared.instructions.Reply.TheVariants.{NoSlot, Overlap, ListFull}
use Rattle.model_sound_steps.specs.model_kernel.State.{LocusState}
use Rattle.model_sound_steps.specs.model_kernel.Words.{first, unless, cap_at}
use Rattle.model_sound_steps.specs.model_kernel.Refusals.{refusal, no_slot, no_container, lacks, no_page, named, overlaps_private, new_region}
use Rattle.model_acts.proofs.Allowed.{unless_none, first_none}

pub record MayMapPrivate (l : LocusState) (a b n : ℕ) : Type 0 where
  pub pages : no_page l a b n ≡ None
  pub room : length l.privates < 16

-- the fourth and the last of six checks pass
two_of_six : (s t u v w x : Option Reply) → first (s ∷ t ∷ u ∷ v ∷ w ∷ x ∷ []) ≡ None → (v ≡ None) × (x ≡ None)
two_of_six s t u v w x none =
    let after_s = (first_none s (t ∷ u ∷ v ∷ w ∷ x ∷ []) none).1 in
    let after_t = (first_none t (u ∷ v ∷ w ∷ x ∷ []) after_s).1 in
    let after_u = (first_none u (v ∷ w ∷ x ∷ []) after_t).1 in
    let fourth = first_none v (w ∷ x ∷ []) after_u in
    (fourth.0, (first_none x [] (first_none w (x ∷ []) fourth.1).1).0)

pub lmap_allowed : (l : LocusState) (a c b n : ℕ) (rights : Rights) → refusal l (Lmap a c b n rights) ≡ None → MayMapPrivate l a b n
unfolding refusal
lmap_allowed l a c b n rights none =
    let passed =
    two_of_six (no_slot l c) (no_container l c) (lacks l c rights.0) (no_page l a b n) (unless (not (overlaps_private l (new_region l a c b n rights))) Overlap)
    (unless (nat_lt (length l.privates) 16) ListFull) none in
    record { pages = passed.0; room = ltb-true (length l.privates) 16 (unless_none (nat_lt (length l.privates) 16) ListFull passed.1) }

pub drop_allowed : (l : LocusState) (s : ℕ) → refusal l (Drop s) ≡ None → is_some (named l s) ≡ true
unfolding refusal
drop_allowed l s none = unless_none (is_some (named l s)) NoSlot none

-- a slot that holds a capability is emptied
pub cleared : (caps new : List (Option Cap)) (slot n : ℕ) (result : Result Cap Reply) → slot ≡ n → is_some (cap_at caps n) ≡ true → result ≡ ok_or (cap_at caps slot) NoSlot
    → OnOk result (new ≡ slice_set caps slot None) → new ≡ slice_set caps n None
cleared caps new slot n result same some is done =
    by (cap_at caps n) some (is ∙ ap (λ k. ok_or (cap_at caps k) NoSlot) same) ∙ ap (λ k. slice_set caps k None) same
  where
    by : (o : Option Cap) → is_some o ≡ true → result ≡ ok_or o NoSlot → new ≡ slice_set caps slot None
    by None e r = cc
    by (Some c) e r = let h = subst (λ q. OnOk q (new ≡ slice_set caps slot None)) r done in h
