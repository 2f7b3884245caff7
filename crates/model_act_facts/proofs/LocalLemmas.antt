-- What acts that touch the locus alone make of it, by their instruction.
use Rattle.std.proofs.Common.{◌≡◌, ℕ, nat_lt, not, List, [], ◌∷◌, Option, Some, None, length, refl, ap, sym, ◌∙◌}
use Rattle.model_acts.specs.base_types.declared.capabilities.Rights.{Rights}
use Rattle.model_acts.specs.base_types.declared.instructions.Instr.{Instr}
use Rattle.model_acts.specs.base_types.declared.instructions.Instr.TheVariants.{Lmap, Go, Snap, Stabilise}
use Rattle.model_acts.specs.base_types.declared.instructions.Reply.TheVariants.{Ok as OkReply, ListFull, Overlap}
use Rattle.model_sound_steps.specs.model_kernel.Outcomes.{local_act, own_reply, with_private}
use Rattle.model_sound_steps.specs.model_kernel.Refusals.{lacks, new_region, no_container, no_page, no_slot, overlaps_private, refusal}
use Rattle.model_sound_steps.specs.model_kernel.State.{LocusState}
use Rattle.model_sound_steps.specs.model_kernel.Words.{first, unless}

-- the first that is there is none where none is there
pub first_none : {A : Type 0} (a : Option A) (rest : List (Option A)) → first (a ∷ rest) ≡ None → (a ≡ None) × (first rest ≡ None)
first_none None rest e = (refl, e)
first_none (Some x) rest e = absurd (no x e)
  where
    no : {A : Type 0} (x : A) → Some x ≡ None → ⊥
    no x e = cc

fourth_none : {A : Type 0} (a b c d : Option A) (rest : List (Option A)) → first (a ∷ b ∷ c ∷ d ∷ rest) ≡ None → d ≡ None
fourth_none a b c d rest e =
    let after_a = (first_none a (b ∷ c ∷ d ∷ rest) e).1 in
    let after_b = (first_none b (c ∷ d ∷ rest) after_a).1 in
    let after_c = (first_none c (d ∷ rest) after_b).1 in
    (first_none d rest after_c).0

-- the pages of a private region that isn't refused
pub lmap_pages : (l : LocusState) (i : Instr) (a c b n : ℕ) (rights : Rights) → i ≡ Lmap a c b n rights → refusal l i ≡ None → no_page l a b n ≡ None
unfolding refusal
lmap_pages l i a c b n rights is none =
    let e : refusal l (Lmap a c b n rights) ≡ None = ap (refusal l) (sym is) ∙ none in
    fourth_none (no_slot l c) (no_container l c) (lacks l c rights.0) (no_page l a b n)
    (unless (not (overlaps_private l (new_region l a c b n rights))) Overlap ∷ unless (nat_lt (length l.privates) 16) ListFull ∷ []) e

pub local_lmap : (l : LocusState) (i : Instr) (a c b n : ℕ) (rights : Rights) → i ≡ Lmap a c b n rights → local_act l i ≡ own_reply (with_private l (new_region l a c b n rights)) OkReply
unfolding local_act
local_lmap l i a c b n rights is = ap (local_act l) is

pub local_go : (l : LocusState) (i : Instr) (c : ℕ) → i ≡ Go c → local_act l i ≡ own_reply l OkReply
unfolding local_act
local_go l i c is = ap (local_act l) is

pub local_snap : (l : LocusState) (i : Instr) (c : ℕ) → i ≡ Snap c → local_act l i ≡ own_reply l OkReply
unfolding local_act
local_snap l i c is = ap (local_act l) is

pub local_stabilise : (l : LocusState) (i : Instr) (c : ℕ) → i ≡ Stabilise c → local_act l i ≡ own_reply l OkReply
unfolding local_act
local_stabilise l i c is = ap (local_act l) is
