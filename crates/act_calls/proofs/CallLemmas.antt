-- The calls' cases in the model.
use Rattle.std.proofs.Common.{◌≡◌, ℕ, true, false, List, Option, Some, None, MatchOption, Result, Ok, Err, OnErr, slice_set, refl, sym, ap, ◌∙◌, subst}
use Rattle.std.specs.Option.{ok_or}
use Rattle.base_types.specs.declared.capabilities.Cap.{Cap}
use Rattle.base_types.specs.declared.capabilities.Rights.{Rights}
use Rattle.base_types.specs.declared.instructions.Instr.{Instr}
use Rattle.base_types.specs.declared.instructions.Instr.TheVariants.{Take, Give}
use Rattle.base_types.specs.declared.instructions.Reply.{Reply}
use Rattle.base_types.specs.declared.instructions.Reply.TheVariants.{NoSlot, ListFull}
use Rattle.base_types.specs.declared.instructions.Reply.TheVariants.{Ok as Fine}
use Rattle.act_invoke.specs.model_kernel.State.{Supply, AtlasState, ContainerState, LocusState, Cell, ContainerCell}
use Rattle.act_invoke.specs.model_kernel.Acts.{wanted}
use Rattle.act_invoke.specs.model_kernel.Outcomes.{Outcome, outcome, on_cell, take_cap, take_by, give, give_at, given_cap, set_reg, with_other, own_reply, finish}
use Rattle.act_invoke.specs.model_kernel.Refusals.{instr_at, reg}
use Rattle.act_invoke.specs.model_kernel.Words.{cap_at, free_slot}
use Rattle.act_invoke.specs.model_acts.Views.{may_name_itself}
use Rattle.act_invoke.specs.Entries.{WantsBeside}
use Rattle.act_invoke.proofs.Entered.{made_by}
use Rattle.act_calls.specs.Calls.{is_take, is_give, CallMade}

-- COPIES OF CAPABILITIES

take_apart : (i : Instr) → is_take i ≡ true → may_name_itself i ≡ false
take_apart (Take d c y) h = refl
take_apart i h = cc

give_apart : (i : Instr) → is_give i ≡ true → may_name_itself i ≡ false
give_apart (Give d c s rights) h = refl
give_apart i h = cc

on_take : (s : Supply) (l : LocusState) (a : AtlasState) (x d k y : ℕ) (c : ContainerState) → on_cell s l a x (Take d k y) (ContainerCell c) ≡ take_cap l c d (reg l y)
unfolding on_cell
on_take s l a x d k y c = refl

pub take_made : (l : LocusState) (x d k y : ℕ) → WantsBeside is_take l x → instr_at l ≡ Take d k y → (me : ℕ) (s : Supply) (a : AtlasState) (c : ContainerState) → outcome s l (wanted me l) a (ContainerCell c) ≡ take_cap l c d (reg l y)
take_made l x d k y h is me s a c = made_by is_take l x h (take_apart (instr_at l)) me s a (ContainerCell c) ∙ ap (λ i. on_cell s l a x i (ContainerCell c)) is ∙ on_take s l a x d k y c

on_give : (s : Supply) (l : LocusState) (a : AtlasState) (x d k r : ℕ) (rights : Rights) (c : ContainerState) → on_cell s l a x (Give d k r rights) (ContainerCell c) ≡ give l c d (given_cap l r rights.0)
unfolding on_cell
on_give s l a x d k r rights c = refl

pub give_made : (l : LocusState) (x d k r : ℕ) (rights : Rights) → WantsBeside is_give l x → instr_at l ≡ Give d k r rights → (me : ℕ) (s : Supply) (a : AtlasState) (c : ContainerState) → outcome s l (wanted me l) a (ContainerCell c) ≡ give l c d (given_cap l r rights.0)
give_made l x d k r rights h is me s a c = made_by is_give l x h (give_apart (instr_at l)) me s a (ContainerCell c) ∙ ap (λ i. on_cell s l a x i (ContainerCell c)) is ∙ on_give s l a x d k r rights c

pub take_shape : (i : Instr) → is_take i ≡ true → ((d k y : ℕ) → i ≡ Take d k y → ⊥) → ⊥
take_shape (Take d k y) h other = other d k y refl
take_shape i h other = cc

pub give_shape : (i : Instr) → is_give i ≡ true → ((d k r : ℕ) (rights : Rights) → i ≡ Give d k r rights → ⊥) → ⊥
give_shape (Give d k r rights) h other = other d k r rights refl
give_shape i h other = cc

-- ONE CALL

pub made_as : (o p : Outcome) (m : LocusState) (reply : Reply) (cell : Option Cell) → o ≡ p → CallMade p m reply cell → CallMade o m reply cell
made_as o p m reply cell same h = subst (λ (q : Outcome). CallMade q m reply cell) (sym same) h

pub other_made : (o : Outcome) (l m : LocusState) (reply result : Reply) (cell : Cell) → o ≡ with_other l reply cell → m ≡ finish l reply → result ≡ reply → CallMade o m result (Some cell)
other_made o l m reply result cell same locus is =
    made_as o (with_other l reply cell) m result (Some cell) same
    (subst (λ (r : Reply). CallMade (with_other l reply cell) m r (Some cell)) (sym is) (record { locus = locus; answer = refl; other = refl; newborn = refl }))

pub own_made : (o : Outcome) (l m : LocusState) (reply result : Reply) → o ≡ own_reply l reply → m ≡ finish l reply → result ≡ reply → CallMade o m result None
own_made o l m reply result same locus is =
    made_as o (own_reply l reply) m result None same
    (subst (λ (r : Reply). CallMade (own_reply l reply) m r None) (sym is) (record { locus = locus; answer = refl; other = refl; newborn = refl }))

-- SLOTS

pub record Put (caps new : List (Option Cap)) (cap : Cap) (slot : ℕ) : Type 0 where
  pub free : free_slot caps ≡ Some slot
  pub now : new ≡ slice_set caps slot (Some cap)

module _ (caps new : List (Option Cap)) (cap : Cap) (r : Result ℕ Reply) (put : MatchOption (free_slot caps) (r ≡ Err ListFull) (λ s. (r ≡ Ok s) × (new ≡ slice_set caps s (Some cap)))) where
  pub put_some : (slot : ℕ) → r ≡ Ok slot → Put caps new cap slot
  put_some slot is = by (free_slot caps) refl put
    where
      by : (o : Option ℕ) → free_slot caps ≡ o → MatchOption o (r ≡ Err ListFull) (λ s. (r ≡ Ok s) × (new ≡ slice_set caps s (Some cap))) → Put caps new cap slot
      by None e m = absurd (clash (sym is ∙ m))
        where
          clash : {A E : Type 0} {x : A} {y : E} → Ok x ≡ Err y → ⊥
          clash e = cc
      by (Some n) e m =
          let same : n ≡ slot = cc in
          record { free = e ∙ ap Some same; now = m.1 ∙ ap (λ k. slice_set caps k (Some cap)) same }

  pub put_none : ((slot : ℕ) → r ≡ Ok slot → ⊥) → free_slot caps ≡ None
  put_none other = by (free_slot caps) refl put
    where
      by : (o : Option ℕ) → free_slot caps ≡ o → MatchOption o (r ≡ Err ListFull) (λ s. (r ≡ Ok s) × (new ≡ slice_set caps s (Some cap))) → free_slot caps ≡ None
      by None e m = e
      by (Some n) e m = absurd (other n m.0)

pub on_err : {A E P : Type 0} (r : Result A E) → ((x : A) → r ≡ Ok x → ⊥) → OnErr r P → P
on_err (Ok x) other h = absurd (other x refl)
on_err (Err e) other h = h

-- what a slot of the container holds
module _ (caps : List (Option Cap)) (slot n : ℕ) (r : Result Cap Reply) (same : slot ≡ n) (is : r ≡ ok_or (cap_at caps slot) NoSlot) where
  at_is : r ≡ ok_or (cap_at caps n) NoSlot
  at_is = is ∙ ap (λ k. ok_or (cap_at caps k) NoSlot) same

  pub at_none : ((x : Cap) → r ≡ Ok x → ⊥) → cap_at caps n ≡ None
  at_none other = by (cap_at caps n) refl at_is
    where
      by : (o : Option Cap) → cap_at caps n ≡ o → r ≡ ok_or o NoSlot → cap_at caps n ≡ None
      by None e h = e
      by (Some x) e h = absurd (other x h)

  pub at_some : (cap : Cap) → r ≡ Ok cap → cap_at caps n ≡ Some cap
  at_some cap found = by (cap_at caps n) refl at_is
    where
      by : (o : Option Cap) → cap_at caps n ≡ o → r ≡ ok_or o NoSlot → cap_at caps n ≡ Some cap
      by None e h = absurd (clash (sym found ∙ h))
        where
          clash : {A E : Type 0} {x : A} {y : E} → Ok x ≡ Err y → ⊥
          clash e = cc
      by (Some x) e h = let is_cap : x ≡ cap = cc in e ∙ ap Some is_cap

-- the cases of a take
pub take_none : (l : LocusState) (c : ContainerState) (d y : ℕ) → cap_at c.caps y ≡ None → take_cap l c d y ≡ with_other l NoSlot (ContainerCell c)
unfolding take_cap
take_none l c d y none = ap (λ o. take_by l c d o (free_slot l.caps)) none

pub take_full : (l : LocusState) (c : ContainerState) (d y : ℕ) (cap : Cap) → cap_at c.caps y ≡ Some cap → free_slot l.caps ≡ None → take_cap l c d y ≡ with_other l ListFull (ContainerCell c)
unfolding take_cap
take_full l c d y cap some full = ap (λ o. take_by l c d o (free_slot l.caps)) some ∙ ap (take_by l c d (Some cap)) full

pub take_put : (l : LocusState) (c : ContainerState) (d y : ℕ) (cap : Cap) (slot : ℕ) → cap_at c.caps y ≡ Some cap → free_slot l.caps ≡ Some slot
    → take_cap l c d y ≡ with_other (record (set_reg l d slot) { caps = slice_set l.caps slot (Some cap) }) Fine (ContainerCell c)
unfolding take_cap
take_put l c d y cap slot some free = ap (λ o. take_by l c d o (free_slot l.caps)) some ∙ ap (take_by l c d (Some cap)) free

-- the cases of a give
pub give_full : (l : LocusState) (c : ContainerState) (d : ℕ) (cap : Cap) → free_slot c.caps ≡ None → give l c d cap ≡ with_other l ListFull (ContainerCell c)
unfolding give
give_full l c d cap full = ap (give_at l c d cap) full

pub give_put : (l : LocusState) (c : ContainerState) (d : ℕ) (cap : Cap) (slot : ℕ) → free_slot c.caps ≡ Some slot
    → give l c d cap ≡ with_other (set_reg l d slot) Fine (ContainerCell (record c { caps = slice_set c.caps slot (Some cap) }))
unfolding give
give_put l c d cap slot free = ap (give_at l c d cap) free
