-- What an invocation makes, case by case.
use Rattle.std.proofs.Common.{◌≡◌, ℕ, ◌+◌, ◌<◌, ◌≤◌, nat_lt, Bool, true, false, if◌then◌else◌, List, [], ◌∷◌, ◌++◌, length, Option, Some, None, slice_get, unwrap_or, refl, sym, ap, ◌∙◌, subst, arith}
use Rattle.std.proofs.lemmas.Bool.{lt-ltb}
use Rattle.std.proofs.lemmas.Bool.Decides.{nat_tests}
use Rattle.std.proofs.lemmas.Option.{get_or_from_slice_get, slice_get_within}
use Rattle.base_types.specs.Instructions.{IsInstruction}
use Rattle.base_types.specs.declared.instructions.Call.{Call}
use Rattle.base_types.specs.declared.instructions.Instr.{Instr}
use Rattle.base_types.specs.declared.instructions.Instr.TheVariants.{Invoke, Leave, Return, Halt}
use Rattle.base_types.specs.declared.instructions.Reply.{Reply}
use Rattle.base_types.specs.declared.instructions.Reply.TheVariants.{Ok, NoEntry, ListFull, NoCaller}
use Rattle.act_alone.specs.model_kernel.State.{Supply, AtlasState, ContainerState, LocusState, Cell, ContainerCell}
use Rattle.act_alone.specs.model_kernel.Acts.{wanted}
use Rattle.act_alone.specs.model_kernel.Outcomes.{Outcome, outcome, on_cell, invoke, invoke_at, leave, leave_at, back, back_to, enter, entered, finish, with_other}
use Rattle.act_alone.specs.model_kernel.Refusals.{instr_at, refusal}
use Rattle.act_alone.specs.model_kernel.Words.{last_call, but_last}
use Rattle.act_alone.specs.model_acts.Views.{IsReadyLocus, may_name_itself}
use Rattle.act_alone.proofs.model_acts_lemmas.Allowed.{unless_none}
use Rattle.act_alone.proofs.model_acts_lemmas.Beside.{wanted_same, made_beside}
use Rattle.act_alone.proofs.model_act_facts_lemmas.Alone.{wanted_says, place_within}
use Rattle.act_invoke.specs.Entries.{is_invoke, is_leave, is_return, WantsBeside, Invoked}

-- THE WANTED INSTRUCTION

-- the operands of the instruction at a locus's place are in their ranges
pub operands : (l : LocusState) (i : Instr) → IsReadyLocus l → i ≡ instr_at l → IsInstruction i
operands l i ready is = subst IsInstruction (sym is) (by_get (slice_get l.code l.place) refl)
  where
    by_get : (o : Option Instr) → slice_get l.code l.place ≡ o → IsInstruction (unwrap_or o Halt)
    by_get (Some j) at = subst IsInstruction (get_or_from_slice_get l.code l.place j Halt at) (ready.code.each l.place Halt (slice_get_within l.code l.place j at))
    by_get None at = tt

pub instr_is : (is : Instr → Bool) (l : LocusState) (x : ℕ) → WantsBeside is l x → is (instr_at l) ≡ true
instr_is is l x h = sym (ap is (wanted_says 64 l).instr) ∙ h.instr

-- it is made beside the other entity, whatever the locus's number
pub made_by : (is : Instr → Bool) (l : LocusState) (x : ℕ) → WantsBeside is l x → (is (instr_at l) ≡ true → may_name_itself (instr_at l) ≡ false) → (me : ℕ) (s : Supply) (a : AtlasState) (cell : Cell)
    → outcome s l (wanted me l) a cell ≡ on_cell s l a x (instr_at l) cell
made_by is l x h apart me s a cell =
    ap (λ w. outcome s l w a cell) (wanted_same me 64 l (apart (instr_is is l x h))) ∙ made_beside s l (wanted 64 l) a x (instr_at l) cell h.allowed h.other (wanted_says 64 l).instr

-- such an instruction doesn't halt
pub within : (is : Instr → Bool) (l : LocusState) (x : ℕ) → IsReadyLocus l → WantsBeside is l x → is Halt ≡ false → l.place < 128
within is l x ready h goes = place_within l ready (λ halts. clash (sym (instr_is is l x h) ∙ ap is halts ∙ goes))
  where
    clash : true ≡ false → ⊥
    clash e = cc

invoke_apart : (i : Instr) → is_invoke i ≡ true → may_name_itself i ≡ false
invoke_apart (Invoke c) h = refl
invoke_apart i h = cc

leave_apart : (i : Instr) → is_leave i ≡ true → may_name_itself i ≡ false
leave_apart (Leave c) h = refl
leave_apart i h = cc

return_apart : (i : Instr) → is_return i ≡ true → may_name_itself i ≡ false
return_apart Return h = refl
return_apart i h = cc

on_invoke : (s : Supply) (l : LocusState) (a : AtlasState) (x : ℕ) (i : Instr) (c : ContainerState) → is_invoke i ≡ true → on_cell s l a x i (ContainerCell c) ≡ invoke l x c
unfolding on_cell
on_invoke s l a x (Invoke r) c h = refl
on_invoke s l a x i c h = cc

on_leave : (s : Supply) (l : LocusState) (a : AtlasState) (x : ℕ) (i : Instr) (c : ContainerState) → is_leave i ≡ true → on_cell s l a x i (ContainerCell c) ≡ leave l x c
unfolding on_cell
on_leave s l a x (Leave r) c h = refl
on_leave s l a x i c h = cc

on_return : (s : Supply) (l : LocusState) (a : AtlasState) (x : ℕ) (i : Instr) (c : ContainerState) → is_return i ≡ true → on_cell s l a x i (ContainerCell c) ≡ back l c
unfolding on_cell
on_return s l a x Return c h = refl
on_return s l a x i c h = cc

-- WHAT IT MAKES

-- this outcome, whatever the locus's number
pub record Makes (l : LocusState) (c : ContainerState) (o : Outcome) : Type 0 where
  pub is : (me : ℕ) (s : Supply) (a : AtlasState) → outcome s l (wanted me l) a (ContainerCell c) ≡ o

invoke_makes : (l : LocusState) (x : ℕ) (c : ContainerState) → WantsBeside is_invoke l x → Makes l c (invoke l x c)
invoke_makes l x c h = record { is = λ me s a. made_by is_invoke l x h (invoke_apart (instr_at l)) me s a (ContainerCell c) ∙ on_invoke s l a x (instr_at l) c (instr_is is_invoke l x h) }

leave_makes : (l : LocusState) (x : ℕ) (c : ContainerState) → WantsBeside is_leave l x → Makes l c (leave l x c)
leave_makes l x c h = record { is = λ me s a. made_by is_leave l x h (leave_apart (instr_at l)) me s a (ContainerCell c) ∙ on_leave s l a x (instr_at l) c (instr_is is_leave l x h) }

back_makes : (l : LocusState) (x : ℕ) (c : ContainerState) → WantsBeside is_return l x → Makes l c (back l c)
back_makes l x c h = record { is = λ me s a. made_by is_return l x h (return_apart (instr_at l)) me s a (ContainerCell c) ∙ on_return s l a x (instr_at l) c (instr_is is_return l x h) }

makes_as : (l : LocusState) (c : ContainerState) (o p : Outcome) → Makes l c o → o ≡ p → Makes l c p
makes_as l c o p h e = record { is = λ me s a. h.is me s a ∙ e }

pub invoke_none : (l : LocusState) (x : ℕ) (c : ContainerState) → WantsBeside is_invoke l x → c.entry ≡ None → Makes l c (with_other l NoEntry (ContainerCell c))
unfolding invoke
invoke_none l x c h none = makes_as l c (invoke l x c) (with_other l NoEntry (ContainerCell c)) (invoke_makes l x c h) (ap (invoke_at l x c) none)

pub invoke_full : (l : LocusState) (x : ℕ) (c : ContainerState) (e : ℕ) → WantsBeside is_invoke l x → c.entry ≡ Some e → 64 ≤ length l.chain → Makes l c (with_other l ListFull (ContainerCell c))
unfolding invoke
invoke_full l x c e h some full =
    let not : nat_lt (length l.chain) 64 ≡ false = grind (arith, nat_tests) in
    makes_as l c (invoke l x c) (with_other l ListFull (ContainerCell c)) (invoke_makes l x c h)
    (ap (invoke_at l x c) some
    ∙ ap (λ (b : Bool). if b then entered c (enter l x c e (l.chain ++ record { container = l.host; place = l.place + 1 } ∷ [])) else with_other l ListFull (ContainerCell c)) not)

pub invoke_enters : (l : LocusState) (x : ℕ) (c : ContainerState) (e : ℕ) → WantsBeside is_invoke l x → c.entry ≡ Some e → length l.chain < 64
    → Makes l c (entered c (enter l x c e (l.chain ++ record { container = l.host; place = l.place + 1 } ∷ [])))
unfolding invoke
invoke_enters l x c e h some few =
    makes_as l c (invoke l x c) (entered c (enter l x c e (l.chain ++ record { container = l.host; place = l.place + 1 } ∷ []))) (invoke_makes l x c h)
    (ap (invoke_at l x c) some
    ∙ ap (λ (b : Bool). if b then entered c (enter l x c e (l.chain ++ record { container = l.host; place = l.place + 1 } ∷ [])) else with_other l ListFull (ContainerCell c)) (lt-ltb (length l.chain) 64 few))

pub leave_none : (l : LocusState) (x : ℕ) (c : ContainerState) → WantsBeside is_leave l x → c.entry ≡ None → Makes l c (with_other l NoEntry (ContainerCell c))
unfolding leave
leave_none l x c h none = makes_as l c (leave l x c) (with_other l NoEntry (ContainerCell c)) (leave_makes l x c h) (ap (leave_at l x c) none)

pub leave_enters : (l : LocusState) (x : ℕ) (c : ContainerState) (e : ℕ) → WantsBeside is_leave l x → c.entry ≡ Some e → Makes l c (entered c (enter l x c e l.chain))
unfolding leave
leave_enters l x c e h some = makes_as l c (leave l x c) (entered c (enter l x c e l.chain)) (leave_makes l x c h) (ap (leave_at l x c) some)

pub back_enters : (l : LocusState) (x : ℕ) (c : ContainerState) (call : Call) → WantsBeside is_return l x → last_call l.chain ≡ Some call → Makes l c (entered c (enter l call.container c call.place (but_last l.chain)))
unfolding back
back_enters l x c call h some = makes_as l c (back l c) (entered c (enter l call.container c call.place (but_last l.chain))) (back_makes l x c h) (ap (back_to l c) some)

-- a return that isn't refused has a caller
return_calls : (l : LocusState) (i : Instr) → is_return i ≡ true → refusal l i ≡ None → nat_lt 0 (length l.chain) ≡ true
unfolding refusal
return_calls l Return h none = unless_none (nat_lt 0 (length l.chain)) NoCaller none
return_calls l i h none = cc

some_last : (calls : List Call) → nat_lt 0 (length calls) ≡ true → last_call calls ≡ None → ⊥
some_last [] h e = cc
some_last (c ∷ []) h e = cc
some_last (c ∷ d ∷ rest) h e = some_last (d ∷ rest) (lt-ltb 0 (length (d ∷ rest)) (omega arith)) e

pub has_caller : (l : LocusState) (x : ℕ) → WantsBeside is_return l x → last_call l.chain ≡ None → ⊥
has_caller l x h none = some_last l.chain (return_calls l (instr_at l) (instr_is is_return l x h) (sym (wanted_says 64 l).refused ∙ h.allowed)) none

-- THE CONTRACT

pub invoked_refused : (l : LocusState) (c : ContainerState) (m : LocusState) (reply result : Reply) → Makes l c (with_other l reply (ContainerCell c)) → m ≡ finish l reply → result ≡ reply
    → (me : ℕ) (s : Supply) (a : AtlasState) → Invoked (outcome s l (wanted me l) a (ContainerCell c)) m result c
invoked_refused l c m reply result makes locus is me s a =
    subst (λ (o : Outcome). Invoked o m result c) (sym (makes.is me s a))
    (subst (λ (r : Reply). Invoked (with_other l reply (ContainerCell c)) m r c) (sym is) (record { locus = locus; answer = refl; other = refl; newborn = refl }))

pub invoked_entered : (l : LocusState) (c : ContainerState) (m new : LocusState) → Makes l c (entered c new) → m ≡ new → (me : ℕ) (s : Supply) (a : AtlasState)
    → Invoked (outcome s l (wanted me l) a (ContainerCell c)) m Ok c
invoked_entered l c m new makes locus me s a =
    subst (λ (o : Outcome). Invoked o m Ok c) (sym (makes.is me s a)) (record { locus = locus; answer = refl; other = refl; newborn = refl })
