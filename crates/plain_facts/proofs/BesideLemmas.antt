-- What acts beside another entity make of both.
use Rattle.std.proofs.Common.{◌≡◌, ℕ, nat_lt, Bool, true, false, IsTrue, if◌then◌else◌, length, List, [], ◌∷◌, ◌+◌, ◌++◌, Option, Some, None, refl, ap, sym, subst, ◌∙◌}
use Rattle.base_types.specs.declared.histories.Answer.{Answer}
use Rattle.base_types.specs.declared.capabilities.Cap.{Cap}
use Rattle.base_types.specs.declared.capabilities.Rights.{Rights}
use Rattle.base_types.specs.declared.instructions.Call.{Call}
use Rattle.base_types.specs.declared.instructions.Instr.{Instr}
use Rattle.base_types.specs.declared.instructions.Instr.TheVariants.{Set, Copy, Add, Sub, Jump, Jz, Load, Store, Invoke, Leave, Return, Map, Unmap, Lmap, Lunmap, Take, Give, Drop, Make, Spawn, Stop, Go, Snap, Stabilise, Print, Halt}
use Rattle.base_types.specs.declared.instructions.Reply.TheVariants.{Ok as OkReply, ListFull, WrongKind}
use Rattle.model_kernel.specs.Outcomes.{Outcome, back, back_to, enter, entered, give, give_at, invoke, invoke_at, leave, leave_at, load, look_address, on_cell, store, take_by, take_cap, with_other, given_cap}
use Rattle.model_kernel.specs.Refusals.{reg}
use Rattle.model_kernel.specs.State.{Supply, ContainerState, LocusState, Cell, ContainerCell, no_atlas}
use Rattle.model_kernel.specs.Words.{but_last, cap_at, free_slot, last_call}
use Rattle.plain_states.specs.model_act_facts.Readiness.{leaves_atlas}
use Rattle.plain_facts.specs.Acts.{Acted}

-- THE OTHER ENTITY

-- an act that leaves the other entity
pub acted_reading : (o p : Outcome) (m : LocusState) (b : Cell) (answer : Answer) (wrote : Bool) → o ≡ p → p.other ≡ None → p.newborn ≡ None → m ≡ p.locus → answer ≡ p.answer → wrote ≡ false
    → Acted o m b b answer wrote
acted_reading o p m b answer wrote same other newborn locus answers is =
    subst (λ (q : Outcome). Acted q m b b answer wrote) (sym same)
    (record { locus = locus; answers = answers; other = rw is other; same = λ _. refl; newborn = newborn })

-- an act that writes it
pub acted_writing : (o p : Outcome) (m : LocusState) (b c : Cell) (answer : Answer) (wrote : Bool) → o ≡ p → p.other ≡ Some c → p.newborn ≡ None → m ≡ p.locus → answer ≡ p.answer → wrote ≡ true
    → Acted o m b c answer wrote
acted_writing o p m b c answer wrote same other newborn locus answers is =
    subst (λ (q : Outcome). Acted q m b c answer wrote) (sym same)
    (record { locus = locus; answers = answers; other = rw is other; same = λ no. absurd (apart (sym is ∙ no)); newborn = newborn })
  where
    apart : true ≡ false → ⊥
    apart e = cc

-- RETURNS

last_added : (calls : List Call) (c : Call) → last_call (calls ++ c ∷ []) ≡ Some c
last_added [] c = refl
last_added (d ∷ []) c = refl
last_added (d ∷ e ∷ calls) c = last_added (e ∷ calls) c

but_last_added : (calls : List Call) (c : Call) → but_last (calls ++ c ∷ []) ≡ calls
but_last_added [] c = refl
but_last_added (d ∷ []) c = refl
but_last_added (d ∷ e ∷ calls) c = ap (λ cs. d ∷ cs) (but_last_added (e ∷ calls) c)

-- where a call is the last one
pub back_last : (l : LocusState) (b : ContainerState) (calls : List Call) (c : Call) → l.chain ≡ calls ++ c ∷ [] → back l b ≡ entered b (enter l c.container b c.place calls)
unfolding back
back_last l b calls c is =
    let last : last_call l.chain ≡ Some c = ap last_call is ∙ last_added calls c in
    let rest : but_last l.chain ≡ calls = ap but_last is ∙ but_last_added calls c in
    ap (back_to l b) last ∙ ap (λ (cs : List Call). entered b (enter l c.container b c.place cs)) rest

-- WHAT IS WRITTEN

-- the act writes the other entity, which is this then
pub record Writes (o : Outcome) (c : Cell) : Type 0 where
  pub other : o.other ≡ Some c
  pub newborn : o.newborn ≡ None

invoke_at_writes : (l : LocusState) (x : ℕ) (c : ContainerState) (entry : Option ℕ) → Writes (invoke_at l x c entry) (ContainerCell c)
invoke_at_writes l x c None = record { other = refl; newborn = refl }
invoke_at_writes l x c (Some entry) =
    elim (nat_lt (length l.chain) 64) as (λ b. Writes (if b then entered c (enter l x c entry (l.chain ++ record { container = l.host; place = l.place + 1 } ∷ [])) else with_other l ListFull (ContainerCell c)) (ContainerCell c)) [
      | true ↦ record { other = refl; newborn = refl }
      | false ↦ record { other = refl; newborn = refl }
    ]

pub invoke_writes : (l : LocusState) (x : ℕ) (c : ContainerState) → Writes (invoke l x c) (ContainerCell c)
unfolding invoke
invoke_writes l x c = invoke_at_writes l x c c.entry

leave_at_writes : (l : LocusState) (x : ℕ) (c : ContainerState) (entry : Option ℕ) → Writes (leave_at l x c entry) (ContainerCell c)
leave_at_writes l x c None = record { other = refl; newborn = refl }
leave_at_writes l x c (Some entry) = record { other = refl; newborn = refl }

pub leave_writes : (l : LocusState) (x : ℕ) (c : ContainerState) → Writes (leave l x c) (ContainerCell c)
unfolding leave
leave_writes l x c = leave_at_writes l x c c.entry

take_by_writes : (l : LocusState) (c : ContainerState) (d : ℕ) (cap : Option Cap) (slot : Option ℕ) → Writes (take_by l c d cap slot) (ContainerCell c)
take_by_writes l c d None slot = record { other = refl; newborn = refl }
take_by_writes l c d (Some cap) None = record { other = refl; newborn = refl }
take_by_writes l c d (Some cap) (Some slot) = record { other = refl; newborn = refl }

pub take_writes : (l : LocusState) (c : ContainerState) (d y : ℕ) → Writes (take_cap l c d y) (ContainerCell c)
unfolding take_cap
take_writes l c d y = take_by_writes l c d (cap_at c.caps y) (free_slot l.caps)

give_at_bears : (l : LocusState) (c : ContainerState) (d : ℕ) (cap : Cap) (slot : Option ℕ) → (give_at l c d cap slot).newborn ≡ None
give_at_bears l c d cap None = refl
give_at_bears l c d cap (Some slot) = refl

pub give_bears : (l : LocusState) (c : ContainerState) (d : ℕ) (cap : Cap) → (give l c d cap).newborn ≡ None
unfolding give
give_bears l c d cap = give_at_bears l c d cap (free_slot c.caps)

-- ONE ACT BESIDE A CONTAINER, by its instruction and what the code reads

module _ (s : Supply) (l : LocusState) (x : ℕ) (c : ContainerState) (i : Instr) where
  pub on_load : (d a v address : ℕ) → i ≡ Load d a → v ≡ reg l a → address ≡ look_address l v → on_cell s l no_atlas x i (ContainerCell c) ≡ load l c d address
  unfolding on_cell
  on_load d a v address is here at = ap (λ i. on_cell s l no_atlas x i (ContainerCell c)) is ∙ ap (load l c d) (sym (at ∙ ap (look_address l) here))

  pub on_store : (a r v address word : ℕ) → i ≡ Store a r → v ≡ reg l a → address ≡ look_address l v → word ≡ reg l r → on_cell s l no_atlas x i (ContainerCell c) ≡ store l c address word
  unfolding on_cell
  on_store a r v address word is here at stored =
      ap (λ i. on_cell s l no_atlas x i (ContainerCell c)) is ∙ ap (λ n. store l c n (reg l r)) (sym (at ∙ ap (look_address l) here)) ∙ ap (store l c address) (sym stored)

  pub on_invoke : (k : ℕ) → i ≡ Invoke k → on_cell s l no_atlas x i (ContainerCell c) ≡ invoke l x c
  unfolding on_cell
  on_invoke k is = ap (λ i. on_cell s l no_atlas x i (ContainerCell c)) is

  pub on_leave : (k : ℕ) → i ≡ Leave k → on_cell s l no_atlas x i (ContainerCell c) ≡ leave l x c
  unfolding on_cell
  on_leave k is = ap (λ i. on_cell s l no_atlas x i (ContainerCell c)) is

  pub on_return : i ≡ Return → on_cell s l no_atlas x i (ContainerCell c) ≡ back l c
  unfolding on_cell
  on_return is = ap (λ i. on_cell s l no_atlas x i (ContainerCell c)) is

  pub on_take : (d k y slot : ℕ) → i ≡ Take d k y → slot ≡ reg l y → on_cell s l no_atlas x i (ContainerCell c) ≡ take_cap l c d slot
  unfolding on_cell
  on_take d k y slot is here = ap (λ i. on_cell s l no_atlas x i (ContainerCell c)) is ∙ ap (take_cap l c d) (sym here)

  pub on_give : (d k r : ℕ) (rights : Rights) (cap : Cap) → i ≡ Give d k r rights → cap ≡ given_cap l r rights.0 → on_cell s l no_atlas x i (ContainerCell c) ≡ give l c d cap
  unfolding on_cell
  on_give d k r rights cap is here = ap (λ i. on_cell s l no_atlas x i (ContainerCell c)) is ∙ ap (give l c d) (sym here)

  pub on_snap : (k : ℕ) → i ≡ Snap k → on_cell s l no_atlas x i (ContainerCell c) ≡ with_other l OkReply (ContainerCell c)
  unfolding on_cell
  on_snap k is = ap (λ i. on_cell s l no_atlas x i (ContainerCell c)) is

  no_atlas_acts : false ≡ true → ⊥
  no_atlas_acts e = cc

  pub on_other : ((d a : ℕ) → i ≡ Load d a → ⊥) → ((a r : ℕ) → i ≡ Store a r → ⊥) → ((k : ℕ) → i ≡ Invoke k → ⊥) → ((k : ℕ) → i ≡ Leave k → ⊥) → (i ≡ Return → ⊥)
      → ((d k y : ℕ) → i ≡ Take d k y → ⊥) → ((d k r : ℕ) (rights : Rights) → i ≡ Give d k r rights → ⊥) → ((k : ℕ) → i ≡ Snap k → ⊥) → IsTrue (leaves_atlas i)
      → on_cell s l no_atlas x i (ContainerCell c) ≡ with_other l WrongKind (ContainerCell c)
  unfolding on_cell
  on_other not_load not_store not_invoke not_leave not_return not_take not_give not_snap atlas =
      elim i as (λ j. i ≡ j → IsTrue (leaves_atlas j) → on_cell s l no_atlas x j (ContainerCell c) ≡ with_other l WrongKind (ContainerCell c)) [
        | Set d n ↦ λ _ _. refl
        | Copy d r ↦ λ _ _. refl
        | Add d r ↦ λ _ _. refl
        | Sub d r ↦ λ _ _. refl
        | Jump p ↦ λ _ _. refl
        | Jz r p ↦ λ _ _. refl
        | Load d a ↦ λ is _. absurd (not_load d a is)
        | Store a r ↦ λ is _. absurd (not_store a r is)
        | Invoke k ↦ λ is _. absurd (not_invoke k is)
        | Leave k ↦ λ is _. absurd (not_leave k is)
        | Return ↦ λ is _. absurd (not_return is)
        | Map d a k b n rights ↦ λ _ no. absurd (no_atlas_acts no)
        | Unmap d a ↦ λ _ no. absurd (no_atlas_acts no)
        | Lmap a k b n rights ↦ λ _ _. refl
        | Lunmap a ↦ λ _ _. refl
        | Take d k y ↦ λ is _. absurd (not_take d k y is)
        | Give d k r rights ↦ λ is _. absurd (not_give d k r rights is)
        | Drop r ↦ λ _ _. refl
        | Make d n t e ↦ λ _ _. refl
        | Spawn d p ↦ λ _ _. refl
        | Stop k ↦ λ _ _. refl
        | Go k ↦ λ _ _. refl
        | Snap k ↦ λ is _. absurd (not_snap k is)
        | Stabilise k ↦ λ _ _. refl
        | Print r ↦ λ _ _. refl
        | Halt ↦ λ _ _. refl
      ] refl atlas
