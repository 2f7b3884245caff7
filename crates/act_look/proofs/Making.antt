-- The outcome of a wanted load or store is that of its look.
use Rattle.std.proofs.Common.{◌≡◌, ℕ, true, false, refl, sym, ap, ◌∙◌}
use Rattle.base_types.specs.declared.instructions.Instr.{Instr}
use Rattle.base_types.specs.declared.instructions.Instr.TheVariants.{Load, Store}
use Rattle.act_invoke.specs.model_kernel.State.{Supply, AtlasState, ContainerState, LocusState, ContainerCell}
use Rattle.act_invoke.specs.model_kernel.Acts.{wanted}
use Rattle.act_invoke.specs.model_kernel.Outcomes.{load, look_address, looked, on_cell, outcome, store}
use Rattle.act_invoke.specs.model_kernel.Refusals.{instr_at, reg}
use Rattle.act_invoke.specs.model_acts.Views.{may_name_itself}
use Rattle.act_invoke.specs.Entries.{WantsBeside}
use Rattle.act_invoke.proofs.Entered.{instr_is, made_by}
use Rattle.act_look.specs.declared.aim.Access.TheVariants.{Load as Reads, Store as Writes}
use Rattle.act_look.specs.Looks.{done_by, is_look}

pub look_apart : (i : Instr) → is_look i ≡ true → may_name_itself i ≡ false
look_apart (Load d a) h = refl
look_apart (Store a v) h = refl
look_apart i h = cc

on_load : (s : Supply) (l : LocusState) (a : AtlasState) (x d r : ℕ) (c : ContainerState) → on_cell s l a x (Load d r) (ContainerCell c) ≡ looked l c (look_address l (reg l r)) 1 (done_by l c (look_address l (reg l r)) (Reads d))
unfolding on_cell load
on_load s l a x d r c = refl

on_store : (s : Supply) (l : LocusState) (a : AtlasState) (x r v : ℕ) (c : ContainerState) → on_cell s l a x (Store r v) (ContainerCell c) ≡ looked l c (look_address l (reg l r)) 2 (done_by l c (look_address l (reg l r)) (Writes (reg l v)))
unfolding on_cell store
on_store s l a x r v c = refl

pub load_made : (l : LocusState) (x d r address : ℕ) → WantsBeside is_look l x → instr_at l ≡ Load d r → address ≡ look_address l (reg l r) → (me : ℕ) (s : Supply) (a : AtlasState) (c : ContainerState)
    → outcome s l (wanted me l) a (ContainerCell c) ≡ looked l c address 1 (done_by l c address (Reads d))
load_made l x d r address h is at me s a c =
    made_by is_look l x h (look_apart (instr_at l)) me s a (ContainerCell c) ∙ ap (λ i. on_cell s l a x i (ContainerCell c)) is ∙ on_load s l a x d r c
    ∙ ap (λ k. looked l c k 1 (done_by l c k (Reads d))) (sym at)

pub store_made : (l : LocusState) (x r v address word : ℕ) → WantsBeside is_look l x → instr_at l ≡ Store r v → address ≡ look_address l (reg l r) → word ≡ reg l v → (me : ℕ) (s : Supply) (a : AtlasState) (c : ContainerState)
    → outcome s l (wanted me l) a (ContainerCell c) ≡ looked l c address 2 (done_by l c address (Writes word))
store_made l x r v address word h is at value me s a c =
    made_by is_look l x h (look_apart (instr_at l)) me s a (ContainerCell c) ∙ ap (λ i. on_cell s l a x i (ContainerCell c)) is ∙ on_store s l a x r v c
    ∙ ap (λ k. looked l c k 2 (done_by l c k (Writes (reg l v)))) (sym at)
    ∙ ap (λ w. looked l c address 2 (done_by l c address (Writes w))) (sym value)

-- no other instruction is wanted
none_else : (i : Instr) → is_look i ≡ true → ((d a : ℕ) → i ≡ Load d a → ⊥) → ((a v : ℕ) → i ≡ Store a v → ⊥) → ⊥
none_else (Load d a) h no_load no_store = no_load d a refl
none_else (Store a v) h no_load no_store = no_store a v refl
none_else i h no_load no_store = cc

pub only_looks : (l : LocusState) (x : ℕ) (i : Instr) → WantsBeside is_look l x → i ≡ instr_at l → ((d a : ℕ) → i ≡ Load d a → ⊥) → ((a v : ℕ) → i ≡ Store a v → ⊥) → ⊥
only_looks l x i h is no_load no_store = none_else i (ap is_look is ∙ instr_is is_look l x h) no_load no_store
