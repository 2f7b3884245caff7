-- Which looks write the container.
use Rattle.std.proofs.Common.{◌≡◌, ℕ, ◌/◌, Bool, true, false, nat_lt, if◌then◌else◌, Option, Some, None, is_some, find, refl, sym, ap, ◌∙◌}
use Rattle.base_types.specs.Rights.{missing_right}
use Rattle.base_types.specs.declared.capabilities.Region.{Region}
use Rattle.base_types.specs.declared.capabilities.Right.{Right}
use Rattle.base_types.specs.declared.instructions.Instr.{Instr}
use Rattle.base_types.specs.declared.instructions.Instr.TheVariants.{Load, Store}
use Rattle.base_types.specs.declared.instructions.Reply.TheVariants.{Denied}
use Rattle.cell_states.specs.model_kernel.Acts.{wanted}
use Rattle.cell_states.specs.model_kernel.Outcomes.{Outcome, hop_to, load, look_hops, looked, looked_by, on_cell, outcome, own_reply, store, through}
use Rattle.cell_states.specs.model_kernel.Refusals.{instr_at}
use Rattle.cell_states.specs.model_kernel.State.{Supply, AtlasState, ContainerState, LocusState, Cell, ContainerCell}
use Rattle.cell_states.specs.model_kernel.Words.{covers}
use Rattle.std.proofs.Common.{option_map}
use Rattle.base_types.specs.declared.instructions.Reply.TheVariants as replies
use Rattle.act_look.specs.act_invoke.Entries.{WantsBeside}
use Rattle.act_look.proofs.act_invoke_lemmas.Entered.{instr_is, made_by}
use Rattle.act_look.specs.Looks.{is_look}
use Rattle.cell_looks.specs.Looking.{is_stored}
use Rattle.act_look.proofs.Making.{look_apart}

-- the outcome writes the other entity exactly where it is answered as a store is
abbrev pub TellsStores : Outcome → Type 0
TellsStores o = is_some o.other ≡ is_stored o.answer

hop_tells : (l : LocusState) (r : Region) (address : ℕ) (b : Bool) → TellsStores (if b then hop_to l r address else own_reply l replies.Deep)
hop_tells l r address true = refl
hop_tells l r address false = refl

through_tells : (l : LocusState) (r : Region) (address : ℕ) (o : Option Right) → TellsStores (through l r address (option_map Denied o))
through_tells l r address (Some bit) = refl
through_tells l r address None = hop_tells l r address (nat_lt (look_hops l) 63)

region_tells : (l : LocusState) (address needed : ℕ) (done : Outcome) (o : Option Region) → TellsStores done → TellsStores (looked_by l address needed done o)
region_tells l address needed done (Some r) h = through_tells l r address (missing_right r.rights.0 needed)
region_tells l address needed done None h = h

looked_tells : (l : LocusState) (c : ContainerState) (address needed : ℕ) (done : Outcome) → TellsStores done → TellsStores (looked l c address needed done)
looked_tells l c address needed done h =
    elim (nat_lt (address / 128) c.pages) as (λ b. TellsStores (if b then looked_by l address needed done (find (λ r. covers r (address / 128)) c.regions) else own_reply l replies.NoPage)) [
      | true ↦ region_tells l address needed done (find (λ r. covers r (address / 128)) c.regions) h
      | false ↦ refl
    ]

on_cell_tells : (s : Supply) (l : LocusState) (a : AtlasState) (x : ℕ) (i : Instr) (c : ContainerState) → is_look i ≡ true → TellsStores (on_cell s l a x i (ContainerCell c))
unfolding on_cell load store
on_cell_tells s l a x (Load d r) c h = looked_tells l c _ 1 _ refl
on_cell_tells s l a x (Store r v) c h = looked_tells l c _ 2 _ refl
on_cell_tells s l a x i c h = cc

-- of a look that is wanted
pub look_tells : (s : Supply) (l : LocusState) (a : AtlasState) (x me : ℕ) (c : ContainerState) → WantsBeside is_look l x → TellsStores (outcome s l (wanted me l) a (ContainerCell c))
look_tells s l a x me c h =
    let same = made_by is_look l x h (look_apart (instr_at l)) me s a (ContainerCell c) in
    ap (λ (o : Outcome). is_some o.other) same ∙ on_cell_tells s l a x (instr_at l) c (instr_is is_look l x h) ∙ ap (λ (o : Outcome). is_stored o.answer) (sym same)

-- it touches the container and not the atlas
pub record Touches (me : ℕ) (l : LocusState) (x : ℕ) : Type 0 where
  pub atlas : (wanted me l).atlas ≡ false
  pub other : (wanted me l).other ≡ Some x

-- a container that is written, or only read
pub stored_case : (P : Option Cell → Type 0) (k : Option Cell) → is_some k ≡ true → ((c : Cell) → P (Some c)) → P k
stored_case P (Some c) is h = h c
stored_case P None is h = cc

pub read_case : (P : Option Cell → Type 0) (k : Option Cell) → is_some k ≡ false → P None → P k
read_case P None is h = h
read_case P (Some c) is h = cc
