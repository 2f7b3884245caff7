-- What a locus and the head of a container are in the model.
use Rattle.std.specs.Prelude.{◌≡◌, ℕ, Bool, true, false}
use Rattle.base_types.specs.declared.instructions.Instr.{Instr}
use Rattle.base_types.specs.declared.instructions.Instr.TheVariants.{Set, Copy, Add, Sub, Jump, Jz, Print, Halt}
use Rattle.base_types.specs.Instructions.{IsInstruction}
use Rattle.model_kernel.specs.Acts.{wanted}
use Rattle.model_kernel.specs.Refusals.{instr_at}
use Rattle.model_kernel.specs.State.{ContainerState, LocusState}
use Rattle.model_acts.specs.Views.{act_of, seen_by}
use Rattle.model_acts.specs.declared.choice.Act.{Act}
use Rattle.model_act_facts.specs.Loci.{IsAlone}
use Rattle.act_alone.specs.declared.loci.Locus.{Locus}
use Rattle.act_alone.specs.declared.loci.Head.{Head}

abbrev pub locus_of : Locus → LocusState
locus_of l = record {
  registers = l.registers;
  place = l.place;
  code = l.code;
  host = l.host;
  chain = l.chain;
  privates = l.privates;
  caps = l.caps;
  walk = l.walk;
  condition = l.condition;
  every = l.every;
  printed = l.printed;
}

-- the container of a head and these words
abbrev pub container_with : (ℕ → ℕ) → Head → ContainerState
container_with words h = record {
  pages = h.pages;
  tag = h.tag;
  every = h.every;
  entry = h.entry;
  code = h.code;
  regions = h.regions;
  caps = h.caps;
  words = words;
}

-- this is the act that the locus wants, whichever number it has
pub record WantsAct (l : LocusState) (act : Act) : Type 0 where
  pub is : act_of act ≡ wanted 64 l
  pub instr : act.instr ≡ instr_at l
  pub seen : (me : ℕ) → wanted me l ≡ seen_by me (act_of act)
  pub instruction : IsInstruction act.instr

-- the instruction tells by itself what is wanted: the locus alone is touched, and nothing refuses it
abbrev pub is_plain : Instr → Bool
is_plain (Set d n) = true
is_plain (Copy d s) = true
is_plain (Add d s) = true
is_plain (Sub d s) = true
is_plain (Jump p) = true
is_plain (Jz s p) = true
is_plain (Print s) = true
is_plain Halt = true
is_plain i = false

-- the locus wants this act, which touches it alone, whichever number it has
pub record WantsPlainly (l : LocusState) (act : Act) : Type 0 where
  pub wants : WantsAct l act
  pub alone : (me : ℕ) → IsAlone (wanted me l)
