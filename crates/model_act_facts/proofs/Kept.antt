-- A locus stays ready.
use Rattle.std.proofs.Common.{◌≡◌, ℕ, ◌+◌, ◌<◌, ◌≤◌, ◌==◌, ◌&&◌, not, nat_lt, nat_le, Bool, true, false, if◌then◌else◌, None, arith}
use Rattle.std.proofs.lemmas.Bool.Decides.{nat_tests}
use Rattle.std.proofs.lemmas.List.Elements.{All-filter}
use Rattle.model_acts.specs.base_types.Instructions.{IsInstruction}
use Rattle.model_acts.specs.base_types.declared.capabilities.Private.{Private}
use Rattle.model_acts.specs.base_types.declared.instructions.Instr.{Instr}
use Rattle.model_acts.specs.base_types.declared.instructions.Instr.TheVariants.{Set, Copy, Add, Sub, Jump, Jz, Lmap, Lunmap, Drop, Stabilise, Print, Halt}
use Rattle.model_acts.specs.base_types.declared.instructions.Reply.{Reply}
use Rattle.model_acts.specs.base_types.declared.instructions.Reply.TheVariants.{NoPage, Ok}
use Rattle.model_sound_steps.specs.model_kernel.State.{LocusState}
use Rattle.model_sound_steps.specs.model_kernel.Outcomes.{local_act, finish, next, with_private, without_private}
use Rattle.model_sound_steps.specs.model_kernel.Refusals.{reg, refusal, no_page, new_region}
use Rattle.model_sound_steps.proofs.model_kernel_lemmas.Lists.{all_private}
use Rattle.model_acts.specs.Views.{IsReadyLocus, IsInside}
use Rattle.model_acts.proofs.Allowed.{unless_none}
use Rattle.model_act_facts.specs.Loci.{touches_alone}
use Rattle.model_act_facts.proofs.Allowed.{lmap_allowed}

inside_new : (l : LocusState) (a b n : ℕ) → no_page l a b n ≡ None → (reg l a + reg l n ≤ 256) × (reg l b + reg l n ≤ 256)
inside_new l a b n none = let passed = unless_none (nat_lt 0 (reg l n) && nat_le (reg l a + reg l n) 256 && nat_le (reg l b + reg l n) 256) NoPage none in (grind (arith, nat_tests), grind (arith, nat_tests))

pub ready_finish : (l : LocusState) (reply : Reply) → IsReadyLocus l → l.place < 128 → IsReadyLocus (finish l reply)
ready_finish l reply h lt = record { place = omega arith; code = h.code; privates = h.privates; hops = λ w is. cc }

ready_next : (l : LocusState) → IsReadyLocus l → l.place < 128 → IsReadyLocus (next l)
ready_next l h lt = record { place = omega arith; code = h.code; privates = h.privates; hops = h.hops }

abbrev own_private : Private → Type 0
own_private p = IsInside p.region

pub ready_act : (l : LocusState) (i : Instr) → IsReadyLocus l → IsInstruction i → touches_alone i ≡ true → ((i ≡ Halt → ⊥) → l.place < 128) → refusal l i ≡ None → IsReadyLocus (local_act l i).locus
unfolding local_act
ready_act l (Set d n) h ok touches lt none = let here : l.place < 128 = lt (λ e. cc) in record { place = omega arith; code = h.code; privates = h.privates; hops = h.hops }
ready_act l (Copy d s) h ok touches lt none = let here : l.place < 128 = lt (λ e. cc) in record { place = omega arith; code = h.code; privates = h.privates; hops = h.hops }
ready_act l (Add d s) h ok touches lt none = let here : l.place < 128 = lt (λ e. cc) in record { place = omega arith; code = h.code; privates = h.privates; hops = h.hops }
ready_act l (Sub d s) h ok touches lt none = let here : l.place < 128 = lt (λ e. cc) in record { place = omega arith; code = h.code; privates = h.privates; hops = h.hops }
ready_act l (Jump p) h ok touches lt none = record { place = omega (arith, ok); code = h.code; privates = h.privates; hops = h.hops }
ready_act l (Jz s p) h ok touches lt none = by (reg l s == 0)
  where
    by : (b : Bool) → IsReadyLocus (if b then record l { place = p } else next l)
    by true = record { place = omega (arith, ok.1); code = h.code; privates = h.privates; hops = h.hops }
    by false = ready_next l h (lt (λ e. cc))
ready_act l (Lmap a c b n rights) h ok touches lt none =
    let made : Private = record { made = l.host; region = new_region l a c b n rights } in
    let here : l.place < 128 = lt (λ e. cc) in
    ready_finish (with_private l (new_region l a c b n rights)) Ok
    (record { place = h.place; code = h.code; privates = all_private own_private made l.privates (inside_new l a b n (lmap_allowed l a c b n rights none).pages) h.privates; hops = h.hops }) here
ready_act l (Lunmap a) h ok touches lt none =
    let here : l.place < 128 = lt (λ e. cc) in
    ready_finish (without_private l (reg l a)) Ok
    (record { place = h.place; code = h.code; privates = All-filter (λ (p : Private). not (p.made == l.host && p.region.at == reg l a)) own_private l.privates h.privates; hops = h.hops }) here
ready_act l (Drop s) h ok touches lt none = let here : l.place < 128 = lt (λ e. cc) in record { place = omega arith; code = h.code; privates = h.privates; hops = λ w is. cc }
ready_act l (Stabilise c) h ok touches lt none = let here : l.place < 128 = lt (λ e. cc) in record { place = omega arith; code = h.code; privates = h.privates; hops = λ w is. cc }
ready_act l (Print s) h ok touches lt none = let here : l.place < 128 = lt (λ e. cc) in record { place = omega arith; code = h.code; privates = h.privates; hops = h.hops }
ready_act l Halt h ok touches lt none = record { place = h.place; code = h.code; privates = h.privates; hops = h.hops }
ready_act l i h ok touches lt none = cc
