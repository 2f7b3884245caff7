-- The acts that touch the locus alone leave a sound locus.
use Rattle.std.proofs.Common.{◌≡◌, ℕ, ◌+◌, ◌<◌, true, false, not, ◌&&◌, if◌then◌else◌, ◌==◌, nat_lt, nat_le, IsTrue, length, slice_set, Option, Some, None, unwrap_or, refl, ap, subst, arith}
use Rattle.std.proofs.lemmas.Bool.Decides.{nat_tests}
use Rattle.model_kernel.specs.base_types.Instructions.{IsAccess, IsInstruction}
use Rattle.model_kernel.specs.base_types.declared.capabilities.Cap.{Cap}
use Rattle.model_kernel.specs.base_types.declared.capabilities.Rights.{Rights}
use Rattle.model_kernel.specs.base_types.declared.instructions.Condition.TheVariants.{Stopped, Halted}
use Rattle.model_kernel.specs.base_types.declared.instructions.Instr.{Instr}
use Rattle.model_kernel.specs.base_types.declared.instructions.Instr.TheVariants.{Set, Copy, Add, Sub, Jump, Jz, Lmap, Lunmap, Drop, Stop, Go, Snap, Stabilise, Print}
use Rattle.model_kernel.specs.base_types.declared.instructions.Reply.TheVariants.{Ok}
use Rattle.model_kernel.specs.State.{AtlasState, LocusState}
use Rattle.model_kernel.specs.Outcomes.{local_act, next, one_more_printed, set_reg, with_private, without_private}
use Rattle.model_kernel.specs.Refusals.{entity_of, instr_at, lacks, named, new_region, no_cap, no_container, no_page, no_slot, overlaps_private, refusal, reg}
use Rattle.model_kernel.specs.Soundness.{IsSoundLocus, IsSoundRegion, is_born, is_born_container, looks}
use Rattle.model_kernel.specs.Words.{is_container, unless}
use Rattle.model_kernel.proofs.Basics.{and_left, and_right}
use Rattle.model_sound_steps.proofs.Cells.{container_born}
use Rattle.model_sound_steps.proofs.Lists.{cap_born, caps_put, first_passes, none_named, test_passes}
use Rattle.model_sound_steps.proofs.LocusEdits.{caps_sound, condition_sound, finish_sound, inside, instruction, place_sound, printed_sound, register_sound, with_private_sound, without_private_sound}
use Rattle.std.proofs.lemmas.Bool.{not-true}

module _ (a : AtlasState) (l : LocusState) (h : IsSoundLocus a l) where
  -- what a register's capability names is born; where there is none, the atlas is
  pub entity_born : (r : ℕ) → IsTrue (is_born a (entity_of l r))
  entity_born r = by_cap (named l r) refl
    where
      by_cap : (o : Option Cap) → named l r ≡ o → IsTrue (is_born a (unwrap_or o no_cap).entity)
      by_cap (Some cap) is = cap_born a l.caps (reg l r) cap h.caps is
      by_cap None is = refl

  pub container_named : (r : ℕ) → no_container l r ≡ None → IsTrue (is_born_container a (entity_of l r))
  container_named r passes = container_born a (entity_of l r) (entity_born r) (test_passes (is_container (entity_of l r)) _ passes)

  -- the region that a mapping would make
  pub region_sound : (d c b n : ℕ) (rights : Rights) → no_container l c ≡ None → no_page l d b n ≡ None → IsAccess rights.0 → IsSoundRegion a (new_region l d c b n rights)
  region_sound d c b n rights container page access =
      let t = test_passes (nat_lt 0 (reg l n) && nat_le (reg l d + reg l n) 256 && nat_le (reg l b + reg l n) 256) _ page in
      let one : nat_lt 0 (reg l n) && nat_le (reg l d + reg l n) 256 ≡ true = and_left (nat_lt 0 (reg l n) && nat_le (reg l d + reg l n) 256) _ t in
      let some : nat_lt 0 (reg l n) ≡ true = and_left (nat_lt 0 (reg l n)) _ one in
      let here : nat_le (reg l d + reg l n) 256 ≡ true = and_right (nat_lt 0 (reg l n)) _ one in
      let there : nat_le (reg l b + reg l n) 256 ≡ true = and_right (nat_lt 0 (reg l n) && nat_le (reg l d + reg l n) 256) _ t in
      record {
        some = grind (arith, nat_tests);
        at = grind (arith, nat_tests);
        from = grind (arith, nat_tests);
        access = access;
        target = container_named c container;
      }

  -- the locus alone goes on
  next_sound : (m : LocusState) → IsSoundLocus a m → m.place < 128 → looks (instr_at m) ≡ false → IsSoundLocus a (next m)
  next_sound m k lt blind = place_sound a m k (m.place + 1) (omega arith) blind

  set_next : (d v : ℕ) → l.place < 128 → looks (instr_at l) ≡ false → IsSoundLocus a (next (set_reg l d v))
  set_next d v lt blind = next_sound (set_reg l d v) (register_sound a l h d v) lt blind

  -- what an act on the locus alone makes of it
  pub own_sound : (i : Instr) → instr_at l ≡ i → refusal l i ≡ None → IsSoundLocus a (local_act l i).locus
  unfolding local_act refusal
  own_sound (Set d n) is passes = set_next d n (inside a l h (Set d n) is (λ e. cc)) (ap looks is)
  own_sound (Copy d s) is passes = set_next d (reg l s) (inside a l h (Copy d s) is (λ e. cc)) (ap looks is)
  own_sound (Add d s) is passes = set_next d _ (inside a l h (Add d s) is (λ e. cc)) (ap looks is)
  own_sound (Sub d s) is passes = set_next d _ (inside a l h (Sub d s) is (λ e. cc)) (ap looks is)
  own_sound (Jump p) is passes =
      let range : p < 128 = subst IsInstruction is (instruction a l h) in
      place_sound a l h p (omega arith) (ap looks is)
  own_sound (Jz s p) is passes =
      let range = subst IsInstruction is (instruction a l h) in
      let low : p < 128 = range.1 in
      elim (reg l s == 0) as (λ b. IsSoundLocus a (if◌then◌else◌ {A = LocusState} b (record l { place = p }) (next l))) [
        | true ↦ place_sound a l h p (omega arith) (ap looks is)
        | false ↦ next_sound l h (inside a l h (Jz s p) is (λ e. cc)) (ap looks is)
      ]
  own_sound (Lmap d c b n rights) is passes =
      let slot = first_passes (no_slot l c) _ passes in
      let container = first_passes (no_container l c) _ slot.1 in
      let held = first_passes (lacks l c rights.0) _ container.1 in
      let page = first_passes (no_page l d b n) _ held.1 in
      let clear = first_passes (unless (not (overlaps_private l (new_region l d c b n rights))) _) _ page.1 in
      let few = first_passes (unless (nat_lt (length l.privates) 16) _) _ clear.1 in
      let apart : overlaps_private l (new_region l d c b n rights) ≡ false = not-true _ (test_passes _ _ clear.0) in
      let lt : nat_lt (length l.privates) 16 ≡ true = test_passes _ _ few.0 in
      let range = subst IsInstruction is (instruction a l h) in
      let region = region_sound d c b n rights container.0 page.0 range.4 in
      let low : length l.privates < 16 = grind (arith, nat_tests) in
      finish_sound a (with_private l (new_region l d c b n rights)) (with_private_sound a l h (new_region l d c b n rights) region apart low) Ok (inside a l h (Lmap d c b n rights) is (λ e. cc))
  own_sound (Lunmap d) is passes = finish_sound a (without_private l (reg l d)) (without_private_sound a l h (reg l d)) Ok (inside a l h (Lunmap d) is (λ e. cc))
  own_sound (Drop s) is passes =
      finish_sound a (record l { caps = slice_set l.caps (reg l s) None }) (caps_sound a l h (slice_set l.caps (reg l s) None) (caps_put a l.caps (reg l s) None h.caps (none_named a))) Ok (inside a l h (Drop s) is (λ e. cc))
  own_sound (Stop c) is passes = finish_sound a (record l { condition = Stopped }) (condition_sound a l h Stopped) Ok (inside a l h (Stop c) is (λ e. cc))
  own_sound (Go c) is passes = finish_sound a l h Ok (inside a l h (Go c) is (λ e. cc))
  own_sound (Snap c) is passes = finish_sound a l h Ok (inside a l h (Snap c) is (λ e. cc))
  own_sound (Stabilise c) is passes = finish_sound a l h Ok (inside a l h (Stabilise c) is (λ e. cc))
  own_sound (Print r) is passes = next_sound (one_more_printed l) (printed_sound a l h) (inside a l h (Print r) is (λ e. cc)) (ap looks is)
  own_sound i is passes = condition_sound a l h Halted
