-- What an act makes of its locus is sound.
use Rattle.std.proofs.Common.{◌≡◌, ℕ, ◌+◌, ◌<◌, ◌≤◌, ◌^◌, Bool, true, false, not, ◌&&◌, if◌then◌else◌, ◌==◌, nat_lt, IsTrue, List, [], ◌∷◌, ◌++◌, length, filter, Option, Some, None, slice_get, unwrap_or, refl, sym, ap, subst, ◌∙◌, arith}
use Rattle.std.specs.List.{All}
use Rattle.std.proofs.lemmas.Bool.Decides.{nat_tests}
use Rattle.std.proofs.lemmas.List.{length-append, length-set}
use Rattle.std.proofs.lemmas.List.Elements.{All-append, All-cons, All-filter, All-nil, All-weaker}
use Rattle.std.proofs.lemmas.Option.{get_or_from_slice_get, none-some, slice_get_within}
use Rattle.model_kernel.specs.base_types.Instructions.{IsInstruction}
use Rattle.model_kernel.specs.base_types.declared.capabilities.Cap.{Cap}
use Rattle.model_kernel.specs.base_types.declared.capabilities.Private.{Private}
use Rattle.model_kernel.specs.base_types.declared.capabilities.Region.{Region}
use Rattle.model_kernel.specs.base_types.declared.instructions.Call.{Call}
use Rattle.model_kernel.specs.base_types.declared.instructions.Condition.{Condition}
use Rattle.model_kernel.specs.base_types.declared.instructions.Instr.{Instr}
use Rattle.model_kernel.specs.base_types.declared.instructions.Instr.TheVariants.{Halt}
use Rattle.model_kernel.specs.base_types.declared.instructions.Reply.{Reply}
use Rattle.model_kernel.specs.base_types.declared.instructions.Walk.{Walk}
use Rattle.model_kernel.specs.State.{AtlasState, ContainerState, LocusState}
use Rattle.model_kernel.specs.Outcomes.{enter, finish, hop_to, holding, insert_private, look_hops, one_more_printed, set_reg, spawned, with_private, without_private}
use Rattle.model_kernel.specs.Refusals.{instr_at, overlaps_private}
use Rattle.model_kernel.specs.Soundness.{AreOrdered, AreSoundCaps, IsSoundCall, IsSoundCode, IsSoundLocus, IsSoundPrivate, IsSoundRegion, IsSoundWalk, is_born, is_born_container, looks}
use Rattle.model_kernel.proofs.Lists.{all_private}
use Rattle.model_sound_steps.proofs.Lists.{caps_put, fewer_kept, length_private, one_named, ordered_kept, ordered_private}

module _ (a : AtlasState) (l : LocusState) (h : IsSoundLocus a l) where
  -- the locus's instruction keeps the ranges of operands
  pub instruction : IsInstruction (instr_at l)
  instruction = by_get (slice_get l.code l.place) refl
    where
      by_get : (o : Option Instr) → slice_get l.code l.place ≡ o → IsInstruction (unwrap_or o Halt)
      by_get (Some i) at = subst IsInstruction (get_or_from_slice_get l.code l.place i Halt at) (h.code.each l.place Halt (slice_get_within l.code l.place i at))
      by_get None at = tt

  -- an instruction that isn't the end stands in the code
  pub inside : (i : Instr) → instr_at l ≡ i → (i ≡ Halt → ⊥) → l.place < 128
  inside i is apart = by_get (slice_get l.code l.place) refl
    where
      by_get : (o : Option Instr) → slice_get l.code l.place ≡ o → l.place < 128
      by_get (Some j) at = let lt : l.place < length l.code = slice_get_within l.code l.place j at in let few = h.code.few in omega arith
      by_get None at = absurd (apart (sym is ∙ ap (λ o. unwrap_or o Halt) at))

  -- the reply, the next place and no walk
  pub finish_sound : (r : Reply) → l.place < 128 → IsSoundLocus a (finish l r)
  finish_sound r lt = record {
    registers = length-set l.registers 7 _ ∙ h.registers;
    place = omega arith;
    code = h.code;
    host = h.host;
    deep = h.deep;
    chain = h.chain;
    few = h.few;
    privates = h.privates;
    ordered = h.ordered;
    caps = h.caps;
    walk = λ w is. absurd (none-some w is);
    printed = h.printed;
  }

  pub register_sound : (d v : ℕ) → IsSoundLocus a (set_reg l d v)
  register_sound d v = record {
    registers = length-set l.registers d v ∙ h.registers;
    place = h.place;
    code = h.code;
    host = h.host;
    deep = h.deep;
    chain = h.chain;
    few = h.few;
    privates = h.privates;
    ordered = h.ordered;
    caps = h.caps;
    walk = λ w is. record { at = (h.walk w is).at; some = (h.walk w is).some; hops = (h.walk w is).hops; looking = (h.walk w is).looking };
    printed = h.printed;
  }

  -- a locus whose instruction doesn't look has no walk, and may go on at any place
  pub place_sound : (p : ℕ) → p ≤ 128 → looks (instr_at l) ≡ false → IsSoundLocus a (record l { place = p })
  place_sound p le blind = record {
    registers = h.registers;
    place = le;
    code = h.code;
    host = h.host;
    deep = h.deep;
    chain = h.chain;
    few = h.few;
    privates = h.privates;
    ordered = h.ordered;
    caps = h.caps;
    walk = λ w is. absurd (never (sym (h.walk w is).looking ∙ blind));
    printed = h.printed;
  }
    where
      never : true ≡ false → ⊥
      never e = cc

  pub condition_sound : (k : Condition) → IsSoundLocus a (record l { condition = k })
  condition_sound k = record {
    registers = h.registers;
    place = h.place;
    code = h.code;
    host = h.host;
    deep = h.deep;
    chain = h.chain;
    few = h.few;
    privates = h.privates;
    ordered = h.ordered;
    caps = h.caps;
    walk = λ w is. record { at = (h.walk w is).at; some = (h.walk w is).some; hops = (h.walk w is).hops; looking = (h.walk w is).looking };
    printed = h.printed;
  }

  pub printed_sound : IsSoundLocus a (one_more_printed l)
  printed_sound = record {
    registers = h.registers;
    place = h.place;
    code = h.code;
    host = h.host;
    deep = h.deep;
    chain = h.chain;
    few = h.few;
    privates = h.privates;
    ordered = h.ordered;
    caps = h.caps;
    walk = λ w is. record { at = (h.walk w is).at; some = (h.walk w is).some; hops = (h.walk w is).hops; looking = (h.walk w is).looking };
    printed = counted l.printed h.printed;
  }
    where
      counted : (n : ℕ) → n ≤ 2 ^ 62 → (if nat_lt n (2 ^ 62) then n + 1 else n) ≤ 2 ^ 62
      counted n le = grind (arith, nat_tests)

  pub hop_sound : (r : Region) (address : ℕ) → IsSoundRegion a r → look_hops l < 63 → looks (instr_at l) ≡ true → IsSoundLocus a (hop_to l r address).locus
  hop_sound r address region few looking = record {
    registers = h.registers;
    place = h.place;
    code = h.code;
    host = h.host;
    deep = h.deep;
    chain = h.chain;
    few = h.few;
    privates = h.privates;
    ordered = h.ordered;
    caps = h.caps;
    walk = λ w is. subst (IsSoundWalk a (hop_to l r address).locus) (some_is _ w is) (record { at = region.target; some = omega arith; hops = omega arith; looking = looking });
    printed = h.printed;
  }
    where
      some_is : (v w : Walk) → Some v ≡ Some w → v ≡ w
      some_is v w e = cc

  -- CAPABILITIES

  pub caps_sound : (caps : List (Option Cap)) → AreSoundCaps a caps → IsSoundLocus a (record l { caps = caps })
  caps_sound caps k = record {
    registers = h.registers;
    place = h.place;
    code = h.code;
    host = h.host;
    deep = h.deep;
    chain = h.chain;
    few = h.few;
    privates = h.privates;
    ordered = h.ordered;
    caps = k;
    walk = λ w is. record { at = (h.walk w is).at; some = (h.walk w is).some; hops = (h.walk w is).hops; looking = (h.walk w is).looking };
    printed = h.printed;
  }

  -- PRIVATE REGIONS

  pub privates_sound : (ps : List Private) → length ps ≤ 16 → All (IsSoundPrivate a) ps → AreOrdered ps → IsSoundLocus a (record l { privates = ps })
  privates_sound ps few all ordered = record {
    registers = h.registers;
    place = h.place;
    code = h.code;
    host = h.host;
    deep = h.deep;
    chain = h.chain;
    few = few;
    privates = all;
    ordered = ordered;
    caps = h.caps;
    walk = λ w is. record { at = (h.walk w is).at; some = (h.walk w is).some; hops = (h.walk w is).hops; looking = (h.walk w is).looking };
    printed = h.printed;
  }

  pub with_private_sound : (r : Region) → IsSoundRegion a r → overlaps_private l r ≡ false → length l.privates < 16 → IsSoundLocus a (with_private l r)
  with_private_sound r region clear lt =
      let p : Private = record { made = l.host; region = r } in
      let size : length (insert_private p l.privates) ≡ length l.privates + 1 = length_private p l.privates ∙ omega arith in
      privates_sound (insert_private p l.privates) (omega arith)
      (all_private (IsSoundPrivate a) p l.privates (record { made = h.host; region = region }) h.privates)
      (ordered_private p l.privates region.some (All-weaker (IsSoundPrivate a) (λ (q : Private). 1 ≤ q.region.count) (λ q k. k.region.some) l.privates h.privates) clear h.ordered)

  pub without_private_sound : (page : ℕ) → IsSoundLocus a (without_private l page)
  without_private_sound page =
      let test : Private → Bool = λ p. not (p.made == l.host && p.region.at == page) in
      let few = h.few in
      let fewer = fewer_kept test l.privates in
      privates_sound (filter test l.privates) (omega arith) (All-filter test (IsSoundPrivate a) l.privates h.privates) (ordered_kept test l.privates h.ordered)

  -- INVOCATION

  pub enter_sound : (host : ℕ) (c : ContainerState) (place : ℕ) (chain : List Call) → IsTrue (is_born_container a host) → IsSoundCode c.code → place ≤ 128 → length chain ≤ 64 → All (IsSoundCall a) chain → IsSoundLocus a (enter l host c place chain)
  enter_sound host c place chain born code le deep all = record {
    registers = length-set l.registers 7 0 ∙ h.registers;
    place = le;
    code = code;
    host = born;
    deep = deep;
    chain = all;
    few = h.few;
    privates = h.privates;
    ordered = h.ordered;
    caps = h.caps;
    walk = λ w is. absurd (none-some w is);
    printed = h.printed;
  }

  -- the chain with the caller's place
  pub deeper : length l.chain < 64 → l.place < 128 → (length (l.chain ++ record { container = l.host; place = l.place + 1 } ∷ []) ≤ 64) × All (IsSoundCall a) (l.chain ++ record { container = l.host; place = l.place + 1 } ∷ [])
  deeper lt inside =
      let call : Call = record { container = l.host; place = l.place + 1 } in
      let size = length-append l.chain (call ∷ []) in
      (omega arith, All-append (IsSoundCall a) l.chain (call ∷ []) h.chain (All-cons (IsSoundCall a) call [] (record { container = h.host; place = omega arith }) (All-nil (IsSoundCall a))))

  -- BIRTHS

  -- a locus like this one, with nothing begun
  pub spawned_sound : (place : ℕ) → place ≤ 128 → IsSoundLocus a (spawned l place)
  spawned_sound place le = record {
    registers = h.registers;
    place = le;
    code = h.code;
    host = h.host;
    deep = omega arith;
    chain = All-nil (IsSoundCall a);
    few = omega arith;
    privates = All-nil (IsSoundPrivate a);
    ordered = tt;
    caps = h.caps;
    walk = λ w is. absurd (none-some w is);
    printed = omega arith;
  }

  -- with a capability that names a born entity
  pub holding_sound : (d x : ℕ) → IsTrue (is_born a x) → IsSoundLocus a (holding l d x)
  holding_sound d x born = record {
    registers = length-set l.registers d _ ∙ h.registers;
    place = h.place;
    code = h.code;
    host = h.host;
    deep = h.deep;
    chain = h.chain;
    few = h.few;
    privates = h.privates;
    ordered = h.ordered;
    caps = caps_put a l.caps _ _ h.caps (one_named a _ born);
    walk = λ w is. record { at = (h.walk w is).at; some = (h.walk w is).some; hops = (h.walk w is).hops; looking = (h.walk w is).looking };
    printed = h.printed;
  }
