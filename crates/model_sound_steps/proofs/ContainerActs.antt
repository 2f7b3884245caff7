-- The acts on a container that keep its regions leave a sound locus and a sound container.
use Rattle.std.proofs.Common.{◌≡◌, ℕ, ◌+◌, ◌/◌, ◌<◌, true, false, ◌&&◌, if◌then◌else◌, ◌==◌, nat_lt, IsTrue, List, [], ◌∷◌, ◌++◌, length, find, slice_set, Option, Some, None, refl, arith}
use Rattle.std.specs.Option.{ForSome}
use Rattle.std.proofs.lemmas.Bool.Decides.{nat_tests}
use Rattle.model_kernel.specs.base_types.declared.capabilities.Cap.{Cap}
use Rattle.model_kernel.specs.base_types.declared.capabilities.Private.{Private}
use Rattle.model_kernel.specs.base_types.declared.capabilities.Region.{Region}
use Rattle.model_kernel.specs.base_types.declared.instructions.Call.{Call}
use Rattle.model_kernel.specs.base_types.declared.instructions.Reply.{Reply}
use Rattle.model_kernel.specs.base_types.declared.instructions.Reply.TheVariants.{Ok, NoSlot, NoPage, ListFull, NoCaller, NoEntry, Deep}
use Rattle.model_kernel.specs.base_types.declared.instructions.Walk.{Walk}
use Rattle.model_kernel.specs.State.{AtlasState, ContainerState, LocusState, Cell, NotBorn, AtlasCell, ContainerCell, LocusCell}
use Rattle.model_kernel.specs.Acts.{caller, container_of_call, first_place, look_at, place_of_look}
use Rattle.model_kernel.specs.Outcomes.{Outcome, back, back_to, entered, enter, give, give_at, hop_to, invoke, invoke_at, leave, leave_at, load, look_hops, looked, looked_by, own_reply, set_reg, store, take_by, take_cap, through, with_other, with_word}
use Rattle.model_kernel.specs.Refusals.{instr_at, private_at}
use Rattle.model_kernel.specs.Soundness.{AreSoundCaps, IsSoundCall, IsSoundContainer, IsSoundLocus, IsSoundPrivate, IsSoundRegion, is_born, is_born_container, looks}
use Rattle.model_kernel.specs.Words.{but_last, cap_at, covers, denied, free_slot, last_call}
use Rattle.model_sound_steps.proofs.Lists.{all_but_last, cap_born, caps_put, fewer_but_last, find_all, last_of_all, one_named}
use Rattle.model_sound_steps.proofs.LocusEdits.{caps_sound, deeper, enter_sound, finish_sound, hop_sound, register_sound}

-- a container that is written keeps its regions and is sound
abbrev pub IsKept : AtlasState → ContainerState → Option Cell → Type 0
IsKept a c None = Unit {0}
IsKept a c (Some (ContainerCell d)) = IsSoundContainer a d × (d.regions ≡ c.regions)
IsKept a c (Some NotBorn) = ⊥
IsKept a c (Some (AtlasCell b)) = ⊥
IsKept a c (Some (LocusCell l)) = ⊥

-- the locus and the container stay sound, and nothing is born
pub record IsSoundOutcome (a : AtlasState) (c : ContainerState) (o : Outcome) : Type 0 where
  pub locus : IsSoundLocus a o.locus
  pub other : IsKept a c o.other
  pub newborn : o.newborn ≡ None

pub words_sound : (a : AtlasState) (c : ContainerState) (address word : ℕ) → IsSoundContainer a c → IsSoundContainer a (with_word c address word)
words_sound a c address word h = record {
  some = h.some;
  size = h.size;
  entry = h.entry;
  code = h.code;
  few = h.few;
  regions = h.regions;
  inside = h.inside;
  apart = h.apart;
  caps = h.caps;
}

given_sound : (a : AtlasState) (c : ContainerState) (caps : List (Option Cap)) → IsSoundContainer a c → AreSoundCaps a caps → IsSoundContainer a (record c { caps = caps })
given_sound a c caps h k = record {
  some = h.some;
  size = h.size;
  entry = h.entry;
  code = h.code;
  few = h.few;
  regions = h.regions;
  inside = h.inside;
  apart = h.apart;
  caps = k;
}

module _ (a : AtlasState) (l : LocusState) (h : IsSoundLocus a l) (within : l.place < 128) (x : ℕ) (c : ContainerState) (born : IsTrue (is_born_container a x)) (sound : IsSoundContainer a c) where
  abbrev pub Keeps : Outcome → Type 0
  Keeps o = IsSoundOutcome a c o

  reply_keeps : (r : Reply) → Keeps (own_reply l r)
  reply_keeps r = record { locus = finish_sound a l h r within; other = tt; newborn = refl }

  with_keeps : (m : LocusState) (r : Reply) → IsSoundLocus a m → m.place < 128 → Keeps (with_other m r (ContainerCell c))
  with_keeps m r k lt = record { locus = finish_sound a m k r lt; other = (sound, refl); newborn = refl }

  entered_keeps : (m : LocusState) → IsSoundLocus a m → Keeps (entered c m)
  entered_keeps m k = record { locus = k; other = (sound, refl); newborn = refl }

  -- LOOKS

  through_keeps : (r : Region) (address : ℕ) (why : Option Reply) → IsSoundRegion a r → looks (instr_at l) ≡ true → Keeps (through l r address why)
  through_keeps r address (Some why) region looking = reply_keeps why
  through_keeps r address None region looking =
      elim (nat_lt (look_hops l) 63) as (λ b. nat_lt (look_hops l) 63 ≡ b → Keeps (if b then hop_to l r address else own_reply l Deep)) [
        | true ↦ λ is. record { locus = hop_sound a l h r address region (grind (arith, nat_tests)) looking; other = tt; newborn = refl }
        | false ↦ λ is. reply_keeps Deep
      ] refl

  looked_by_keeps : (address needed : ℕ) (done : Outcome) (r : Option Region) → ForSome r (IsSoundRegion a) → looks (instr_at l) ≡ true → Keeps done → Keeps (looked_by l address needed done r)
  looked_by_keeps address needed done (Some r) region looking k = through_keeps r address (denied r.rights.0 needed) (region r refl) looking
  looked_by_keeps address needed done None region looking k = k

  looked_keeps : (address needed : ℕ) (done : Outcome) → looks (instr_at l) ≡ true → Keeps done → Keeps (looked l c address needed done)
  looked_keeps address needed done looking k =
      elim (nat_lt (address / 128) c.pages) as (λ b. Keeps (if b then looked_by l address needed done (find (λ r. covers r (address / 128)) c.regions) else own_reply l NoPage)) [
        | true ↦ looked_by_keeps address needed done (find (λ r. covers r (address / 128)) c.regions) (find_all (IsSoundRegion a) (λ r. covers r (address / 128)) c.regions sound.regions) looking k
        | false ↦ reply_keeps NoPage
      ]

  pub load_keeps : (d address : ℕ) → looks (instr_at l) ≡ true → Keeps (load l c d address)
  unfolding load
  load_keeps d address looking = looked_keeps address 1 _ looking (record { locus = finish_sound a _ (register_sound a l h d _) Ok within; other = tt; newborn = refl })

  pub store_keeps : (address word : ℕ) → looks (instr_at l) ≡ true → Keeps (store l c address word)
  unfolding store
  store_keeps address word looking = looked_keeps address 2 _ looking (record { locus = finish_sound a l h Ok within; other = (words_sound a c address word sound, refl); newborn = refl })

  -- INVOCATION

  invoke_keeps_at : (e : Option ℕ) → c.entry ≡ e → Keeps (invoke_at l x c e)
  invoke_keeps_at None is = with_keeps l NoEntry h within
  invoke_keeps_at (Some e) is =
      let place : e < 128 = sound.entry e is in
      elim (nat_lt (length l.chain) 64) as (λ b. nat_lt (length l.chain) 64 ≡ b → Keeps (if b then entered c (enter l x c e (l.chain ++ record { container = l.host; place = l.place + 1 } ∷ [])) else with_other l ListFull (ContainerCell c))) [
        | true ↦ λ lt. let k = deeper a l h (grind (arith, nat_tests)) within in entered_keeps _ (enter_sound a l h x c e _ born sound.code (omega arith) k.0 k.1)
        | false ↦ λ ge. with_keeps l ListFull h within
      ] refl

  pub invoke_keeps : Keeps (invoke l x c)
  unfolding invoke
  invoke_keeps = invoke_keeps_at c.entry refl

  leave_keeps_at : (e : Option ℕ) → c.entry ≡ e → Keeps (leave_at l x c e)
  leave_keeps_at None is = with_keeps l NoEntry h within
  leave_keeps_at (Some e) is = let place : e < 128 = sound.entry e is in entered_keeps _ (enter_sound a l h x c e l.chain born sound.code (omega arith) h.deep h.chain)

  pub leave_keeps : Keeps (leave l x c)
  unfolding leave
  leave_keeps = leave_keeps_at c.entry refl

  back_keeps_to : (q : Option Call) → last_call l.chain ≡ q → Keeps (back_to l c q)
  back_keeps_to None is = reply_keeps NoCaller
  back_keeps_to (Some call) is =
      let k = last_of_all (IsSoundCall a) l.chain call h.chain is in
      let fewer = fewer_but_last l.chain in
      let deep = h.deep in
      entered_keeps _ (enter_sound a l h call.container c call.place (but_last l.chain) k.container sound.code k.place (omega arith) (all_but_last (IsSoundCall a) l.chain h.chain))

  pub back_keeps : Keeps (back l c)
  unfolding back
  back_keeps = back_keeps_to (last_call l.chain) refl

  -- CAPABILITIES

  take_keeps_by : (d y : ℕ) (q : Option Cap) (slot : Option ℕ) → cap_at c.caps y ≡ q → Keeps (take_by l c d q slot)
  take_keeps_by d y None slot is = with_keeps l NoSlot h within
  take_keeps_by d y (Some q) None is = with_keeps l ListFull h within
  take_keeps_by d y (Some q) (Some slot) is =
      let named = cap_born a c.caps y q sound.caps is in
      with_keeps _ Ok (caps_sound a (set_reg l d slot) (register_sound a l h d slot) (slice_set l.caps slot (Some q)) (caps_put a l.caps slot (Some q) h.caps (one_named a q named))) within

  pub take_keeps : (d y : ℕ) → Keeps (take_cap l c d y)
  unfolding take_cap
  take_keeps d y = take_keeps_by d y (cap_at c.caps y) (free_slot l.caps) refl

  give_keeps_at : (d : ℕ) (q : Cap) (slot : Option ℕ) → IsTrue (is_born a q.entity) → Keeps (give_at l c d q slot)
  give_keeps_at d q None named = with_keeps l ListFull h within
  give_keeps_at d q (Some slot) named = record {
    locus = finish_sound a (set_reg l d slot) (register_sound a l h d slot) Ok within;
    other = (given_sound a c (slice_set c.caps slot (Some q)) sound (caps_put a c.caps slot (Some q) sound.caps (one_named a q named)), refl);
    newborn = refl;
  }

  pub give_keeps : (d : ℕ) (q : Cap) → IsTrue (is_born a q.entity) → Keeps (give l c d q)
  unfolding give
  give_keeps d q named = give_keeps_at d q (free_slot c.caps) named

-- WHERE THE ACTS GO

module _ (a : AtlasState) (l : LocusState) (h : IsSoundLocus a l) where
  -- the container of the next look is born
  pub look_born : (address : ℕ) → IsTrue (is_born_container a (look_at l address))
  look_born address = by_walk l.walk refl
    where
      by_private : (p : Option Private) → private_at l (address / 128) ≡ p → IsTrue (is_born_container a (first_place l p))
      by_private (Some p) is = (find_all (IsSoundPrivate a) (λ p. p.made == l.host && covers p.region (address / 128)) l.privates h.privates p is).region.target
      by_private None is = h.host

      by_walk : (w : Option Walk) → l.walk ≡ w → IsTrue (is_born_container a (place_of_look l address w))
      by_walk (Some w) is = (h.walk w is).at
      by_walk None is = by_private (private_at l (address / 128)) refl

  -- the caller's container is born
  pub caller_born : 0 < length l.chain → IsTrue (is_born_container a (caller l))
  caller_born some = by_call (last_call l.chain) refl
    where
      some_call : (cs : List Call) → 0 < length cs → last_call cs ≡ None → ⊥
      some_call [] lt e = omega arith
      some_call (c ∷ []) lt e = cc
      some_call (c ∷ d ∷ cs) lt e = some_call (d ∷ cs) (omega arith) e

      by_call : (q : Option Call) → last_call l.chain ≡ q → IsTrue (is_born_container a (container_of_call q))
      by_call (Some call) is = (last_of_all (IsSoundCall a) l.chain call h.chain is).container
      by_call None is = absurd (some_call l.chain some is)
