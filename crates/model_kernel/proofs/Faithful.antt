-- What acts do to counts of printed values and to the atlas's list of loci: one walk over all acts.
use Rattle.std.proofs.Common.{◌≡◌, ℕ, suc, ◌+◌, ◌/◌, ◌<◌, ◌^◌, Bool, true, false, if◌then◌else◌, ◌==◌, nat_lt, [], ◌∷◌, ◌++◌, length, find, Option, Some, None, IfSome, MatchOption, refl, sym, ◌∙◌, arith, ◌⊎◌, inl, inr, length-append, add-one}
use Rattle.std.proofs.lemmas.Bool.{ltb-true}
use Rattle.base_types.specs.declared.histories.Answer.{Answer}
use Rattle.base_types.specs.declared.histories.Answer.TheVariants.{Quiet, Hop, Reply as Replied, Read, Print as Printed}
use Rattle.base_types.specs.declared.capabilities.Cap.{Cap}
use Rattle.base_types.specs.declared.capabilities.Region.{Region}
use Rattle.base_types.specs.declared.instructions.Call.{Call}
use Rattle.base_types.specs.declared.instructions.Instr.{Instr}
use Rattle.base_types.specs.declared.instructions.Instr.TheVariants.{Set, Copy, Add, Sub, Jump, Jz, Load, Store, Invoke, Leave, Return, Map, Unmap, Lmap, Lunmap, Take, Give, Drop, Make, Spawn, Stop, Go, Snap, Stabilise, Print}
use Rattle.base_types.specs.declared.instructions.Reply.{Reply}
use Rattle.base_types.specs.declared.instructions.Reply.TheVariants.{Ok, NoSlot, NoPage, ListFull, NoCaller, NoEntry, Deep, NoRegion}
use Rattle.model_kernel.specs.State.{Supply, AtlasState, ContainerState, LocusState, Cell, NotBorn, AtlasCell, ContainerCell, LocusCell}
use Rattle.model_kernel.specs.Words.{denied, covers, last_call, free_slot, cap_at}
use Rattle.model_kernel.specs.Refusals.{reg, entity_of, instr_at, refusal, new_region}
use Rattle.model_kernel.specs.Acts.{Act, alone, beside, beside_or_self, allowed, act_by, wanted, look_at, caller}
use Rattle.model_kernel.specs.Outcomes.{Outcome, own, own_reply, with_other, with_atlas, next, local_act, look_hops, hop_to, through, looked, looked_by, load, store, with_word, enter, entered, invoke, invoke_at, leave, leave_at, back, back_to, map_region, map_by, map_refusal, unmap, unmap_at, take_cap, take_by, give, give_at, made_name, free_container, free_locus, make, make_at, spawn, spawn_at, on_cell, with_newborn, outcome}

-- the count of a locus, and nothing for others
abbrev pub tally : Cell → Option ℕ
tally (LocusCell l) = Some l.printed
tally NotBorn = None
tally (AtlasCell a) = None
tally (ContainerCell c) = None

-- the atlas, and nothing for others
abbrev pub atlas_of : Cell → Option AtlasState
atlas_of (AtlasCell a) = Some a
atlas_of NotBorn = None
atlas_of (ContainerCell c) = None
atlas_of (LocusCell l) = None

-- the count after an answer
abbrev pub counted : Answer → ℕ → ℕ
counted (Printed v) n = if nat_lt n (2 ^ 62) then n + 1 else n
counted Quiet n = n
counted Hop n = n
counted (Replied r) n = n
counted (Read v) n = n

-- what is born has a free number, and a locus, which the atlas then names, has printed nothing
abbrev pub IsNewborn : Bool → Option ℕ → AtlasState → AtlasState → ℕ × Cell → Type 0
IsNewborn atlas other a a' b =
    (atlas ≡ true) × (other ≡ None) × (atlas_of b.1 ≡ None)
    × (((0 < b.0) × (b.0 < 41) × (tally b.1 ≡ None) × (length a'.loci ≡ length a.loci)) ⊎ ((b.0 ≡ length a.loci + 41) × (tally b.1 ≡ Some 0) × (length a'.loci ≡ suc (length a.loci))))

-- the locus counts what it prints, the other entity keeps its count, and the atlas its list but for what is born
pub record IsFaithful (l : LocusState) (atlas : Bool) (other : Option ℕ) (a : AtlasState) (cell : Cell) (o : Outcome) : Type 0 where
  pub printed : o.locus.printed ≡ counted o.answer l.printed
  pub other_keeps : IfSome o.other (λ c. (tally c ≡ tally cell) × (atlas_of c ≡ atlas_of cell))
  pub bears : MatchOption o.newborn (atlas ≡ true → length o.atlas.loci ≡ length a.loci) (λ b. IsNewborn atlas other a o.atlas b)

-- acts that change the atlas
abbrev pub changes_atlas : Instr → Bool
changes_atlas (Map d r c b n rights) = true
changes_atlas (Unmap d r) = true
changes_atlas (Make d n t e) = true
changes_atlas (Spawn d p) = true
changes_atlas i = false

module _ (l : LocusState) (other : Option ℕ) (a : AtlasState) (cell : Cell) where
  -- acts that leave the atlas
  abbrev pub Plain : Outcome → Type 0
  Plain o = IsFaithful l false other a cell o

  own_is : (m : LocusState) (answer : Answer) → m.printed ≡ counted answer l.printed → Plain (own m answer)
  own_is m answer e = record { printed = e; other_keeps = tt; bears = λ h. cc }

  reply_is : (m : LocusState) (r : Reply) → m.printed ≡ l.printed → Plain (own_reply m r)
  reply_is m r e = record { printed = e; other_keeps = tt; bears = λ h. cc }

  -- a refusal
  pub refused_is : (r : Reply) → Plain (own_reply l r)
  refused_is r = reply_is l r refl

  -- an act on the locus alone
  pub local_is : (i : Instr) → Plain (local_act l i)
  unfolding local_act
  local_is (Set d n) = own_is _ Quiet refl
  local_is (Copy d s) = own_is _ Quiet refl
  local_is (Add d s) = own_is _ Quiet refl
  local_is (Sub d s) = own_is _ Quiet refl
  local_is (Jump p) = own_is _ Quiet refl
  local_is (Jz s p) = own_is _ Quiet (elim (reg l s == 0) as (λ b. (if◌then◌else◌ {A = LocusState} b (record l { place = p }) (next l)).printed ≡ l.printed) [ true ↦ refl | false ↦ refl ])
  local_is (Lmap d c b n q) = record { printed = refl; other_keeps = tt; bears = λ h. cc }
  local_is (Lunmap d) = record { printed = refl; other_keeps = tt; bears = λ h. cc }
  local_is (Drop s) = record { printed = refl; other_keeps = tt; bears = λ h. cc }
  local_is (Stop c) = record { printed = refl; other_keeps = tt; bears = λ h. cc }
  local_is (Go c) = record { printed = refl; other_keeps = tt; bears = λ h. cc }
  local_is (Snap c) = record { printed = refl; other_keeps = tt; bears = λ h. cc }
  local_is (Stabilise c) = record { printed = refl; other_keeps = tt; bears = λ h. cc }
  local_is (Print s) = own_is _ (Printed (reg l s)) refl
  local_is i = own_is _ Quiet refl

-- acts on a container
module _ (l : LocusState) (x : ℕ) (a : AtlasState) (c : ContainerState) where
  -- acts that leave the atlas, with a container
  abbrev pub OnContainer : Outcome → Type 0
  OnContainer o = IsFaithful l false (Some x) a (ContainerCell c) o

  reply_on : (r : Reply) → OnContainer (own_reply l r)
  reply_on r = record { printed = refl; other_keeps = tt; bears = λ h. cc }

  other_on : (m : LocusState) (r : Reply) (d : ContainerState) → m.printed ≡ l.printed → OnContainer (with_other m r (ContainerCell d))
  other_on m r d e = record { printed = e; other_keeps = (refl, refl); bears = λ h. cc }

  enter_on : (m : LocusState) → m.printed ≡ l.printed → OnContainer (entered c m)
  enter_on m e = record { printed = e; other_keeps = (refl, refl); bears = λ h. cc }

  through_on : (r : Region) (address : ℕ) (why : Option Reply) → OnContainer (through l r address why)
  through_on r address (Some why) = reply_on why
  through_on r address None = elim (nat_lt (look_hops l) 63) as (λ b. OnContainer (if b then hop_to l r address else own_reply l Deep)) [
    | true ↦ record { printed = refl; other_keeps = tt; bears = λ h. cc }
    | false ↦ reply_on Deep
  ]

  looked_by_on : (address needed : ℕ) (done : Outcome) (r : Option Region) → OnContainer done → OnContainer (looked_by l address needed done r)
  looked_by_on address needed done (Some r) h = through_on r address (denied r.rights.0 needed)
  looked_by_on address needed done None h = h

  looked_on : (address needed : ℕ) (done : Outcome) → OnContainer done → OnContainer (looked l c address needed done)
  looked_on address needed done h =
      elim (nat_lt (address / 128) c.pages) as (λ b. OnContainer (if b then looked_by l address needed done (find (λ r. covers r (address / 128)) c.regions) else own_reply l NoPage)) [
        | true ↦ looked_by_on address needed done (find (λ r. covers r (address / 128)) c.regions) h
        | false ↦ reply_on NoPage
      ]

  load_on : (d address : ℕ) → OnContainer (load l c d address)
  unfolding load
  load_on d address = looked_on address 1 _ (record { printed = refl; other_keeps = tt; bears = λ h. cc })

  store_on : (address word : ℕ) → OnContainer (store l c address word)
  unfolding store
  store_on address word = looked_on address 2 _ (other_on l Ok (with_word c address word) refl)

  invoke_on : (e : Option ℕ) → OnContainer (invoke_at l x c e)
  invoke_on None = other_on l NoEntry c refl
  invoke_on (Some e) =
      elim (nat_lt (length l.chain) 64) as (λ b. OnContainer (if b then entered c (enter l x c e (l.chain ++ record { container = l.host; place = l.place + 1 } ∷ [])) else with_other l ListFull (ContainerCell c))) [
        | true ↦ enter_on _ refl
        | false ↦ other_on l ListFull c refl
      ]

  leave_on : (e : Option ℕ) → OnContainer (leave_at l x c e)
  leave_on None = other_on l NoEntry c refl
  leave_on (Some e) = enter_on _ refl

  back_on : (q : Option Call) → OnContainer (back_to l c q)
  back_on (Some q) = enter_on _ refl
  back_on None = reply_on NoCaller

  take_on : (d : ℕ) (q : Option Cap) (slot : Option ℕ) → OnContainer (take_by l c d q slot)
  take_on d None slot = other_on l NoSlot c refl
  take_on d (Some q) None = other_on l ListFull c refl
  take_on d (Some q) (Some slot) = record { printed = refl; other_keeps = (refl, refl); bears = λ h. cc }

  give_on : (d : ℕ) (q : Cap) (slot : Option ℕ) → OnContainer (give_at l c d q slot)
  give_on d q None = other_on l ListFull c refl
  give_on d q (Some slot) = record { printed = refl; other_keeps = (refl, refl); bears = λ h. cc }

  -- a mapping keeps the atlas's names
  abbrev pub OnBoth : Outcome → Type 0
  OnBoth o = IsFaithful l true (Some x) a (ContainerCell c) o

  atlas_on : (r : Reply) (a' : AtlasState) (d : ContainerState) → length a'.loci ≡ length a.loci → OnBoth (with_atlas l r a' (Some (ContainerCell d)))
  atlas_on r a' d e = record { printed = refl; other_keeps = (refl, refl); bears = λ _. e }

  map_on : (r : Region) (why : Option Reply) → OnBoth (map_by l a x c r why)
  map_on r (Some why) = atlas_on why a c refl
  map_on r None = atlas_on Ok _ _ refl

  unmap_on : (at : ℕ) (r : Option Region) → OnBoth (unmap_at l a x c at r)
  unmap_on at None = atlas_on NoRegion a c refl
  unmap_on at (Some r) = atlas_on Ok _ _ refl

-- acts on another entity
on_cell_is : (s : Supply) (l : LocusState) (a : AtlasState) (x : ℕ) (i : Instr) (cell : Cell) → IsFaithful l (changes_atlas i) (Some x) a cell (on_cell s l a x i cell)
unfolding on_cell invoke leave back map_region unmap take_cap give
on_cell_is s l a x (Load d r) (ContainerCell c) = load_on l x a c d _
on_cell_is s l a x (Store r v) (ContainerCell c) = store_on l x a c _ _
on_cell_is s l a x (Invoke r) (ContainerCell c) = invoke_on l x a c c.entry
on_cell_is s l a x (Leave r) (ContainerCell c) = leave_on l x a c c.entry
on_cell_is s l a x Return (ContainerCell c) = back_on l x a c (last_call l.chain)
on_cell_is s l a x (Map d r k b n rights) (ContainerCell c) = map_on l x a c (new_region l r k b n rights) (map_refusal a x c (new_region l r k b n rights))
on_cell_is s l a x (Unmap d r) (ContainerCell c) = unmap_on l x a c (reg l r) _
on_cell_is s l a x (Take d k y) (ContainerCell c) = take_on l x a c d (cap_at c.caps (reg l y)) (free_slot l.caps)
on_cell_is s l a x (Give d k r rights) (ContainerCell c) = give_on l x a c d _ (free_slot c.caps)
on_cell_is s l a x (Stop c) (LocusCell m) = record { printed = refl; other_keeps = (refl, refl); bears = λ h. cc }
on_cell_is s l a x (Go c) (LocusCell m) = record { printed = refl; other_keeps = (refl, refl); bears = λ h. cc }
on_cell_is s l a x (Snap c) cell = record { printed = refl; other_keeps = (refl, refl); bears = λ h. cc }
on_cell_is s l a x i cell = record { printed = refl; other_keeps = (refl, refl); bears = λ h. refl }

-- BIRTHS BY A PROGRAM

-- a free number of a container
pub free_container_is : (a : AtlasState) (n : ℕ) → free_container a ≡ Some n → (0 < n) × (n < 41)
free_container_is a n free =
    elim (nat_lt (length a.containers) 40) as (λ b. nat_lt (length a.containers) 40 ≡ b → (if b then Some (length a.containers + 1) else None) ≡ Some n → (0 < n) × (n < 41)) [
      | true ↦ λ is f. (let few = ltb-true _ _ is in let e : length a.containers + 1 ≡ n = cc in (omega arith, omega arith))
      | false ↦ λ is f. cc
    ] refl free

-- a free number of a locus
pub free_locus_is : (a : AtlasState) (n : ℕ) → free_locus a ≡ Some n → length a.loci + 41 ≡ n
free_locus_is a n free =
    elim (nat_lt (length a.loci) 23) as (λ b. (if b then Some (length a.loci + 41) else None) ≡ Some n → length a.loci + 41 ≡ n) [ true ↦ λ f. cc | false ↦ λ f. cc ] free

one_more_name : (a : AtlasState) (n : ℕ) → length (a.loci ++ made_name n ∷ []) ≡ suc (length a.loci)
one_more_name a n = (let e = length-append a.loci (made_name n ∷ []) in e ∙ add-one (length a.loci))

module _ (s : Supply) (l : LocusState) (a : AtlasState) (cell : Cell) where
  -- acts that bear something
  abbrev pub Bearing : Outcome → Type 0
  Bearing o = IsFaithful l true None a cell o

  make_is : (d pages tag : ℕ) (entry n : Option ℕ) → free_container a ≡ n → Bearing (make_at s l a d pages tag entry n)
  make_is d pages tag entry None free = record { printed = refl; other_keeps = tt; bears = λ h. refl }
  make_is d pages tag entry (Some n) free = (
      let number = free_container_is a n free in
      record { printed = refl; other_keeps = tt; bears = (refl, refl, refl, inl (number.0, number.1, refl, refl)) })

  spawn_is : (d place : ℕ) (n : Option ℕ) → free_locus a ≡ n → Bearing (spawn_at l a d place n)
  spawn_is d place None free = record { printed = refl; other_keeps = tt; bears = λ h. refl }
  spawn_is d place (Some n) free = record { printed = refl; other_keeps = tt; bears = (refl, refl, refl, inr (sym (free_locus_is a n free), refl, one_more_name a n)) }

-- ALL ACTS

-- an act as a locus wants it makes a faithful outcome
abbrev pub FaithfulAct : Supply → LocusState → AtlasState → Cell → Act → Type 0
FaithfulAct s l a cell act = IsFaithful l act.atlas act.other a cell (outcome s l act a cell)

module _ (s : Supply) (me : ℕ) (l : LocusState) (a : AtlasState) (cell : Cell) where
  -- one that may name the locus itself
  self_or_other : (i : Instr) (x : ℕ) → FaithfulAct s l a cell (alone i None) → FaithfulAct s l a cell (beside i x) → FaithfulAct s l a cell (beside_or_self me i x)
  self_or_other i x self other = elim (x == me) as (λ b. FaithfulAct s l a cell (if b then alone i None else beside i x)) [ true ↦ self | false ↦ other ]

  allowed_is : (i : Instr) → FaithfulAct s l a cell (allowed me l i)
  unfolding allowed outcome with_newborn make spawn
  allowed_is (Load d r) = on_cell_is s l a (look_at l (reg l r)) (Load d r) cell
  allowed_is (Store r v) = on_cell_is s l a (look_at l (reg l r)) (Store r v) cell
  allowed_is (Invoke c) = on_cell_is s l a (entity_of l c) (Invoke c) cell
  allowed_is (Leave c) = on_cell_is s l a (entity_of l c) (Leave c) cell
  allowed_is Return = on_cell_is s l a (caller l) Return cell
  allowed_is (Map d r c b n rights) = on_cell_is s l a (entity_of l d) (Map d r c b n rights) cell
  allowed_is (Unmap d r) = on_cell_is s l a (entity_of l d) (Unmap d r) cell
  allowed_is (Take d c y) = on_cell_is s l a (entity_of l c) (Take d c y) cell
  allowed_is (Give d c r rights) = on_cell_is s l a (entity_of l c) (Give d c r rights) cell
  allowed_is (Make d n t e) = make_is s l a cell d (reg l n) (reg l t) e (free_container a) refl
  allowed_is (Spawn d p) = spawn_is s l a cell d p (free_locus a) refl
  allowed_is (Stop c) = self_or_other (Stop c) (entity_of l c) (local_is l None a cell (Stop c)) (on_cell_is s l a (entity_of l c) (Stop c) cell)
  allowed_is (Go c) = self_or_other (Go c) (entity_of l c) (local_is l None a cell (Go c)) (on_cell_is s l a (entity_of l c) (Go c) cell)
  allowed_is (Snap c) = self_or_other (Snap c) (entity_of l c) (local_is l None a cell (Snap c)) (on_cell_is s l a (entity_of l c) (Snap c) cell)
  allowed_is i = local_is l None a cell i

  act_by_is : (i : Instr) (refused : Option Reply) → FaithfulAct s l a cell (act_by me l i refused)
  unfolding outcome
  act_by_is i (Some r) = refused_is l None a cell r
  act_by_is i None = allowed_is i

  -- the wanted act is faithful
  pub wanted_is : FaithfulAct s l a cell (wanted me l)
  unfolding wanted
  wanted_is = act_by_is (instr_at l) (refusal l (instr_at l))
