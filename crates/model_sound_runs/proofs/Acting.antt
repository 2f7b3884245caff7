-- One walk over the acts, for any predicate: what an act leaves of another entity's cell, and what it bears.
use Rattle.std.proofs.Common.{◌≡◌, ℕ, ◌+◌, ◌/◌, ◌<◌, true, false, ◌==◌, nat_lt, if◌then◌else◌, MatchOption, [], ◌∷◌, ◌++◌, length, find, Option, Some, None, refl, subst}
use Rattle.std.specs.Prelude.{IfSome}
use Rattle.std.proofs.lemmas.Bool.{false≢true, ltb-true}
use Rattle.script_types.specs.base_types.declared.capabilities.Cap.{Cap}
use Rattle.script_types.specs.base_types.declared.capabilities.Region.{Region}
use Rattle.script_types.specs.base_types.declared.instructions.Call.{Call}
use Rattle.script_types.specs.base_types.declared.instructions.Instr.{Instr}
use Rattle.script_types.specs.base_types.declared.instructions.Instr.TheVariants.{Load, Store, Invoke, Leave, Return, Map, Unmap, Take, Give, Make, Spawn, Stop, Go, Snap}
use Rattle.script_types.specs.base_types.declared.instructions.Reply.{Reply}
use Rattle.script_types.specs.base_types.declared.instructions.Reply.TheVariants.{Deep, ListFull, NoPage}
use Rattle.script_types.specs.model_kernel.State.{Supply, AtlasState, ContainerState, LocusState, Cell, ContainerCell, LocusCell}
use Rattle.script_types.specs.model_kernel.Words.{cap_at, covers, denied, free_slot, last_call}
use Rattle.script_types.specs.model_kernel.Refusals.{reg, instr_at, entity_of, new_region, refusal}
use Rattle.script_types.specs.model_kernel.Acts.{Act, alone, beside, beside_or_self, allowed, act_by, wanted}
use Rattle.script_types.specs.model_kernel.Outcomes.{Outcome, back, back_to, by_refused, enter, entered, free_container, free_locus, give, give_at, given_cap, hop_to, invoke, invoke_at, leave, leave_at, load, look_address, look_hops, looked, looked_by, make, make_at, map_by, map_refusal, map_region, on_cell, outcome, own_reply, spawn, spawn_at, store, take_by, take_cap, through, unmap, unmap_at, with_newborn, with_other, with_word}
use Rattle.script_types.proofs.model_kernel_lemmas.Faithful.{IsNewborn, wanted_is}

-- ANOTHER ENTITY'S CELL

-- of a container the predicate sees no more than its pages, its tag and its words, and a word may be stored; of a locus nothing
pub record IsKept (P : Cell → Type 0) : Type 0 where
  pub contained : (c d : ContainerState) → d.pages ≡ c.pages → d.tag ≡ c.tag → d.words ≡ c.words → P (ContainerCell c) → P (ContainerCell d)
  pub stored : (c : ContainerState) (address word : ℕ) → address / 128 < c.pages → P (ContainerCell c) → P (ContainerCell (with_word c address word))
  pub located : (l m : LocusState) → P (LocusCell l) → P (LocusCell m)

module _ (s : Supply) (P : Cell → Type 0) (kept : IsKept P) where
  through_kept : (l : LocusState) (r : Region) (address : ℕ) (why : Option Reply) → IfSome (through l r address why).other P
  through_kept l r address (Some why) = tt
  through_kept l r address None = elim (nat_lt (look_hops l) 63) as (λ b. IfSome (if◌then◌else◌ {A = Outcome} b (hop_to l r address) (own_reply l Deep)).other P) [ true ↦ tt | false ↦ tt ]

  by_region : (l : LocusState) (address needed : ℕ) (done : Outcome) (r : Option Region) → IfSome done.other P → IfSome (looked_by l address needed done r).other P
  by_region l address needed done (Some r) good = through_kept l r address (denied r.rights.0 needed)
  by_region l address needed done None good = good

  looked_kept : (l : LocusState) (c : ContainerState) (address needed : ℕ) (done : Outcome) → (address / 128 < c.pages → IfSome done.other P) → IfSome (looked l c address needed done).other P
  looked_kept l c address needed done good =
      elim (nat_lt (address / 128) c.pages) as (λ b. nat_lt (address / 128) c.pages ≡ b → IfSome (if◌then◌else◌ {A = Outcome} b (looked_by l address needed done (find (λ r. covers r (address / 128)) c.regions)) (own_reply l NoPage)).other P) [
        | true ↦ λ is. by_region l address needed done (find (λ r. covers r (address / 128)) c.regions) (good (ltb-true _ _ is))
        | false ↦ λ _. tt
      ] refl

  module _ (l : LocusState) (a : AtlasState) (x : ℕ) (c : ContainerState) (good : P (ContainerCell c)) where
    invoke_kept : (e : Option ℕ) → IfSome (invoke_at l x c e).other P
    invoke_kept None = good
    invoke_kept (Some e) = elim (nat_lt (length l.chain) 64) as (λ b. IfSome (if◌then◌else◌ {A = Outcome} b (entered c (enter l x c e (l.chain ++ record { container = l.host; place = l.place + 1 } ∷ []))) (with_other l ListFull (ContainerCell c))).other P) [ true ↦ good | false ↦ good ]

    leave_kept : (e : Option ℕ) → IfSome (leave_at l x c e).other P
    leave_kept None = good
    leave_kept (Some e) = good

    back_kept : (call : Option Call) → IfSome (back_to l c call).other P
    back_kept None = tt
    back_kept (Some call) = good

    map_kept : (r : Region) (why : Option Reply) → IfSome (map_by l a x c r why).other P
    map_kept r None = kept.contained c _ refl refl refl good
    map_kept r (Some why) = good

    unmap_kept : (at : ℕ) (r : Option Region) → IfSome (unmap_at l a x c at r).other P
    unmap_kept at None = good
    unmap_kept at (Some r) = kept.contained c _ refl refl refl good

    take_kept : (d : ℕ) (cap : Option Cap) (slot : Option ℕ) → IfSome (take_by l c d cap slot).other P
    take_kept d None slot = good
    take_kept d (Some cap) None = good
    take_kept d (Some cap) (Some slot) = good

    give_kept : (d : ℕ) (cap : Cap) (slot : Option ℕ) → IfSome (give_at l c d cap slot).other P
    give_kept d cap None = good
    give_kept d cap (Some slot) = kept.contained c _ refl refl refl good

  pub on_kept : (l : LocusState) (a : AtlasState) (x : ℕ) (i : Instr) (cell : Cell) → P cell → IfSome (on_cell s l a x i cell).other P
  unfolding on_cell load store invoke leave back map_region unmap take_cap give
  on_kept l a x (Load d r) (ContainerCell c) good = looked_kept l c (look_address l (reg l r)) 1 _ (λ _. tt)
  on_kept l a x (Store r v) (ContainerCell c) good = looked_kept l c (look_address l (reg l r)) 2 _ (λ page. kept.stored c (look_address l (reg l r)) (reg l v) page good)
  on_kept l a x (Invoke r) (ContainerCell c) good = invoke_kept l a x c good c.entry
  on_kept l a x (Leave r) (ContainerCell c) good = leave_kept l a x c good c.entry
  on_kept l a x Return (ContainerCell c) good = back_kept l a x c good (last_call l.chain)
  on_kept l a x (Map d r k b m rights) (ContainerCell c) good = map_kept l a x c good (new_region l r k b m rights) (map_refusal a x c (new_region l r k b m rights))
  on_kept l a x (Unmap d r) (ContainerCell c) good = unmap_kept l a x c good (reg l r) (find (λ q. q.at == reg l r) c.regions)
  on_kept l a x (Take d k y) (ContainerCell c) good = take_kept l a x c good d (cap_at c.caps (reg l y)) (free_slot l.caps)
  on_kept l a x (Give d k r rights) (ContainerCell c) good = give_kept l a x c good d (given_cap l r rights.0) (free_slot c.caps)
  on_kept l a x (Stop c) (LocusCell m) good = kept.located m _ good
  on_kept l a x (Go c) (LocusCell m) good = kept.located m _ good
  on_kept l a x (Snap c) cell good = good
  on_kept l a x i cell good = good

  pub refused_kept : (l : LocusState) (a : AtlasState) (i : Instr) (why : Option Reply) (x : ℕ) (cell : Cell) → P cell → IfSome (by_refused s l a i why (Some x) cell).other P
  refused_kept l a i (Some why) x cell good = tt
  refused_kept l a i None x cell good = on_kept l a x i cell good

-- WHAT IS BORN

module _ (s : Supply) (me : ℕ) (l : LocusState) (a : AtlasState) (cell : Cell) where
  pub newborn_is : (b : ℕ × Cell) → (outcome s l (wanted me l) a cell).newborn ≡ Some b → IsNewborn (wanted me l).atlas (wanted me l).other a (outcome s l (wanted me l) a cell).atlas b
  newborn_is b is =
      subst (λ o. MatchOption o ((wanted me l).atlas ≡ true → length (outcome s l (wanted me l) a cell).atlas.loci ≡ length a.loci) (λ b. IsNewborn (wanted me l).atlas (wanted me l).other a (outcome s l (wanted me l) a cell).atlas b)) is (wanted_is s me l a cell).bears

-- the predicate holds of what is born at a free number
pub record HoldsBorn (s : Supply) (l : LocusState) (a : AtlasState) (P : ℕ × Cell → Type 0) : Type 0 where
  pub container : (d pages tag : ℕ) (entry : Option ℕ) (n : ℕ) → free_container a ≡ Some n → IfSome (make_at s l a d pages tag entry (Some n)).newborn P
  pub locus : (d place n : ℕ) → free_locus a ≡ Some n → IfSome (spawn_at l a d place (Some n)).newborn P

module _ (s : Supply) (me : ℕ) (l : LocusState) (a : AtlasState) (cell : Cell) (P : ℕ × Cell → Type 0) (holds : HoldsBorn s l a P) where
  abbrev Bears : Act → Type 0
  Bears act = act.atlas ≡ true → act.other ≡ None → IfSome (outcome s l act a cell).newborn P

  make_bears : (d pages tag : ℕ) (entry o : Option ℕ) → free_container a ≡ o → IfSome (make_at s l a d pages tag entry o).newborn P
  make_bears d pages tag entry None free = tt
  make_bears d pages tag entry (Some n) free = holds.container d pages tag entry n free

  spawn_bears : (d place : ℕ) (o : Option ℕ) → free_locus a ≡ o → IfSome (spawn_at l a d place o).newborn P
  spawn_bears d place None free = tt
  spawn_bears d place (Some n) free = holds.locus d place n free

  some_none : (x : ℕ) → Some x ≡ None → ⊥
  some_none x e = cc

  self_bears : (i : Instr) (x : ℕ) → Bears (beside_or_self me i x)
  self_bears i x = elim (x == me) as (λ t. Bears (if t then alone i None else beside i x)) [ true ↦ λ h. absurd (false≢true h) | false ↦ λ h. absurd (false≢true h) ]

  allowed_bears : (i : Instr) → Bears (allowed me l i)
  unfolding allowed outcome with_newborn make spawn
  allowed_bears (Make d n t e) h k = make_bears d (reg l n) (reg l t) e (free_container a) refl
  allowed_bears (Spawn d p) h k = spawn_bears d p (free_locus a) refl
  allowed_bears (Map d r c b n rights) h k = absurd (some_none _ k)
  allowed_bears (Unmap d r) h k = absurd (some_none _ k)
  allowed_bears (Stop c) h k = self_bears (Stop c) (entity_of l c) h k
  allowed_bears (Go c) h k = self_bears (Go c) (entity_of l c) h k
  allowed_bears (Snap c) h k = self_bears (Snap c) (entity_of l c) h k
  allowed_bears i h k = absurd (false≢true h)

  wanted_bears : Bears (wanted me l)
  unfolding wanted
  wanted_bears = by_refusal (refusal l (instr_at l))
    where
      by_refusal : (o : Option Reply) → Bears (act_by me l (instr_at l) o)
      by_refusal (Some why) = λ h. absurd (false≢true h)
      by_refusal None = allowed_bears (instr_at l)

  pub newborn_holds : (b : ℕ × Cell) → (outcome s l (wanted me l) a cell).newborn ≡ Some b → P b
  newborn_holds b is = (let f = newborn_is s me l a cell b is in subst (λ o. IfSome o P) is (wanted_bears f.0 f.1))
