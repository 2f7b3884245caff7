-- What a step writes: the locus itself, and what a snap names. What no entry writes stays.
use Rattle.std.proofs.Common.{◌≡◌, ℕ, Bool, true, false, ◌&&◌, ◌||◌, ◌==◌, nat_lt, if◌then◌else◌, List, [], ◌∷◌, Option, Some, None, is_some, option_map, refl, sym, ap, subst, ◌∙◌, eqb-true, eq-eqb}
use Rattle.std.specs.List.{list_any}
use Rattle.std.proofs.lemmas.Bool.{false≢true}
use Rattle.model_cut_laws.specs.base_types.declared.capabilities.Right.{Right}
use Rattle.model_cut_laws.specs.base_types.declared.histories.Answer.{Answer}
use Rattle.model_cut_laws.specs.base_types.declared.histories.Answer.TheVariants.{Reply as Replied}
use Rattle.model_cut_laws.specs.base_types.declared.histories.Entry.{Entry}
use Rattle.model_cut_laws.specs.base_types.declared.histories.Event.TheVariants.{Step}
use Rattle.model_cut_laws.specs.base_types.declared.instructions.Instr.{Instr}
use Rattle.model_cut_laws.specs.base_types.declared.instructions.Instr.TheVariants.{Snap}
use Rattle.model_cut_laws.specs.base_types.declared.instructions.Reply.{Reply}
use Rattle.model_cut_laws.specs.base_types.declared.instructions.Reply.TheVariants.{Ok, NoSlot, Denied}
use Rattle.model_cut_laws.specs.model_kernel.State.{Supply, LocusState, Cell, LocusCell, KernelState, AtlasState}
use Rattle.model_cut_laws.specs.model_kernel.Words.{first}
use Rattle.model_cut_laws.specs.model_kernel.Refusals.{instr_at, entity_of, refusal, lacks, named}
use Rattle.model_cut_laws.specs.model_kernel.Acts.{Act, alone, beside, act_by, allowed, wanted}
use Rattle.model_cut_laws.specs.model_kernel.Outcomes.{Outcome, outcome, on_cell}
use Rattle.model_cut_laws.specs.model_kernel.Changes.{Access, merged, insert_access, ordered, touches_of, carried}
use Rattle.model_cut_laws.specs.model_kernel.Steps.{with_atlas_access, with_other_access, with_newborn_access, accesses_of, outcome_in, change_of, running, numbered_change, step_change, step}
use Rattle.model_cut_laws.specs.model_kernel.Scripts.{Script}
use Rattle.model_cut_laws.specs.model_kernel.Parts.{after_entry, IsNext}
use Rattle.model_cut_laws.specs.model_kernel.Histories.{Policy, event_of, writes, asks, asked_by, locus_in}
use Rattle.model_cut_laws.proofs.model_kernel_lemmas.Basics.{both, some_of_map, or_left, or_right}
use Rattle.model_cut_laws.proofs.model_kernel_lemmas.LegalRuns.{event_of_local, event_of_stamped}
use Rattle.model_cut_laws.proofs.model_kernel_lemmas.StepTallies.{running_is}
use Rattle.model_cut_laws.proofs.model_kernel_lemmas.Unwritten.{stays}

-- ACCESSES

abbrev pub writes_at : ℕ → Access → Bool
writes_at x m = m.entity == x && is_some m.new

abbrev pub writes_in : List Access → ℕ → Bool
writes_in [] x = false
writes_in (m ∷ ms) x = writes_at x m || writes_in ms x

touches_write : (w : KernelState) (ms : List Access) (x : ℕ) → list_any (λ t. t.entity == x && t.wrote) (touches_of w ms) ≡ writes_in ms x
touches_write w [] x = refl
touches_write w (m ∷ ms) x = ap (λ b. writes_at x m || b) (touches_write w ms x)

merged_left : (m n : Access) (x : ℕ) → (m.entity == n.entity) ≡ true → writes_at x m ≡ true → writes_at x (merged m n) ≡ true
merged_left m n x same h =
    elim (is_some n.new) as (λ b. is_some n.new ≡ b → writes_at x (if◌then◌else◌ {A = Access} b n m) ≡ true) [
      | true ↦ λ some. both (n.entity == x) (is_some n.new) (ap (λ y. y == x) (sym (eqb-true _ _ same)) ∙ first_of (m.entity == x) (is_some m.new) h) some
      | false ↦ λ none. h
    ] refl
  where
    first_of : (a b : Bool) → (a && b) ≡ true → a ≡ true
    first_of true b h = refl
    first_of false b h = h

merged_right : (m n : Access) (x : ℕ) → writes_at x n ≡ true → writes_at x (merged m n) ≡ true
merged_right m n x h =
    elim (is_some n.new) as (λ b. is_some n.new ≡ b → writes_at x (if◌then◌else◌ {A = Access} b n m) ≡ true) [
      | true ↦ λ some. h
      | false ↦ λ none. absurd (false≢true (sym none ∙ second_of (n.entity == x) (is_some n.new) h))
    ] refl
  where
    second_of : (a b : Bool) → (a && b) ≡ true → b ≡ true
    second_of true b h = h
    second_of false b h = cc

insert_first : (m : Access) (ns : List Access) (x : ℕ) → writes_at x m ≡ true → writes_in (insert_access m ns) x ≡ true
insert_first m [] x h = or_left (writes_at x m) false h
insert_first m (n ∷ ns) x h =
    elim (nat_lt m.entity n.entity) as (λ b. writes_in (if b then m ∷ n ∷ ns else if m.entity == n.entity then merged m n ∷ ns else n ∷ insert_access m ns) x ≡ true) [
      | true ↦ or_left (writes_at x m) (writes_in (n ∷ ns) x) h
      | false ↦ elim (m.entity == n.entity) as (λ b. (m.entity == n.entity) ≡ b → writes_in (if b then merged m n ∷ ns else n ∷ insert_access m ns) x ≡ true) [
        | true ↦ λ same. or_left (writes_at x (merged m n)) (writes_in ns x) (merged_left m n x same h)
        | false ↦ λ _. or_right (writes_at x n) (writes_in (insert_access m ns) x) (insert_first m ns x h)
      ] refl
    ]

insert_rest : (m : Access) (ns : List Access) (x : ℕ) → writes_in ns x ≡ true → writes_in (insert_access m ns) x ≡ true
insert_rest m [] x h = cc
insert_rest m (n ∷ ns) x h =
    elim (nat_lt m.entity n.entity) as (λ b. writes_in (if b then m ∷ n ∷ ns else if m.entity == n.entity then merged m n ∷ ns else n ∷ insert_access m ns) x ≡ true) [
      | true ↦ or_right (writes_at x m) (writes_in (n ∷ ns) x) h
      | false ↦ elim (m.entity == n.entity) as (λ b. writes_in (if b then merged m n ∷ ns else n ∷ insert_access m ns) x ≡ true) [
        | true ↦ by_first (writes_at x n) refl h
        | false ↦ by_either (insert_rest m ns x) h
      ]
    ]
  where
    by_first : (b : Bool) → writes_at x n ≡ b → (b || writes_in ns x) ≡ true → (writes_at x (merged m n) || writes_in ns x) ≡ true
    by_first true e h = or_left (writes_at x (merged m n)) (writes_in ns x) (merged_right m n x e)
    by_first false e h = or_right (writes_at x (merged m n)) (writes_in ns x) h

    by_either : (writes_in ns x ≡ true → writes_in (insert_access m ns) x ≡ true) → (writes_at x n || writes_in ns x) ≡ true → (writes_at x n || writes_in (insert_access m ns) x) ≡ true
    by_either rest h = elim (writes_at x n) as (λ q. (q || writes_in ns x) ≡ true → (q || writes_in (insert_access m ns) x) ≡ true) [ true ↦ λ _. refl | false ↦ λ k. rest k ] h

ordered_writes : (ms : List Access) (x : ℕ) → writes_in ms x ≡ true → writes_in (ordered ms) x ≡ true
ordered_writes [] x h = h
ordered_writes (m ∷ ms) x h = elim (writes_at x m) as (λ b. writes_at x m ≡ b → (b || writes_in ms x) ≡ true → writes_in (insert_access m (ordered ms)) x ≡ true) [
  | true ↦ λ is _. insert_first m (ordered ms) x is
  | false ↦ λ _ k. insert_rest m (ordered ms) x (ordered_writes ms x k)
] refl h

-- THE ACCESSES OF A STEP

newborn_writes : (newborn : Option (ℕ × Cell)) (rest : List Access) (x : ℕ) → writes_in rest x ≡ true → writes_in (with_newborn_access newborn rest) x ≡ true
newborn_writes None rest x h = h
newborn_writes (Some b) rest x h = or_right _ (writes_in rest x) h

other_writes : (other : Option ℕ) (cell : Option Cell) (rest : List Access) (x : ℕ) → writes_in rest x ≡ true → writes_in (with_other_access other cell rest) x ≡ true
other_writes None cell rest x h = h
other_writes (Some y) cell rest x h = or_right _ (writes_in rest x) h

atlas_writes : (b : Bool) (a : AtlasState) (rest : List Access) (x : ℕ) → writes_in rest x ≡ true → writes_in (with_atlas_access b a rest) x ≡ true
atlas_writes true a rest x h = or_right _ (writes_in rest x) h
atlas_writes false a rest x h = h

-- the locus itself
own_write : (me : ℕ) (act : Act) (o : Outcome) → writes_in (accesses_of me act o) me ≡ true
own_write me act o =
    atlas_writes act.atlas o.atlas _ me (other_writes act.other o.other _ me (newborn_writes o.newborn _ me (both_true (me == me) (eq-eqb me me refl))))
  where
    both_true : (b : Bool) → b ≡ true → ((b && true) || false) ≡ true
    both_true true e = refl
    both_true false e = e

-- what is beside it, where it is written
beside_write : (me x : ℕ) (i : Instr) (o : Outcome) (c : Cell) → o.other ≡ Some c → writes_in (accesses_of me (beside i x) o) x ≡ true
beside_write me x i o c is = or_left (writes_at x (record { entity = x; new = o.other })) _ (both (x == x) (is_some o.other) (eq-eqb x x refl) (ap is_some is))

-- only a snap that is answered Ok asks
asks_only : (answer : Answer) (i : Instr) (l : LocusState) (x : ℕ) → asks answer i l ≡ Some x → (answer ≡ Replied Ok) × (c : ℕ) × (i ≡ Snap c) × (entity_of l c ≡ x)
asks_only (Replied Ok) (Snap c) l x e = (refl, c, refl, cc)
asks_only answer i l x e = cc

-- a refusal of a snap is not Ok
not_ok : (l : LocusState) (c : ℕ) → refusal l (Snap c) ≡ Some Ok → ⊥
unfolding refusal
not_ok l c e = by_slot (is_some (named l c)) e
  where
    by_rights : (o : Option Reply) → ((r : Reply) → o ≡ Some r → (n : Right) × (r ≡ Denied n)) → first (o ∷ []) ≡ Some Ok → ⊥
    by_rights None h e = cc
    by_rights (Some r) h e = (let k = h r refl in let same : r ≡ Ok = cc in no k.0 (sym k.1 ∙ same))
      where
        no : (n : Right) → Denied n ≡ Ok → ⊥
        no n e = cc

    denied_is : (o : Option Right) (r : Reply) → option_map Denied o ≡ Some r → (n : Right) × (r ≡ Denied n)
    denied_is None r e = cc
    denied_is (Some n) r e = (n, cc)

    by_slot : (b : Bool) → first ((if b then None else Some NoSlot) ∷ lacks l c 32 ∷ []) ≡ Some Ok → ⊥
    by_slot true e = by_rights (lacks l c 32) (λ r h. denied_is _ r h) e
    by_slot false e = cc

module _ (s : Supply) (me : ℕ) (l : LocusState) (a : AtlasState) (cell : Cell) where
  snap_writes : (c : ℕ) (refused : Option Reply) → refusal l (Snap c) ≡ refused → (outcome s l (act_by me l (Snap c) refused) a cell).answer ≡ Replied Ok
      → writes_in (accesses_of me (act_by me l (Snap c) refused) (outcome s l (act_by me l (Snap c) refused) a cell)) (entity_of l c) ≡ true
  unfolding outcome allowed on_cell
  snap_writes c (Some why) is e = absurd (not_ok l c (is ∙ ap Some (reply_is why e)))
    where
      reply_is : (why : Reply) → Replied why ≡ Replied Ok → why ≡ Ok
      reply_is why e = cc
  snap_writes c None is e =
      elim (entity_of l c == me) as (λ b. (entity_of l c == me) ≡ b → writes_in (accesses_of me (if b then alone (Snap c) None else beside (Snap c) (entity_of l c)) (outcome s l (if b then alone (Snap c) None else beside (Snap c) (entity_of l c)) a cell)) (entity_of l c) ≡ true) [
        | true ↦ λ at. (let o = outcome s l (alone (Snap c) None) a cell in subst (λ y. writes_in (accesses_of me (alone (Snap c) None) o) y ≡ true) (sym (eqb-true _ _ at)) (own_write me (alone (Snap c) None) o))
        | false ↦ λ _. beside_write me (entity_of l c) (Snap c) (outcome s l (beside (Snap c) (entity_of l c)) a cell) cell refl
      ] refl

  asked_writes : (x : ℕ) → asks (outcome s l (wanted me l) a cell).answer (instr_at l) l ≡ Some x → writes_in (accesses_of me (wanted me l) (outcome s l (wanted me l) a cell)) x ≡ true
  unfolding wanted
  asked_writes x e = by_instr (instr_at l) e
    where
      by_instr : (i : Instr) → asks (outcome s l (act_by me l i (refusal l i)) a cell).answer i l ≡ Some x → writes_in (accesses_of me (act_by me l i (refusal l i)) (outcome s l (act_by me l i (refusal l i)) a cell)) x ≡ true
      by_instr i e =
          let k = asks_only (outcome s l (act_by me l i (refusal l i)) a cell).answer i l x e in
          subst (λ y. writes_in (accesses_of me (act_by me l i (refusal l i)) (outcome s l (act_by me l i (refusal l i)) a cell)) y ≡ true) k.3
          (subst (λ j. (outcome s l (act_by me l j (refusal l j)) a cell).answer ≡ Replied Ok → writes_in (accesses_of me (act_by me l j (refusal l j)) (outcome s l (act_by me l j (refusal l j)) a cell)) (entity_of l k.1) ≡ true)
          (sym k.2) (snap_writes k.1 (refusal l (Snap k.1)) refl) k.0)

-- a step's entry
pub record IsStep (s : Supply) (me : ℕ) (w : KernelState) (e : Entry) : Type 0 where
  pub locus : LocusState
  pub there : (w me).cell ≡ LocusCell locus
  pub entry : e ≡ (carried w Step me (change_of s w me locus)).0

pub step_is : (s : Supply) (me : ℕ) (w : KernelState) (e : Entry) → option_map (λ (r : Entry × KernelState). r.0) (step s me w) ≡ Some e → IsStep s me w e
unfolding step_change
step_is s me w e made =
    let r = some_of_map (λ (r : Entry × KernelState). r.0) (step s me w) e made in
    let change = some_of_map (λ (c : ℕ × Rattle.model_cut_laws.specs.model_kernel.Changes.Change). carried w Step c.0 c.1) (step_change s me w) r.0 r.1 in
    let locus = some_of_map (numbered_change s me w) (running (w me).cell) change.0 change.1 in
    record {
      locus = locus.0;
      there = running_is (w me).cell locus.0 locus.1;
      entry = sym r.2 ∙ ap (λ (q : Entry × KernelState). q.0) (sym change.2) ∙ ap (λ (c : ℕ × Rattle.model_cut_laws.specs.model_kernel.Changes.Change). (carried w Step c.0 c.1).0) (sym locus.2);
    }

-- a step writes its locus
pub step_writes_own : (s : Supply) (me : ℕ) (w : KernelState) (e : Entry) → IsStep s me w e → writes e me ≡ true
unfolding change_of
step_writes_own s me w e k =
    let l = k.locus in
    let act = wanted me l in
    let o = outcome_in s l act w in
    ap (λ (e : Entry). writes e me) k.entry ∙ touches_write w (ordered (accesses_of me act o)) me ∙ ordered_writes (accesses_of me act o) me (own_write me act o)

-- and what its snap asks for
pub step_writes_asked : (s : Supply) (me : ℕ) (w : KernelState) (e : Entry) (x : ℕ) → IsStep s me w e → asked_by e.answer (locus_in (w me).cell) ≡ Some x → writes e x ≡ true
unfolding change_of
step_writes_asked s me w e x k asked =
    let l = k.locus in
    let act = wanted me l in
    let o = outcome_in s l act w in
    let here : asks o.answer (instr_at l) l ≡ Some x = ap (λ (e : Entry). asks e.answer (instr_at l) l) (sym k.entry) ∙ ap (λ c. asked_by e.answer (locus_in c)) (sym k.there) ∙ asked in
    ap (λ (e : Entry). writes e x) k.entry ∙ touches_write w (ordered (accesses_of me act o)) x ∙ ordered_writes (accesses_of me act o) x (asked_writes s me l _ _ x here)

-- WHAT NO ENTRY WRITES STAYS

pub entry_stays : (s : Supply) (policy : Policy) (script : Script) (w : KernelState) (e : Entry) → IsNext (event_of s script) w e → (x : ℕ) → writes e x ≡ false → after_entry (event_of s script) w e x ≡ w x
entry_stays s policy script = stays (event_of s script) (event_of_local s policy script) (event_of_stamped s policy script)
