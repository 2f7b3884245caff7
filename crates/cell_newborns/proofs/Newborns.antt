-- What is born where a number is free.
use Rattle.std.proofs.Common.{◌≡◌, ℕ, ◌+◌, ◌<◌, ◌≤◌, Bool, true, nat_lt, if◌then◌else◌, length, Option, Some, None, refl, sym, ap, subst, ◌∙◌, arith}
use Rattle.std.proofs.lemmas.Bool.Decides.{nat_tests}
use Rattle.base_types.specs.declared.histories.Answer.TheVariants.{Reply as Replied}
use Rattle.base_types.specs.declared.instructions.Instr.{Instr}
use Rattle.base_types.specs.declared.instructions.Instr.TheVariants.{Make, Spawn}
use Rattle.base_types.specs.declared.instructions.Reply.{Reply}
use Rattle.cell_states.specs.model_kernel.Acts.{wanted}
use Rattle.cell_states.specs.model_kernel.Outcomes.{Outcome, free_container, free_locus, make, make_at, made_container, outcome, spawn, spawn_at, spawned, supplied}
use Rattle.cell_states.specs.model_kernel.Refusals.{instr_at, refusal, reg}
use Rattle.cell_states.specs.model_kernel.State.{Supply, AtlasState, ContainerState, LocusState, Cell, AtlasCell, ContainerCell, LocusCell}
use Rattle.cell_states.specs.act_alone.Loci.{container_with}
use Rattle.cell_states.specs.act_alone.declared.loci.Head.{Head}
use Rattle.cell_states.specs.act_alone.declared.loci.Locus.{Locus}
use Rattle.cell_states.specs.act_calls.Calls.{AtlasCallMade, WantsBirth, born_head, born_locus, is_make, is_spawn}
use Rattle.cell_states.proofs.act_calls_lemmas.BirthLemmas.{birth_allowed, birth_instr, make_allowed, make_made, spawn_made}
use Rattle.cell_states.specs.Cells.{locus_cell}
use Rattle.cell_newborns.specs.Bearing.{MakesNewborn}

none_some : {A : Type 0} {x : A} → None ≡ Some x → ⊥
none_some e = cc

-- CONTAINERS

-- a new container with 1 to 256 pages
pub record IsNewState (c : ContainerState) : Type 0 where
  pub some : 1 ≤ c.pages
  pub few : c.pages ≤ 256

make_bears : (s : Supply) (l : LocusState) (a : AtlasState) (d n t : ℕ) (entry : Option ℕ) → length a.containers < 40 → 1 ≤ reg l n → reg l n ≤ 256
    → (c : ContainerState) × ((make s l a d (reg l n) (reg l t) entry).newborn ≡ Some (length a.containers + 1, ContainerCell c)) × IsNewState c
unfolding make
make_bears s l a d n t entry lt some few =
    let is : nat_lt (length a.containers) 40 ≡ true = grind (arith, nat_tests) in
    let free : free_container a ≡ Some (length a.containers + 1) = ap (λ (b : Bool). if b then Some (length a.containers + 1) else None) is in
    (made_container s l (reg l n) (reg l t) entry, ap (λ o. (make_at s l a d (reg l n) (reg l t) entry o).newborn) free, record { some = some; few = few })

-- what the wanted birth bears
pub bears_container : (s : Supply) (me : ℕ) (l : LocusState) (a : AtlasState) (cell : Cell) → WantsBirth is_make l → length a.containers < 40
    → (c : ContainerState) × ((outcome s l (wanted me l) a cell).newborn ≡ Some (length a.containers + 1, ContainerCell c)) × IsNewState c
bears_container s me l a cell h lt = by (instr_at l) refl (birth_instr is_make l h)
  where
    by : (i : Instr) → instr_at l ≡ i → is_make i ≡ true → (c : ContainerState) × ((outcome s l (wanted me l) a cell).newborn ≡ Some (length a.containers + 1, ContainerCell c)) × IsNewState c
    by (Make d n t entry) is kind =
        let may = make_allowed l d n t entry (ap (refusal l) (sym is) ∙ birth_allowed is_make l h) in
        let b = make_bears s l a d n t entry lt may.some may.few in
        (b.0, ap (λ (o : Outcome). o.newborn) (make_made l d n t entry h is me s a cell) ∙ b.1, b.2)
    by i is kind = cc

-- so a head was made, with as many pages
pub born_some : (s : Supply) (a : AtlasState) (x : ℕ) (c : ContainerState) → born_head s a None ≡ Some (x, ContainerCell c) → ⊥
born_some s a x c e = none_some e

same_container : (x y : ℕ) (b c : ContainerState) → ◌≡◌ {A = Option (ℕ × Cell)} (Some (x, ContainerCell b)) (Some (y, ContainerCell c)) → b ≡ c
same_container x y b c e =
    let pairs : ◌≡◌ {A = ℕ × Cell} (x, ContainerCell b) (y, ContainerCell c) = cc in
    let cells : ContainerCell b ≡ ContainerCell c = ap (λ (p : ℕ × Cell). p.1) pairs in
    inside cells
  where
    inside : ContainerCell b ≡ ContainerCell c → b ≡ c
    inside e = cc

pub head_pages : (s : Supply) (a : AtlasState) (h : Head) (x : ℕ) (c : ContainerState) → born_head s a (Some h) ≡ Some (x, ContainerCell c) → IsNewState c → (1 ≤ h.pages) × (h.pages ≤ 256)
head_pages s a h x c e new =
    let same : container_with (supplied s h.tag) h ≡ c = same_container (length a.containers + 1) x (container_with (supplied s h.tag) h) c e in
    let pages : h.pages ≡ c.pages = ap (λ (c : ContainerState). c.pages) same in
    (subst (λ n. 1 ≤ n) (sym pages) new.some, subst (λ n. n ≤ 256) (sym pages) new.few)

-- LOCI

spawn_bears : (l : LocusState) (a : AtlasState) (d place : ℕ) → length a.loci < 23 → (spawn l a d place).newborn ≡ Some (length a.loci + 41, LocusCell (spawned l place))
unfolding spawn
spawn_bears l a d place lt =
    let is : nat_lt (length a.loci) 23 ≡ true = grind (arith, nat_tests) in
    let free : free_locus a ≡ Some (length a.loci + 41) = ap (λ (b : Bool). if b then Some (length a.loci + 41) else None) is in
    ap (λ o. (spawn_at l a d place o).newborn) free

pub bears_locus : (s : Supply) (me : ℕ) (l : LocusState) (a : AtlasState) (cell : Cell) → WantsBirth is_spawn l → length a.loci < 23
    → (m : LocusState) × ((outcome s l (wanted me l) a cell).newborn ≡ Some (length a.loci + 41, LocusCell m))
bears_locus s me l a cell h lt = by (instr_at l) refl (birth_instr is_spawn l h)
  where
    by : (i : Instr) → instr_at l ≡ i → is_spawn i ≡ true → (m : LocusState) × ((outcome s l (wanted me l) a cell).newborn ≡ Some (length a.loci + 41, LocusCell m))
    by (Spawn d p) is kind = (spawned l p, ap (λ (o : Outcome). o.newborn) (spawn_made l d p h is me s a cell) ∙ spawn_bears l a d p lt)
    by i is kind = cc

pub makes_locus : (o : Outcome) (a b : AtlasState) (m n : LocusState) (reply : Reply) (newborn : Option Locus) → AtlasCallMade o m reply b None (born_locus a newborn) → o.newborn ≡ Some (length a.loci + 41, LocusCell n)
    → MakesNewborn o (LocusCell m) (AtlasCell b) (locus_cell newborn) (length a.loci + 41) (Replied reply)
makes_locus o a b m n reply (Some l) made bears = record { locus_made = ap LocusCell made.locus; answers = made.answer; atlas_made = ap AtlasCell made.atlas; no_other = made.other; newborn_made = made.newborn }
makes_locus o a b m n reply None made bears = absurd (none_some (sym made.newborn ∙ bears))

-- ONE LOCUS, ONE DIRECTORY

-- what is told of the locus of a part is told of the locus that the part is
pub of_locus : (P : LocusState → Type 0) (l m : LocusState) → LocusCell l ≡ LocusCell m → P l → P m
of_locus P l m e = subst P (same l m e)
  where
    same : (l m : LocusState) → LocusCell l ≡ LocusCell m → l ≡ m
    same l m e = cc

pub of_atlas : (P : AtlasState → Type 0) (a b : AtlasState) → AtlasCell a ≡ AtlasCell b → P a → P b
of_atlas P a b e = subst P (same a b e)
  where
    same : (a b : AtlasState) → AtlasCell a ≡ AtlasCell b → a ≡ b
    same a b e = cc
