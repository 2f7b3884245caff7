-- What births by a program make.
use Rattle.std.proofs.Common.{◌≡◌, ℕ, ◌+◌, ◌≤◌, nat_lt, nat_le, ◌&&◌, Bool, true, false, if◌then◌else◌, List, [], ◌∷◌, ◌++◌, length, replicate, Option, Some, None, is_some, MatchOption, Result, Ok, Err, refl, sym, ap, ◌∙◌, subst, arith}
use Rattle.std.proofs.lemmas.Bool.Decides.{nat_tests}
use Rattle.base_types.specs.declared.entities.Kind.{Kind}
use Rattle.base_types.specs.declared.entities.Kind.TheVariants.{Container, Locus}
use Rattle.base_types.specs.declared.instructions.Instr.{Instr}
use Rattle.base_types.specs.declared.instructions.Instr.TheVariants.{Make, Spawn}
use Rattle.base_types.specs.declared.instructions.Reply.{Reply}
use Rattle.base_types.specs.declared.instructions.Reply.TheVariants.{NoNumber, NoPage, ListFull}
use Rattle.base_types.specs.declared.instructions.Reply.TheVariants.{Ok as Fine}
use Rattle.act_invoke.specs.model_kernel.State.{Supply, AtlasState, ContainerState, LocusState, Cell, ContainerCell, LocusCell}
use Rattle.act_invoke.specs.model_kernel.Acts.{bearing, allowed, wanted}
use Rattle.act_invoke.specs.model_kernel.Outcomes.{Outcome, outcome, with_newborn, with_atlas, make, make_at, spawn, spawn_at, born, holding, finish, free_container, free_locus, made_name, made_container, spawned}
use Rattle.act_invoke.specs.model_kernel.Refusals.{instr_at, refusal, reg, no_free_slot}
use Rattle.act_invoke.specs.model_kernel.Words.{unless, free_slot}
use Rattle.data_atlas.specs.data_atlas_facts.Directory.{Directory, free_number, with_entity}
use Rattle.data_atlas.specs.data_atlas_facts.Directory.{made_name as directory_name}
use Rattle.act_invoke.proofs.model_acts_lemmas.Allowed.{unless_none, first_none}
use Rattle.act_invoke.proofs.model_act_facts_lemmas.Alone.{wanted_says, wanted_allowed}
use Rattle.act_calls.specs.Calls.{is_make, is_spawn, atlas_state, WantsBirth, AtlasCallMade}

-- a new container by its parts
abbrev pub new_state : (ℕ → ℕ) → ℕ → ℕ → Option ℕ → List Instr → ContainerState
new_state words pages tag entry code = record { pages = pages; tag = tag; every = 0; entry = entry; code = code; regions = []; caps = replicate 32 None; words = words }

-- WHAT THE DIRECTORY ANSWERS

clash : {A E : Type 0} {x : A} {y : E} → Ok x ≡ Err y → ⊥
clash e = cc

module _ (old new : Directory) (kind : Kind) (r : Result ℕ Reply) (made : MatchOption (free_number old kind) ((r ≡ Err NoNumber) × (new ≡ old)) (λ n. (r ≡ Ok n) × (new ≡ with_entity old kind (directory_name n)))) where
  pub birth_some : (n : ℕ) → r ≡ Ok n → (free_number old kind ≡ Some n) × (new ≡ with_entity old kind (directory_name n))
  birth_some n is = by (free_number old kind) refl made
    where
      by : (o : Option ℕ) → free_number old kind ≡ o → MatchOption o ((r ≡ Err NoNumber) × (new ≡ old)) (λ n. (r ≡ Ok n) × (new ≡ with_entity old kind (directory_name n))) → (free_number old kind ≡ Some n) × (new ≡ with_entity old kind (directory_name n))
      by None e m = absurd (clash (sym is ∙ m.0))
      by (Some k) e m = let same : k ≡ n = cc in (e ∙ ap Some same, m.1 ∙ ap (λ j. with_entity old kind (directory_name j)) same)

  pub birth_none : ((n : ℕ) → r ≡ Ok n → ⊥) → (free_number old kind ≡ None) × (new ≡ old)
  birth_none other = by (free_number old kind) refl made
    where
      by : (o : Option ℕ) → free_number old kind ≡ o → MatchOption o ((r ≡ Err NoNumber) × (new ≡ old)) (λ n. (r ≡ Ok n) × (new ≡ with_entity old kind (directory_name n))) → (free_number old kind ≡ None) × (new ≡ old)
      by None e m = (e, m.1)
      by (Some k) e m = absurd (other k m.0)

-- the number is the lowest free one
pub container_number : (a : AtlasState) (x : ℕ) → free_container a ≡ Some x → x ≡ length a.containers + 1
container_number a x e = by (nat_lt (length a.containers) 40) e
  where
    by : (b : Bool) → (if b then Some (length a.containers + 1) else None) ≡ Some x → x ≡ length a.containers + 1
    by true e = cc
    by false e = cc

locus_number : (a : AtlasState) (x : ℕ) → free_locus a ≡ Some x → x ≡ length a.loci + 41
locus_number a x e = by (nat_lt (length a.loci) 23) e
  where
    by : (b : Bool) → (if b then Some (length a.loci + 41) else None) ≡ Some x → x ≡ length a.loci + 41
    by true e = cc
    by false e = cc

-- THE CASES

make_none : (s : Supply) (l : LocusState) (a : AtlasState) (d pages tag : ℕ) (entry : Option ℕ) → free_container a ≡ None → make s l a d pages tag entry ≡ with_atlas l NoNumber a None
unfolding make
make_none s l a d pages tag entry none = ap (make_at s l a d pages tag entry) none

make_some : (s : Supply) (l : LocusState) (a : AtlasState) (d pages tag : ℕ) (entry : Option ℕ) (x : ℕ) → free_container a ≡ Some x
    → make s l a d pages tag entry ≡ born l d (record a { containers = a.containers ++ made_name x ∷ [] }) x (ContainerCell (made_container s l pages tag entry))
unfolding make
make_some s l a d pages tag entry x some = ap (make_at s l a d pages tag entry) some

spawn_none : (l : LocusState) (a : AtlasState) (d place : ℕ) → free_locus a ≡ None → spawn l a d place ≡ with_atlas l NoNumber a None
unfolding spawn
spawn_none l a d place none = ap (spawn_at l a d place) none

spawn_some : (l : LocusState) (a : AtlasState) (d place x : ℕ) → free_locus a ≡ Some x → spawn l a d place ≡ born l d (record a { loci = a.loci ++ made_name x ∷ [] }) x (LocusCell (spawned l place))
unfolding spawn
spawn_some l a d place x some = ap (spawn_at l a d place) some

pub atlas_as : (o p : Outcome) (m : LocusState) (reply : Reply) (a : AtlasState) (cell : Option Cell) (newborn : Option (ℕ × Cell)) → o ≡ p → AtlasCallMade p m reply a cell newborn → AtlasCallMade o m reply a cell newborn
atlas_as o p m reply a cell newborn same h = subst (λ (q : Outcome). AtlasCallMade q m reply a cell newborn) (sym same) h

pub atlas_refused : (o : Outcome) (l m : LocusState) (reply result : Reply) (a b : AtlasState) (cell : Option Cell) → o ≡ with_atlas l reply a cell → m ≡ finish l reply → result ≡ reply → b ≡ a → AtlasCallMade o m result b cell None
atlas_refused o l m reply result a b cell same locus is atlas =
    atlas_as o (with_atlas l reply a cell) m result b cell None same
    (subst (λ (r : Reply). AtlasCallMade (with_atlas l reply a cell) m r b cell None) (sym is) (record { locus = locus; answer = refl; atlas = atlas; other = refl; newborn = refl }))

pub make_refused : (s : Supply) (l m : LocusState) (old new : Directory) (d pages tag : ℕ) (entry : Option ℕ) (result : Reply) → (free_number old Container ≡ None) × (new ≡ old) → m ≡ finish l NoNumber → result ≡ NoNumber
    → AtlasCallMade (make s l (atlas_state old) d pages tag entry) m result (atlas_state new) None None
make_refused s l m old new d pages tag entry result none locus is =
    atlas_refused _ l m NoNumber result (atlas_state old) (atlas_state new) None (make_none s l (atlas_state old) d pages tag entry none.0) locus is (ap atlas_state none.1)

pub spawn_refused : (l m : LocusState) (old new : Directory) (d place : ℕ) (result : Reply) → (free_number old Locus ≡ None) × (new ≡ old) → m ≡ finish l NoNumber → result ≡ NoNumber
    → AtlasCallMade (spawn l (atlas_state old) d place) m result (atlas_state new) None None
spawn_refused l m old new d place result none locus is =
    atlas_refused _ l m NoNumber result (atlas_state old) (atlas_state new) None (spawn_none l (atlas_state old) d place none.0) locus is (ap atlas_state none.1)

pub make_born : (s : Supply) (l m : LocusState) (old new : Directory) (d pages tag : ℕ) (entry : Option ℕ) (x : ℕ) (c : ContainerState) (result : Reply)
    → (free_number old Container ≡ Some x) × (new ≡ with_entity old Container (directory_name x)) → c ≡ made_container s l pages tag entry → m ≡ finish (holding l d x) Fine → result ≡ Fine
    → AtlasCallMade (make s l (atlas_state old) d pages tag entry) m result (atlas_state new) None (Some (length old.containers + 1, ContainerCell c))
make_born s l m old new d pages tag entry x c result some cell locus is =
    let a = atlas_state old in
    let b = record a { containers = a.containers ++ made_name x ∷ [] } in
    let o = born l d b x (ContainerCell (made_container s l pages tag entry)) in
    let number = container_number a x some.0 in
    atlas_as _ o m result (atlas_state new) None (Some (length old.containers + 1, ContainerCell c)) (make_some s l a d pages tag entry x some.0)
    (subst (λ (r : Reply). AtlasCallMade o m r (atlas_state new) None (Some (length old.containers + 1, ContainerCell c))) (sym is)
    (record { locus = locus; answer = refl; atlas = ap atlas_state some.1; other = refl; newborn = λ i. Some (number i, ContainerCell (sym cell i)) }))

pub spawn_born : (l m : LocusState) (old new : Directory) (d place x : ℕ) (n : LocusState) (result : Reply)
    → (free_number old Locus ≡ Some x) × (new ≡ with_entity old Locus (directory_name x)) → n ≡ spawned l place → m ≡ finish (holding l d x) Fine → result ≡ Fine
    → AtlasCallMade (spawn l (atlas_state old) d place) m result (atlas_state new) None (Some (length old.loci + 41, LocusCell n))
spawn_born l m old new d place x n result some cell locus is =
    let a = atlas_state old in
    let b = record a { loci = a.loci ++ made_name x ∷ [] } in
    let o = born l d b x (LocusCell (spawned l place)) in
    let number = locus_number a x some.0 in
    atlas_as _ o m result (atlas_state new) None (Some (length old.loci + 41, LocusCell n)) (spawn_some l a d place x some.0)
    (subst (λ (r : Reply). AtlasCallMade o m r (atlas_state new) None (Some (length old.loci + 41, LocusCell n))) (sym is)
    (record { locus = locus; answer = refl; atlas = ap atlas_state some.1; other = refl; newborn = λ i. Some (number i, LocusCell (sym cell i)) }))

-- THE WANTED ACT

pub birth_instr : (is : Instr → Bool) (l : LocusState) → WantsBirth is l → is (instr_at l) ≡ true
birth_instr is l h = sym (ap is (wanted_says 64 l).instr) ∙ h.instr

pub birth_allowed : (is : Instr → Bool) (l : LocusState) → WantsBirth is l → refusal l (instr_at l) ≡ None
birth_allowed is l h = sym (wanted_says 64 l).refused ∙ h.allowed

pub make_shape : (i : Instr) → is_make i ≡ true → ((d n t : ℕ) (entry : Option ℕ) → i ≡ Make d n t entry → ⊥) → ⊥
make_shape (Make d n t entry) h other = other d n t entry refl
make_shape i h other = cc

pub spawn_shape : (i : Instr) → is_spawn i ≡ true → ((d p : ℕ) → i ≡ Spawn d p → ⊥) → ⊥
spawn_shape (Spawn d p) h other = other d p refl
spawn_shape i h other = cc

pub record MayMake (l : LocusState) (n : ℕ) : Type 0 where
  pub some : 1 ≤ reg l n
  pub few : reg l n ≤ 256
  pub free : is_some (free_slot l.caps) ≡ true

pub make_allowed : (l : LocusState) (d n t : ℕ) (entry : Option ℕ) → refusal l (Make d n t entry) ≡ None → MayMake l n
unfolding refusal
make_allowed l d n t entry none =
    let checks = first_none (unless (nat_lt 0 (reg l n) && nat_le (reg l n) 256) NoPage) (no_free_slot l ∷ []) none in
    let pages : (nat_lt 0 (reg l n) && nat_le (reg l n) 256) ≡ true = unless_none (nat_lt 0 (reg l n) && nat_le (reg l n) 256) NoPage checks.0 in
    record { some = grind (arith, nat_tests); few = grind (arith, nat_tests); free = unless_none (is_some (free_slot l.caps)) ListFull (first_none (no_free_slot l) [] checks.1).0 }

pub spawn_allowed : (l : LocusState) (d p : ℕ) → refusal l (Spawn d p) ≡ None → is_some (free_slot l.caps) ≡ true
unfolding refusal
spawn_allowed l d p none = unless_none (is_some (free_slot l.caps)) ListFull none

bears_make : (s : Supply) (l : LocusState) (a : AtlasState) (cell : Cell) (d n t : ℕ) (entry : Option ℕ) → outcome s l (bearing (Make d n t entry) Container) a cell ≡ make s l a d (reg l n) (reg l t) entry
unfolding outcome with_newborn
bears_make s l a cell d n t entry = refl

bears_spawn : (s : Supply) (l : LocusState) (a : AtlasState) (cell : Cell) (d p : ℕ) → outcome s l (bearing (Spawn d p) Locus) a cell ≡ spawn l a d p
unfolding outcome with_newborn
bears_spawn s l a cell d p = refl

allowed_make : (me : ℕ) (l : LocusState) (d n t : ℕ) (entry : Option ℕ) → allowed me l (Make d n t entry) ≡ bearing (Make d n t entry) Container
unfolding allowed
allowed_make me l d n t entry = refl

allowed_spawn : (me : ℕ) (l : LocusState) (d p : ℕ) → allowed me l (Spawn d p) ≡ bearing (Spawn d p) Locus
unfolding allowed
allowed_spawn me l d p = refl

pub make_made : (l : LocusState) (d n t : ℕ) (entry : Option ℕ) → WantsBirth is_make l → instr_at l ≡ Make d n t entry → (me : ℕ) (s : Supply) (a : AtlasState) (cell : Cell)
    → outcome s l (wanted me l) a cell ≡ make s l a d (reg l n) (reg l t) entry
make_made l d n t entry h is me s a cell =
    ap (λ w. outcome s l w a cell) (wanted_allowed me l (birth_allowed is_make l h) ∙ ap (allowed me l) is ∙ allowed_make me l d n t entry) ∙ bears_make s l a cell d n t entry

pub spawn_made : (l : LocusState) (d p : ℕ) → WantsBirth is_spawn l → instr_at l ≡ Spawn d p → (me : ℕ) (s : Supply) (a : AtlasState) (cell : Cell) → outcome s l (wanted me l) a cell ≡ spawn l a d p
spawn_made l d p h is me s a cell =
    ap (λ w. outcome s l w a cell) (wanted_allowed me l (birth_allowed is_spawn l h) ∙ ap (allowed me l) is ∙ allowed_spawn me l d p) ∙ bears_spawn s l a cell d p
