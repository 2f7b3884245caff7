-- The state that an image means is sound, with its versions, clocks and words.
use Rattle.std.proofs.Common.{◌≡◌, ℕ, suc, ◌≤◌, ◌<◌, Bool, true, false, ◌&&◌, ◌==◌, if◌then◌else◌, ◌↔◌, inl, inr, List, [], ◌∷◌, length, take, ◌/◌, Option, Some, None, refl, sym, ap, subst, ◌∙◌, arith, eqb-true}
use Rattle.std.specs.Prelude.{MatchOption, slice_get, slice_index}
use Rattle.std.proofs.lemmas.Bool.{and_parts, cases_eq, cases_lt, eq-eqb, false≢true}
use Rattle.std.proofs.lemmas.List.{get_or_past}
use Rattle.edge_disk.specs.Image.{Image, block_at}
use Rattle.base_types.specs.declared.records.Rec.{Rec}
use Rattle.image_meaning.proofs.model_kernel_lemmas.Lowering.{greatest_is}
use Rattle.image_meaning.specs.model_kernel.Choices.{Among, Commit, IsBelow, IsGreatest, IsNarrow}
use Rattle.image_meaning.specs.model_kernel.State.{AtlasCell, Cell, ContainerCell, ContainerState, EntityState, KernelState, LocusCell, NotBorn, Supply, empty_state, no_atlas}
use Rattle.image_meaning.specs.model_cut_laws.Agreeing.{nothing}
use Rattle.image_meaning.specs.model_cut_laws.Records.{commit_of, commits_of}
use Rattle.image_meaning.specs.image_facts.Checks.{count_in}
use Rattle.image_meaning.specs.image_facts.Logs.{IsInRange}
use Rattle.image_meaning.proofs.image_blocks_lemmas.Ranges.{ascending_law, in_range_law, rec_or}
use Rattle.image_meaning.specs.Meaning.{Accepted, Means, entity_of, state_of}
use Rattle.image_meaning.specs.Parts.{AtlasPart, ContainerPart, IsFormed, LocusPart, Part, Spells, cell_of, chosen, chosen_by, cut_of, word_in, words_in}
use Rattle.image_meaning.proofs.Finding.{passes, slot_of}
use Rattle.image_meaning.proofs.Sounding.{sound_parts, spelt_formed, spelt_taken}
use Rattle.image_state_laws.specs.Restoring.{MakeUpState}
use Rattle.image_state_laws.specs.Versions.{AreCutVersions}
use Rattle.model_sound_states.specs.States.{IsSoundState, IsSupplied}

abbrev is_some : {A : Type 0} → Option A → Bool
is_some None = false
is_some (Some x) = true

-- CHOSEN RECORDS

-- a record of this entity with the chosen version is found
found_by : (cut : ℕ → ℕ) (x : ℕ) (P : Commit → Type 0) (recs : List Rec) → Among (commits_of recs) (λ c. (c.entity ≡ x) × (c.version ≡ cut x) × P c) → is_some (chosen_by cut recs x) ≡ true
found_by cut x P [] some = absurd some
found_by cut x P (r ∷ recs) (inl (of, is, more)) = ap (λ b. is_some (if b then Some r else chosen_by cut recs x)) (ap (λ b. b && r.version == cut x) (eq-eqb r.entity x of) ∙ eq-eqb r.version (cut x) is)
found_by cut x P (r ∷ recs) (inr later) = by_test (r.entity == x && r.version == cut x) (found_by cut x P recs later)
  where
    by_test : (b : Bool) → is_some (chosen_by cut recs x) ≡ true → is_some (if b then Some r else chosen_by cut recs x) ≡ true
    by_test true later = refl
    by_test false later = later

-- the slot of a commit with a property
among_slot : (P : Commit → Type 0) (recs : List Rec) → Among (commits_of recs) P → (i : ℕ) × (r : Rec) × (slice_get recs i ≡ Some r) × P (commit_of r)
among_slot P [] some = absurd some
among_slot P (r ∷ recs) (inl here) = (0, r, refl, here)
among_slot P (r ∷ recs) (inr later) = next (among_slot P recs later)
  where
    next : (i : ℕ) × (q : Rec) × (slice_get recs i ≡ Some q) × P (commit_of q) → (i : ℕ) × (q : Rec) × (slice_get (r ∷ recs) i ≡ Some q) × P (commit_of q)
    next (i, q, here, has) = (suc i, q, here, has)

narrow_from : (recs : List Rec) → ((i : ℕ) (r : Rec) → slice_get recs i ≡ Some r → length r.stamp ≡ 64) → IsNarrow (commits_of recs)
narrow_from [] long = tt
narrow_from (r ∷ recs) long = ((λ y far. get_or_past r.stamp y 0 (let e = long 0 r refl in omega (arith, e, far))), narrow_from recs (λ i q. long (suc i) q))

module _ (count : ℕ) (recs : List Rec) (in_range : (i : ℕ) (r : Rec) → slice_get recs i ≡ Some r → IsInRange count (take i recs) r)
    (ascending : (i k : ℕ) (r q : Rec) → k < i → slice_get recs k ≡ Some q → slice_get recs i ≡ Some r → q.entity ≡ r.entity → q.version < r.version) where
  greatest : IsGreatest nothing (commits_of recs) (cut_of recs)
  greatest = greatest_is nothing (commits_of recs) (narrow_from recs (λ i r is. (in_range i r is).components))

  -- an entity without a chosen record is at version 0 of the cut
  cut_zero : (x : ℕ) → chosen recs x ≡ None → cut_of recs x ≡ 0
  cut_zero x none = elim (greatest.closed x) as (λ _. cut_of recs x ≡ 0) [
    | inl is ↦ is
    | inr some ↦ absurd (false≢true (sym (ap is_some none) ∙ found_by (cut_of recs) x (λ c. IsBelow c.stamp (cut_of recs)) recs some))
  ]

  module _ (x : ℕ) (r : Rec) (is : chosen recs x ≡ Some r) where
    test : (r.entity ≡ x) × (r.version ≡ cut_of recs x)
    test = let both = and_parts (r.entity == x) (r.version == cut_of recs x) (passes (cut_of recs) x recs r is) in (eqb-true r.entity x both.0, eqb-true r.version (cut_of recs x) both.1)

    slot : (i : ℕ) × (slice_get recs i ≡ Some r)
    slot = let s = slot_of (cut_of recs) x recs r is in (s.0, s.1)

    -- a record of the entity with this version is this one
    only : (i : ℕ) (q : Rec) → slice_get recs i ≡ Some q → q.entity ≡ x → q.version ≡ cut_of recs x → q ≡ r
    only i q here of version = elim (cases_eq i slot.0) as (λ _. q ≡ r) [
      | inl same ↦ ap (rec_or q) (sym here ∙ (ap (slice_get recs) same ∙ slot.1))
      | inr other ↦ elim (cases_lt i slot.0) as (λ _. q ≡ r) [
        | inl lt ↦
            (let less = ascending slot.0 i r q lt here slot.1 (of ∙ sym test.0) in
            let e = test.1 in
            absurd (omega (arith, less, version, e)))
        | inr ge ↦
            (let less = ascending i slot.0 q r (omega (arith, other, ge)) slot.1 here (test.0 ∙ sym of) in
            let e = test.1 in
            absurd (omega (arith, less, version, e)))
      ]
    ]

    -- no component of a chosen stamp is above the cut
    below : (y : ℕ) → slice_index r.stamp y ≤ cut_of recs y
    below y = elim (greatest.closed x) as (λ _. slice_index r.stamp y ≤ cut_of recs y) [
      | inl zero_is ↦ (let e : cut_of recs x ≡ 0 = zero_is in let at = test.1 in let some = (in_range slot.0 r slot.1).versions.0 in absurd (omega (arith, e, at, some)))
      | inr some ↦ by_slot (among_slot (λ c. (c.entity ≡ x) × (c.version ≡ cut_of recs x) × IsBelow c.stamp (cut_of recs)) recs some)
    ]
      where
        by_slot : (i : ℕ) × (q : Rec) × (slice_get recs i ≡ Some q) × ((q.entity ≡ x) × (q.version ≡ cut_of recs x) × IsBelow (slice_index q.stamp) (cut_of recs)) → slice_index r.stamp y ≤ cut_of recs y
        by_slot (i, q, here, (of, version, under)) = subst (λ (p : Rec). slice_index p.stamp y ≤ cut_of recs y) (only i q here of version) (under y)

-- an entity other than the atlas isn't born in the state of nothing
pub empty_cell : (x : ℕ) → 0 < x → (empty_state x).cell ≡ NotBorn
empty_cell x some = by_test (x == 0) refl
  where
    by_test : (b : Bool) → (x == 0) ≡ b → (if b then AtlasCell no_atlas else NotBorn) ≡ NotBorn
    by_test true e = absurd (let z : x ≡ 0 = eqb-true x 0 e in omega (arith, z, some))
    by_test false e = refl

-- THE STATE
module _ (s : Supply) (bytes : ℕ → List ℕ) (count : ℕ) (recs : List Rec) (parts : ℕ → Option Part) (u : MakeUpState count recs parts) where
  abbrev state : KernelState
  state = state_of s bytes recs parts

  abbrev Taken : ℕ → Option Rec → Type 0
  Taken x o = MatchOption o (parts x ≡ None) (λ _. (part : Part) × (parts x ≡ Some part))

  -- an entity is as in the state of nothing, or as a chosen record with its part says
  data Said (x : ℕ) (e : EntityState) : Type 0 where
    Nothing : chosen recs x ≡ None → e ≡ empty_state x → Said x e
    Record : (r : Rec) (p : Part) → chosen recs x ≡ Some r → IsFormed x p → e ≡ entity_of s bytes x (Some r) (Some p) → Said x e

  said : (x : ℕ) → Said x (state x)
  said x = by_record (chosen recs x) refl (u.taken x)
    where
      by_record : (o : Option Rec) → chosen recs x ≡ o → Taken x o → Said x (entity_of s bytes x o (parts x))
      by_record None is none = Nothing is refl
      by_record (Some r) is (p, here) = Record r p is (u.formed x p here) (ap (entity_of s bytes x (Some r)) here)

  version_of : (x : ℕ) (e : EntityState) → Said x e → e.version ≡ cut_of recs x
  version_of x e (Nothing none is) = ap (λ (f : EntityState). f.version) is ∙ sym (cut_zero count recs u.in_range u.ascending x none)
  version_of x e (Record r p found told is) = ap (λ (f : EntityState). f.version) is ∙ (test count recs u.in_range u.ascending x r found).1

  own_of : (x : ℕ) (e : EntityState) → Said x e → e.stamp x ≡ e.version
  own_of x e (Nothing none is) = subst (λ (f : EntityState). f.stamp x ≡ f.version) (sym is) refl
  own_of x e (Record r p found told is) =
      let at = slot count recs u.in_range u.ascending x r found in
      subst (λ (f : EntityState). f.stamp x ≡ f.version) (sym is)
      (ap (slice_index r.stamp) (sym (test count recs u.in_range u.ascending x r found).0) ∙ (u.in_range at.0 r at.1).own)

  below_of : (x y : ℕ) (e : EntityState) → Said x e → e.stamp y ≤ cut_of recs y
  below_of x y e (Nothing none is) = subst (λ (f : EntityState). f.stamp y ≤ cut_of recs y) (sym is) (omega arith)
  below_of x y e (Record r p found told is) = subst (λ (f : EntityState). f.stamp y ≤ cut_of recs y) (sym is) (below count recs u.in_range u.ascending x r found y)

  cell_born : (p : Part) → cell_of s bytes p ≡ NotBorn → ⊥
  cell_born (AtlasPart b) is = cc
  cell_born (ContainerPart c table) is = cc
  cell_born (LocusPart l) is = cc

  born_of : (x : ℕ) (e : EntityState) → 0 < x → Said x e → (e.cell ≡ NotBorn) ↔ (e.version ≡ 0)
  born_of x e some (Nothing none is) = subst (λ (f : EntityState). (f.cell ≡ NotBorn) ↔ (f.version ≡ 0)) (sym is) (λ _. refl, λ _. empty_cell x some)
  born_of x e some (Record r p found told is) =
      let at = slot count recs u.in_range u.ascending x r found in
      let low = (u.in_range at.0 r at.1).versions.0 in
      subst (λ (f : EntityState). (f.cell ≡ NotBorn) ↔ (f.version ≡ 0)) (sym is) (λ none. absurd (cell_born p none), λ zero_is. absurd (omega (arith, low, zero_is)))

  -- past the pages the table has no block
  words_of : (x : ℕ) (e : EntityState) (c : ContainerState) → Said x e → e.cell ≡ ContainerCell c → IsSupplied s c
  words_of x e c (Nothing none is) here = absurd (empty_no (x == 0) (sym (ap (λ (f : EntityState). f.cell) is) ∙ here))
    where
      empty_no : (b : Bool) → (if b then AtlasCell no_atlas else NotBorn) ≡ ContainerCell c → ⊥
      empty_no true e = cc
      empty_no false e = cc
  words_of x e c (Record r p found told is) here = of_part p told.blob told.spells (sym (ap (λ (f : EntityState). f.cell) is) ∙ here)
    where
      state_or : Cell → ContainerState → ContainerState
      state_or (ContainerCell d) c = d
      state_or (AtlasCell d) c = c
      state_or (LocusCell d) c = c
      state_or NotBorn c = c

      past : (d : ContainerState) (table : List ℕ) → length table ≡ d.pages → IsSupplied s (record d { words = words_in s d.tag bytes table })
      past d table len address far =
          ap (λ (b : ℕ). word_in s d.tag bytes b address) (get_or_past table (address / 128) 0 (let low : d.pages ≤ address / 128 = omega (arith, far) in omega (arith, len, low)))

      of_part : (q : Part) (blob : List ℕ) → Spells q blob → cell_of s bytes q ≡ ContainerCell c → IsSupplied s c
      of_part (AtlasPart b) blob spells same = cc
      of_part (LocusPart l) blob spells same = cc
      of_part (ContainerPart d table) blob spells same = subst (IsSupplied s) (ap (λ (k : Cell). state_or k c) same) (past d table spells.form.blocks.each_page)

  sound_state : IsSoundState s state
  sound_state = record {
    sound = sound_parts s bytes count recs parts u.taken u.formed u.fit;
    born = λ x some. born_of x (state x) some (said x);
    own = λ x. own_of x (state x) (said x);
    below = λ x y. subst (λ n. (state x).stamp y ≤ n) (sym (version_of y (state y) (said y))) (below_of x y (state x) (said x));
    words = λ x c here. words_of x (state x) c (said x) here;
  }

-- THE LAWS

pub parts_sound : (s : Supply) (bytes : ℕ → List ℕ) (count : ℕ) (recs : List Rec) (parts : ℕ → Option Part) → MakeUpState count recs parts → IsSoundState s (state_of s bytes recs parts)
parts_sound s bytes count recs parts u = sound_state s bytes count recs parts u

pub parts_versions : (s : Supply) (bytes : ℕ → List ℕ) (count : ℕ) (recs : List Rec) (parts : ℕ → Option Part) → MakeUpState count recs parts → AreCutVersions recs (state_of s bytes recs parts)
parts_versions s bytes count recs parts u x = version_of s bytes count recs parts u x (state_of s bytes recs parts x) (said s bytes count recs parts u x)

-- an accepted image's records and parts make up a state
pub accepted_parts : (image : Image) (a : Accepted image) → MakeUpState (count_in image) a.recs a.parts
accepted_parts image a = record {
  in_range = in_range_law a.recs image a.has;
  ascending = ascending_law a.recs image a.has;
  taken = spelt_taken image a.recs a.parts a.spelt;
  formed = spelt_formed image a.recs a.parts a.spelt;
  fit = a.fit;
}

pub meant_state : (s : Supply) (image : Image) (v : KernelState) → Means s image v → IsSoundState s v
meant_state s image v m =
    let a : Accepted image = m.accepted in
    subst (IsSoundState s) (sym m.is) (parts_sound s (block_at image) (count_in image) a.recs a.parts (accepted_parts image a))

pub meant_versions : (s : Supply) (image : Image) (v : KernelState) (m : Means s image v) → AreCutVersions m.accepted.recs v
meant_versions s image v m x =
    let a : Accepted image = m.accepted in
    ap (λ (w : KernelState). (w x).version) m.is ∙ parts_versions s (block_at image) (count_in image) a.recs a.parts (accepted_parts image a) x

pub meant_greatest : (s : Supply) (image : Image) (v : KernelState) (m : Means s image v) → IsGreatest nothing (commits_of m.accepted.recs) (λ x. (v x).version)
meant_greatest s image v m =
    let a : Accepted image = m.accepted in
    let same : cut_of a.recs ≡ (λ x. (v x).version) = λ i x. sym (meant_versions s image v m x) i in
    let u : MakeUpState (count_in image) a.recs a.parts = accepted_parts image a in
    subst (IsGreatest nothing (commits_of a.recs)) same (greatest (count_in image) a.recs u.in_range u.ascending)
