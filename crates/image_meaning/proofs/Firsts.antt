-- An image has at most one first bad place, and none where it is accepted.
use Rattle.std.proofs.Common.{◌≡◌, ℕ, ◌+◌, ◌-◌, ◌/◌, ◌%◌, ◌<◌, ◌⊎◌, inl, inr, List, drop, get_or, Option, Some, None, refl, sym, ap, subst, ◌∙◌, arith}
use Rattle.std.proofs.lemmas.Bool.{cases_lt, false≢true}
use Rattle.std.proofs.lemmas.List.{get_or-drop, length-drop}
use Rattle.std.specs.Prelude.{All, slice_get, slice_index}
use Rattle.image_blocks.specs.edge_disk.Image.{Image}
use Rattle.image_blocks.specs.base_types.Kinds.{kind_of}
use Rattle.image_blocks.specs.base_types.declared.entities.Kind.{Kind}
use Rattle.image_blocks.specs.base_types.declared.records.Rec.{Rec}
use Rattle.blob_grammar.specs.Forms.{IsSpelling}
use Rattle.blob_grammar.specs.Places.{GoesPast}
use Rattle.blob_grammar.proofs.Placing.{none_good, one_place}
use Rattle.image_blocks.specs.image_facts.Bodies.{blob_in, blob_room}
use Rattle.image_blocks.specs.Checks.{Bad, records_fault}
use Rattle.image_blocks.specs.image_facts.Checks.{count_in}
use Rattle.image_blocks.specs.Layout.{body_at}
use Rattle.image_blocks.specs.declared.areas.Area.{Area}
use Rattle.image_meaning.specs.Foreign.{IsBadBlob, IsBadRest, IsBadSpelling, IsBodyBlock, IsFirstRest, IsForeign, IsUnfit, blob_bad}
use Rattle.image_meaning.specs.Meaning.{Accepted}
use Rattle.image_meaning.specs.Parts.{AreSpelt, AtlasPart, ContainerPart, IsSpelt, LocusPart, Part, Spells, chosen, kind_in}
use Rattle.image_meaning.proofs.Ones.{SpeltAs, one_area, one_log}
use Rattle.image_meaning.proofs.Plain.{fit_same}
use Rattle.image_blocks.proofs.Ranges.{rec_or}
use Rattle.blob_grammar.proofs.Smallest.{is_there}

-- OPTIONS

abbrev bad_or : Bad → Option Bad → Bad
bad_or d None = d
bad_or d (Some b) = b

pub clash : {A X : Type 0} (o : Option A) (x : A) → o ≡ None → o ≡ Some x → X
clash o x none some = absurd (false≢true (sym (ap is_there none) ∙ ap is_there some))

-- BLOBS

-- what is spelt is a spelling
spelling_of : (x : ℕ) (p : Part) (bytes : List ℕ) → kind_in p ≡ kind_of x → Spells p bytes → IsSpelling (kind_of x) bytes
spelling_of x (AtlasPart a) bytes kind spells = subst (λ (k : Kind). IsSpelling k bytes) kind (a, spells)
spelling_of x (ContainerPart c table) bytes kind spells = subst (λ (k : Kind). IsSpelling k bytes) kind (c, table, spells)
spelling_of x (LocusPart l) bytes kind spells = subst (λ (k : Kind). IsSpelling k bytes) kind (l, spells)

rest_zero : (room : List ℕ) (len place : ℕ) → All (λ b. b ≡ 0) (drop len room) → IsFirstRest room len place → ⊥
rest_zero room len place zeros rest =
    let i : ℕ = place - len in
    let at : len + i ≡ place = (let low = rest.from in omega (arith, low)) in
    let left = length-drop len room in
    let zero_there : get_or (drop len room) i 0 ≡ 0 = zeros i 0 (let low = rest.from in let high = rest.within in omega (arith, low, high, left)) in
    rest.not_zero (sym (ap (λ n. get_or room n 0) at) ∙ (sym (get_or-drop len room i 0) ∙ zero_there))

-- a blob that is spelt has no fault
spelt_good : (image : Image) (x : ℕ) (r : Rec) (body : ℕ) (bad : Bad) (part : Part) → IsSpelt image x r part
    → IsBadSpelling x image r body bad ⊎ IsBadRest x image r bad → ⊥
spelt_good image x r body bad part spelt (inl (place, fault, is)) =
    none_good (IsSpelling (kind_of x)) (blob_in image r) place (spelling_of x part (blob_in image r) spelt.kind spelt.spells) fault
spelt_good image x r body bad part spelt (inr (whole, place, rest, is)) = rest_zero (blob_room image r) r.length place spelt.rest rest

one_rest : (room : List ℕ) (len p q : ℕ) → IsFirstRest room len p → IsFirstRest room len q → p ≡ q
one_rest room len p q here there = elim (cases_lt p q) as (λ _. p ≡ q) [
  | inl lt ↦ absurd (here.not_zero (there.first p here.from lt))
  | inr ge ↦ elim (cases_lt q p) as (λ _. p ≡ q) [ inl lt ↦ absurd (there.not_zero (here.first q there.from lt)) | inr le ↦ omega (arith, ge, le) ]
]

module _ (image : Image) (x : ℕ) (r : Rec) (body : ℕ) where
  abbrev Spelled : List ℕ → Type 0
  Spelled = IsSpelling (kind_of x)

  abbrev Found : ℕ → Bad → Type 0
  Found place bad = (GoesPast Spelled (blob_in image r) place × (bad ≡ record { block = body; place = 4 }))
      ⊎ ((GoesPast Spelled (blob_in image r) place → ⊥) × (bad ≡ blob_bad r place))

  one_found : (place : ℕ) (bad other : Bad) → Found place bad → Found place other → bad ≡ other
  one_found place bad other (inl (past, is)) (inl (too, at)) = is ∙ sym at
  one_found place bad other (inl (past, is)) (inr (not_past, at)) = absurd (not_past past)
  one_found place bad other (inr (not_past, is)) (inl (past, at)) = absurd (not_past past)
  one_found place bad other (inr (none, is)) (inr (too, at)) = is ∙ sym at

  one_fault : (bad other : Bad) → IsBadSpelling x image r body bad ⊎ IsBadRest x image r bad → IsBadSpelling x image r body other ⊎ IsBadRest x image r other → bad ≡ other
  one_fault bad other (inl (p, fault, is)) (inl (q, too, at)) =
      one_found q bad other (subst (λ n. Found n bad) (one_place Spelled (blob_in image r) p q fault too) is) at
  one_fault bad other (inl (p, fault, is)) (inr (whole, q, rest, at)) = absurd (none_good Spelled (blob_in image r) p whole fault)
  one_fault bad other (inr (whole, q, rest, at)) (inl (p, fault, is)) = absurd (none_good Spelled (blob_in image r) p whole fault)
  one_fault bad other (inr (whole, p, rest, is)) (inr (too, q, behind, at)) =
      let same : p ≡ q = one_rest (blob_room image r) r.length p q rest behind in
      is ∙ (ap (λ n. record_at n) same ∙ sym at)
    where
      record_at : ℕ → Bad
      record_at n = record { block = slice_index r.blocks (n / 1024); place = n % 1024 }

-- BODIES
one_slot : (recs : List Rec) (r : Rec) (i j : ℕ) → slice_get recs i ≡ Some r → slice_get recs j ≡ Some r → ((k : ℕ) → k < i → slice_get recs k ≡ Some r → ⊥)
    → ((k : ℕ) → k < j → slice_get recs k ≡ Some r → ⊥) → i ≡ j
one_slot recs r i j here there first second = elim (cases_lt i j) as (λ _. i ≡ j) [
  | inl lt ↦ absurd (second i lt here)
  | inr ge ↦ elim (cases_lt j i) as (λ _. i ≡ j) [ inl lt ↦ absurd (first j lt there) | inr le ↦ omega (arith, ge, le) ]
]

one_body : (area : Area) (recs : List Rec) (x : ℕ) (r q : Rec) (m n : ℕ) → IsBodyBlock area recs x r m → IsBodyBlock area recs x q n → (r ≡ q) × (m ≡ n)
one_body area recs x r q m n here there =
    let same : r ≡ q = ap (rec_or r) (sym here.is_chosen ∙ there.is_chosen) in
    let at : IsBodyBlock area recs x q m = subst (λ (s : Rec). IsBodyBlock area recs x s m) same here in
    let slot : at.slot ≡ there.slot = one_slot recs q at.slot there.slot at.there there.there at.first there.first in
    (same, at.is ∙ (ap (body_at area) slot ∙ sym there.is))

-- CHECK 4

said : (image : Image) (recs : List Rec) (parts : ℕ → Option Part) (x : ℕ) (r : Rec) (o : Option Rec) → o ≡ Some r → SpeltAs image x o (parts x) → (p : Part) × (parts x ≡ Some p) × IsSpelt image x r p
said image recs parts x r None is spelt = clash None r refl is
said image recs parts x r (Some q) is (p, at, spelt) = (p, at, subst (λ (s : Rec). IsSpelt image x s p) (ap (rec_or q) is) spelt)

pub spelt_at : (image : Image) (recs : List Rec) (parts : ℕ → Option Part) → AreSpelt image recs parts → (x : ℕ) (r : Rec) → chosen recs x ≡ Some r → (p : Part) × (parts x ≡ Some p) × IsSpelt image x r p
spelt_at image recs parts all x r is = said image recs parts x r (chosen recs x) is (all x)

module _ (image : Image) (recs : List Rec) (area : Area) where
  no_blob : (parts : ℕ → Option Part) (bad : Bad) → AreSpelt image recs parts → IsBadBlob image recs area bad → ⊥
  no_blob parts bad all fault =
      let s = spelt_at image recs parts all fault.entity fault.rec fault.at.is_chosen in
      spelt_good image fault.entity fault.rec fault.body bad s.0 s.2 fault.fault

  blob_order : (bad other : Bad) (f : IsBadBlob image recs area bad) (g : IsBadBlob image recs area other) → f.entity < g.entity → ⊥
  blob_order bad other f g lt =
      let s = g.before f.entity f.rec lt f.at.is_chosen in spelt_good image f.entity f.rec f.body bad s.0 s.1 f.fault

  same_blob : (bad other : Bad) (x : ℕ) (r q : Rec) (m n : ℕ) → IsBodyBlock area recs x r m → IsBodyBlock area recs x q n
      → IsBadSpelling x image r m bad ⊎ IsBadRest x image r bad → IsBadSpelling x image q n other ⊎ IsBadRest x image q other → bad ≡ other
  same_blob bad other x r q m n here there f g =
      let same = one_body area recs x r q m n here there in
      one_fault image x q n bad other
      (subst (λ k. IsBadSpelling x image q k bad ⊎ IsBadRest x image q bad) same.1 (subst (λ (s : Rec). IsBadSpelling x image s m bad ⊎ IsBadRest x image s bad) same.0 f)) g

  one_blob : (bad other : Bad) → IsBadBlob image recs area bad → IsBadBlob image recs area other → bad ≡ other
  one_blob bad other f g = elim (cases_lt f.entity g.entity) as (λ _. bad ≡ other) [
    | inl lt ↦ absurd (blob_order bad other f g lt)
    | inr ge ↦ elim (cases_lt g.entity f.entity) as (λ _. bad ≡ other) [
      | inl lt ↦ absurd (blob_order other bad g f lt)
      | inr le ↦ (let e : f.entity ≡ g.entity = omega (arith, ge, le) in
          same_blob bad other g.entity f.rec g.rec f.body g.body
          (subst (λ y. IsBodyBlock area recs y f.rec f.body) e f.at) g.at
          (subst (λ y. IsBadSpelling y image f.rec f.body bad ⊎ IsBadRest y image f.rec bad) e f.fault) g.fault)
    ]
  ]

  -- CHECK 5
  unfit_order : (bad other : Bad) (f : IsUnfit image recs area bad) (g : IsUnfit image recs area other) → f.entity < g.entity → ⊥
  unfit_order bad other f g lt =
      let s = spelt_at image recs g.parts g.spelt f.entity f.rec f.at.is_chosen in
      f.unfit (fit_same image (count_in image) recs g.parts f.parts g.spelt f.spelt f.entity s.0 f.part s.1 f.is (g.before f.entity s.0 lt s.1))

  one_unfit : (bad other : Bad) → IsUnfit image recs area bad → IsUnfit image recs area other → bad ≡ other
  one_unfit bad other f g = elim (cases_lt f.entity g.entity) as (λ _. bad ≡ other) [
    | inl lt ↦ absurd (unfit_order bad other f g lt)
    | inr ge ↦ elim (cases_lt g.entity f.entity) as (λ _. bad ≡ other) [
      | inl lt ↦ absurd (unfit_order other bad g f lt)
      | inr le ↦ (let e : f.entity ≡ g.entity = omega (arith, ge, le) in
          let same = one_body area recs g.entity f.rec g.rec f.body g.body (subst (λ y. IsBodyBlock area recs y f.rec f.body) e f.at) g.at in
          f.place ∙ (ap (λ n. front_of n) same.1 ∙ sym g.place))
    ]
  ]
    where
      front_of : ℕ → Bad
      front_of n = record { block = n; place = 0 }

  one_of_two : (bad other : Bad) → IsBadBlob image recs area bad ⊎ IsUnfit image recs area bad → IsBadBlob image recs area other ⊎ IsUnfit image recs area other → bad ≡ other
  one_of_two bad other (inl f) (inl g) = one_blob bad other f g
  one_of_two bad other (inl f) (inr g) = absurd (no_blob g.parts bad g.spelt f)
  one_of_two bad other (inr f) (inl g) = absurd (no_blob f.parts other f.spelt g)
  one_of_two bad other (inr f) (inr g) = one_unfit bad other f g

-- THE LAWS
same_fault : (image : Image) (bad : Bad) (recs others : List Rec) (area place : Area) → recs ≡ others → area ≡ place → IsBadBlob image recs area bad ⊎ IsUnfit image recs area bad
    → IsBadBlob image others place bad ⊎ IsUnfit image others place bad
same_fault image bad recs others area place same at fault =
    subst (λ (a : Area). IsBadBlob image others a bad ⊎ IsUnfit image others a bad) at (subst (λ (rs : List Rec). IsBadBlob image rs area bad ⊎ IsUnfit image rs area bad) same fault)

pub one_foreign : (image : Image) (bad other : Bad) → IsForeign image bad → IsForeign image other → bad ≡ other
one_foreign image bad other (inl f) (inl g) = ap (bad_or bad) (sym f ∙ g)
one_foreign image bad other (inl f) (inr g) = clash (records_fault image) bad g.has.good f
one_foreign image bad other (inr f) (inl g) = clash (records_fault image) other f.has.good g
one_foreign image bad other (inr f) (inr g) =
    one_of_two image g.recs g.has.area bad other
    (same_fault image bad f.recs g.recs f.has.area g.has.area (one_log image f.recs g.recs f.has g.has) (one_area image f.recs g.recs f.has g.has) f.fault) g.fault

pub not_both : (image : Image) (bad : Bad) → Accepted image → IsForeign image bad → ⊥
not_both image bad a (inl f) = clash (records_fault image) bad a.has.good f
not_both image bad a (inr f) = by_fault (same_fault image bad f.recs a.recs f.has.area a.has.area (one_log image f.recs a.recs f.has a.has) (one_area image f.recs a.recs f.has a.has) f.fault)
  where
    by_fault : IsBadBlob image a.recs a.has.area bad ⊎ IsUnfit image a.recs a.has.area bad → ⊥
    by_fault (inl g) = no_blob image a.recs a.has.area a.parts bad a.spelt g
    by_fault (inr g) =
        let s = spelt_at image a.recs a.parts a.spelt g.entity g.rec g.at.is_chosen in
        g.unfit (fit_same image (count_in image) a.recs a.parts g.parts a.spelt g.spelt g.entity s.0 g.part s.1 g.is (a.fit g.entity s.0 s.1))
