-- No image is neither accepted nor has a first bad place. Which of the two holds, and where the place is, takes a reader.
use Rattle.std.proofs.Common.{◌≡◌, ℕ, zero, suc, ◌+◌, ◌/◌, ◌%◌, ◌≤◌, ◌<◌, ◌⊎◌, inl, inr, ◌&&◌, ◌==◌, if◌then◌else◌, Bool, true, false, List, [], ◌∷◌, length, drop, nat_lt, Option, Some, None, refl, sym, ap, subst, ◌∙◌, arith, eqb-true, eq-eqb}
use Rattle.std.proofs.lemmas.Bool.{cases_lt, false≢true, ltb-false, ltb-true}
use Rattle.std.proofs.lemmas.List.{get_or-drop, get_or_default, length-drop}
use Rattle.std.specs.Prelude.{All, slice_get, slice_index}
use Rattle.image_blocks.specs.edge_disk.Image.{Image}
use Rattle.image_blocks.specs.base_types.Kinds.{kind_of}
use Rattle.image_blocks.specs.base_types.declared.entities.Kind.{Kind}
use Rattle.image_blocks.specs.base_types.declared.entities.Kind.TheVariants.{Atlas, Container, Locus}
use Rattle.image_blocks.specs.base_types.declared.records.Rec.{Rec}
use Rattle.blob_grammar.specs.model_kernel.Words.{first}
use Rattle.blob_grammar.specs.Forms.{IsSpelling}
use Rattle.blob_grammar.specs.Places.{GoesPast, IsBadPlace}
use Rattle.blob_grammar.proofs.Placing.{some_place}
use Rattle.blob_grammar.proofs.Smallest.{has_spelling}
use Rattle.image_blocks.specs.image_facts.Bodies.{blob_in, blob_room}
use Rattle.image_blocks.specs.Checks.{Bad, active_area, area_fault, check_1, check_2, check_3, log_in, no_area, records_fault}
use Rattle.image_blocks.specs.image_facts.Checks.{count_in}
use Rattle.image_blocks.specs.Layout.{body_at}
use Rattle.image_blocks.specs.image_facts.Layout.{is_open}
use Rattle.image_blocks.specs.Logs.{HasRecords}
use Rattle.image_blocks.specs.declared.areas.Area.{Area}
use Rattle.image_meaning.specs.Fits.{IsFit}
use Rattle.image_meaning.specs.Foreign.{IsBadBlob, IsBadRest, IsBadSpelling, IsBodyBlock, IsFirstRest, IsForeign, IsUnfit, blob_bad}
use Rattle.image_meaning.specs.Meaning.{Accepted}
use Rattle.image_meaning.specs.Parts.{AreSpelt, AtlasPart, ContainerPart, IsSpelt, LocusPart, Part, Spells, chosen, chosen_by, cut_of, kind_in}
use Rattle.image_meaning.proofs.Firsts.{clash}
use Rattle.image_meaning.proofs.Ones.{SpeltAs}
use Rattle.image_blocks.proofs.Ranges.{rec_or}

-- CHOSEN RECORDS

abbrev pub test : (ℕ → ℕ) → ℕ → Rec → Bool
test cut x r = r.entity == x && r.version == cut x

-- what is chosen passes the test
passes_by : (cut : ℕ → ℕ) (x : ℕ) (q r : Rec) (o : Option Rec) (b : Bool) → test cut x q ≡ b → (o ≡ Some r → test cut x r ≡ true) → (if b then Some q else o) ≡ Some r → test cut x r ≡ true
passes_by cut x q r o true e later is = subst (λ (s : Rec). test cut x s ≡ true) (ap (rec_or q) is) e
passes_by cut x q r o false e later is = later is

pub passes : (cut : ℕ → ℕ) (x : ℕ) (recs : List Rec) (r : Rec) → chosen_by cut recs x ≡ Some r → test cut x r ≡ true
passes cut x [] r is = clash None r refl is
passes cut x (q ∷ recs) r is = passes_by cut x q r (chosen_by cut recs x) (test cut x q) refl (passes cut x recs r) is

-- and stands in a first slot
abbrev pub FirstSlot : List Rec → Rec → Type 0
FirstSlot recs r = (slot : ℕ) × (slice_get recs slot ≡ Some r) × ((earlier : ℕ) → earlier < slot → slice_get recs earlier ≡ Some r → ⊥)

slot_by : (cut : ℕ → ℕ) (x : ℕ) (q r : Rec) (recs : List Rec) (o : Option Rec) (b : Bool) → test cut x q ≡ b → test cut x r ≡ true → (o ≡ Some r → FirstSlot recs r)
    → (if b then Some q else o) ≡ Some r → FirstSlot (q ∷ recs) r
slot_by cut x q r recs o true e good later is = (0, is, λ earlier lt. absurd (omega (arith, lt)))
slot_by cut x q r recs o false e good later is =
    let found = later is in
    (suc found.0, found.1, none found.0 found.2)
  where
    none : (slot : ℕ) → ((earlier : ℕ) → earlier < slot → slice_get recs earlier ≡ Some r → ⊥) → (earlier : ℕ) → earlier < suc slot → slice_get (q ∷ recs) earlier ≡ Some r → ⊥
    none slot before zero lt here = false≢true (sym e ∙ (ap (test cut x) (ap (rec_or q) here) ∙ good))
    none slot before (suc earlier) lt here = before earlier (omega (arith, lt)) here

pub slot_of : (cut : ℕ → ℕ) (x : ℕ) (recs : List Rec) (r : Rec) → chosen_by cut recs x ≡ Some r → FirstSlot recs r
slot_of cut x [] r is = clash None r refl is
slot_of cut x (q ∷ recs) r is = slot_by cut x q r recs (chosen_by cut recs x) (test cut x q) refl (passes cut x (q ∷ recs) r is) (slot_of cut x recs r) is

body_of : (area : Area) (recs : List Rec) (x : ℕ) (r : Rec) → chosen recs x ≡ Some r → (block : ℕ) × IsBodyBlock area recs x r block
body_of area recs x r is =
    let s = slot_of (cut_of recs) x recs r is in
    (body_at area s.0, record { slot = s.0; there = s.1; first = s.2; is_chosen = is; is = refl })

-- from some number on nothing is chosen
abbrev Ends : (ℕ → ℕ) → List Rec → Type 0
Ends cut recs = (n : ℕ) × ((x : ℕ) → n ≤ x → chosen_by cut recs x ≡ None)

far_by : (cut : ℕ → ℕ) (x : ℕ) (q : Rec) (b : Bool) → (q.entity == x) ≡ b → q.entity < x → (b && q.version == cut x) ≡ false
far_by cut x q true e lt = absurd (let is : q.entity ≡ x = eqb-true q.entity x e in omega (arith, is, lt))
far_by cut x q false e lt = refl

ends : (cut : ℕ → ℕ) (recs : List Rec) → Ends cut recs
ends cut [] = (0, λ x low. refl)
ends cut (q ∷ recs) = longer (ends cut recs)
  where
    longer : Ends cut recs → Ends cut (q ∷ recs)
    longer (n, none) = (
      n + q.entity + 1,
      λ x low.
          ap (λ (b : Bool). if b then Some q else chosen_by cut recs x) (far_by cut x q (q.entity == x) refl (omega (arith, low))) ∙ none x (omega (arith, low)),
    )

-- BLOBS

part_of : (kind : Kind) (bytes : List ℕ) → IsSpelling kind bytes → (p : Part) × (kind_in p ≡ kind) × Spells p bytes
part_of Atlas bytes (a, spells) = (AtlasPart a, refl, spells)
part_of Container bytes (c, table, spells) = (ContainerPart c table, refl, spells)
part_of Locus bytes (l, spells) = (LocusPart l, refl, spells)

-- where none is the first that isn't 0, all bytes behind are 0
rest_by : (room : List ℕ) (len q : ℕ) → (IsFirstRest room len q → ⊥) → len ≤ q → q < length room → ((p : ℕ) → len ≤ p → p < q → slice_index room p ≡ 0) → (b : Bool) → (slice_index room q == 0) ≡ b → slice_index room q ≡ 0
rest_by room len q none low within before true e = eqb-true (slice_index room q) 0 e
rest_by room len q none low within before false e =
    absurd (none (record { from = low; within = within; not_zero = λ is. false≢true (sym e ∙ eq-eqb (slice_index room q) 0 is); first = before }))

rest_zeros : (room : List ℕ) (len : ℕ) → ((place : ℕ) → IsFirstRest room len place → ⊥) → (n q : ℕ) → len ≤ q → q < n → q < length room → slice_index room q ≡ 0
rest_zeros room len none zero q low lt within = absurd (omega (arith, lt))
rest_zeros room len none (suc n) q low lt within =
    rest_by room len q (none q) low within (λ p above below. rest_zeros room len none n p above (omega (arith, below, lt)) (omega (arith, below, within))) (slice_index room q == 0) refl

all_zeros : (room : List ℕ) (len : ℕ) → ((place : ℕ) → IsFirstRest room len place → ⊥) → All (λ b. b ≡ 0) (drop len room)
all_zeros room len none i d lt =
    let left = length-drop len room in
    let within : len + i < length room = omega (arith, lt, left) in
    get_or-drop len room i d ∙ (get_or_default room (len + i) d 0 within ∙ rest_zeros room len none (suc (len + i)) (len + i) (omega arith) (omega arith) within)

-- a blob that isn't spelt has a fault
blob_fault : (image : Image) (x : ℕ) (r : Rec) (body : ℕ) → ((part : Part) → IsSpelt image x r part → ⊥)
    → ((bad : Bad) → IsBadSpelling x image r body bad ⊎ IsBadRest x image r bad → ⊥) → ⊥
blob_fault image x r body unspelt none =
    some_place (IsSpelling (kind_of x)) (blob_in image r) (has_spelling (kind_of x)) at_place not_whole
  where
    at_place : (place : ℕ) → IsBadPlace (IsSpelling (kind_of x)) (blob_in image r) place → ⊥
    at_place place fault =
        let not_past : GoesPast (IsSpelling (kind_of x)) (blob_in image r) place → ⊥ = λ past. none (record { block = body; place = 4 }) (inl (place, fault, inl (past, refl))) in
        none (blob_bad r place) (inl (place, fault, inr (not_past, refl)))

    not_whole : IsSpelling (kind_of x) (blob_in image r) → ⊥
    not_whole whole =
        let p = part_of (kind_of x) (blob_in image r) whole in
        unspelt p.0 (record {
          kind = p.1;
          spells = p.2;
          rest = all_zeros (blob_room image r) r.length (λ place rest. none (record { block = slice_index r.blocks (place / 1024); place = place % 1024 }) (inr (whole, place, rest, refl)));
        })

-- PARTS

-- a choice with one entity more
abbrev with_part : (ℕ → Option Part) → ℕ → Option Part → ℕ → Option Part
with_part parts n o x = if x == n then o else parts x

with_same : (parts : ℕ → Option Part) (n : ℕ) (o : Option Part) (b : Bool) → (n == n) ≡ b → (if b then o else parts n) ≡ o
with_same parts n o true e = refl
with_same parts n o false e = absurd (false≢true (sym e ∙ eq-eqb n n refl))

with_other : (parts : ℕ → Option Part) (n x : ℕ) (o : Option Part) (b : Bool) → (x == n) ≡ b → (x ≡ n → ⊥) → (if b then o else parts x) ≡ parts x
with_other parts n x o true e other = absurd (other (eqb-true x n e))
with_other parts n x o false e other = refl

abbrev SpeltBelow : Image → List Rec → ℕ → (ℕ → Option Part) → Type 0
SpeltBelow image recs n parts = (x : ℕ) → x < n → SpeltAs image x (chosen recs x) (parts x)

more_spelt : (image : Image) (recs : List Rec) (n : ℕ) (parts : ℕ → Option Part) (o : Option Part) → SpeltBelow image recs n parts → SpeltAs image n (chosen recs n) o
    → SpeltBelow image recs (suc n) (with_part parts n o)
more_spelt image recs n parts o so_far here x lt = elim (cases_lt x n) as (λ _. SpeltAs image x (chosen recs x) (with_part parts n o x)) [
  | inl before ↦ subst (SpeltAs image x (chosen recs x)) (sym (with_other parts n x o (x == n) refl (λ e. omega (arith, e, before)))) (so_far x before)
  | inr last ↦ (let e : n ≡ x = omega (arith, lt, last) in
      subst (λ y. SpeltAs image y (chosen recs y) (with_part parts n o y)) e
      (subst (SpeltAs image n (chosen recs n)) (sym (with_same parts n o (n == n) refl)) here))
]

module _ (image : Image) (recs : List Rec) (area : Area) (no_blob : (bad : Bad) → IsBadBlob image recs area bad → ⊥) where
  -- the next entity is spelt
  next_by : (n : ℕ) (parts : ℕ → Option Part) → SpeltBelow image recs n parts → (o : Option Rec) → chosen recs n ≡ o → ((p : Option Part) → SpeltAs image n o p → ⊥) → ⊥
  next_by n parts so_far None is none = none None refl
  next_by n parts so_far (Some r) is none =
      let body = body_of area recs n r is in
      blob_fault image n r body.0 (λ part spelt. none (Some part) (part, refl, spelt))
      (λ bad fault. no_blob bad (record {
        entity = n;
        rec = r;
        body = body.0;
        at = body.1;
        before = λ y q lt there. (let s = said_at y q lt there in s);
        fault = fault;
      }))
    where
      said_at : (y : ℕ) (q : Rec) → y < n → chosen recs y ≡ Some q → (part : Part) × IsSpelt image y q part
      said_at y q lt there = told (subst (λ (o : Option Rec). SpeltAs image y o (parts y)) there (so_far y lt))
        where
          told : SpeltAs image y (Some q) (parts y) → (part : Part) × IsSpelt image y q part
          told (p, at, spelt) = (p, spelt)

  each_spelt : (n : ℕ) → ((parts : ℕ → Option Part) → SpeltBelow image recs n parts → ⊥) → ⊥
  each_spelt zero none = none (λ x. None) (λ x lt. absurd (omega (arith, lt)))
  each_spelt (suc n) none =
      each_spelt n (λ parts so_far. next_by n parts so_far (chosen recs n) refl (λ o here. none (with_part parts n o) (more_spelt image recs n parts o so_far here)))

  -- and from the last chosen one on there is nothing to spell
  abbrev cut_at : ℕ → (ℕ → Option Part) → ℕ → Option Part
  cut_at n parts x = if nat_lt x n then parts x else None

  all_by : (n x : ℕ) (parts : ℕ → Option Part) (b : Bool) → nat_lt x n ≡ b → SpeltBelow image recs n parts → ((y : ℕ) → n ≤ y → chosen recs y ≡ None) → SpeltAs image x (chosen recs x) (if b then parts x else None)
  all_by n x parts true e so_far none = so_far x (ltb-true x n e)
  all_by n x parts false e so_far none = subst (λ (o : Option Rec). SpeltAs image x o None) (sym (none x (ltb-false x n e))) refl

  all_spelt : ((parts : ℕ → Option Part) → AreSpelt image recs parts → ⊥) → ⊥
  all_spelt none =
      let e = ends (cut_of recs) recs in
      each_spelt e.0 (λ parts so_far. none (cut_at e.0 parts) (λ x. all_by e.0 x parts (nat_lt x e.0) refl so_far e.1))

-- FITS

module _ (image : Image) (recs : List Rec) (area : Area) (parts : ℕ → Option Part) (spelt : AreSpelt image recs parts) (no_unfit : (bad : Bad) → IsUnfit image recs area bad → ⊥) where
  abbrev FitBelow : ℕ → Type 0
  FitBelow n = (x : ℕ) (part : Part) → x < n → parts x ≡ Some part → IsFit (count_in image) recs parts x part

  -- a part is that of a chosen record
  chosen_of : (x : ℕ) (part : Part) → parts x ≡ Some part → (r : Rec) × (chosen recs x ≡ Some r)
  chosen_of x part is = go (chosen recs x) refl (spelt x)
    where
      go : (o : Option Rec) → chosen recs x ≡ o → SpeltAs image x o (parts x) → (r : Rec) × (chosen recs x ≡ Some r)
      go None at none = clash (parts x) part none is
      go (Some r) at there = (r, at)

  more_fit : (n : ℕ) → FitBelow n → ((part : Part) → parts n ≡ Some part → IsFit (count_in image) recs parts n part) → FitBelow (suc n)
  more_fit n so_far here x part lt is = elim (cases_lt x n) as (λ _. IsFit (count_in image) recs parts x part) [
    | inl before ↦ so_far x part before is
    | inr last ↦ (let e : n ≡ x = omega (arith, lt, last) in
        subst (λ y. IsFit (count_in image) recs parts y part) e (here part (subst (λ y. parts y ≡ Some part) (sym e) is)))
  ]

  unfit_at : (n : ℕ) (part : Part) → parts n ≡ Some part → FitBelow n → (IsFit (count_in image) recs parts n part → ⊥) → ⊥
  unfit_at n part is so_far unfit =
      let r = chosen_of n part is in
      let body = body_of area recs n r.0 r.1 in
      no_unfit (record { block = body.0; place = 0 }) (record {
        parts = parts;
        spelt = spelt;
        entity = n;
        part = part;
        is = is;
        rec = r.0;
        body = body.0;
        at = body.1;
        before = λ y p lt there. so_far y p lt there;
        unfit = unfit;
        place = refl;
      })

  each_fits : (n : ℕ) → (FitBelow n → ⊥) → ⊥
  each_fits zero none = none (λ x part lt. absurd (omega (arith, lt)))
  each_fits (suc n) none = each_fits n (λ so_far. by_part so_far (parts n) refl)
    where
      by_part : FitBelow n → (o : Option Part) → parts n ≡ o → ⊥
      by_part so_far None is = none (more_fit n so_far (λ part there. clash (parts n) part is there))
      by_part so_far (Some part) is =
          unfit_at n part is so_far (λ fit. none (more_fit n so_far (λ other there. subst (λ (q : Part). IsFit (count_in image) recs parts n q) (ap (part_or part) (sym is ∙ there)) fit)))
        where
          part_or : Part → Option Part → Part
          part_or d None = d
          part_or d (Some q) = q

  all_fit : (((x : ℕ) (part : Part) → parts x ≡ Some part → IsFit (count_in image) recs parts x part) → ⊥) → ⊥
  all_fit none =
      let e = ends (cut_of recs) recs in
      each_fits e.0 (λ below. none (λ x part is. elim (cases_lt x e.0) as (λ _. IsFit (count_in image) recs parts x part) [
        | inl lt ↦ below x part lt is
        | inr far ↦ (let r = chosen_of x part is in clash (chosen recs x) r.0 (e.1 x far) r.1)
      ]))

-- RECORDS

area_there : (image : Image) (o : Option Area) → active_area image ≡ o → area_fault image o ≡ None → (a : Area) × (active_area image ≡ Some a)
area_there image (Some a) is good = (a, is)
area_there image None is good = by_gate (is_open image 2) good
  where
    by_gate : {X : Type 0} (b : Bool) → no_area b ≡ None → X
    by_gate true e = clash (no_area true) _ e refl
    by_gate false e = clash (no_area false) _ e refl

second_none : (a b c : Option Bad) → first (a ∷ b ∷ c ∷ []) ≡ None → b ≡ None
second_none None None c e = refl
second_none None (Some b) c e = clash (Some b) b e refl
second_none (Some a) b c e = clash (Some a) a e refl

fault_none : (image : Image) → records_fault image ≡ None → check_2 image ≡ None
unfolding records_fault
fault_none image good = second_none (check_1 image) (check_2 image) (check_3 image) good

-- THE LAW
pub not_neither : (image : Image) → (Accepted image → ⊥) → ((bad : Bad) → IsForeign image bad → ⊥) → ⊥
not_neither image refused none = by_fault (records_fault image) refl
  where
    with_records : (recs : List Rec) (has : HasRecords recs image) → ⊥
    with_records recs has =
        all_spelt image recs has.area (λ bad fault. none bad (inr (record { recs = recs; has = has; fault = inl fault })))
        (λ parts spelt. all_fit image recs has.area parts spelt (λ bad fault. none bad (inr (record { recs = recs; has = has; fault = inr fault })))
        (λ fit. refused (record { recs = recs; has = has; parts = parts; spelt = spelt; fit = fit })))

    by_fault : (o : Option Bad) → records_fault image ≡ o → ⊥
    by_fault (Some bad) is = none bad (inl is)
    by_fault None good =
        let a = area_there image (active_area image) refl (fault_none image good) in
        with_records (log_in image a.0) (record { good = good; area = a.0; active = a.1; log = refl })
