-- A part is spelled over each table of blocks, in as many bytes.
use Rattle.std.proofs.Common.{◌≡◌, ◌⊎◌, inl, inr, ℕ, zero, suc, ◌+◌, ◌<◌, ◌≤◌, ◌^◌, List, [], ◌∷◌, ◌++◌, length, replicate, take, Some, refl, sym, ap, ◌∙◌, arith}
use Rattle.std.specs.Prelude.{slice_get}
use Rattle.std.proofs.lemmas.List.{length-replicate, length-take-le}
use Rattle.std.proofs.lemmas.Option.{slice_get_within}
use Rattle.std.proofs.lemmas.List.Elements.{All-replicate, All-take}
use Rattle.kernel_records.specs.kernel_record_facts.blob_grammar.Forms.{SpellsContainer}
use Rattle.kernel_records.specs.kernel_record_facts.blob_grammar.Spelling.{container_blob}
use Rattle.act_alone.specs.declared.loci.Head.{Head}
use Rattle.kernel_records.specs.kernel_record_facts.cell_blobs.act_alone.Loci.{container_with}
use Rattle.kernel_records.proofs.Spelling.{bytes_some, container_same}
use Rattle.node_records.specs.Shipments.{SpellsOver, size_of}
use Rattle.node_records.specs.node_store.page_placing.Writing.{AreAscending}
use Rattle.node_records.specs.node_store.page_placing.declared.writing.PageWords.{PageWords}
use Rattle.node_shipments.specs.Parts.{HasSpelling, IsReadFrom, IsSoundShipment, Shipment, bytes_over, length_in, part_in}
use Rattle.node_shipments.specs.declared.parts.ShipPart.{ShipPart}
use Rattle.node_shipments.specs.declared.parts.ShipPart.TheVariants as ship

pub spelt_over : (part : ShipPart) → HasSpelling part → SpellsOver (part_in part) (bytes_over part)
spelt_over (ship.Atlas a) has table long low = record { form = has.1.form; is = refl }
spelt_over (ship.Container h) has table long low = (let f = has.1.form in record {
  form = record {
    shape = f.shape;
    tag = f.tag;
    every = f.every;
    rights = f.rights;
    blocks = record {
      each_page = length-take-le h.pages table (let size = f.shape.size in omega (arith, size, long));
      numbers = All-take (λ n. n < 2 ^ 32) h.pages table low;
    };
  };
  is = refl;
})
spelt_over (ship.Locus l) has table long low = record { form = has.1.form; is = refl }

pub same_length : (part : ShipPart) (table : List ℕ) → HasSpelling part → length table ≡ 256 → length (bytes_over part table) ≡ length_in part
same_length (ship.Atlas a) table has long = refl
same_length (ship.Container h) table has long =
    let size = has.1.form.shape.size in
    let front : length (take h.pages table) ≡ h.pages = length-take-le h.pages table (omega (arith, size, long)) in
    container_same (container_with (λ _. 0) h) (take h.pages table) (replicate h.pages 0) (front ∙ sym (length-replicate h.pages 0))
same_length (ship.Locus l) table has long = refl

bytes_are : (part : ShipPart) (has : HasSpelling part) → length has.0 ≡ length_in part
bytes_are (ship.Atlas a) has = ap length has.1.is
bytes_are (ship.Container h) has = ap length has.1.is
bytes_are (ship.Locus l) has = ap length has.1.is

pub some_bytes : (part : ShipPart) → HasSpelling part → 1 ≤ length_in part
some_bytes part has = (let some = bytes_some (Some (part_in part)) (part_in part) has.0 refl has.1 in let same = bytes_are part has in omega (arith, some, same))

-- the head of a container that was read
pub head_spelt : (h : Head) (table bytes : List ℕ) → SpellsContainer (container_with (λ _. 0) h) (take h.pages table) bytes → HasSpelling (ship.Container h) × IsReadFrom (ship.Container h) bytes
head_spelt h table bytes s = (let f = s.form in (
  (
    container_blob (container_with (λ _. 0) h) (replicate h.pages 0),
    record {
      form = record {
        shape = f.shape;
        tag = f.tag;
        every = f.every;
        rights = f.rights;
        blocks = record { each_page = length-replicate h.pages 0; numbers = All-replicate (λ n. n < 2 ^ 32) h.pages 0 (omega arith) };
      };
      is = refl;
    },
  ),
  (table, s),
))

-- PAGES THAT ASCEND

-- what has a spelling has at most 256 pages
pub size_few : (part : ShipPart) → HasSpelling part → size_of (part_in part) ≤ 256
size_few (ship.Atlas a) has = omega arith
size_few (ship.Container h) has = has.1.form.shape.size
size_few (ship.Locus l) has = omega arith

-- the page at a place is as high as the place
at_least : (pages : List PageWords) → AreAscending pages → (k : ℕ) (q : PageWords) → slice_get pages k ≡ Some q → k ≤ q.page
at_least pages up zero q at = omega arith
at_least pages up (suc k) q at =
    let p = there_before pages k q at in
    let low = at_least pages up k p.0 p.1 in
    let less = up k (suc k) p.0 q (omega arith) p.1 at in
    omega (arith, low, less)
  where
    there_before : (ps : List PageWords) (k : ℕ) (q : PageWords) → slice_get ps (suc k) ≡ Some q → (p : PageWords) × (slice_get ps k ≡ Some p)
    there_before [] k q at = cc at
    there_before (r ∷ rs) zero q at = (r, refl)
    there_before (r ∷ rs) (suc k) q at = there_before rs k q at

last_there : (p : PageWords) (ps : List PageWords) → (q : PageWords) × (slice_get (p ∷ ps) (length ps) ≡ Some q)
last_there p [] = (p, refl)
last_there p (r ∷ rs) = last_there r rs

pub few_pages : (pages : List PageWords) (size : ℕ) → AreAscending pages → ((k : ℕ) (q : PageWords) → slice_get pages k ≡ Some q → q.page < size) → length pages ≤ size
few_pages [] size up within = omega arith
few_pages (p ∷ ps) size up within =
    let q = last_there p ps in
    let low = at_least (p ∷ ps) up (length ps) q.0 q.1 in
    let less = within (length ps) q.0 q.1 in
    omega (arith, low, less)

pub sound_few : (s : Shipment) → IsSoundShipment s → length s.pages ≤ 256
sound_few s is =
    let few = few_pages s.pages (size_of (part_in s.part)) is.ascending is.within in
    let size = size_few s.part is.spelt in
    omega (arith, few, size)

-- PAGES, one after another

abbrev pub AreBelow : List PageWords → ℕ → ℕ → Type 0
AreBelow pages least size = (k : ℕ) (q : PageWords) → slice_get pages k ≡ Some q → (q.page < least) × (q.page < size)

last_or_before : (ps : List PageWords) (q : PageWords) (k : ℕ) (r : PageWords) → slice_get (ps ++ q ∷ []) k ≡ Some r → (slice_get ps k ≡ Some r) ⊎ ((k ≡ length ps) × (q ≡ r))
last_or_before [] q zero r at = inr (refl, cc at)
last_or_before [] q (suc k) r at = cc at
last_or_before (p ∷ ps) q zero r at = inl at
last_or_before (p ∷ ps) q (suc k) r at = elim (last_or_before ps q k r at) as (λ _. (slice_get ps k ≡ Some r) ⊎ ((suc k ≡ suc (length ps)) × (q ≡ r))) [ inl h ↦ inl h | inr h ↦ inr (ap suc h.0, h.1) ]

short_of : (ps : List PageWords) (k : ℕ) (r : PageWords) → slice_get ps k ≡ Some r → k < length ps
short_of ps k r at = slice_get_within ps k r at

module _ (ps : List PageWords) (q : PageWords) (least number size : ℕ) (is : number ≡ q.page) (low : least ≤ number) (high : number < size) where
  pub ascending_more : AreAscending ps → AreBelow ps least size → AreAscending (ps ++ q ∷ [])
  ascending_more up below i k a b lt one two = elim (last_or_before ps q k b two) as (λ _. a.page < b.page) [
    | inl at ↦ (
        let near = short_of ps k b at in
        elim (last_or_before ps q i a one) as (λ _. a.page < b.page) [
          | inl first ↦ up i k a b lt first at
          | inr first ↦ absurd (let len = first.0 in omega (arith, near, lt, len))
        ])
    | inr last ↦ elim (last_or_before ps q i a one) as (λ _. a.page < b.page) [
      | inl first ↦ (let less = (below i a first).0 in let same = ap (λ (p : PageWords). p.page) last.1 in omega (arith, less, low, is, same))
      | inr first ↦ absurd (let len = first.0 in let end = last.0 in omega (arith, len, end, lt))
    ]
  ]

  pub below_more : AreBelow ps least size → AreBelow (ps ++ q ∷ []) (number + 1) size
  below_more below k r at = elim (last_or_before ps q k r at) as (λ _. (r.page < number + 1) × (r.page < size)) [
    | inl was ↦ (let b = below k r was in let one = b.0 in let two = b.1 in (omega (arith, one, low), two))
    | inr last ↦ (let same = ap (λ (p : PageWords). p.page) last.1 in (omega (arith, same, is), omega (arith, same, is, high)))
  ]
