-- An image has one meaning.
use Rattle.std.proofs.Common.{◌≡◌, ℕ, List, Option, Some, None, refl, sym, ap, subst, ◌∙◌}
use Rattle.std.specs.Prelude.{MatchOption, slice_index}
use Rattle.image_blocks.specs.edge_disk.Image.{Image, block_at}
use Rattle.image_blocks.specs.base_types.declared.records.Rec.{Rec}
use Rattle.blob_grammar.specs.model_kernel.State.{Supply, KernelState}
use Rattle.blob_grammar.proofs.Values.{one_atlas, one_container, one_locus}
use Rattle.image_blocks.specs.image_facts.Bodies.{blob_in}
use Rattle.image_blocks.specs.Checks.{log_in}
use Rattle.image_blocks.specs.Logs.{HasRecords}
use Rattle.image_blocks.specs.declared.areas.Area.{Area}
use Rattle.image_meaning.specs.Meaning.{Means, entity_of, state_of}
use Rattle.image_meaning.specs.Parts.{AreSpelt, AtlasPart, ContainerPart, IsSpelt, LocusPart, Part, Spells, cell_of, chosen, kind_in}

-- RECORDS

abbrev area_or : Area → Option Area → Area
area_or d None = d
area_or d (Some a) = a

pub one_area : (image : Image) (recs others : List Rec) (h : HasRecords recs image) (g : HasRecords others image) → h.area ≡ g.area
one_area image recs others h g = ap (area_or h.area) (sym h.active ∙ g.active)

pub one_log : (image : Image) (recs others : List Rec) → HasRecords recs image → HasRecords others image → recs ≡ others
one_log image recs others h g = sym h.log ∙ ap (log_in image) (one_area image recs others h g) ∙ g.log

-- PARTS. Two that a blob spells for one entity differ at most in a container's words, which a part's cell doesn't have.

abbrev pub plain : Part → Part
plain (AtlasPart a) = AtlasPart a
plain (ContainerPart c table) = ContainerPart (record c { words = λ _. 0 }) table
plain (LocusPart l) = LocusPart l

pub plain_one : (x : ℕ) (p q : Part) (bytes : List ℕ) → kind_in p ≡ kind_in q → Spells p bytes → Spells q bytes → plain p ≡ plain q
plain_one x (AtlasPart a) (AtlasPart b) bytes kind one other = ap AtlasPart (one_atlas a b bytes one other)
plain_one x (ContainerPart c t) (ContainerPart d u) bytes kind one other =
    let same = one_container c d t u bytes one other in
    λ i. ContainerPart (record (same.1 i) { words = λ _. 0 }) (same.0 i)
plain_one x (LocusPart l) (LocusPart m) bytes kind one other = ap LocusPart (one_locus l m bytes one other)
plain_one x (AtlasPart a) (ContainerPart d u) bytes kind one other = cc
plain_one x (AtlasPart a) (LocusPart m) bytes kind one other = cc
plain_one x (ContainerPart c t) (AtlasPart b) bytes kind one other = cc
plain_one x (ContainerPart c t) (LocusPart m) bytes kind one other = cc
plain_one x (LocusPart l) (AtlasPart b) bytes kind one other = cc
plain_one x (LocusPart l) (ContainerPart d u) bytes kind one other = cc

pub plain_cell : (s : Supply) (bytes : ℕ → List ℕ) (p : Part) → cell_of s bytes p ≡ cell_of s bytes (plain p)
plain_cell s bytes (AtlasPart a) = refl
plain_cell s bytes (ContainerPart c table) = refl
plain_cell s bytes (LocusPart l) = refl

pub spelt_one : (image : Image) (x : ℕ) (r : Rec) (p q : Part) → IsSpelt image x r p → IsSpelt image x r q → plain p ≡ plain q
spelt_one image x r p q one other = plain_one x p q (blob_in image r) (one.kind ∙ sym other.kind) one.spells other.spells

abbrev pub SpeltAs : Image → ℕ → Option Rec → Option Part → Type 0
SpeltAs image x o part = MatchOption o (part ≡ None) (λ r. (p : Part) × (part ≡ Some p) × IsSpelt image x r p)

same_entity : (s : Supply) (image : Image) (x : ℕ) (o : Option Rec) (p q : Option Part) → SpeltAs image x o p → SpeltAs image x o q
    → entity_of s (block_at image) x o p ≡ entity_of s (block_at image) x o q
same_entity s image x None p q one other = refl
same_entity s image x (Some r) p q (one, is, spelt) (other, at, told) =
    let cells : cell_of s (block_at image) one ≡ cell_of s (block_at image) other =
    plain_cell s (block_at image) one ∙ (ap (cell_of s (block_at image)) (spelt_one image x r one other spelt told) ∙ sym (plain_cell s (block_at image) other)) in
    ap (entity_of s (block_at image) x (Some r)) is
    ∙ ((λ i. record { cell = cells i; version = r.version; stamp = slice_index r.stamp }) ∙ sym (ap (entity_of s (block_at image) x (Some r)) at))

pub one_meaning : (s : Supply) (image : Image) (v w : KernelState) → Means s image v → Means s image w → v ≡ w
one_meaning s image v w m n =
    let a = m.accepted in
    let b = n.accepted in
    let logs : a.recs ≡ b.recs = one_log image a.recs b.recs a.has b.has in
    let spelt : AreSpelt image b.recs a.parts = subst (λ (recs : List Rec). AreSpelt image recs a.parts) logs a.spelt in
    m.is
    ∙ (ap (λ (recs : List Rec). state_of s (block_at image) recs a.parts) logs
    ∙ ((λ i x. same_entity s image x (chosen b.recs x) (a.parts x) (b.parts x) (spelt x) (b.spelt x) i)
    ∙ sym n.is))
