-- From what an image stores to what it means.
use Rattle.std.proofs.Common.{◌≡◌, ◌≢◌, ℕ, ◌/◌, ◌*◌, ◌%◌, Bool, true, false, ◌⊎◌, inl, inr, ◌&&◌, ◌==◌, if◌then◌else◌, List, [], ◌∷◌, length, map, Option, Some, None, option_map, refl, sym, ap, subst, ◌∙◌, arith, eqb-true, eq-eqb}
use Rattle.std.specs.Prelude.{MatchOption, slice_index}
use Rattle.std.specs.List.{AllByRecursion}
use Rattle.std.proofs.lemmas.Bool.{false≢true}
use Rattle.std.proofs.lemmas.List.{get_or_past}
use Rattle.image_blocks.specs.edge_disk.Image.{Image, block_at}
use Rattle.image_blocks.specs.base_types.declared.records.Rec.{Rec}
use Rattle.model_cut_laws.proofs.Joins.{same_greatest}
use Rattle.blob_grammar.proofs.model_kernel_lemmas.Lowering.{greatest_is, greatest_one}
use Rattle.blob_grammar.specs.model_kernel.Choices.{IsGreatest, IsNarrow}
use Rattle.blob_grammar.specs.model_kernel.State.{Supply, KernelState, ContainerCell, empty_state}
use Rattle.model_cut_laws.specs.Agreeing.{from_cut, nothing}
use Rattle.model_cut_laws.specs.Records.{commits_of}
use Rattle.image_blocks.specs.image_facts.Bodies.{number_at, record_in}
use Rattle.image_blocks.specs.Checks.{body_in}
use Rattle.image_blocks.specs.Logs.{HasRecords}
use Rattle.image_blocks.specs.declared.areas.Area.{Area}
use Rattle.image_meaning.specs.Describing.{DescribesEntity, HasPage, MeaningLaw, bytes_of}
use Rattle.image_meaning.specs.Fits.{IsFit}
use Rattle.image_meaning.specs.Meaning.{entity_of}
use Rattle.image_meaning.specs.Parts.{AtlasPart, ContainerPart, IsSpelt, LocusPart, Part, Spells, cell_of, chosen, chosen_by, cut_of, table_in, words_in}
use Rattle.image_meaning.specs.Stores.{IsFound, IsHeld, Kept, Page, kept_by, recs_of}
use Rattle.image_meaning.proofs.Fitting.{fits}
use Rattle.image_meaning.proofs.Choosing.{from_commits, narrow_kept, same_chosen}

-- RECORDS AS THEY ARE READ

stamp_len : (body : List ℕ) → length (record_in body).stamp ≡ 64
unfolding record_in
stamp_len body = refl

narrow_read : (image : Image) (area : Area) (xs : List ℕ) → IsNarrow (commits_of (map (λ i. record_in (body_in image area i)) xs))
narrow_read image area [] = tt
narrow_read image area (i ∷ xs) =
    ((λ y far. get_or_past (record_in (body_in image area i)).stamp y 0 (let e = stamp_len (body_in image area i) in omega (arith, e, far))), narrow_read image area xs)

-- the log of an image is narrow
pub narrow_log : (recs : List Rec) (image : Image) → HasRecords recs image → IsNarrow (commits_of recs)
narrow_log recs image has = subst (λ (rs : List Rec). IsNarrow (commits_of rs)) has.log (narrow_read image has.area _)

-- WORDS

found_one : (c : Image) (p : Page) (ps : List Page) (block : ℕ) (b : Bool) → (p.block == block) ≡ b → IsFound c p → (HasPage ps block → block_at c block ≡ bytes_of ps block)
    → (p.block ≡ block) ⊎ HasPage ps block → block_at c block ≡ (if b then p.bytes else bytes_of ps block)
found_one c p ps block true e here rest has = subst (λ n. block_at c n ≡ p.bytes) (eqb-true p.block block e) here
found_one c p ps block false e here rest (inl is) = absurd (false≢true (sym e ∙ eq-eqb p.block block is))
found_one c p ps block false e here rest (inr has) = rest has

bytes_found : (c : Image) (ps : List Page) (block : ℕ) → AllByRecursion (IsFound c) ps → HasPage ps block → block_at c block ≡ bytes_of ps block
bytes_found c [] block found has = elim has [ ]
bytes_found c (p ∷ ps) block (one, found) has = found_one c p ps block (p.block == block) refl one (bytes_found c ps block found) has

word_same : (s : Supply) (tag : ℕ) (f g : ℕ → List ℕ) (block address : ℕ) → (block ≢ 0 → f block ≡ g block) → (b : Bool) → (block == 0) ≡ b
    → (if b then s tag (address / 128) (address % 128) else number_at (8 * (address % 128)) 8 (f block)) ≡ (if b then s tag (address / 128) (address % 128) else number_at (8 * (address % 128)) 8 (g block))
word_same s tag f g block address same true e = refl
word_same s tag f g block address same false e = ap (number_at (8 * (address % 128)) 8) (same (λ zero. false≢true (sym e ∙ eq-eqb block 0 zero)))

words_same : (s : Supply) (tag : ℕ) (f g : ℕ → List ℕ) (table : List ℕ) → ((page : ℕ) → slice_index table page ≢ 0 → f (slice_index table page) ≡ g (slice_index table page)) → words_in s tag f table ≡ words_in s tag g table
words_same s tag f g table same = λ i address. word_same s tag f g (slice_index table (address / 128)) address (same (address / 128)) (slice_index table (address / 128) == 0) refl i

pub cell_same : (s : Supply) (f g : ℕ → List ℕ) (part : Part) → ((page : ℕ) → slice_index (table_in part) page ≢ 0 → f (slice_index (table_in part) page) ≡ g (slice_index (table_in part) page)) → cell_of s f part ≡ cell_of s g part
cell_same s f g (AtlasPart a) same = refl
cell_same s f g (LocusPart l) same = refl
cell_same s f g (ContainerPart c table) same = ap (λ (words : ℕ → ℕ). ContainerCell (record c { words = words })) (words_same s c.tag f g table same)

-- ONE ENTITY

abbrev SaidOf : Supply → KernelState → (ℕ → Option Part) → ℕ → Option Kept → Type 0
SaidOf s v parts x o = MatchOption o ((parts x ≡ None) × (v x ≡ empty_state x)) (λ k. (part : Part) × (parts x ≡ Some part) × DescribesEntity s v x k part)

abbrev HeldOf : Image → Option Kept → Type 0
HeldOf c o = MatchOption o (Unit {0}) (IsHeld c)

held_one : (c : Image) (k : Kept) (o : Option Kept) (b : Bool) → IsHeld c k → HeldOf c o → HeldOf c (if b then Some k else o)
held_one c k o true one rest = one
held_one c k o false one rest = rest

held_at : (c : Image) (cut : ℕ → ℕ) (ks : List Kept) (x : ℕ) → AllByRecursion (IsHeld c) ks → HeldOf c (kept_by cut ks x)
held_at c cut [] x held = tt
held_at c cut (k ∷ ks) x (one, held) = held_one c k (kept_by cut ks x) (k.rec.entity == x && k.rec.version == cut x) one (held_at c cut ks x held)

abbrev rec_in : Option Kept → Option Rec
rec_in o = option_map (λ (m : Kept). m.rec) o

spelt_one : (s : Supply) (v : KernelState) (c : Image) (parts : ℕ → Option Part) (x : ℕ) (o : Option Kept) → SaidOf s v parts x o → HeldOf c o
    → MatchOption (rec_in o) (parts x ≡ None) (λ r. (part : Part) × (parts x ≡ Some part) × IsSpelt c x r part)
spelt_one s v c parts x None (none, same) held = none
spelt_one s v c parts x (Some k) (part, is, d) held = (
  part,
  is,
  record {
    kind = d.spells.kind;
    spells = subst (Spells part) (sym held.blob) d.spells.spells;
    rest = held.rest;
  },
)

state_one : (s : Supply) (v : KernelState) (c : Image) (parts : ℕ → Option Part) (x : ℕ) (o : Option Kept) → SaidOf s v parts x o → HeldOf c o
    → v x ≡ entity_of s (block_at c) x (rec_in o) (parts x)
state_one s v c parts x None (none, same) held = same
state_one s v c parts x (Some k) (part, is, d) held =
    let cell : (v x).cell ≡ cell_of s (block_at c) part =
    d.cell ∙ sym (cell_same s (block_at c) (bytes_of k.pages) part (λ page has. bytes_found c k.pages (slice_index (table_in part) page) held.pages (d.spells.pages page has))) in
    let here : v x ≡ entity_of s (block_at c) x (Some k.rec) (Some part) = λ i. record { cell = cell i; version = d.version i; stamp = d.stamp i } in
    subst (λ (p : Option Part). v x ≡ entity_of s (block_at c) x (Some k.rec) p) (sym is) here

-- THE LAW

cut_is : (recs : List Rec) (q : ℕ → ℕ) → IsNarrow (commits_of recs) → IsGreatest nothing (commits_of recs) q → cut_of recs ≡ q
cut_is recs q narrow g = greatest_one nothing (commits_of recs) (cut_of recs) q (greatest_is nothing (commits_of recs) narrow) g

pub meaning_law : MeaningLaw
meaning_law s count ks parts v c stores describes sound named =
    let q : ℕ → ℕ = stores.agree.cut in
    let narrow_recs = narrow_log stores.recs c stores.has in
    let cut_recs : cut_of stores.recs ≡ q = cut_is stores.recs q narrow_recs stores.agree.greatest in
    let agreed : from_cut q (commits_of stores.recs) ≡ from_cut q (commits_of (recs_of ks)) =
    from_commits q stores.recs ∙ (ap commits_of stores.agree.same ∙ sym (from_commits q (recs_of ks))) in
    let greatest_ks : IsGreatest nothing (commits_of (recs_of ks)) q = same_greatest nothing q (commits_of stores.recs) (commits_of (recs_of ks)) agreed stores.agree.greatest in
    let cut_ks : cut_of (recs_of ks) ≡ q = cut_is (recs_of ks) q (narrow_kept c ks stores.held) greatest_ks in
    let chosen_recs : (x : ℕ) → chosen stores.recs x ≡ rec_in (kept_by q ks x) =
    λ x. subst (λ (p : ℕ → ℕ). chosen_by p stores.recs x ≡ rec_in (kept_by q ks x)) (sym cut_recs) (same_chosen q x stores.recs ks stores.agree.same) in
    let chosen_ks : (x : ℕ) → chosen (recs_of ks) x ≡ rec_in (kept_by q ks x) =
    λ x. subst (λ (p : ℕ → ℕ). chosen_by p (recs_of ks) x ≡ rec_in (kept_by q ks x)) (sym cut_ks) (same_chosen q x (recs_of ks) ks refl) in
    let said : (x : ℕ) → SaidOf s v parts x (kept_by q ks x) = λ x. subst (λ (p : ℕ → ℕ). SaidOf s v parts x (kept_by p ks x)) cut_ks (describes.each x) in
    let held : (x : ℕ) → HeldOf c (kept_by q ks x) = λ x. held_at c q ks x stores.held in
    record {
      accepted = record {
        recs = stores.recs;
        has = stores.has;
        parts = parts;
        spelt = λ x. subst (λ (o : Option Rec). MatchOption o (parts x ≡ None) (λ r. (part : Part) × (parts x ≡ Some part) × IsSpelt c x r part)) (sym (chosen_recs x)) (spelt_one s v c parts x (kept_by q ks x) (said x) (held x));
        fit = subst (λ n. (x : ℕ) (part : Part) → parts x ≡ Some part → IsFit n stores.recs parts x part) (sym stores.blocks)
            (fits s count stores.recs ks parts v describes sound (λ x. chosen_recs x ∙ sym (chosen_ks x)) named);
      };
      is = λ i x. (subst (λ (o : Option Rec). v x ≡ entity_of s (block_at c) x o (parts x)) (sym (chosen_recs x)) (state_one s v c parts x (kept_by q ks x) (said x) (held x))) i;
    }
