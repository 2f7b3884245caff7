-- Where the blocks have one owner, each page's block of the chosen kept records is named once.
use Rattle.std.proofs.Common.{◌≡◌, ◌≢◌, ℕ, suc, ◌&&◌, ◌==◌, if◌then◌else◌, Bool, true, false, List, [], ◌∷◌, map, Option, Some, None, refl, sym, ap, subst, ◌∙◌, arith, eqb-true}
use Rattle.std.proofs.lemmas.List.{get_or_default}
use Rattle.std.proofs.lemmas.Option.{slice_get_within, slice_get-get_or}
use Rattle.std.specs.Prelude.{Contains, slice_get, slice_index}
use Rattle.edge_disk.specs.Image.{Image}
use Rattle.image_blocks.specs.base_types.declared.records.Rec.{Rec}
use Rattle.image_blocks.proofs.model_kernel_lemmas.Basics.{and_left}
use Rattle.image_blocks.specs.image_facts.Bodies.{blob_blocks}
use Rattle.image_meaning.specs.Parts.{chosen, chosen_by, cut_of, table_in}
use Rattle.image_meaning.specs.Stores.{recs_of}
use Rattle.image_meaning.proofs.Finding.{passes}
use Rattle.image_meaning.proofs.Firsts.{clash}
use Rattle.image_meaning.proofs.Resting.{one_of}
use Rattle.store_books.specs.Books.{Books, Logged, kept_for, kept_in, kept_of}
use Rattle.store_books.specs.Owning.{NamesPage, OwnedLaw}
use Rattle.image_blocks.proofs.Ranges.{rec_or}

abbrev pub number_or : Option ℕ → ℕ
number_or None = 0
number_or (Some n) = n

-- an item at a place
pub item_at : (xs : List ℕ) (i n : ℕ) → slice_get xs i ≡ Some n → slice_index xs i ≡ n
item_at xs i n is =
    let lt = slice_get_within xs i n is in
    ap number_or (sym (slice_get-get_or xs i 0 lt) ∙ is)

-- the place of an item
pub place_in : (xs : List ℕ) (n : ℕ) → Contains xs n → (i : ℕ) × (slice_index xs i ≡ n)
place_in xs n (i, lt, is) = (i, get_or_default xs i 0 n lt ∙ is)

-- what is chosen is a kept record
first_kept : (image : Image) (cut : ℕ → ℕ) (x : ℕ) (ls : List Logged) (r : Rec) → chosen_by cut (recs_of (map (kept_for image) ls)) x ≡ Some r
    → (l : Logged) × Contains ls l × (l.rec ≡ r)
first_kept image cut x [] r is = clash None r refl is
first_kept image cut x (l ∷ ls) r is = go (l.rec.entity == x && l.rec.version == cut x) is (first_kept image cut x ls r)
  where
    go : (b : Bool) → (if b then Some l.rec else chosen_by cut (recs_of (map (kept_for image) ls)) x) ≡ Some r
        → (chosen_by cut (recs_of (map (kept_for image) ls)) x ≡ Some r → (m : Logged) × Contains ls m × (m.rec ≡ r)) → (m : Logged) × Contains (l ∷ ls) m × (m.rec ≡ r)
    go true here later = (l, (0, omega arith, refl), ap (rec_or r) here)
    go false there later = behind (later there)
      where
        behind : (m : Logged) × Contains ls m × (m.rec ≡ r) → (m : Logged) × Contains (l ∷ ls) m × (m.rec ≡ r)
        behind (m, (i, lt, at), is) = (m, (suc i, omega (arith, lt), at), is)

kept_chosen : (b : Books) (image : Image) (x : ℕ) (r : Rec) → chosen (recs_of (kept_of image b)) x ≡ Some r → (l : Logged) × Contains (kept_in b) l × (l.rec ≡ r)
kept_chosen b image x r is = first_kept image (cut_of (recs_of (kept_of image b))) x (kept_in b) r is

own_entity : (b : Books) (image : Image) (x : ℕ) (r : Rec) → chosen (recs_of (kept_of image b)) x ≡ Some r → r.entity ≡ x
own_entity b image x r is =
    let recs : List Rec = recs_of (kept_of image b) in
    eqb-true r.entity x (and_left (r.entity == x) (r.version == cut_of recs x) (passes (cut_of recs) x recs r is))

pub owned_once : OwnedLaw
owned_once b tables image parts o of_part x part is page block at some =
    let t = of_part x part is in
    let l : Logged = t.logged in
    let here : slice_index l.table page ≡ block = sym (t.same page) ∙ item_at (table_in part) page block at in
    let page_there : slice_index l.table page ≢ 0 = λ none. some (sym here ∙ none) in
    let named : NamesPage l.table block = (some, subst (λ n. Contains l.table n) here (one_of l.table page page_there)) in
    record {
      pool = o.kept_pool l block t.is_kept named;
      once = λ q there. sym (o.kept_once l l page q t.is_kept t.is_kept page_there (here ∙ sym (sym (t.same q) ∙ item_at (table_in part) q block there))).1;
      blob = λ r mine within. o.not_blob l l block t.is_kept t.is_kept named (subst (λ (q : Rec). Contains (blob_blocks q) block) (ap (rec_or r) (sym mine ∙ t.is_chosen)) within);
      others = λ y apart. record {
        by_blob = λ r theirs within.
            let m = kept_chosen b image y r theirs in
            o.not_blob l m.0 block t.is_kept m.1 named (subst (λ (q : Rec). Contains (blob_blocks q) block) (sym m.2) within);
        by_table = λ p theirs within.
            let u = of_part y p theirs in
            let found = place_in (table_in p) block within in
            let both = o.kept_once l u.logged page found.0 t.is_kept u.is_kept page_there (here ∙ sym (sym (u.same found.0) ∙ found.1)) in
            apart (sym (own_entity b image y u.logged.rec u.is_chosen) ∙ (sym both.0 ∙ own_entity b image x l.rec t.is_chosen));
      };
    }
