-- The chosen records of a log, ascending by entity: what they are, and that their greatest closed choice is the log's.
use Rattle.std.proofs.Common.{◌≡◌, ◌≢◌, ℕ, zero, suc, ◌<◌, ◌≤◌, ◌⊎◌, inl, inr, Bool, true, false, ◌&&◌, ◌==◌, if◌then◌else◌, List, [], ◌∷◌, ◌++◌, length, take, get_or, Option, Some, None, refl, sym, ap, subst, ◌∙◌, arith, eqb-true, append-nil}
use Rattle.std.specs.Prelude.{slice_get}
use Rattle.std.specs.List.{AllPairs}
use Rattle.std.specs.List.{list_any}
use Rattle.std.proofs.lemmas.List.{get_or-take, get_or_default, length-take}
use Rattle.std.proofs.lemmas.List.Quantifiers.{all_pairs_push}
use Rattle.std.proofs.lemmas.Option.{get_or_from_slice_get, same_Some, slice_get-get_or, slice_get_within}
use Rattle.std.proofs.lemmas.Bool.{and_from, and_parts, cases_lt, eq-eqb, false≢true}
use Rattle.std.proofs.lemmas.Grind.{flat_map-append}
use Rattle.base_types.specs.Edges.{upto}
use Rattle.base_types.specs.declared.records.Rec.{Rec}
use Rattle.page_store.specs.model_kernel.Choices.{Among, Commit, IsBelow, IsGreatest}
use Rattle.data_cuts.specs.model_cut_laws.Agreeing.{nothing}
use Rattle.data_cuts.specs.model_cut_laws.Records.{commit_of, commits_of}
use Rattle.page_words.specs.image_meaning.Parts.{chosen_by}
use Rattle.log_reading.proofs.image_facts_lemmas.Firsts.{ne_test}
use Rattle.log_reading.proofs.image_facts_lemmas.Fits.{fitting_law}
use Rattle.log_reading.specs.image_facts.Checks.{last_version}
use Rattle.log_reading.specs.image_facts.Layout.{most_blocks}
use Rattle.log_reading.specs.image_facts.Logs.{AreFitting}
use Rattle.log_reading.specs.log_facts.Logs.{AreInRange, IsOlder}
use Rattle.store_facts.specs.Choosing.{chosen_list, listed}
use Rattle.log_reading.proofs.image_blocks_lemmas.Ranges.{last_or_before}

abbrev pub is_chosen : (ℕ → ℕ) → ℕ → Rec → Bool
is_chosen cut x r = (r.entity == x) && (r.version == cut x)

-- a record that is chosen is one of the log, of its entity at the cut
pub record IsChosen (cut : ℕ → ℕ) (recs : List Rec) (x : ℕ) (r : Rec) : Type 0 where
  pub place : ℕ
  pub here : slice_get recs place ≡ Some r
  pub entity : r.entity ≡ x
  pub version : r.version ≡ cut x

none_some : {X : Type 0} (r : Rec) → None ≡ Some r → X
none_some r clash = absurd (let e : None ≡ Some r = clash in cc)

pub chosen_is : (cut : ℕ → ℕ) (recs : List Rec) (x : ℕ) (r : Rec) → chosen_by cut recs x ≡ Some r → IsChosen cut recs x r
chosen_is cut [] x r is = none_some r is
chosen_is cut (q ∷ recs) x r is = by_test (λ rest. chosen_is cut recs x r rest) (is_chosen cut x q) refl is
  where
    by_test : (chosen_by cut recs x ≡ Some r → IsChosen cut recs x r) → (b : Bool) → is_chosen cut x q ≡ b → (if b then Some q else chosen_by cut recs x) ≡ Some r → IsChosen cut (q ∷ recs) x r
    by_test later true test is =
        let same : q ≡ r = same_Some q r is in
        let both = and_parts (q.entity == x) (q.version == cut x) test in
        record {
          place = 0;
          here = ap Some same;
          entity = ap (λ (s : Rec). s.entity) (sym same) ∙ eqb-true q.entity x both.0;
          version = ap (λ (s : Rec). s.version) (sym same) ∙ eqb-true q.version (cut x) both.1;
        }
    by_test later false test is = let l = later is in record { place = suc l.place; here = l.here; entity = l.entity; version = l.version }

-- a record of an entity at the cut is the chosen one, where versions strictly ascend
pub record Picked (cut : ℕ → ℕ) (recs : List Rec) (x : ℕ) (P : Commit → Type 0) : Type 0 where
  pub rec : Rec
  pub chosen : chosen_by cut recs x ≡ Some rec
  pub has : P (commit_of rec)

no_later : (q : Rec) (recs : List Rec) (x v : ℕ) (P : Commit → Type 0) → q.entity ≡ x → q.version ≡ v → ((k : ℕ) (d : Rec) → k < length recs → IsOlder q (get_or recs k d)) → Among (commits_of recs) (λ c. (c.entity ≡ x) × (c.version ≡ v) × P c) → ⊥
no_later q [] x v P of at older among = among
no_later q (r ∷ recs) x v P of at older (inl here) = absurd (let less = older zero r (omega arith) (of ∙ sym here.0) in let same = here.1 in omega (arith, less, same, at))
no_later q (r ∷ recs) x v P of at older (inr among) = no_later q recs x v P of at (λ k d lt. older (suc k) d (omega (arith, lt))) among

pub picked : (cut : ℕ → ℕ) (recs : List Rec) (x : ℕ) (P : Commit → Type 0) → AllPairs IsOlder recs → Among (commits_of recs) (λ c. (c.entity ≡ x) × (c.version ≡ cut x) × P c) → Picked cut recs x P
picked cut [] x P older among = absurd among
picked cut (q ∷ recs) x P older among = by_test (λ rest. picked cut recs x P (λ i j d lt within. older (suc i) (suc j) d (omega (arith, lt)) (omega (arith, within))) rest) (is_chosen cut x q) refl among
  where
    by_test : (Among (commits_of recs) (λ c. (c.entity ≡ x) × (c.version ≡ cut x) × P c) → Picked cut recs x P) → (b : Bool) → is_chosen cut x q ≡ b
        → (((commit_of q).entity ≡ x) × ((commit_of q).version ≡ cut x) × P (commit_of q)) ⊎ Among (commits_of recs) (λ c. (c.entity ≡ x) × (c.version ≡ cut x) × P c) → Picked cut (q ∷ recs) x P
    by_test later true test (inl here) = record { rec = q; chosen = ap (λ (b : Bool). if b then Some q else chosen_by cut recs x) test; has = here.2 }
    by_test later true test (inr rest) =
        let both = and_parts (q.entity == x) (q.version == cut x) test in
        absurd (no_later q recs x (cut x) P (eqb-true q.entity x both.0) (eqb-true q.version (cut x) both.1) (λ k d lt. older zero (suc k) d (omega arith) (omega (arith, lt))) rest)
    by_test later false test (inl here) = absurd (false≢true (sym test ∙ and_from (q.entity == x) (q.version == cut x) (eq-eqb q.entity x here.0) (eq-eqb q.version (cut x) here.1)))
    by_test later false test (inr rest) = let l = later rest in record { rec = l.rec; chosen = ap (λ (b : Bool). if b then Some q else chosen_by cut recs x) test ∙ l.chosen; has = l.has }

-- THE LIST of them

pub chosen_more : (cut : ℕ → ℕ) (recs : List Rec) (n : ℕ) → chosen_list cut recs (upto (suc n)) ≡ chosen_list cut recs (upto n) ++ listed (chosen_by cut recs n)
chosen_more cut recs n = flat_map-append (λ x. listed (chosen_by cut recs x)) (upto n) (n ∷ []) ∙ ap (λ (l : List Rec). chosen_list cut recs (upto n) ++ l) (append-nil (listed (chosen_by cut recs n)))

among_left : (xs ys : List Rec) (P : Commit → Type 0) → Among (commits_of xs) P → Among (commits_of (xs ++ ys)) P
among_left [] ys P among = absurd among
among_left (x ∷ xs) ys P (inl here) = inl here
among_left (x ∷ xs) ys P (inr among) = inr (among_left xs ys P among)

among_right : (xs ys : List Rec) (P : Commit → Type 0) → Among (commits_of ys) P → Among (commits_of (xs ++ ys)) P
among_right [] ys P among = among
among_right (x ∷ xs) ys P among = inr (among_right xs ys P among)

among_split : (xs ys : List Rec) (P : Commit → Type 0) → Among (commits_of (xs ++ ys)) P → Among (commits_of xs) P ⊎ Among (commits_of ys) P
among_split [] ys P among = inr among
among_split (x ∷ xs) ys P (inl here) = inl (inl here)
among_split (x ∷ xs) ys P (inr among) = elim (among_split xs ys P among) as (λ _. Among (commits_of (x ∷ xs)) P ⊎ Among (commits_of ys) P) [ inl front ↦ inl (inr front) | inr back ↦ inr back ]

module _ (cut : ℕ → ℕ) (recs : List Rec) where
  -- a chosen record is listed
  pub is_listed : (n x : ℕ) (r : Rec) (P : Commit → Type 0) → x < n → chosen_by cut recs x ≡ Some r → P (commit_of r) → Among (commits_of (chosen_list cut recs (upto n))) P
  is_listed zero x r P lt is has = absurd (omega (arith, lt))
  is_listed (suc n) x r P lt is has =
      subst (λ (l : List Rec). Among (commits_of l) P) (sym (chosen_more cut recs n)) (elim (cases_lt x n) as (λ _. Among (commits_of (chosen_list cut recs (upto n) ++ listed (chosen_by cut recs n))) P) [
        | inl low ↦ among_left (chosen_list cut recs (upto n)) (listed (chosen_by cut recs n)) P (is_listed n x r P low is has)
        | inr high ↦
            (let same : x ≡ n = omega (arith, lt, high) in
            among_right (chosen_list cut recs (upto n)) (listed (chosen_by cut recs n)) P (subst (λ (o : Option Rec). Among (commits_of (listed o)) P) (sym (subst (λ k. chosen_by cut recs k ≡ Some r) same is)) (inl has)))
      ])

  -- and each one that is listed is chosen
  one_listed : (n : ℕ) (o : Option Rec) (P : Commit → Type 0) → chosen_by cut recs n ≡ o → Among (commits_of (listed o)) P → (r : Rec) × IsChosen cut recs n r × P (commit_of r)
  one_listed n None P is among = absurd among
  one_listed n (Some r) P is (inl here) = (r, chosen_is cut recs n r is, here)
  one_listed n (Some r) P is (inr none) = absurd none

  pub from_list : (n : ℕ) (P : Commit → Type 0) → Among (commits_of (chosen_list cut recs (upto n))) P → (x : ℕ) × (x < n) × (r : Rec) × IsChosen cut recs x r × P (commit_of r)
  from_list zero P among = absurd among
  from_list (suc n) P among = elim (among_split (chosen_list cut recs (upto n)) (listed (chosen_by cut recs n)) P (subst (λ (l : List Rec). Among (commits_of l) P) (chosen_more cut recs n) among)) as (λ _. (x : ℕ) × (x < suc n) × (r : Rec) × IsChosen cut recs x r × P (commit_of r)) [
    | inl front ↦ (let f = from_list n P front in (f.0, (let lt = f.1 in omega (arith, lt)), f.2, f.3, f.4))
    | inr last ↦ (let l = one_listed n (chosen_by cut recs n) P refl last in (n, omega arith, l.0, l.1, l.2))
  ]

  -- THE GREATEST CLOSED CHOICE is the log's
  pub chosen_greatest : AllPairs IsOlder recs → ((i : ℕ) (r : Rec) → slice_get recs i ≡ Some r → r.entity < 64) → IsGreatest nothing (commits_of recs) cut → IsGreatest nothing (commits_of (chosen_list cut recs (upto 64))) cut
  chosen_greatest older small g = record {
    closed = λ x. elim (g.closed x) as (λ _. (cut x ≡ nothing x) ⊎ Among (commits_of (chosen_list cut recs (upto 64))) (λ c. (c.entity ≡ x) × (c.version ≡ cut x) × IsBelow c.stamp cut)) [
      | inl none ↦ inl none
      | inr among ↦
          (let p = picked cut recs x (λ c. IsBelow c.stamp cut) older among in
          let is = chosen_is cut recs x p.rec p.chosen in
          let low : x < 64 = (let lt = small is.place p.rec is.here in let of = is.entity in omega (arith, lt, of)) in
          inr (is_listed 64 x p.rec (λ c. (c.entity ≡ x) × (c.version ≡ cut x) × IsBelow c.stamp cut) low p.chosen (is.entity, is.version, p.has)))
    ];
    greatest = λ q closed x. elim (closed x) as (λ _. q x ≤ cut x) [
      | inl none ↦ (let e = none in omega (arith, e))
      | inr among ↦
          (let f = from_list 64 (λ c. (c.entity ≡ x) × (c.version ≡ q x) × IsBelow c.stamp q) among in
          let is = f.3 in
          let of : f.0 ≡ x = sym is.entity ∙ f.4.0 in
          let at : cut x ≡ q x = ap cut (sym of) ∙ (sym is.version ∙ f.4.1) in
          omega (arith, at))
    ];
  }

-- EACH OF THEM BEHIND THE OTHERS

-- the record is of a lesser entity
abbrev pub IsLower : Rec → Rec → Type 0
IsLower r s = r.entity < s.entity

-- those of entities below a number are chosen, ascending by entity
pub record AreRow (cut : ℕ → ℕ) (recs row : List Rec) (n : ℕ) : Type 0 where
  pub ascending : AllPairs IsLower row
  pub each : (k : ℕ) (r : Rec) → slice_get row k ≡ Some r → IsChosen cut recs r.entity r × (r.entity < n)

row_more : (cut : ℕ → ℕ) (recs row : List Rec) (n : ℕ) (o : Option Rec) → chosen_by cut recs n ≡ o → AreRow cut recs row n → AreRow cut recs (row ++ listed o) (suc n)
row_more cut recs row n None is a = subst (λ (l : List Rec). AreRow cut recs l (suc n)) (sym (append-nil row)) (record { ascending = a.ascending; each = λ k r here. (let e = a.each k r here in (e.0, (let lt = e.1 in omega (arith, lt)))) })
row_more cut recs row n (Some q) is a =
    let c = chosen_is cut recs n q is in
    let of : q.entity ≡ n = c.entity in
    record {
      ascending = all_pairs_push IsLower row q a.ascending (λ k d lt. (let low = (a.each k (get_or row k d) (slice_get-get_or row k d lt)).1 in omega (arith, low, of)));
      each = λ k r here. elim (last_or_before row q k r here) as (λ _. IsChosen cut recs r.entity r × (r.entity < suc n)) [
        | inl old ↦ (let e = a.each k r old.1 in (e.0, (let lt = e.1 in omega (arith, lt))))
        | inr last ↦
            (let same : IsChosen cut recs q.entity q × (q.entity < suc n) = (record { place = c.place; here = c.here; entity = refl; version = c.version ∙ ap cut (sym of) }, omega (arith, of)) in
            subst (λ (s : Rec). IsChosen cut recs s.entity s × (s.entity < suc n)) last.1 same)
      ];
    }

pub are_row : (cut : ℕ → ℕ) (recs : List Rec) (n : ℕ) → AreRow cut recs (chosen_list cut recs (upto n)) n
are_row cut recs zero = record { ascending = λ i j d lt within. absurd (omega (arith, within)); each = λ k r here. none_some r here }
are_row cut recs (suc n) = subst (λ (l : List Rec). AreRow cut recs l (suc n)) (sym (chosen_more cut recs n)) (row_more cut recs (chosen_list cut recs (upto n)) n (chosen_by cut recs n) refl (are_row cut recs n))

-- no record of the entity, so no last version
no_last : (recs : List Rec) (x : ℕ) → ((k : ℕ) (d : Rec) → k < length recs → (get_or recs k d).entity ≢ x) → last_version recs x ≡ 0
no_last [] x none = refl
no_last (r ∷ recs) x none =
    let rest = no_last recs x (λ k d lt. none (suc k) d (omega (arith, lt))) in
    both (list_any (λ (s : Rec). s.entity == x) recs) (r.entity == x) (ne_test r.entity x (none zero r (omega arith))) rest
  where
    both : (a b : Bool) → b ≡ false → last_version recs x ≡ 0 → (if a then last_version recs x else if b then r.version else 0) ≡ 0
    both true b e rest = rest
    both false b e rest = ap (λ (t : Bool). if t then r.version else 0) e

-- EACH FITS behind the ones before it
pub row_fits : (cut : ℕ → ℕ) (recs row : List Rec) (n count : ℕ) → count ≤ most_blocks → AreRow cut recs row n → AreInRange count recs → AreFitting count row
row_fits cut recs row n count few a range i r here =
    let c = (a.each i r here).0 in
    let was = range c.place r c.here in
    let within = slice_get_within row i r here in
    let is : get_or row i r ≡ r = get_or_from_slice_get row i r r here in
    let none : last_version (take i row) r.entity ≡ 0 = no_last (take i row) r.entity (λ k d lt same.
    let len = length-take i row in
    let before : k < i = omega (arith, lt, len) in
    let low : (get_or row k d).entity < (get_or row i d).entity = a.ascending k i d before within in
    let at : get_or (take i row) k d ≡ get_or row k d = get_or-take i row k d before in
    let end : get_or row i d ≡ r = get_or_default row i d r within ∙ is in
    let one : (get_or row k d).entity ≡ r.entity = ap (λ (s : Rec). s.entity) (sym at) ∙ same in
    let two : (get_or row i d).entity ≡ r.entity = ap (λ (s : Rec). s.entity) end in
    omega (arith, low, one, two)) in
    fitting_law count (take i row) r few (record {
      entity = was.entity;
      lengths = was.lengths;
      versions = was.versions;
      newer = (let some = was.versions.0 in omega (arith, none, some));
      components = was.components;
      own = was.own;
      small = was.small;
      numbers = was.numbers;
      needed = was.needed;
      different = was.different;
      unused = was.unused;
    })
