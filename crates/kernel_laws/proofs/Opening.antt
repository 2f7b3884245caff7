-- A kernel's record holds where an image was opened.
use Rattle.std.proofs.Common.{◌≡◌, ◌≢◌, ℕ, ◌≤◌, Bool, true, false, nat_lt, if◌then◌else◌, List, [], ◌∷◌, ◌++◌, filter, map, length, slice_get, take, Option, Some, None, eqb-true, refl, sym, ap, subst, ◌∙◌, arith, inl, inr}
use Rattle.std.specs.Prelude.{Contains, MatchOption, slice_index}
use Rattle.std.specs.List.{AllByRecursion, flat_map}
use Rattle.std.proofs.lemmas.Bool.{cases_lt, lt-ltb}
use Rattle.std.proofs.lemmas.List.{get_or_past}
use Rattle.std.proofs.lemmas.Option.{slice_get-get_or}
use Rattle.edge_disk.specs.Image.{Image, block_at}
use Rattle.base_types.specs.Edges.{upto}
use Rattle.base_types.specs.declared.records.Rec.{Rec}
use Rattle.image_state_laws.specs.model_kernel.Choices.{Commit, IsGreatest, greatest}
use Rattle.image_state_laws.specs.model_kernel.Histories.{chosen_commits}
use Rattle.image_state_laws.specs.model_kernel.State.{EntityState, KernelState, Supply, empty_state}
use Rattle.image_state_laws.proofs.model_kernel_lemmas.Lowering.{greatest_is}
use Rattle.image_state_laws.specs.model_cut_laws.Agreeing.{from_cut, nothing}
use Rattle.image_state_laws.specs.model_cut_laws.Records.{commit_of, commits_of}
use Rattle.image_state_laws.specs.image_facts.Checks.{count_in}
use Rattle.image_state_laws.specs.image_facts.Logs.{IsInRange}
use Rattle.image_state_laws.proofs.image_blocks_lemmas.Ranges.{in_range_law}
use Rattle.image_state_laws.specs.image_meaning.Meaning.{Means, entity_of}
use Rattle.image_state_laws.specs.image_meaning.Parts.{IsSpelt, Part, chosen, cut_of, table_in}
use Rattle.image_state_laws.specs.image_meaning.Stores.{recs_of}
use Rattle.image_state_laws.proofs.image_meaning_lemmas.Finding.{passes, slot_of}
use Rattle.image_state_laws.proofs.image_meaning_lemmas.Firsts.{spelt_at}
use Rattle.image_state_laws.proofs.model_kernel_lemmas.Basics.{and_left}
use Rattle.kernel_invariant.specs.store_books.Books.{Books, Logged, kept_for, kept_in, kept_of, logged_recs}
use Rattle.kernel_invariant.specs.Beginnings.{Beginning, completed}
use Rattle.kernel_invariant.specs.Records.{AreKeptRecords, IsKeptRecord}
use Rattle.kernel_invariant.specs.Telling.{TellsOf}
use Rattle.kernel_invariant.proofs.Cutting.{narrow_kept}
use Rattle.kernel_invariant.proofs.store_told_lemmas.Naming.{behind, first_in}
use Rattle.kernel_invariant.proofs.Telling.{told_record}
use Rattle.kernel_laws.specs.Opening.{KeepsChosen, rec_list}

-- AN OPENED STATE

module _ (s : Supply) (image : Image) (v : KernelState) (m : Means s image v) where
  -- a chosen record is in range
  chosen_range : (x : ℕ) (r : Rec) → chosen m.accepted.recs x ≡ Some r → (1 ≤ r.version) × (length r.stamp ≡ 64) × (r.entity ≡ x)
  chosen_range x r is =
      let at = slot_of (cut_of m.accepted.recs) x m.accepted.recs r is in
      let range : IsInRange (count_in image) (take at.0 m.accepted.recs) r = in_range_law m.accepted.recs image m.accepted.has at.0 r at.1 in
      (range.versions.0, range.components, eqb-true r.entity x (and_left _ _ (passes (cut_of m.accepted.recs) x m.accepted.recs r is)))

  -- an entity is as a chosen record says, or as in the state of nothing
  data Told (x : ℕ) : Type 0 where
    Nothing : chosen m.accepted.recs x ≡ None → v x ≡ empty_state x → Told x
    Record : (r : Rec) (p : Part) → chosen m.accepted.recs x ≡ Some r → m.accepted.parts x ≡ Some p → IsSpelt image x r p → v x ≡ entity_of s (block_at image) x (Some r) (Some p) → Told x

  told : (x : ℕ) → Told x
  told x = by_record (chosen m.accepted.recs x) refl (m.accepted.spelt x)
    where
      here : v x ≡ entity_of s (block_at image) x (chosen m.accepted.recs x) (m.accepted.parts x)
      here = ap (λ (w : KernelState). w x) m.is

      by_record : (o : Option Rec) → chosen m.accepted.recs x ≡ o → MatchOption o (m.accepted.parts x ≡ None) (λ r. (p : Part) × (m.accepted.parts x ≡ Some p) × IsSpelt image x r p) → Told x
      by_record None is none = Nothing is (here ∙ ap (λ (o : Option Rec). entity_of s (block_at image) x o (m.accepted.parts x)) is)
      by_record (Some r) is (p, at, spelt) = Record r p is at spelt
          (here ∙ (ap (λ (o : Option Rec). entity_of s (block_at image) x o (m.accepted.parts x)) is ∙ ap (entity_of s (block_at image) x (Some r)) at))

  -- what no record tells of is as in the state of nothing
  pub meant_unwritten : (x : ℕ) → (v x).version ≡ 0 → v x ≡ empty_state x
  meant_unwritten x none = elim (told x) as (λ _. v x ≡ empty_state x) [
    | Nothing is same ↦ same
    | Record r p is at spelt same ↦ (let low = (chosen_range x r is).0 in let version = ap (λ (e : EntityState). e.version) same in absurd (omega (arith, low, version, none)))
  ]

  -- the chosen record as a commit is the entity's
  commit_now : (x : ℕ) → Commit
  commit_now x = record { entity = x; version = (v x).version; stamp = (v x).stamp }

  chosen_one : (x : ℕ) (rest : List Commit) → Told x → commits_of (rec_list (chosen m.accepted.recs x)) ++ rest ≡ (if nat_lt 0 (v x).version then commit_now x ∷ rest else rest)
  unfolding commit_now
  chosen_one x rest (Nothing is same) =
      let version : (v x).version ≡ 0 = ap (λ (e : EntityState). e.version) same in
      let test : nat_lt 0 (v x).version ≡ false = ap (nat_lt 0) version in
      ap (λ (o : Option Rec). commits_of (rec_list o) ++ rest) is ∙ ap (λ (t : Bool). if t then commit_now x ∷ rest else rest) (sym test)
  chosen_one x rest (Record r p is at spelt same) =
      let range = chosen_range x r is in
      let version : (v x).version ≡ r.version = ap (λ (e : EntityState). e.version) same in
      let stamp : (v x).stamp ≡ slice_index r.stamp = ap (λ (e : EntityState). e.stamp) same in
      let test : nat_lt 0 (v x).version ≡ true = lt-ltb 0 (v x).version (let low = range.0 in omega (arith, low, version)) in
      let one : commit_of r ≡ commit_now x = λ i. record { entity = range.2 i; version = sym version i; stamp = sym stamp i } in
      ap (λ (o : Option Rec). commits_of (rec_list o) ++ rest) is ∙ (ap (λ (c : Commit). c ∷ rest) one ∙ ap (λ (t : Bool). if t then commit_now x ∷ rest else rest) (sym test))

  commits_join : (rs qs : List Rec) → commits_of (rs ++ qs) ≡ commits_of rs ++ commits_of qs
  commits_join [] qs = refl
  commits_join (r ∷ rs) qs = ap (λ (cs : List Commit). commit_of r ∷ cs) (commits_join rs qs)

  by_head : (x : ℕ) (xs : List ℕ) (t : Bool) → (if t then commit_now x ∷ chosen_commits v xs else chosen_commits v xs) ≡ chosen_commits v (if t then x ∷ xs else xs)
  unfolding commit_now
  by_head x xs true = refl
  by_head x xs false = refl

  chosen_all : (xs : List ℕ) → commits_of (flat_map (λ x. rec_list (chosen m.accepted.recs x)) xs) ≡ chosen_commits v (filter (λ x. nat_lt 0 (v x).version) xs)
  chosen_all [] = refl
  chosen_all (x ∷ xs) =
      commits_join (rec_list (chosen m.accepted.recs x)) (flat_map (λ y. rec_list (chosen m.accepted.recs y)) xs)
      ∙ (ap (λ (cs : List Commit). commits_of (rec_list (chosen m.accepted.recs x)) ++ cs) (chosen_all xs)
      ∙ (chosen_one x (chosen_commits v (filter (λ y. nat_lt 0 (v y).version) xs)) (told x)
      ∙ by_head x (filter (λ y. nat_lt 0 (v y).version) xs) (nat_lt 0 (v x).version)))

  each_chosen : (xs : List ℕ) → AllByRecursion (λ (r : Rec). chosen m.accepted.recs r.entity ≡ Some r) (flat_map (λ x. rec_list (chosen m.accepted.recs x)) xs)
  each_chosen [] = tt
  each_chosen (x ∷ xs) = by_record (chosen m.accepted.recs x) refl (each_chosen xs)
    where
      by_record : (o : Option Rec) → chosen m.accepted.recs x ≡ o → AllByRecursion (λ (r : Rec). chosen m.accepted.recs r.entity ≡ Some r) (flat_map (λ y. rec_list (chosen m.accepted.recs y)) xs)
          → AllByRecursion (λ (r : Rec). chosen m.accepted.recs r.entity ≡ Some r) (rec_list o ++ flat_map (λ y. rec_list (chosen m.accepted.recs y)) xs)
      by_record None is rest = rest
      by_record (Some r) is rest = (ap (chosen m.accepted.recs) (chosen_range x r is).2 ∙ is, rest)

  -- a page's block stands once in the table that a chosen blob spells
  table_once : (x : ℕ) (part : Part) → m.accepted.parts x ≡ Some part → (p q : ℕ) → slice_index (table_in part) p ≢ 0 → slice_index (table_in part) p ≡ slice_index (table_in part) q → p ≡ q
  table_once x part is p q some same =
      let block : ℕ = slice_index (table_in part) p in
      let at : slice_get (table_in part) p ≡ Some block = there (table_in part) p some in
      let too : slice_get (table_in part) q ≡ Some block = there (table_in part) q (λ none. some (same ∙ none)) ∙ ap (λ n. Some n) (sym same) in
      sym (((m.accepted.fit x part is).blocks p block at some).once q too)
    where
      there : (xs : List ℕ) (i : ℕ) → slice_index xs i ≢ 0 → slice_get xs i ≡ Some (slice_index xs i)
      there xs i some = elim (cases_lt i (length xs)) as (λ _. slice_get xs i ≡ Some (slice_index xs i)) [
        | inl lt ↦ slice_get-get_or xs i 0 lt
        | inr past ↦ absurd (some (get_or_past xs i 0 past))
      ]

  -- a chosen record with its table tells of its entity
  tells_of : (l : Logged) → chosen m.accepted.recs l.rec.entity ≡ Some l.rec → ((part : Part) → m.accepted.parts l.rec.entity ≡ Some part → (page : ℕ) → slice_index l.table page ≡ slice_index (table_in part) page)
      → TellsOf s v image l.table (kept_for image l)
  tells_of l is tables =
      let x : ℕ = l.rec.entity in
      let spelt = spelt_at image m.accepted.recs m.accepted.parts m.accepted.spelt x l.rec is in
      let part : Part = spelt.0 in
      let same : v x ≡ entity_of s (block_at image) x (Some l.rec) (Some part) =
      ap (λ (w : KernelState). w x) m.is ∙ (ap (λ (o : Option Rec). entity_of s (block_at image) x o (m.accepted.parts x)) is ∙ ap (entity_of s (block_at image) x (Some l.rec)) spelt.1) in
      let range = chosen_range x l.rec is in
      record {
        version = sym (ap (λ (e : EntityState). e.version) same);
        components = range.1;
        stamp = ap (λ (e : EntityState). e.stamp) same;
        part = part;
        kind = spelt.2.kind;
        spells = spelt.2.spells;
        cell = ap (λ (e : EntityState). e.cell) same;
        pages = refl;
        named = tables part spelt.1;
        once = λ p q some equal. table_once x part spelt.1 p q (λ none. some (tables part spelt.1 p ∙ none)) (sym (tables part spelt.1 p) ∙ (equal ∙ tables part spelt.1 q));
      }

pub kept_list : (image : Image) (ls : List Logged) → recs_of (map (kept_for image) ls) ≡ logged_recs ls
kept_list image [] = refl
kept_list image (l ∷ ls) = ap (λ (rs : List Rec). l.rec ∷ rs) (kept_list image ls)

module _ (b : Beginning) (image : Image) (m : Means b.supply image b.state) (bk : Books) (keeps : KeepsChosen image m.accepted bk) where
  each_told : (ls : List Logged) → AllByRecursion (λ (r : Rec). chosen m.accepted.recs r.entity ≡ Some r) (logged_recs ls)
      → ((l : Logged) (part : Part) → Contains ls l → m.accepted.parts l.rec.entity ≡ Some part → (page : ℕ) → slice_index l.table page ≡ slice_index (table_in part) page)
      → AllByRecursion (IsKeptRecord b []) (map (kept_for image) ls)
  each_told [] all tables = tt
  each_told (l ∷ ls) (one, all) tables = (
    told_record b [] tt image l.table (kept_for image l) (tells_of b.supply image b.state m l one (λ part. tables l part (first_in l ls))),
    each_told ls all (λ k part within. tables k part (behind l k ls within)),
  )

  -- the kept records are those of the run that begins there
  pub opened_records : AreKeptRecords b [] (completed b []) (kept_of image bk)
  opened_records =
      let each : AllByRecursion (IsKeptRecord b []) (kept_of image bk) =
      each_told (kept_in bk) (subst (AllByRecursion (λ (r : Rec). chosen m.accepted.recs r.entity ≡ Some r)) (sym keeps.recs) (each_chosen b.supply image b.state m (upto 64))) keeps.tables in
      let ds : List Commit = commits_of (recs_of (kept_of image bk)) in
      let same : ds ≡ completed b [] = ap commits_of (kept_list image (kept_in bk)) ∙ (ap commits_of keeps.recs ∙ chosen_all b.supply image b.state m (upto 64)) in
      let g : IsGreatest nothing ds (greatest nothing ds) = greatest_is nothing ds (narrow_kept b [] (kept_of image bk) each) in
      record {
        agree = record {
          cut = greatest nothing ds;
          greatest = subst (λ (cs : List Commit). IsGreatest nothing cs (greatest nothing ds)) same g;
          same = ap (from_cut (greatest nothing ds)) (sym same);
        };
        each = each;
      }
