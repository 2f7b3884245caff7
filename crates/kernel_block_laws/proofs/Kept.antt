-- The blocks of a kernel's kept records are within the room of its entities.
use Rattle.std.proofs.Common.{◌≡◌, ℕ, zero, suc, ◌+◌, ◌*◌, ◌≤◌, ◌<◌, Bool, true, false, not, ◌&&◌, ◌==◌, nat_le, if◌then◌else◌, cond, List, [], ◌∷◌, ◌++◌, count_by, filter, length, map, take, Some, option_to_list, refl, sym, ap, subst, ◌∙◌, arith, eqb-true}
use Rattle.std.specs.Prelude.{slice_get}
use Rattle.std.specs.List.{AllByRecursion, sum_by}
use Rattle.std.proofs.lemmas.List.Sums.{length-filter, sum_by-cons}
use Rattle.edge_disk.specs.Image.{Image, block_at}
use Rattle.base_types.specs.Edges.{upto}
use Rattle.base_types.specs.declared.histories.Entry.{Entry}
use Rattle.base_types.specs.declared.records.Rec.{Rec}
use Rattle.kernel_invariant.specs.model_kernel.Choices.{Commit, IsGreatest, greatest}
use Rattle.kernel_invariant.specs.model_kernel.Histories.{commits_above, start_run}
use Rattle.kernel_invariant.specs.model_kernel.State.{AtlasCell, Cell, ContainerCell, KernelState, LocusCell, NotBorn, Supply}
use Rattle.kernel_invariant.proofs.model_kernel_lemmas.CommitStamps.{AllCommits}
use Rattle.kernel_invariant.proofs.model_kernel_lemmas.Lowering.{greatest_is, greatest_one}
use Rattle.kernel_invariant.specs.model_cut_laws.Agreeing.{from_cut, is_from, nothing}
use Rattle.kernel_invariant.specs.model_cut_laws.Records.{commit_of, commits_of}
use Rattle.kernel_invariant.proofs.model_cut_laws_lemmas.Filters.{kept}
use Rattle.kernel_invariant.proofs.model_cut_laws_lemmas.Joins.{same_greatest}
use Rattle.kernel_invariant.specs.image_facts.Bodies.{blob_blocks, blocks_for, body_block, record_in}
use Rattle.kernel_invariant.specs.image_facts.Logs.{AreFitting}
use Rattle.kernel_invariant.specs.image_meaning.Describing.{bytes_of}
use Rattle.kernel_invariant.specs.image_meaning.Parts.{AtlasPart, ContainerPart, LocusPart, Part, Spells, cell_of, table_in}
use Rattle.kernel_invariant.specs.image_meaning.Stores.{Page, recs_of}
use Rattle.kernel_invariant.proofs.image_meaning_lemmas.Choosing.{from_commits}
use Rattle.kernel_invariant.proofs.model_run_laws_lemmas.Cuts.{cut_exists, cut_kept}
use Rattle.kernel_invariant.proofs.model_sound_runs_lemmas.Kept.{kept_few as kept_all, small_after}
use Rattle.kernel_invariant.proofs.model_sound_runs_lemmas.Standing.{legal_below}
use Rattle.kernel_invariant.proofs.model_sound_states_lemmas.Empty.{none_beyond}
use Rattle.kernel_invariant.specs.store_books.Books.{Books, Logged, cut_in, kept_for, kept_in, kept_of, logged_recs, recs_in}
use Rattle.kernel_invariant.proofs.store_books_lemmas.Keeping.{kept_recs}
use Rattle.kernel_invariant.specs.Beginnings.{Beginning, BeginsRight, IsLegal, completed, first_commits, run_of, state_after}
use Rattle.kernel_invariant.specs.Records.{AreKeptRecords, IsKeptRecord}
use Rattle.kernel_invariant.proofs.Cutting.{from_start}
use Rattle.kernel_invariant.proofs.Growing.{fitting_narrow}
use Rattle.kernel_invariant.proofs.Leaving.{first_sure}
use Rattle.kernel_invariant.proofs.Pages.{pages_for}
use Rattle.kernel_invariant.proofs.Staying.{longer}
use Rattle.kernel_block_laws.specs.Room.{all_born, all_pages, blocks_of, is_there, kept_blocks, named_in, pages_in}
use Rattle.kernel_block_laws.proofs.Counting.{count_more}
use Rattle.kernel_block_laws.proofs.Rooms.{thing_rooms}
use Rattle.kernel_block_laws.proofs.Sums.{AreWithin, sum_bound}
use Rattle.kernel_block_laws.proofs.Widths.{cell_room}

-- ONE RECORD

page_one : (image : Image) (t : ℕ) (ps : List Page) (z : Bool) → length ((if z then [] else record { block = t; bytes = block_at image t } ∷ []) ++ ps) ≡ cond (not z) 1 0 + length ps
page_one image t ps true = omega arith
page_one image t ps false = omega arith

-- a record has as many pages as its table names
pages_count : (image : Image) (table : List ℕ) → length (pages_for image table) ≡ named_in table
pages_count image [] = refl
pages_count image (t ∷ ts) =
    let one = page_one image t (pages_for image ts) (t == 0) in
    let more = count_more (λ (n : ℕ). not (n == 0)) t ts in
    let rest = pages_count image ts in
    omega (arith, one, more, rest)

-- what a blob spells has the room of its pages
part_room : (s : Supply) (bytes : ℕ → List ℕ) (part : Part) (blob : List ℕ) → Spells part blob → 8 + length (table_in part) ≤ cell_room (cell_of s bytes part)
part_room s bytes (AtlasPart a) blob spells = omega arith
part_room s bytes (LocusPart l) blob spells = omega arith
part_room s bytes (ContainerPart c table) blob spells = (let len = spells.form.blocks.each_page in omega (arith, len))

blocks_long : (body : List ℕ) → length (record_in body).blocks ≡ 8
unfolding record_in
blocks_long body = refl

take_few : (n : ℕ) (xs : List ℕ) → length (take n xs) ≤ length xs
take_few zero xs = omega arith
take_few (suc n) [] = omega arith
take_few (suc n) (x ∷ xs) = (let rest = take_few n xs in omega (arith, rest))

-- each of a log's records that fits names at most eight blocks of a blob
fitting_blocks : (count : ℕ) (recs : List Rec) → AreFitting count recs → (i : ℕ) (r : Rec) → slice_get recs i ≡ Some r → length (blob_blocks r) ≤ 8
fitting_blocks count recs fit i r at =
    let few = take_few (blocks_for r.length) r.blocks in
    let long : length r.blocks ≡ 8 = subst (λ (q : Rec). length q.blocks ≡ 8) (fit i r at).back (blocks_long (body_block r)) in
    omega (arith, few, long)

all_blocks : (recs : List Rec) → ((i : ℕ) (r : Rec) → slice_get recs i ≡ Some r → length (blob_blocks r) ≤ 8) → AllByRecursion (λ (r : Rec). length (blob_blocks r) ≤ 8) recs
all_blocks [] few = tt
all_blocks (r ∷ recs) few = (few 0 r refl, all_blocks recs (λ i q at. few (suc i) q at))

module _ (b : Beginning) (es : List Entry) (right : BeginsRight b) (legal : IsLegal b es) (image : Image) where
  record_room : (l : Logged) → IsKeptRecord b es (kept_for image l) → length (blob_blocks l.rec) ≤ 8 → blocks_of l ≤ cell_room (state_after b es l.rec.entity).cell
  record_room l r blob =
      let few = r.few in
      let pages = pages_count image l.table in
      let part = part_room b.supply (bytes_of (kept_for image l).pages) r.told.part (kept_for image l).blob r.told.describes.spells.spells in
      let cell = ap cell_room r.told.describes.cell in
      let rise = thing_rooms b.supply b.policy b.script right.script es (start_run b.state) legal (record { sound = right.sound.sound; kinds = λ _. right.names }) l.rec.entity l.rec.version in
      omega (arith, few, pages, part, cell, rise, blob)

-- THE KEPT RECORDS ARE THE RUN'S COMMITS FROM THE CUT ON

count_key : (x : ℕ) (ls : List Logged) → count_by (λ (l : Logged). l.rec.entity == x) ls ≡ count_by (λ (c : Commit). c.entity == x) (commits_of (logged_recs ls))
count_key x [] = refl
count_key x (l ∷ ls) =
    let a = count_more (λ (l : Logged). l.rec.entity == x) l ls in
    let b = count_more (λ (c : Commit). c.entity == x) (commit_of l.rec) (commits_of (logged_recs ls)) in
    let rest = count_key x ls in
    omega (arith, a, b, rest)

pub kept_list : (image : Image) (ls : List Logged) → recs_of (map (kept_for image) ls) ≡ logged_recs ls
kept_list image [] = refl
kept_list image (l ∷ ls) = ap (λ (rs : List Rec). l.rec ∷ rs) (kept_list image ls)

above_one : (q : ℕ → ℕ) (x : ℕ) (c : Commit) (t : Bool) → is_from q c ≡ t → (k m : ℕ) → k ≡ m → cond t (cond (c.entity == x) 1 0 + k) k ≡ cond (c.entity == x && nat_le (q x) c.version) 1 0 + m
above_one q x c t e k m same = by_key (c.entity == x) refl t e
  where
    here : (p : Bool) (t : Bool) → (c.entity == x) ≡ true → is_from q c ≡ t → nat_le (q x) c.version ≡ t
    here p t is e = subst (λ y. nat_le (q y) c.version ≡ t) (eqb-true c.entity x is) e

    by_key : (p : Bool) → (c.entity == x) ≡ p → (t : Bool) → is_from q c ≡ t → cond t (cond p 1 0 + k) k ≡ cond (p && nat_le (q x) c.version) 1 0 + m
    by_key false is true e = omega (arith, same)
    by_key false is false e = omega (arith, same)
    by_key true is true e = (let one : cond {A = ℕ} (nat_le (q x) c.version) 1 0 ≡ 1 = ap (λ p. cond {A = ℕ} p 1 0) (here true true is e) in omega (arith, one, same))
    by_key true is false e = (let zero_is : cond {A = ℕ} (nat_le (q x) c.version) 1 0 ≡ 0 = ap (λ p. cond {A = ℕ} p 1 0) (here true false is e) in omega (arith, zero_is, same))

-- those of an entity at or above a choice
count_from : (q : ℕ → ℕ) (x : ℕ) (cs : List Commit) → count_by (λ (c : Commit). c.entity == x) (from_cut q cs) ≡ commits_above cs q x
count_from q x [] = refl
count_from q x (c ∷ cs) =
    let rest = count_from q x cs in
    let more = count_more (λ (d : Commit). d.entity == x && nat_le (q x) d.version) c cs in
    let one = above_one q x c (is_from q c) refl (count_by (λ (d : Commit). d.entity == x) (from_cut q cs)) (commits_above cs q x) rest in
    let head = by_test (is_from q c) in
    omega (arith, more, one, head)
  where
    by_test : (t : Bool) → count_by (λ (d : Commit). d.entity == x) (if t then c ∷ from_cut q cs else from_cut q cs) ≡ cond t (cond (c.entity == x) 1 0 + count_by (λ (d : Commit). d.entity == x) (from_cut q cs)) (count_by (λ (d : Commit). d.entity == x) (from_cut q cs))
    by_test true = count_more (λ (d : Commit). d.entity == x) c (from_cut q cs)
    by_test false = refl

pub all_from : (P : Commit → Type 0) (q : ℕ → ℕ) (cs : List Commit) → AllCommits P cs → AllCommits P (from_cut q cs)
all_from P q [] all = tt
all_from P q (c ∷ cs) all = by_test (is_from q c) (all_from P q cs all.1)
  where
    by_test : (t : Bool) → AllCommits P (from_cut q cs) → AllCommits P (if t then c ∷ from_cut q cs else from_cut q cs)
    by_test true rest = (all.0, rest)
    by_test false rest = rest

each_filter : (P : Logged → Type 0) (f : Logged → Bool) (ls : List Logged) → AllByRecursion P ls → AllByRecursion P (filter f ls)
each_filter P f [] all = tt
each_filter P f (l ∷ ls) (one, all) = by_test (f l) (each_filter P f ls all)
  where
    by_test : (t : Bool) → AllByRecursion P (filter f ls) → AllByRecursion P (if t then l ∷ filter f ls else filter f ls)
    by_test true rest = (one, rest)
    by_test false rest = rest

pub long_list : (ls : List Logged) → length ls ≡ length (commits_of (logged_recs ls))
long_list [] = refl
long_list (l ∷ ls) = ap suc (long_list ls)

each_logged : (P : Rec → Type 0) (ls : List Logged) → AllByRecursion P (logged_recs ls) → AllByRecursion (λ (l : Logged). P l.rec) ls
each_logged P [] all = tt
each_logged P (l ∷ ls) (one, all) = (one, each_logged P ls all)

module _ (b : Beginning) (es : List Entry) (right : BeginsRight b) (legal : IsLegal b es) (count : ℕ) (image : Image) (bk : Books) (fit : AreFitting count (recs_in bk)) (a : AreKeptRecords b es (completed b es) (kept_of image bk)) where
  kept_commits : commits_of (recs_of (kept_of image bk)) ≡ from_cut (cut_in bk) (commits_of (recs_in bk))
  kept_commits = ap commits_of (kept_recs image bk) ∙ sym (from_commits (cut_in bk) (recs_in bk))

  same_kept : from_cut (cut_in bk) (commits_of (recs_in bk)) ≡ from_cut (cut_in bk) (commits_of (recs_of (kept_of image bk)))
  same_kept = kept (cut_in bk) (commits_of (recs_in bk)) ∙ ap (from_cut (cut_in bk)) (sym kept_commits)

  -- the store's cut is that of the commits
  same_cut : cut_in bk ≡ a.agree.cut
  same_cut =
      let ds : List Commit = commits_of (recs_of (kept_of image bk)) in
      greatest_one nothing ds (cut_in bk) a.agree.cut
      (same_greatest nothing (cut_in bk) (commits_of (recs_in bk)) ds same_kept (greatest_is nothing (commits_of (recs_in bk)) (fitting_narrow count (recs_in bk) fit)))
      (same_greatest nothing a.agree.cut (completed b es) ds a.agree.same a.agree.greatest)

  -- and of the run
  run_cut : (run_of b es).cut ≡ a.agree.cut
  run_cut =
      let start : ℕ → ℕ = λ x. (b.state x).version in
      let exists : IsGreatest start (completed b es) (greatest start (completed b es)) =
      cut_exists b.supply b.policy b.script b.state es (completed b es) (option_to_list (run_of b es).tried) right.sound.below (none_beyond b.supply b.state right.sound)
      (legal_below b.supply b.policy b.script right.script b.state es right.names right.sound.sound legal) legal refl in
      let first : first_commits b es (length (completed b es)) ≡ completed b es = first_sure b es in
      let from : IsGreatest start (first_commits b es (length (completed b es))) a.agree.cut =
      from_start b es (length (completed b es)) right (longer b [] es) a.agree.cut (subst (λ (cs : List Commit). IsGreatest nothing cs a.agree.cut) (sym first) a.agree.greatest) in
      let here : IsGreatest start (completed b es) a.agree.cut = subst (λ (cs : List Commit). IsGreatest start cs a.agree.cut) first from in
      cut_kept b.supply b.policy b.script b.state es ∙ greatest_one start (completed b es) (greatest start (completed b es)) a.agree.cut exists here

  kept_is : commits_of (logged_recs (kept_in bk)) ≡ from_cut (run_of b es).cut (completed b es)
  kept_is =
      let ds : List Commit = commits_of (recs_of (kept_of image bk)) in
      let own : ds ≡ from_cut (cut_in bk) ds = kept_commits ∙ same_kept in
      ap commits_of (sym (kept_list image (kept_in bk))) ∙ (own ∙ (ap (λ (q : ℕ → ℕ). from_cut q ds) same_cut ∙ (sym a.agree.same ∙ ap (λ (q : ℕ → ℕ). from_cut q (completed b es)) (sym run_cut))))

  -- of each entity there are as many kept records as commits at or above the cut
  pub kept_as_many : (x : ℕ) → count_by (λ (l : Logged). l.rec.entity == x) (kept_in bk) ≡ commits_above (completed b es) (run_of b es).cut x
  kept_as_many x =
      let keys = count_key x (kept_in bk) in
      let same = ap (λ (cs : List Commit). count_by (λ (c : Commit). c.entity == x) cs) kept_is in
      let from = count_from (run_of b es).cut x (completed b es) in
      omega (arith, keys, same, from)

  -- there are at most 320 kept records
  pub kept_count : length (kept_in bk) ≤ 320
  kept_count =
      let long : length (kept_in bk) ≡ length (commits_of (logged_recs (kept_in bk))) = long_list (kept_in bk) in
      let same = ap (λ (cs : List Commit). length cs) kept_is in
      let filtered : length (from_cut (run_of b es).cut (completed b es)) ≡ count_by (is_from (run_of b es).cut) (completed b es) = length-filter (is_from (run_of b es).cut) (completed b es) in
      let few = kept_all b.supply b.policy b.script b.state es right.script right.names right.sound.sound right.sound.below (none_beyond b.supply b.state right.sound) legal in
      omega (arith, long, same, filtered, few)

  kept_small : AllCommits (λ c. c.entity < 64) (commits_of (logged_recs (kept_in bk)))
  kept_small =
      subst (AllCommits (λ c. c.entity < 64)) (sym kept_is) (all_from (λ c. c.entity < 64) (run_of b es).cut (completed b es) (small_after b.supply b.policy b.script right.script b.state es right.names right.sound.sound legal))

  abbrev room_now : ℕ → ℕ
  room_now x = cell_room (state_after b es x).cell

  within_all : (ls : List Logged) → AllCommits (λ c. c.entity < 64) (commits_of (logged_recs ls)) → AllByRecursion (IsKeptRecord b es) (map (kept_for image) ls) → AllByRecursion (λ (l : Logged). length (blob_blocks l.rec) ≤ 8) ls
      → AreWithin blocks_of (λ (l : Logged). l.rec.entity) room_now 64 ls
  within_all [] small each few = tt
  within_all (l ∷ ls) small (one, each) (blob, few) = ((small.0, record_room b es right legal image l one blob), within_all ls small.1 each few)

  -- all kept records cost so many times all rooms at most
  pub kept_room : (n : ℕ) → ((x : ℕ) → commits_above (completed b es) (run_of b es).cut x ≤ n) → kept_blocks bk ≤ n * sum_by room_now (upto 64)
  kept_room n few =
      sum_bound blocks_of (λ (l : Logged). l.rec.entity) room_now 64 n (kept_in bk)
      (within_all (kept_in bk) kept_small a.each
      (each_filter (λ (l : Logged). length (blob_blocks l.rec) ≤ 8) _ bk.logged (each_logged (λ (r : Rec). length (blob_blocks r) ≤ 8) bk.logged (all_blocks (recs_in bk) (fitting_blocks count (recs_in bk) fit)))))
      (λ x. (let at = kept_as_many x in let most = few x in omega (arith, at, most)))

-- ALL ROOMS

room_parts : (c : Cell) → cell_room c ≡ pages_in c + 8 * cond (is_there c) 1 0
room_parts NotBorn = refl
room_parts (AtlasCell a) = refl
room_parts (ContainerCell c) = omega arith
room_parts (LocusCell l) = refl

rooms_of : (w : KernelState) (xs : List ℕ) → sum_by (λ x. cell_room (w x).cell) xs ≡ sum_by (λ x. pages_in (w x).cell) xs + 8 * count_by (λ x. is_there (w x).cell) xs
rooms_of w [] = refl
rooms_of w (x ∷ xs) =
    let a = sum_by-cons (λ y. cell_room (w y).cell) x xs in
    let b = sum_by-cons (λ y. pages_in (w y).cell) x xs in
    let c = count_more (λ y. is_there (w y).cell) x xs in
    let one = room_parts (w x).cell in
    let rest = rooms_of w xs in
    omega (arith, a, b, c, one, rest)

pub all_rooms : (w : KernelState) → sum_by (λ x. cell_room (w x).cell) (upto 64) ≡ all_pages w + 8 * all_born w
all_rooms w = rooms_of w (upto 64)
