-- A kernel stays steady over a birth, and its run goes on by it.
use Rattle.std.proofs.Common.{◌≡◌, ◌⊎◌, inl, inr, ℕ, zero, suc, ◌+◌, ◌*◌, ◌≤◌, Bool, true, false, not, ◌&&◌, ◌||◌, nat_lt, if◌then◌else◌, List, [], ◌∷◌, ◌++◌, length, slice_get, Some, None, refl, sym, ap, subst, ◌∙◌, arith, length-append}
use Rattle.std.proofs.lemmas.List.{append-nil, append_assoc}
use Rattle.edge_disk.specs.declared.disk.Disk.{Ghosts}
use Rattle.edge_disk.specs.Image.{Image}
use Rattle.base_types.specs.declared.histories.Entry.{Entry}
use Rattle.table_births.specs.model_kernel.Births.{next_birth}
use Rattle.table_births.specs.model_kernel.Histories.{births_owed}
use Rattle.table_births.specs.model_kernel.Scripts.{Script}
use Rattle.table_births.specs.model_kernel.State.{Supply}
use Rattle.table_births.specs.model_births.Fitting.{Fits}
use Rattle.kernel_commits.specs.model_serial_turns.Turns.{IsBearing}
use Rattle.kernel_commits.proofs.model_serial_turns_lemmas.Bearing.{bearing_behind, bearing_last, bearing_more}
use Rattle.table_births.specs.cell_states.declared.cells.Cell.{Cell}
use Rattle.table_births.specs.cell_states.declared.cells.Wish.{Wish}
use Rattle.table_births.specs.table_laws.Steps.{IsInOrder}
use Rattle.table_births.specs.table_laws.Tables.{AreClean, IsOrderly, state_in}
use Rattle.kernel_commits.specs.kernel_record_facts.Cells.{words_on}
use Rattle.table_births.specs.cell_wish_laws.Founded.{TakesBirth}
use Rattle.kernel_commits.specs.store_facts.State.{State, books}
use Rattle.kernel_commits.specs.kernel_invariant.Beginnings.{Beginning, run_of}
use Rattle.kernel_commits.proofs.kernel_laws_lemmas.Going.{event_runs}
use Rattle.kernel_commits.specs.kernel_views.Views.{FollowsRun, newest_at, view_of}
use Rattle.kernel_commits.proofs.kernel_views_lemmas.Following.{cells_follow}
use Rattle.table_births.specs.Births.{BearsOn, BearsQuietly, atlas_state_in, count_born}
use Rattle.kernel_core_facts.specs.Births.{BearsOver}
use Rattle.kernel_core_facts.proofs.Bearing.{clean_on, made_birth}
use Rattle.kernel_commits.specs.kernel_book_laws.Matching.{newest_of, version_at, version_of}
use Rattle.kernel_commits.proofs.kernel_book_laws_lemmas.Keeping.{rises}
use Rattle.kernel_core_facts.specs.Bearing.{AreBirths, HasBorne, HasBorneSome, IsAmongBirths, IsInBirths, RunsInBirths}
use Rattle.kernel_commits.specs.kernel_commit_facts.Parts.{Noted, Parts, StandsAs, parts_of}
use Rattle.kernel_commits.specs.kernel_commit_facts.Steady.{IsSteady, entries_of, entries_taken, entries_to_come}
use Rattle.kernel_core_facts.proofs.Paired.{Both, both_or}

-- a birth leaves a cell no more entries to come
open_less : (w s a : Bool) → (if not w && s || a then 1 else 0) ≤ (if s || a then 1 else 0)
open_less true true true = omega arith
open_less true true false = omega arith
open_less true false true = omega arith
open_less true false false = omega arith
open_less false true a = omega arith
open_less false false a = omega arith

abbrev left_part : Cell → ℕ
left_part k = if nat_lt 40 k.clock.entity then 4 * k.left else 0

abbrev open_part : Cell → ℕ
open_part k = if k.wish.by_step || k.wish.asked then 1 else 0

abbrev open_by : Bool → Bool → Bool → ℕ
open_by w s a = if not w && s || a then 1 else 0

module _ (wrote : Bool) (c d : Cell) (t : TakesBirth wrote c d) where
  same_left : left_part d ≡ left_part c
  same_left = ap (λ n. if nat_lt 40 n then 4 * d.left else 0) t.same_entity ∙ ap (λ n. if nat_lt 40 c.clock.entity then 4 * n else 0) t.same_left

  opened : open_part d ≡ open_by wrote c.wish.by_step c.wish.asked
  opened = ap (λ (w : Wish). if w.by_step || w.asked then 1 else 0) t.wish

  no_more : entries_of d ≤ entries_of c
  no_more = let l = same_left in let o = opened in let less = open_less wrote c.wish.by_step c.wish.asked in omega (arith, l, o, less)

-- nor does the table
no_more_in : (cs cs' : List Cell) → length cs' ≡ length cs → ((x : ℕ) (c d : Cell) → slice_get cs x ≡ Some c → slice_get cs' x ≡ Some d → entries_of d ≤ entries_of c) → entries_to_come cs' ≤ entries_to_come cs
no_more_in [] [] len each = omega arith
no_more_in [] (d ∷ cs') len each = absurd (omega (arith, len))
no_more_in (c ∷ cs) [] len each = omega arith
no_more_in (c ∷ cs) (d ∷ cs') len each =
    let head = each zero c d refl refl in
    let rest = no_more_in cs cs' (omega (arith, len)) (λ x a b. each (suc x) a b) in
    omega (arith, head, rest)

taken_by : (es : List Entry) (e : Entry) → entries_taken (es ++ e ∷ []) ≡ length es + 66
taken_by [] e = refl
taken_by (f ∷ es) e = let len = length-append es (e ∷ []) in omega (arith, len)

more_than_none : (es : List Entry) (e : Entry) → length (es ++ e ∷ []) ≡ length es + 1
more_than_none es e = length-append es (e ∷ [])

module _ {D : Type 0} (disks : Ghosts D) (script : Script) (old : Parts D) (cs' : List Cell) (noted' : Noted)
    (k : IsInBirths disks old) (h : HasBorne script old.cells cs' old.noted noted') where
  abbrev cs : List Cell
  cs = old.cells

  orderly' : IsOrderly (books old.store).held cs'
  orderly' = h.bears.orderly (books old.store).held k.steady.sound.matches.orderly

  same_len : length cs' ≡ length cs
  same_len = orderly'.numbers.len ∙ sym k.steady.sound.matches.orderly.numbers.len

  version_up : (x : ℕ) → (version_of cs x ≤ version_of cs' x) × (version_of cs' x ≤ version_of cs x + 1)
  version_up x = by (both_or cs cs' same_len x)
    where
      by : Both cs cs' x ⊎ ((slice_get cs x ≡ None) × (slice_get cs' x ≡ None)) → (version_of cs x ≤ version_of cs' x) × (version_of cs' x ≤ version_of cs x + 1)
      by (inl f) =
          let was : version_of cs x ≡ f.0.clock.version = ap version_at f.2 in
          let is : version_of cs' x ≡ f.1.clock.version = ap version_at f.3 in
          let up = h.bears.enters.versions x f.0 f.1 f.2 f.3 in
          let low = up.0 in let high = up.1 in
          (omega (arith, was, is, low), omega (arith, was, is, high))
      by (inr f) =
          let was : version_of cs x ≡ 0 = ap version_at f.0 in
          let is : version_of cs' x ≡ 0 = ap version_at f.1 in
          (omega (arith, was, is), omega (arith, was, is))

  same_newest : (x : ℕ) → newest_of cs' x ≡ newest_of cs x
  same_newest x = by (both_or cs cs' same_len x)
    where
      by : Both cs cs' x ⊎ ((slice_get cs x ≡ None) × (slice_get cs' x ≡ None)) → newest_of cs' x ≡ newest_of cs x
      by (inl f) = ap newest_at f.3 ∙ (ap (λ (w : Wish). w.newest) (h.bears.enters.takes x f.0 f.1 f.2 f.3).wish ∙ sym (ap newest_at f.2))
      by (inr f) = ap newest_at f.1 ∙ sym (ap newest_at f.0)

  to_come : entries_to_come cs' ≤ entries_to_come cs
  to_come = no_more_in cs cs' same_len (λ x c d at at'. no_more (Rattle.table_births.specs.model_kernel.Histories.writes h.entry x) c d (h.bears.enters.takes x c d at at'))

  few_born : length old.noted.entries + 1 ≤ 63
  few_born = let a = h.bears.fits.containers in let b = h.bears.fits.loci in let n = k.few in let m = h.bears.more in omega (arith, a, b, n, m)

  longer : length noted'.entries ≡ length old.noted.entries + 1
  longer = ap (λ (n : Noted). length n.entries) h.same ∙ more_than_none old.noted.entries h.entry

  same_marks : length noted'.marks ≡ length old.noted.marks
  same_marks = ap (λ (n : Noted). length n.marks) h.same

  same_room : noted'.room ≡ old.noted.room
  same_room = ap (λ (n : Noted). n.room) h.same

  taken : entries_taken noted'.entries ≡ length old.noted.entries + 66
  taken = ap (λ (n : Noted). entries_taken n.entries) h.same ∙ taken_by old.noted.entries h.entry

  pub in_births_again : IsInBirths disks (parts_of old.store cs' noted')
  in_births_again = record {
    steady = record {
      sound = record {
        matches = rises (λ _. 4) (books old.store) (books old.store) cs cs' k.steady.sound.matches (record { same_logged = refl; same_found = refl }) orderly' (record { versions = λ x. (version_up x).0; newest = same_newest });
        working = k.steady.sound.working;
        true_books = k.steady.sound.true_books;
      };
      few = record {
        versions = λ x. (let was = k.steady.few.versions x in let up = (version_up x).1 in let more = longer in omega (arith, was, up, more));
        epoch = (let was = k.steady.few.epoch in let more = longer in omega (arith, was, more));
        marks = (let was = k.steady.few.marks in let more = longer in let same = same_marks in omega (arith, was, more, same));
        room = (let was = k.room in let less = to_come in let same = same_room in let n = few_born in let t = taken in omega (arith, was, less, same, n, t));
        small = (let was = k.steady.few.small in let same = same_room in omega (arith, was, same));
      };
    };
    few = (let was = k.few in let more = longer in let born = h.bears.more in omega (arith, was, more, born));
    room = (let was = k.room in let less = to_come in let same = same_room in omega (arith, was, less, same));
  }

-- IN A RUN
module _ {D : Type 0} (disks : Ghosts D)
    (counts_later : (disk : D) (s t : ℕ) (c : Image) → disks.tells → s ≤ t → disks.left_since disk t c → disks.left_since disk s c)
    (only_now : (disk : D) (c : Image) → disks.tells → disks.left_since disk (disks.clock disk) c → disks.may_leave disk c)
    (b : Beginning) (script : Script) (same : b.script ≡ script) (told : disks.tells) (old : Parts D) (cs' : List Cell) (noted' : Noted)
    (r : RunsInBirths disks b old) (h : HasBorne script old.cells cs' old.noted noted') where
  abbrev es : List Entry
  es = old.noted.entries

  abbrev words : ℕ → List ℕ
  words = words_on (disks.reading old.store.disk)

  f : FollowsRun b words old.cells es
  f = cells_follow b es (disks.reading old.store.disk) old.cells r.stands.orderly.numbers (books old.store) old.noted.marks None r.stands.runs.follows

  bears : BearsOn b.supply words b.script old.cells cs' h.entry
  bears = subst (λ (q : Script). BearsOn b.supply words q old.cells cs' h.entry) (sym same) (h.bears.bears b.supply words)

  bearing : IsBearing b.supply b.script b.state es
  bearing = r.among.next (bears.owed (run_of b es) (sym f.state))

  birth : next_birth b.supply b.script (run_of b es).state ≡ Some (h.entry, state_in b.supply words cs')
  birth = ap (next_birth b.supply b.script) (sym f.state) ∙ bears.birth

  over : BearsOver disks b old.cells cs' old.store h.entry
  over = record { bears = bears; orderly = h.bears.orderly (books old.store).held r.stands.orderly; blocks = h.bears.enters.blocks }

  stands' : StandsAs disks b (parts_of old.store cs' (record old.noted { entries = es ++ h.entry ∷ [] }))
  stands' = record {
    runs = event_runs b disks counts_later only_now (view_of disks.reading b old.cells old.store es old.noted.marks None) _ old.store.disk old.store.disk r.stands.runs h.entry
        (made_birth disks only_now b old.cells cs' old.store es old.noted.marks h.entry told r.stands bearing.new over);
    orderly = over.orderly;
    clean = clean_on disks only_now b old.cells cs' old.store es old.noted.marks h.entry told r.stands bearing.new over;
  }

  among' : IsAmongBirths b (es ++ h.entry ∷ [])
  among' = record {
    fits = r.among.fits;
    next = λ more. bearing_more b.supply b.script b.state es h.entry (state_in b.supply words cs') r.stands.runs.begins.script r.among.fits r.stands.runs.begins.sound.sound bearing birth more;
    over = λ last some.
        let l = bearing_last b.supply b.script b.state es h.entry (state_in b.supply words cs') r.stands.runs.begins.script r.among.fits r.stands.runs.begins.sound.sound bearing birth last in
        record {
          owed = l.0;
          behind = bearing_behind b.supply b.script b.policy b.state es h.entry (state_in b.supply words cs') bearing birth;
          complete = l.1;
        };
  }

  pub runs_again : RunsInBirths disks b (parts_of old.store cs' noted')
  runs_again = subst (λ (n : Noted). RunsInBirths disks b (parts_of old.store cs' n)) (sym h.same) (record { stands = stands'; among = among' })

-- THE NEXT PARTS

pub in_births_next : {D : Type 0} (disks : Ghosts D) (script : Script) (old new : Parts D) → IsInBirths disks old
    → HasBorne script old.cells new.cells old.noted new.noted → new.store ≡ old.store → IsInBirths disks new
in_births_next {D} disks script old new k h store =
    subst (λ (st : State D). IsInBirths disks (parts_of st new.cells new.noted)) (sym store) (in_births_again disks script old new.cells new.noted k h)

module _ {D : Type 0} (disks : Ghosts D)
    (counts_later : (disk : D) (s t : ℕ) (c : Image) → disks.tells → s ≤ t → disks.left_since disk t c → disks.left_since disk s c)
    (only_now : (disk : D) (c : Image) → disks.tells → disks.left_since disk (disks.clock disk) c → disks.may_leave disk c) where
  pub runs_next : (b : Beginning) (script : Script) → b.script ≡ script → disks.tells → (old new : Parts D) → RunsInBirths disks b old
      → HasBorne script old.cells new.cells old.noted new.noted → new.store ≡ old.store → RunsInBirths disks b new
  runs_next b script same told old new r h store =
      subst (λ (st : State D). RunsInBirths disks b (parts_of st new.cells new.noted)) (sym store)
      (runs_again disks counts_later only_now b script same told old new.cells new.noted r h)

pub too_many : (script : Script) (cs : List Cell) → Fits (atlas_state_in cs) script → 64 ≤ count_born (atlas_state_in cs) → ⊥
too_many script cs fits many = let a = fits.containers in let b = fits.loci in omega (arith, a, b, many)

-- a birth may be made
pub in_order : {D : Type 0} (disks : Ghosts D) (p : Parts D) → IsSteady disks p → IsInOrder p.cells
in_order disks p k = record { held = (books p.store).held; orderly = k.sound.matches.orderly }

pub few_entries : {D : Type 0} (disks : Ghosts D) (script : Script) (p : Parts D) → IsInBirths disks p → Fits (atlas_state_in p.cells) script
    → length p.noted.entries ≤ 63
few_entries disks script p k fits = let a = fits.containers in let b = fits.loci in let n = k.few in omega (arith, a, b, n)

-- BIRTHS ONE AFTER ANOTHER

module _ (script : Script) where
  births_next : (start mid end : List Cell) (made : List Entry) (e : Entry) → AreBirths script start made mid → BearsQuietly script mid end e → AreBirths script start (made ++ e ∷ []) end
  births_next start mid end [] e was next = (end, subst (λ (a : List Cell). BearsQuietly script a end e) was next, refl)
  births_next start mid end (f ∷ made) e was next = (was.0, was.1, births_next was.0 mid end made e was.2 next)

  pub none_borne : {D : Type 0} (p : Parts D) → HasBorneSome script p p
  none_borne p = record { entries = []; births = refl; noted = ap (λ (es : List Entry). record p.noted { entries = es }) (sym (append-nil p.noted.entries)); store = refl }

  pub borne_next : {D : Type 0} (old mid new : Parts D) → HasBorneSome script old mid → HasBorne script mid.cells new.cells mid.noted new.noted → new.store ≡ mid.store → HasBorneSome script old new
  borne_next old mid new h n store = record {
    entries = h.entries ++ n.entry ∷ [];
    births = births_next old.cells mid.cells new.cells h.entries n.entry h.births n.bears;
    noted = n.same ∙ (ap (λ (m : Noted). record m { entries = m.entries ++ n.entry ∷ [] }) h.noted
        ∙ ap (λ (es : List Entry). record old.noted { entries = es }) (append_assoc old.noted.entries h.entries (n.entry ∷ [])));
    store = store ∙ h.store;
  }

  -- pages stay clean
  pub births_clean : (s : Supply) (held : ℕ → List ℕ) (start end : List Cell) (made : List Entry) → AreBirths script start made end → AreClean s held start → AreClean s held end
  births_clean s held start end [] same clean = subst (AreClean s held) (sym same) clean
  births_clean s held start end (e ∷ made) more clean = births_clean s held more.0 end made more.2 ((more.1.bears s held).clean clean)
