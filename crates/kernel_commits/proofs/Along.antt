-- The Snaps of what a step wrote, one after another.
use Rattle.std.proofs.Common.{◌≡◌, inl, ℕ, zero, suc, ◌+◌, ◌<◌, ◌≤◌, Bool, true, false, not, ◌&&◌, if◌then◌else◌, List, [], ◌∷◌, ◌++◌, length, get_or, drop, Ok, refl, sym, ap, subst, ◌∙◌, arith, append_assoc}
use Rattle.std.specs.Prelude.{⊤, Contains}
use Rattle.std.proofs.Math.Seq.{drop-cons}
use Rattle.std.proofs.lemmas.List.{append-nil}
use Rattle.slab.proofs.SlabLemmas.{Contains-cons}
use Rattle.edge_disk.specs.declared.disk.Disk.{Ghosts}
use Rattle.edge_disk.specs.declared.disk.NoBlocks.{NoBlocks}
use Rattle.base_types.specs.declared.histories.Entry.{Entry}
use Rattle.base_types.specs.declared.histories.Touch.{Touch}
use Rattle.base_types.specs.Touches.{AllTouches, IsRising}
use Rattle.base_types.specs.declared.histories.Event.TheVariants.{Snap}
use Rattle.kernel_commit_facts.specs.model_kernel.Histories.{Policy, Run, has_wish, is_full, mark, run_after, start_run, version_of}
use Rattle.kernel_commit_facts.proofs.model_kernel_lemmas.StableCuts.{run_append}
use Rattle.kernel_commit_facts.specs.model_serial.Serial.{IsBehind, wished_snap, wished_snaps, written_in}
use Rattle.kernel_commit_facts.proofs.model_serial_lemmas.Calm.{snap_next, without}
use Rattle.kernel_commit_facts.specs.model_serial_turns.Turns.{IsStoppedIn}
use Rattle.kernel_commit_facts.proofs.model_serial_turns_lemmas.Stops.{stopped_behind, stopped_longer}
use Rattle.kernel_commit_facts.specs.kernel_invariant.Beginnings.{Beginning, run_of}
use Rattle.kernel_commit_facts.specs.Lacking.{LacksIn}
use Rattle.kernel_commit_facts.specs.Parts.{Parts}
use Rattle.kernel_commit_facts.specs.Pieces.{StopsIn}
use Rattle.kernel_commit_facts.specs.Snapping.{RunsFree, wants_in}
use Rattle.kernel_commits.specs.Snapping.{SnapsAll, SnapsOne}
use Rattle.kernel_commit_facts.proofs.Dues.{lacks_behind}

module _ {D : Type 0} (disks : Ghosts D) (b : Beginning) (policy : Policy) where
  abbrev later_snaps : Run → List Touch → List Entry
  later_snaps r ts = wished_snaps b.supply policy b.script r (written_in ts)

  -- some of the Snaps were made, and these touches are left
  pub record SnapsAlong (ts rest : List Touch) (old now : Parts D) : Type 0 where
    pub runs : RunsFree disks b policy now
    pub made : List Entry
    pub entries : now.noted.entries ≡ old.noted.entries ++ made
    pub all : made ++ later_snaps (run_of b now.noted.entries) rest ≡ later_snaps (run_of b old.noted.entries) ts
    pub calm : IsBehind policy (run_of b old.noted.entries) (written_in ts) → IsBehind policy (run_of b now.noted.entries) (written_in rest)

  pub begins_along : (ts : List Touch) (old : Parts D) → RunsFree disks b policy old → SnapsAlong ts ts old old
  begins_along ts old free = record { runs = free; made = []; entries = sym (append-nil old.noted.entries); all = refl; calm = λ behind. behind }

  pub ends_along : (ts : List Touch) (old now : Parts D) → SnapsAlong ts [] old now → SnapsAll disks b policy (written_in ts) {T = ⊤} (Ok tt) old now
  ends_along ts old now a = record {
    runs = a.runs;
    entries = a.entries ∙ ap (λ es. old.noted.entries ++ es) (sym (append-nil a.made) ∙ a.all);
    calm = a.calm;
    lives = tt;
  }

  module _ (ts rest : List Touch) (t : Touch) (old now : Parts D) (a : SnapsAlong ts (t ∷ rest) old now) where
    abbrev rn : Run
    rn = run_of b now.noted.entries

    written : (wrote : Bool) → t.wrote ≡ wrote → written_in (t ∷ rest) ≡ (if wrote then t.entity ∷ written_in rest else written_in rest)
    written wrote is = ap (λ (w : Bool). if w then t.entity ∷ written_in rest else written_in rest) is

    pub skip : t.wrote ≡ false → SnapsAlong ts rest old now
    skip is = record {
      runs = a.runs;
      made = a.made;
      entries = a.entries;
      all = ap (λ xs. a.made ++ wished_snaps b.supply policy b.script rn xs) (sym (written false is)) ∙ a.all;
      calm = λ behind. subst (IsBehind policy rn) (written false is) (a.calm behind);
    }

    abbrev snaps : List Entry
    snaps = wished_snap policy rn t.entity

    abbrev later : List Entry
    later = later_snaps (run_after b.supply b.script rn snaps) rest

    with_snaps : t.wrote ≡ true → a.made ++ (snaps ++ later) ≡ later_snaps (run_of b old.noted.entries) ts
    with_snaps wrote = ap (λ xs. a.made ++ wished_snaps b.supply policy b.script rn xs) (sym (written true wrote)) ∙ a.all

    -- where one failed, a part of them came
    pub stops_along : t.wrote ≡ true → (next : Parts D) → StopsIn b snaps now.noted.entries next.noted.entries → StopsIn b (later_snaps (run_of b old.noted.entries) ts) old.noted.entries next.noted.entries
    stops_along wrote next p =
        let behind : rn ≡ run_after b.supply b.script (run_of b old.noted.entries) a.made = ap (run_of b) a.entries ∙ run_append b.supply policy b.script (start_run b.state) old.noted.entries a.made in
        record {
          part = a.made ++ p.part;
          entries = p.entries ∙ (ap (λ es. es ++ p.part) a.entries ∙ append_assoc old.noted.entries a.made p.part);
          is = stopped_behind b.supply b.script (run_of b old.noted.entries) (later_snaps (run_of b old.noted.entries) ts) a.made (snaps ++ later) p.part (with_snaps wrote)
              (subst (λ (q : Run). IsStoppedIn b.supply b.script q (snaps ++ later) p.part) behind (stopped_longer b.supply b.script rn snaps p.part later p.is));
        }

    -- where blocks were wanting for one, it was due among them
    pub lacks_along : t.wrote ≡ true → (next : Parts D) → (n : NoBlocks) → LacksIn disks b n snaps now.noted.entries next → LacksIn disks b n (later_snaps (run_of b old.noted.entries) ts) old.noted.entries next
    lacks_along wrote next n l = lacks_behind disks b n (later_snaps (run_of b old.noted.entries) ts) a.made snaps later old.noted.entries now.noted.entries next (with_snaps wrote) a.entries l

    module _ (wrote : t.wrote ≡ true) (v : Bool) (next : Parts D) (s : SnapsOne disks b policy t.entity {T = Bool} (Ok v) now next) where
      run_is : run_of b next.noted.entries ≡ run_after b.supply b.script rn snaps
      run_is = ap (run_of b) s.entries ∙ run_append b.supply policy b.script (start_run b.state) now.noted.entries snaps

      first : (p q : Bool) → (p && q) ≡ true → p ≡ true
      first true q is = refl
      first false q is = is

      second : (p q : Bool) → (p && q) ≡ true → q ≡ true
      second true q is = is
      second false q is = absurd (cc is)

      behind_next : (c : Bool) → wants_in policy rn t.entity ≡ c → IsBehind policy rn (t.entity ∷ written_in rest)
          → IsBehind policy (run_after b.supply b.script rn (if c then mark Snap t.entity (version_of rn t.entity) ∷ [] else [])) (written_in rest)
      behind_next true is behind = snap_next b.supply policy b.script rn t.entity (written_in rest) a.runs.owes_nothing behind
          (a.runs.untried, (refl, inl (first (has_wish policy rn t.entity) (not (is_full rn t.entity)) is, second (has_wish policy rn t.entity) (not (is_full rn t.entity)) is, a.runs.owes_nothing)))
      behind_next false is behind = without b.supply policy b.script rn t.entity (written_in rest) behind is

      pub take_one : SnapsAlong ts rest old next
      take_one = record {
        runs = s.runs;
        made = a.made ++ snaps;
        entries = s.entries ∙ (ap (λ es. es ++ snaps) a.entries ∙ append_assoc old.noted.entries a.made snaps);
        all =
            append_assoc a.made snaps (later_snaps (run_of b next.noted.entries) rest)
            ∙ (ap (λ (q : Run). a.made ++ (snaps ++ later_snaps q rest)) run_is ∙ with_snaps wrote);
        calm = λ behind. subst (λ (q : Run). IsBehind policy q (written_in rest)) (sym run_is)
            (behind_next (wants_in policy rn t.entity) refl (subst (IsBehind policy rn) (written true wrote) (a.calm behind)));
      }

-- the touches from one on
pub next_touch : (ts : List Touch) (i : ℕ) (t : Touch) → i < length ts → t ≡ get_or ts i t → drop i ts ≡ t ∷ drop (i + 1) ts
next_touch ts i t lt is =
    let more : suc i ≡ i + 1 = omega arith in
    drop-cons ts i t lt ∙ (ap (λ u. u ∷ drop (suc i) ts) (sym is) ∙ ap (λ n. t ∷ drop n ts) more)

pub none_left : (ts : List Touch) (i : ℕ) → length ts ≤ i → drop i ts ≡ []
none_left [] zero le = refl
none_left [] (suc i) le = refl
none_left (t ∷ ts) zero le = absurd (omega (arith, le))
none_left (t ∷ ts) (suc i) le = none_left ts i (omega (arith, le))

-- a touch that wrote is among what is written
pub written_at : (ts : List Touch) (i : ℕ) (t : Touch) → i < length ts → t ≡ get_or ts i t → t.wrote ≡ true → Contains (written_in ts) t.entity
written_at [] i t lt is wrote = absurd (omega (arith, lt))
written_at (u ∷ us) zero t lt is wrote =
    let on : u.wrote ≡ true = ap (λ (z : Touch). z.wrote) (sym is) ∙ wrote in
    subst (λ (w : Bool). Contains (if w then u.entity ∷ written_in us else written_in us) t.entity) (sym on) (first (written_in us))
  where
    first : (xs : List ℕ) → Contains (u.entity ∷ xs) t.entity
    first xs = (0, omega arith, ap (λ (z : Touch). z.entity) (sym is))
written_at (u ∷ us) (suc i) t lt is wrote = by u.wrote (written_at us i t (omega (arith, lt)) is wrote)
  where
    by : (w : Bool) → Contains (written_in us) t.entity → Contains (if w then u.entity ∷ written_in us else written_in us) t.entity
    by true rest = Contains-cons u.entity t.entity (written_in us) rest
    by false rest = rest

-- each entity comes once, so that its number is at least its place
rises_by : (ts : List Touch) (low : ℕ) → AllTouches (λ u. low ≤ u.entity) ts → IsRising ts → (i : ℕ) (t : Touch) → i < length ts → t ≡ get_or ts i t → low + i ≤ t.entity
rises_by [] low above rising i t lt is = absurd (omega (arith, lt))
rises_by (u ∷ ts) low above rising zero t lt is = (let le = above.0 in let same = ap (λ (z : Touch). z.entity) is in omega (arith, le, same))
rises_by (u ∷ ts) low above rising (suc i) t lt is =
    let le = rises_by ts (suc low) (higher ts (λ z over. (let le = above.0 in omega (arith, le, over))) rising.0) rising.1 i t (omega (arith, lt)) is in
    omega (arith, le)
  where
    higher : (zs : List Touch) → ((z : Touch) → u.entity < z.entity → suc low ≤ z.entity) → AllTouches (λ z. u.entity < z.entity) zs → AllTouches (λ z. suc low ≤ z.entity) zs
    higher [] up all = tt
    higher (z ∷ zs) up all = (up z all.0, higher zs up all.1)

pub place_low : (ts : List Touch) → IsRising ts → (i : ℕ) (t : Touch) → i < length ts → t ≡ get_or ts i t → i ≤ t.entity
place_low ts rising i t lt is = (let le = rises_by ts 0 (all ts) rising i t lt is in omega (arith, le))
  where
    all : (zs : List Touch) → AllTouches (λ u. 0 ≤ u.entity) zs
    all [] = tt
    all (z ∷ zs) = (omega arith, all zs)
