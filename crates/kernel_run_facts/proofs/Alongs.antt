-- A kernel along its course: by one pick, by one locus, and to its end.
use Rattle.std.proofs.Common.{◌≡◌, ℕ, ◌+◌, ◌-◌, ◌<◌, ◌≤◌, List, [], ◌∷◌, ◌++◌, drop, length, take, Some, slice_get, refl, sym, ap, subst, ◌∙◌}
use Rattle.std.proofs.lemmas.List.{append_assoc, take-append-drop}
use Rattle.edge_disk.specs.declared.disk.Disk.{Ghosts}
use Rattle.base_types.specs.declared.histories.Entry.{Entry}
use Rattle.script_types.specs.model_kernel.Histories.{Policy}
use Rattle.script_types.specs.model_kernel.Scripts.{Script, locus_named}
use Rattle.script_types.specs.model_kernel.Serial.{all_loci, rounds}
use Rattle.script_types.specs.model_kernel.State.{Supply, Text}
use Rattle.script_types.specs.model_kernel.Steps.{atlas_in}
use Rattle.kernel_core.specs.model_births.Fitting.{Fits}
use Rattle.kernel_core.specs.model_serial.Serial.{look, opening}
use Rattle.kernel_core.specs.model_serial_turns.Turns.{ComeFirst, HasLooked, before_pick}
use Rattle.kernel_core.proofs.model_serial_turns_lemmas.Course.{locus_more, picks_first}
use Rattle.kernel_core.proofs.model_serial_turns_lemmas.Picks.{pick_now}
use Rattle.kernel_core.proofs.model_serial_turns_lemmas.Whereabouts.{looked_more, looked_opening}
use Rattle.kernel_core.proofs.table_births_lemmas.AtlasStates.{same_atlas}
use Rattle.kernel_core.specs.table_births.Births.{atlas_state_in}
use Rattle.kernel_core.specs.kernel_record_facts.Cells.{words_on}
use Rattle.kernel_core.specs.kernel_laws.Opening.{empty_script, with_script}
use Rattle.kernel_core.specs.kernel_invariant.Beginnings.{Beginning, run_of, state_after}
use Rattle.kernel_core.specs.kernel_core_facts.Kernels.{Held, Lives, NotesAlong}
use Rattle.kernel_core.specs.kernel_commit_facts.Lacking.{LacksIn}
use Rattle.kernel_core.specs.kernel_commit_facts.Pieces.{StopsIn}
use Rattle.kernel_core.specs.kernel_invariant.declared.stopping.Stopped.{Stopped}
use Rattle.kernel_run_facts.specs.Alongs.{ComesNext}
use Rattle.kernel_run_facts.specs.Running.{HasStoppedBehind, IsFrontOf, IsOverBehind, IsRunBy, RunsAlong, TakesOnBehind, loci_before, opened_in, picks_in}
use Rattle.kernel_run_facts.proofs.Course.{one_look, over, rounds_more}

-- the next locus of a round
pub locus_next : (b : Beginning) (first : List ℕ) (made l : ℕ) → 41 ≤ l → l < 64 → loci_before first made (l + 1) ≡ loci_before first made l ++ l ∷ []
locus_next b first made l low high =
    let more : take (l + 1 - 41) all_loci ≡ take (l - 41) all_loci ++ l ∷ [] = locus_more (empty_script b.script.steps) (opened_in b) 0 l low high in
    ap (λ ls. (first ++ rounds made) ++ ls) more ∙ sym (append_assoc (first ++ rounds made) (take (l - 41) all_loci) (l ∷ []))

pub locus_first : (b : Beginning) (first : List ℕ) (made l : ℕ) → 41 ≤ l → l < 64 → IsFrontOf first (loci_before first made l ++ l ∷ [])
locus_first b first made l low high =
    let i = l + 1 - 41 in
    subst (IsFrontOf first) (locus_next b first made l low high) (record {
      rounds_made = made + 1;
      rest = drop i all_loci;
      front = append_assoc (first ++ rounds made) (take i all_loci) (drop i all_loci) ∙ ap (λ ls. (first ++ rounds made) ++ ls) (take-append-drop i all_loci) ∙ rounds_more first made;
    })

-- nothing was looked at yet
pub none_first : (first : List ℕ) → IsFrontOf first []
none_first first = record { rounds_made = 0; rest = first ++ rounds 0; front = refl }

-- what comes first in the serial run begins the course behind its picks, and the other way round
pub as_serial : (b : Beginning) (looked : List ℕ) → IsFrontOf (picks_in b) looked → ComeFirst b.script (opened_in b) looked
as_serial b looked f = record { rounds_made = f.rounds_made; rest = f.rest; front = f.front }

behind_picks : (b : Beginning) (looked : List ℕ) → ComeFirst b.script (opened_in b) looked → IsFrontOf (picks_in b) looked
behind_picks b looked f = record { rounds_made = f.rounds_made; rest = f.rest; front = f.front }

-- the next pick is a locus of the run
pub record IsPick (b : Beginning) (es : List Entry) (i : ℕ) (name : Text) : Type 0 where
  pub locus : ℕ
  pub named : locus_named (atlas_in ((run_of b es).state 0).cell) name ≡ Some locus
  pub next : before_pick b.script (opened_in b) (i + 1) ≡ before_pick b.script (opened_in b) i ++ locus ∷ []
  pub first : IsFrontOf (picks_in b) (before_pick b.script (opened_in b) i ++ locus ∷ [])

module _ {D : Type 0} (disks : Ghosts D) (supply : Supply) (policy : Policy) where
  abbrev Along : Beginning → List ℕ → Held D → Type 0
  Along = RunsAlong disks

  pub next_pick : (b : Beginning) (i : ℕ) (name : Text) (k : Held D) → IsRunBy supply policy b → slice_get b.script.order i ≡ Some name → Along b (before_pick b.script (opened_in b) i) k
      → IsPick b k.parts.noted.entries i name
  next_pick b i name k given here along =
      let begins = along.lives.live.running.begins in
      let p = pick_now b.supply b.policy b.script b.state begins.script given.fits begins.sound.sound (before_pick b.script (opened_in b) i) k.parts.noted.entries i name along.looks here in
      record { locus = p.0; named = p.1; next = p.2; first = behind_picks b (before_pick b.script (opened_in b) i ++ p.0 ∷ []) (subst (ComeFirst b.script (opened_in b)) p.2 (picks_first b.script (opened_in b) (i + 1))) }

  -- a round without an entry ends the run
  pub ends : (b : Beginning) (first : List ℕ) (n : ℕ) (old new : Held D) → IsRunBy supply policy b → Along b (first ++ rounds n) old → Along b (first ++ rounds (n + 1)) new
      → length new.parts.noted.entries ≤ length old.parts.noted.entries → IsOverBehind disks b first new
  ends b first n old new given was is few =
      let begins = is.lives.live.running.begins in
      let end = over b.supply b.policy b.script b.state begins.script given.fits begins.sound.sound first n old.parts.noted.entries new.parts.noted.entries was.looks is.looks few in
      record { lives = is.lives; rounds_made = n; looks = end.0; idle = end.1 }

  -- a script that fits the cells' atlas before any entry fits the run's
  pub run_by : (b : Beginning) (script : Script) (k : Held D) → b.supply ≡ supply → b.policy ≡ policy → b.script ≡ script → k.parts.noted.entries ≡ [] → Fits (atlas_state_in k.parts.cells) script
      → Lives disks (with_script b (empty_script b.script.steps)) k → IsRunBy supply policy b
  run_by b script k s p same none fits lives = record {
    same_supply = s;
    same_policy = p;
    fits =
        let words = words_on (disks.reading k.parts.store.disk) in
        let state = lives.live.running.follows.state ∙ ap (state_after (with_script b (empty_script b.script.steps))) none in
        subst (λ a. Fits a b.script) (sym (same_atlas b.supply words k.parts.cells) ∙ ap (λ w. atlas_in (w 0).cell) state) (subst (Fits (atlas_state_in k.parts.cells)) (sym same) fits);
  }

  -- behind the births the kernel is along its course
  pub opens : (b : Beginning) (k : Held D) → Lives disks b k → k.parts.noted.entries ≡ opening b.supply b.script b.state → Along b [] k
  opens b k lives same = record { lives = lives; looks = subst (HasLooked b.supply b.policy b.script b.state []) (sym same) (looked_opening b.supply b.policy b.script b.state) }

  -- the births were stopped
  pub stops_opening : (b : Beginning) (first : List ℕ) (k0 k : Held D) → Lives disks b k → k0.parts.noted.entries ≡ [] → NotesAlong disks b (opening b.supply b.script b.state) k0 k → (why : Stopped)
      → k.stop ≡ Some why → HasStoppedBehind disks b first why k
  stops_opening b first k0 k lives none notes why is =
      let all = opening b.supply b.script b.state in
      record {
        lives = lives;
        piece = record {
          front = [];
          all = all;
          next = ComesNext.Births refl refl;
          part = subst (λ (es : List Entry). StopsIn b all es k.parts.noted.entries) none (notes.part why is);
          enough = λ n at. subst (λ (es : List Entry). LacksIn disks b n all es k.parts) none (notes.enough n (is ∙ ap Some at));
        };
        looked = [];
        looks = looked_opening b.supply b.policy b.script b.state;
        begins = none_first first;
      }

  -- ONE LOOK: the kernel is behind it, or was stopped in it
  pub takes_look : (b : Beginning) (first looked : List ℕ) (l : ℕ) (old new : Held D) → Along b looked old → IsFrontOf first (looked ++ l ∷ []) → Lives disks b new
      → NotesAlong disks b (look b.supply b.policy b.script (run_of b old.parts.noted.entries) l) old new → TakesOnBehind disks b first (looked ++ l ∷ []) new
  takes_look b first looked l old new along begins lives notes =
      let es = old.parts.noted.entries in
      record {
        along = λ going. record { lives = lives; looks = one_look b.supply b.policy b.script b.state looked es new.parts.noted.entries l along.looks (notes.whole going) };
        stopped = λ why is. record {
          lives = lives;
          piece = record {
            front = es;
            all = look b.supply b.policy b.script (run_of b es) l;
            next = ComesNext.Look looked l along.looks refl;
            part = notes.part why is;
            enough = λ n at. notes.enough n (is ∙ ap Some at);
          };
          looked = looked ++ l ∷ [];
          looks = looked_more b.supply b.policy b.script b.state looked es l along.looks;
          begins = begins;
        };
      }

  -- what holds behind a look at the locus of the pick holds behind the pick
  pub takes_pick : (P : List ℕ → Type 0) (b : Beginning) (i : ℕ) (name : Text) (old : Held D) (l : ℕ) (p : IsPick b old.parts.noted.entries i name) → Some l ≡ Some p.locus
      → (IsFrontOf (picks_in b) (before_pick b.script (opened_in b) i ++ l ∷ []) → P (before_pick b.script (opened_in b) i ++ l ∷ []))
      → P (before_pick b.script (opened_in b) (i + 1))
  takes_pick P b i name old l p same takes =
      let is : l ≡ p.locus = cc in
      let next : before_pick b.script (opened_in b) i ++ l ∷ [] ≡ before_pick b.script (opened_in b) (i + 1) = ap (λ x. before_pick b.script (opened_in b) i ++ x ∷ []) is ∙ sym p.next in
      subst P next
      (takes (subst (λ x. IsFrontOf (picks_in b) (before_pick b.script (opened_in b) i ++ x ∷ [])) (sym is) p.first))
