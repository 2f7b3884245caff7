-- What was due where blocks were wanting: in a piece, in a longer one, and in the whole run.
use Rattle.std.proofs.Common.{◌≡◌, ℕ, List, [], ◌∷◌, ◌++◌, refl, sym, ap, subst, ◌∙◌, append_assoc}
use Rattle.std.proofs.lemmas.List.{append-nil}
use Rattle.edge_disk.specs.declared.disk.Disk.{Ghosts}
use Rattle.edge_disk.specs.declared.disk.NoBlocks.{NoBlocks}
use Rattle.base_types.specs.declared.histories.Entry.{Entry}
use Rattle.image_facts.specs.model_kernel.Serial.{looks_of}
use Rattle.model_serial_turns.specs.model_serial.Serial.{opening}
use Rattle.model_serial_turns.specs.Turns.{ComeFirst, HasLooked, opened}
use Rattle.model_serial_turns.proofs.Whereabouts.{looked_front, looked_opening}
use Rattle.kernel_book_laws.specs.store_facts.State.{books}
use Rattle.kernel_book_laws.specs.kernel_invariant.Beginnings.{Beginning, state_after}
use Rattle.kernel_commit_facts.specs.Lacking.{IsDueIn, IsShortAt, LacksBlocks, LacksIn, MayWant}
use Rattle.kernel_commit_facts.specs.Parts.{Parts}
use Rattle.kernel_commit_facts.specs.Short.{AreWithin, IsShortFor}

-- nothing of the piece came
abbrev pub due_first : (b : Beginning) (next : Entry) (rest all old new : List Entry) → next ∷ rest ≡ all → MayWant b old next next.event → new ≡ old → IsDueIn b all old new
due_first b next rest all old new is wants same = record {
  made = [];
  entries = same ∙ sym (append-nil old);
  next = next;
  rest = rest;
  is = is;
  wants = subst (λ (es : List Entry). MayWant b es next next.event) (sym same) wants;
}

module _ {D : Type 0} (disks : Ghosts D) (b : Beginning) (n : NoBlocks) where
  -- nothing of it came, and nothing is changed
  pub lacks_first : (next : Entry) (rest all : List Entry) (old new : Parts D) → next ∷ rest ≡ all → MayWant b old.noted.entries next next.event → new ≡ old → LacksBlocks b old
      → IsShortFor disks old n next next.event → AreWithin (state_after b old.noted.entries) (books old.store).count n → LacksIn disks b n all old.noted.entries new
  lacks_first next rest all old new is wants same lacks short within = record {
    lacks = subst (LacksBlocks b) (sym same) lacks;
    due = due_first b next rest all old.noted.entries new.noted.entries is wants (ap (λ (p : Parts D). p.noted.entries) same);
    short = subst (λ (p : Parts D). IsShortFor disks p n next next.event) (sym same) short;
    within = subst (λ (p : Parts D). AreWithin (state_after b p.noted.entries) (books p.store).count n) (sym same) within;
  }

  -- a piece of a longer one, behind what was made of it
  pub lacks_behind : (all made piece later old mid : List Entry) (new : Parts D) → made ++ (piece ++ later) ≡ all → mid ≡ old ++ made → LacksIn disks b n piece mid new → LacksIn disks b n all old new
  lacks_behind all made piece later old mid new whole entries l = let d = l.due in record {
    lacks = l.lacks;
    due = record {
      made = made ++ d.made;
      entries = d.entries ∙ (ap (λ es. es ++ d.made) entries ∙ append_assoc old made d.made);
      next = d.next;
      rest = d.rest ++ later;
      is =
          append_assoc made d.made (d.next ∷ (d.rest ++ later))
          ∙ (ap (λ es. made ++ es) (sym (append_assoc d.made (d.next ∷ d.rest) later) ∙ ap (λ es. es ++ later) d.is) ∙ whole);
      wants = d.wants;
    };
    short = l.short;
    within = l.within;
  }

  -- looks that come first in the course
  pub short_looks : (ls : List ℕ) (es all : List Entry) (new : Parts D) → HasLooked b.supply b.policy b.script b.state ls (es ++ all) → ComeFirst b.script (opened b.supply b.script b.state) ls → LacksIn disks b n all es new
      → IsShortAt disks b n new
  short_looks ls es all new h first l =
      let d = l.due in
      let now = new.noted.entries in
      let whole : es ++ all ≡ (now ++ d.next ∷ []) ++ d.rest =
      ap (λ fs. es ++ fs) (sym d.is)
      ∙ (sym (append_assoc es d.made (d.next ∷ d.rest)) ∙ (ap (λ fs. fs ++ d.next ∷ d.rest) (sym d.entries) ∙ sym (append_assoc now (d.next ∷ []) d.rest))) in
      let f = looked_front b.supply b.policy b.script b.state ls (now ++ d.next ∷ []) d.rest (subst (HasLooked b.supply b.policy b.script b.state ls) whole h) first in
      record {
        lacks = l.lacks;
        due = record { rounds_made = f.rounds_made; next = d.next; rest = f.rest; is = sym (append_assoc now (d.next ∷ []) f.rest) ∙ f.front; wants = d.wants };
        short = l.short;
        within = l.within;
      }

  -- the births and their Stable
  pub short_opening : (new : Parts D) → LacksIn disks b n (opening b.supply b.script b.state) [] new → IsShortAt disks b n new
  short_opening new l =
      short_looks [] [] (opening b.supply b.script b.state) new (looked_opening b.supply b.policy b.script b.state)
      (record { rounds_made = 0; rest = looks_of b.script (opened b.supply b.script b.state) 0; front = refl }) l
