-- Which entities are written by what is noted behind a history.
use Rattle.std.proofs.Common.{◌≡◌, ℕ, List, [], ◌∷◌, ◌++◌, Err, refl, sym, ap, ◌∙◌, append_assoc}
use Rattle.std.proofs.lemmas.List.{append-nil}
use Rattle.std.proofs.lemmas.List.Elements.{All-append, All-cons, All-nil, All-weaker}
use Rattle.edge_disk.specs.declared.disk.Disk.{Ghosts}
use Rattle.base_types.specs.declared.histories.Entry.{Entry}
use Rattle.base_types.specs.declared.histories.Event.{Event}
use Rattle.base_types.specs.declared.histories.Event.TheVariants.{Tried}
use Rattle.kernel_commit_facts.specs.kernel_book_laws.Matching.{version_of}
use Rattle.kernel_commit_facts.specs.kernel_invariant.declared.stopping.Stopped.{Stopped}
use Rattle.kernel_commit_facts.specs.kernel_invariant.declared.stopping.Stopped.TheVariants as reason
use Rattle.kernel_commit_facts.specs.model_kernel.Histories.{mark}
use Rattle.kernel_commit_facts.specs.Parts.{Parts}
use Rattle.kernel_commits.specs.Recording.{Fails}
use Rattle.thread_commits.specs.Snapping.{AddsAmong, WritesAmong}

-- nothing is noted
pub among_still : (xs : List ℕ) (old new : List Entry) → new ≡ old → AddsAmong xs old new
among_still xs old new same = record { part = []; entries = same ∙ sym (append-nil old); among = All-nil (λ (e : Entry). WritesAmong e xs) }

-- one entry is
pub among_entry : (xs : List ℕ) (old new : List Entry) (e : Entry) → new ≡ old ++ e ∷ [] → WritesAmong e xs → AddsAmong xs old new
among_entry xs old new e is among = record { part = e ∷ []; entries = is; among = All-cons (λ (f : Entry). WritesAmong f xs) e [] among (All-nil (λ (f : Entry). WritesAmong f xs)) }

-- a mark is
pub among_mark : (xs : List ℕ) (old new : List Entry) (event : Event) (x v : ℕ) → new ≡ old ++ mark event x v ∷ [] → AddsAmong xs old new
among_mark xs old new event x v is = among_entry xs old new (mark event x v) is (λ y wrote. absurd (cc wrote))

-- and more behind it
pub among_then : (xs : List ℕ) (old mid new : List Entry) → AddsAmong xs old mid → AddsAmong xs mid new → AddsAmong xs old new
among_then xs old mid new first more = record {
  part = first.part ++ more.part;
  entries = more.entries ∙ (ap (λ es. es ++ more.part) first.entries ∙ append_assoc old first.part more.part);
  among = All-append (λ (e : Entry). WritesAmong e xs) first.part more.part first.among more.among;
}

-- what writes none writes none but these
pub among_any : (xs : List ℕ) (old new : List Entry) → AddsAmong [] old new → AddsAmong xs old new
among_any xs old new a = record {
  part = a.part;
  entries = a.entries;
  among = All-weaker (λ (e : Entry). WritesAmong e []) (λ (e : Entry). WritesAmong e xs) (λ e among x wrote. absurd (let none = among x wrote in cc none)) a.part a.among;
}

-- a record that fails leaves a mark at most
pub fails_among : {D : Type 0} (disks : Ghosts D) (x : ℕ) (old new : Parts D) {T : Type 0} (why : Stopped) → Fails disks x {T = T} (Err why) old new → AddsAmong [] old.noted.entries new.noted.entries
fails_among {D = D} disks x old new (reason.NoBlocks n) fails = among_still [] old.noted.entries new.noted.entries (ap (λ (p : Parts D). p.noted.entries) (fails.untouched n refl))
fails_among {D = D} disks x old new reason.ReadFault fails = absurd (fails.no_read refl)
fails_among {D = D} disks x old new reason.WriteFault fails = among_mark [] old.noted.entries new.noted.entries Tried x (version_of old.cells x) (fails.tried refl).entries
