-- What is noted without a Tried, behind what was.
use Rattle.std.proofs.Common.{◌≡◌, ◌≢◌, ◌↔◌, ℕ, List, [], ◌∷◌, ◌++◌, Option, None, Some, Ok, Err, refl, sym, ap, ◌∙◌, append_assoc}
use Rattle.std.proofs.lemmas.List.{append-nil}
use Rattle.std.proofs.lemmas.List.Elements.{All-append, All-cons, All-nil}
use Rattle.std.specs.Prelude.{IfErr, IsErrOf, OnErr, OnOk, Result, ⊤}
use Rattle.std.specs.Result.{result_err}
use Rattle.edge_disk.specs.declared.disk.Disk.{Ghosts}
use Rattle.edge_disk.specs.declared.disk.NoBlocks.{NoBlocks}
use Rattle.base_types.specs.declared.histories.Entry.{Entry}
use Rattle.base_types.specs.declared.histories.Event.TheVariants.{Tried}
use Rattle.kernel_commit_facts.specs.Parts.{Parts}
use Rattle.kernel_commits.specs.Recording.{Fails}
use Rattle.kernel_commits.specs.Telling.{AddsNoTried, CommitsNote, FailsByWrite, Tells, TriesByAnswer, told_again, told_by}
use Rattle.kernel_commits.specs.declared.stopping.Stop.{Stop}
use Rattle.kernel_commits.specs.declared.stopping.Stop.TheVariants as stop
use Rattle.kernel_commit_facts.specs.kernel_invariant.declared.stopping.Stopped.{Stopped}
use Rattle.kernel_commit_facts.specs.kernel_invariant.declared.stopping.Stopped.TheVariants as reason

abbrev IsNoTried : Entry → Type 0
IsNoTried e = e.event ≢ Tried

-- nothing came
pub adds_none : (old new : List Entry) → new ≡ old → AddsNoTried old new
adds_none old new same = record { part = []; entries = same ∙ sym (append-nil old); untried = All-nil IsNoTried }

-- one entry came
pub adds_one : (old new : List Entry) (e : Entry) → new ≡ old ++ e ∷ [] → e.event ≢ Tried → AddsNoTried old new
adds_one old new e is differs = record { part = e ∷ []; entries = is; untried = All-cons IsNoTried e [] differs (All-nil IsNoTried) }

-- and more behind it
pub adds_then : (old mid new : List Entry) → AddsNoTried old mid → AddsNoTried mid new → AddsNoTried old new
adds_then old mid new first more = record {
  part = first.part ++ more.part;
  entries = more.entries ∙ (ap (λ es. es ++ more.part) first.entries ∙ append_assoc old first.part more.part);
  untried = All-append IsNoTried first.part more.part first.untried more.untried;
}

-- a record that fails is noted where a write failed alone
pub fails_noting : {D : Type 0} (disks : Ghosts D) (x : ℕ) (old new : Parts D) {T : Type 0} (why : Stopped) → Fails disks x {T = T} (Err why) old new
    → CommitsNote {T = T} (Err why) old.noted.entries new.noted.entries
fails_noting {D = D} disks x old new (reason.NoBlocks n) fails = adds_none old.noted.entries new.noted.entries (ap (λ (p : Parts D). p.noted.entries) (fails.untouched n refl))
fails_noting {D = D} disks x old new reason.ReadFault fails = fails.no_read refl
fails_noting {D = D} disks x old new reason.WriteFault fails = tt

-- behind what was noted without one, of another type
pub notes_again : (T U : Type 0) (why : Stopped) (old mid new : List Entry) → AddsNoTried old mid → CommitsNote {T = U} (Err why) mid new → CommitsNote {T = T} (Err why) old new
notes_again T U (reason.NoBlocks n) old mid new first more = adds_then old mid new first more
notes_again T U reason.ReadFault old mid new first more = more
notes_again T U reason.WriteFault old mid new first more = tt

-- where want of blocks changes nothing, and nothing is read
pub stops_noting : (why : Stopped) (old new : List Entry) → ((n : NoBlocks) → IsErrOf {T = ⊤} (Err why) (reason.NoBlocks n) → new ≡ old) → (IsErrOf {T = ⊤} (Err why) reason.ReadFault → ⊥)
    → CommitsNote {T = ⊤} (Err why) old new
stops_noting (reason.NoBlocks n) old new same no_read = adds_none old new (same n refl)
stops_noting reason.ReadFault old new same no_read = no_read refl
stops_noting reason.WriteFault old new same no_read = tt

-- WHAT IS TOLD of what a call came to

-- the kernel stands so
pub tells_by : {T : Type 0} (r : Result T Stopped) (o : Option Stopped) → o ≡ result_err r → Tells (told_by r) o
tells_by (Ok y) o is = is
tells_by (Err (reason.NoBlocks n)) o is = is
tells_by (Err reason.ReadFault) o is = is
tells_by (Err reason.WriteFault) o is = is

-- it tries as often
pub tries_by : {T : Type 0} (r : Result T Stopped) (old new : List Entry) → CommitsNote r old new → TriesByAnswer (told_by r) old new
tries_by (Ok y) old new notes = notes
tries_by (Err (reason.NoBlocks n)) old new notes = notes
tries_by (Err reason.ReadFault) old new notes = absurd notes
tries_by (Err reason.WriteFault) old new notes = tt

-- where it came to want of blocks, with the same numbers
pub told_no_blocks : {T : Type 0} (r : Result T Stopped) (n : NoBlocks) → (IsErrOf r (reason.NoBlocks n)) ↔ (IsErrOf (told_by r) (stop.NoBlocks n))
told_no_blocks (Ok y) n = ((λ is. absurd (cc is)), (λ is. absurd (cc is)))
told_no_blocks (Err (reason.NoBlocks m)) n = ((λ is. let e : m ≡ n = cc is in ap (λ k. Err (stop.NoBlocks k)) e), (λ is. let e : m ≡ n = cc is in ap (λ k. Err (reason.NoBlocks k)) e))
told_no_blocks (Err reason.ReadFault) n = ((λ is. absurd (cc is)), (λ is. absurd (cc is)))
told_no_blocks (Err reason.WriteFault) n = ((λ is. absurd (cc is)), (λ is. absurd (cc is)))

-- a call that makes records alone fails by a write
pub fails_by : {T : Type 0} (r : Result T Stopped) (P : Type 0) → (IsErrOf r reason.ReadFault → ⊥) → (IsErrOf r reason.WriteFault → P) → IfErr (told_by r) (FailsByWrite P)
fails_by (Ok y) P no_read tried = tt
fails_by (Err (reason.NoBlocks n)) P no_read tried = tt
fails_by (Err reason.ReadFault) P no_read tried = no_read refl
fails_by (Err reason.WriteFault) P no_read tried = tried refl

-- commits read nothing
pub no_reading : {T : Type 0} (r : Result T Stopped) (old new : List Entry) → CommitsNote r old new → IsErrOf r reason.ReadFault → ⊥
no_reading (Ok y) old new notes is = cc is
no_reading (Err (reason.NoBlocks n)) old new notes is = cc is
no_reading (Err reason.ReadFault) old new notes is = notes
no_reading (Err reason.WriteFault) old new notes is = cc is

-- THE KERNEL HAS STOPPED for what the call came to

pub err_of_kept : {T : Type 0} (r : Result T Stopped) (o : Option Stopped) → o ≡ result_err r → (why : Stopped) → o ≡ Some why → IsErrOf r why
err_of_kept (Ok y) o is why kept = absurd (let clash : None ≡ Some why = sym is ∙ kept in cc clash)
err_of_kept (Err w) o is why kept = let clash : Some w ≡ Some why = sym is ∙ kept in (let e : w ≡ why = cc clash in ap Err e)

pub when_stopped : {T P : Type 0} (r : Result T Stopped) → OnErr r P → (o : Option Stopped) → o ≡ result_err r → (why : Stopped) → o ≡ Some why → P
when_stopped (Ok y) p o is why kept = absurd (let clash : None ≡ Some why = sym is ∙ kept in cc clash)
when_stopped (Err w) p o is why kept = p

-- more of it, behind what was noted without a Tried
pub tries_behind : {T : Type 0} (r : Result T Stopped) (old mid new : List Entry) → AddsNoTried old mid → CommitsNote r mid new → CommitsNote r old new
tries_behind (Ok y) old mid new first more = adds_then old mid new first more
tries_behind (Err (reason.NoBlocks n)) old mid new first more = adds_then old mid new first more
tries_behind (Err reason.ReadFault) old mid new first more = more
tries_behind (Err reason.WriteFault) old mid new first more = tt

-- a kernel that has stopped notes nothing more
pub tries_again : (T : Type 0) (why : Stopped) (old : List Entry) → TriesByAnswer {T = T} (Err (told_again why)) old old
tries_again T (reason.NoBlocks n) old = adds_none old old refl
tries_again T reason.ReadFault old = adds_none old old refl
tries_again T reason.WriteFault old = adds_none old old refl

-- where it ended well
pub ok_told : (T P : Type 0) (r : Result T Stopped) (y : T) → OnOk r ((r ≡ Ok y) × P) → OnOk (told_by r) ((told_by r ≡ Ok y) × P)
ok_told T P (Ok x) y h = ((let e : x ≡ y = (let is = h.0 in cc is) in ap Ok e), h.1)
ok_told T P (Err why) y h = tt

pub on_ok_told : (T P : Type 0) (r : Result T Stopped) → OnOk r P → OnOk (told_by r) P
on_ok_told T P (Ok x) p = p
on_ok_told T P (Err why) p = tt

-- what is answered behind what was noted without a Tried
pub answers_behind : {T : Type 0} (r : Result T Stop) (old mid new : List Entry) → AddsNoTried old mid → TriesByAnswer r mid new → TriesByAnswer r old new
answers_behind (Ok y) old mid new first more = adds_then old mid new first more
answers_behind (Err (stop.Idle why)) old mid new first more = adds_then old mid new first more
answers_behind (Err (stop.NoBlocks n)) old mid new first more = adds_then old mid new first more
answers_behind (Err stop.ReadFault) old mid new first more = adds_then old mid new first more
answers_behind (Err stop.WriteFault) old mid new first more = tt
answers_behind (Err stop.Shut) old mid new first more = adds_then old mid new first more
