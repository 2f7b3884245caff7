-- How a store counts on over several records.
use Rattle.std.proofs.Common.{◌≡◌, inl, inr, ℕ, suc, ◌+◌, ◌*◌, ◌≤◌, Bool, refl, sym, ◌∙◌, subst, arith}
use Rattle.std.proofs.lemmas.Bool.{cases_lt}
use Rattle.std.proofs.lemmas.Option.{slice_get_within}
use Rattle.edge_disk.specs.declared.disk.Disk.{Ghosts}
use Rattle.edge_tally.proofs.Counting.{CountsOn-stay, CountsOn-then}
use Rattle.image_facts.specs.model_kernel.Histories.{Policy}
use Rattle.kernel_book_laws.specs.store_facts.State.{State, books}
use Rattle.table_steps.specs.table_laws.Tables.{AreNumbered}
use Rattle.kernel_book_laws.specs.kernel_records.Committing.{CommitCounts}
use Rattle.kernel_commit_facts.specs.Parts.{Parts}
use Rattle.kernel_commit_facts.specs.Pieces.{CountsWithin}
use Rattle.kernel_commit_facts.specs.Snapping.{Snaps}

-- there is no cell past the 64
pub past_cells : {D : Type 0} (policy : Policy) (x : ℕ) (p : Parts D) (t : Bool) → AreNumbered p.cells → 64 ≤ x → Snaps policy x p t
past_cells policy x p t numbers past s words c at = absurd (let lt = slice_get_within p.cells x c at in let len = numbers.len in omega (arith, lt, len, past))

module _ {D : Type 0} (disks : Ghosts D) where
  pub CountsWithin-stay : (most : ℕ) (st : State D) → CountsWithin disks most st st
  CountsWithin-stay most st = record { few = omega arith; counts = CountsOn-stay (disks.clock st.disk) (books st).begun; later = omega arith; same_count = refl }

  pub CountsWithin-fewer : (m n : ℕ) (old new : State D) → m ≤ n → CountsWithin disks m old new → CountsWithin disks n old new
  CountsWithin-fewer m n old new le w = record { few = (let few = w.few in omega (arith, le, few)); counts = w.counts; later = w.later; same_count = w.same_count }

  pub CountsWithin-then : (m n : ℕ) (old mid new : State D) → CountsWithin disks m old mid → CountsWithin disks n mid new → CountsWithin disks (m + n) old new
  CountsWithin-then m n old mid new p q = record {
    few = (let one = p.few in let two = q.few in omega (arith, one, two));
    counts = CountsOn-then (disks.clock old.disk) (disks.clock mid.disk) (disks.clock new.disk) (books old).begun (books mid).begun (books new).begun p.counts q.counts;
    later = (let one = p.later in let two = q.later in omega (arith, one, two));
    same_count = q.same_count ∙ p.same_count;
  }

  -- a record more
  pub one_within : (n : ℕ) (old mid new : State D) → CountsWithin disks (n * 1556) old mid → CommitCounts disks mid new → CountsWithin disks (suc n * 1556) old new
  one_within n old mid new w k = record {
    few = (let few = w.few in let more = k.few in omega (arith, few, more));
    counts = CountsOn-then (disks.clock old.disk) (disks.clock mid.disk) (disks.clock new.disk) (books old).begun (books mid).begun (books new).begun w.counts k.counts;
    later = (let was = w.later in let more = k.later in omega (arith, was, more));
    same_count = k.same_count ∙ w.same_count;
  }

  -- over the Snaps of these many touches: a record for each at most, and for each entity
  pub record CountsAlong (i : ℕ) (old now : State D) : Type 0 where
    pub most : ℕ
    pub low : most ≤ 64
    pub past : most ≤ i
    pub within : CountsWithin disks (most * 1556) old now

  pub counts_begin : (st : State D) → CountsAlong 0 st st
  counts_begin st = record { most = 0; low = omega arith; past = omega arith; within = CountsWithin-stay 0 st }

  pub counts_skip : (i : ℕ) (old now : State D) → CountsAlong i old now → CountsAlong (i + 1) old now
  counts_skip i old now k = record { most = k.most; low = k.low; past = (let past = k.past in omega (arith, past)); within = k.within }

  -- the next touch is of an entity with a higher number
  pub counts_next : (i x : ℕ) (old now next : State D) → i ≤ x → CountsAlong i old now → CommitCounts disks now next → (64 ≤ x → next ≡ now) → CountsAlong (i + 1) old next
  counts_next i x old now next le k more same = elim (cases_lt x 64) as (λ _. CountsAlong (i + 1) old next) [
    | inl low ↦ record {
      most = suc k.most;
      low = (let past = k.past in omega (arith, past, le, low));
      past = (let past = k.past in omega (arith, past));
      within = one_within k.most old now next k.within more;
    }
    | inr high ↦ subst (CountsAlong (i + 1) old) (sym (same high)) (counts_skip i old now k)
  ]

  pub counts_end : (i : ℕ) (old now : State D) → CountsAlong i old now → CountsWithin disks (64 * 1556) old now
  counts_end i old now k = CountsWithin-fewer (k.most * 1556) (64 * 1556) old now (let low = k.low in omega (arith, low)) k.within
