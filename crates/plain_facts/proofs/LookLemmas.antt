-- What a look makes, case by case.
use Rattle.std.proofs.Common.{◌≡◌, ℕ, ◌/◌, ◌<◌, ◌≤◌, nat_lt, true, false, if◌then◌else◌, Option, Some, None, find, refl, arith}
use Rattle.std.proofs.lemmas.Bool.{lt-ltb}
use Rattle.std.proofs.lemmas.Bool.Decides.{nat_tests}
use Rattle.base_types.specs.declared.capabilities.Region.{Region}
use Rattle.base_types.specs.declared.instructions.Reply.{Reply}
use Rattle.base_types.specs.declared.instructions.Reply.TheVariants.{Ok, NoPage, Deep}
use Rattle.model_kernel.specs.State.{ContainerState, LocusState, ContainerCell}
use Rattle.model_kernel.specs.Words.{covers, denied}
use Rattle.model_kernel.specs.Outcomes.{Outcome, load, store, with_other, own_reply, looked_by, through, hop_to, look_hops, with_word}

-- the act only read the container
pub record Reads (o : Outcome) : Type 0 where
  pub other : o.other ≡ None
  pub newborn : o.newborn ≡ None

-- a look that a region answers reads
pub through_reads : (l : LocusState) (r : Region) (address : ℕ) (why : Option Reply) → Reads (through l r address why)
through_reads l r address (Some why) = record { other = refl; newborn = refl }
through_reads l r address None = elim (nat_lt (look_hops l) 63) as (λ b. Reads (if b then hop_to l r address else own_reply l Deep)) [ true ↦ record { other = refl; newborn = refl } | false ↦ record { other = refl; newborn = refl } ]

-- past the pages
pub store_past : (l : LocusState) (c : ContainerState) (address word : ℕ) → c.pages ≤ address / 128 → store l c address word ≡ own_reply l NoPage
unfolding store
store_past l c address word high = let past : nat_lt (address / 128) c.pages ≡ false = grind (arith, nat_tests) in rw past refl

-- where a region covers the page
pub store_through : (l : LocusState) (c : ContainerState) (address word : ℕ) (r : Region) → address / 128 < c.pages → find (λ s. covers s (address / 128)) c.regions ≡ Some r
    → store l c address word ≡ through l r address (denied r.rights.0 2)
unfolding store
store_through l c address word r low is = rw (lt-ltb (address / 128) c.pages low, is) refl

-- where none does
pub store_word : (l : LocusState) (c : ContainerState) (address word : ℕ) → address / 128 < c.pages → find (λ s. covers s (address / 128)) c.regions ≡ None
    → store l c address word ≡ with_other l Ok (ContainerCell (with_word c address word))
unfolding store
store_word l c address word low is = rw (lt-ltb (address / 128) c.pages low, is) refl

looked_by_reads : (l : LocusState) (address needed : ℕ) (done : Outcome) (r : Option Region) → Reads done → Reads (looked_by l address needed done r)
looked_by_reads l address needed done (Some r) h = through_reads l r address (denied r.rights.0 needed)
looked_by_reads l address needed done None h = h

-- a load reads the container
pub load_reads : (l : LocusState) (c : ContainerState) (d address : ℕ) → Reads (load l c d address)
unfolding load
load_reads l c d address =
    let r = find (λ r. covers r (address / 128)) c.regions in
    elim (nat_lt (address / 128) c.pages) as (λ b. (done : Outcome) → Reads done → Reads (if b then looked_by l address 1 done r else own_reply l NoPage)) [
      | true ↦ λ done h. looked_by_reads l address 1 done r h
      | false ↦ λ done h. record { other = refl; newborn = refl }
    ] _ (record { other = refl; newborn = refl })
