-- A birth prints nothing, and the atlas names the locus that is born.
use Rattle.std.proofs.Common.{◌≡◌, ℕ, suc, ◌+◌, ◌≤◌, ◌<◌, true, false, ◌&&◌, if◌then◌else◌, ◌==◌, List, [], ◌∷◌, length, Option, Some, None, option_map, option_and_then, is_none, refl, sym, ap, subst, ◌∙◌, arith, eqb-true, inl, inr, length-append, add-one}
use Rattle.std.proofs.lemmas.Bool.{false≢true}
use Rattle.base_types.specs.declared.histories.Answer.TheVariants.{Quiet}
use Rattle.model_kernel.specs.State.{Supply, Text, AtlasState, Cell, AtlasCell, ContainerCell, LocusCell, KernelState}
use Rattle.model_kernel.specs.Outcomes.{free_container, free_locus}
use Rattle.model_kernel.specs.Changes.{Change}
use Rattle.model_kernel.specs.Steps.{atlas_in}
use Rattle.model_kernel.specs.Scripts.{RegionTable, ContainerTable, LocusTable, Script, text_eq, place_of, number_of, number_in, container_named, container_table, locus_table, next_name}
use Rattle.model_kernel.specs.Births.{knows_caps, knows_regions, edges_from, with_container_name, with_locus_name, container_from, locus_from, code_in, container_born, container_birth, locus_born, locus_in_host, locus_birth, birth_from, birth_named, next_birth_change}
use Rattle.model_kernel.specs.Printing.{NamesLoci}
use Rattle.model_kernel.proofs.Faithful.{tally, free_container_is, free_locus_is}
use Rattle.model_kernel.proofs.Tallies.{counted_at, IsTallied, Counts, not_named}
use Rattle.model_kernel.proofs.Locality.{some_if}

-- regions change the edges alone
edges_keep_loci : (number : Text → Option ℕ) (n : ℕ) (rs : List RegionTable) (a : AtlasState) → (edges_from number n rs a).loci ≡ a.loci
edges_keep_loci number n [] a = refl
edges_keep_loci number n (r ∷ rs) a = edges_keep_loci number n rs a

-- places are counted from n
pub place_low : (name : Text) (names : List Text) (n k : ℕ) → place_of name names n ≡ Some k → n ≤ k
place_low name [] n k e = cc
place_low name (t ∷ ts) n k e =
    elim (text_eq name t) as (λ b. (if b then Some n else place_of name ts (n + 1)) ≡ Some k → n ≤ k) [
      | true ↦ λ e. (let same : n ≡ k = cc in omega arith)
      | false ↦ λ e. (let low = place_low name ts (n + 1) k e in omega arith)
    ] e

module _ (s : Supply) (w : KernelState) (names : NamesLoci w) where
  Goal : ℕ → Change → Type 0
  Goal n c = Counts w names.atlas n c.answer c.accesses

  -- an entity that keeps its count where nothing is printed
  quiet_tally : (a' : AtlasState) (n x : ℕ) (c : Cell) → tally c ≡ tally (w x).cell → IsTallied names.atlas a' n Quiet x (w x).cell c
  quiet_tally a' n x c e = inl (e ∙ by_tally (tally (w x).cell))
    where
      by_tally : (t : Option ℕ) → t ≡ option_map (counted_at n Quiet x) t
      by_tally None = refl
      by_tally (Some k) = elim (n == x) as (λ b. Some k ≡ Some (if b then k else k)) [ true ↦ refl | false ↦ refl ]

  -- the atlas's own cell has no count
  at_0_none : (x : ℕ) → (0 == x) ≡ true → tally (w x).cell ≡ None
  at_0_none x is = not_named w names x (λ r. let low = r.0 in let e = eqb-true _ _ is in omega arith)

  not_0 : (n : ℕ) → 0 < n → (n == 0) ≡ false
  not_0 n lt = elim (n == 0) as (λ b. (n == 0) ≡ b → b ≡ false) [ true ↦ λ is. (let e = eqb-true _ _ is in absurd (omega arith)) | false ↦ λ is. refl ] refl

  container_counts : (t : ContainerTable) (n : ℕ) → free_container names.atlas ≡ Some n → Goal n (container_born s names.atlas t n)
  unfolding Goal
  container_counts t n free =
      let range = free_container_is names.atlas n free in
      let a' = edges_from (number_in names.atlas t.name n) n t.regions (with_container_name names.atlas t.name) in
      let same : a'.loci ≡ names.atlas.loci = edges_keep_loci (number_in names.atlas t.name n) n t.regions (with_container_name names.atlas t.name) in
      let no : (n == 0) ≡ false = not_0 n range.0 in
      record {
        atlas = a';
        there = (λ i. if no i then ContainerCell (container_from s (number_in names.atlas t.name n) t) else AtlasCell a');
        grows = (let e = ap length same in omega arith);
        actor = λ h. absurd (false≢true h);
        tallied = λ x. elim (n == x) as (λ b. (n == x) ≡ b → IsTallied names.atlas a' n Quiet x (w x).cell (if b then ContainerCell (container_from s (number_in names.atlas t.name n) t) else (if 0 == x then AtlasCell a' else (w x).cell))) [
          | true ↦ λ is. (
              let e = eqb-true _ _ is in
              let few = range.1 in
              quiet_tally a' n x (ContainerCell (container_from s (number_in names.atlas t.name n) t)) (sym (not_named w names x (λ r. let low = r.0 in omega arith))))
          | false ↦ λ is. elim (0 == x) as (λ b. (0 == x) ≡ b → IsTallied names.atlas a' n Quiet x (w x).cell (if b then AtlasCell a' else (w x).cell)) [
            | true ↦ λ at. quiet_tally a' n x (AtlasCell a') (sym (at_0_none x at))
            | false ↦ λ at. quiet_tally a' n x _ refl
          ] refl
        ] refl;
      }

  locus_counts : (t : LocusTable) (host n : ℕ) → 0 < host → free_locus names.atlas ≡ Some n → Goal n (locus_born names.atlas t n host (w host).cell)
  unfolding Goal
  locus_counts t host n there free =
      let number = free_locus_is names.atlas n free in
      let a' = with_locus_name names.atlas t.name in
      let more : length a'.loci ≡ suc (length names.atlas.loci) = (let e = length-append names.atlas.loci (t.name ∷ []) in e ∙ add-one (length names.atlas.loci)) in
      let newborn = LocusCell (locus_from (number_in names.atlas t.name n) t host (code_in (w host).cell)) in
      let no : (n == 0) ≡ false = not_0 n (omega arith) in
      let no_host : (host == 0) ≡ false = not_0 host there in
      record {
        atlas = a';
        there = (λ i. if no i then newborn else (if no_host i then (w host).cell else AtlasCell a'));
        grows = omega arith;
        actor = λ h. absurd (false≢true h);
        tallied = λ x. elim (n == x) as (λ b. (n == x) ≡ b → IsTallied names.atlas a' n Quiet x (w x).cell (if b then newborn else (if host == x then (w host).cell else (if 0 == x then AtlasCell a' else (w x).cell)))) [
          | true ↦ λ is. (let e = eqb-true _ _ is in inr ((let r : x ≡ length names.atlas.loci + 41 = omega arith in r), refl, more, λ _. refl))
          | false ↦ λ is. elim (host == x) as (λ b. (host == x) ≡ b → IsTallied names.atlas a' n Quiet x (w x).cell (if b then (w host).cell else (if 0 == x then AtlasCell a' else (w x).cell))) [
            | true ↦ λ at. quiet_tally a' n x _ (ap (λ y. tally (w y).cell) (eqb-true _ _ at))
            | false ↦ λ at. elim (0 == x) as (λ b. (0 == x) ≡ b → IsTallied names.atlas a' n Quiet x (w x).cell (if b then AtlasCell a' else (w x).cell)) [
              | true ↦ λ first. quiet_tally a' n x (AtlasCell a') (sym (at_0_none x first))
              | false ↦ λ first. quiet_tally a' n x _ refl
            ] refl
          ] refl
        ] refl;
      }

  -- ANY BIRTH

  by_container : (t : ContainerTable) (n : Option ℕ) (c : ℕ × Change) → free_container names.atlas ≡ n → container_birth s names.atlas t n ≡ Some c → Goal c.0 c.1
  by_container t None c free is = cc
  by_container t (Some n) c free is =
      subst (λ (c : ℕ × Change). Goal c.0 c.1)
      (some_if (knows_regions (number_in names.atlas t.name n) t.regions && knows_caps (number_in names.atlas t.name n) t.caps) (n, container_born s names.atlas t n) c is)
      (container_counts t n free)

  by_host : (t : LocusTable) (host : ℕ) (n : Option ℕ) (c : ℕ × Change) → 0 < host → free_locus names.atlas ≡ n → locus_in_host names.atlas t host (w host).cell n ≡ Some c → Goal c.0 c.1
  by_host t host None c there free is = cc
  by_host t host (Some n) c there free is =
      subst (λ (c : ℕ × Change). Goal c.0 c.1) (some_if (knows_caps (number_in names.atlas t.name n) t.caps) (n, locus_born names.atlas t n host (w host).cell) c is) (locus_counts t host n there free)

  by_locus : (t : LocusTable) (host : Option ℕ) (c : ℕ × Change) → container_named names.atlas t.host ≡ host → locus_birth w names.atlas t host ≡ Some c → Goal c.0 c.1
  by_locus t None c named is = cc
  by_locus t (Some host) c named is = (
      let low = place_low t.host names.atlas.containers 1 host named in
      by_host t host (free_locus names.atlas) c (omega arith) refl is)

  by_tables : (t : Option ContainerTable) (u : Option LocusTable) (c : ℕ × Change) → birth_from s w names.atlas t u ≡ Some c → Goal c.0 c.1
  by_tables (Some t) u c is = by_container t (free_container names.atlas) c refl is
  by_tables None (Some u) c is = by_locus u (container_named names.atlas u.host) c refl is
  by_tables None None c is = cc

  by_name : (script : Script) (name : Text) (c : ℕ × Change) → birth_named s script name w names.atlas ≡ Some c → Goal c.0 c.1
  by_name script name c is =
      elim (is_none (number_of names.atlas name)) as (λ b. (if b then birth_from s w names.atlas (container_table script.containers name) (locus_table script.loci name) else None) ≡ Some c → Goal c.0 c.1) [
        | true ↦ λ is. by_tables (container_table script.containers name) (locus_table script.loci name) c is
        | false ↦ λ is. cc
      ] is

  -- each birth of a script counts
  pub birth_counts : (script : Script) (c : ℕ × Change) → next_birth_change s script w ≡ Some c → Counts w names.atlas c.0 c.1.answer c.1.accesses
  unfolding next_birth_change Goal
  birth_counts script c is = by_next (next_name names.atlas script) (subst (λ a. option_and_then (λ name. birth_named s script name w a) (next_name a script) ≡ Some c) (ap atlas_in names.there) is)
    where
      by_next : (o : Option Text) → option_and_then (λ name. birth_named s script name w names.atlas) o ≡ Some c → Counts w names.atlas c.0 c.1.answer c.1.accesses
      by_next None is = cc
      by_next (Some name) is = by_name script name c is
