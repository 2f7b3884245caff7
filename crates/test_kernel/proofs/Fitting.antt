-- A locus as it is born, but for its place, and a store without records.
use Rattle.std.proofs.Common.{◌≡◌, ℕ, zero, suc, replicate, ◌<◌, List, [], ◌∷◌, length, Some, None, refl, ap, arith}
use Rattle.std.specs.Prelude.{All, slice_get}
use Rattle.std.proofs.lemmas.List.Sums.{count_by-le-length, length-filter}
use Rattle.base_types.specs.declared.capabilities.Cap.{Cap}
use Rattle.base_types.specs.declared.instructions.Condition.TheVariants.{Running}
use Rattle.cell_clocks.specs.model_kernel.State.{LocusState}
use Rattle.image_format.specs.blob_grammar.Forms.{IsNumber}
use Rattle.image_format.specs.blob_grammar.Shapes.{IsLocusOver}
use Rattle.image_blocks.specs.image_facts.Layout.{slot_count}
use Rattle.store_snapshots.specs.store_facts.Shelves.{is_from}
use Rattle.kernel_records.specs.store_books.Books.{Books, Logged, cut_in, kept_in, logged_recs, recs_in}

none_all : {A : Type 0} (P : A → Type 0) → All P []
none_all P i d lt = absurd (omega (arith, lt))

no_cap : {P : Type 0} (n slot : ℕ) (cap : Cap) → slice_get (replicate n None) slot ≡ Some (Some cap) → P
no_cap zero slot cap e = absurd (cc e)
no_cap (suc n) zero cap e = absurd (cc e)
no_cap (suc n) (suc slot) cap e = no_cap n slot cap e

abbrev pub new_locus : ℕ → ℕ → LocusState
new_locus host every = record {
  registers = replicate 8 0;
  place = 2;
  code = [];
  host = host;
  chain = [];
  privates = [];
  caps = replicate 32 None;
  walk = None;
  condition = Running;
  every = every;
  printed = 0;
}

pub formed_locus : (host every : ℕ) → host < 64 → IsLocusOver IsNumber IsNumber (new_locus host every)
formed_locus host every low = record {
  registers = refl;
  place = omega arith;
  code = record { few = omega arith; each = none_all _ };
  host = low;
  deep = omega arith;
  chain = none_all _;
  few = omega arith;
  privates = none_all _;
  ordered = tt;
  caps = record { slots = refl; each = λ slot cap e. no_cap 32 slot cap e };
  walk = λ w e. absurd (cc e);
  printed = omega arith;
}

pub none_of : {A : Type 0} (xs : List A) → length xs ≡ 0 → xs ≡ []
none_of [] len = refl
none_of (x ∷ xs) len = absurd (omega (arith, len))

no_logged : (ls : List Logged) → logged_recs ls ≡ [] → ls ≡ []
no_logged [] none = refl
no_logged (l ∷ ls) none = absurd (cc none)

pub has_room : (b : Books) → recs_in b ≡ [] → length (kept_in b) < slot_count
has_room b none =
    let kept = length-filter (is_from (cut_in b)) b.logged in
    let few = count_by-le-length (is_from (cut_in b)) b.logged in
    let zero : length b.logged ≡ 0 = ap length (no_logged b.logged none) in
    omega (arith, kept, few, zero)
