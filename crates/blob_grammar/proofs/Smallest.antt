-- Each kind has a spelling.
use Rattle.std.proofs.Common.{◌≡◌, ◌<◌, ℕ, zero, suc, ◌^◌, Bool, true, false, List, [], ◌∷◌, replicate, Option, Some, None, refl, ap, arith}
use Rattle.std.proofs.lemmas.Bool.{false≢true}
use Rattle.std.specs.Prelude.{All, slice_get}
use Rattle.model_kernel.specs.base_types.declared.capabilities.Cap.{Cap}
use Rattle.model_kernel.specs.base_types.declared.entities.Kind.{Kind}
use Rattle.model_kernel.specs.base_types.declared.entities.Kind.TheVariants.{Atlas, Container, Locus}
use Rattle.model_kernel.specs.base_types.declared.instructions.Condition.TheVariants.{Running}
use Rattle.model_kernel.specs.State.{ContainerState, LocusState, no_atlas}
use Rattle.blob_grammar.specs.Forms.{IsAtlasForm, IsContainerForm, IsLocusForm, IsSpelling}
use Rattle.blob_grammar.specs.Spelling.{atlas_blob, container_blob, locus_blob}

abbrev pub is_there : {A : Type 0} → Option A → Bool
is_there None = false
is_there (Some x) = true

pub clash : {A X : Type 0} (x : A) → None ≡ Some x → X
clash x e = absurd (false≢true (ap is_there e))

abbrev there_or : {A : Type 0} → A → Option A → A
there_or d None = d
there_or d (Some x) = x

pub no_cap : {X : Type 0} (n slot : ℕ) (cap : Cap) → slice_get (replicate n None) slot ≡ Some (Some cap) → X
no_cap zero slot cap e = clash (Some cap) e
no_cap (suc n) zero cap e = clash cap (ap (there_or None) e)
no_cap (suc n) (suc slot) cap e = no_cap n slot cap e

pub none_all : {A : Type 0} (P : A → Type 0) → All P []
none_all P i d lt = absurd (omega (arith, lt))

pub zeros_small : (n most : ℕ) → 0 < most → All (λ v. v < most) (replicate n 0)
zeros_small zero most some i d lt = absurd (omega (arith, lt))
zeros_small (suc n) most some zero d lt = some
zeros_small (suc n) most some (suc i) d lt = zeros_small n most some i d (omega (arith, lt))

pub small_atlas : IsAtlasForm no_atlas
small_atlas = record {
  few_containers = omega arith;
  few_loci = omega arith;
  containers = refl;
  loci = refl;
  different = record { containers = λ i j name e f. clash name e; loci = λ i j name e f. clash name e; both = λ i j name e f. clash name e };
  edges = record { most = λ x y. omega arith; from = λ x y some. absurd (omega (arith, some)); to = λ x y some. absurd (omega (arith, some)) };
}

-- one page that has no block, and nothing else
abbrev pub empty_container : ContainerState
empty_container = record { pages = 1; tag = 0; every = 0; entry = None; code = []; regions = []; caps = replicate 32 None; words = λ _. 0 }

pub small_container : IsContainerForm empty_container (0 ∷ [])
small_container = record {
  shape = record {
    some = omega arith;
    size = omega arith;
    entry = λ x e. clash x e;
    code = record { few = omega arith; each = none_all _ };
    few = omega arith;
    regions = none_all _;
    inside = none_all _;
    apart = tt;
    caps = record { slots = refl; each = λ slot cap e. no_cap 32 slot cap e };
  };
  tag = omega arith;
  every = omega arith;
  rights = λ slot cap e. no_cap 32 slot cap e;
  blocks = record { each_page = refl; numbers = zeros_small 1 (2 ^ 32) (omega arith) };
}

abbrev empty_locus : LocusState
empty_locus = record {
  registers = replicate 8 0;
  place = 0;
  code = [];
  host = 0;
  chain = [];
  privates = [];
  caps = replicate 32 None;
  walk = None;
  condition = Running;
  every = 0;
  printed = 0;
}

small_locus : IsLocusForm empty_locus
small_locus = record {
  shape = record {
    registers = refl;
    place = omega arith;
    code = record { few = omega arith; each = none_all _ };
    host = omega arith;
    deep = omega arith;
    chain = none_all _;
    few = omega arith;
    privates = none_all _;
    ordered = tt;
    caps = record { slots = refl; each = λ slot cap e. no_cap 32 slot cap e };
    walk = λ w e. clash w e;
    printed = omega arith;
  };
  values = zeros_small 8 (2 ^ 64) (omega arith);
  every = omega arith;
  rights = λ slot cap e. no_cap 32 slot cap e;
  address = λ w e. clash w e;
}

pub has_spelling : (kind : Kind) → (bytes : List ℕ) × IsSpelling kind bytes
has_spelling Atlas = (atlas_blob no_atlas, (no_atlas, record { form = small_atlas; is = refl }))
has_spelling Container = (container_blob empty_container (0 ∷ []), (empty_container, 0 ∷ [], record { form = small_container; is = refl }))
has_spelling Locus = (locus_blob empty_locus, (empty_locus, record { form = small_locus; is = refl }))
