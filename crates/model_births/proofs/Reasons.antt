-- Why a script doesn't fit.
use Rattle.std.proofs.Common.{◌≡◌, ℕ, ◌+◌, ◌≤◌, Bool, true, false, if◌then◌else◌, List, [], ◌∷◌, length, Option, Some, None, is_some, option_map, nat_le, codes, string_bytes, refl, sym, ap, ◌∙◌, arith}
use Rattle.std.specs.List.{All}
use Rattle.std.proofs.lemmas.Bool.Decides.{nat_tests}
use Rattle.std.proofs.lemmas.List.Elements.{All-head, All-tail}
use Rattle.model_sound_runs.specs.model_kernel.Scripts.{ContainerTable, LocusTable, Script, container_named, locus_named}
use Rattle.model_sound_runs.specs.model_kernel.State.{AtlasState}
use Rattle.model_sound_runs.specs.model_kernel.Words.{or_else}
use Rattle.model_sound_runs.specs.script_types.declared.refusals.ScriptFault.{ScriptFault}
use Rattle.model_sound_runs.specs.script_types.declared.refusals.ScriptFault.TheVariants.{Refused, Memory}
use Rattle.model_sound_runs.specs.script_types.declared.refusals.Why.{Why}
use Rattle.model_sound_runs.specs.script_types.declared.refusals.Why.TheVariants.{Clash, NoRoom}
use Rattle.model_births.specs.Fitting.{Fits, new_containers, new_loci}
use Rattle.model_births.specs.Misfits.{IsClash, IsMisfit, IsNoRoom, clash_key, container_clash, locus_clash, name_key, room_key}
use Rattle.model_births.proofs.Clashing.{containers_apart, loci_apart}
use Rattle.model_births.proofs.KnownNames.{some_none}

-- NO CLASH

containers_clear : (a : AtlasState) (ts : List ContainerTable) (n : ℕ) → All (λ (t : ContainerTable). locus_named a t.name ≡ None) ts → container_clash a ts n ≡ None
containers_clear a [] n all = refl
containers_clear a (t ∷ ts) n all =
    ap (λ (o : Option ℕ). if is_some o then Some n else container_clash a ts (n + 1)) (All-head (λ (t : ContainerTable). locus_named a t.name ≡ None) t ts all)
    ∙ containers_clear a ts (n + 1) (All-tail (λ (t : ContainerTable). locus_named a t.name ≡ None) t ts all)

loci_clear : (a : AtlasState) (ts : List LocusTable) (n : ℕ) → All (λ (t : LocusTable). container_named a t.name ≡ None) ts → locus_clash a ts n ≡ None
loci_clear a [] n all = refl
loci_clear a (t ∷ ts) n all =
    ap (λ (o : Option ℕ). if is_some o then Some n else locus_clash a ts (n + 1)) (All-head (λ (t : LocusTable). container_named a t.name ≡ None) t ts all)
    ∙ loci_clear a ts (n + 1) (All-tail (λ (t : LocusTable). container_named a t.name ≡ None) t ts all)

fits_clear : (a : AtlasState) (script : Script) → Fits a script → clash_key a script ≡ None
fits_clear a script fits =
    (λ i. or_else (option_map (name_key (codes "container")) (containers_clear a script.containers 0 fits.kinds.containers i)) (option_map (name_key (codes "locus")) (loci_clear a script.loci 0 fits.kinds.loci i)))

mapped_none : {A B : Type 0} (f : A → B) (o : Option A) → option_map f o ≡ None → o ≡ None
mapped_none f None e = refl
mapped_none f (Some x) e = some_none (f x) e

else_none : {A : Type 0} (o p : Option A) → or_else o p ≡ None → (o ≡ None) × (p ≡ None)
else_none None p e = (refl, e)
else_none (Some x) p e = some_none x e

-- ROOM

below_is : (n m : ℕ) → n ≤ m → nat_le n m ≡ true
below_is n m h = grind (arith, nat_tests)

is_below : (n m : ℕ) → nat_le n m ≡ true → n ≤ m
is_below n m h = grind (arith, nat_tests)

fits_room : (a : AtlasState) (script : Script) → Fits a script → room_key a script ≡ None
fits_room a script fits =
    (λ i. if below_is (length a.containers + new_containers a script.containers) 40 fits.containers i
    then (if below_is (length a.loci + new_loci a script.loci) 23 fits.loci i then None else Some (codes "locus"))
    else Some (codes "container"))

has_room : (a : AtlasState) (script : Script) → room_key a script ≡ None → (length a.containers + new_containers a script.containers ≤ 40) × (length a.loci + new_loci a script.loci ≤ 23)
has_room a script none = by_tests (nat_le (length a.containers + new_containers a script.containers) 40) (nat_le (length a.loci + new_loci a script.loci) 23) refl refl none
  where
    by_tests : (b c : Bool) → nat_le (length a.containers + new_containers a script.containers) 40 ≡ b → nat_le (length a.loci + new_loci a script.loci) 23 ≡ c
        → (if b then (if c then None else Some (codes "locus")) else Some (codes "container")) ≡ None → (length a.containers + new_containers a script.containers ≤ 40) × (length a.loci + new_loci a script.loci ≤ 23)
    by_tests true true p q e = (is_below (length a.containers + new_containers a script.containers) 40 p, is_below (length a.loci + new_loci a script.loci) 23 q)
    by_tests true false p q e = some_none (codes "locus") e
    by_tests false c p q e = some_none (codes "container") e

pub fits_where : (a : AtlasState) (script : Script) → clash_key a script ≡ None → room_key a script ≡ None → Fits a script
fits_where a script clash room =
    let both = else_none (option_map (name_key (codes "container")) (container_clash a script.containers 0)) (option_map (name_key (codes "locus")) (locus_clash a script.loci 0)) clash in
    let space = has_room a script room in
    record {
      kinds = record {
        containers = containers_apart a script.containers 0 (mapped_none (name_key (codes "container")) (container_clash a script.containers 0) both.0);
        loci = loci_apart a script.loci 0 (mapped_none (name_key (codes "locus")) (locus_clash a script.loci 0) both.1);
      };
      containers = space.0;
      loci = space.1;
    }

-- REFUSALS

pub clash_is : (a : AtlasState) (script : Script) (fault : ScriptFault) → IsClash a script fault → IsMisfit a script fault
clash_is a script (Refused r) h = (
  (λ i. or_else (option_map (λ key. (Clash, key)) (h.1 i)) (option_map (λ key. (NoRoom, key)) (room_key a script))) ∙ ap (λ (w : Why). Some (w, string_bytes r.key)) (sym h.0),
  λ fits. some_none (string_bytes r.key) (sym h.1 ∙ fits_clear a script fits),
)
clash_is a script Memory h = h

pub room_is : (a : AtlasState) (script : Script) (fault : ScriptFault) → clash_key a script ≡ None → IsNoRoom a script fault → IsMisfit a script fault
room_is a script (Refused r) none h = (
  (λ i. or_else (option_map (λ key. (Clash, key)) (none i)) (option_map (λ key. (NoRoom, key)) (h.1 i))) ∙ ap (λ (w : Why). Some (w, string_bytes r.key)) (sym h.0),
  λ fits. some_none (string_bytes r.key) (sym h.1 ∙ fits_room a script fits),
)
room_is a script Memory none h = h
