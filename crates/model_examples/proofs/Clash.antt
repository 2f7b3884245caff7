-- The birth that leaves a container showing a locus.
use Rattle.std.proofs.Common.{◌≡◌, IsTrue, List, [], ◌∷◌, codes, Some, lit<, lit≤, refl, sym, ap, subst, ◌∙◌}
use Rattle.std.specs.List.{All}
use Rattle.std.proofs.lemmas.Bool.{false≢true}
use Rattle.std.proofs.lemmas.List.Elements.{All-cons, All-head, All-nil}
use Rattle.base_types.specs.declared.capabilities.Region.{Region}
use Rattle.base_types.specs.Instructions.{IsInstruction}
use Rattle.model_run_laws.specs.model_kernel.Births.{next_birth, next_birth_change}
use Rattle.model_run_laws.specs.model_kernel.Changes.{changed}
use Rattle.model_run_laws.specs.model_kernel.Scripts.{atlas_name}
use Rattle.model_run_laws.specs.model_kernel.Soundness.{IsSound, IsSoundCode, IsSoundRegion, is_born_container, is_given_name}
use Rattle.model_run_laws.specs.model_kernel.State.{AtlasState, Cell, NotBorn, AtlasCell, ContainerCell, LocusCell, Text, empty_state}
use Rattle.model_run_laws.specs.model_kernel.Steps.{atlas_in}
use Rattle.model_run_laws.specs.model_kernel.Refusals.{rights_with}
use Rattle.model_sound_states.specs.script_types.Rules.{AreApart, IsCapTable, IsContainerTable, IsRegionTable, IsScript}
use Rattle.model_sound_states.proofs.model_sound_runs_lemmas.Births.{birth_leaves}
use Rattle.model_sound_states.proofs.Empty.{empty_is_sound, empty_names}
use Rattle.model_examples.specs.Clash.{bears_a, bears_b, bears_h, clashing, earlier_script, plain_container, showing_locus, three_names, with_clash, with_container, with_locus}
use Rattle.model_examples.specs.Snapshots.{no_words}
use Rattle.std.proofs.lemmas.Option.{none-some}

-- THE SCRIPTS ARE ALLOWED

no_code : IsSoundCode []
no_code = record { few = lit≤ tt; each = All-nil IsInstruction }

plain_is : (earlier : List Text) (name : Text) → IsTrue (is_given_name name) → IsContainerTable earlier (plain_container name [])
plain_is earlier name given = record {
  name = given;
  pages = (lit≤ tt, lit≤ tt);
  tag = lit< tt;
  every = lit≤ tt;
  code = no_code;
  entry = λ x e. absurd (none-some x e);
  few_regions = lit≤ tt;
  regions = All-nil (IsRegionTable earlier 1);
  apart = tt;
  few_caps = lit≤ tt;
  caps = All-nil (IsCapTable (atlas_name ∷ name ∷ earlier));
}

pub earlier_allowed : IsScript earlier_script
earlier_allowed = record {
  steps = (lit≤ tt, lit≤ tt);
  few_containers = lit≤ tt;
  few_loci = lit≤ tt;
  containers = (plain_is [] (codes "h") refl, tt);
  loci = (
    record {
      name = refl;
      host = refl;
      at = lit< tt;
      every = lit≤ tt;
      few_caps = lit≤ tt;
      caps = All-nil (IsCapTable (atlas_name ∷ codes "a" ∷ codes "h" ∷ []));
    },
    tt,
  );
  different = (refl, (refl, tt));
  few_picks = lit≤ tt;
  order = refl;
}

pub allowed_clash : IsScript clashing
allowed_clash = record {
  steps = (lit≤ tt, lit≤ tt);
  few_containers = lit≤ tt;
  few_loci = lit≤ tt;
  containers = (
    plain_is [] (codes "a") refl,
    (
      record {
        name = refl;
        pages = (lit≤ tt, lit≤ tt);
        tag = lit< tt;
        every = lit≤ tt;
        code = no_code;
        entry = λ x e. absurd (none-some x e);
        few_regions = lit≤ tt;
        regions = All-cons (IsRegionTable (codes "a" ∷ []) 1) (record { at = 0; target = codes "a"; from = 0; count = 1; rights = 1 }) []
            (record { some = lit≤ tt; at = lit≤ tt; from = lit≤ tt; access = (lit≤ tt, lit< tt); target = refl }) (All-nil (IsRegionTable (codes "a" ∷ []) 1));
        apart = (All-nil (AreApart (record { at = 0; target = codes "a"; from = 0; count = 1; rights = 1 })), tt);
        few_caps = lit≤ tt;
        caps = All-nil (IsCapTable (atlas_name ∷ codes "b" ∷ codes "a" ∷ []));
      },
      tt,
    ),
  );
  loci = tt;
  different = (refl, (refl, tt));
  few_picks = lit≤ tt;
  order = refl;
}

-- THE BIRTHS

h_is : next_birth no_words earlier_script empty_state ≡ Some (bears_h, with_container)
unfolding next_birth_change
h_is = refl

a_is : next_birth no_words earlier_script with_container ≡ Some (bears_a, with_locus)
unfolding next_birth_change changed
a_is = refl

pub b_is : next_birth no_words clashing with_locus ≡ Some (bears_b, with_clash)
unfolding next_birth_change changed
b_is = refl

pub sound_before : IsSound (λ x. (with_locus x).cell)
sound_before =
    let one = birth_leaves no_words earlier_script empty_state (bears_h, with_container) earlier_allowed (empty_names earlier_script.containers) (empty_is_sound no_words).sound h_is in
    (birth_leaves no_words earlier_script with_container (bears_a, with_locus) earlier_allowed one.kinds one.sound a_is).sound

-- NOT SOUND

abbrev regions_in : Cell → List Region
regions_in (ContainerCell c) = c.regions
regions_in NotBorn = []
regions_in (AtlasCell a) = []
regions_in (LocusCell l) = []

clash_atlas : atlas_in (with_clash 0).cell ≡ three_names
unfolding changed
clash_atlas = refl

clash_regions : regions_in (with_clash 2).cell ≡ showing_locus.regions
unfolding changed
clash_regions = refl

pub not_sound : IsSound (λ x. (with_clash x).cell) → ⊥
not_sound sound =
    let a : AtlasState = sound.0 in
    let h = sound.1 in
    let is : a ≡ three_names = sym (ap atlas_in h.atlas) ∙ clash_atlas in
    let born : IsTrue (is_born_container a 2) = ap (λ (b : AtlasState). is_born_container b 2) is in
    let c = h.containers 2 born in
    let same : showing_locus.regions ≡ c.0.regions = sym clash_regions ∙ ap regions_in c.1 in
    let all : All (IsSoundRegion a) showing_locus.regions = subst (λ (rs : List Region). All (IsSoundRegion a) rs) (sym same) c.2.regions in
    let shown : IsSoundRegion a (record { at = 0; count = 1; target = 41; from = 0; rights = rights_with 1 }) = All-head (IsSoundRegion a) (record { at = 0; count = 1; target = 41; from = 0; rights = rights_with 1 }) [] all in
    false≢true (sym (ap (λ (b : AtlasState). is_born_container b 41) is) ∙ shown.target)
