-- A reader of an atlas: the directory from each part on to the next.
use Rattle.std.proofs.Common.{◌≡◌, ℕ, List, [], replicate, sym, ap, subst, ◌∙◌}
use Rattle.act_atlas_laws.specs.base_types.declared.entities.Kind.TheVariants.{Container, Locus}
use Rattle.act_atlas_laws.specs.data_atlas_facts.Directory.{Directory, edges_of}
use Rattle.blob_grammar.specs.Forms.{SpellsAtlas}
use Rattle.blob_grammar.specs.model_kernel.State.{AtlasState}
use Rattle.blob_facts.specs.Fields.{IsFound}
use Rattle.blob_facts.specs.Atlases.{IsAtlasSpelled}
use Rattle.blob_facts.specs.Names.{AreNamesSpelled, names_in, with_names}
use Rattle.blob_facts.proofs.AtlasFields.{atlas_with}
use Rattle.blob_facts.proofs.AtlasWalk.{so_far, with_loci}
use Rattle.act_atlas_laws.proofs.data_atlas_facts_lemmas.Naming.{no_edges as none_between}

abbrev pub no_rows : List (List ℕ)
no_rows = replicate 41 (replicate 41 0)

-- the directory in which nothing is born, with names of containers, and with names of loci
module _ (none named : Directory) (is_none : none ≡ so_far no_rows []) (is_named : named ≡ with_names Container none (names_in Container named)) where
  pub named_is : named ≡ so_far no_rows named.containers
  named_is = is_named ∙ ap (λ (d : Directory). with_names Container d named.containers) is_none

  pub containers_found : (n : ℕ) (bytes rest : List ℕ) → IsFound (AreNamesSpelled Container n none) bytes (names_in Container named) rest → IsFound (AreNamesSpelled Container n (so_far no_rows [])) bytes named.containers rest
  containers_found n bytes rest f = subst (λ (d : Directory). IsFound (AreNamesSpelled Container n d) bytes named.containers rest) is_none f

  module _ (all : Directory) (is_all : all ≡ with_names Locus named (names_in Locus all)) where
    pub all_is : all ≡ with_loci no_rows named.containers all.loci
    all_is = is_all ∙ ap (λ (d : Directory). with_names Locus d all.loci) named_is

    pub no_edges : (x y : ℕ) → edges_of all x y ≡ 0
    no_edges x y = ap (λ (d : Directory). edges_of d x y) all_is ∙ none_between 41 41 x y

    pub loci_found : (n : ℕ) (bytes rest : List ℕ) → IsFound (AreNamesSpelled Locus n named) bytes (names_in Locus all) rest → IsFound (AreNamesSpelled Locus n (with_loci no_rows named.containers [])) bytes all.loci rest
    loci_found n bytes rest f = subst (λ (d : Directory). IsFound (AreNamesSpelled Locus n d) bytes all.loci rest) named_is f

    -- and with edges
    pub whole : (linked : Directory) (bytes rest : List ℕ) → linked.containers ≡ all.containers → linked.loci ≡ all.loci
        → IsFound SpellsAtlas bytes (atlas_with no_rows named.containers all.loci (edges_of linked)) rest → IsFound IsAtlasSpelled bytes linked rest
    whole linked bytes rest cs ls f =
        let containers : linked.containers ≡ named.containers = cs ∙ ap (λ (d : Directory). d.containers) all_is in
        record {
          front = f.front;
          spelled = subst (λ (a : AtlasState). SpellsAtlas a f.front) (λ i. atlas_with no_rows (sym containers i) (sym ls i) (edges_of linked)) f.spelled;
          is = f.is;
        }
