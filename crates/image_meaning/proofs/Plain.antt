-- Whether the chosen entities fit doesn't depend on the words of a container's part, which its blob doesn't spell.
use Rattle.std.proofs.Common.{◌≡◌, ℕ, List, Option, Some, None, option_map, refl, sym, ap, subst, ◌∙◌}
use Rattle.std.specs.Prelude.{Contains}
use Rattle.std.specs.Option.{ForSome}
use Rattle.image_blocks.specs.edge_disk.Image.{Image}
use Rattle.image_blocks.specs.base_types.declared.records.Rec.{Rec}
use Rattle.blob_grammar.specs.model_kernel.State.{AtlasState}
use Rattle.image_meaning.specs.Fits.{AreNamedOnce, IsFit, IsTied, shown_by}
use Rattle.image_meaning.specs.Parts.{AreSpelt, AtlasPart, ContainerPart, LocusPart, Part, chosen, table_in}
use Rattle.image_meaning.proofs.Fitting.{none_some}
use Rattle.image_meaning.proofs.Ones.{SpeltAs, plain, spelt_one}
use Rattle.std.proofs.lemmas.Option.{same_Some}

abbrev pub plains : (ℕ → Option Part) → ℕ → Option Part
plains parts x = option_map plain (parts x)

unplain : (o : Option Part) (q : Part) → option_map plain o ≡ Some q → (p : Part) × (o ≡ Some p) × (plain p ≡ q)
unplain None q e = none_some q e
unplain (Some p) q e = (p, refl, same_Some (plain p) q e)

atlas_of : (p : Part) (a : AtlasState) → plain p ≡ AtlasPart a → p ≡ AtlasPart a
atlas_of (AtlasPart b) a e = e
atlas_of (ContainerPart c table) a e = cc
atlas_of (LocusPart l) a e = cc

same_table : (p : Part) → table_in p ≡ table_in (plain p)
same_table (AtlasPart a) = refl
same_table (ContainerPart c table) = refl
same_table (LocusPart l) = refl

same_shown : (o : Option Part) (y : ℕ) → shown_by o y ≡ shown_by (option_map plain o) y
same_shown None y = refl
same_shown (Some (AtlasPart a)) y = refl
same_shown (Some (ContainerPart c table)) y = refl
same_shown (Some (LocusPart l)) y = refl

module _ (parts : ℕ → Option Part) where
  tied_plain : (a : AtlasState) (p : Part) → IsTied parts a p → IsTied (plains parts) a (plain p)
  tied_plain a (AtlasPart b) t = record {
    all_chosen = λ x born. (plain (t.all_chosen x born).0, ap (option_map plain) (t.all_chosen x born).1);
    edges = λ x y. t.edges x y ∙ same_shown (parts x) y;
    no_circle = t.no_circle;
  }
  tied_plain a (ContainerPart c table) t = record { regions = t.regions; caps = t.caps }
  tied_plain a (LocusPart l) t = t

  plain_tied : (a : AtlasState) (p : Part) → IsTied (plains parts) a (plain p) → IsTied parts a p
  plain_tied a (AtlasPart b) t = record {
    all_chosen = λ x born. (let found = unplain (parts x) (t.all_chosen x born).0 (t.all_chosen x born).1 in (found.0, found.1));
    edges = λ x y. t.edges x y ∙ sym (same_shown (parts x) y);
    no_circle = t.no_circle;
  }
  plain_tied a (ContainerPart c table) t = record { regions = t.regions; caps = t.caps }
  plain_tied a (LocusPart l) t = t

  abbrev Misses : ℕ → Part → Type 0
  Misses block part = Contains (table_in part) block → ⊥

  missed_plain : (block y : ℕ) → ForSome (parts y) (Misses block) → ForSome (plains parts y) (Misses block)
  missed_plain block y missed q is =
      let found = unplain (parts y) q is in
      subst (Misses block) found.2 (subst (λ (table : List ℕ). Contains table block → ⊥) (same_table found.0) (missed found.0 found.1))

  plain_missed : (block y : ℕ) → ForSome (plains parts y) (Misses block) → ForSome (parts y) (Misses block)
  plain_missed block y missed p is =
      subst (λ (table : List ℕ). Contains table block → ⊥) (sym (same_table p)) (missed (plain p) (ap (option_map plain) is))

  module _ (count : ℕ) (recs : List Rec) (x : ℕ) where
    named_plain : (table : List ℕ) → AreNamedOnce count recs parts x table → AreNamedOnce count recs (plains parts) x table
    named_plain table named page block at some =
        let n = named page block at some in
        record {
          pool = n.pool;
          once = n.once;
          blob = n.blob;
          others = λ y apart. record { by_blob = (n.others y apart).by_blob; by_table = missed_plain block y (n.others y apart).by_table };
        }

    plain_named : (table : List ℕ) → AreNamedOnce count recs (plains parts) x table → AreNamedOnce count recs parts x table
    plain_named table named page block at some =
        let n = named page block at some in
        record {
          pool = n.pool;
          once = n.once;
          blob = n.blob;
          others = λ y apart. record { by_blob = (n.others y apart).by_blob; by_table = plain_missed block y (n.others y apart).by_table };
        }

    fit_plain : (p : Part) → IsFit count recs parts x p → IsFit count recs (plains parts) x (plain p)
    fit_plain p f = record {
      atlas = f.atlas;
      chosen_atlas = ap (option_map plain) f.chosen_atlas;
      named = f.named;
      tied = tied_plain f.atlas p f.tied;
      blocks = subst (AreNamedOnce count recs (plains parts) x) (same_table p) (named_plain (table_in p) f.blocks);
    }

    plain_fit : (p : Part) → IsFit count recs (plains parts) x (plain p) → IsFit count recs parts x p
    plain_fit p f =
        let found = unplain (parts 0) (AtlasPart f.atlas) f.chosen_atlas in
        record {
          atlas = f.atlas;
          chosen_atlas = found.1 ∙ ap Some (atlas_of found.0 f.atlas found.2);
          named = f.named;
          tied = plain_tied f.atlas p f.tied;
          blocks = plain_named (table_in p) (subst (AreNamedOnce count recs (plains parts) x) (sym (same_table p)) f.blocks);
        }

-- two choices of parts that the same blobs spell
same_plain : (image : Image) (x : ℕ) (o : Option Rec) (p q : Option Part) → SpeltAs image x o p → SpeltAs image x o q → option_map plain p ≡ option_map plain q
same_plain image x None p q one other = ap (option_map plain) (one ∙ sym other)
same_plain image x (Some r) p q (one, is, spelt) (other, at, told) =
    ap (option_map plain) is ∙ (ap Some (spelt_one image x r one other spelt told) ∙ sym (ap (option_map plain) at))

pub same_plains : (image : Image) (recs : List Rec) (parts others : ℕ → Option Part) → AreSpelt image recs parts → AreSpelt image recs others → plains parts ≡ plains others
same_plains image recs parts others one other = λ i x. same_plain image x (chosen recs x) (parts x) (others x) (one x) (other x) i

pub fit_same : (image : Image) (count : ℕ) (recs : List Rec) (parts others : ℕ → Option Part) → AreSpelt image recs parts → AreSpelt image recs others
    → (x : ℕ) (p q : Part) → parts x ≡ Some p → others x ≡ Some q → IsFit count recs parts x p → IsFit count recs others x q
fit_same image count recs parts others one other x p q is at f =
    let all : plains parts ≡ plains others = same_plains image recs parts others one other in
    let here : plain p ≡ plain q = same_Some (plain p) (plain q) (sym (ap (option_map plain) is) ∙ (ap (λ (g : ℕ → Option Part). g x) all ∙ ap (option_map plain) at)) in
    plain_fit others count recs x q
    (subst (λ (g : ℕ → Option Part). IsFit count recs g x (plain q)) all
    (subst (λ (part : Part). IsFit count recs (plains parts) x part) here (fit_plain parts count recs x p f)))
