-- From told records to the state that an image means.
use Rattle.std.proofs.Common.{◌≡◌, ℕ, Bool, true, false, ◌&&◌, ◌==◌, if◌then◌else◌, inl, inr, List, [], ◌∷◌, Option, Some, None, refl, sym, ap, subst, ◌∙◌, arith, eqb-true, eq-eqb}
use Rattle.std.specs.Prelude.{MatchOption}
use Rattle.std.specs.List.{AllByRecursion}
use Rattle.std.proofs.lemmas.Bool.{false≢true}
use Rattle.std.proofs.lemmas.List.{get_or_past}
use Rattle.edge_disk.specs.Image.{Image}
use Rattle.store_books.specs.model_kernel.Choices.{Among, Commit, IsBelow, IsGreatest, IsNarrow}
use Rattle.store_books.specs.model_kernel.State.{EntityState, KernelState, Supply, empty_state}
use Rattle.store_books.proofs.model_kernel_lemmas.Basics.{and_left, and_right, both}
use Rattle.store_books.proofs.model_kernel_lemmas.Lowering.{greatest_is, greatest_one}
use Rattle.store_books.specs.model_cut_laws.Agreeing.{nothing}
use Rattle.store_books.specs.model_cut_laws.Records.{commits_of}
use Rattle.store_books.specs.image_meaning.Describing.{Describes, DescribesEntity}
use Rattle.store_books.specs.image_meaning.Meaning.{Means}
use Rattle.store_books.specs.image_meaning.Parts.{Part, cut_of}
use Rattle.store_books.specs.image_meaning.Stores.{Kept, Stores, kept_by, recs_of}
use Rattle.store_books.proofs.image_meaning_lemmas.Meaning.{meaning_law}
use Rattle.store_told.specs.Told.{ArePagesApart, IsChosenState, IsToldRecord}
use Rattle.store_told.proofs.Naming.{named_once, parts_by}

-- stamps have 64 components
pub narrow_told : (s : Supply) (thing : ℕ → ℕ → EntityState) (ks : List Kept) → AllByRecursion (IsToldRecord s thing) ks → IsNarrow (commits_of (recs_of ks))
narrow_told s thing [] each = tt
narrow_told s thing (k ∷ ks) (one, each) = ((λ y far. get_or_past k.rec.stamp y 0 (let e = one.components in omega (arith, e, far))), narrow_told s thing ks each)

-- a record tells the same of whatever is at its version what it tells
abbrev pub told_same : (s : Supply) (thing other : ℕ → ℕ → EntityState) (k : Kept) → other k.rec.entity k.rec.version ≡ thing k.rec.entity k.rec.version → IsToldRecord s thing k → IsToldRecord s other k
told_same s thing other k same told = record {
  components = told.components;
  part = told.part;
  describes = record {
    spells = told.describes.spells;
    cell = ap (λ (e : EntityState). e.cell) same ∙ told.describes.cell;
    version = ap (λ (e : EntityState). e.version) same ∙ told.describes.version;
    stamp = ap (λ (e : EntityState). e.stamp) same ∙ told.describes.stamp;
  };
  once = told.once;
}

module _ (s : Supply) (thing : ℕ → ℕ → EntityState) (v : KernelState) where
  abbrev Takes : (ℕ → ℕ) → ℕ → Commit → Type 0
  Takes cut x c = (c.entity ≡ x) × (c.version ≡ cut x) × IsBelow c.stamp cut

  -- a record of x at n, where v has x as it is at n
  describes_at : (k : Kept) (x n : ℕ) → k.rec.entity ≡ x → k.rec.version ≡ n → v x ≡ thing x n → (one : IsToldRecord s thing k) → DescribesEntity s v x k one.part
  describes_at k x n is at same one =
      let here : v k.rec.entity ≡ thing k.rec.entity k.rec.version =
      subst (λ y. v y ≡ thing y k.rec.version) (sym is) (subst (λ m. v x ≡ thing x m) (sym at) same) in
      let there : DescribesEntity s v k.rec.entity k one.part = record {
        spells = one.describes.spells;
        cell = ap (λ (e : EntityState). e.cell) here ∙ one.describes.cell;
        version = ap (λ (e : EntityState). e.version) here ∙ one.describes.version;
        stamp = ap (λ (e : EntityState). e.stamp) here ∙ one.describes.stamp;
      } in
      subst (λ y. DescribesEntity s v y k one.part) is there

  -- what is said of x by the record that a choice takes, if it takes one
  abbrev SaidOf : (ℕ → ℕ) → List Kept → ℕ → Option Part → Option Kept → Type 0
  SaidOf cut ks x part o = MatchOption o ((part ≡ None) × (Among (commits_of (recs_of ks)) (Takes cut x) → ⊥)) (λ k. (p : Part) × (part ≡ Some p) × DescribesEntity s v x k p)

  said_more : (cut : ℕ → ℕ) (k : Kept) (ks : List Kept) (x : ℕ) (part : Option Part) (o : Option Kept) → (k.rec.entity ≡ x → k.rec.version ≡ cut x → ⊥) → SaidOf cut ks x part o → SaidOf cut (k ∷ ks) x part o
  said_more cut k ks x part None differs (none, nowhere) = (none, λ h. elim h [ inl p ↦ differs p.0 p.1 | inr q ↦ nowhere q ])
  said_more cut k ks x part (Some m) differs said = said

  pub said : (cut : ℕ → ℕ) (ks : List Kept) (each : AllByRecursion (IsToldRecord s thing) ks) (x : ℕ) → v x ≡ thing x (cut x) → SaidOf cut ks x (parts_by s thing cut ks each x) (kept_by cut ks x)
  said cut [] each x same = (refl, λ h. h)
  said cut (k ∷ ks) (one, each) x same = by_test (said cut ks each x same) (k.rec.entity == x && k.rec.version == cut x) refl
    where
      by_test : SaidOf cut ks x (parts_by s thing cut ks each x) (kept_by cut ks x) → (t : Bool) → (k.rec.entity == x && k.rec.version == cut x) ≡ t
          → SaidOf cut (k ∷ ks) x (if t then Some one.part else parts_by s thing cut ks each x) (if t then Some k else kept_by cut ks x)
      by_test rest true e = (
        one.part,
        refl,
        describes_at k x (cut x) (eqb-true k.rec.entity x (and_left (k.rec.entity == x) (k.rec.version == cut x) e)) (eqb-true k.rec.version (cut x) (and_right (k.rec.entity == x) (k.rec.version == cut x) e)) same one,
      )
      by_test rest false e = said_more cut k ks x (parts_by s thing cut ks each x) (kept_by cut ks x)
          (λ is at. false≢true (sym e ∙ both (k.rec.entity == x) (k.rec.version == cut x) (eq-eqb k.rec.entity x is) (eq-eqb k.rec.version (cut x) at))) rest

-- THE LAW
module _ (s : Supply) (thing : ℕ → ℕ → EntityState) (count : ℕ) (ks : List Kept) (q : ℕ → ℕ) (v : KernelState) (c : Image) (st : Stores count ks c)
    (each : AllByRecursion (IsToldRecord s thing) ks) (apart : ArePagesApart count ks) (g : IsGreatest nothing (commits_of (recs_of ks)) q) (is : IsChosenState thing q v) where
  found : cut_of (recs_of ks) ≡ q
  found = greatest_one nothing (commits_of (recs_of ks)) (cut_of (recs_of ks)) q (greatest_is nothing (commits_of (recs_of ks)) (narrow_told s thing ks each)) g

  parts : ℕ → Option Part
  parts = parts_by s thing q ks each

  -- where no record of x is taken, x is as in the state of nothing
  describe_one : (x : ℕ) (part : Option Part) (o : Option Kept) → SaidOf s thing v q ks x part o → MatchOption o ((part ≡ None) × (v x ≡ empty_state x)) (λ m. (p : Part) × (part ≡ Some p) × DescribesEntity s v x m p)
  describe_one x part (Some m) told = told
  describe_one x part None (none, nowhere) = (
    none,
    elim (g.closed x) as (λ _. v x ≡ empty_state x) [
      | inl zero_is ↦ is.unwritten x zero_is
      | inr taken ↦ absurd (nowhere taken)
    ],
  )

  describes : Describes s ks parts v
  unfolding parts
  describes = record {
    each = λ x. subst (λ (p : ℕ → ℕ). MatchOption (kept_by p ks x) ((parts x ≡ None) × (v x ≡ empty_state x)) (λ m. (part : Part) × (parts x ≡ Some part) × DescribesEntity s v x m part)) (sym found)
        (describe_one x (parts x) (kept_by q ks x) (said s thing v q ks each x (is.same x)));
  }

  pub told_meant : Means s c v
  unfolding parts
  told_meant = meaning_law s count ks parts v c st describes is.sound (named_once s thing count q ks each apart)
