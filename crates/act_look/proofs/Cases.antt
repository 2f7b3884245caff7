-- The cases of a look, and what each leaves.
use Rattle.std.proofs.Common.{◌≡◌, ℕ, ◌+◌, ◌/◌, ◌<◌, nat_lt, true, false, if◌then◌else◌, List, [], ◌∷◌, Option, Some, None, find, unwrap_or, refl, sym, ap, ◌∙◌, subst, arith}
use Rattle.std.proofs.lemmas.Bool.{lt-ltb}
use Rattle.std.proofs.lemmas.Bool.Decides.{nat_tests}
use Rattle.base_types.specs.declared.capabilities.Region.{Region}
use Rattle.base_types.specs.declared.histories.Answer.{Answer}
use Rattle.base_types.specs.declared.instructions.Reply.{Reply}
use Rattle.base_types.specs.declared.instructions.Reply.TheVariants.{Deep}
use Rattle.base_types.specs.declared.instructions.Walk.{Walk}
use Rattle.act_invoke.specs.model_kernel.State.{ContainerState, LocusState, ContainerCell}
use Rattle.act_invoke.specs.model_kernel.Outcomes.{Outcome, hop_to, look_hops, looked, looked_by, own_reply, through}
use Rattle.act_invoke.specs.model_kernel.Words.{covers, denied}
use Rattle.act_invoke.specs.data_regions.Regions.{AreRegions}
use Rattle.act_invoke.specs.model_acts.Views.{IsReadyLocus, ShowsPage}
use Rattle.act_invoke.proofs.model_acts_lemmas.Shown.{shows}
use Rattle.act_invoke.proofs.model_act_facts_lemmas.Kept.{ready_finish}
use Rattle.act_look.specs.Looks.{Looked, Shows}

-- the region that covers the page shows it
pub region_shows : (rs : List Region) (page : ℕ) (r : Region) → AreRegions rs → find (λ s. covers s page) rs ≡ Some r → ShowsPage r page
region_shows [] page r are is = cc
region_shows (s ∷ rest) page r are is =
    elim (covers s page) as (λ b. covers s page ≡ b → (if b then Some s else find (λ t. covers t page) rest) ≡ Some r → ShowsPage r page) [
      | true ↦ λ yes e. let same : s ≡ r = cc in subst (λ t. ShowsPage t page) same (shows s page yes (are.0.1, are.0.2))
      | false ↦ λ no e. region_shows rest page r are.2 e
    ] refl is

module _ (l : LocusState) (c : ContainerState) (address needed : ℕ) (done : Outcome) where
  looked_within : (o : Option Region) → address / 128 < c.pages → find (λ r. covers r (address / 128)) c.regions ≡ o → looked l c address needed done ≡ looked_by l address needed done o
  looked_within o low is = rw (lt-ltb (address / 128) c.pages low, is) refl

  pub looked_through : (r : Region) → address / 128 < c.pages → find (λ r. covers r (address / 128)) c.regions ≡ Some r → looked l c address needed done ≡ through l r address (denied r.rights.0 needed)
  looked_through r low is = looked_within (Some r) low is

-- a region leaves a locus that keeps its ranges
pub ready_through : (l : LocusState) (r : Region) (address : ℕ) (why : Option Reply) → IsReadyLocus l → l.place < 128 → IsReadyLocus (through l r address why).locus
ready_through l r address (Some why) ready low = ready_finish l why ready low
ready_through l r address None ready low =
    elim (nat_lt (look_hops l) 63) as (λ b. nat_lt (look_hops l) 63 ≡ b → IsReadyLocus (if b then hop_to l r address else own_reply l Deep).locus) [
      | true ↦ λ few. record { place = ready.place; code = ready.code; privates = ready.privates; hops = λ w is. (let hops : look_hops l + 1 ≡ w.hops = hops_of w is in grind (arith, nat_tests)) }
      | false ↦ λ _. ready_finish l Deep ready low
    ] refl
  where
    begun : Walk
    begun = record { at = r.target; address = address; hops = look_hops l + 1 }

    some_same : {X : Type 0} (x y : X) → Some x ≡ Some y → x ≡ y
    some_same x y e = cc

    hops_of : (w : Walk) → (hop_to l r address).locus.walk ≡ Some w → look_hops l + 1 ≡ w.hops
    hops_of w is = ap (λ (v : Walk). v.hops) (some_same _ w is)

-- a region only reads the container
pub through_shows : (l : LocusState) (r : Region) (address : ℕ) (why : Option Reply) → Shows (through l r address why) (through l r address why).locus (through l r address why).answer
through_shows l r address (Some why) = record { locus = refl; answers = refl; other = refl; newborn = refl }
through_shows l r address None =
    elim (nat_lt (look_hops l) 63) as (λ b. Shows (if b then hop_to l r address else own_reply l Deep) (if b then hop_to l r address else own_reply l Deep).locus (if b then hop_to l r address else own_reply l Deep).answer) [
      | true ↦ record { locus = refl; answers = refl; other = refl; newborn = refl }
      | false ↦ record { locus = refl; answers = refl; other = refl; newborn = refl }
    ]

-- what a function that made this outcome shows
pub shows_as : (o p : Outcome) (m : LocusState) (answer : Answer) → o ≡ p → m ≡ p.locus → answer ≡ p.answer → Shows p p.locus p.answer → Shows o m answer
shows_as o p m answer same locus is s = record {
  locus = locus ∙ ap (λ (q : Outcome). q.locus) (sym same);
  answers = is ∙ ap (λ (q : Outcome). q.answer) (sym same);
  other = ap (λ (q : Outcome). q.other) same ∙ s.other;
  newborn = ap (λ (q : Outcome). q.newborn) same ∙ s.newborn;
}

-- a look that only reads the container leaves it as it was
pub shows_looked : (o p : Outcome) (m : LocusState) (answer : Answer) (c : ContainerState) → o ≡ p → Shows p m answer → Looked o m answer c c
shows_looked o p m answer c same s = record {
  locus = s.locus ∙ ap (λ (q : Outcome). q.locus) (sym same);
  answers = s.answers ∙ ap (λ (q : Outcome). q.answer) (sym same);
  container = ap (λ (q : Outcome). unwrap_or q.other (ContainerCell c)) same ∙ ap (λ x. unwrap_or x (ContainerCell c)) s.other;
  newborn = ap (λ (q : Outcome). q.newborn) same ∙ s.newborn;
}
