-- What tests of all elements of a list say of those who are named in it.
use Rattle.std.proofs.Common.{◌≡◌, zero, suc, Bool, true, ◌&&◌, List, [], ◌∷◌, Option, Some, None, refl, sym, ap, subst, ◌∙◌}
use Rattle.std.specs.Prelude.{◌↔◌, IsTrue}
use Rattle.std.specs.List.{list_all}
use Rattle.std.proofs.lemmas.Bool.{and_parts}
use Rattle.std.proofs.lemmas.List.Sums.{AllPass-from_list_all, list_all-from_AllPass}
use Rattle.std.proofs.lemmas.List.Elements.{All-weaker}
use Rattle.base_types.specs.declared.capabilities.Cap.{Cap}
use Rattle.base_types.specs.declared.capabilities.Private.{Private}
use Rattle.base_types.specs.declared.capabilities.Region.{Region}
use Rattle.base_types.specs.declared.instructions.Call.{Call}
use Rattle.image_meaning.proofs.model_kernel_lemmas.Basics.{both as both_true}
use Rattle.image_meaning.specs.model_kernel.Soundness.{is_born, is_born_container}
use Rattle.image_meaning.specs.model_kernel.State.{AtlasState, ContainerState, LocusState}
use Rattle.image_meaning.specs.Fits.{IsTiedContainer, IsTiedLocus, NamesBorn}
use Rattle.image_fit_facts.specs.Ties.{IsTiedWalk, slot_born}

-- CAPABILITIES

some_some : (c d : Cap) → Some (Some c) ≡ Some (Some d) → c ≡ d
some_some c d e = cc

none_some : (d : Cap) (n : Option Cap) → n ≡ None → Some n ≡ Some (Some d) → ⊥
none_some d n none e = cc

names_born : (a : AtlasState) (caps : List (Option Cap)) → list_all (slot_born a) caps ≡ true → NamesBorn a caps
names_born a [] e slot cap h = cc
names_born a (c ∷ caps) e (suc slot) cap h = names_born a caps (and_parts (slot_born a c) (list_all (slot_born a) caps) e).1 slot cap h
names_born a (None ∷ caps) e zero cap h = absurd (none_some cap None refl h)
names_born a (Some c ∷ caps) e zero cap h =
    ap (λ (d : Cap). is_born a d.entity) (sym (some_some c cap h)) ∙ (and_parts (is_born a c.entity) (list_all (slot_born a) caps) e).0

all_born : (a : AtlasState) (caps : List (Option Cap)) → NamesBorn a caps → list_all (slot_born a) caps ≡ true
all_born a [] h = refl
all_born a (None ∷ caps) h = all_born a caps (λ slot cap e. h (suc slot) cap e)
all_born a (Some c ∷ caps) h = both_true (is_born a c.entity) (list_all (slot_born a) caps) (h 0 c refl) (all_born a caps (λ slot cap e. h (suc slot) cap e))

pub named_all : (a : AtlasState) (caps : List (Option Cap)) → IsTrue (list_all (slot_born a) caps) ↔ NamesBorn a caps
named_all a caps = (names_born a caps, all_born a caps)

-- PARTS

pub tied_container : (a : AtlasState) (c : ContainerState) (named : Bool) → (IsTrue named ↔ NamesBorn a c.caps)
    → IsTrue (list_all (λ (r : Region). is_born_container a r.target) c.regions && named) ↔ IsTiedContainer a c
tied_container a c named born = (
  λ e. let parts = and_parts (list_all (λ (r : Region). is_born_container a r.target) c.regions) named e in
      record { regions = AllPass-from_list_all (λ (r : Region). is_born_container a r.target) c.regions parts.0; caps = born.0 parts.1 },
  λ t. both_true (list_all (λ (r : Region). is_born_container a r.target) c.regions) named (list_all-from_AllPass (λ (r : Region). is_born_container a r.target) c.regions t.regions) (born.1 t.caps),
)

abbrev pub is_called : AtlasState → Call → Bool
is_called a c = is_born_container a c.container

abbrev pub is_private : AtlasState → Private → Bool
is_private a p = is_born_container a p.made && is_born_container a p.region.target

tied_locus : (a : AtlasState) (l : LocusState) (named walking : Bool) → (IsTrue named ↔ NamesBorn a l.caps) → (IsTrue walking ↔ IsTiedWalk a l)
    → IsTrue (is_born_container a l.host && list_all (is_called a) l.chain && list_all (is_private a) l.privates && named && walking) ↔ IsTiedLocus a l
tied_locus a l named walking born walks = (
  λ e. let last = and_parts (is_born_container a l.host && list_all (is_called a) l.chain && list_all (is_private a) l.privates && named) walking e in
      let third = and_parts (is_born_container a l.host && list_all (is_called a) l.chain && list_all (is_private a) l.privates) named last.0 in
      let second = and_parts (is_born_container a l.host && list_all (is_called a) l.chain) (list_all (is_private a) l.privates) third.0 in
      let front = and_parts (is_born_container a l.host) (list_all (is_called a) l.chain) second.0 in
      let walk = walks.0 last.1 in
      record {
        host = front.0;
        chain = AllPass-from_list_all (is_called a) l.chain front.1;
        privates = All-weaker (λ (p : Private). is_private a p ≡ true) (λ (p : Private). IsTrue (is_born_container a p.made) × IsTrue (is_born_container a p.region.target))
            (λ p f. and_parts (is_born_container a p.made) (is_born_container a p.region.target) f) l.privates (AllPass-from_list_all (is_private a) l.privates second.1);
        caps = born.0 third.1;
        walk = walk.at;
        looking = walk.looking;
      },
  λ t. let privates = list_all-from_AllPass (is_private a) l.privates
      (All-weaker (λ (p : Private). IsTrue (is_born_container a p.made) × IsTrue (is_born_container a p.region.target)) (λ (p : Private). is_private a p ≡ true)
      (λ p f. both_true (is_born_container a p.made) (is_born_container a p.region.target) f.0 f.1) l.privates t.privates) in
      let front = both_true (is_born_container a l.host) (list_all (is_called a) l.chain) t.host (list_all-from_AllPass (is_called a) l.chain t.chain) in
      let second = both_true (is_born_container a l.host && list_all (is_called a) l.chain) (list_all (is_private a) l.privates) front privates in
      let third = both_true (is_born_container a l.host && list_all (is_called a) l.chain && list_all (is_private a) l.privates) named second (born.1 t.caps) in
      both_true (is_born_container a l.host && list_all (is_called a) l.chain && list_all (is_private a) l.privates && named) walking third (walks.1 (record { at = t.walk; looking = t.looking })),
)

pub tied_locus_by : (a : AtlasState) (l : LocusState) (hosted called private named walking : Bool) → hosted ≡ is_born_container a l.host → called ≡ list_all (is_called a) l.chain
    → private ≡ list_all (is_private a) l.privates → (IsTrue named ↔ NamesBorn a l.caps) → (IsTrue walking ↔ IsTiedWalk a l)
    → IsTrue (hosted && called && private && named && walking) ↔ IsTiedLocus a l
tied_locus_by a l hosted called private named walking h d p born walks =
    subst (λ (b : Bool). IsTrue (b && called && private && named && walking) ↔ IsTiedLocus a l) (sym h)
    (subst (λ (b : Bool). IsTrue (is_born_container a l.host && b && private && named && walking) ↔ IsTiedLocus a l) (sym d)
    (subst (λ (b : Bool). IsTrue (is_born_container a l.host && list_all (is_called a) l.chain && b && named && walking) ↔ IsTiedLocus a l) (sym p)
    (tied_locus a l named walking born walks)))
