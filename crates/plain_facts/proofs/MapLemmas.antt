-- The checks of a mapping, in their order.
use Rattle.std.proofs.Common.{◌≡◌, ℕ, ◌+◌, ◌-◌, ◌<◌, ◌≤◌, ◌==◌, nat_lt, nat_le, Bool, true, false, not, [], ◌∷◌, filter, find, Option, Some, None, refl, sym, ap, subst, ◌∙◌, arith, eqb-true}
use Rattle.std.proofs.lemmas.Bool.Decides.{nat_tests}
use Rattle.base_types.specs.declared.capabilities.Region.{Region}
use Rattle.base_types.specs.declared.histories.Answer.{Answer}
use Rattle.base_types.specs.declared.histories.Answer.TheVariants.{Reply as Replied}
use Rattle.base_types.specs.declared.instructions.Reply.{Reply}
use Rattle.base_types.specs.declared.instructions.Reply.TheVariants.{Ok, NoPage, Overlap, Circle, ListFull}
use Rattle.model_kernel.specs.Outcomes.{edge_put, finish, map_by, map_refusal, map_region, unmap, unmap_at}
use Rattle.model_kernel.specs.State.{AtlasState, ContainerState, LocusState, ContainerCell}
use Rattle.model_kernel.specs.Words.{first, insert_region, unless}
use Rattle.plain_states.proofs.MarkLemmas.{find_passes}
use Rattle.plain_facts.specs.AtlasActs.{ActedOnBoth, with_regions}

-- the first check that fails, where the region is inside, some region overlaps, a circle closes and there is room
abbrev pub chosen : Bool → Bool → Bool → Bool → Option Reply
chosen inside overlap circle room = first (unless inside NoPage ∷ unless (not overlap) Overlap ∷ unless (not circle) Circle ∷ unless room ListFull ∷ [])

pub no_page : (inside overlap circle room : Bool) → inside ≡ false → Some NoPage ≡ chosen inside overlap circle room
no_page inside overlap circle room p = rw p refl

pub overlapping : (inside overlap circle room : Bool) → inside ≡ true → overlap ≡ true → Some Overlap ≡ chosen inside overlap circle room
overlapping inside overlap circle room p q = rw (p, q) refl

pub circular : (inside overlap circle room : Bool) → inside ≡ true → overlap ≡ false → circle ≡ true → Some Circle ≡ chosen inside overlap circle room
circular inside overlap circle room p q r = rw (p, q, r) refl

pub list_full : (inside overlap circle room : Bool) → inside ≡ true → overlap ≡ false → circle ≡ false → room ≡ false → Some ListFull ≡ chosen inside overlap circle room
list_full inside overlap circle room p q r t = rw (p, q, r, t) refl

pub none_fails : (inside overlap circle room : Bool) → inside ≡ true → overlap ≡ false → circle ≡ false → room ≡ true → None ≡ chosen inside overlap circle room
none_fails inside overlap circle room p q r t = rw (p, q, r, t) refl

pub is_within : (a b : ℕ) → a ≤ b → nat_le a b ≡ true
is_within a b h = grind (arith, nat_tests)

pub is_past : (a b : ℕ) → b < a → nat_le a b ≡ false
is_past a b h = grind (arith, nat_tests)

pub is_below : (a b : ℕ) → a < b → nat_lt a b ≡ true
is_below a b h = grind (arith, nat_tests)

pub not_below : (a b : ℕ) → b ≤ a → nat_lt a b ≡ false
not_below a b h = grind (arith, nat_tests)

-- WHAT MAP AND UNMAP MAKE

module _ (l m : LocusState) (a b : AtlasState) (x : ℕ) (c d : ContainerState) (answer : Answer) where
  pub refused_makes : (r : Region) (why : Reply) → Some why ≡ map_refusal a x c r → m ≡ finish l why → answer ≡ Replied why → ActedOnBoth (map_region l a x c r) m a (ContainerCell c) answer
  unfolding map_region
  refused_makes r why is locus answers = subst (λ o. ActedOnBoth (map_by l a x c r o) m a (ContainerCell c) answer) is (record { locus = locus; answers = answers; atlas = refl; other = refl; newborn = refl })

  pub map_makes : (r : Region) → None ≡ map_refusal a x c r → m ≡ finish l Ok → answer ≡ Replied Ok → b ≡ edge_put a x r.target (a.edges x r.target + 1) → d ≡ with_regions c (insert_region r c.regions)
      → ActedOnBoth (map_region l a x c r) m b (ContainerCell d) answer
  unfolding map_region
  map_makes r is locus answers atlas container = subst (λ o. ActedOnBoth (map_by l a x c r o) m b (ContainerCell d) answer) is (record { locus = locus; answers = answers; atlas = atlas; other = λ i. Some (ContainerCell (sym container i)); newborn = refl })

  pub unmap_makes : (at : ℕ) (r : Region) → Some r ≡ find (λ (r : Region). r.at == at) c.regions → m ≡ finish l Ok → answer ≡ Replied Ok → b ≡ edge_put a x r.target (a.edges x r.target - 1) → d ≡ with_regions c (filter (λ (s : Region). not (s.at == r.at)) c.regions)
      → ActedOnBoth (unmap l a x c at) m b (ContainerCell d) answer
  unfolding unmap
  unmap_makes at r is locus answers atlas container =
      let here : r.at ≡ at = eqb-true r.at at (find_passes (λ (r : Region). r.at == at) c.regions r (sym is)) in
      subst (λ o. ActedOnBoth (unmap_at l a x c at o) m b (ContainerCell d) answer) is
      (record {
        locus = locus;
        answers = answers;
        atlas = atlas;
        other = λ i. Some (ContainerCell ((ap (λ n. with_regions c (filter (λ (s : Region). not (s.at == n)) c.regions)) (sym here) ∙ sym container) i));
        newborn = refl;
      })
