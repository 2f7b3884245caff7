-- What stays sound when more are born.
use Rattle.std.proofs.Common.{ℕ, ◌≤◌, ◌||◌, ◌==◌, IsTrue, List, length, Option, arith}
use Rattle.std.proofs.lemmas.Bool.Decides.{nat_tests}
use Rattle.std.proofs.lemmas.List.Elements.{All-weaker}
use Rattle.model_kernel.specs.base_types.declared.capabilities.Cap.{Cap}
use Rattle.model_kernel.specs.base_types.declared.capabilities.Private.{Private}
use Rattle.model_kernel.specs.base_types.declared.capabilities.Region.{Region}
use Rattle.model_kernel.specs.base_types.declared.instructions.Call.{Call}
use Rattle.model_kernel.specs.base_types.declared.instructions.Walk.{Walk}
use Rattle.model_kernel.specs.State.{AtlasState, ContainerState, LocusState}
use Rattle.model_kernel.specs.Soundness.{AreSoundCaps, IsSoundCall, IsSoundContainer, IsSoundLocus, IsSoundPrivate, IsSoundRegion, is_born, is_born_container, is_born_locus}
use Rattle.model_kernel.proofs.Basics.{or_left, or_right}

pub record Wider (a b : AtlasState) : Type 0 where
  pub containers : length a.containers ≤ length b.containers
  pub loci : length a.loci ≤ length b.loci

pub wider_container : (a b : AtlasState) (x : ℕ) → Wider a b → IsTrue (is_born_container a x) → IsTrue (is_born_container b x)
wider_container a b x w h =
    let le : length a.containers ≤ length b.containers = w.containers in
    grind (arith, nat_tests)

pub wider_locus : (a b : AtlasState) (x : ℕ) → Wider a b → IsTrue (is_born_locus a x) → IsTrue (is_born_locus b x)
wider_locus a b x w h =
    let le : length a.loci ≤ length b.loci = w.loci in
    grind (arith, nat_tests)

pub wider_born : (a b : AtlasState) (x : ℕ) → Wider a b → IsTrue (is_born a x) → IsTrue (is_born b x)
wider_born a b x w h =
    let le : length a.containers ≤ length b.containers = w.containers in
    let le' : length a.loci ≤ length b.loci = w.loci in
    grind (arith, nat_tests)

pub wider_caps : (a b : AtlasState) (caps : List (Option Cap)) → Wider a b → AreSoundCaps a caps → AreSoundCaps b caps
wider_caps a b caps w h = record { slots = h.slots; each = λ slot cap is. wider_born a b cap.entity w (h.each slot cap is) }

pub wider_region : (a b : AtlasState) (r : Region) → Wider a b → IsSoundRegion a r → IsSoundRegion b r
wider_region a b r w h = record { some = h.some; at = h.at; from = h.from; access = h.access; target = wider_container a b r.target w h.target }

pub wider_container_state : (a b : AtlasState) (c : ContainerState) → Wider a b → IsSoundContainer a c → IsSoundContainer b c
wider_container_state a b c w h = record {
  some = h.some;
  size = h.size;
  entry = h.entry;
  code = h.code;
  few = h.few;
  regions = All-weaker (IsSoundRegion a) (IsSoundRegion b) (λ r s. wider_region a b r w s) c.regions h.regions;
  inside = h.inside;
  apart = h.apart;
  caps = wider_caps a b c.caps w h.caps;
}

pub wider_locus_state : (a b : AtlasState) (l : LocusState) → Wider a b → IsSoundLocus a l → IsSoundLocus b l
wider_locus_state a b l w h = record {
  registers = h.registers;
  place = h.place;
  code = h.code;
  host = wider_container a b l.host w h.host;
  deep = h.deep;
  chain = All-weaker (IsSoundCall a) (IsSoundCall b) (λ (k : Call) s. record { container = wider_container a b k.container w s.container; place = s.place }) l.chain h.chain;
  few = h.few;
  privates = All-weaker (IsSoundPrivate a) (IsSoundPrivate b) (λ (p : Private) s. record { made = wider_container a b p.made w s.made; region = wider_region a b p.region w s.region }) l.privates h.privates;
  ordered = h.ordered;
  caps = wider_caps a b l.caps w h.caps;
  walk = λ (k : Walk) is. record { at = wider_container a b k.at w (h.walk k is).at; some = (h.walk k is).some; hops = (h.walk k is).hops; looking = (h.walk k is).looking };
  printed = h.printed;
}

-- WHO IS BORN

pub born_container : (a : AtlasState) (x : ℕ) → IsTrue (is_born_container a x) → IsTrue (is_born a x)
born_container a x h = or_left (x == 0 || is_born_container a x) (is_born_locus a x) (or_right (x == 0) (is_born_container a x) h)

pub born_locus : (a : AtlasState) (x : ℕ) → IsTrue (is_born_locus a x) → IsTrue (is_born a x)
born_locus a x h = or_right (x == 0 || is_born_container a x) (is_born_locus a x) h
