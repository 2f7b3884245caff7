-- A reader of private regions, at each of them.
use Rattle.std.proofs.Common.{◌≡◌, ◌<◌, ◌≤◌, ℕ, suc, ◌+◌, ◌-◌, List, [], ◌∷◌, ◌++◌, length, sym, subst, arith}
use Rattle.std.proofs.lemmas.List.{length-append}
use Rattle.act_atlas_laws.specs.base_types.declared.capabilities.Private.{Private}
use Rattle.blob_facts.specs.Fields.{IsFound, IsRefused, Spells}
use Rattle.blob_facts.specs.Loci.{IsPrivateIn}
use Rattle.blob_facts.proofs.Items.{HasRead, all_read, one_more, one_refused}
use Rattle.blob_facts.proofs.PrivateFields.{private_tells}
use Rattle.blob_facts.proofs.PrivateLists.{Edge, HasRoom, Item, PrivateItems, edge_of, first_edge, room_behind, some_privates}

abbrev pub edge_at : ℕ → ℕ → Edge
edge_at host page = record { host = host; page = page }

module _ (count : ℕ) (bytes : List ℕ) where
  abbrev pub Read : List Private → ℕ → Edge → List ℕ → Type 0
  Read = HasRead Item edge_of count first_edge bytes

  abbrev pub SoFar : ℕ → ℕ → ℕ → List Private → List ℕ → Type 0
  SoFar place host page ps rest = (length ps ≡ place) × HasRoom (edge_at host page) (count - place) × Read ps (count - place) (edge_at host page) rest

  module _ (place host page : ℕ) (ps : List Private) (rest behind : List ℕ) (few : count ≤ 16) (more : place < count) (so_far : SoFar place host page ps rest) where
    left_is : count - place ≡ suc (count - place - 1)
    left_is = omega (arith, more)

    still : Read ps (suc (count - place - 1)) (edge_at host page) rest
    still = subst (λ n. Read ps n (edge_at host page) rest) left_is so_far.2

    pub private_refused : IsRefused (Spells (IsPrivateIn host page (count - place - 1))) rest behind → IsRefused (Spells (PrivateItems count first_edge)) bytes behind
    private_refused r =
        one_refused Item edge_of count first_edge bytes ps (count - place - 1) (edge_at host page) rest behind
        (λ p a f. some_privates (count - place - 1) (edge_of (edge_at host page) p) (omega (arith, few)) (room_behind (edge_at host page) (count - place - 1) p a (omega (arith, few, more)) f)) still r

    pub added : (p : Private) (ps' : List Private) → IsFound (IsPrivateIn host page (count - place - 1)) rest p behind → ps' ≡ ps ++ p ∷ [] → SoFar (place + 1) p.made (p.region.at + p.region.count) ps' behind
    added p ps' f is =
        let len = so_far.0 in
        let e = length-append ps (p ∷ []) in
        subst (λ (l : List Private). SoFar (place + 1) p.made (p.region.at + p.region.count) l behind) (sym is)
        (subst (λ n. (length (ps ++ p ∷ []) ≡ place + 1) × HasRoom (edge_of (edge_at host page) p) n × Read (ps ++ p ∷ []) n (edge_of (edge_at host page) p) behind)
        (let d : count - place - 1 ≡ count - (place + 1) = omega arith in d) (
          omega (arith, e, len),
          room_behind (edge_at host page) (count - place - 1) p f.front (omega (arith, few, more)) f.spelled,
          one_more Item edge_of count first_edge bytes ps (count - place - 1) (edge_at host page) rest p behind (private_tells host page (count - place - 1)) still f,
        ))

  pub all_added : (place host page : ℕ) (ps : List Private) (rest : List ℕ) → count ≤ place → SoFar place host page ps rest → IsFound (PrivateItems count first_edge) bytes ps rest
  all_added place host page ps rest end so_far =
      all_read Item edge_of count first_edge bytes ps (edge_at host page) rest (subst (λ n. Read ps n (edge_at host page) rest) (let e : count - place ≡ 0 = omega (arith, end) in e) so_far.2)
