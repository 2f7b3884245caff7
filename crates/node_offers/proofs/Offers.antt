-- New commits, offered one entity after another.
use Rattle.std.proofs.Common.{◌≡◌, ℕ, zero, suc, ◌+◌, ◌<◌, ◌≤◌, Bool, true, false, ◌==◌, nat_lt, cond, if◌then◌else◌, List, [], ◌∷◌, ◌++◌, filter, length, map, Option, Some, None, add-one, append_assoc, length-append, ◌-◌, Ok, Err, option_to_list, refl, sym, ap, subst, ◌∙◌, arith}
use Rattle.std.specs.Prelude.{IfSome, slice_get}
use Rattle.std.proofs.lemmas.Bool.{lt-ltb, ltb-true}
use Rattle.std.proofs.lemmas.List.{append-nil, length-map}
use Rattle.base_types.specs.Edges.{upto}
use Rattle.base_types.specs.declared.histories.Entry.{Entry}
use Rattle.model_new_commits.specs.Found.{AreFound, last_from, newer_than, newest_commit}
use Rattle.model_new_commits.specs.model_run_rules.Newest.{newest_from, newest_in}
use Rattle.model_new_commits.specs.model_run_rules.model_kernel.Choices.{Commit}
use Rattle.node_newest.specs.kernel_run_facts.model_serial_turns.Rising.{entities_of}
use Rattle.node_newest.specs.Newest.{IsNewest, ShipsNewest}
use Rattle.node_offers.specs.Offering.{AreShipmentsFrom, KnowsNewest, OffersMore, OffersNew, OffersNewest, ShipNewest, if_newer, with_offers}
use Rattle.node_newest.specs.node_records.Shipments.{IsShippedOf}
use Rattle.node_newest.specs.node_shipments.Parts.{Shipment, part_in}
use Rattle.node_newest.specs.node_shipments.Runs.{commit_in}
use Rattle.node_newest.specs.node_shipments.kernel_invariant.Beginnings.{Beginning, completed}
use Rattle.node_world.specs.Worlds.{Sending, with_offer}

-- THE NEWEST COMMIT of an entity has the newest version

abbrev version_of : Option Commit → ℕ
version_of None = 0
version_of (Some c) = c.version

last_version : (cs : List Commit) (o : Option Commit) (x : ℕ) → newest_from (version_of o) cs x ≡ version_of (last_from o cs x)
last_version [] o x = refl
last_version (c ∷ cs) o x = go (c.entity == x) (λ p. last_version cs p x)
  where
    go : (t : Bool) → ((p : Option Commit) → newest_from (version_of p) cs x ≡ version_of (last_from p cs x))
        → newest_from (if t then c.version else version_of o) cs x ≡ version_of (last_from (if t then Some c else o) cs x)
    go true rest = rest (Some c)
    go false rest = rest o

-- NOTHING BUT OFFERS

pub no_more : (s : Sending Shipment) → s ≡ with_offers s []
no_more s = λ i. record { acked = s.acked; waiting = sym (append-nil s.waiting) i }

pub more_none : (s s' : Sending Shipment) → s' ≡ s → OffersMore s s'
more_none s s' same = record { more = []; are = same ∙ no_more s }

pub more_one : (s s' : Sending Shipment) (x : Shipment) → s' ≡ with_offer s x → OffersMore s s'
more_one s s' x is = record { more = x ∷ []; are = is }

more_are : (s : Sending Shipment) (xs ys : List Shipment) → with_offers (with_offers s xs) ys ≡ with_offers s (xs ++ ys)
more_are s xs ys = λ i. record { acked = s.acked; waiting = append_assoc s.waiting xs ys i }

pub more_then : (s mid s' : Sending Shipment) → OffersMore s mid → OffersMore mid s' → OffersMore s s'
more_then s mid s' p q = record { more = p.more ++ q.more; are = q.are ∙ (ap (λ (t : Sending Shipment). with_offers t q.more) p.are ∙ more_are s p.more q.more) }

module _ (b : Beginning) (es : List Entry) where
  ship_append : (xs ys : List ℕ) (ss ts : List Shipment) → ShipNewest b es xs ss → ShipNewest b es ys ts → ShipNewest b es (xs ++ ys) (ss ++ ts)
  ship_append [] ys [] ts none more = more
  ship_append [] ys (s ∷ ss) ts none more = absurd none
  ship_append (x ∷ xs) ys [] ts none more = absurd none
  ship_append (x ∷ xs) ys (s ∷ ss) ts (one, rest) more = (one, ship_append xs ys ss ts rest more)

  pub newest_none : (s s' : Sending Shipment) → s' ≡ s → OffersNewest b es [] s s'
  newest_none s s' same = record { more = []; are = same ∙ no_more s; ship = tt }

  pub newest_then : (xs ys : List ℕ) (s mid s' : Sending Shipment) → OffersNewest b es xs s mid → OffersNewest b es ys mid s' → OffersNewest b es (xs ++ ys) s s'
  newest_then xs ys s mid s' p q = record {
    more = p.more ++ q.more;
    are = q.are ∙ (ap (λ (t : Sending Shipment). with_offers t q.more) p.are ∙ more_are s p.more q.more);
    ship = ship_append xs ys p.more q.more p.ship q.ship;
  }

  -- WHAT ONE ENTITY BRINGS

  none_is_zero : (x : ℕ) → newest_commit (completed b es) x ≡ None → newest_in (completed b es) x ≡ 0
  none_is_zero x none = last_version (completed b es) None x ∙ ap version_of none

  newer_none : (x known : ℕ) → newest_in (completed b es) x ≤ known → if_newer b es known x ≡ []
  newer_none x known le = go (nat_lt known (newest_in (completed b es) x)) refl
    where
      go : (t : Bool) → nat_lt known (newest_in (completed b es) x) ≡ t → (if t then x ∷ [] else []) ≡ []
      go false e = refl
      go true e = absurd (let lt = ltb-true known (newest_in (completed b es) x) e in omega (arith, lt, le))

  -- none, where it has no commit
  pub offers_none : (x : ℕ) (s s' : Sending Shipment) → ShipsNewest b es x None → s' ≡ s → OffersNewest b es (if_newer b es 0 x) s s'
  offers_none x s s' none same =
      subst (λ (xs : List ℕ). OffersNewest b es xs s s') (sym (newer_none x 0 (let zero = none_is_zero x none in omega (arith, zero)))) (newest_none s s' same)

  -- one, whose version is above 0
  pub offers_some : (x : ℕ) (s s' : Sending Shipment) (ship : Shipment) → IsNewest b es x ship → 0 < newest_in (completed b es) x → s' ≡ with_offer s ship
      → OffersNewest b es (if_newer b es 0 x) s s'
  offers_some x s s' ship newest lt is =
      subst (λ (xs : List ℕ). OffersNewest b es xs s s') (sym (ap (λ (t : Bool). if t then x ∷ [] else []) (lt-ltb 0 (newest_in (completed b es) x) lt)))
      (record { more = ship ∷ []; are = is; ship = (newest, tt) })

  some_above : (x : ℕ) (ship : Shipment) → IsNewest b es x ship → 0 < ship.version → 0 < newest_in (completed b es) x
  some_above x ship newest lt = subst (λ (n : ℕ). 0 < n) (sym (last_version (completed b es) None x ∙ ap version_of newest.commit)) lt

  pub offers_found : (x : ℕ) (s s' : Sending Shipment) (ship : Shipment) → ShipsNewest b es x (Some ship) → 0 < ship.version → s' ≡ with_offer s ship → OffersNewest b es (if_newer b es 0 x) s s'
  offers_found x s s' ship newest lt is = offers_some x s s' ship newest (some_above x ship newest lt) is

  pub offers_any : (x : ℕ) (s s' : Sending Shipment) (found : Option Shipment) → ShipsNewest b es x found → IfSome found (λ ship. 1 ≤ ship.version) → s' ≡ with_offers s (option_to_list found)
      → OffersNewest b es (if_newer b es 0 x) s s'
  offers_any x s s' None newest sound is = offers_none x s s' newest (is ∙ sym (no_more s))
  offers_any x s s' (Some ship) newest sound is = offers_found x s s' ship newest (omega (arith, sound)) is

  -- where more is known than nothing
  pub newer_same : (x known version : ℕ) → version ≡ newest_in (completed b es) x → known < version → if_newer b es 0 x ≡ if_newer b es known x
  newer_same x known version same lt = ap (λ (t : Bool). if t then x ∷ [] else []) (lt-ltb 0 (newest_in (completed b es) x) (omega (arith, same, lt)) ∙ sym (lt-ltb known (newest_in (completed b es) x) (omega (arith, same, lt))))

  pub known_none : (x known version : ℕ) (s s' : Sending Shipment) → version ≡ newest_in (completed b es) x → version ≤ known → s' ≡ s → OffersNewest b es (if_newer b es known x) s s'
  known_none x known version s s' same le is =
      subst (λ (xs : List ℕ). OffersNewest b es xs s s') (sym (newer_none x known (omega (arith, same, le)))) (newest_none s s' is)

  -- ALL ENTITIES BELOW a number

  abbrev pub newer_below : (ℕ → ℕ) → ℕ → List ℕ
  newer_below known n = filter (λ x. nat_lt (known x) (newest_in (completed b es) x)) (upto n)

  filter_append : (f : ℕ → Bool) (xs ys : List ℕ) → filter f (xs ++ ys) ≡ filter f xs ++ filter f ys
  filter_append f [] ys = refl
  filter_append f (x ∷ xs) ys = go (f x) (filter_append f xs ys)
    where
      go : (t : Bool) → filter f (xs ++ ys) ≡ filter f xs ++ filter f ys → cond t (x ∷ filter f (xs ++ ys)) (filter f (xs ++ ys)) ≡ cond t (x ∷ filter f xs) (filter f xs) ++ filter f ys
      go true rest = ap (λ (zs : List ℕ). x ∷ zs) rest
      go false rest = rest

  filter_one : (known : ℕ → ℕ) (x : ℕ) → filter (λ y. nat_lt (known y) (newest_in (completed b es) y)) (x ∷ []) ≡ if_newer b es (known x) x
  filter_one known x = refl

  pub newer_next : (known : ℕ → ℕ) (n : ℕ) → newer_below known (suc n) ≡ newer_below known n ++ if_newer b es (known n) n
  newer_next known n = filter_append (λ x. nat_lt (known x) (newest_in (completed b es) x)) (upto n) (n ∷ []) ∙ ap (λ (zs : List ℕ). newer_below known n ++ zs) (filter_one known n)

  pub newer_front : (known : ℕ → ℕ) (k n m : ℕ) → k + n ≡ m → (rest : List ℕ) × (newer_below known m ≡ newer_below known n ++ rest)
  newer_front known zero n m same = (let here : m ≡ n = omega (arith, same) in ([], ap (newer_below known) here ∙ sym (append-nil (newer_below known n))))
  newer_front known (suc k) n m same =
      let r = newer_front known k n (k + n) refl in
      let up : m ≡ suc (k + n) = omega (arith, same) in (
        r.0 ++ if_newer b es (known (k + n)) (k + n),
        ap (newer_below known) up ∙ (newer_next known (k + n) ∙ (ap (λ (zs : List ℕ). zs ++ if_newer b es (known (k + n)) (k + n)) r.1 ∙ append_assoc (newer_below known n) r.0 (if_newer b es (known (k + n)) (k + n)))),
      )

  -- THE COMMITS THAT CAME

  -- of a shipment, the commit that it ships
  record IsAt (added : List Commit) (i : ℕ) (s : Shipment) : Type 0 where
    pub commit : slice_get added i ≡ Some (commit_in s)
    pub told : IsShippedOf b es s.entity s.version s.stamp (part_in s.part) s.pages

  ship_as : (xs rest : List ℕ) (added : List Commit) (ss : List Shipment) → xs ++ rest ≡ entities_of added → map (newest_commit (completed b es)) (entities_of added) ≡ map (λ (c : Commit). Some c) added → ShipNewest b es xs ss
      → (i : ℕ) (s : Shipment) → slice_get ss i ≡ Some s → IsAt added i s
  ship_as [] rest added [] same newest ship i s at = absurd (cc at)
  ship_as [] rest added (t ∷ ts) same newest ship i s at = absurd ship
  ship_as (x ∷ xs) rest added [] same newest ship i s at = absurd ship
  ship_as (x ∷ xs) rest [] (t ∷ ts) same newest ship i s at = absurd (cc same)
  ship_as (x ∷ xs) rest (c ∷ cs) (t ∷ ts) same newest (one, more) zero s at =
      let here : t ≡ s = cc at in
      let entity : x ≡ c.entity = cc same in
      let first : newest_commit (completed b es) c.entity ≡ Some c = cc newest in
      let both : Some c ≡ Some (commit_in t) = sym first ∙ (ap (newest_commit (completed b es)) (sym entity) ∙ one.commit) in
      subst (IsAt (c ∷ cs) zero) here (record { commit = both; told = one.told })
  ship_as (x ∷ xs) rest (c ∷ cs) (t ∷ ts) same newest (one, more) (suc i) s at =
      let found = ship_as xs rest cs ts (cc same) (cc newest) more i s at in
      record { commit = found.commit; told = found.told }

  get_behind : (cs added : List Commit) (i : ℕ) → slice_get (cs ++ added) (length cs + i) ≡ slice_get added i
  get_behind [] added i = (let none : 0 + i ≡ i = omega arith in ap (slice_get added) none)
  get_behind (c ∷ cs) added i = (let one : suc (length cs) + i ≡ suc (length cs + i) = omega arith in ap (slice_get (c ∷ (cs ++ added))) one ∙ get_behind cs added i)

  ship_from : (known : ℕ → ℕ) (before : List Commit) (xs rest : List ℕ) (ss : List Shipment) → AreFound known before (completed b es) → newer_than known (completed b es) ≡ xs ++ rest
      → ShipNewest b es xs ss → AreShipmentsFrom b es (length before) ss
  ship_from known before xs rest ss found are ship i s at =
      let is = ship_as xs rest found.added ss (sym are ∙ found.entities) found.newest ship i s at in
      record {
        commit = ap (λ (cs : List Commit). slice_get cs (length before + i)) found.are ∙ (get_behind before found.added i ∙ is.commit);
        told = is.told;
      }

  as_many : (xs : List ℕ) (ss : List Shipment) → ShipNewest b es xs ss → length xs ≡ length ss
  as_many [] [] ship = refl
  as_many [] (t ∷ ts) ship = absurd ship
  as_many (x ∷ xs) [] ship = absurd ship
  as_many (x ∷ xs) (t ∷ ts) (one, more) = ap suc (as_many xs ts more)

  all_are : (known : ℕ → ℕ) (before : List Commit) (ss : List Shipment) → AreFound known before (completed b es) → ShipNewest b es (newer_than known (completed b es)) ss
      → length (completed b es) ≡ length before + length ss
  all_are known before ss found ship =
      let sum : length (completed b es) ≡ length before + length found.added = ap length found.are ∙ length-append before found.added in
      let many : length found.added ≡ length ss = sym (length-map found.added (λ (c : Commit). c.entity)) ∙ (sym (ap length found.entities) ∙ as_many (newer_than known (completed b es)) ss ship) in
      omega (arith, sum, many)

  -- a front of the entities, and all
  pub new_front : {E : Type 0} (known : ℕ → ℕ) (before : List Commit) (n : ℕ) (s s' : Sending Shipment) (known' : List ℕ) (e : E) → n ≤ 64 → AreFound known before (completed b es)
      → OffersNewest b es (newer_below known n) s s' → OffersNew {E = E} b es (length before) known' s s' (Err e)
  new_front known before n s s' known' e le found o =
      let rest = newer_front known (64 - n) n 64 (omega (arith, le)) in
      record { more = o.more; are = o.are; ship = ship_from known before (newer_below known n) rest.0 o.more found rest.1 o.ship; all = tt; knows = tt }

  pub new_all : {E : Type 0} (known : ℕ → ℕ) (before : List Commit) (s s' : Sending Shipment) (known' : List ℕ) → AreFound known before (completed b es)
      → OffersNewest b es (newer_below known 64) s s' → KnowsNewest b es known' → OffersNew {E = E} b es (length before) known' s s' (Ok tt)
  new_all known before s s' known' found o knows =
      record { more = o.more; are = o.are; ship = ship_from known before (newer_below known 64) [] o.more found (sym (append-nil (newer_below known 64))) o.ship; all = all_are known before o.more found o.ship; knows = knows }

  -- and the next one
  pub next_one : (known : ℕ → ℕ) (n version : ℕ) (fs : List Entry) (s mid s' : Sending Shipment) → fs ≡ es → version ≡ known n → OffersNewest b es (newer_below known n) s mid
      → OffersNewest b fs (if_newer b fs version n) mid s' → OffersNewest b es (newer_below known (n + 1)) s s'
  next_one known n version fs s mid s' same is old one =
      let here : OffersNewest b es (if_newer b es (known n) n) mid s' =
      subst (λ (v : ℕ). OffersNewest b es (if_newer b es v n) mid s') is (subst (λ (gs : List Entry). OffersNewest b gs (if_newer b gs version n) mid s') same one) in
      subst (λ (xs : List ℕ). OffersNewest b es xs s s') (sym (ap (newer_below known) (add-one n) ∙ newer_next known n)) (newest_then (newer_below known n) (if_newer b es (known n) n) s mid s' old here)
