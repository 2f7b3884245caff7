use Rattle.std.proofs.Common.{◌≡◌, ◌↔◌, ℕ, ◌+◌, true, false, List, length, Result, Ok, Err, take, sym, subst, ◌∙◌, rules, eqb-true}
use Rattle.std.specs.Prelude.{IsErrOf}
use Rattle.std.proofs.lemmas.Result.{err_from_is_err_and}
use Rattle.edge_disk.specs.Moments.{LeavesOnly}
use Rattle.edge_disk.specs.declared.disk.Disk.{Ghosts}
use Rattle.edge_disk.specs.declared.disk.NoBlocks.{NoBlocks}
use Rattle.base_types.specs.declared.histories.Entry.{Entry}
use Rattle.node_shipments.specs.kernel_invariant.Beginnings.{Beginning, completed}
use Rattle.node_shipments.specs.Parts.{HasSpelling, Shipment, length_in, shipment_of}
use Rattle.node_shipments.specs.Runs.{IsShipmentAt, commit_in}
use Rattle.node_shipments.specs.node_store.Shipping.{IsShort}
use Rattle.node_standby.proofs.Standing.{ends, standby_failed}
use Rattle.node_standby.proofs.Taking.{failed_follows, failed_moments, stays, taken_follows, taken_moments}
use Rattle.node_standby.specs.Following.{Follows, IsImageBetween, most_in}
use Rattle.node_standby.specs.Standing.{Standing}
use Rattle.node_world.specs.Worlds.{is_next}
use Rattle.kernel_views.specs.store_snapshots.declared.faults.StoreFault.{StoreFault}
use Rattle.kernel_views.specs.store_snapshots.declared.faults.StoreFault.TheVariants as fault
use Rattle.kernel_views.specs.store_snapshots.store_facts.State.{books}
use Rattle.kernel_views.specs.store_snapshots.store_facts.image_facts.Bodies.{blocks_for}
use Rattle.node_standby.proofs.standby.Standby.deliver.Goals as goal

-- the shipment, from its parts
same_parts : (s : Shipment) (entity version : ℕ) (stamp : List ℕ) (part : Rattle.node_shipments.specs.declared.parts.ShipPart.ShipPart) (pages : List Rattle.node_shipments.specs.node_store.page_placing.declared.writing.PageWords.PageWords)
    → entity ≡ s.entity → version ≡ s.version → stamp ≡ s.stamp → part ≡ s.part → pages ≡ s.pages → shipment_of entity version stamp part pages ≡ s
same_parts s entity version stamp part pages e v st p ps = λ i. record { entity = e i; version = v i; stamp = st i; part = p i; pages = ps i }

module _ {D : Type 0} (b : Beginning) (es : List Entry) (o n : Standing D) (view : o ≡ n) where
  at_inside : (number : ℕ) (s' s : Shipment) → s' ≡ s → (is_next n.count number ≡ true → IsShipmentAt b es n.count s) → is_next o.count number ≡ true → IsShipmentAt b es o.count s'
  at_inside number s' s same at next = subst (IsShipmentAt b es o.count) (sym same) (subst (λ (d : Standing D). is_next d.count number ≡ true → IsShipmentAt b es d.count s) (sym view) at next)

  moments_inside : (disks : Ghosts D) (new : D) (high : ℕ) → LeavesOnly disks o.store.disk new (IsImageBetween b es o.count high) → LeavesOnly disks n.store.disk new (IsImageBetween b es n.count high)
  moments_inside disks new high h = subst (λ (d : Standing D). LeavesOnly disks d.store.disk new (IsImageBetween b es d.count high)) view h

blocks_inside : {D : Type 0} (o n : Standing D) → o ≡ n → (s' s : Shipment) (nb : NoBlocks) (A : Type 0) → s' ≡ s → (A ↔ IsShort (books o.store) (length s'.pages + blocks_for (length_in s'.part)) nb)
    → A ↔ IsShort (books n.store) (length s.pages + blocks_for (length_in s.part)) nb
blocks_inside {D = D} o n view s' s nb A same h =
    subst (λ (d : Standing D). A ↔ IsShort (books d.store) (length s.pages + blocks_for (length_in s.part)) nb) view
    (subst (λ (x : Shipment). A ↔ IsShort (books o.store) (length x.pages + blocks_for (length_in x.part)) nb) same h)

same_err : {T U : Type 0} (r : Result T StoreFault) (q : Result U StoreFault) (p e f : StoreFault) → q ≡ Err p → p ≡ e → IsErrOf r e → IsErrOf q f → IsErrOf r f
same_err r q p e f gives handed was is = cc

err_same : {T U : Type 0} (r : Result T StoreFault) (q : Result U StoreFault) (p e f : StoreFault) → q ≡ Err p → p ≡ e → IsErrOf r e → IsErrOf r f → IsErrOf q f
err_same r q p e f gives handed was is = cc

not_err : (n : ℕ) (e : StoreFault) → IsErrOf {T = ℕ} {E = StoreFault} (Ok n) e → ⊥
not_err n e h = cc

pub returns-then-not-is_next-clause-any_moment : goal.returns-then-not-is_next-clause-any_moment
returns-then-not-is_next-clause-any_moment g c t b es f at = stays g.D.Disk b es c.args.self.now f t (λ image left. g.met.D.Disk.only_now c.args.self.now.store.disk image t left)

pub returns-then-is_shut-clause-any_moment : goal.returns-then-is_shut-clause-any_moment
returns-then-is_shut-clause-any_moment g c t b es f at = stays g.D.Disk b es c.args.self.now f t (λ image left. g.met.D.Disk.only_now c.args.self.now.store.disk image t left)

pub invariant_of-self : goal.invariant_of-self
invariant_of-self g c =
    standby_failed g.D.Disk (record { store = c.self.inside.store; count = c.self.inside.count }) c.deliver_record.new.store c.self.invariant
    (ends c.self.inside.store c.deliver_record.new.store c.deliver_record.result c.in_err-deliver_record.field-0.0 c.in_err-deliver_record.was c.deliver_record.ensures.untouched (λ h. (c.deliver_record.ensures.write_fault h).1) c.deliver_record.ensures.no_read)

pub returns-in_err-deliver_record-clause-follows : goal.returns-in_err-deliver_record-clause-follows
returns-in_err-deliver_record-clause-follows g c b es f at =
    let same = same_parts c.args.shipped.now c.entity.result c.version.result c.stamp.result.now c.part.result.now c.pages.result.now c.entity.ensures c.version.ensures c.stamp.ensures c.part.ensures c.pages.ensures in
    let s : Shipment = shipment_of c.entity.result c.version.result c.stamp.result.now c.part.result.now c.pages.result.now in
    let working : (books c.self.inside.store).shut ≡ false = sym c.is_shut.ensures ∙ c.if-is_shut.false in
    let next : is_next c.self.inside.count c.args.number ≡ true = search rules in
    let st : Standing _ = record { store = c.self.inside.store; count = c.self.inside.count } in
    let spelt = subst HasSpelling (sym c.part.ensures) c.sound_law.ensures.sound.spelt in
    let old = subst (Follows b es g.D.Disk) (sym c.self.view_is) f in
    let here = at_inside b es st c.args.self.now c.self.view_is c.args.number s c.args.shipped.now same at next in
    let end = ends c.self.inside.store c.deliver_record.new.store c.deliver_record.result c.in_err-deliver_record.field-0.0 c.in_err-deliver_record.was c.deliver_record.ensures.untouched (λ h. (c.deliver_record.ensures.write_fault h).1) c.deliver_record.ensures.no_read in
    failed_follows g.D.Disk b es st old s here spelt working c.deliver_record.new.store (λ t m. c.deliver_record.ensures.any_moment t b es (take c.self.inside.count (completed b es)) (commit_in s) m working) end
    (λ t image le may. g.met.D.Disk.counts_now c.deliver_record.new.store.disk (g.D.Disk.clock c.self.inside.store.disk) image t le may)

pub returns-in_err-deliver_record-clause-any_moment : goal.returns-in_err-deliver_record-clause-any_moment
returns-in_err-deliver_record-clause-any_moment g c t b es f at =
    let same = same_parts c.args.shipped.now c.entity.result c.version.result c.stamp.result.now c.part.result.now c.pages.result.now c.entity.ensures c.version.ensures c.stamp.ensures c.part.ensures c.pages.ensures in
    let s : Shipment = shipment_of c.entity.result c.version.result c.stamp.result.now c.part.result.now c.pages.result.now in
    let working : (books c.self.inside.store).shut ≡ false = sym c.is_shut.ensures ∙ c.if-is_shut.false in
    let next : is_next c.self.inside.count c.args.number ≡ true = search rules in
    let st : Standing _ = record { store = c.self.inside.store; count = c.self.inside.count } in
    let spelt = subst HasSpelling (sym c.part.ensures) c.sound_law.ensures.sound.spelt in
    let old = subst (Follows b es g.D.Disk) (sym c.self.view_is) f in
    let here = at_inside b es st c.args.self.now c.self.view_is c.args.number s c.args.shipped.now same at next in
    let end = ends c.self.inside.store c.deliver_record.new.store c.deliver_record.result c.in_err-deliver_record.field-0.0 c.in_err-deliver_record.was c.deliver_record.ensures.untouched (λ h. (c.deliver_record.ensures.write_fault h).1) c.deliver_record.ensures.no_read in
    moments_inside b es st c.args.self.now c.self.view_is g.D.Disk c.deliver_record.new.store.disk (most_in (record { store = c.deliver_record.new.store; count = c.self.inside.count }))
    (failed_moments g.D.Disk b es st old s here spelt working c.deliver_record.new.store (λ t m. c.deliver_record.ensures.any_moment t b es (take c.self.inside.count (completed b es)) (commit_in s) m working) end t
    (λ image left. g.met.D.Disk.only_now c.self.inside.store.disk image t left))

pub returns-in_err-deliver_record-clause-no_blocks : goal.returns-in_err-deliver_record-clause-no_blocks
returns-in_err-deliver_record-clause-no_blocks g c nb next =
    let same = same_parts c.args.shipped.now c.entity.result c.version.result c.stamp.result.now c.part.result.now c.pages.result.now c.entity.ensures c.version.ensures c.stamp.ensures c.part.ensures c.pages.ensures in
    let s : Shipment = shipment_of c.entity.result c.version.result c.stamp.result.now c.part.result.now c.pages.result.now in
    let st : Standing _ = record { store = c.self.inside.store; count = c.self.inside.count } in
    let p = err_from_is_err_and c.from_residual.result c.from_residual.ensures.1 in
    let k = c.deliver_record.ensures.no_blocks nb in
    blocks_inside st c.args.self.now c.self.view_is s c.args.shipped.now nb (IsErrOf c.from_residual.result (fault.NoBlocks nb)) same (
      (λ h. k.0 (same_err c.deliver_record.result c.from_residual.result p.0 c.in_err-deliver_record.field-0.0 (fault.NoBlocks nb) p.1 p.2 c.in_err-deliver_record.was h)),
      (λ h. err_same c.deliver_record.result c.from_residual.result p.0 c.in_err-deliver_record.field-0.0 (fault.NoBlocks nb) p.1 p.2 c.in_err-deliver_record.was (k.1 h)),
    )

pub returns-clause-follows : goal.returns-clause-follows
returns-clause-follows g c b es f at =
    let same = same_parts c.args.shipped.now c.entity.result c.version.result c.stamp.result.now c.part.result.now c.pages.result.now c.entity.ensures c.version.ensures c.stamp.ensures c.part.ensures c.pages.ensures in
    let s : Shipment = shipment_of c.entity.result c.version.result c.stamp.result.now c.part.result.now c.pages.result.now in
    let working : (books c.self.inside.store).shut ≡ false = sym c.is_shut.ensures ∙ c.if-is_shut.false in
    let next : is_next c.self.inside.count c.args.number ≡ true = search rules in
    let st : Standing _ = record { store = c.self.inside.store; count = c.self.inside.count } in
    let spelt = subst HasSpelling (sym c.part.ensures) c.sound_law.ensures.sound.spelt in
    let old = subst (Follows b es g.D.Disk) (sym c.self.view_is) f in
    let here = at_inside b es st c.args.self.now c.self.view_is c.args.number s c.args.shipped.now same at next in
    taken_follows g.D.Disk b es st old s here spelt working c.deliver_record.new.store (λ t m. c.deliver_record.ensures.any_moment t b es (take c.self.inside.count (completed b es)) (commit_in s) m working)
    c.args.number (eqb-true c.args.number (c.self.inside.count + 1) next) c.in_ok-deliver_record.ensures.in_memory
    (λ t m. c.in_ok-deliver_record.ensures.keeps t b es (take c.self.inside.count (completed b es)) (commit_in s) m) c.in_ok-deliver_record.ensures.true_books

pub returns-clause-any_moment : goal.returns-clause-any_moment
returns-clause-any_moment g c t b es f at =
    let same = same_parts c.args.shipped.now c.entity.result c.version.result c.stamp.result.now c.part.result.now c.pages.result.now c.entity.ensures c.version.ensures c.stamp.ensures c.part.ensures c.pages.ensures in
    let s : Shipment = shipment_of c.entity.result c.version.result c.stamp.result.now c.part.result.now c.pages.result.now in
    let working : (books c.self.inside.store).shut ≡ false = sym c.is_shut.ensures ∙ c.if-is_shut.false in
    let next : is_next c.self.inside.count c.args.number ≡ true = search rules in
    let st : Standing _ = record { store = c.self.inside.store; count = c.self.inside.count } in
    let spelt = subst HasSpelling (sym c.part.ensures) c.sound_law.ensures.sound.spelt in
    let old = subst (Follows b es g.D.Disk) (sym c.self.view_is) f in
    let here = at_inside b es st c.args.self.now c.self.view_is c.args.number s c.args.shipped.now same at next in
    moments_inside b es st c.args.self.now c.self.view_is g.D.Disk c.deliver_record.new.store.disk (most_in (record { store = c.deliver_record.new.store; count = c.args.number }))
    (taken_moments g.D.Disk b es st old s here spelt working c.deliver_record.new.store (λ t m. c.deliver_record.ensures.any_moment t b es (take c.self.inside.count (completed b es)) (commit_in s) m working) c.args.number (eqb-true c.args.number (c.self.inside.count + 1) next) t)

pub returns-clause-no_blocks : goal.returns-clause-no_blocks
returns-clause-no_blocks g c nb next =
    let same = same_parts c.args.shipped.now c.entity.result c.version.result c.stamp.result.now c.part.result.now c.pages.result.now c.entity.ensures c.version.ensures c.stamp.ensures c.part.ensures c.pages.ensures in
    let s : Shipment = shipment_of c.entity.result c.version.result c.stamp.result.now c.part.result.now c.pages.result.now in
    let st : Standing _ = record { store = c.self.inside.store; count = c.self.inside.count } in
    let k = c.deliver_record.ensures.no_blocks nb in
    let was = c.in_ok-deliver_record.was in
    blocks_inside st c.args.self.now c.self.view_is s c.args.shipped.now nb _ same
    ((λ h. absurd (not_err c.args.number (fault.NoBlocks nb) h)), (λ h. absurd (let no = k.1 h in cc)))
