use Rattle.std.proofs.Common.{◌≡◌, false, length, sym, ap, subst, ◌∙◌, true}
use Rattle.std.specs.Prelude.{slice_get}
use Rattle.std.proofs.lemmas.Bool.{false≢true}
use Rattle.node_exchange.proofs.Coming.{came, came_none, came_refused}
use Rattle.node_exchange.proofs.Playing.{place_at}
use Rattle.node_exchange.specs.Playing.{HasCome}
use Rattle.node_exchange.specs.Wires.{sent_as}
use Rattle.node_standby.specs.Following.{MayTake}
use Rattle.node_world.specs.Worlds.{is_next}
use Rattle.store_snapshots.specs.store_facts.State.{books}
use Rattle.node_exchange.proofs.exchanging.come.Goals.{else-is_next-via-then-is_next+else-not-may_take, else-is_next-via-else-is_next}
use Rattle.node_exchange.proofs.exchanging.come.Goals as goal

pub shipped-shipped-requires : goal.shipped-shipped-requires
shipped-shipped-requires g c =
    (place_at c.args.lines.now c.args.standby.now.count (length c.args.made.now) c.requires.step c.args.which (sent_as c.in-Some.sent) (sym c.in-Some.ensures)).0

pub returns-in-None : goal.returns-in-None
returns-in-None g c =
    came_none g.D.Disk c.args.made.now c.args.lines.now c.args.standby.now c.args.which (λ image t left. g.met.D.Disk.only_now c.args.standby.now.store.disk image t left) (sym c.in-None.ensures)

pub returns-then-not-may_take : goal.returns-then-not-may_take
returns-then-not-may_take g c =
    let at = sym c.in-Some.ensures in
    let place = place_at c.args.lines.now c.args.standby.now.count (length c.args.made.now) c.requires.step c.args.which (sent_as c.in-Some.sent) at in
    came_refused g.D.Disk c.args.made.now c.args.lines.now c.args.standby.now c.args.which (λ image t left. g.met.D.Disk.only_now c.args.standby.now.store.disk image t left)
    c.in-Some.sent.number c.in-Some.sent.place c.shipped-shipped.result.now at place.1 c.shipped-shipped.ensures (sym c.is_next.ensures ∙ c.if-is_next.true)
    (λ may. false≢true (sym c.if-not-may_take.true ∙ c.may_take.ensures.1 may))

pub returns-else-is_next : goal.returns-else-is_next
returns-else-is_next g c =
    let st = c.args.standby.now in
    let made = c.args.made.now in
    let s = c.shipped-shipped.result.now in
    let number = c.in-Some.sent.number in
    let at = sym c.in-Some.ensures in
    let place = place_at c.args.lines.now st.count (length made) c.requires.step c.args.which (sent_as c.in-Some.sent) at in
    let e = c.deliver.ensures in
    let ready : is_next st.count number ≡ true → (books st.store).shut ≡ false → MayTake st s =
    (λ next works. elim c.else-is_next.branch [
      | else-is_next-via-then-is_next+else-not-may_take w ↦ w.may_take.ensures.0 w.if-not-may_take.false
      | else-is_next-via-else-is_next w ↦ absurd (false≢true (sym w.if-is_next.false ∙ (c.is_next.ensures ∙ next)))
    ]) in
    subst (λ t. HasCome g.D.Disk made c.args.lines.now c.args.which t st c.deliver.new.self) (sym c.is_ok.ensures.value)
    (came st c.deliver.new.self number c.deliver.result e.other e.counted made s (λ next. sym (ap (slice_get made) (place.1 next)) ∙ c.shipped-shipped.ensures) e.shut e.no_blocks e.untouched
    g.D.Disk c.args.lines.now c.args.which c.in-Some.sent.place at place.1 ready (λ h. (e.cause.write_fault h).1) e.cause.no_read e.follows e.any_moment)
