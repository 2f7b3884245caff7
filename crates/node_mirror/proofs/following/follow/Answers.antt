use Rattle.std.proofs.Common.{◌≡◌, ◌∙◌, List, length, nat_lt, refl, sym, ap, subst}
use Rattle.std.specs.Prelude.{slice_get}
use Rattle.base_types.specs.declared.histories.Entry.{Entry}
use Rattle.kernel_run_facts.specs.kernel_commit_facts.Parts.{Noted}
use Rattle.node_looks.specs.kernel_watchers.Steps.{steps_at}
use Rattle.node_mirror.proofs.Pieces.{mirrored}
use Rattle.node_mirror.proofs.Shipping.{follows_shown, step_offered}
use Rattle.node_mirror.proofs.Faults.{line_stopped, stop_same}
use Rattle.node_mirror.proofs.following.follow.Goals as goal
use Rattle.node_mirror.specs.Mirrors.{Mirrors}
use Rattle.node_mirror.specs.declared.lines.Line.{Line}
use Rattle.node_rounds.specs.Going.{AllShip}
use Rattle.node_rounds.proofs.node_standby_lemmas.Standing.{counts_stay}

pub go-requires : goal.go-requires
go-requires g c = record { step = step_offered c.args.line.now.sender c.offer_shown.new.sender c.args.line.now.standby c.requires.step c.offer_shown.ensures.more c.offer_shown.ensures.few }

pub returns-in-Err-clause-stop : goal.returns-in-Err-clause-stop
returns-in-Err-clause-stop g c = c.in-Err.ensures.stop ∙ stop_same c.in-Err.fault c.stop_of.result c.stop_of.ensures

pub returns-in-Err-clause-step : goal.returns-in-Err-clause-step
returns-in-Err-clause-step g c = step_offered c.args.line.now.sender c.offer_shown.new.sender c.args.line.now.standby c.requires.step c.offer_shown.ensures.more c.offer_shown.ensures.few

pub returns-in-Err-clause-stops : goal.returns-in-Err-clause-stops
returns-in-Err-clause-stops g c = line_stopped g.E.Disk c.args.line.now.standby c.in-Err.fault c.stop_of.result c.stop_of.ensures

pub returns-in-Err-clause-counts : goal.returns-in-Err-clause-counts
returns-in-Err-clause-counts g c = counts_stay g.E.Disk c.args.line.now.standby

pub returns-in-Err-clause-follows : goal.returns-in-Err-clause-follows
returns-in-Err-clause-follows g c = λ told words b es m shows f.
    follows_shown g.D.Disk b es c.args.kernel.now shows g.E.Disk c.offer_shown.new.kernel c.args.line.now.standby c.offer_shown.ensures.lent f

pub returns-in-Ok-clause-mirrors : goal.returns-in-Ok-clause-mirrors
returns-in-Ok-clause-mirrors g c = λ told words b es m shows.
    let k = c.args.kernel.now in
    let old = c.args.line.now in
    let mid : Line _ = record { sender = c.offer_shown.new.sender; standby = old.standby; words = old.words; loss = old.loss } in
    let same : c.offer_shown.new.kernel.parts.noted.entries ≡ k.parts.noted.entries = ap (λ (n : Noted). n.entries) c.offer_shown.ensures.lent.notes in
    let steps : c.step_count_at-due.result ≡ steps_at (slice_get k.parts.noted.entries c.args.noted) =
    c.step_count_at-due.ensures ∙ ap (λ (es : List Entry). steps_at (slice_get es c.args.noted)) (c.history.ensures.entries ∙ same) in
    let step = step_offered old.sender c.offer_shown.new.sender old.standby c.requires.step c.offer_shown.ensures.more c.offer_shown.ensures.few in
    subst (λ (new : List Entry). Mirrors words b new c.offer_shown.new.known (length new) c.go.new.self) (sym same)
    (mirrored words b es k.parts.noted.entries c.args.known.now c.offer_shown.new.known c.args.noted old mid c.go.new.self (nat_lt 0 c.step_count_at-due.result) m shows.next
    (c.in_default.ensures.ships told b es shows m.knows m.ships m.all) c.offer_shown.ensures.more refl refl refl step (ap (nat_lt 0) steps) c.in-Ok.ensures.goes c.go.ensures.loss)

pub returns-in-Ok-clause-follows : goal.returns-in-Ok-clause-follows
returns-in-Ok-clause-follows g c = λ told words b es m shows f.
    let k = c.args.kernel.now in
    let same : c.offer_shown.new.kernel.parts.noted.entries ≡ k.parts.noted.entries = ap (λ (n : Noted). n.entries) c.offer_shown.ensures.lent.notes in
    let now = follows_shown g.D.Disk b es k shows g.E.Disk c.offer_shown.new.kernel c.args.line.now.standby c.offer_shown.ensures.lent f in
    let ships = (c.offer_shown.ensures.ships told b es shows m.knows m.ships m.all).ships in
    c.go.ensures.follows b c.offer_shown.new.kernel.parts.noted.entries now (subst (λ (new : List Entry). AllShip b new c.offer_shown.new.sender) (sym same) ships)

pub returns-in-Err-go-clause-follows : goal.returns-in-Err-go-clause-follows
returns-in-Err-go-clause-follows g c = λ told words b es m shows f.
    let k = c.args.kernel.now in
    let same : c.offer_shown.new.kernel.parts.noted.entries ≡ k.parts.noted.entries = ap (λ (n : Noted). n.entries) c.offer_shown.ensures.lent.notes in
    let now = follows_shown g.D.Disk b es k shows g.E.Disk c.offer_shown.new.kernel c.args.line.now.standby c.offer_shown.ensures.lent f in
    let ships = (c.offer_shown.ensures.ships told b es shows m.knows m.ships m.all).ships in
    c.go.ensures.follows b c.offer_shown.new.kernel.parts.noted.entries now (subst (λ (new : List Entry). AllShip b new c.offer_shown.new.sender) (sym same) ships)

pub returns-in-Err-go-clause-stops : goal.returns-in-Err-go-clause-stops
returns-in-Err-go-clause-stops g c = (c.offer_shown.new.sender, c.in-Err-go.ensures.stops)
