use Rattle.std.proofs.Common.{◌≡◌, ⊎_elim, refl, subst}
use Rattle.script_types.specs.model_kernel.State.{Text, no_atlas}
use Rattle.cell_states.specs.declared.cells.Part.{Part}
use Rattle.edge_streams.specs.Streams.{Puts}
use Rattle.command_open.specs.table_births.Births.{atlas_state_by, atlas_state_in}
use Rattle.command_run.specs.Tellings.{lines_of}
use Rattle.command_run.proofs.Nameless.{nameless, no_cells, no_directory}
use Rattle.command_run.proofs.putting.put_lines.Goals as goal

pub returns-in-empty-clause-bytes : goal.returns-in-empty-clause-bytes
returns-in-empty-clause-bytes g c =
    subst (λ (bytes : Text). Puts (g.W.Sink.held c.args.sink.now) (g.W.Sink.held c.put_named.new.sink) c.put_named.result bytes)
    (nameless (lines_of c.args.lines) c.args.cells.now c.new.result c.args.history.now c.new.ensures (no_cells c.args.cells.now c.in-empty.len_below)) c.put_named.ensures.bytes

pub returns-in-Container-clause-bytes : goal.returns-in-Container-clause-bytes
returns-in-Container-clause-bytes g c = ⊎_elim (λ other. by _ other.1 refl) (λ other. by _ other.1 refl) c.in-Container.is
  where
    by : (p : Part) → c.first-item.result.part ≡ p → atlas_state_by p ≡ no_atlas
        → Puts (g.W.Sink.held c.args.sink.now) (g.W.Sink.held c.put_named-in-Container.new.sink) c.put_named-in-Container.result (lines_of c.args.lines (atlas_state_in c.args.cells.now) c.args.history.now)
    by p is none =
        subst (λ (bytes : Text). Puts (g.W.Sink.held c.args.sink.now) (g.W.Sink.held c.put_named-in-Container.new.sink) c.put_named-in-Container.result bytes)
        (nameless (lines_of c.args.lines) c.args.cells.now c.new-in-Container.result c.args.history.now c.new-in-Container.ensures
        (no_directory c.args.cells.now c.first-item.result p c.in-len1-up.len_at_least c.first-item.is is none)) c.put_named-in-Container.ensures.bytes
