-- The keys so far are known, so the others decide.
use Rattle.std.proofs.Common.{◌≡◌, map}
use Rattle.toml.specs.View.{members_view, table_view}
use Rattle.script_meaning.specs.Fields.{only_in, only}
use Rattle.script_reading.proofs.fields.only.Given as goal

abbrev pub invariant-loop-name : goal.invariant-loop-name
invariant-loop-name l = record {
  can : (goal.iterator-loop-name).can_next l.name-iterator;
  ends : (goal.iterator-loop-name).is_finite l.name-iterator;
  rest : only_in (map (λ known. known.now) l.names) l.key (members_view l.name-iterator) ≡ only (map (λ known. known.now) l.names) l.key (table_view l.table);
}
