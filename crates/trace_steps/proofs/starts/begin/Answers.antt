use Rattle.std.proofs.Common.{◌≡◌, length, sym, ◌∙◌, rules}
use Rattle.plain_states.proofs.PlainBirths.{few_names}
use Rattle.plain_states.specs.model_kernel.Scripts.{next_name as next_of}
use Rattle.plain_states.specs.Plains.{atlas_of}
use Rattle.script_types.specs.Scripts.{tables_of}
use Rattle.trace_steps.proofs.Beginning.{begin_stands, left_same, low_at, none_past}
use Rattle.trace_steps.proofs.starts.begin.Goals as goal

pub next_name-requires : goal.next_name-requires
next_name-requires c = few_names c.args.start c.requires.sound

pub returns-clause-stands : goal.returns-clause-stands
returns-clause-stands c s p =
    let versions = c.args.versions in
    let long : length versions ≡ 64 = search rules in
    begin_stands s c.args.start versions p (tables_of c.args.script.now) c.in_ok-clocks.clocks c.in_ok-cuts.cuts _ c.is_some-births_left.result (c.requires.sound s) c.requires.edges
    (low_at versions c.requires.low) (none_past versions long) c.requires.script c.requires.kinds c.in_ok-clocks.ensures c.in_ok-cuts.ensures
    c.new-wishes.ensures.newest c.new-wishes.ensures.by_step c.new-wishes.ensures.asked c.new-wishes.ensures.was_full c.full-wishes.ensures
    (left_same (λ n. n.now) c.next_name.result (next_of (atlas_of c.args.start.atlas) (tables_of c.args.script.now)) c.next_name.ensures.some c.next_name.ensures.none ∙ sym c.is_some-births_left.ensures)
