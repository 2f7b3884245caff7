-- The tables of a script have no snap where its containers have none.
use Rattle.std.proofs.Common.{◌≡◌, true, List, [], ◌∷◌, map, All, IsTrue, sym, ap, ◌∙◌}
use Rattle.std.specs.List.{list_all}
use Rattle.std.proofs.lemmas.Bool.{and_parts}
use Rattle.std.proofs.lemmas.List.Elements.{All-cons, All-nil}
use Rattle.plain_steps.specs.model_kernel.Scripts.{ContainerTable}
use Rattle.plain_steps.specs.plain_facts.Snaps.{has_no_snap}
use Rattle.script_types.specs.Scripts.{container_of}
use Rattle.script_types.specs.declared.ScriptContainer.{ScriptContainer}
use Rattle.plain_runs.proofs.code.has_no_snaps.Goals as goal

no_snaps : (cs : List ScriptContainer) → list_all (λ (c : ScriptContainer). has_no_snap c.code.items) cs ≡ true → All (λ (t : ContainerTable). IsTrue (has_no_snap t.code)) (map container_of cs)
no_snaps [] h = All-nil (λ (t : ContainerTable). IsTrue (has_no_snap t.code))
no_snaps (c ∷ cs) h =
    let (one, rest) = and_parts (has_no_snap c.code.items) (list_all (λ (c : ScriptContainer). has_no_snap c.code.items) cs) h in
    All-cons (λ (t : ContainerTable). IsTrue (has_no_snap t.code)) (container_of c) (map container_of cs) one (no_snaps cs rest)

pub returns : goal.returns
returns c holds =
    no_snaps c.args.script.now.containers.items (ap (list_all (λ (c : ScriptContainer). has_no_snap c.code.items)) (sym c.deref.ensures.value) ∙ sym c.have_no_snaps.ensures ∙ holds)
