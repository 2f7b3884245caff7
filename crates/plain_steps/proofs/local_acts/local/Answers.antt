use Rattle.std.proofs.Common.{◌≡◌, refl, ap, sym, ◌∙◌}
use Rattle.base_types.specs.declared.capabilities.Region.{Region}
use Rattle.base_types.specs.declared.histories.Answer.{Answer}
use Rattle.base_types.specs.declared.instructions.Instr.TheVariants.{Set, Copy, Add, Sub, Jump, Jz, Load, Store, Invoke, Leave, Return, Map, Unmap, Lmap, Lunmap, Take, Give, Drop, Make, Spawn, Stop, Go, Snap, Stabilise, Print, Halt}
use Rattle.base_types.specs.declared.instructions.Reply.TheVariants.{Ok as OkReply}
use Rattle.model_kernel.specs.Outcomes.{Outcome, local_act, own_reply, with_private}
use Rattle.plain_states.specs.Plains.{locus_of}
use Rattle.plain_states.proofs.ActLemmas.{ok_by, on_ok_by}
use Rattle.plain_states.proofs.model_act_facts_lemmas.LocalLemmas.{lmap_pages, local_go, local_lmap, local_snap, local_stabilise}
use Rattle.plain_steps.proofs.local_acts.local.Goals as goal

pub new_region-region-requires-clause-page : goal.new_region-region-requires-clause-page
new_region-region-requires-clause-page c = lmap_pages _ c.args.instr _ c.in-Lmap.c _ _ c.in-Lmap.rights c.in-Lmap.is c.requires.allowed

pub returns-in-Lmap-clause-locus : goal.returns-in-Lmap-clause-locus
returns-in-Lmap-clause-locus c =
    let l = locus_of c.args.l.now in
    let is : local_act l c.args.instr ≡ own_reply (with_private l c.new_region-region.result) OkReply =
    local_lmap l c.args.instr _ _ _ _ c.in-Lmap.rights c.in-Lmap.is ∙ ap (λ (r : Region). own_reply (with_private l r) OkReply) (sym c.new_region-region.ensures) in
    on_ok_by c.lmap.result (λ (e : locus_of c.lmap.new.l ≡ (own_reply (with_private l c.new_region-region.result) OkReply).locus). e ∙ ap (λ (o : Outcome). o.locus) (sym is)) c.lmap.ensures.locus

pub returns-in-Lmap-clause-answer : goal.returns-in-Lmap-clause-answer
returns-in-Lmap-clause-answer c =
    let l = locus_of c.args.l.now in
    let is : local_act l c.args.instr ≡ own_reply (with_private l c.new_region-region.result) OkReply =
    local_lmap l c.args.instr _ _ _ _ c.in-Lmap.rights c.in-Lmap.is ∙ ap (λ (r : Region). own_reply (with_private l r) OkReply) (sym c.new_region-region.ensures) in
    ok_by c.lmap.result (λ (answer : Answer) (e : answer ≡ (own_reply (with_private l c.new_region-region.result) OkReply).answer). e ∙ ap (λ (o : Outcome). o.answer) (sym is)) c.lmap.ensures.answer

pub returns-in-Go-clause-locus : goal.returns-in-Go-clause-locus
returns-in-Go-clause-locus c = c.finish.ensures.locus ∙ ap (λ (o : Outcome). o.locus) (sym (local_go (locus_of c.args.l.now) _ _ c.in-Go.is))

pub returns-in-Go-clause-answer : goal.returns-in-Go-clause-answer
returns-in-Go-clause-answer c = c.finish.ensures.answer ∙ ap (λ (o : Outcome). o.answer) (sym (local_go (locus_of c.args.l.now) _ _ c.in-Go.is))

pub returns-in-Snap-clause-locus : goal.returns-in-Snap-clause-locus
returns-in-Snap-clause-locus c = c.finish-in-Snap.ensures.locus ∙ ap (λ (o : Outcome). o.locus) (sym (local_snap (locus_of c.args.l.now) _ _ c.in-Snap.is))

pub returns-in-Snap-clause-answer : goal.returns-in-Snap-clause-answer
returns-in-Snap-clause-answer c = c.finish-in-Snap.ensures.answer ∙ ap (λ (o : Outcome). o.answer) (sym (local_snap (locus_of c.args.l.now) _ _ c.in-Snap.is))

pub returns-in-Stabilise-clause-locus : goal.returns-in-Stabilise-clause-locus
returns-in-Stabilise-clause-locus c = c.finish-in-Stabilise.ensures.locus ∙ ap (λ (o : Outcome). o.locus) (sym (local_stabilise (locus_of c.args.l.now) _ _ c.in-Stabilise.is))

pub returns-in-Stabilise-clause-answer : goal.returns-in-Stabilise-clause-answer
returns-in-Stabilise-clause-answer c = c.finish-in-Stabilise.ensures.answer ∙ ap (λ (o : Outcome). o.answer) (sym (local_stabilise (locus_of c.args.l.now) _ _ c.in-Stabilise.is))

-- every other instruction halts here
halts : (c : goal.After-halt) → local_act (locus_of c.args.l.now) c.args.instr ≡ local_act (locus_of c.args.l.now) Halt
unfolding local_act
halts c =
    let no = c.in_default in
    elim c.args.instr as (λ i. c.args.instr ≡ i → local_act (locus_of c.args.l.now) i ≡ local_act (locus_of c.args.l.now) Halt) [
      | Set d n ↦ λ is. absurd (no.not-Set d n is)
      | Copy d s ↦ λ is. absurd (no.not-Copy d s is)
      | Add d s ↦ λ is. absurd (no.not-Add d s is)
      | Sub d s ↦ λ is. absurd (no.not-Sub d s is)
      | Jump p ↦ λ is. absurd (no.not-Jump p is)
      | Jz s p ↦ λ is. absurd (no.not-Jz s p is)
      | Load d a ↦ λ _. refl
      | Store a s ↦ λ _. refl
      | Invoke k ↦ λ _. refl
      | Leave k ↦ λ _. refl
      | Return ↦ λ _. refl
      | Map d a k b n rights ↦ λ _. refl
      | Unmap d a ↦ λ _. refl
      | Lmap a k b n rights ↦ λ is. absurd (no.not-Lmap a k b n rights is)
      | Lunmap a ↦ λ is. absurd (no.not-Lunmap a is)
      | Take d k y ↦ λ _. refl
      | Give d k s rights ↦ λ _. refl
      | Drop s ↦ λ is. absurd (no.not-Drop s is)
      | Make d n t e ↦ λ _. refl
      | Spawn d p ↦ λ _. refl
      | Stop k ↦ λ is. absurd (no.not-Stop k is)
      | Go k ↦ λ is. absurd (no.not-Go k is)
      | Snap k ↦ λ is. absurd (no.not-Snap k is)
      | Stabilise k ↦ λ is. absurd (no.not-Stabilise k is)
      | Print s ↦ λ is. absurd (no.not-Print s is)
      | Halt ↦ λ _. refl
    ] refl

pub returns-in_default-clause-locus : goal.returns-in_default-clause-locus
returns-in_default-clause-locus c = c.halt.ensures.locus ∙ ap (λ (o : Outcome). o.locus) (sym (halts c))

pub returns-in_default-clause-answer : goal.returns-in_default-clause-answer
returns-in_default-clause-answer c = c.halt.ensures.answer ∙ ap (λ (o : Outcome). o.answer) (sym (halts c))
