use denote.Exit.{no}
use denote.Param.Send.{arg_send, param_send}
use Rattle.thread_sharing.proofs.Sharing.{byte_sync, closure_of_five_sync, locks_sync, turn_sync}
use Rattle.std.proofs.Common.{◌≡◌, ◌<◌, length, sym, subst, ◌∙◌, arith}
use Rattle.std.proofs.lemmas.Option.{get_or_from_slice_get, slice_get_within}
use Rattle.thread_runs.specs.Parts.{IsPart}
use Rattle.thread_runs.proofs.Parting.{parts_of}
use Rattle.thread_runs.proofs.Sent.{worked_send}
use Rattle.thread_runs.proofs.boards.all_work.Goals as goal

pub returns-in-Ok : goal.returns-in-Ok
returns-in-Ok g c = λ fed.
    let left = c.passes_of.ensures fed in
    let ws = c.in-Ok.worked.items in
    let workers = c.args.workers in
    let long : length ws ≡ c.from.result = sym c.in-Ok.worked.ok.0 ∙ c.in-Ok.ensures.len in
    parts_of ws (λ w. w.pass) (λ w. w.lacked) workers c.passes_of.result.passes.items left.0 left.1 (long ∙ c.from.ensures)
    (λ i w at.
    let inside = slice_get_within ws i w at in
    let below : i < c.from.result = omega (arith, inside, long) in
    subst (λ r. IsPart i workers r.lacked r.pass.items) (get_or_from_slice_get ws i w w at) (c.in-Ok.ensures.each i w below).1.met)

-- the closure borrows the locks, what is told of steps, the number of workers, whose turn it is, and the runtime
pub map_indices-requires-sync-F : goal.map_indices-requires-sync-F
map_indices-requires-sync-F g c κs within =
    let may = c.type_bounds in
    let locks = locks_sync _ _ _ _ g.D.Disk g.S.Supplier g.P.Policy g.B.Board g.B.Bond g.B.Run g.B.Bench g.B.Ledger may.send-D may.sync-S may.sync-P may.send-S may.send-P may.send-B may.sync-B in
    record { shared = (closure_of_five_sync _ _ _ _ _ _ _ κs.0 _ _ locks may.sync-G byte_sync turn_sync may.sync-R).shared }

-- what they leave may go to the thread that waits for them
pub map_indices-requires-send-X : goal.map_indices-requires-send-X
map_indices-requires-send-X g c κs within = param_send 1 _ (arg_send _ no _ (worked_send _ g.B.Bench g.B.Ledger c.type_bounds.send-B))
