use Rattle.std.proofs.Common.{◌≡◌, drop, length, take}
use Rattle.blob_facts.proofs.Plain.{PlainSoFar}
use Rattle.blob_facts.proofs.Tables.{Block}
use Rattle.blob_reading.proofs.lists.read_table.Given as goal

abbrev pub invariant-loop-page : goal.invariant-loop-page
invariant-loop-page l =
    (length l.table ≡ 256) × PlainSoFar Block l.fn.pages l.initial.rest l.page (take l.page l.table) l.rest × (drop l.fn.pages l.table ≡ drop l.fn.pages l.initial.table)
