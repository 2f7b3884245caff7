use Rattle.std.proofs.Common.{◌≡◌, ◌*◌, length, map, take}
use Rattle.base_types.specs.Edges.{upto}
use Rattle.base_bytes.specs.Fields.{number_at}
use Rattle.page_words.proofs.words_in.Given as goal

abbrev pub invariant-loop-i : goal.invariant-loop-i
invariant-loop-i l = record { len : length l.words ≡ 128; read : take l.i l.words ≡ map (λ k. number_at (8 * k) 8 l.block) (upto l.i) }
