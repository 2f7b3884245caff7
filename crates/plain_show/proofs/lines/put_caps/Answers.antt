-- What stands in the slot is what the clause looks up there.
use Rattle.std.proofs.Common.{◌≡◌, ℕ, ◌<◌, List, length, Option, get_or, refl, sym, ap, subst, arith}
use Rattle.std.proofs.lemmas.Option.{slice_get_read}
use Rattle.base_types.specs.declared.capabilities.Cap.{Cap}
use Rattle.plain_states.specs.model_kernel.Words.{cap_at, flat}
use Rattle.edge_streams.specs.Streams.{AppendsPart}
use Rattle.std.specs.Io.KnownBytes.{Appends}
use Rattle.plain_show.specs.Show.{cap_line}
use Rattle.line_text.proofs.Puts.{Appends-upto, AppendsPart-upto, Puts-cut}
use Rattle.plain_show.proofs.lines.put_caps.Goals as goal

slot_at : (caps : List (Option Cap)) (i : ℕ) (cap : Option Cap) → i < length caps → cap ≡ get_or caps i cap → cap ≡ cap_at caps i
slot_at caps i cap within is = sym (ap flat (slice_get_read caps (length caps) i cap refl within is))

pub returns-in_err-put_cap-clause-bytes : goal.returns-in_err-put_cap-clause-bytes
returns-in_err-put_cap-clause-bytes g c =
    let a = g.N.Names.atlas c.args.names.now in
    let caps = c.args.caps.now in
    let x = c.args.entity in
    let i = c.loop-slot.slot in
    let within : i < length caps = omega arith in
    let same = slot_at caps i c.index-caps-slot.result within c.index-caps-slot.is in
    Puts-cut _ _ _ _ _ c.from_residual.ensures.1 (
    AppendsPart-upto (λ slot. cap_line a x slot (cap_at caps slot)) _ _ _ (length caps) i within c.loop-slot.invariant.put
    (subst (λ (cap : Option Cap). AppendsPart (g.W.Sink.held c.loop-slot.sink) (g.W.Sink.held c.put_cap.new.sink) (cap_line a x i cap)) same c.in_err-put_cap.ensures.bytes)
    )

pub loop-slot-preserved : goal.loop-slot-preserved
loop-slot-preserved g c =
    let a = g.N.Names.atlas c.args.names.now in
    let caps = c.args.caps.now in
    let x = c.args.entity in
    let i = c.loop-slot.slot in
    let within : i < length caps = omega arith in
    let same = slot_at caps i c.index-caps-slot.result within c.index-caps-slot.is in
    record {
      put = Appends-upto (λ slot. cap_line a x slot (cap_at caps slot)) _ _ _ i _ refl c.loop-slot.invariant.put
          (subst (λ (cap : Option Cap). Appends (g.W.Sink.held c.loop-slot.sink) (g.W.Sink.held c.put_cap.new.sink) (cap_line a x i cap)) same c.in_ok-put_cap.ensures.bytes);
      count = omega arith;
    }
