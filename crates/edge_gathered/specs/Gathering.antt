-- What stands in a writer that gathers.
use Rattle.std.specs.Prelude.{ℕ, List, Option}
use Rattle.std.specs.Io.Buffered.{writer_buffer, writer_contents, writer_inner}
use Rattle.edge_gathered.specs.declared.gathering.GatheringWriter.{GatheringWriter}

-- the writer below
abbrev pub inner_of : {W : Type 0} → GatheringWriter W → W
inner_of w = writer_inner w.writer

-- what is gathered and not handed on
abbrev pub gathered : {W : Type 0} → GatheringWriter W → List ℕ
gathered w = writer_buffer w.writer

-- what the writer below holds, and behind it what is gathered, where that writer tells its bytes
abbrev pub gathered_contents : {W : Type 0} → (W → Option (List ℕ)) → GatheringWriter W → Option (List ℕ)
gathered_contents contents w = writer_contents contents w.writer
