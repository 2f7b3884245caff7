-- What stands in a source over a reader, and in a sink over a writer.
use Rattle.std.specs.Prelude.{ℕ}
use Rattle.edge_streams.specs.declared.standard.ReadSource.{ReadSource}
use Rattle.edge_streams.specs.declared.standard.WriteSink.{WriteSink}

-- the reader that the source reads
abbrev pub reader_of : {R : Type 0} → ReadSource R → R
reader_of source = source.reader

-- how many takes have failed
abbrev pub faults_of_reads : {R : Type 0} → ReadSource R → ℕ
faults_of_reads source = source.faults

-- the writer that the sink writes
abbrev pub writer_of : {W : Type 0} → WriteSink W → W
writer_of sink = sink.writer

-- how many puts have failed
abbrev pub faults_of_writes : {W : Type 0} → WriteSink W → ℕ
faults_of_writes sink = sink.faults
