-- What a status says to people.
use Rattle.std.specs.Prelude.{ℕ, ◌==◌, Bool, [], ◌++◌, codes, cond, decimal, string_bytes}
use Rattle.std.specs.List.{starts_with}
use Rattle.edge_disk.specs.declared.disk.NoBlocks.{NoBlocks}
use Rattle.script_types.specs.model_kernel.State.{Text}
use Rattle.script_types.specs.declared.refusals.Refusal.{Refusal}
use Rattle.script_types.specs.declared.refusals.Why.{Why}
use Rattle.script_types.specs.declared.refusals.Why.TheVariants.{NotToml, Missing, Kind, Name, Unknown, Range, TooMany, BadCode, Long, NoRoom, Clash}
use Rattle.command_outcomes.specs.Faults.{line}
use Rattle.command_outcomes.specs.declared.statuses.Status.{Status}
use Rattle.command_outcomes.specs.declared.statuses.Status.TheVariants.{Done, Usage, Script, Foreign, DiskFault, SourceFault, SinkFault, Memory, BlocksFull, TraceWrong}

-- WHERE A SCRIPT OR A COPY IS REFUSED: at its key, or the script as a whole
abbrev pub subject_by : Text → Why → Text
subject_by key NotToml = codes "it"
subject_by key Long = codes "it"
subject_by key why = key

abbrev pub subject : Refusal → Text
subject refusal = subject_by (string_bytes refusal.key) refusal.why

-- the key is that of a line of a program
abbrev pub is_of_program : Text → Bool
is_of_program key = starts_with (λ a b. a == b) key (codes "program.")

abbrev pub misspelling : Text → Text
misspelling key = cond (is_of_program key) (codes " is no instruction (docs/SCRIPTS.md)") (codes " is no region or capability (docs/SCRIPTS.md)")

-- WHAT IS WRONG THERE
abbrev pub reason_by : Text → Why → Text
reason_by key NotToml = codes " is no TOML in UTF-8 (docs/SCRIPTS.md)"
reason_by key Missing = codes " is missing (docs/SCRIPTS.md)"
reason_by key Kind = codes " is a value of another kind than it has to be (docs/SCRIPTS.md)"
reason_by key Name = codes " is no name, or a name that is taken (docs/SCRIPTS.md)"
reason_by key Unknown = codes " is no key of a script, or names what is not there (docs/SCRIPTS.md)"
reason_by key Range = codes " is out of its range (docs/SCRIPTS.md)"
reason_by key TooMany = codes " has too many items (docs/SCRIPTS.md)"
reason_by key Long = codes " has more than 1048576 bytes (docs/SCRIPTS.md)"
reason_by key NoRoom = codes ": the image has no number left for one more (docs/SCRIPTS.md)"
reason_by key Clash = codes " is the name of another kind of entity in the image (docs/SCRIPTS.md)"
reason_by key BadCode = misspelling key

abbrev pub reason : Refusal → Text
reason refusal = reason_by (string_bytes refusal.key) refusal.why

-- a place of the image
abbrev pub place_text : ℕ → ℕ → Text
place_text block place = codes "byte " ++ decimal place ++ codes " of block " ++ decimal block

-- how many blocks are needed, and how many there are
abbrev pub blocks_text : NoBlocks → Text
blocks_text n = decimal n.need ++ codes " are needed and " ++ decimal n.free ++ codes " are free"

abbrev pub refusal_sentence : Text → Text → Text
refusal_sentence subject reason = line (codes "refused: " ++ subject ++ reason)

abbrev pub foreign_sentence : Text → Text
foreign_sentence place = line (codes "image refused: " ++ place ++ codes " is not as in an image; name another file, or make an empty image by format N (docs/IMAGE.md)")

abbrev pub blocks_sentence : Text → Text
blocks_sentence blocks = line (codes "too few blocks: " ++ blocks ++ codes "; what was made stable stays, and format N makes a larger image, an empty one")

-- a line of a trace
abbrev pub trace_text : ℕ → Text
trace_text number = codes "line " ++ decimal number

abbrev pub trace_sentence : Text → Text
trace_sentence place = line (codes "trace refused: " ++ place ++ codes " is that of no entry that may come next in a run of the script; the output tells the birth or step that it may have been (docs/OUTPUT.md)")

-- THE SENTENCE on a status
abbrev pub sentence : Status → Text
sentence Done = []
sentence Usage = line (codes "usage: hopper_program IMAGE COMMAND; a command is format N, with N from 2600 to 65536 blocks, run, run --trace, run --workers N with N from 1 to 16, mirror STANDBY SEED LOSS, drill N, show, report, copy NAME NEW or check-trace; run and mirror read a script from standard input, and check-trace a script, a line --- and a trace (docs/SCRIPTS.md)")
sentence (Script refusal) = refusal_sentence (subject refusal) (reason refusal)
sentence (Foreign block place) = foreign_sentence (place_text block place)
sentence DiskFault = line (codes "disk fault: the image's file could not be read, written or synced; its disk may be full or gone, and when that is mended the command can be given again")
sentence SourceFault = line (codes "source fault: standard input could not be read, and nothing was run; give the command again")
sentence SinkFault = line (codes "output fault: standard output did not take all lines; what the command did to the image stands")
sentence Memory = line (codes "out of memory: nothing was run, and the image means what it meant; or a run by workers was stopped where it was, and what was made stable stays; a script with fewer steps takes less (docs/SCRIPTS.md)")
sentence (BlocksFull n) = blocks_sentence (blocks_text n)
sentence (TraceWrong number want) = trace_sentence (trace_text number)

-- on a file that can't be opened or made
abbrev pub unopened : Text → Text
unopened path = line (codes "disk fault: " ++ path ++ codes " can't be opened or made as a file to read and write")
