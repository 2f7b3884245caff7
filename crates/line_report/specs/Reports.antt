-- The text of a report.
use Rattle.std.specs.Prelude.{ℕ, ◌==◌, nat_lt, if◌then◌else◌, List, [], ◌++◌, codes, decimal, length, slice_index}
use Rattle.std.specs.List.{enumerate_from, flat_map}
use Rattle.base_types.specs.declared.records.Rec.{Rec}
use Rattle.line_text.specs.model_kernel.State.{Text}
use Rattle.image_blocks.specs.declared.areas.Area.{Area}
use Rattle.image_blocks.specs.declared.areas.Area.TheVariants.{A, B}
use Rattle.line_text.specs.Lines.{line_end, word}

abbrev pub area_letter : Area → Text
area_letter A = codes "A"
area_letter B = codes "B"

-- a record at the cut is chosen; others are earlier or later
abbrev pub state_word : ℕ → ℕ → Text
state_word chosen version = if version == chosen then codes "chosen" else if nat_lt version chosen then codes "earlier" else codes "later"

-- the line of the log: its area, its epoch, and how many slots are used
unfoldable pub log_line : Area → ℕ → List Rec → Text
log_line area epoch recs =
    codes "area" ++ word (area_letter area) ++ word (codes "epoch") ++ word (decimal epoch) ++ word (codes "used") ++ word (decimal (length recs)) ++ line_end

-- a record in its slot
unfoldable pub rec_line : List ℕ → ℕ × Rec → Text
rec_line cut r =
    codes "rec" ++ word (decimal r.0) ++ word (decimal r.1.entity) ++ word (decimal r.1.version)
    ++ word (state_word (slice_index cut r.1.entity) r.1.version) ++ line_end

-- an entity of which a version is chosen
unfoldable pub cut_line : ℕ × ℕ → Text
cut_line c = if c.1 == 0 then [] else codes "cut" ++ word (decimal c.0) ++ word (decimal c.1) ++ line_end

unfoldable pub rec_lines : List Rec → List ℕ → Text
rec_lines recs cut = flat_map (rec_line cut) (enumerate_from 0 recs)

unfoldable pub cut_lines : List ℕ → Text
cut_lines cut = flat_map cut_line (enumerate_from 0 cut)

-- THE REPORT: the log, its records by their slots, and the chosen versions by their entities
unfoldable pub report_text : Area → ℕ → List Rec → List ℕ → Text
report_text area epoch recs cut = log_line area epoch recs ++ rec_lines recs cut ++ cut_lines cut
