-- The first bad place of an image's areas and of the records of its log.
use Rattle.std.specs.Prelude.{ℕ, zero, suc, ◌+◌, Bool, true, false, ◌==◌, nat_lt, if◌then◌else◌, List, [], ◌∷◌, length, map, take, Option, Some, None, option_map}
use Rattle.edge_disk.specs.Image.{Image, block_at}
use Rattle.base_types.specs.Edges.{upto}
use Rattle.base_types.specs.declared.records.Rec.{Rec}
use Rattle.image_facts.specs.model_kernel.Words.{first}
use Rattle.image_blocks.specs.Layout.{header_at, body_at, slot_gate_at, epoch_in}
use Rattle.image_facts.specs.Layout.{slot_count, is_open}
use Rattle.image_facts.specs.Bodies.{record_in}
use Rattle.image_blocks.specs.declared.areas.Area.{Area}
use Rattle.image_blocks.specs.declared.faults.Bad.{Bad as BadPlace}
use Rattle.image_blocks.specs.declared.areas.Area.TheVariants.{A, B}
use Rattle.image_facts.specs.Checks.{count_in, superblock_fault, header_fault, body_fault}

-- a bad place: a block, and a byte in it
abbrev pub Bad : Type 0
Bad = BadPlace

abbrev pub in_block : ℕ → Option ℕ → Option Bad
in_block block place = option_map (λ p. record { block = block; place = p }) place

abbrev pub check_1 : Image → Option Bad
check_1 image = if length image == 0 then Some (record { block = 0; place = 0 }) else in_block 0 (superblock_fault (length image) (block_at image 0))

-- CHECK 2: the areas' gates, and the header of the active one

-- the area whose gate is open, and of two open ones that with the greater epoch
abbrev pub active_by : Bool → Bool → ℕ → ℕ → Option Area
active_by false false a b = None
active_by true false a b = Some A
active_by false true a b = Some B
active_by true true a b = if nat_lt b a then Some A else if nat_lt a b then Some B else None

abbrev pub active_area : Image → Option Area
active_area image = active_by (is_open image 2) (is_open image 4) (epoch_in image A) (epoch_in image B)

abbrev pub no_area : Bool → Option Bad
no_area true = Some (record { block = 3; place = 0 })
no_area false = Some (record { block = 2; place = 0 })

abbrev pub area_fault : Image → Option Area → Option Bad
area_fault image None = no_area (is_open image 2)
area_fault image (Some area) = in_block (header_at area) (header_fault (block_at image (header_at area)))

abbrev pub check_2 : Image → Option Bad
check_2 image = area_fault image (active_area image)

-- THE LOG of an area: its slots before the first closed gate, or all

abbrev pub used_from : ℕ → Image → Area → ℕ → ℕ
used_from zero image area i = 0
used_from (suc n) image area i = if is_open image (slot_gate_at area i) then suc (used_from n image area (i + 1)) else 0

abbrev pub used_in : Image → Area → ℕ
used_in image area = used_from slot_count image area 0

abbrev pub body_in : Image → Area → ℕ → List ℕ
body_in image area i = block_at image (body_at area i)

abbrev pub log_in : Image → Area → List Rec
log_in image area = map (λ i. record_in (body_in image area i)) (upto (used_in image area))

abbrev pub slot_fault : Image → Area → ℕ → Option Bad
slot_fault image area i = in_block (body_at area i) (body_fault (count_in image) (take i (log_in image area)) (body_in image area i))

abbrev pub log_fault : Image → Option Area → Option Bad
log_fault image None = None
log_fault image (Some area) = first (map (slot_fault image area) (upto (used_in image area)))

abbrev pub check_3 : Image → Option Bad
check_3 image = log_fault image (active_area image)

-- the first bad place by checks 1 to 3
unfoldable pub records_fault : Image → Option Bad
records_fault image = first (check_1 image ∷ check_2 image ∷ check_3 image ∷ [])
