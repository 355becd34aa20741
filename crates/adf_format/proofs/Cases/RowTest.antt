-- More damaged images, so that each rule has a row; and the names on the way to a node that is left out.
use Rattle.std.proofs.Common.{◌≡◌, ℕ, refl, [], ◌∷◌, Bool, arith}
use Rattle.std.specs.Prelude.{Some, None, codes}
use Rattle.adf_format.specs.FirstFault.{header_rows, free_table_rows, end_rows, text_rows, number_rows, pointer_rows, shape_rows, dimension_row, node_rows, visit_extents, table_rows, entry_rows, chunk_table_rows, chunk_rows, data_rows, head_rows, FirstFault, in_head, at_node, in_list, Visit, root_visit, HasNoFault, is_misplaced, extents_found, node_rows_at, count_row_at, free_rows_at, one_chunk_rows}
use Rattle.adf_format.specs.Checks.{stopped, passed, finished}
use Rattle.adf_format.specs.Fields.{field}
use Rattle.adf_format.specs.Links.{path_text}
use Rattle.adf_format.specs.SoundPart.{names_to}
use Rattle.adf_format.specs.Pointer.{To, pointer}
use Rattle.adf_format.proofs.FindLaws.{none_found}
use Rattle.adf_format.proofs.Images.{fresh, written, based, nine, wide}

-- the first field
what_field : FirstFault (written fresh 0 (codes "X")) (record { rule = 2; place = 0 })
unfolding header_rows free_table_rows end_rows head_rows text_rows number_rows pointer_rows shape_rows dimension_row node_rows visit_extents table_rows entry_rows chunk_table_rows chunk_rows one_chunk_rows data_rows count_row_at node_rows_at free_rows_at
what_field = in_head refl

header_tag : FirstFault (written fresh 64 (codes "AdF9")) (record { rule = 3; place = 64 })
unfolding header_rows free_table_rows end_rows head_rows text_rows number_rows pointer_rows shape_rows dimension_row node_rows visit_extents table_rows entry_rows chunk_table_rows chunk_rows one_chunk_rows data_rows count_row_at node_rows_at free_rows_at
header_tag = in_head refl

last_header_tag : FirstFault (written fresh 182 (codes "adf5")) (record { rule = 3; place = 182 })
unfolding header_rows free_table_rows end_rows head_rows text_rows number_rows pointer_rows shape_rows dimension_row node_rows visit_extents table_rows entry_rows chunk_table_rows chunk_rows one_chunk_rows data_rows count_row_at node_rows_at free_rows_at
last_header_tag = in_head refl

size_field : FirstFault (written fresh 108 (codes "0G")) (record { rule = 5; place = 108 })
unfolding header_rows free_table_rows end_rows head_rows text_rows number_rows pointer_rows shape_rows dimension_row node_rows visit_extents table_rows entry_rows chunk_table_rows chunk_rows one_chunk_rows data_rows count_row_at node_rows_at free_rows_at
size_field = in_head refl

blank_root : FirstFault (written fresh 134 (codes "000000001000")) (record { rule = 6; place = 134 })
unfolding header_rows free_table_rows end_rows head_rows text_rows number_rows pointer_rows shape_rows dimension_row node_rows visit_extents table_rows entry_rows chunk_table_rows chunk_rows one_chunk_rows data_rows count_row_at node_rows_at free_rows_at
blank_root = in_head refl

-- offset 4097 is no pointer
end_offset : FirstFault (written fresh 146 (codes "000000001001")) (record { rule = 6; place = 146 })
unfolding header_rows free_table_rows end_rows head_rows text_rows number_rows pointer_rows shape_rows dimension_row node_rows visit_extents table_rows entry_rows chunk_table_rows chunk_rows one_chunk_rows data_rows count_row_at node_rows_at free_rows_at
end_offset = in_head refl

free_table_elsewhere : FirstFault (written fresh 158 (codes "0000000000BB")) (record { rule = 7; place = 158 })
unfolding header_rows free_table_rows end_rows head_rows text_rows number_rows pointer_rows shape_rows dimension_row node_rows visit_extents table_rows entry_rows chunk_table_rows chunk_rows one_chunk_rows data_rows count_row_at node_rows_at free_rows_at
free_table_elsewhere = in_head refl

free_table_end : FirstFault (written fresh 262 (codes "fcte")) (record { rule = 9; place = 262 })
unfolding header_rows free_table_rows end_rows head_rows text_rows number_rows pointer_rows shape_rows dimension_row node_rows visit_extents table_rows entry_rows chunk_table_rows chunk_rows one_chunk_rows data_rows count_row_at node_rows_at free_rows_at
free_table_end = in_head refl

list_field : FirstFault (written fresh 202 (codes "00000000FFFF")) (record { rule = 10; place = 202 })
unfolding header_rows free_table_rows end_rows head_rows text_rows number_rows pointer_rows shape_rows dimension_row node_rows visit_extents table_rows entry_rows chunk_table_rows chunk_rows one_chunk_rows data_rows count_row_at node_rows_at free_rows_at
list_field = in_head refl

root_past_end : FirstFault (written fresh 134 (codes "00000000010B")) (record { rule = 12; place = 267 })
unfolding header_rows free_table_rows end_rows head_rows text_rows number_rows pointer_rows shape_rows dimension_row node_rows visit_extents table_rows entry_rows chunk_table_rows chunk_rows one_chunk_rows data_rows count_row_at node_rows_at free_rows_at
root_past_end = at_node refl (stopped refl)

root_over_header : FirstFault (written fresh 134 (codes "000000000109")) (record { rule = 12; place = 265 })
unfolding header_rows free_table_rows end_rows head_rows text_rows number_rows pointer_rows shape_rows dimension_row node_rows visit_extents table_rows entry_rows chunk_table_rows chunk_rows one_chunk_rows data_rows count_row_at node_rows_at free_rows_at
root_over_header = at_node refl (stopped refl)

-- a child that names the table of its parent
shared_table : FirstFault (written based 588 (codes "000000080000000002F6")) (record { rule = 14; place = 758 })
unfolding header_rows free_table_rows end_rows head_rows text_rows number_rows pointer_rows shape_rows dimension_row node_rows visit_extents table_rows entry_rows chunk_table_rows chunk_rows one_chunk_rows data_rows count_row_at node_rows_at free_rows_at
shared_table = at_node refl (passed refl (stopped refl))

node_tag : FirstFault (written fresh 266 (codes "node")) (record { rule = 15; place = 266 })
unfolding header_rows free_table_rows end_rows head_rows text_rows number_rows pointer_rows shape_rows dimension_row node_rows visit_extents table_rows entry_rows chunk_table_rows chunk_rows one_chunk_rows data_rows count_row_at node_rows_at free_rows_at
node_tag = at_node refl (stopped refl)

node_end_tag : FirstFault (written fresh 508 (codes "tail")) (record { rule = 15; place = 508 })
unfolding header_rows free_table_rows end_rows head_rows text_rows number_rows pointer_rows shape_rows dimension_row node_rows visit_extents table_rows entry_rows chunk_table_rows chunk_rows one_chunk_rows data_rows count_row_at node_rows_at free_rows_at
node_end_tag = at_node refl (stopped refl)

-- a name that is not that of the entry
other_name : FirstFault (written based 516 (codes "Case")) (record { rule = 16; place = 516 })
unfolding header_rows free_table_rows end_rows head_rows text_rows number_rows pointer_rows shape_rows dimension_row node_rows visit_extents table_rows entry_rows chunk_table_rows chunk_rows one_chunk_rows data_rows count_row_at node_rows_at free_rows_at
other_name = at_node refl (passed refl (stopped refl))

label_with_space : FirstFault (written fresh 302 (codes " ")) (record { rule = 17; place = 302 })
unfolding header_rows free_table_rows end_rows head_rows text_rows number_rows pointer_rows shape_rows dimension_row node_rows visit_extents table_rows entry_rows chunk_table_rows chunk_rows one_chunk_rows data_rows count_row_at node_rows_at free_rows_at
label_with_space = at_node refl (stopped refl)

child_count : FirstFault (written fresh 334 (codes "G")) (record { rule = 18; place = 334 })
unfolding header_rows free_table_rows end_rows head_rows text_rows number_rows pointer_rows shape_rows dimension_row node_rows visit_extents table_rows entry_rows chunk_table_rows chunk_rows one_chunk_rows data_rows count_row_at node_rows_at free_rows_at
child_count = at_node refl (stopped refl)

chunk_count : FirstFault (written fresh 492 (codes "000x")) (record { rule = 18; place = 492 })
unfolding header_rows free_table_rows end_rows head_rows text_rows number_rows pointer_rows shape_rows dimension_row node_rows visit_extents table_rows entry_rows chunk_table_rows chunk_rows one_chunk_rows data_rows count_row_at node_rows_at free_rows_at
chunk_count = at_node refl (stopped refl)

-- a table pointer without entries
table_pointer : FirstFault (written fresh 350 (codes "000000000200")) (record { rule = 19; place = 350 })
unfolding header_rows free_table_rows end_rows head_rows text_rows number_rows pointer_rows shape_rows dimension_row node_rows visit_extents table_rows entry_rows chunk_table_rows chunk_rows one_chunk_rows data_rows count_row_at node_rows_at free_rows_at
table_pointer = at_node refl (stopped refl)

rank_too_high : FirstFault (written (written fresh 362 (codes "I4")) 394 (codes "0D")) (record { rule = 21; place = 394 })
unfolding header_rows free_table_rows end_rows head_rows text_rows number_rows pointer_rows shape_rows dimension_row node_rows visit_extents table_rows entry_rows chunk_table_rows chunk_rows one_chunk_rows data_rows count_row_at node_rows_at free_rows_at
rank_too_high = at_node refl (stopped refl)

rank_of_mt : FirstFault (written fresh 394 (codes "01")) (record { rule = 21; place = 394 })
unfolding header_rows free_table_rows end_rows head_rows text_rows number_rows pointer_rows shape_rows dimension_row node_rows visit_extents table_rows entry_rows chunk_table_rows chunk_rows one_chunk_rows data_rows count_row_at node_rows_at free_rows_at
rank_of_mt = at_node refl (stopped refl)

-- a child without an entry
more_children : FirstFault (written fresh 334 (codes "00000001")) (record { rule = 22; place = 334 })
unfolding header_rows free_table_rows end_rows head_rows text_rows number_rows pointer_rows shape_rows dimension_row node_rows visit_extents table_rows entry_rows chunk_table_rows chunk_rows one_chunk_rows data_rows count_row_at node_rows_at free_rows_at
more_children = at_node refl (stopped refl)

table_tag : FirstFault (written based 758 (codes "sntb")) (record { rule = 23; place = 758 })
unfolding header_rows free_table_rows end_rows head_rows text_rows number_rows pointer_rows shape_rows dimension_row node_rows visit_extents table_rows entry_rows chunk_table_rows chunk_rows one_chunk_rows data_rows count_row_at node_rows_at free_rows_at
table_tag = at_node refl (stopped refl)

table_end : FirstFault (written based 762 (codes "000000000465")) (record { rule = 23; place = 762 })
unfolding header_rows free_table_rows end_rows head_rows text_rows number_rows pointer_rows shape_rows dimension_row node_rows visit_extents table_rows entry_rows chunk_table_rows chunk_rows one_chunk_rows data_rows count_row_at node_rows_at free_rows_at
table_end = at_node refl (stopped refl)

table_end_tag : FirstFault (written based 1126 (codes "SNTE")) (record { rule = 23; place = 1126 })
unfolding header_rows free_table_rows end_rows head_rows text_rows number_rows pointer_rows shape_rows dimension_row node_rows visit_extents table_rows entry_rows chunk_table_rows chunk_rows one_chunk_rows data_rows count_row_at node_rows_at free_rows_at
table_end_tag = at_node refl (stopped refl)

entry_blank : FirstFault (written based 806 (codes "000000001000")) (record { rule = 24; place = 774 })
unfolding header_rows free_table_rows end_rows head_rows text_rows number_rows pointer_rows shape_rows dimension_row node_rows visit_extents table_rows entry_rows chunk_table_rows chunk_rows one_chunk_rows data_rows count_row_at node_rows_at free_rows_at
entry_blank = at_node refl (stopped refl)

free_tag : FirstFault (written nine 758 (codes "free")) (record { rule = 29; place = 758 })
unfolding header_rows free_table_rows end_rows head_rows text_rows number_rows pointer_rows shape_rows dimension_row node_rows visit_extents table_rows entry_rows chunk_table_rows chunk_rows one_chunk_rows data_rows count_row_at node_rows_at free_rows_at
free_tag = in_list refl (passed refl (passed refl (passed refl (passed refl (passed refl (passed refl (passed refl (passed refl (passed refl (passed refl finished)))))))))) (stopped refl)

-- no end tag stands where the chunk points
free_end : FirstFault (written nine 762 (codes "000000000467")) (record { rule = 29; place = 1127 })
unfolding header_rows free_table_rows end_rows head_rows text_rows number_rows pointer_rows shape_rows dimension_row node_rows visit_extents table_rows entry_rows chunk_table_rows chunk_rows one_chunk_rows data_rows count_row_at node_rows_at free_rows_at
free_end = in_list refl (passed refl (passed refl (passed refl (passed refl (passed refl (passed refl (passed refl (passed refl (passed refl (passed refl finished)))))))))) (stopped refl)

-- the wide version has its own offsets
wide_end_tag : FirstFault (written wide 604 (codes "tail")) (record { rule = 15; place = 604 })
unfolding header_rows free_table_rows end_rows head_rows text_rows number_rows pointer_rows shape_rows dimension_row node_rows visit_extents table_rows entry_rows chunk_table_rows chunk_rows one_chunk_rows data_rows count_row_at node_rows_at free_rows_at
wide_end_tag = at_node refl (stopped refl)

wide_short_end : FirstFault (written wide 146 (codes "00000000025E")) (record { rule = 8; place = 146 })
unfolding header_rows free_table_rows end_rows head_rows text_rows number_rows pointer_rows shape_rows dimension_row node_rows visit_extents table_rows entry_rows chunk_table_rows chunk_rows one_chunk_rows data_rows count_row_at node_rows_at free_rows_at
wide_short_end = in_head refl

wide_chunk_count : FirstFault (written wide 588 (codes "G")) (record { rule = 18; place = 588 })
unfolding header_rows free_table_rows end_rows head_rows text_rows number_rows pointer_rows shape_rows dimension_row node_rows visit_extents table_rows entry_rows chunk_table_rows chunk_rows one_chunk_rows data_rows count_row_at node_rows_at free_rows_at
wide_chunk_count = at_node refl (stopped refl)

wide_dimension : FirstFault (written (written wide 362 (codes "I4")) 394 (codes "010000000000000000")) (record { rule = 21; place = 396 })
unfolding header_rows free_table_rows end_rows head_rows text_rows number_rows pointer_rows shape_rows dimension_row node_rows visit_extents table_rows entry_rows chunk_table_rows chunk_rows one_chunk_rows data_rows count_row_at node_rows_at free_rows_at
wide_dimension = at_node refl (stopped refl)

-- ---- the wide fresh file has no fault

abbrev in_wide : ℕ → Bool
in_wide b = is_misplaced wide (extents_found wide (root_visit wide ∷ []) []) b

wide_sound : HasNoFault wide (root_visit wide ∷ []) []
unfolding header_rows free_table_rows end_rows head_rows text_rows number_rows pointer_rows shape_rows dimension_row node_rows visit_extents table_rows entry_rows chunk_table_rows chunk_rows one_chunk_rows data_rows count_row_at node_rows_at free_rows_at
wide_sound = record { head = refl; node_walk = passed refl finished; free_walk = finished; tiled = λ b h. none_found in_wide 608 0 refl b (omega arith) (omega (arith, h)) }

-- ---- pointers: block 1 with offset 904 is place 5000, and block 0 with offset 5000 is none

place_5000 : pointer (codes "000000010388") ≡ Some (To 5000)
place_5000 = refl

offset_5000 : pointer (codes "000000001388") ≡ None
offset_5000 = refl

-- ---- the path of a node that is left out

left_name : names_to (root_visit based ∷ []) (record { place = 512; entry = Some (field based 774 32); path = 0 ∷ [] }) ≡ codes "Base" ∷ []
left_name = refl

abbrev deep : Visit
deep = record { place = 900; entry = Some (codes "Zone                            "); path = 0 ∷ 3 ∷ [] }

deep_name : path_text (names_to (root_visit based ∷ record { place = 512; entry = Some (field based 774 32); path = 0 ∷ [] } ∷ record { place = 700; entry = Some (codes "Other"); path = 1 ∷ [] } ∷ []) deep) ≡ codes "/Base/Zone"
deep_name = refl

root_path : path_text (names_to [] (root_visit based)) ≡ codes "/"
root_path = refl
