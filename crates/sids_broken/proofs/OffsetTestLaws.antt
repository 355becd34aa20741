-- The rules of `check4` that a node breaks are the tests on it that hold.
use Rattle.std.proofs.Common.{◌≡◌, ◌∙◌, sym, ap, refl, ℕ, ℤ, pos, Bool, true, false, List, [], ◌∷◌, ◌++◌, ◌||◌, map}
use Rattle.std.specs.Prelude.{Option, Some, None, option_map, if◌then◌else◌, not, ◌&&◌}
use Rattle.std.specs.List.{list_any}
use Rattle.std.specs.Ordering.{int_eq}
use Rattle.std.proofs.lemmas.Bool.Decides.{Decides-int_eq}
use Rattle.std.proofs.lemmas.List.{append-nil}
use Rattle.adf_model.specs.declared.tree.NodeId.{NodeId}
use Rattle.adf_model.specs.Slots.{Files}
use Rattle.sids_tables.specs.declared.labels.LabelKind.{LabelKind}
use Rattle.sids_tables.specs.declared.labels.LabelKind.TheVariants.{Elements}
use Rattle.sids_tables.specs.contracts.labels.LabelKindPartialEq.TheImpl as kind_eq
use Rattle.sids_views.specs.Views.{given, node_there, kind_there}
use Rattle.sids_rules.specs.declared.seen.Seen.{Seen}
use Rattle.sids_rules.specs.Values.{ints_there, is_small}
use Rattle.sids_rules.specs.Terms.{zone_sizes, vertex_limit}
use Rattle.sids_rules.specs.Rules.{Rule, check_rules, broken_of, broken_numbers, Section, section_there}
use Rattle.sids_rules.specs.OffsetRules.{offset_rules, check4_rules, offset_child, offset_section_of, OffsetSection, has_pieces, has_bad_pieces, has_bad_piece, has_bad_node, has_bad_piece_node, has_bad_offsets, is_no_face, face_ranges}
use Rattle.sids_rules.proofs.ByKind.{seen, held_are}
use Rattle.sids_readings.specs.declared.around.Surroundings.{Surroundings}
use Rattle.sids_readings.specs.declared.rule_sets.RuleSet.{RuleSet}
use Rattle.sids_readings.specs.declared.rule_sets.RuleSet.TheVariants as set
use Rattle.sids_section_rules.specs.declared.section_rules.Spot.{Spot}
use Rattle.sids_offset_rules.specs.declared.pieces.PieceFault.{PieceFault}
use Rattle.sids_offset_rules.specs.declared.pieces.PieceFault.TheVariants as fault
use Rattle.sids_readings.specs.RuleSets.{rules_of}
use Rattle.sids_readings.specs.Held.{held}
use Rattle.sids_readings.specs.Around.{zone_numbers, surroundings, limit_around}
use Rattle.sids_offset_rules.specs.Pieces.{piece_fault}
use Rattle.sids_section_rules.specs.SectionTests.{section_parts}
use Rattle.sids_offset_rules.specs.OffsetTests.{lacks_list, is_list_off, listed, is_bad_piece, is_bad_node, lacks_face, piece_tests, offset_tests}
use Rattle.sids_broken.specs.NodeTests.{dims_beside, tests_with_place}
use Rattle.sids_readings.proofs.TextLaws.{or_false}
use Rattle.sids_readings.proofs.HeldLaws.{held_append, two_before}
use Rattle.sids_broken.proofs.KindLaws.{same_given, within_limit, law}

-- ---- what is wrong with pieces

two_codes : (code : ℤ) → int_eq code (pos 20) ≡ true → int_eq code (pos 22) ≡ false
two_codes code h = ap (λ c. int_eq c (pos 22)) ((Decides-int_eq code (pos 20)).0 h)

never : (limit : Option (Option ℤ)) → given limit (λ l. false) ≡ false
never None = refl
never (Some l) = refl

piece_if : (node : Bool) → is_bad_piece (if node then Some fault.Node else None) ≡ false
piece_if true = refl
piece_if false = refl

node_if : (node : Bool) → is_bad_node (if node then Some fault.Node else None) ≡ node
node_if true = refl
node_if false = refl

module _ (bad_piece : Bool) (mixed polygons : Option ℤ → Bool) (limit : Option (Option ℤ)) where
  -- by the two codes, and whether pieces are looked at
  abbrev found : Bool → Bool → Bool → Option PieceFault
  found looked is_mixed is_of_polygons =
      if looked then (if is_mixed then (if bad_piece then Some fault.Piece else if given limit mixed then Some fault.Node else None)
      else if is_of_polygons then (if given limit polygons then Some fault.Node else None) else None) else None

  pieces_by : (looked is_mixed is_of_polygons : Bool) → (b : Bool) → bad_piece ≡ b → is_bad_piece (found looked is_mixed is_of_polygons) ≡ (looked && (is_mixed && bad_piece))
  pieces_by true true p true e = rw e refl
  pieces_by true true p false e = rw e (piece_if (given limit mixed))
  pieces_by true false true b e = piece_if (given limit polygons)
  pieces_by true false false b e = refl
  pieces_by false m p b e = refl

  nodes_by : (looked is_mixed is_of_polygons : Bool) → (is_mixed ≡ true → is_of_polygons ≡ false) → (b : Bool) → bad_piece ≡ b
      → is_bad_node (found looked is_mixed is_of_polygons)
      ≡ given limit (λ l. looked && not (is_mixed && bad_piece) && ((is_mixed && mixed l) || (is_of_polygons && polygons l)))
  nodes_by true true p one true e = rw e (sym (never limit))
  nodes_by true true p one false e =
      rw (e, one refl) (node_if (given limit mixed) ∙ same_given limit mixed (λ l. mixed l || false) (λ l. sym (or_false (mixed l))))
  nodes_by true false true one b e = node_if (given limit polygons)
  nodes_by true false false one b e = sym (never limit)
  nodes_by false m p one b e = sym (never limit)

module _ (files : Files) (section : OffsetSection) (limit : Option (Option ℤ)) where
  abbrev entries : List ℤ
  entries = ints_there files section.connectivity

  abbrev offsets : List ℤ
  offsets = ints_there files section.offsets

  pieces_are : (has_pieces files section && has_bad_pieces files section) ≡ is_bad_piece (piece_fault files section limit)
  pieces_are = sym (pieces_by (has_bad_piece entries offsets) (has_bad_node 1 entries offsets) (has_bad_node 0 entries offsets) limit
      (has_pieces files section) (int_eq section.code (pos 20)) (int_eq section.code (pos 22)) (has_bad_piece entries offsets) refl)

  nodes_are : given limit (λ l. has_pieces files section && not (has_bad_pieces files section) && has_bad_piece_node section.code entries offsets l) ≡ is_bad_node (piece_fault files section limit)
  nodes_are = sym (nodes_by (has_bad_piece entries offsets) (has_bad_node 1 entries offsets) (has_bad_node 0 entries offsets) limit
      (has_pieces files section) (int_eq section.code (pos 20)) (int_eq section.code (pos 22)) (two_codes section.code) (has_bad_piece entries offsets) refl)

-- with the limit that is around
nodes_around : (files : Files) (zone : Option NodeId) (test : Option ℤ → Bool)
    → given zone (λ at. given (zone_sizes files at) (λ sizes. test (vertex_limit files at sizes))) ≡ given (limit_around (option_map (zone_numbers files) zone)) test
nodes_around files None test = refl
nodes_around files (Some at) test = within_limit files at (zone_sizes files at) test

in_other_order : (a b c d : Bool) → (a && b && c && d) ≡ (b && (a && c && d))
in_other_order true b c d = aside b c d
  where
    aside : (b c d : Bool) → (b && c && d) ≡ (b && (c && d))
    aside true c d = refl
    aside false c d = refl
in_other_order false true c d = refl
in_other_order false false c d = refl

faces_are : (files : Files) (zone : Option NodeId) (section : OffsetSection)
    → given zone (λ at. int_eq section.code (pos 23) && not (has_bad_offsets files section) && is_small (node_there files section.connectivity) && list_any (is_no_face (face_ranges files at)) (ints_there files section.connectivity))
    ≡ lacks_face files zone section
faces_are files None section = refl
faces_are files (Some at) section =
    in_other_order (int_eq section.code (pos 23)) (not (has_bad_offsets files section)) (is_small (node_there files section.connectivity))
    (list_any (is_no_face (face_ranges files at)) (ints_there files section.connectivity))

-- ---- the tests on a section with offsets

listed_is : (files : Files) (at : NodeId) (section : Option Section) → offset_section_of files at section ≡ listed files section (offset_child files at)
listed_is files at None = refl
listed_is files at (Some section) = refl

numbers_are : (files : Files) (zone : Option NodeId) (o : Option OffsetSection)
    → held ((37, given o (has_bad_offsets files))
    ∷ (38, given o (λ s. has_pieces files s && has_bad_pieces files s))
    ∷ (
      39,
      given o (λ s. given zone (λ in_zone. given (zone_sizes files in_zone) (λ sizes.
          has_pieces files s && not (has_bad_pieces files s) && has_bad_piece_node s.code (ints_there files s.connectivity) (ints_there files s.offsets) (vertex_limit files in_zone sizes)))),
    )
    ∷ (
      40,
      given o (λ s. given zone (λ in_zone. int_eq s.code (pos 23) && not (has_bad_offsets files s) && is_small (node_there files s.connectivity)
          && list_any (is_no_face (face_ranges files in_zone)) (ints_there files s.connectivity))),
    )
    ∷ [])
    ≡ held (piece_tests files zone (limit_around (option_map (zone_numbers files) zone)) o)
numbers_are files above None = refl
numbers_are files above (Some s) =
    let limit = limit_around (option_map (zone_numbers files) above) in
    ap (λ b. held ((37, has_bad_offsets files s) ∷ (38, b) ∷ (
      39,
      given above (λ in_zone. given (zone_sizes files in_zone) (λ sizes.
          has_pieces files s && not (has_bad_pieces files s) && has_bad_piece_node s.code (ints_there files s.connectivity) (ints_there files s.offsets) (vertex_limit files in_zone sizes))),
    )
    ∷ (
      40,
      given above (λ in_zone. int_eq s.code (pos 23) && not (has_bad_offsets files s) && is_small (node_there files s.connectivity)
          && list_any (is_no_face (face_ranges files in_zone)) (ints_there files s.connectivity)),
    ) ∷ []))
    (pieces_are files s limit)
    ∙ ap (λ b. held ((37, has_bad_offsets files s) ∷ (38, is_bad_piece (piece_fault files s limit)) ∷ (39, b)
    ∷ (
      40,
      given above (λ in_zone. int_eq s.code (pos 23) && not (has_bad_offsets files s) && is_small (node_there files s.connectivity)
          && list_any (is_no_face (face_ranges files in_zone)) (ints_there files s.connectivity)),
    ) ∷ []))
    (nodes_around files above (λ l. has_pieces files s && not (has_bad_pieces files s) && has_bad_piece_node s.code (ints_there files s.connectivity) (ints_there files s.offsets) l) ∙ nodes_are files s limit)
    ∙ ap (λ b. held ((37, has_bad_offsets files s) ∷ (38, is_bad_piece (piece_fault files s limit)) ∷ (39, is_bad_node (piece_fault files s limit)) ∷ (40, b) ∷ [])) (faces_are files above s)

-- ---- both lists of rules

one_more : (b : Bool) (r : Rule) (rules : List Rule) (numbers others : List ℕ) → map (λ (r : Rule). r.number) rules ≡ numbers ++ others
    → map (λ (r : Rule). r.number) (if b then r ∷ rules else rules) ≡ (if b then r.number ∷ numbers else numbers) ++ others
one_more true r rules numbers others h = ap (λ ns. r.number ∷ ns) h
one_more false r rules numbers others h = h

if_more : (b : Bool) (r : Rule) (rules : List Rule) → map (λ (r : Rule). r.number) (if b then r ∷ rules else rules) ≡ (if b then r.number ∷ map (λ (r : Rule). r.number) rules else map (λ (r : Rule). r.number) rules)
if_more true r rules = refl
if_more false r rules = refl

pub numbers_append : (rules others : List Rule) (files : Files) (s : Seen) → broken_numbers (rules ++ others) files s ≡ broken_numbers rules files s ++ broken_numbers others files s
numbers_append [] others files s = refl
numbers_append (r ∷ rules) others files s =
    one_more (r.is_broken files s) r (broken_of (rules ++ others) files s) (broken_numbers rules files s) (broken_numbers others files s) (numbers_append rules others files s)
    ∙ ap (λ ns. ns ++ broken_numbers others files s) (sym (if_more (r.is_broken files s) r (broken_of rules files s)))

module _ (files : Files) (node at parent : NodeId) (base zone : Option NodeId) where
  abbrev s : Seen
  s = seen files node at parent base zone

  abbrev spot : Spot
  spot = record { node = node; at = at; parent = parent; zone = zone; overlaps = None }

  abbrev around : Surroundings
  around = surroundings files s

  abbrev dims : Option (List ℤ)
  dims = dims_beside files s

  elsewhere : (k : LabelKind) → kind_eq.ghosts.eq k Elements ≡ false → kind_there files at ≡ k → broken_numbers offset_rules files s ≡ []
  unfolding offset_rules
  elsewhere k other is = rw (is, other) refl

  offset_law : kind_there files at ≡ Elements → broken_numbers offset_rules files s ≡ held (offset_tests files zone (limit_around around.zone) (section_parts files at) (offset_child files at))
  unfolding offset_rules
  offset_law is =
      held_are offset_rules files s ∙ rw (is, listed_is files at (section_there files at))
      (ap (two_before (35, lacks_list (section_parts files at) (offset_child files at)) (36, is_list_off files (section_parts files at) (offset_child files at)))
      (numbers_are files zone (listed files (section_there files at) (offset_child files at))))

  abbrev Law : LabelKind → Type 0
  Law k = broken_numbers check4_rules files s ≡ held (tests_with_place set.Check4 k files spot around dims)

  both_lists : broken_numbers check4_rules files s ≡ broken_numbers check_rules files s ++ broken_numbers offset_rules files s
  both_lists = numbers_append check_rules offset_rules files s

  as_before : (k : LabelKind) → kind_eq.ghosts.eq k Elements ≡ false → kind_there files at ≡ k → broken_numbers check4_rules files s ≡ held (tests_with_place set.Check k files spot around dims)
  as_before k other is =
      both_lists ∙ ap (λ ns. broken_numbers check_rules files s ++ ns) (elsewhere k other is) ∙ append-nil (broken_numbers check_rules files s) ∙ law files node at parent base zone k is

  law4 : (k : LabelKind) → kind_there files at ≡ k → Law k
  law4 Elements is =
      both_lists
      ∙ ap (λ ns. ns ++ broken_numbers offset_rules files s) (law files node at parent base zone Elements is)
      ∙ ap (λ ns. held (tests_with_place set.Check Elements files spot around dims) ++ ns) (offset_law is)
      ∙ sym (held_append (tests_with_place set.Check Elements files spot around dims) (offset_tests files zone (limit_around around.zone) (section_parts files at) (offset_child files at)))
  law4 other is = as_before other refl is

  -- the rules of a set that a node breaks
  pub broken_are : (rules : RuleSet) (k : LabelKind) → kind_there files at ≡ k → broken_numbers (rules_of rules) files s ≡ held (tests_with_place rules k files spot around dims)
  broken_are set.Check k is = law files node at parent base zone k is
  broken_are set.Check4 k is = law4 k is
