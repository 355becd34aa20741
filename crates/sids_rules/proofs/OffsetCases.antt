-- Worked cases: what `check4` finds in sections with start offsets.
use Rattle.std.specs.Prelude.{◌≡◌, ℕ, false, List, [], ◌∷◌, ◌++◌, length, map, replicate, Option, Some, None, codes, refl}
use Rattle.std.specs.List.{flat_map}
use Rattle.adf_format.specs.declared.types.DataType.{DataType}
use Rattle.adf_format.specs.declared.types.DataType.TheVariants.{I4, R4, C1}
use Rattle.adf_format.specs.declared.types.Format.TheVariants.{Little}
use Rattle.adf_format.specs.Tree.{Node, fresh_root}
use Rattle.adf_model.specs.Slots.{Files}
use Rattle.adf_model.specs.Slots.Slot.{Live}
use Rattle.adf_model.specs.Follow.{follow}
use Rattle.sids_tables.specs.Labels.{profile_labels}
use Rattle.sids_tables.specs.Words.{grid_locations, zone_types, simulation_types, data_classes, bc_types}
use Rattle.sids_tables.specs.Elements.{element_nodes}
use Rattle.sids_rules.specs.Rules.{check_rules}
use Rattle.sids_rules.specs.OffsetRules.{offset_rules, check4_rules}
use Rattle.sids_rules.specs.Walk.{seen_nodes}
use Rattle.sids_rules.specs.Findings.{findings, findings_by, lines_by}

-- bytes of small numbers of type I4, and of -1
abbrev i4 : List ℕ → List ℕ
i4 numbers = flat_map (λ n. n ∷ 0 ∷ 0 ∷ 0 ∷ []) numbers

abbrev minus : ℕ → List ℕ
minus n = n ∷ 255 ∷ 255 ∷ 255 ∷ []

abbrev ints : List ℕ → List ℕ → List ℕ → List ℕ → List ℕ → Option Node
ints name label dims bytes children = Some (record { name = name; label = label; kind = I4; dims = dims; bytes = Some bytes; children = children })

abbrev text : List ℕ → List ℕ → List ℕ → Option Node
text name label bytes = Some (record { name = name; label = label; kind = C1; dims = length bytes ∷ []; bytes = Some bytes; children = [] })

abbrev list : List ℕ → List ℕ → Option Node
list name numbers = ints name (codes "DataArray_t") (length numbers ∷ []) (i4 numbers) []

abbrev offsets : List ℕ → Option Node
offsets numbers = list (codes "ElementStartOffset") numbers

-- a base with an unstructured zone of 4 vertices and 2 cells, and these sections
abbrev with : List ℕ → List (Option Node) → Files
with sections nodes =
    record {
      name = codes "a.cgns";
      slot = Live (record {
        tree = record {
          wide = false;
          format = Little;
          nodes =
              Some (record fresh_root { children = 1 ∷ 2 ∷ [] })
              ∷ Some (record { name = codes "CGNSLibraryVersion"; label = codes "CGNSLibraryVersion_t"; kind = R4; dims = 1 ∷ []; bytes = Some (0 ∷ 0 ∷ 64 ∷ 64 ∷ []); children = [] })
              ∷ ints (codes "Base") (codes "CGNSBase_t") (2 ∷ []) (i4 (3 ∷ 3 ∷ [])) (3 ∷ [])
              ∷ ints (codes "Z") (codes "Zone_t") (1 ∷ 3 ∷ []) (i4 (4 ∷ 2 ∷ 0 ∷ [])) (4 ∷ sections)
              ∷ text (codes "ZoneType") (codes "ZoneType_t") (codes "Unstructured")
              ∷ nodes;
        };
        writable = false;
        limit = 16;
      });
    }
    ∷ []

abbrev section : ℕ → ℕ → ℕ → List ℕ → List (Option Node)
section code start end children =
    ints (codes "M") (codes "Elements_t") (2 ∷ []) (i4 (code ∷ 0 ∷ [])) children
    ∷ ints (codes "ElementRange") (codes "IndexRange_t") (2 ∷ []) (i4 (start ∷ end ∷ [])) []
    ∷ []

abbrev two_triangles : List ℕ
two_triangles = 5 ∷ 1 ∷ 2 ∷ 3 ∷ 5 ∷ 2 ∷ 3 ∷ 4 ∷ []

-- two triangles in a mixed section, with these numbers and offsets
abbrev mixed : List ℕ → Option Node → Files
mixed numbers child = with (5 ∷ []) (section 20 1 2 (6 ∷ 7 ∷ 8 ∷ []) ++ list (codes "ElementConnectivity") numbers ∷ child ∷ [])

-- the findings of `check4`, and of `check`
abbrev found : Files → List ℕ
found files = map (λ f. f.number) (findings_by check4_rules files 0)

abbrev found_before : Files → List ℕ
found_before files = map (λ f. f.number) (findings files 0)

nothing_found : found (mixed two_triangles (offsets (0 ∷ 4 ∷ 8 ∷ []))) ≡ []
unfolding follow profile_labels grid_locations zone_types simulation_types data_classes bc_types element_nodes check_rules offset_rules seen_nodes
nothing_found = refl

-- no list of offsets, which only `check4` wants; and one under another name, and of another type
k35 : found (mixed two_triangles (list (codes "StartOffset") (0 ∷ 4 ∷ 8 ∷ []))) ≡ 35 ∷ []
unfolding follow profile_labels grid_locations zone_types simulation_types data_classes bc_types element_nodes check_rules offset_rules seen_nodes
k35 = refl

k35_before : found_before (mixed two_triangles (list (codes "StartOffset") (0 ∷ 4 ∷ 8 ∷ []))) ≡ []
unfolding follow profile_labels grid_locations zone_types simulation_types data_classes bc_types element_nodes check_rules offset_rules seen_nodes
k35_before = refl

k35_type : found (mixed two_triangles (ints (codes "ElementStartOffset") (codes "DataArray_t") (3 ∷ 1 ∷ []) (i4 (0 ∷ 4 ∷ 8 ∷ [])) [])) ≡ 35 ∷ []
unfolding follow profile_labels grid_locations zone_types simulation_types data_classes bc_types element_nodes check_rules offset_rules seen_nodes
k35_type = refl

k35_line : lines_by check4_rules (mixed two_triangles (list (codes "StartOffset") (0 ∷ 4 ∷ 8 ∷ []))) 0 ≡ codes "/Base/Z/M K35 start-offset" ∷ []
unfolding follow profile_labels grid_locations zone_types simulation_types data_classes bc_types element_nodes check_rules offset_rules seen_nodes
k35_line = refl

-- too few, and then the numbers are not judged
k36 : found (mixed two_triangles (offsets (0 ∷ 8 ∷ []))) ≡ 36 ∷ []
unfolding follow profile_labels grid_locations zone_types simulation_types data_classes bc_types element_nodes check_rules offset_rules seen_nodes
k36 = refl

-- a wrong end, a fall, and a wrong beginning
k37 : found (mixed two_triangles (offsets (0 ∷ 4 ∷ 7 ∷ []))) ++ found (mixed two_triangles (offsets (0 ∷ 9 ∷ 8 ∷ []))) ++ found (mixed two_triangles (offsets (1 ∷ 4 ∷ 8 ∷ []))) ≡ 37 ∷ 37 ∷ 37 ∷ []
unfolding follow profile_labels grid_locations zone_types simulation_types data_classes bc_types element_nodes check_rules offset_rules seen_nodes
k37 = refl

-- a piece that is too short, and one whose code fixes no number of nodes
k38 : found (mixed two_triangles (offsets (0 ∷ 3 ∷ 8 ∷ []))) ++ found (mixed (22 ∷ 1 ∷ 2 ∷ 3 ∷ 5 ∷ 2 ∷ 3 ∷ 4 ∷ []) (offsets (0 ∷ 4 ∷ 8 ∷ []))) ≡ 38 ∷ 38 ∷ []
unfolding follow profile_labels grid_locations zone_types simulation_types data_classes bc_types element_nodes check_rules offset_rules seen_nodes
k38 = refl

-- a node above the vertices, and one under 1; the code 5 of a piece is none
k39 : found (mixed (5 ∷ 1 ∷ 2 ∷ 3 ∷ 5 ∷ 2 ∷ 3 ∷ 5 ∷ []) (offsets (0 ∷ 4 ∷ 8 ∷ []))) ++ found (mixed (5 ∷ 0 ∷ 2 ∷ 3 ∷ 5 ∷ 2 ∷ 3 ∷ 4 ∷ []) (offsets (0 ∷ 4 ∷ 8 ∷ []))) ≡ 39 ∷ 39 ∷ []
unfolding follow profile_labels grid_locations zone_types simulation_types data_classes bc_types element_nodes check_rules offset_rules seen_nodes
k39 = refl

-- polygons, whose pieces have no code
k39_polygons : found (with (5 ∷ []) (section 22 1 1 (6 ∷ 7 ∷ 8 ∷ []) ++ list (codes "ElementConnectivity") (1 ∷ 2 ∷ 5 ∷ []) ∷ offsets (0 ∷ 3 ∷ []) ∷ [])) ≡ 39 ∷ []
unfolding follow profile_labels grid_locations zone_types simulation_types data_classes bc_types element_nodes check_rules offset_rules seen_nodes
k39_polygons = refl

-- a polyhedron whose face is no polygon of the zone
k40 : found (with (5 ∷ []) (section 23 3 3 (6 ∷ 7 ∷ 8 ∷ []) ++ ints (codes "ElementConnectivity") (codes "DataArray_t") (1 ∷ []) (minus 255) [] ∷ offsets (0 ∷ 1 ∷ []) ∷ [])) ≡ 40 ∷ []
unfolding follow profile_labels grid_locations zone_types simulation_types data_classes bc_types element_nodes check_rules offset_rules seen_nodes
k40 = refl

-- one that has a polygon as its face, turned round
abbrev faced : ℕ → Files
faced face = with (5 ∷ 9 ∷ []) (
    section 23 3 3 (6 ∷ 7 ∷ 8 ∷ [])
    ++ ints (codes "ElementConnectivity") (codes "DataArray_t") (1 ∷ []) (minus face) [] ∷ offsets (0 ∷ 1 ∷ [])
    ∷ ints (codes "N") (codes "Elements_t") (2 ∷ []) (i4 (22 ∷ 0 ∷ [])) (10 ∷ 11 ∷ 12 ∷ [])
    ∷ ints (codes "ElementRange") (codes "IndexRange_t") (2 ∷ []) (i4 (1 ∷ 1 ∷ [])) []
    ∷ list (codes "ElementConnectivity") (1 ∷ 2 ∷ 3 ∷ [])
    ∷ offsets (0 ∷ 3 ∷ [])
    ∷ [])

k40_face : found (faced 255) ≡ []
unfolding follow profile_labels grid_locations zone_types simulation_types data_classes bc_types element_nodes check_rules offset_rules seen_nodes
k40_face = refl

-- and -2, which is none
k40_other : found (faced 254) ≡ 40 ∷ []
unfolding follow profile_labels grid_locations zone_types simulation_types data_classes bc_types element_nodes check_rules offset_rules seen_nodes
k40_other = refl
