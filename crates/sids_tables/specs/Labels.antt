-- The labels of the profile, and the children that a node of each kind may have.
use Rattle.std.specs.Prelude.{ℕ, List, [], ◌∷◌, codes, if◌then◌else◌}
use Rattle.std.specs.Str.{bytes_eq}
use Rattle.sids_tables.specs.declared.labels.LabelKind.{LabelKind}
use Rattle.sids_tables.specs.declared.labels.LabelKind.TheVariants.{Root, CgnsLibraryVersion, CgnsBase, Zone, ZoneType, GridCoordinates, Elements, FlowSolution, ZoneBc, Bc, DataArray, Family, FamilyName, SimulationType, DataClass, DimensionalUnits, DimensionalExponents, Descriptor, UserDefinedData, Rind, IndexRange, IndexArray, GridLocation, Other}

-- each label of the profile with its kind
unfoldable pub profile_labels : List (List ℕ × LabelKind)
profile_labels =
    (codes "CGNSLibraryVersion_t", CgnsLibraryVersion)
    ∷ (codes "CGNSBase_t", CgnsBase)
    ∷ (codes "Zone_t", Zone)
    ∷ (codes "ZoneType_t", ZoneType)
    ∷ (codes "GridCoordinates_t", GridCoordinates)
    ∷ (codes "Elements_t", Elements)
    ∷ (codes "FlowSolution_t", FlowSolution)
    ∷ (codes "ZoneBC_t", ZoneBc)
    ∷ (codes "BC_t", Bc)
    ∷ (codes "DataArray_t", DataArray)
    ∷ (codes "Family_t", Family)
    ∷ (codes "FamilyName_t", FamilyName)
    ∷ (codes "SimulationType_t", SimulationType)
    ∷ (codes "DataClass_t", DataClass)
    ∷ (codes "DimensionalUnits_t", DimensionalUnits)
    ∷ (codes "DimensionalExponents_t", DimensionalExponents)
    ∷ (codes "Descriptor_t", Descriptor)
    ∷ (codes "UserDefinedData_t", UserDefinedData)
    ∷ (codes "Rind_t", Rind)
    ∷ (codes "IndexRange_t", IndexRange)
    ∷ (codes "IndexArray_t", IndexArray)
    ∷ (codes "GridLocation_t", GridLocation)
    ∷ []

-- the kind that a table gives a label, Other where it has no such label
abbrev pub kind_in : List (List ℕ × LabelKind) → List ℕ → LabelKind
kind_in [] label = Other
kind_in (entry ∷ table) label = if bytes_eq entry.0 label then entry.1 else kind_in table label

-- the kind of a label
abbrev pub kind_of : List ℕ → LabelKind
kind_of label = kind_in profile_labels label

-- children that many nodes may have, whatever they describe
abbrev pub general : List LabelKind
general = DataClass ∷ DimensionalUnits ∷ Descriptor ∷ UserDefinedData ∷ []

-- the kinds of the children that a node of a kind may have
abbrev pub children_of : LabelKind → List LabelKind
children_of Root = CgnsLibraryVersion ∷ CgnsBase ∷ []
children_of CgnsBase = Zone ∷ Family ∷ SimulationType ∷ general
children_of Zone = ZoneType ∷ GridCoordinates ∷ Elements ∷ FlowSolution ∷ ZoneBc ∷ FamilyName ∷ general
children_of GridCoordinates = DataArray ∷ Rind ∷ general
children_of Elements = IndexRange ∷ DataArray ∷ Rind ∷ Descriptor ∷ UserDefinedData ∷ []
children_of FlowSolution = DataArray ∷ GridLocation ∷ Rind ∷ IndexRange ∷ IndexArray ∷ general
children_of ZoneBc = Bc ∷ general
children_of Bc = IndexRange ∷ IndexArray ∷ GridLocation ∷ FamilyName ∷ DataArray ∷ general
children_of DataArray = DimensionalExponents ∷ DataClass ∷ DimensionalUnits ∷ Descriptor ∷ []
children_of Family = Family ∷ FamilyName ∷ general
children_of UserDefinedData = DataArray ∷ GridLocation ∷ FamilyName ∷ IndexRange ∷ IndexArray ∷ general
children_of _ = []
