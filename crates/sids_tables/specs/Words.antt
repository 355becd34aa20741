-- The words of the nodes whose text is one of a list.
use Rattle.std.specs.Prelude.{ℕ, List, [], ◌∷◌, codes}

unfoldable pub grid_locations : List (List ℕ)
grid_locations =
    codes "Vertex"
    ∷ codes "CellCenter"
    ∷ codes "FaceCenter"
    ∷ codes "IFaceCenter"
    ∷ codes "JFaceCenter"
    ∷ codes "KFaceCenter"
    ∷ codes "EdgeCenter"
    ∷ codes "UserDefined"
    ∷ codes "Null"
    ∷ []

unfoldable pub zone_types : List (List ℕ)
zone_types = codes "Structured" ∷ codes "Unstructured" ∷ codes "UserDefined" ∷ codes "Null" ∷ []

unfoldable pub simulation_types : List (List ℕ)
simulation_types = codes "TimeAccurate" ∷ codes "NonTimeAccurate" ∷ codes "UserDefined" ∷ codes "Null" ∷ []

unfoldable pub data_classes : List (List ℕ)
data_classes =
    codes "Dimensional"
    ∷ codes "NormalizedByDimensional"
    ∷ codes "NormalizedByUnknownDimensional"
    ∷ codes "NondimensionalParameter"
    ∷ codes "DimensionlessConstant"
    ∷ codes "UserDefined"
    ∷ codes "Null"
    ∷ []

-- the types of boundary conditions
unfoldable pub bc_types : List (List ℕ)
bc_types =
    codes "Null"
    ∷ codes "UserDefined"
    ∷ codes "BCAxisymmetricWedge"
    ∷ codes "BCDegenerateLine"
    ∷ codes "BCDegeneratePoint"
    ∷ codes "BCDirichlet"
    ∷ codes "BCExtrapolate"
    ∷ codes "BCFarfield"
    ∷ codes "BCGeneral"
    ∷ codes "BCInflow"
    ∷ codes "BCInflowSubsonic"
    ∷ codes "BCInflowSupersonic"
    ∷ codes "BCNeumann"
    ∷ codes "BCOutflow"
    ∷ codes "BCOutflowSubsonic"
    ∷ codes "BCOutflowSupersonic"
    ∷ codes "BCSymmetryPlane"
    ∷ codes "BCSymmetryPolar"
    ∷ codes "BCTunnelInflow"
    ∷ codes "BCTunnelOutflow"
    ∷ codes "BCWall"
    ∷ codes "BCWallInviscid"
    ∷ codes "BCWallViscous"
    ∷ codes "BCWallViscousHeatFlux"
    ∷ codes "BCWallViscousIsothermal"
    ∷ codes "FamilySpecified"
    ∷ []
