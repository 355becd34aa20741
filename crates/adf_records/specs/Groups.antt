-- The rules of the file header in three groups: what is written of every file, the sizes, the pointers.
use Rattle.std.specs.Prelude.{ℕ, true, false, ◌&&◌, ◌||◌, List, [], ◌∷◌, ◌++◌, map, filter}
use Rattle.adf_format.specs.Hex.{is_hex}
use Rattle.adf_format.specs.Fields.{holds}
use Rattle.adf_format.specs.declared.fields.TheConstants.{HEADER_WHAT, HEADER_FORMAT, HEADER_FREE_TABLE, WHAT_PRODUCT, WHAT_VERSION, WHAT_CLOSING, PRODUCT, CLOSING, FREE_TABLE_PLACE}
use Rattle.adf_format.specs.RecordFields.{is_pointer_field, field_in, header_fields, header_size}
use Rattle.adf_format.specs.declared.types.Format.{Format}
use Rattle.adf_format.specs.Parts.{version_letter, format_letter}
use Rattle.adf_format.specs.Checks.{Row, row}
use Rattle.adf_format.specs.FirstFault.{tag_rows, place_row, is_pointer_to}

unfoldable pub mark_rows : List ℕ → List Row
mark_rows bytes =
    row 2 HEADER_WHAT.offset
    (holds bytes WHAT_PRODUCT.offset PRODUCT && (holds bytes WHAT_VERSION.offset (version_letter false) || holds bytes WHAT_VERSION.offset (version_letter true))
    && holds bytes WHAT_CLOSING.offset CLOSING)
    ∷ tag_rows 3 0 bytes header_fields
    ++ row 4 HEADER_FORMAT.offset (holds bytes HEADER_FORMAT.offset (format_letter Format.Little) || holds bytes HEADER_FORMAT.offset (format_letter Format.Big)) ∷ []

unfoldable pub size_row : List ℕ → ℕ → Row
size_row bytes k = row 5 (header_size k).offset (is_hex (field_in bytes (header_size k)))

unfoldable pub place_rows : List ℕ → List Row
place_rows bytes =
    map (place_row bytes) (filter is_pointer_field header_fields) ++ row 7 HEADER_FREE_TABLE.offset (is_pointer_to (field_in bytes HEADER_FREE_TABLE) FREE_TABLE_PLACE) ∷ []
