use Rattle.std.proofs.Common.{◌≡◌, ◌+◌, ◌*◌, ◌++◌, length, take, map}
use Rattle.std.specs.List.{flat_map}
use Rattle.adf_format.specs.Hex.{hex_text}
use Rattle.data_edits.proofs.fields.put_dimensions.Given as goal

-- the dimensions so far stand behind what was written before
abbrev pub invariant-loop-i : goal.invariant-loop-i
invariant-loop-i l = record {
  end : l.end ≡ l.at + l.i * l.digits;
  long : length l.into ≡ length l.initial.into;
  text : take l.end l.into ≡ take l.at l.initial.into ++ flat_map (λ d. d) (map (hex_text l.digits) (take l.i l.shape.dims));
}
