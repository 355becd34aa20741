use Rattle.std.proofs.Common.{refl, arith}
use Rattle.layout_lint.specs.Nodes.{numbers_of}
use Rattle.adf_repack.specs.Places.{table_room}
use Rattle.adf_repack.proofs.CopyLaws.{dims_are, numbers_are, limited_is}
use Rattle.adf_repack.proofs.headers.packed_header.Goals as goal

pub returns-clause-says : goal.returns-clause-says
returns-clause-says c =
    rw (
      dims_are c.args.wide c.args.header.now.rank (numbers_of c.args.header.now) c.args.values.now _ refl c.requires.values c.dimensions.ensures,
      numbers_are c.args.header.now,
      c.pointer.ensures.says,
      c.pointer-2.ensures.says,
      c.chunk_count.ensures,
      c.node_length.ensures,
      c.table_room.ensures,
      c.is_some.ensures,
      limited_is (table_room c.args.shape.children) (omega (arith, c.requires.near)),
    ) refl
