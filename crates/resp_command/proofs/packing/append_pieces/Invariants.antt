use Rattle.std.proofs.Common.{◌≡◌, ◌++◌, ◌+◌, length}
use Rattle.resp_parse.specs.declared.type_byte.TypeByte.TheVariants as type_byte
use Rattle.resp_parse.specs.TypeBytes.{byte_of}
use Rattle.resp_command.specs.Packed.{length_line}
use Rattle.resp_command.proofs.PackedPieces.{PartPacked}
use Rattle.resp_command.proofs.packing.append_pieces.Given as goal

abbrev pub invariant-loop-place : goal.invariant-loop-place
invariant-loop-place l = record {
  passed_is : l.passed ≡ l.place-index;
  part : PartPacked l.text l.encoded_args l.cursors l.done l.passed
      (l.fn.out.items ++ length_line (byte_of type_byte.Array) (length l.encoded_args + length l.cursors)) l.out.items;
}
