use Rattle.std.proofs.Common.{◌≡◌, ◌++◌, length, take}
use Rattle.std.specs.List.{flat_map}
use Rattle.resp_args.specs.Args.{args_of}
use Rattle.resp_parse.specs.declared.type_byte.TypeByte.TheVariants as type_byte
use Rattle.resp_parse.specs.TypeBytes.{byte_of}
use Rattle.resp_command.specs.Packed.{length_line, bulk}
use Rattle.resp_command.proofs.packing.append_packed.Given as goal

abbrev pub invariant-loop-arg : goal.invariant-loop-arg
invariant-loop-arg l = l.out.items ≡ l.fn.out.items
    ++ (length_line (byte_of type_byte.Array) (length l.args) ++ flat_map bulk (args_of (take l.arg-index l.args)))
