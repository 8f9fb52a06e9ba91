use Rattle.std.proofs.Common.{List, ℕ, drop, Result}
use Rattle.resp_encode.specs.declared.write_error.WriteError.{WriteError}
use Rattle.resp_encode.specs.Resp2.{flat}
use Rattle.resp_encode.specs.Encoding.{joined}
use Rattle.resp_encode.specs.Encodings.{encoding_in}
use Rattle.resp_encode.specs.Appending.{AppendsText}
use Rattle.resp_encode.proofs.values.+write.Given as goal

abbrev pub invariant-write_elements-loop-element : goal.invariant-write_elements-loop-element
invariant-write_elements-loop-element l = (r : Result (Unit {0}) WriteError) (new : List ℕ)
    → AppendsText r (joined (encoding_in l.protocol l.depth) (drop l.element-index l.elements)) l.out.items new
    → AppendsText r (joined (encoding_in l.protocol l.depth) l.elements) l.initial.out.items new

abbrev pub invariant-write_pairs-loop-key : goal.invariant-write_pairs-loop-key
invariant-write_pairs-loop-key l = (r : Result (Unit {0}) WriteError) (new : List ℕ)
    → AppendsText r (joined (encoding_in l.protocol l.depth) (flat (drop l.key-index l.pairs))) l.out.items new
    → AppendsText r (joined (encoding_in l.protocol l.depth) (flat l.pairs)) l.initial.out.items new
