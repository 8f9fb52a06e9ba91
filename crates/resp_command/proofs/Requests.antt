-- What packed commands spell, one after another.
use Rattle.std.proofs.Common.{ℕ, ◌<◌, ◌^◌, List, [], ◌∷◌, ◌++◌, length, map, refl, sym, ap, ◌∙◌, subst, arith}
use Rattle.std.proofs.Common.{length-append, append-nil}
use Rattle.std.specs.List.{flat_map}
use Rattle.resp_value.specs.declared.value.Value.{Value}
use Rattle.resp_args.specs.Args.{Args}
use Rattle.resp_parse.specs.Reads.{Reads}
use Rattle.resp_parse.specs.Grammar.{WellFormed, Joined}
use Rattle.resp_command.specs.Packed.{packed, as_value}
use Rattle.resp_command.specs.PackingLaw.{LawOfRequests}
use Rattle.resp_command.proofs.PackedReadsBack.{packed_reads_only, joined_once}

-- bytes that are joined of one value spell it
only_one : (d : ℕ) (b : List ℕ) (v : Value) → Joined (WellFormed d) b (v ∷ []) → WellFormed d b v
only_one d b v h = subst (λ (l : List ℕ). WellFormed d l v)
    (sym (h.whole ∙ ap (λ t. h.first ++ t) h.others_are ∙ append-nil h.first)) h.first_is

joined_values : (lists : List Args) → length (flat_map packed lists) < 2 ^ 63
    → Joined (WellFormed 100) (flat_map packed lists) (map as_value lists)
unfolding Reads
joined_values [] small = refl
joined_values (args ∷ lists) small =
    let both = length-append (packed args) (flat_map packed lists) in
    let one = (packed_reads_only args (omega arith)).reads in
    record {
      first = packed args;
      others = flat_map packed lists;
      whole = refl;
      first_is = only_one 100 (packed args) (as_value args) one;
      others_are = joined_values lists (omega arith);
    }

pub requests_read_only : (lists : List Args) → LawOfRequests lists
unfolding Reads
requests_read_only lists small =
    let reads = joined_values lists small in
    record { reads = reads; only = λ vs h. joined_once 100 (flat_map packed lists) vs (map as_value lists) h reads }
