-- What a packed command spells.
use Rattle.std.proofs.Common.{◌≡◌, ℕ, zero, suc, ◌<◌, ◌≤◌, ◌^◌, true, List, [], ◌∷◌, ◌++◌, length, map, Some, None, Ok}
use Rattle.std.proofs.Common.{Err, refl, sym, ap, ◌∙◌, arith, length-append, append_assoc, append-nil}
use Rattle.std.proofs.lemmas.Fmt.{IsAscii-decimal, digits_decimal}
use Rattle.std.proofs.lemmas.List.{append_cancel_left}
use Rattle.std.proofs.lemmas.Str.{IsUtf8-from_ascii}
use Rattle.std.proofs.lemmas.Bool.{and_parts, leb-true}
use Rattle.std.specs.Char.{is_ascii_digit}
use Rattle.std.specs.Fmt.{decimal}
use Rattle.std.specs.List.{flat_map}
use Rattle.std.specs.Str.{IsUtf8, all_ascii_digits}
use Rattle.resp_value.specs.declared.value.Value.{Value, Array, BulkString}
use Rattle.resp_args.specs.Args.{Args}
use Rattle.resp_parse.specs.Lines.{crlf, NoBreak}
use Rattle.resp_parse.proofs.Prefixes.{law_of_prefixes}
use Rattle.resp_parse.specs.Reads.{Reads}
use Rattle.resp_parse.specs.declared.type_byte.TypeByte.{TypeByte}
use Rattle.resp_parse.specs.declared.type_byte.TypeByte.TheVariants as type_byte
use Rattle.resp_parse.specs.TypeBytes.{byte_of}
use Rattle.resp_parse.specs.Grammar.{WellFormed, Header, Joined, announced, body, elements, with_valid, or_nil}
use Rattle.resp_errors.specs.declared.kinds.FrameFault.TheVariants.{NotInteger}
use Rattle.resp_command.specs.Packed.{length_line, bulk, packed, as_value}
use Rattle.resp_command.specs.PackingLaw.{LawOfPacking}
use Rattle.resp_command.proofs.DecimalReadsBack.{own, number-decimal}

-- no line break stands among digits
digits_unbroken : (ds : List ℕ) → all_ascii_digits ds ≡ true → NoBreak ds
digits_unbroken [] h [] y e = cc
digits_unbroken [] h (x ∷ xs) y e = cc
digits_unbroken (c ∷ cs) h [] y e =
    let same : c ≡ 13 = cc in
    let p = and_parts (is_ascii_digit c) (all_ascii_digits cs) h in
    let q = and_parts _ _ p.0 in
    let low = leb-true 48 c q.0 in
    omega arith
digits_unbroken (c ∷ cs) h (x ∷ xs) y e = digits_unbroken cs (and_parts (is_ascii_digit c) (all_ascii_digits cs) h).1 xs
    y (cc)

-- the byte of a type, a length and what follows are a header
headed : (kind : TypeByte) (len : ℕ) (rest b : List ℕ) → len < 2 ^ 63 → b ≡ length_line (byte_of kind) len ++ rest
    → Header b kind (decimal len) rest
headed kind len rest b small e = record {
  bytes = e ∙ ap (λ l. byte_of kind ∷ l) (append_assoc (decimal len) crlf rest);
  unbroken = digits_unbroken (decimal len) (digits_decimal own len (omega arith));
}

text_of : (len : ℕ) → len < 2 ^ 63 → IsUtf8 (decimal len)
text_of len small = IsUtf8-from_ascii (decimal len) (IsAscii-decimal len (omega arith))

bulk_announced : (len : ℕ) → len < 2 ^ 63 → announced type_byte.BulkString (decimal len)
    ≡ body len (λ bytes. Ok (BulkString bytes))
bulk_announced len small = ap (λ o. with_valid (elim o [ Some n ↦ Ok n | None ↦ Err NotInteger ])
    (or_nil (λ k. body k (λ bytes. Ok (BulkString bytes))))) (number-decimal len small)

array_announced : (len : ℕ) → len < 2 ^ 63 → announced type_byte.Array (decimal len)
    ≡ elements len (λ values. Ok (Array values))
array_announced len small = ap (λ o. with_valid (elim o [ Some n ↦ Ok n | None ↦ Err NotInteger ])
    (or_nil (λ k. elements k (λ values. Ok (Array values))))) (number-decimal len small)

-- a bulk string spells its argument
bulk_well_formed : (d : ℕ) (arg : List ℕ) → length arg < 2 ^ 63 → WellFormed (suc d) (bulk arg) (BulkString arg)
bulk_well_formed d arg small = record {
  kind = type_byte.BulkString;
  text = decimal (length arg);
  rest = arg ++ crlf;
  header = headed type_byte.BulkString (length arg) (arg ++ crlf) (bulk arg) small refl;
  text_is_utf8 = text_of (length arg) small;
  follows = rw (bulk_announced (length arg) small) (record { content = arg; size = refl; whole = refl; makes = refl });
}

-- each argument is short
abbrev AllShort : Args → Type 0
AllShort [] = Unit {0}
AllShort (arg ∷ args) = (length arg < 2 ^ 63) × AllShort args

bulks_joined : (d : ℕ) (args : Args) → AllShort args
    → Joined (WellFormed (suc d)) (flat_map bulk args) (map BulkString args)
bulks_joined d [] h = refl
bulks_joined d (arg ∷ args) h = record {
  first = bulk arg;
  others = flat_map bulk args;
  whole = refl;
  first_is = bulk_well_formed d arg h.0;
  others_are = bulks_joined d args h.1;
}

length-map : (args : Args) → length (map BulkString args) ≡ length args
length-map [] = refl
length-map (arg ∷ args) = ap suc (length-map args)

packed_well_formed : (d : ℕ) (args : Args) → length args < 2 ^ 63 → AllShort args
    → WellFormed (suc (suc d)) (packed args) (as_value args)
packed_well_formed d args few short = record {
  kind = type_byte.Array;
  text = decimal (length args);
  rest = flat_map bulk args;
  header = headed type_byte.Array (length args) (flat_map bulk args) (packed args) few refl;
  text_is_utf8 = text_of (length args) few;
  follows = rw (array_announced (length args) few)
      (record {
        values = map BulkString args;
        size = length-map args;
        joined = bulks_joined d args short;
        makes = refl;
      });
}

bulk_longer : (arg : List ℕ) → length arg < length (bulk arg)
bulk_longer arg = simp length-append (omega arith)

few : (args : Args) → length args ≤ length (flat_map bulk args)
few [] = omega arith
few (arg ∷ args) = let rest = few args in let one = bulk_longer arg in
    omega (arith, length-append (bulk arg) (flat_map bulk args))

short : (args : Args) → length (flat_map bulk args) < 2 ^ 63 → AllShort args
short [] h = tt
short (arg ∷ args) h =
    let both = length-append (bulk arg) (flat_map bulk args) in
    let one = bulk_longer arg in
    (omega arith, short args (omega arith))

-- no well-formed list is empty
pub well_formed_some : (d : ℕ) (v : Value) → WellFormed d [] v → ⊥
well_formed_some zero v h = h
well_formed_some (suc d) v h = let e = h.header.bytes in cc

-- nor has an empty list a well-formed prefix
no_prefix : (d : ℕ) (x y : List ℕ) (v : Value) → x ++ y ≡ [] → WellFormed d x v → ⊥
no_prefix d [] y v e h = well_formed_some d v h
no_prefix d (b ∷ x) y v e h = cc

-- bytes read as one list of values only
pub joined_once : (d : ℕ) (b : List ℕ) (vs ws : List Value) → Joined (WellFormed d) b vs → Joined (WellFormed d) b ws
    → vs ≡ ws
joined_once d b [] [] h k = refl
joined_once d b [] (w ∷ ws) h k = absurd (no_prefix d k.first k.others w (sym k.whole ∙ h) k.first_is)
joined_once d b (v ∷ vs) [] h k = absurd (no_prefix d h.first h.others v (sym h.whole ∙ k) h.first_is)
joined_once d b (v ∷ vs) (w ∷ ws) h k =
    let same = (law_of_prefixes d h.first h.others k.first k.others).values v w (sym h.whole ∙ k.whole) h.first_is
    k.first_is in
    let rest : h.others ≡ k.others = append_cancel_left h.first h.others k.others
    (sym h.whole ∙ k.whole ∙ ap (λ a. a ++ k.others) (sym same.0)) in
    let others = joined_once d h.others vs ws h.others_are (rw (sym rest) at k.others_are) in
    cc

pub packed_reads_only : (args : Args) → LawOfPacking args
unfolding Reads
packed_reads_only args small =
    let body = flat_map bulk args in
    let some : length body < 2 ^ 63 = omega (
      arith,
      length-append (length_line (byte_of type_byte.Array) (length args))
          body,
    ) in
    let well_formed = packed_well_formed 98 args (let n = few args in omega arith) (short args some) in
    let reads : Joined (WellFormed 100) (packed args) (as_value args ∷ []) = record {
      first = packed args;
      others = [];
      whole = sym (append-nil (packed args));
      first_is = well_formed;
      others_are = refl;
    } in
    record { reads = reads; only = λ vs h. joined_once 100 (packed args) vs (as_value args ∷ []) h reads }
