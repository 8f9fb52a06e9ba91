-- Arrays of bulk strings, and their bytes.
use Rattle.std.proofs.Common.{◌≡◌, ◌≢◌, ℕ, true, false, Bool, List, [], ◌∷◌, length, map, refl, sym, ap, ◌∙◌, arith}
use Rattle.std.proofs.lemmas.Bool.{and_parts, lt-ltb}
use Rattle.std.specs.List.{list_all}
use Rattle.resp_value.specs.declared.value.Value.{Value, Array, BulkString, roll-Value, out-Value, roll-out-Value}
use Rattle.resp_value.specs.declared.value.Value.{out-roll-Value}
use Rattle.resp_value.specs.declared.value.Value.TheOpen.{Value-F}
use Rattle.resp_value.specs.declared.value.Value.TheVariants.{rolls-Array, rolls-BulkString}
use Rattle.resp_value.specs.Views.{is_bulk_string}
use Rattle.resp_args.specs.Args.{Args}
use Rattle.resp_command.specs.Packed.{as_value}
use Rattle.resp_server.specs.Requests.{are_words, bytes_of, is_request, words_of}

out-bulk : (bytes : List ℕ) → out-Value (BulkString bytes) ≡ Value-F.BulkString bytes
out-bulk bytes = ap out-Value (sym (rolls-BulkString bytes)) ∙ out-roll-Value (Value-F.BulkString bytes)

out-array : (vs : List Value) → out-Value (Array vs) ≡ Value-F.Array vs
out-array vs = ap out-Value (sym (rolls-Array vs)) ∙ out-roll-Value (Value-F.Array vs)

abbrev bytes_in : Value-F Value → List ℕ
bytes_in x = elim x [ Value-F.BulkString bytes ↦ bytes | _ ↦ [] ]

abbrev is_bulk : Value-F Value → Bool
is_bulk x = elim x [ Value-F.BulkString bytes ↦ true | _ ↦ false ]

layer : (x : Value-F Value) → is_bulk x ≡ true → BulkString (bytes_in x) ≡ roll-Value x
layer (Value-F.BulkString bytes) h = sym (rolls-BulkString bytes)
layer _ h = absurd (cc)

-- a bulk string is the one of its bytes
bulk : (v : Value) → is_bulk_string v ≡ true → BulkString (bytes_of v) ≡ v
bulk v h = layer (out-Value v) h ∙ roll-out-Value v

bulks : (vs : List Value) → list_all is_bulk_string vs ≡ true → map BulkString (words_of vs) ≡ vs
bulks [] h = refl
bulks (v ∷ vs) h =
    let p = and_parts (is_bulk_string v) (list_all is_bulk_string vs) h in
    let first = bulk v p.0 in
    let others = bulks vs p.1 in
    cc

-- an array of bulk strings is made of their bytes
pub words_are : (vs : List Value) → list_all is_bulk_string vs ≡ true → Array vs ≡ as_value (words_of vs)
words_are vs h = sym (ap Array (bulks vs h))

-- the bytes of bulk strings
pub bytes_are : (args : Args) → words_of (map BulkString args) ≡ args
bytes_are [] = refl
bytes_are (arg ∷ args) =
    let first : bytes_of (BulkString arg) ≡ arg = ap bytes_in (out-bulk arg) in
    let others = bytes_are args in
    cc

all-bulks : (args : Args) → list_all is_bulk_string (map BulkString args) ≡ true
all-bulks [] = refl
all-bulks (arg ∷ args) =
    let first : is_bulk_string (BulkString arg) ≡ true = ap is_bulk (out-bulk arg) in
    rw first (all-bulks args)

-- any arguments, at least one, make a request
pub made-request : (args : Args) → args ≢ [] → is_request (as_value args) ≡ true
made-request [] some = absurd (some refl)
made-request (arg ∷ args) some =
    let words = map BulkString (arg ∷ args) in
    let are : are_words words ≡ true = rw (lt-ltb 0 (length words) (omega arith)) (all-bulks (arg ∷ args)) in
    ap (λ x. elim x [ Value-F.Array words ↦ are_words words | _ ↦ false ]) (out-array words) ∙ are

abbrev words_in : Value-F Value → Args
words_in x = elim x [ Value-F.Array words ↦ words_of words | _ ↦ [] ]

-- of one list of arguments only
pub made-once : (others args : Args) → as_value others ≡ as_value args → others ≡ args
made-once others args e =
    let from : (list : Args) → words_in (out-Value (as_value list)) ≡ list = λ list. ap words_in
    (out-array (map BulkString list)) ∙ bytes_are list in
    sym (from others) ∙ ap (λ v. words_in (out-Value v)) e ∙ from args
