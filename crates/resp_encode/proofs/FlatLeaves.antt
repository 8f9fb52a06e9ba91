-- What is sent for a value without others inside it.
use Rattle.std.proofs.Common.{◌≡◌, ℕ, suc, ◌==◌, Bool, true, false, cond, List, length, Option, None, Some}
use Rattle.std.proofs.Common.{Result, Ok, refl, sym, ap, subst, ◌∙◌, option_and_then}
use Rattle.std.proofs.lemmas.Bool.{and_from}
use Rattle.std.specs.Result.{IsErrAnd}
use Rattle.std.specs.List.{position_or_len, before_first, after_first}
use Rattle.std.specs.Str.{is_utf8}
use Rattle.std.proofs.lemmas.Str.{is_utf8-from_IsUtf8}
use Rattle.resp_value.specs.declared.value.Value.{Value, VerbatimString, roll-Value, out-Value, out-roll-Value}
use Rattle.resp_value.specs.declared.value.Value.TheVariants.{rolls-VerbatimString}
use Rattle.resp_value.specs.declared.value.Value.TheOpen.{Value-F}
use Rattle.resp_value.specs.Names.{format_named}
use Rattle.resp_errors.specs.ServerErrors.{server_error}
use Rattle.resp_errors.proofs.ErrorTexts.{joined as error_joined}
use Rattle.resp_args.specs.declared.options.ProtocolVersion.{ProtocolVersion}
use Rattle.resp_args.specs.declared.options.ProtocolVersion.TheVariants.{RESP2, RESP3}
use Rattle.resp_parse.specs.declared.type_byte.TypeByte.TheVariants as type_byte
use Rattle.resp_flat.specs.Reading.{is_colon, cut}
use Rattle.resp_flat.proofs.ReadsOnly.{text-joined}
use Rattle.resp_flat.proofs.Utf8.{not_utf8}
use Rattle.resp_encode.specs.declared.write_error.WriteError.{WriteError}
use Rattle.resp_encode.specs.declared.write_error.WriteError.TheVariants.{NoSpelling}
use Rattle.resp_encode.specs.Encoding.{given, is_line, line, body_of, is_own_format, error_text, error_of}
use Rattle.resp_encode.specs.Encoding.{verbatim_body, spelling}
use Rattle.resp_encode.specs.Resp2Encoding.{resp2_error_of, resp2_spelling}
use Rattle.resp_encode.specs.Encodings.{encoding_in}
use Rattle.resp_encode.specs.Appending.{AppendsText}
use Rattle.resp_encode.specs.FlatEncoding.{spelled_in}
use Rattle.resp_encode.proofs.AppendedTexts.{appends_nothing, appends_refused, appends_exit}
use Rattle.resp_encode.proofs.CutTexts.{before-none}
use Rattle.resp_encode.proofs.OwnNames.{read-error, read-format}

pub ruleset utf8_tests = (not_utf8, is_utf8-from_IsUtf8)

-- ---- a value by its layer

pub layer3 : (d : ℕ) (y : Value-F Value) (v : Value) → roll-Value y ≡ v
    → encoding_in RESP3 (suc d) v ≡ spelling (encoding_in RESP3 d) y
layer3 d y v e = ap (spelling (encoding_in RESP3 d)) (ap out-Value (sym e) ∙ out-roll-Value y)

pub layer2 : (d : ℕ) (y : Value-F Value) (v : Value) → roll-Value y ≡ v
    → encoding_in RESP2 (suc d) v ≡ resp2_spelling (encoding_in RESP2 d) y
layer2 d y v e = ap (resp2_spelling (encoding_in RESP2 d)) (ap out-Value (sym e) ∙ out-roll-Value y)

pub appends_as : (r : Result (Unit {0}) WriteError) (t u : Option (List ℕ)) (a b : List ℕ) → t ≡ u
    → AppendsText r u a b → AppendsText r t a b
appends_as r t u a b e h = subst (λ (x : Option (List ℕ)). AppendsText r x a b) (sym e) h

-- so it is appended, in each version and where it isn't sent
module _ (r : Result (Unit {0}) WriteError) (p : Option ProtocolVersion) (d : ℕ) (y : Value-F Value) (v : Value)
    (a b : List ℕ) (rolls : roll-Value y ≡ v) where
  pub in_resp3 : p ≡ Some RESP3 → AppendsText r (spelling (encoding_in RESP3 d) y) a b
      → AppendsText r (spelled_in p (suc d) v) a b
  in_resp3 e h = rw e (appends_as r _ _ a b (layer3 d y v rolls) h)

  pub in_resp2 : p ≡ Some RESP2 → AppendsText r (resp2_spelling (encoding_in RESP2 d) y) a b
      → AppendsText r (spelled_in p (suc d) v) a b
  in_resp2 e h = rw e (appends_as r _ _ a b (layer2 d y v rolls) h)

pub unsent : (p : Option ProtocolVersion) (d : ℕ) (v : Value) (a : List ℕ) → p ≡ None
    → AppendsText (Ok tt) (spelled_in p (suc d) v) a a
unsent p d v a e = rw e (appends_nothing a)

-- the exit of a `?` at what isn't a leaf's
pub refused_exit : (r : Result (Unit {0}) WriteError) (e : WriteError) (t : Option (List ℕ)) (a : List ℕ)
    → IsErrAnd r (λ y. y ≡ e) → e ≡ NoSpelling → t ≡ None → AppendsText r t a a
refused_exit r e t a x is none = appends_exit r e t a a x (rw is (appends_refused t a none))

-- ---- errors by their texts

pub error3 : (text : List ℕ) → is_utf8 text ≡ true → error_of (server_error text) ≡ error_text text
error3 text u = rw (read-error text, error_joined text, u) refl

pub error2 : (text : List ℕ) → resp2_error_of (server_error text)
    ≡ given (is_line text) (line type_byte.SimpleError text)
error2 text = rw (read-error text, error_joined text) refl

-- ---- verbatim strings by their texts

abbrev cut_value : List ℕ → Value
cut_value text = VerbatimString (format_named (before_first is_colon text)) (after_first is_colon text)

pub uncut : (w : Value → Option (List ℕ)) (text : List ℕ) → (position_or_len is_colon text == length text) ≡ true
    → option_and_then w (cut text) ≡ None
uncut w text e = rw e refl

pub cut_is : (w : Value → Option (List ℕ)) (text : List ℕ) → (position_or_len is_colon text == length text) ≡ false
    → option_and_then w (cut text) ≡ w (cut_value text)
cut_is w text e = rw e refl

pub verbatim3 : (d : ℕ) (text : List ℕ) → is_utf8 text ≡ true
    → (position_or_len is_colon text == length text) ≡ false
    → option_and_then (spelled_in (Some RESP3) (suc d)) (cut text) ≡ body_of type_byte.VerbatimString text
verbatim3 d text u e =
    let fmt = format_named (before_first is_colon text) in
    let rest = after_first is_colon text in
    let own : is_own_format fmt ≡ true = (read-format (before_first is_colon text) (before-none is_colon text)).1 in
    let whole : verbatim_body fmt rest ≡ text = text-joined text e in
    cut_is (spelled_in (Some RESP3) (suc d)) text e
    ∙ layer3 d (Value-F.VerbatimString fmt rest) (cut_value text) (rolls-VerbatimString fmt rest)
    ∙ ap (λ (b : Bool). cond b (body_of type_byte.VerbatimString (verbatim_body fmt rest)) None)
    (and_from _ _ own (ap is_utf8 whole ∙ u))
    ∙ ap (body_of type_byte.VerbatimString) whole

pub verbatim2 : (d : ℕ) (text : List ℕ) → (position_or_len is_colon text == length text) ≡ false
    → option_and_then (spelled_in (Some RESP2) (suc d)) (cut text)
    ≡ body_of type_byte.BulkString (after_first is_colon text)
verbatim2 d text e =
    let fmt = format_named (before_first is_colon text) in
    let rest = after_first is_colon text in
    cut_is (spelled_in (Some RESP2) (suc d)) text e
    ∙ layer2 d (Value-F.VerbatimString fmt rest) (cut_value text) (rolls-VerbatimString fmt rest)
