-- Errors, kinds and formats that their own names name.
use Rattle.std.proofs.Common.{◌≡◌, ℕ, Bool, true, false, cond, ◌==◌, List, [], ◌∷◌, ◌++◌, length, codes, Option, Some}
use Rattle.std.proofs.Common.{None, Ok, refl, sym, ◌∙◌, append-nil}
use Rattle.std.proofs.lemmas.Bool.{and_parts, and_from}
use Rattle.std.proofs.lemmas.Slice.Eq.{bytes_eq-Decides}
use Rattle.std.proofs.lemmas.Bool.Decides.{Decides-eqb}
use Rattle.std.specs.List.{position_or_len, before_first, after_first}
use Rattle.std.specs.Str.{IsUtf8, is_utf8, bytes_eq}
use Rattle.std.proofs.lemmas.Str.{IsUtf8-from_is_utf8, is_utf8-from_IsUtf8, IsUtf8-append, IsUtf8-nil}
use Rattle.bstr.proofs.lemmas.EncodeLemmas.{lossy_chars-utf8}
use Rattle.resp_containers.specs.Lossy.{lossy}
use Rattle.resp_value.specs.Names.{kind_named, name_of_push_kind, format_named, name_of_format}
use Rattle.resp_value.specs.declared.value.Value.{Value, VerbatimString}
use Rattle.resp_value.specs.declared.names.PushKind.{PushKind}
use Rattle.resp_value.specs.declared.names.PushKind.TheVariants as push
use Rattle.resp_value.specs.declared.names.VerbatimFormat.{VerbatimFormat}
use Rattle.resp_value.specs.declared.names.VerbatimFormat.TheVariants as format
use Rattle.resp_errors.specs.declared.server_error.ServerError.{ServerError as Error}
use Rattle.resp_errors.specs.declared.server_error.ServerError.TheVariants.{Known, Extension}
use Rattle.resp_errors.specs.declared.kinds.ServerErrorKind.{ServerErrorKind}
use Rattle.resp_errors.specs.declared.kinds.ServerErrorKind.TheVariants as kind
use Rattle.resp_errors.specs.ServerErrors.{code_of_kind, kind_of_code, error_with, is_space, server_error, after_code}
use Rattle.resp_errors.specs.ServerErrors.{text_of}
use Rattle.resp_parse.specs.Grammar.{is_colon, verbatim_text}
use Rattle.resp_parse.proofs.ByteTests.{eq_true}
use Rattle.resp_flat.proofs.ReadsOnly.{name-kind_named}
use Rattle.resp_encode.specs.Encoding.{is_none, is_own_code, is_unknown, is_own_format, verbatim_body, is_other}
use Rattle.resp_encode.specs.Encoding.{is_own_kind, push_of}
use Rattle.resp_encode.proofs.NumbersReadBack.{Graphic, utf8-graphic}
use Rattle.resp_encode.proofs.CutTexts.{NonePasses, before-none, cut-before, cut-after, cut-inside}

pub lossy-text : (text : List ℕ) → is_utf8 text ≡ true → lossy text ≡ text
lossy-text text u = lossy_chars-utf8 text (IsUtf8-from_is_utf8 text u)

-- ---- errors

-- of a code without a space
with-code : (code : List ℕ) (detail : Option (List ℕ)) → NonePasses is_space code
    → server_error (code ++ after_code detail) ≡ error_with code detail
unfolding server_error
with-code code None h = rw (append-nil code, eq_true _ _ h) refl
with-code code (Some detail) h =
    rw (
      cut-inside is_space code 32 detail h refl,
      cut-before is_space code 32 detail h refl,
      cut-after is_space code 32 detail h refl,
    ) refl

known-code : (k : ServerErrorKind) → (kind_of_code (code_of_kind k) ≡ Some k) × NonePasses is_space (code_of_kind k)
unfolding kind_of_code
known-code kind.ResponseError = (refl, refl)
known-code kind.ExecAbort = (refl, refl)
known-code kind.BusyLoading = (refl, refl)
known-code kind.NoScript = (refl, refl)
known-code kind.Moved = (refl, refl)
known-code kind.Ask = (refl, refl)
known-code kind.TryAgain = (refl, refl)
known-code kind.ClusterDown = (refl, refl)
known-code kind.CrossSlot = (refl, refl)
known-code kind.MasterDown = (refl, refl)
known-code kind.ReadOnly = (refl, refl)
known-code kind.NotBusy = (refl, refl)
known-code kind.NoSub = (refl, refl)
known-code kind.NoPerm = (refl, refl)

none-from : {A : Type 0} (o : Option A) → is_none o ≡ true → o ≡ None
none-from None h = refl
none-from (Some x) h = absurd (cc)

pub error-read : (e : Error) → is_own_code e ≡ true → server_error (text_of e) ≡ e
error-read (Known k detail) h =
    let c = known-code k in
    with-code (code_of_kind k) detail c.1 ∙ rw (c.0, error_with) refl
error-read (Extension code detail) h =
    let p = and_parts (position_or_len is_space code == length code) (is_none (kind_of_code code)) h in
    let n = none-from (kind_of_code code) p.1 in
    with-code code detail ((Decides-eqb (position_or_len is_space code) (length code)).0 p.0) ∙ rw (n, error_with) refl

-- ---- formats

colon-free : (fmt : VerbatimFormat) → is_own_format fmt ≡ true → (format_named (name_of_format fmt) ≡ fmt)
    × NonePasses is_colon (name_of_format fmt)
unfolding format_named
colon-free format.Markdown h = (refl, refl)
colon-free format.Text h = (refl, refl)
colon-free (format.Unknown name) h =
    let p = and_parts (position_or_len is_colon name == length name) (is_unknown (format_named name)) h in (
      by (bytes_eq name (codes "mkd")) (bytes_eq name (codes "txt")) p.1,
      (Decides-eqb (position_or_len is_colon name) (length name)).0 p.0,
    )
  where
    by : (s t : Bool) → is_unknown (cond s format.Markdown (cond t format.Text (format.Unknown name))) ≡ true
        → cond s format.Markdown (cond t format.Text (format.Unknown name)) ≡ format.Unknown name
    by true t i = absurd (cc)
    by false true i = absurd (cc)
    by false false i = refl

pub verbatim-read : (fmt : VerbatimFormat) (text : List ℕ) → is_own_format fmt ≡ true
    → verbatim_text (verbatim_body fmt text) ≡ Ok (VerbatimString fmt text)
verbatim-read fmt text h =
    let p = colon-free fmt h in
    let n = name_of_format fmt in
    rw (
      cut-inside is_colon n 58 text p.1 refl,
      cut-before is_colon n 58 text p.1 refl,
      cut-after is_colon n 58 text p.1 refl,
      p.0,
    ) refl

-- ---- kinds of pushes

or-named : (name : List ℕ) (b : Bool) (k other : PushKind) → is_other k ≡ false
    → (is_other other ≡ true → other ≡ push.Other name) → is_other (cond b k other) ≡ true
    → cond b k other ≡ push.Other name
or-named name true k other h later i = absurd (cc)
or-named name false k other h later i = later i

pub kind-read : (k : PushKind) → is_own_kind k ≡ true → kind_named (name_of_push_kind k) ≡ k
unfolding kind_named
kind-read push.Disconnection h = absurd (cc)
kind-read push.Invalidate h = refl
kind-read push.Message h = refl
kind-read push.PMessage h = refl
kind-read push.SMessage h = refl
kind-read push.Unsubscribe h = refl
kind-read push.PUnsubscribe h = refl
kind-read push.SUnsubscribe h = refl
kind-read push.Subscribe h = refl
kind-read push.PSubscribe h = refl
kind-read push.SSubscribe h = refl
kind-read (push.Other name) h =
    or-named name _ push.Invalidate _ refl (or-named name _ push.Message _ refl (or-named name _ push.PMessage _ refl
    (or-named name _ push.SMessage _ refl (or-named name _ push.Unsubscribe _ refl
    (or-named name _ push.PUnsubscribe _ refl
    (or-named name _ push.SUnsubscribe _ refl
    (or-named name _ push.Subscribe _ refl (or-named name _ push.PSubscribe _ refl
    (or-named name _ push.SSubscribe _ refl (λ i. refl))))))))))
    (and_parts (is_utf8 name) (is_other (kind_named name)) h).1

plain : (text : List ℕ) → Graphic text → is_utf8 text ≡ true
plain text h = is_utf8-from_IsUtf8 text (utf8-graphic text h)

pub kind-utf8 : (k : PushKind) → is_own_kind k ≡ true → is_utf8 (name_of_push_kind k) ≡ true
kind-utf8 push.Disconnection h = absurd (cc)
kind-utf8 (push.Other name) h = (and_parts (is_utf8 name) (is_other (kind_named name)) h).0
kind-utf8 push.Invalidate h = plain (codes "invalidate") refl
kind-utf8 push.Message h = plain (codes "message") refl
kind-utf8 push.PMessage h = plain (codes "pmessage") refl
kind-utf8 push.SMessage h = plain (codes "smessage") refl
kind-utf8 push.Unsubscribe h = plain (codes "unsubscribe") refl
kind-utf8 push.PUnsubscribe h = plain (codes "punsubscribe") refl
kind-utf8 push.SUnsubscribe h = plain (codes "sunsubscribe") refl
kind-utf8 push.Subscribe h = plain (codes "subscribe") refl
kind-utf8 push.PSubscribe h = plain (codes "psubscribe") refl
kind-utf8 push.SSubscribe h = plain (codes "ssubscribe") refl

-- ---- what is read has its own name

own-with : (code : List ℕ) (detail : Option (List ℕ)) → NonePasses is_space code → is_own_code (error_with code detail)
    ≡ true
own-with code detail h = by (kind_of_code code) refl
  where
    by : (k : Option ServerErrorKind) → kind_of_code code ≡ k
        → is_own_code (elim k as (λ _. Error) [ Some kind ↦ Known kind detail | None ↦ Extension code detail ]) ≡ true
    by (Some k) e = refl
    by None e = and_from (position_or_len is_space code == length code) (is_none (kind_of_code code))
        (eq_true (position_or_len is_space code) (length code) h) (rw e refl)

pub read-error : (text : List ℕ) → is_own_code (server_error text) ≡ true
unfolding server_error
read-error text = by (position_or_len is_space text == length text) refl
  where
    by : (b : Bool) → (position_or_len is_space text == length text) ≡ b
        → is_own_code (cond b (error_with text None)
        (error_with (before_first is_space text) (Some (after_first is_space text)))) ≡ true
    by true e = own-with text None ((Decides-eqb (position_or_len is_space text) (length text)).0 e)
    by false e = own-with (before_first is_space text) (Some (after_first is_space text)) (before-none is_space text)

-- a format that a name without a colon names
abbrev NamedFormat : List ℕ → VerbatimFormat → Type 0
NamedFormat name fmt = (name_of_format fmt ≡ name) × (is_own_format fmt ≡ true)

pub read-format : (name : List ℕ) → NonePasses is_colon name → NamedFormat name (format_named name)
unfolding format_named
read-format name h = by (bytes_eq name (codes "mkd")) (bytes_eq name (codes "txt")) refl refl
  where
    by : (s t : Bool) → bytes_eq name (codes "mkd") ≡ s → bytes_eq name (codes "txt") ≡ t
        → NamedFormat name (cond s format.Markdown (cond t format.Text (format.Unknown name)))
    by true t i j = (sym ((bytes_eq-Decides name (codes "mkd")).0 i), refl)
    by false true i j = (sym ((bytes_eq-Decides name (codes "txt")).0 j), refl)
    by false false i j = (
      refl,
      and_from (position_or_len is_colon name == length name) (is_unknown (format_named name))
          (eq_true (position_or_len is_colon name) (length name) h) (rw (i, j) refl),
    )

-- no name names the kind that no server sends
or-never : (b : Bool) (k other : PushKind) → (k ≡ push.Disconnection → ⊥) → (other ≡ push.Disconnection → ⊥)
    → cond b k other ≡ push.Disconnection → ⊥
or-never true k other h i e = h e
or-never false k other h i e = i e

never_disconnection : (name : List ℕ) → kind_named name ≡ push.Disconnection → ⊥
unfolding kind_named
never_disconnection name =
    or-never _ push.Invalidate _ (λ (e : push.Invalidate ≡ push.Disconnection). cc)
    (or-never _ push.Message _ (λ (e : push.Message ≡ push.Disconnection). cc)
    (or-never _ push.PMessage _ (λ (e : push.PMessage ≡ push.Disconnection). cc)
    (or-never _ push.SMessage _ (λ (e : push.SMessage ≡ push.Disconnection). cc)
    (or-never _ push.Unsubscribe _ (λ (e : push.Unsubscribe ≡ push.Disconnection). cc)
    (or-never _ push.PUnsubscribe _ (λ (e : push.PUnsubscribe ≡ push.Disconnection). cc)
    (or-never _ push.SUnsubscribe _ (λ (e : push.SUnsubscribe ≡ push.Disconnection). cc)
    (or-never _ push.Subscribe _ (λ (e : push.Subscribe ≡ push.Disconnection). cc)
    (or-never _ push.PSubscribe _ (λ (e : push.PSubscribe ≡ push.Disconnection). cc)
    (or-never _ push.SSubscribe _ (λ (e : push.SSubscribe ≡ push.Disconnection). cc)
    (λ (e : push.Other name ≡ push.Disconnection). cc))))))))))

-- of the kind that a UTF-8 name names, the name names it
own-from : (k : PushKind) (name : List ℕ) → is_utf8 name ≡ true → name_of_push_kind k ≡ name → k ≡ kind_named name
    → is_own_kind k ≡ true
own-from push.Disconnection name u e k = absurd (never_disconnection name (sym k))
own-from (push.Other other) name u e k = and_from (is_utf8 other) (is_other (kind_named other)) (rw e u)
    (rw e (rw (← k) refl))
own-from push.Invalidate name u e k = refl
own-from push.Message name u e k = refl
own-from push.PMessage name u e k = refl
own-from push.SMessage name u e k = refl
own-from push.Unsubscribe name u e k = refl
own-from push.PUnsubscribe name u e k = refl
own-from push.SUnsubscribe name u e k = refl
own-from push.Subscribe name u e k = refl
own-from push.PSubscribe name u e k = refl
own-from push.SSubscribe name u e k = refl

pub read-kind : (name : List ℕ) → is_utf8 name ≡ true → is_own_kind (kind_named name) ≡ true
read-kind name u = own-from (kind_named name) name u (name-kind_named name) refl

-- a name, a colon and a text are text
pub verbatim-utf8 : (fmt : VerbatimFormat) (text : List ℕ) → IsUtf8 (name_of_format fmt) → IsUtf8 text
    → is_utf8 (verbatim_body fmt text) ≡ true
verbatim-utf8 fmt text n t =
    let colon : IsUtf8 (58 ∷ []) = utf8-graphic (58 ∷ []) refl in
    is_utf8-from_IsUtf8 (verbatim_body fmt text)
    (IsUtf8-append (name_of_format fmt) (58 ∷ text) n (IsUtf8-append (58 ∷ []) text colon t))

-- no push is sent of a kind whose name another kind has
pub no_push : (spell : Value → Option (List ℕ)) (kind : PushKind) (payload : List Value) → is_own_kind kind ≡ false
    → push_of spell kind payload ≡ None
unfolding kind_named
no_push spell (push.Other []) [] h =
    let own : is_own_kind (push.Other []) ≡ true = and_from _ _ (is_utf8-from_IsUtf8 [] IsUtf8-nil) refl in
    absurd (cc)
no_push spell (push.Other []) (v ∷ vs) h = rw h refl
no_push spell (push.Other (c ∷ name)) payload h = rw h refl
no_push spell push.Disconnection payload h = refl
no_push spell push.Invalidate payload h = absurd (cc)
no_push spell push.Message payload h = absurd (cc)
no_push spell push.PMessage payload h = absurd (cc)
no_push spell push.SMessage payload h = absurd (cc)
no_push spell push.Unsubscribe payload h = absurd (cc)
no_push spell push.PUnsubscribe payload h = absurd (cc)
no_push spell push.SUnsubscribe payload h = absurd (cc)
no_push spell push.Subscribe payload h = absurd (cc)
no_push spell push.PSubscribe payload h = absurd (cc)
no_push spell push.SSubscribe payload h = absurd (cc)
