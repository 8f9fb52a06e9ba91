-- Requests whose last argument is read as it is sent.
use Rattle.std.proofs.Common.{◌≡◌, ℕ, ◌+◌, ◌-◌, ◌≤◌, ◌<◌, List, [], ◌∷◌, ◌++◌, length, take, refl, sym, ap, ◌∙◌, subst}
use Rattle.std.proofs.Common.{arith, append_assoc, append-nil, length-append, Ok, Err, Option, None, Some}
use Rattle.std.specs.Io.KnownBytes.{Consumes, Keeps}
use Rattle.std.specs.List.{flat_map}
use Rattle.std.specs.Prelude.{decimal}
use Rattle.std.proofs.lemmas.Fmt.{decimal_digit}
use Rattle.std.proofs.lemmas.Grind.{common_steps, flat_map-append}
use Rattle.resp_errors.specs.Errors.{error_of_io}
use Rattle.resp_errors.specs.declared.kinds.IoKind.{IoKind}
use Rattle.resp_errors.specs.declared.redis_error.RedisError.{RedisError}
use Rattle.resp_args.specs.Args.{Args}
use Rattle.resp_parse.specs.Lines.{crlf}
use Rattle.resp_parse.specs.Source.{Source, SourceGave, Fills}
use Rattle.resp_parse.proofs.Asking.{gave-none}
use Rattle.resp_command.specs.Connection.{IsPrefix}
use Rattle.resp_command.specs.Packed.{packed, packed_or_none, bulk, length_line}
use Rattle.resp_link.specs.Sink.{Sink, SendsAll}
use Rattle.resp_link.specs.SendingBodies.{before_body, SentBody, CannotSendBody, StopsSending, SentRequest}
use Rattle.resp_link.specs.SendingBodies.{StopsRequest, body_ended, body_not_read}
use Rattle.resp_link.specs.Streaming.{TakesIn, TakesPiece}
use Rattle.resp_link.proofs.Receiving.{consumed-both}
use Rattle.resp_link.proofs.TakenParts.{takes-nothing, takes-both}

-- ---- what comes before a body

packed-more : (args : Args) (body : List ℕ) → packed (args ++ body ∷ [])
    ≡ (length_line 42 (length args + 1) ++ flat_map bulk args) ++ flat_map bulk (body ∷ [])
packed-more args body =
    let size : length (args ++ body ∷ []) ≡ length args + 1 = length-append args (body ∷ []) in
    ap (λ n. length_line 42 n ++ flat_map bulk (args ++ body ∷ [])) size
    ∙ ap (λ z. length_line 42 (length args + 1) ++ z) (flat_map-append bulk args (body ∷ []))
    ∙ sym (append_assoc (length_line 42 (length args + 1)) (flat_map bulk args) (flat_map bulk (body ∷ [])))

packed-not_empty : (args : Args) (body : List ℕ) → packed_or_none (args ++ body ∷ []) ≡ packed (args ++ body ∷ [])
packed-not_empty [] body = refl
packed-not_empty (arg ∷ args) body = refl

empty-size : length (flat_map bulk ([] ∷ [])) ≡ 6
empty-size = rw (decimal_digit 0 (omega arith)) refl

take-front : (xs ys : List ℕ) → take (length xs) (xs ++ ys) ≡ xs
take-front xs ys = grind (arith, common_steps)

head-of : (args : Args) (n : ℕ) (whole : List ℕ) (k : ℕ) → whole ≡ packed_or_none (args ++ [] ∷ [])
    → k ≡ length whole - 6 → ((take k whole ++ 36 ∷ []) ++ decimal n) ++ crlf ≡ before_body args n
head-of args n whole k e k_is =
    let front = length_line 42 (length args + 1) ++ flat_map bulk args in
    let parts : whole ≡ front ++ flat_map bulk ([] ∷ []) = e ∙ packed-not_empty args [] ∙ packed-more args [] in
    let size : length whole ≡ length front + 6 = ap length parts ∙ length-append front (flat_map bulk ([] ∷ []))
    ∙ ap (λ z. length front + z) empty-size in
    let k_front : k ≡ length front = omega (arith, k_is, size) in
    let cut : take k whole ≡ front = ap (λ z. take z whole) k_front ∙ ap (take (length front)) parts
    ∙ take-front front (flat_map bulk ([] ∷ [])) in
    ap (λ z. ((z ++ 36 ∷ []) ++ decimal n) ++ crlf) cut
    ∙ ap (λ z. z ++ crlf) (append_assoc front (36 ∷ []) (decimal n))
    ∙ append_assoc front (36 ∷ decimal n) crlf
    ∙ append_assoc (length_line 42 (length args + 1)) (flat_map bulk args) (36 ∷ (decimal n ++ crlf))

-- as it is written
pub head-written : (args : Args) (n k : ℕ) (whole cut pushed text formatted done : List ℕ)
    → whole ≡ packed_or_none (args ++ [] ∷ []) → k ≡ length whole - 6 → cut ≡ take k whole → pushed ≡ cut ++ 36 ∷ []
    → text ≡ decimal n → formatted ≡ pushed ++ text → done ≡ formatted ++ crlf → done ≡ before_body args n
head-written args n k whole cut pushed text formatted done e k_is c p t f d =
    d ∙ ap (λ z. z ++ crlf) (f ∙ ap (λ z. pushed ++ z) t ∙ ap (λ z. z ++ decimal n) (p ∙ ap (λ z. z ++ 36 ∷ []) c))
    ∙ head-of args n whole k e k_is

-- and then the body
pub with-body : (args : Args) (body : List ℕ) → packed (args ++ body ∷ [])
    ≡ before_body args (length body) ++ (body ++ crlf)
with-body args body =
    let line = length_line 42 (length args + 1) in
    let size = length_line 36 (length body) in
    packed-more args body
    ∙ ap (λ z. (line ++ flat_map bulk args) ++ z) (append-nil (size ++ (body ++ crlf)))
    ∙ sym (append_assoc (line ++ flat_map bulk args) size (body ++ crlf))
    ∙ ap (λ z. z ++ (body ++ crlf)) (append_assoc line (flat_map bulk args) size)

-- ---- a body, read by read

-- so many bytes are missing yet
pub record SentSome (n : ℕ) (k now : Sink) (s t : Source) (missing : ℕ) : Type 0 where
  pub part : List ℕ
  pub size : length part + missing ≡ n
  pub gave : SourceGave s part t
  pub sends : TakesIn k now part
  pub sink : now.failures ≡ k.failures
  pub source : t.failures ≡ s.failures

pub sent-none : (n : ℕ) (k : Sink) (s : Source) → SentSome n k k s s n
sent-none n k s = record {
  part = [];
  size = omega arith;
  gave = gave-none s;
  sends = takes-nothing k;
  sink = refl;
  source = refl;
}

gave-both : (s t u : Source) (a b : List ℕ) → SourceGave s a t → SourceGave t b u → SourceGave s (a ++ b) u
gave-both s t u a b h k = record {
  came = k.came ∙ ap (λ z. z ++ b) h.came ∙ append_assoc s.came a b;
  to_come = consumed-both s.to_come t.to_come u.to_come a b h.to_come k.to_come;
}

gave-more-none : (s t u : Source) (a : List ℕ) → SourceGave s a t → SourceGave t [] u → SourceGave s a u
gave-more-none s t u a h k = subst (λ z. SourceGave s z u) (append-nil a) (gave-both s t u a [] h k)

-- what a read gave
filled-gave : (t u : Source) (before after : List ℕ) (count : ℕ) → Fills t u before after (Ok count)
    → SourceGave t (take count after) u
filled-gave t u before after count f = record { came = f.came; to_come = f.to_come.0 }

unfilled-gave : (t u : Source) (before after : List ℕ) (kind : IoKind) → Fills t u before after (Err kind)
    → SourceGave t [] u
unfilled-gave t u before after kind f = record { came = f.came ∙ sym (append-nil t.came); to_come = kept t.to_come u.to_come f.to_come }
  where
    kept : (x y : Option (List ℕ)) → Keeps x y → Consumes x y []
    kept None y h = tt
    kept (Some xs) None h = h
    kept (Some xs) (Some ys) h = sym h

module _ (n : ℕ) (k now : Sink) (s t : Source) (missing : ℕ) (h : SentSome n k now s t missing) (u : Source)
    (before after : List ℕ) where
  pub sent-more : (next : Sink) (count : ℕ) (piece : List ℕ) → piece ≡ take count after → length piece ≡ count
      → count ≤ missing → Fills t u before after (Ok count) → TakesPiece now next piece (Ok tt)
      → SentSome n k next s u (missing - count)
  sent-more next count piece is size few f taken =
      let l = length-append h.part piece in
      let all : taken.gone ≡ piece = taken.part in
      let left = h.size in
      record {
        part = h.part ++ piece;
        size = omega (arith, l, size, few, left);
        gave = gave-both s t u h.part piece h.gave (rw is (filled-gave t u before after count f));
        sends = takes-both k now next h.part piece h.sends (subst (TakesIn now next) all taken.takes);
        sink = taken.failures ∙ h.sink;
        source = f.failures ∙ h.source;
      }

  -- the sink failed
  pub sent-refused : (next : Sink) (count : ℕ) (piece : List ℕ) (kind : IoKind) (e : RedisError) → e ≡ error_of_io kind
      → piece ≡ take count after → length piece ≡ count → count ≤ missing → Fills t u before after (Ok count)
      → TakesPiece now next piece (Err kind) → CannotSendBody n k next s u e
  sent-refused next count piece kind e i is size few f taken =
      let l = length-append h.part piece in
      let left = h.size in
      let gone : IsPrefix taken.gone piece = taken.part in
      record {
        part = h.part ++ piece;
        few = omega (arith, l, size, few, left);
        gave = gave-both s t u h.part piece h.gave (rw is (filled-gave t u before after count f));
        gone = h.part ++ taken.gone;
        sends = takes-both k now next h.part taken.gone h.sends taken.takes;
        prefix = record {
          rest = gone.rest;
          whole = ap (λ z. h.part ++ z) gone.whole ∙ sym (append_assoc h.part taken.gone gone.rest);
        };
        stops = StopsSending.not_sent kind i (f.failures ∙ h.source) (rw h.sink at taken.failures);
      }

  -- no byte came
  pub sent-ended : (e : RedisError) (count : ℕ) → e ≡ body_ended → count ≡ 0 → 0 < length after
      → Fills t u before after (Ok count) → CannotSendBody n k now s u e
  sent-ended e count i none some f =
      let left = h.size in
      record {
        part = h.part;
        few = omega (arith, left);
        gave = gave-more-none s t u h.part h.gave
            (subst (λ c. SourceGave t (take c after) u) none (filled-gave t u before after count f));
        gone = h.part;
        sends = h.sends;
        prefix = record { rest = []; whole = sym (append-nil h.part) };
        stops = StopsSending.ended i (f.to_come.1 none some) (f.failures ∙ h.source) h.sink;
      }

  pub sent-unread : (e : RedisError) (kind : IoKind) → e ≡ body_not_read → Fills t u before after (Err kind)
      → CannotSendBody n k now s u e
  sent-unread e kind i f =
      let left = h.size in
      record {
        part = h.part;
        few = omega (arith, left);
        gave = gave-more-none s t u h.part h.gave (unfilled-gave t u before after kind f);
        gone = h.part;
        sends = h.sends;
        prefix = record { rest = []; whole = sym (append-nil h.part) };
        stops = StopsSending.not_read i (rw h.source at f.failures) h.sink;
      }

pub sent-all : (n : ℕ) (k now : Sink) (s t : Source) (missing : ℕ) → SentSome n k now s t missing → missing ≡ 0
    → SentBody n k now s t
sent-all n k now s t missing h none = record {
  body = h.part;
  size = (let l = h.size in omega (arith, l, none));
  gave = h.gave;
  sends = h.sends;
  sink = h.sink;
  source = h.source;
}

-- ---- what comes before it, the body, and its CR LF

module _ (head : List ℕ) (n : ℕ) (k : Sink) (s : Source) where
  pub request-refused : (next : Sink) (kind : IoKind) → TakesPiece k next head (Err kind)
      → StopsRequest head n k next s s (error_of_io kind)
  request-refused next kind h =
      let gone : IsPrefix h.gone head = h.part in
      StopsRequest.in_body (record {
        part = [];
        few = omega arith;
        gave = gave-none s;
        gone = h.gone;
        sends = h.takes;
        prefix = record { rest = gone.rest; whole = append-nil head ∙ gone.whole };
        stops = StopsSending.not_sent kind refl refl h.failures;
      })

  module _ (mid : Sink) (h : TakesPiece k mid head (Ok tt)) where
    begun : TakesIn k mid head
    begun = let whole : h.gone ≡ head = h.part in subst (TakesIn k mid) whole h.takes

    pub request-stopped : (next : Sink) (t : Source) (e : RedisError) → CannotSendBody n mid next s t e
        → StopsRequest head n k next s t e
    request-stopped next t e b = StopsRequest.in_body (record {
      part = b.part;
      few = b.few;
      gave = b.gave;
      gone = head ++ b.gone;
      sends = takes-both k mid next head b.gone begun b.sends;
      prefix = record {
        rest = b.prefix.rest;
        whole = ap (λ z. head ++ z) b.prefix.whole ∙ sym (append_assoc head b.gone b.prefix.rest);
      };
      stops = subst (λ f. StopsSending t.to_come s.failures t.failures f next.failures e) h.failures b.stops;
    })

    module _ (next last : Sink) (t : Source) (b : SentBody n mid next s t) where
      both : TakesIn k next (head ++ b.body)
      both = takes-both k mid next head b.body begun b.sends

      same : next.failures ≡ k.failures
      same = b.sink ∙ h.failures

      pub request-unended : (kind : IoKind) → SendsAll next last crlf (Err kind)
          → StopsRequest head n k last s t (error_of_io kind)
      request-unended kind a =
          let gone : IsPrefix a.gone crlf = a.part in
          let sends = takes-both k next last (head ++ b.body) a.gone both (record { sent = a.sent; holds = a.holds }) in
          StopsRequest.body_read kind refl (record {
            body = b.body;
            size = b.size;
            gave = b.gave;
            source = b.source;
            sends = record {
              gone = (head ++ b.body) ++ a.gone;
              sent = sends.sent;
              holds = sends.holds;
              part = record {
                rest = gone.rest;
                whole = sym (append_assoc head b.body crlf) ∙ ap (λ z. (head ++ b.body) ++ z) gone.whole
                    ∙ sym (append_assoc (head ++ b.body) a.gone gone.rest);
              };
              failures = rw (← same) a.failures;
              flushed = tt;
            };
          })

      pub request-sent : SendsAll next last crlf (Ok tt) → SentRequest head n k last s t (Ok tt)
      request-sent a =
          let whole : a.gone ≡ crlf = a.part in
          let sends = takes-both k next last (head ++ b.body) a.gone both (record { sent = a.sent; holds = a.holds }) in
          record {
            body = b.body;
            size = b.size;
            gave = b.gave;
            source = b.source;
            sends = record {
              gone = (head ++ b.body) ++ a.gone;
              sent = sends.sent;
              holds = sends.holds;
              part = ap (λ z. (head ++ b.body) ++ z) whole ∙ append_assoc head b.body crlf;
              failures = a.failures ∙ same;
              flushed = a.flushed;
            };
          }
