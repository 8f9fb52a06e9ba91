-- A reply whose body was taken in pieces.
use Rattle.std.proofs.Common.{◌≡◌, ℕ, zero, suc, ◌+◌, ◌-◌, ◌<◌, ◌≤◌, List, [], ◌∷◌, ◌++◌, length, take, drop}
use Rattle.std.proofs.Common.{refl, sym, ap, ◌∙◌, subst, append_assoc, append-nil, length-append, arith, rules, Result, Ok, Err, None}
use Rattle.std.specs.Io.KnownBytes.{Consumes}
use Rattle.resp_value.specs.declared.value.Value.{BulkString, the_lemmas}
use Rattle.resp_errors.specs.declared.kinds.FrameFault.TheVariants.{TooLong}
use Rattle.resp_errors.specs.declared.parsing_error.ParsingError.TheVariants.{Fault}
use Rattle.resp_errors.specs.declared.redis_error.RedisError.{RedisError}
use Rattle.resp_errors.specs.declared.redis_error.RedisError.TheVariants.{Parse}
use Rattle.resp_parse.specs.declared.decoder.bulk_header.BulkHeader.{BulkHeader}
use Rattle.resp_parse.specs.declared.limits.Limits.{Limits}
use Rattle.resp_parse.specs.BulkBodies.{OpensBulk}
use Rattle.resp_parse.specs.Grammar.{no_cr, no_lf}
use Rattle.resp_parse.specs.Limits.{AreLimits}
use Rattle.resp_parse.specs.Limited.{Awaits}
use Rattle.resp_parse.specs.Lines.{crlf}
use Rattle.resp_parse.specs.PlainReading.{incomplete, read_body}
use Rattle.resp_command.specs.Connection.{IsPrefix}
use Rattle.resp_command.specs.Taken.{as_push, replies_in, pushes_in, push_bytes, PrefixReads, ArrivedAsNeeded}
use Rattle.resp_command.proofs.KnownBytes.{prefix-longer}
use Rattle.resp_command.proofs.Values.{frame_of, reads_nothing, reads_one, reads_both, replies_in-append}
use Rattle.resp_command.proofs.Values.{push_bytes-append, pushes_in-append, ends_after_pushes}
use Rattle.resp_link.specs.Receiving.{Inflow, read_size, room}
use Rattle.resp_link.specs.Sink.{Sink}
use Rattle.resp_link.specs.Streaming.{AfterPushes, TookPart, NoByte, OtherByte, CannotTakeByte}
use Rattle.resp_link.specs.Streaming.{CannotHandBody, TakesIn, HandsPart, StopsInBody, HandedBulk, HandsReply}
use Rattle.resp_link.specs.Streaming.{StopsBody, AnswersBody, TakesByte, HandsBulk}
use Rattle.resp_link.specs.declared.streamed.Streamed.TheVariants.{Body}
use Rattle.resp_link.proofs.BulkReadings.{bulk-awaits, bulk-value, bulk-fault, opens-longer, opens-after, body-lacks}
use Rattle.resp_link.proofs.BulkReadings.{body-lacks_lf}
use Rattle.resp_link.proofs.TakenParts.{takes-nothing}
use Rattle.resp_link.proofs.Receiving.{consumed-nothing, consumed-both, needed-none, needed-value, needed-both, reads-both}

-- a beginning of bytes is one of the first n, if it is no longer
take-joined : (n : ℕ) (x r : List ℕ) → length x ≤ n → take n (x ++ r) ≡ x ++ take (n - length x) r
take-joined n [] r l = let z : n - 0 ≡ n = omega arith in rw z refl
take-joined zero (c ∷ x) r l = absurd (omega arith)
take-joined (suc n) (c ∷ x) r l =
    let z : suc n - suc (length x) ≡ n - length x = omega arith in
    ap (λ y. c ∷ y) (take-joined n x r (omega (arith, l)) ∙ ap (λ k. x ++ take k r) (sym z))

prefix-taken : (n : ℕ) (x r y : List ℕ) → y ≡ x ++ r → length x ≤ n → IsPrefix x (take n y)
prefix-taken n x r y e l = record { rest = take (n - length x) r; whole = ap (take n) e ∙ take-joined n x r l }

as_push-bulk : (x : List ℕ) → as_push (BulkString x) ≡ None
as_push-bulk x = search (rules, the_lemmas)

-- the header of a bulk string was received, and its bytes are then taken: `old` and `mid`
module _ (old mid : Inflow) (b b' : Sink) (h : BulkHeader) (are : AreLimits old.limits)
    (opens : OpensBulk old.received h) (mid_is : mid ≡ record old { received = drop h.header_len old.received }) where
  -- the limit on the size doesn't leave it
  pub stops-too_long : old.limits.bytes < h.header_len + h.body_len + 2
      → StopsInBody old old b b (Parse (Fault TooLong))
  stops-too_long passes = record {
    arrived = [];
    came = sym (append-nil old.came);
    to_come = consumed-nothing old.to_come;
    needed = needed-none old.limits (room old) 1 old.received;
    frames = [];
    rest = old.received;
    prefix = subst (λ z. PrefixReads old.limits z [] old.received) (sym (append-nil old.received))
        (reads_nothing old.limits old.received);
    only_pushes = refl;
    fits = omega arith;
    limits = refl;
    pushes = sym (append-nil old.pushes);
    size = omega arith;
    hands = record {
      header = h;
      opens = opens;
      handed = [];
      takes = takes-nothing b;
      part = record { rest = take h.body_len (drop h.header_len old.received); whole = refl };
      stops = StopsBody.too_long refl passes refl refl;
    };
  }

  -- or it does
  module _ (fits : h.header_len + h.body_len + 2 ≤ old.limits.bytes) where
    abbrev after : List ℕ
    after = drop h.header_len old.received

    received-is : mid.received ≡ after
    received-is = ap (λ (i : Inflow). i.received) mid_is

    -- after bytes that came
    module _ (new : Inflow) (part : List ℕ) (took : TookPart h.body_len mid new part) where
      whole : after ++ took.arrived ≡ part ++ new.received
      whole = ap (λ z. z ++ took.arrived) (sym received-is) ∙ took.whole

      came : new.came ≡ old.came ++ took.arrived
      came = took.came ∙ ap (λ (i : Inflow). i.came ++ took.arrived) mid_is

      to_come : Consumes old.to_come new.to_come took.arrived
      to_come = subst (λ (i : Inflow). Consumes i.to_come new.to_come took.arrived) mid_is took.to_come

      limits : new.limits ≡ old.limits
      limits = took.limits ∙ ap (λ (i : Inflow). i.limits) mid_is

      pushes : new.pushes ≡ old.pushes
      pushes = took.pushes ∙ ap (λ (i : Inflow). i.pushes) mid_is

      counted : new.push_bytes ≡ old.push_bytes
      counted = took.push_bytes ∙ ap (λ (i : Inflow). i.push_bytes) mid_is

      needed : ArrivedAsNeeded old.limits (room old) read_size 1 old.received took.arrived
      needed = needed-value old.limits (room old) 1 old.received took.arrived (omega arith) (record {
        before = took.needed.before;
        last = took.needed.last;
        whole = took.needed.whole;
        some = took.needed.some;
        size = took.needed.size;
        awaited = λ some. bulk-awaits old.limits old.received h are opens fits took.needed.before
            (ap (λ z. read_body h.body_len (z ++ took.needed.before)) (sym received-is) ∙ took.needed.short some);
      })

      awaits : read_body h.body_len (part ++ new.received) ≡ incomplete → Awaits old.limits (old.received ++ took.arrived)
      awaits e = bulk-awaits old.limits old.received h are opens fits took.arrived
          (ap (read_body h.body_len) whole ∙ e)

      -- the bulk string is whole
      pub handed-bulk : (body : List ℕ) → length body ≡ h.body_len → part ≡ (body ++ 13 ∷ []) ++ 10 ∷ []
          → new.failures ≡ mid.failures → TakesIn b b' body → b'.failures ≡ b.failures → HandedBulk h old new b b'
      handed-bulk body size e same takes kept =
          let ends : after ++ took.arrived ≡ body ++ (crlf ++ new.received) = whole ∙ ap (λ z. z ++ new.received)
          (e ∙ append_assoc body (13 ∷ []) (10 ∷ [])) ∙ append_assoc body crlf new.received in
          let value = bulk-value old.limits old.received h are opens fits took.arrived body new.received size ends in
          let no_bytes : push_bytes (frame_of value ∷ []) ≡ 0 = rw (as_push-bulk body) refl in
          record {
            body = body;
            size = size;
            frame = frame_of value;
            value = refl;
            reads = record {
              arrived = took.arrived;
              came = came;
              to_come = to_come;
              needed = needed;
              prefix = reads_one old.limits (old.received ++ took.arrived) new.received (BulkString body) value;
              fits = omega (arith, no_bytes);
              limits = limits;
              pushes = pushes ∙ sym (append-nil old.pushes) ∙ rw (as_push-bulk body) refl;
              size = omega (arith, counted, no_bytes);
            };
            takes = takes;
            failures = kept;
            source = same ∙ ap (λ (i : Inflow). i.failures) mid_is;
          }

      -- it isn't
      stops : (e : RedisError) (handed tail : List ℕ) → after ++ took.arrived ≡ handed ++ tail
          → length handed ≤ h.body_len → TakesIn b b' handed
          → StopsBody old.limits (old.received ++ took.arrived) h handed new.to_come old.failures new.failures
          b b' e → StopsInBody old new b b' e
      stops e handed tail split few takes why = record {
        arrived = took.arrived;
        came = came;
        to_come = to_come;
        needed = needed;
        frames = [];
        rest = old.received ++ took.arrived;
        prefix = reads_nothing old.limits (old.received ++ took.arrived);
        only_pushes = refl;
        fits = omega arith;
        limits = limits;
        pushes = pushes ∙ sym (append-nil old.pushes);
        size = omega (arith, counted);
        hands = record {
          header = h;
          opens = opens-longer old.received took.arrived h opens;
          handed = handed;
          takes = takes;
          part = prefix-taken h.body_len handed tail _ (opens-after old.received took.arrived h opens ∙ split) few;
          stops = why;
        };
      }

      -- no byte came
      pub stops-no_byte : (e : RedisError) (handed tail : List ℕ) → part ≡ handed ++ tail → length handed ≤ h.body_len
          → new.received ≡ [] → read_body h.body_len part ≡ incomplete
          → NoByte new.to_come mid.failures new.failures e → TakesIn b b' handed → b'.failures ≡ b.failures
          → StopsInBody old new b b' e
      stops-no_byte e handed tail split few none lacks why takes kept =
          let all : part ++ new.received ≡ part = ap (λ z. part ++ z) none ∙ append-nil part in
          stops e handed tail (whole ∙ all ∙ split) few takes
          (StopsBody.no_byte (subst (λ (i : Inflow). NoByte new.to_come i.failures new.failures e) mid_is why)
          (awaits (ap (read_body h.body_len) all ∙ lacks)) kept)

      -- another byte stands in the place of CR, or of LF
      pub stops-no_cr : (e : RedisError) (body : List ℕ) → part ≡ body → length body ≡ h.body_len
          → OtherByte 13 new.received e → new.failures ≡ mid.failures → TakesIn b b' body → b'.failures ≡ b.failures
          → StopsInBody old new b b' e
      stops-no_cr e body is size other same takes kept =
          let split : part ++ new.received ≡ body ++ (other.other ∷ other.rest) = ap (λ z. z ++ new.received) is
          ∙ ap (λ z. body ++ z) other.first in
          let l = length-append body (other.other ∷ []) in
          stops e body new.received (whole ∙ ap (λ z. z ++ new.received) is) (omega (arith, size)) takes
          (StopsBody.malformed other.error
          (bulk-fault old.limits old.received h are opens fits took.arrived (body ++ other.other ∷ []) other.rest
          (no_cr body other.other size other.differs refl) (omega (arith, l, size))
          (whole ∙ split ∙ sym (append_assoc body (other.other ∷ []) other.rest))) size
          (same ∙ ap (λ (i : Inflow). i.failures) mid_is) kept)

      pub stops-no_lf : (e : RedisError) (body : List ℕ) → part ≡ body ++ 13 ∷ [] → length body ≡ h.body_len
          → OtherByte 10 new.received e → new.failures ≡ mid.failures → TakesIn b b' body → b'.failures ≡ b.failures
          → StopsInBody old new b b' e
      stops-no_lf e body is size other same takes kept =
          let split : part ++ new.received ≡ body ++ (13 ∷ other.other ∷ other.rest) = ap (λ z. z ++ new.received) is
          ∙ append_assoc body (13 ∷ []) new.received ∙ ap (λ z. body ++ (13 ∷ z)) other.first in
          let l = length-append body (13 ∷ other.other ∷ []) in
          stops e body (13 ∷ new.received) (whole ∙ ap (λ z. z ++ new.received) is ∙ append_assoc body (13 ∷ [])
          new.received) (omega (arith, size)) takes
          (StopsBody.malformed other.error
          (bulk-fault old.limits old.received h are opens fits took.arrived (body ++ (13 ∷ other.other ∷ [])) other.rest
          (no_lf body other.other size other.differs refl) (omega (arith, l, size))
          (whole ∙ split ∙ sym (append_assoc body (13 ∷ other.other ∷ []) other.rest))) size
          (same ∙ ap (λ (i : Inflow). i.failures) mid_is) kept)

    -- the body wasn't handed on whole
    pub stops-body : (new : Inflow) (e : RedisError) → CannotHandBody h.body_len mid new b b' e
        → StopsInBody old new b b' e
    stops-body new e (CannotHandBody.no_byte part took none why few takes kept) =
        stops-no_byte new part took e part [] (sym (append-nil part)) (omega (arith, few)) none
        (body-lacks h.body_len part (omega (arith, few))) why takes kept
    stops-body new e (CannotHandBody.not_taken part piece took prefix few takes counted is) =
        let l = length-append part piece in
        let same : new.failures ≡ old.failures = took.failures ∙ ap (λ (i : Inflow). i.failures) mid_is in
        stops new part took.took e (part ++ piece) prefix.rest
        (whole new part took.took ∙ ap (λ z. part ++ z) prefix.whole ∙ sym (append_assoc part piece prefix.rest))
        (omega (arith, l, few)) takes (StopsBody.not_taken is counted same)

    -- one of the bytes at its end wasn't taken
    pub stops-at_cr : (new : Inflow) (e : RedisError) (body : List ℕ) → length body ≡ h.body_len → TakesIn b b' body
        → b'.failures ≡ b.failures → CannotTakeByte h.body_len 13 mid new body e → StopsInBody old new b b' e
    stops-at_cr new e body size takes kept (CannotTakeByte.other took other) =
        stops-no_cr new body took.took e body refl size other took.failures takes kept
    stops-at_cr new e body size takes kept (CannotTakeByte.no_byte took none why) =
        stops-no_byte new body took e body [] (sym (append-nil body)) (omega (arith, size)) none
        (body-lacks h.body_len body (omega (arith, size))) why takes kept

    pub stops-at_lf : (new : Inflow) (e : RedisError) (body : List ℕ) → length body ≡ h.body_len → TakesIn b b' body
        → b'.failures ≡ b.failures → CannotTakeByte h.body_len 10 mid new (body ++ 13 ∷ []) e
        → StopsInBody old new b b' e
    stops-at_lf new e body size takes kept (CannotTakeByte.other took other) =
        stops-no_lf new (body ++ 13 ∷ []) took.took e body refl size other took.failures takes kept
    stops-at_lf new e body size takes kept (CannotTakeByte.no_byte took none why) =
        stops-no_byte new (body ++ 13 ∷ []) took e body (13 ∷ []) refl (omega (arith, size)) none
        (body-lacks_lf h.body_len body size) why takes kept

    -- the last of them was taken, or it wasn't
    pub ends-bulk : (new : Inflow) (r : Result (Unit {0}) RedisError) (body : List ℕ) → length body ≡ h.body_len
        → TakesIn b b' body → b'.failures ≡ b.failures → TakesByte h.body_len 10 mid new (body ++ 13 ∷ []) r
        → HandsBulk h old new b b' r
    ends-bulk new (Ok u) body size takes kept t =
        handed-bulk new ((body ++ 13 ∷ []) ++ 10 ∷ []) t.took body size refl t.failures takes kept
    ends-bulk new (Err e) body size takes kept t = stops-at_lf new e body size takes kept t

-- ---- after pushes

module _ (old mid : Inflow) (pushed : AfterPushes old mid) where
  room-left : push_bytes pushed.frames + room mid ≤ room old
  room-left = let s = pushed.reads.size in let f = pushed.reads.fits in
      let l = ap (λ (z : Limits). z.pushes) pushed.reads.limits in omega (arith, s, f, l)

  count : length (replies_in pushed.frames) ≡ 0
  count = ap length pushed.none

  pub hands-reply : (new : Inflow) (b b' : Sink) (h : BulkHeader) → (bulk : HandedBulk h mid new b b')
      → HandsReply old new b b' (Ok (Body h.body_len))
  hands-reply new b b' h bulk =
      let is_reply : as_push bulk.frame.value ≡ None = ap as_push bulk.value ∙ as_push-bulk bulk.body in
      record {
        reply = BulkString bulk.body;
        received = record {
          frames = pushed.frames ++ bulk.frame ∷ [];
          reads = reads-both 1 1 1 old mid new pushed.frames (bulk.frame ∷ []) new.received (omega arith)
              (omega (arith, count)) pushed.reads bulk.reads;
          ends = ends_after_pushes pushed.frames bulk.frame pushed.none is_reply;
          replies_are = sym (replies_in-append pushed.frames (bulk.frame ∷ []) ∙ rw (pushed.none, is_reply) (ap (λ v. v ∷ []) bulk.value));
          failures = bulk.source ∙ pushed.failures;
        };
        answers = AnswersBody.body bulk.body refl (ap (λ n. Ok (Body n)) (sym bulk.size)) bulk.takes bulk.failures;
      }

  pub stops-after : (new : Inflow) (b b' : Sink) (e : RedisError) → StopsInBody mid new b b' e
      → StopsInBody old new b b' e
  stops-after new b b' e h =
      let before = pushed.reads in
      let prefix : PrefixReads old.limits (mid.received ++ h.arrived) h.frames h.rest =
      subst (λ l. PrefixReads l (mid.received ++ h.arrived) h.frames h.rest) before.limits h.prefix in
      let bytes = push_bytes-append pushed.frames h.frames in
      record {
        arrived = before.arrived ++ h.arrived;
        came = h.came ∙ ap (λ z. z ++ h.arrived) before.came ∙ append_assoc old.came before.arrived h.arrived;
        to_come = consumed-both old.to_come mid.to_come new.to_come before.arrived h.arrived before.to_come h.to_come;
        needed = needed-both old.limits (room old) (room mid) 1 1 1 old.received mid.received before.arrived h.arrived
            pushed.frames before.prefix (omega arith) (omega (arith, count)) room-left before.needed
            (subst (λ l. ArrivedAsNeeded l (room mid) read_size 1 mid.received h.arrived) before.limits h.needed);
        frames = pushed.frames ++ h.frames;
        rest = h.rest;
        prefix = subst (λ z. PrefixReads old.limits z (pushed.frames ++ h.frames) h.rest)
            (append_assoc old.received before.arrived h.arrived)
            (reads_both old.limits ((old.received ++ before.arrived) ++ h.arrived) (mid.received ++ h.arrived) h.rest
            pushed.frames h.frames
            (prefix-longer old.limits (old.received ++ before.arrived) mid.received h.arrived pushed.frames before.prefix)
            prefix);
        only_pushes = replies_in-append pushed.frames h.frames ∙ rw (pushed.none, h.only_pushes) refl;
        fits = (let f = h.fits in omega (arith, bytes, f, room-left));
        limits = h.limits ∙ before.limits;
        pushes = h.pushes ∙ ap (λ l. l ++ pushes_in h.frames) before.pushes
            ∙ append_assoc old.pushes (pushes_in pushed.frames) (pushes_in h.frames)
            ∙ ap (λ l. old.pushes ++ l) (sym (pushes_in-append pushed.frames h.frames));
        size = (let s = before.size in let t = h.size in omega (arith, bytes, s, t));
        hands = subst (λ l. HandsPart l h.rest new.to_come old.failures new.failures b b' e) before.limits
            (subst (λ n. HandsPart mid.limits h.rest new.to_come n new.failures b b' e) pushed.failures h.hands);
      }
