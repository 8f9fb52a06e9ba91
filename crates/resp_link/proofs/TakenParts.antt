-- A body that is taken in pieces.
use Rattle.std.proofs.Common.{◌≡◌, ℕ, ◌+◌, ◌-◌, ◌<◌, ◌≤◌, List, [], ◌∷◌, ◌++◌, length, take, drop}
use Rattle.std.proofs.Common.{refl, sym, ap, ◌∙◌, subst, append_assoc, append-nil, length-append, arith, Ok, Err}
use Rattle.std.specs.Io.KnownBytes.{Consumes}
use Rattle.std.proofs.lemmas.List.{take-append-drop, take_all}
use Rattle.resp_value.specs.declared.value.PushInfo.{PushInfo}
use Rattle.resp_errors.specs.declared.redis_error.RedisError.{RedisError}
use Rattle.resp_parse.specs.PlainReading.{incomplete, read_body}
use Rattle.resp_parse.specs.Source.{Source, SourceGave}
use Rattle.resp_parse.specs.State.{State, IsBetweenValues}
use Rattle.resp_parse.specs.Calls.{Asks, CannotFill}
use Rattle.resp_parse.proofs.ParserStates.{FailedAfter-since, StandsAfter-since, IsBetweenValues-same}
use Rattle.resp_link.specs.Receiving.{Inflow, inflow_of}
use Rattle.resp_link.specs.Streaming.{TookPart, TookWell, HasByte, NoByte, TakesIn, TakesPiece}
use Rattle.resp_link.specs.Streaming.{HandsFront, HandedBody, CannotHandBody, TakesByte, body_not_taken}
use Rattle.resp_link.specs.Sink.{Sink, SendsAll}
use Rattle.resp_command.specs.Connection.{IsPrefix}
use Rattle.resp_errors.specs.declared.kinds.IoKind.{IoKind}
use Rattle.resp_link.proofs.BulkReadings.{body-lacks}
use Rattle.resp_link.proofs.SentSoFar.{SentSoFar, grown-nothing, grown-both}
use Rattle.resp_link.proofs.Receiving.{consumed-nothing, consumed-both}

-- ---- parts of a body

pub took-nothing : (n : ℕ) (at : Inflow) → TookWell n at at []
took-nothing n at = record {
  took = record {
    arrived = [];
    came = sym (append-nil at.came);
    to_come = consumed-nothing at.to_come;
    whole = append-nil at.received;
    needed = record {
      before = [];
      last = [];
      whole = refl;
      some = λ _. refl;
      size = omega arith;
      short = λ some. absurd (some refl);
    };
    limits = refl;
    pushes = refl;
    push_bytes = refl;
  };
  failures = refl;
}

-- bytes were taken off the front
pub took-front : (n : ℕ) (start at next : Inflow) (part : List ℕ) (k : ℕ) → TookWell n start at part
    → next ≡ record at { received = drop k at.received } → TookWell n start next (part ++ take k at.received)
took-front n start at next part k h e = rw e (record {
  took = record {
    arrived = h.took.arrived;
    came = h.took.came;
    to_come = h.took.to_come;
    whole = h.took.whole ∙ ap (λ z. part ++ z) (sym (take-append-drop k at.received))
        ∙ sym (append_assoc part (take k at.received) (drop k at.received));
    needed = h.took.needed;
    limits = h.took.limits;
    pushes = h.took.pushes;
    push_bytes = h.took.push_bytes;
  };
  failures = h.failures;
})

-- ---- asking for bytes

-- none is held
module _ (n : ℕ) (start : Inflow) (s t : Source) (was new : State) (p : List PushInfo) (m : ℕ) (part : List ℕ)
    (so_far : TookWell n start (inflow_of was s p m) part) (rest : IsBetweenValues was)
    (same : new.limits ≡ was.limits) (none : was.unparsed ≡ []) where
  abbrev took : TookPart n start (inflow_of was s p m) part
  took = so_far.took

  nothing : was.since ≡ []
  nothing = IsBetweenValues-same was rest ∙ none

  all : start.received ++ took.arrived ≡ part
  all = took.whole ∙ ap (λ z. part ++ z) nothing ∙ append-nil part

  pub has-byte : read_body n part ≡ incomplete → IsBetweenValues new → Asks was.unparsed was new s t (Ok tt)
      → HasByte n start (inflow_of new t p m) part (Ok tt)
  has-byte lacks now a =
      let more = a.more.filled in
      let held : new.since ≡ more = IsBetweenValues-same new now
      ∙ sym (now.only (was.unparsed ++ more) a.more.stands) ∙ ap (λ z. z ++ more) none in
      let size = ap length held in (
        record {
          took = record {
            arrived = took.arrived ++ more;
            came = a.more.source_gave.came ∙ ap (λ z. z ++ more) took.came ∙ append_assoc start.came took.arrived more;
            to_come = consumed-both start.to_come s.to_come t.to_come took.arrived more took.to_come
                a.more.source_gave.to_come;
            whole = sym (append_assoc start.received took.arrived more) ∙ ap (λ z. z ++ more) all
                ∙ ap (λ z. part ++ z) (sym held);
            needed = record {
              before = took.arrived;
              last = more;
              whole = refl;
              some = λ e. absurd (let l = ap length e in omega (arith, l, a.some));
              size = a.size;
              short = λ _. rw all lacks;
            };
            limits = same ∙ took.limits;
            pushes = took.pushes;
            push_bytes = took.push_bytes;
          };
          failures = a.more.failures ∙ so_far.failures;
        },
        omega (arith, size, a.some),
      )

  gave-nothing : SourceGave s [] t → new.since ≡ [] → TookPart n start (inflow_of new t p m) part
  gave-nothing c e = record {
    arrived = took.arrived;
    came = c.came ∙ append-nil s.came ∙ took.came;
    to_come = subst (Consumes start.to_come t.to_come) (append-nil took.arrived)
        (consumed-both start.to_come s.to_come t.to_come took.arrived [] took.to_come c.to_come);
    whole = all ∙ sym (append-nil part) ∙ ap (λ z. part ++ z) (sym e);
    needed = took.needed;
    limits = same ∙ took.limits;
    pushes = took.pushes;
    push_bytes = took.push_bytes;
  }

  pub no-byte : (e : RedisError) → CannotFill was.unparsed e new s t
      → HasByte n start (inflow_of new t p m) part (Err e)
  no-byte e (CannotFill.early_end i c end f h) =
      let z : new.since ≡ [] = sym (FailedAfter-since new was.unparsed h) ∙ none in
      (gave-nothing c z, (z, NoByte.early_end i end (f ∙ so_far.failures)))
  no-byte e (CannotFill.source_failed kind i c f h) =
      let z : new.since ≡ [] = sym (StandsAfter-since new was.unparsed h) ∙ none in
      (gave-nothing c z, (z, NoByte.source_failed kind i (rw so_far.failures at f)))
  no-byte e (CannotFill.out_of_memory i c f h) =
      let z : new.since ≡ [] = sym (FailedAfter-since new was.unparsed h) ∙ none in
      (gave-nothing c z, (z, NoByte.out_of_memory i (f ∙ so_far.failures)))

-- some are
pub holds-byte : (n : ℕ) (start at : Inflow) (part : List ℕ) → TookWell n start at part → 0 < length at.received
    → HasByte n start at part (Ok tt)
holds-byte n start at part h some = (h, some)

-- ---- what a sink took

pub takes-nothing : (k : Sink) → TakesIn k k []
takes-nothing k = record { sent = sym (append-nil k.sent); holds = grown-nothing k.holds }

pub takes-both : (a b c : Sink) (xs ys : List ℕ) → TakesIn a b xs → TakesIn b c ys → TakesIn a c (xs ++ ys)
takes-both a b c xs ys h k = record {
  sent = k.sent ∙ ap (λ z. z ++ ys) h.sent ∙ append_assoc a.sent xs ys;
  holds = grown-both a.holds b.holds c.holds xs ys h.holds k.holds;
}

pub piece-taken : (start now : Sink) (q : List ℕ) (done : ℕ) → SentSoFar start now q done → length q ≤ done
    → TakesPiece start now q (Ok tt)
piece-taken start now q done h l = record {
  gone = take done q;
  takes = record { sent = h.sent; holds = h.holds };
  part = take_all done q l;
  failures = h.failures;
}

pub piece-failed : (start next : Sink) (q : List ℕ) (kind : IoKind) → SendsAll start next q (Err kind)
    → TakesPiece start next q (Err kind)
piece-failed start next q kind h = record {
  gone = h.gone;
  takes = record { sent = h.sent; holds = h.holds };
  part = h.part;
  failures = h.failures;
}

-- ---- pieces of what is held

pub front-left : (s : Source) (was new : State) (p : List PushInfo) (m k : ℕ) → IsBetweenValues was
    → IsBetweenValues new → new.limits ≡ was.limits → new.unparsed ≡ drop k was.unparsed
    → inflow_of new s p m ≡ record (inflow_of was s p m) { received = drop k was.since }
front-left s was new p m k rest now same left =
    let a : new.since ≡ drop k was.since = IsBetweenValues-same new now ∙ left
    ∙ ap (drop k) (sym (IsBetweenValues-same was rest)) in
    rw (same, a) refl

-- ---- a body, piece by piece

-- so many bytes are missing yet
pub record HandedSoFar (n : ℕ) (old now : Inflow) (b k : Sink) (missing : ℕ) : Type 0 where
  pub part : List ℕ
  pub size : length part + missing ≡ n
  pub took : TookWell n old now part
  pub takes : TakesIn b k part
  pub failures : k.failures ≡ b.failures

pub handed-nothing : (n : ℕ) (at : Inflow) (b : Sink) → HandedSoFar n at at b b n
handed-nothing n at b = record {
  part = [];
  size = omega arith;
  took = took-nothing n at;
  takes = takes-nothing b;
  failures = refl;
}

pub lacks-more : (n : ℕ) (old now : Inflow) (b k : Sink) (missing : ℕ) → (h : HandedSoFar n old now b k missing)
    → read_body n h.part ≡ incomplete
lacks-more n old now b k missing h = body-lacks n h.part (let s = h.size in omega (arith, s))

module _ (n : ℕ) (old : Inflow) (b k : Sink) (missing : ℕ) (part : List ℕ) (size : length part + missing ≡ n)
    (takes : TakesIn b k part) (same : k.failures ≡ b.failures) where
  pub handed-more : (mid next : Inflow) (k' : Sink) (count : ℕ) → TookWell n old mid part
      → HandsFront missing mid next k k' (Ok count) → HandedSoFar n old next b k' (missing - count)
  handed-more mid next k' count w (piece, (front, taken)) =
      let whole : taken.gone ≡ piece = taken.part in
      let l : length (part ++ piece) ≡ length part + count = length-append part piece
      ∙ ap (λ z. length part + z) front.size in
      record {
        part = part ++ piece;
        size = (let m : count ≤ missing = front.within in omega (arith, l, size, m));
        took = rw front.piece_is (took-front n old mid next part count w front.left);
        takes = takes-both b k k' part piece takes (subst (TakesIn k k') whole taken.takes);
        failures = taken.failures ∙ same;
      }

  pub handed-no_byte : (new : Inflow) (e : RedisError) → 0 < missing → HasByte n old new part (Err e)
      → CannotHandBody n old new b k e
  handed-no_byte new e some (took, (none, why)) =
      CannotHandBody.no_byte part took none why (omega (arith, size, some)) takes same

  pub handed-failed : (mid next : Inflow) (k' : Sink) (kind : IoKind) (e : RedisError) → e ≡ body_not_taken
      → TookWell n old mid part → HandsFront missing mid next k k' (Err kind) → CannotHandBody n old next b k' e
  handed-failed mid next k' kind e is w (unchanged, (piece, ((prefix, few), taken))) =
      let gone : IsPrefix taken.gone piece = taken.part in
      let both : mid.received ≡ taken.gone ++ (gone.rest ++ prefix.rest) = prefix.whole
      ∙ ap (λ z. z ++ prefix.rest) gone.whole ∙ append_assoc taken.gone gone.rest prefix.rest in
      let l : length piece ≡ length taken.gone + length gone.rest = ap length gone.whole
      ∙ length-append taken.gone gone.rest in
      rw unchanged (CannotHandBody.not_taken part taken.gone w
      (record { rest = gone.rest ++ prefix.rest; whole = both }) (omega (arith, size, few, l))
      (takes-both b k k' part taken.gone takes taken.takes) (rw same at taken.failures) is)

pub handed-all : (n : ℕ) (old now : Inflow) (b k : Sink) (missing : ℕ) → HandedSoFar n old now b k missing
    → missing ≡ 0 → HandedBody n old now b k
handed-all n old now b k missing h none = record {
  body = h.part;
  size = (let s = h.size in omega (arith, s, none));
  took = h.took;
  takes = h.takes;
  failures = h.failures;
}

-- ---- a byte at the end of a body

pub takes-byte : (n byte : ℕ) (start at next : Inflow) (part rest : List ℕ) → TookWell n start at part
    → at.received ≡ byte ∷ rest → next ≡ record at { received = drop 1 at.received }
    → TakesByte n byte start next part (Ok tt)
takes-byte n byte start at next part rest h first e =
    let z : take 1 at.received ≡ byte ∷ [] = ap (take 1) first in
    subst (λ x. TookWell n start next (part ++ x)) z (took-front n start at next part 1 h e)

pub none-held : (xs : List ℕ) → length xs ≡ 0 → xs ≡ []
none-held [] l = refl
none-held (x ∷ xs) l = absurd (omega arith)
