-- What comes next after pushes: the header of a bulk string, or another reply.
use Rattle.std.proofs.Common.{◌≡◌, ℕ, ◌++◌, List, [], sym, ap, ◌∙◌, subst, append-nil, arith, length, Ok, Option, None, Some}
use Rattle.resp_value.specs.declared.value.Value.{Value}
use Rattle.resp_value.specs.declared.value.PushInfo.{PushInfo}
use Rattle.resp_parse.specs.declared.decoder.bulk_header.BulkHeader.{BulkHeader}
use Rattle.resp_parse.specs.BulkBodies.{Finds, OpensBulk}
use Rattle.resp_parse.specs.Calls.{Parses}
use Rattle.resp_parse.specs.Limited.{HasValue}
use Rattle.resp_parse.specs.Source.{Source}
use Rattle.resp_parse.specs.State.{State}
use Rattle.resp_parse.proofs.ParserStates.{IsBetweenValues-same}
use Rattle.resp_link.specs.Receiving.{Inflow, inflow_of, Reads}
use Rattle.resp_link.specs.Streaming.{AfterPushes, IsNoBulk}
use Rattle.resp_link.proofs.Receiving.{OnlyPushes, reads-both, reads-no_value}

module _ (old : Inflow) (s t : Source) (was new : State) (p : List PushInfo) (n : ℕ) (found : Option BulkHeader)
    (so_far : OnlyPushes old (inflow_of was s p n)) (same : new.limits ≡ was.limits)
    (f : Finds was.since was new s t found) where
  -- bytes were filled, and none of them taken
  pub found-waits : OnlyPushes old (inflow_of new t p n)
  found-waits =
      let held : was.since ++ f.filled ≡ new.since = sym f.held ∙ sym (IsBetweenValues-same new f.rest) in
      let none = ap length so_far.none in
      let more : Reads 1 (inflow_of was s p n) (inflow_of new t p n) [] new.since =
      subst (Reads 1 (inflow_of was s p n) (inflow_of new t p n) []) held
      (reads-no_value s t was new p n same f.filled f.source_gave.came f.source_gave.to_come f.needed) in
      record {
        frames = so_far.frames;
        reads = subst (λ fs. Reads 1 old (inflow_of new t p n) fs new.since) (append-nil so_far.frames)
            (reads-both 1 1 1 old (inflow_of was s p n) (inflow_of new t p n) so_far.frames [] new.since (omega arith)
            (omega (arith, none)) so_far.reads more);
        none = so_far.none;
        failures = f.failures ∙ so_far.failures;
      }

  pub found-pushes : AfterPushes old (inflow_of new t p n)
  found-pushes = let h = found-waits in
      record { frames = h.frames; reads = h.reads; none = h.none; failures = h.failures }

pub found-header : (s t : Source) (was new : State) (h : BulkHeader) → Finds was.since was new s t (Some h)
    → OpensBulk new.since h
found-header s t was new h f = subst (λ b. OpensBulk b h) (sym (IsBetweenValues-same new f.rest)) f.what

-- a value that was parsed where none comes first is no bulk string
pub found-other : (s t u : Source) (was mid new : State) (v : Value) → Finds was.since was mid s t None
    → new.limits ≡ mid.limits → Parses mid.since mid new t u (Ok v) → IsNoBulk v
found-other s t u was mid new v f same parsed = λ x e.
    f.what parsed.filled new.unparsed x
    (subst (λ w. HasValue mid.limits (mid.unparsed ++ parsed.filled) w new.unparsed) e
    (subst (λ b. HasValue mid.limits (b ++ parsed.filled) v new.unparsed) (IsBetweenValues-same mid f.rest)
    (rw same at parsed.value)))
