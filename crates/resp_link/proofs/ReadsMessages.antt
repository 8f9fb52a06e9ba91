-- A value that comes where nothing was asked.
use Rattle.std.proofs.Common.{◌≡◌, ℕ, Bool, true, false, List, [], ◌++◌, refl, sym, ap, append-nil, arith}
use Rattle.std.proofs.Common.{Result, Ok, Err, IfOk, IfErr, MatchResult, is_err}
use Rattle.std.specs.Io.KnownBytes.{Consumes}
use Rattle.resp_value.specs.declared.value.Value.{Value}
use Rattle.resp_value.specs.declared.value.PushInfo.{PushInfo}
use Rattle.resp_errors.specs.declared.redis_error.RedisError.{RedisError}
use Rattle.resp_errors.specs.declared.server_error.ServerError.{ServerError}
use Rattle.resp_parse.specs.Source.{Source}
use Rattle.resp_parse.specs.State.{State}
use Rattle.resp_parse.specs.Calls as calls
use Rattle.resp_parse.specs.Calls.{AsNeeded, Parses, CannotParse}
use Rattle.resp_parse.proofs.ParserStates.{StandsAfter-since, FailedAfter-since}
use Rattle.resp_command.specs.Connection.{Connection}
use Rattle.resp_command.proofs.Values.{reads_nothing, reads_one}
use Rattle.resp_link.specs.Receiving.{inflow_of}
use Rattle.resp_link.specs.Linking.{connection_of}
use Rattle.resp_link.specs.Messages.{as_one_result}
use Rattle.resp_link.specs.Sink.{Sink}
use Rattle.resp_command.specs.NextPush.{IsMessage, IsServerError, CannotBeMessage, other_value, no_memory}
use Rattle.resp_command.specs.NextPush.{Arrives, ReadsMessage, answered, server_error}
use Rattle.resp_command.specs.NextPush.{unasked, malformed, early_end, source_failed, out_of_memory}
use Rattle.resp_link.proofs.Receiving.{value_since}
use Rattle.resp_link.proofs.SentSoFar.{grown-nothing}

module _ (s t : Source) (was new : State) (p : List PushInfo) (n : ℕ) (k : Sink) (same : new.limits ≡ was.limits) where
  abbrev before : Connection
  before = connection_of (inflow_of was s p n) k false

  abbrev after : Bool → Connection
  after broken = connection_of (inflow_of new t p n) k broken

  arrives : (broken : Bool) (filled : List ℕ) → t.came ≡ s.came ++ filled → Consumes s.to_come t.to_come filled
      → AsNeeded new.limits was.since filled → Arrives before (after broken) filled
  arrives broken filled came to_come needed =
      let enough : AsNeeded was.limits was.since filled = rw same at needed in
      record {
        same = record { pipelines = refl; policy = refl; limits = same; read_size = refl };
        moves = record {
          came = came;
          sent = sym (append-nil k.sent);
          to_come = to_come;
          holds = grown-nothing k.holds;
        };
        needed = enough;
        most = enough.size;
        unflushed = refl;
        pushes = refl;
        push_bytes = refl;
      }

  -- a value came: a message, a server's error, or another
  pub came_value : (v : Value) (r : Result (Result PushInfo ServerError) RedisError)
      → Parses was.since was new s t (Ok v)
      → IfOk r (λ found. MatchResult found (IsMessage v) (IsServerError v)) → IfErr r (CannotBeMessage v)
      → ReadsMessage before (after (is_err r)) (as_one_result r)
  came_value v (Ok (Err e)) parsed is_error error = record {
    arrived = parsed.filled;
    arrives = arrives false parsed.filled parsed.source_gave.came parsed.source_gave.to_come parsed.needed;
    of = server_error (record {
      value = v;
      error = e;
      first = value_since s t was new v same parsed;
      is_error = is_error;
      answer = refl;
      works = refl;
      no_failure = record { source = parsed.failures; sink = refl };
    });
  }
  came_value v (Ok (Ok m)) parsed message error = record {
    arrived = parsed.filled;
    arrives = arrives false parsed.filled parsed.source_gave.came parsed.source_gave.to_come parsed.needed;
    of = answered (record {
      value = v;
      message = m;
      first = value_since s t was new v same parsed;
      is_message = message;
      answer = refl;
      works = refl;
      no_failure = record { source = parsed.failures; sink = refl };
    });
  }
  came_value v (Err e) parsed message (other_value is none) = record {
    arrived = parsed.filled;
    arrives = arrives true parsed.filled parsed.source_gave.came parsed.source_gave.to_come parsed.needed;
    of = unasked (record {
      value = v;
      first = value_since s t was new v same parsed;
      is_reply = none;
      breaks = record { answer = ap Err is; broken = refl };
      no_failure = record { source = parsed.failures; sink = refl };
    });
  }
  came_value v (Err e) parsed message (no_memory is) = record {
    arrived = parsed.filled;
    arrives = arrives true parsed.filled parsed.source_gave.came parsed.source_gave.to_come parsed.needed;
    of = out_of_memory (record {
      frames = _;
      few = omega arith;
      taken = reads_one was.limits (was.since ++ parsed.filled) new.since v (value_since s t was new v same parsed);
      breaks = record { answer = ap Err is; broken = refl };
      no_failure = record { source = parsed.failures; sink = refl };
    });
  }

  -- none did
  pub came_none : (e : RedisError) → Parses was.since was new s t (Err e) → ReadsMessage before (after true) (Err e)
  came_none e (calls.malformed f filled is bad failed) = record {
    arrived = filled;
    arrives = arrives true filled failed.source_gave.came failed.source_gave.to_come failed.needed;
    of = malformed (record {
      frame_fault = f;
      fault = rw same at bad;
      left = sym (FailedAfter-since new (was.since ++ filled) failed.failed);
      breaks = record { answer = ap Err is; broken = refl };
      no_failure = record { source = failed.failures; sink = refl };
    });
  }
  came_none e (calls.early_end filled is incomplete end failed) = record {
    arrived = filled;
    arrives = arrives true filled failed.source_gave.came failed.source_gave.to_come failed.needed;
    of = early_end (record {
      incomplete = rw same at incomplete;
      end = end;
      left = sym (FailedAfter-since new (was.since ++ filled) failed.failed);
      breaks = record { answer = ap Err is; broken = refl };
      no_failure = record { source = failed.failures; sink = refl };
    });
  }
  came_none e (calls.source_failed kind is midway) = record {
    arrived = midway.filled;
    arrives = arrives true midway.filled midway.source_gave.came midway.source_gave.to_come midway.needed;
    of = source_failed (record {
      kind = kind;
      incomplete = rw same at midway.awaits;
      left = sym (StandsAfter-since new (was.since ++ midway.filled) midway.stands);
      breaks = record { answer = ap Err is; broken = refl };
      counted = midway.failures;
      sink = refl;
    });
  }
  came_none e (calls.out_of_memory filled is failed) = record {
    arrived = filled;
    arrives = arrives true filled failed.source_gave.came failed.source_gave.to_come failed.needed;
    of = out_of_memory (record {
      frames = [];
      few = omega arith;
      taken = (let left = FailedAfter-since new (was.since ++ filled) failed.failed in rw left
          (reads_nothing was.limits new.since));
      breaks = record { answer = ap Err is; broken = refl };
      no_failure = record { source = failed.failures; sink = refl };
    });
  }
