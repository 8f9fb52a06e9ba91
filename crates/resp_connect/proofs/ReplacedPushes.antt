-- What is said of waiting for a push over a link holds of it as a connection that reconnects.
use Rattle.std.proofs.Common.{ℕ, List, Result, refl, ap}
use Rattle.resp_value.specs.declared.value.PushInfo.{PushInfo}
use Rattle.resp_errors.specs.declared.redis_error.RedisError.{RedisError}
use Rattle.resp_command.specs.Connection.{Connection, NoFailure}
use Rattle.resp_command.specs.NextPush.{Arrives, Breaks, NextPush, ReadsMessage, ReadsOf, answered, server_error}
use Rattle.resp_command.specs.NextPush.{unasked, malformed, early_end, source_failed, out_of_memory}
use Rattle.resp_connect.specs.Reconnecting.{replaceable}

module _ (old new : Connection) (r : Result PushInfo RedisError) where
  abbrev old' : Connection
  old' = replaceable old

  abbrev new' : Connection
  new' = replaceable new

  no_failure : NoFailure old new → NoFailure old' new'
  no_failure h = record { source = h.source; sink = h.sink }

  breaks : (e : RedisError) → Breaks new e r → Breaks new' e r
  breaks e h = record { answer = h.answer; broken = h.broken }

  arrives : (arrived : List ℕ) → Arrives old new arrived → Arrives old' new' arrived
  arrives arrived h = record {
    same = record {
      pipelines = h.same.pipelines;
      policy = refl;
      limits = h.same.limits;
      read_size = h.same.read_size;
    };
    moves = record { came = h.moves.came; sent = h.moves.sent; to_come = h.moves.to_come; holds = h.moves.holds };
    needed = h.needed;
    most = h.most;
    unflushed = h.unflushed;
    pushes = h.pushes;
    push_bytes = h.push_bytes;
  }

  reads_of : (incoming : List ℕ) → ReadsOf incoming old new r → ReadsOf incoming old' new' r
  reads_of incoming (answered h) = answered (record {
    value = h.value;
    message = h.message;
    first = h.first;
    is_message = h.is_message;
    answer = h.answer;
    works = h.works;
    no_failure = no_failure h.no_failure;
  })
  reads_of incoming (server_error h) = server_error (record {
    value = h.value;
    error = h.error;
    first = h.first;
    is_error = h.is_error;
    answer = h.answer;
    works = h.works;
    no_failure = no_failure h.no_failure;
  })
  reads_of incoming (unasked h) = unasked (record {
    value = h.value;
    first = h.first;
    is_reply = h.is_reply;
    breaks = breaks _ h.breaks;
    no_failure = no_failure h.no_failure;
  })
  reads_of incoming (malformed h) = malformed (record {
    frame_fault = h.frame_fault;
    fault = h.fault;
    left = h.left;
    breaks = breaks _ h.breaks;
    no_failure = no_failure h.no_failure;
  })
  reads_of incoming (early_end h) = early_end (record {
    incomplete = h.incomplete;
    end = h.end;
    left = h.left;
    breaks = breaks _ h.breaks;
    no_failure = no_failure h.no_failure;
  })
  reads_of incoming (source_failed h) = source_failed (record {
    kind = h.kind;
    incomplete = h.incomplete;
    left = h.left;
    breaks = breaks _ h.breaks;
    counted = h.counted;
    sink = h.sink;
  })
  reads_of incoming (out_of_memory h) = out_of_memory (record {
    frames = h.frames;
    few = h.few;
    taken = h.taken;
    breaks = breaks _ h.breaks;
    no_failure = no_failure h.no_failure;
  })

  reads : ReadsMessage old new r → ReadsMessage old' new' r
  reads h = record { arrived = h.arrived; arrives = arrives h.arrived h.arrives; of = reads_of _ h.of }

  pub pushed : NextPush old new r → NextPush old' new' r
  pushed h = record {
    when_aside = λ oldest later some.
        let k = h.when_aside oldest later some in record { answer = k.answer; left = ap replaceable k.left };
    when_broken = λ none broken.
        let k = h.when_broken none broken in record { answer = k.answer; same = ap replaceable k.same };
    otherwise = λ none works. reads (h.otherwise none works);
  }
