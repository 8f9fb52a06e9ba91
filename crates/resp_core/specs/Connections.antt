-- What the contracts of commands and connections cite, given out for the crates of users.
pub use Rattle.resp_command.specs.Call.{Asks, Call, CommandCall, PackedCall, Answers, AnswersReply}
pub use Rattle.resp_command.specs.Call.{Reconnects, Refuses, Routes, needed, refused, replaced}
pub use Rattle.resp_command.specs.Call.{carried, not_carried, parted}
pub use Rattle.resp_command.specs.Command.{Command, new_command}
pub use Rattle.resp_command.specs.CommandQuery.{CommandQuery}
pub use Rattle.resp_command.specs.Connection.{Connection, Bytes, Exchange, ExchangeOf, LinkPolicy}
pub use Rattle.resp_command.specs.Connection.{KnownExchange, Moves, SetsAside, idle, push_room}
pub use Rattle.resp_command.specs.Connection.{replied, malformed, early_end, sink_failed}
pub use Rattle.resp_command.specs.Connection.{source_failed, out_of_memory, IsFault}
pub use Rattle.resp_command.specs.Connection.{stays, reconnects, routes}
pub use Rattle.resp_command.specs.Cursors.{HoldsCursor, with_cursor, with_cursor_arg}
pub use Rattle.resp_command.specs.Cursors.{with_extended_arg}
pub use Rattle.resp_command.specs.NextPush.{IsMessage, IsReply, IsServerError, NextPush}
pub use Rattle.resp_command.specs.Packed.{as_value, packed}
pub use Rattle.resp_command.specs.Parted.{Parted, RepliedOver, multi_bytes}
pub use Rattle.resp_command.specs.ScanLaw.{Calls, LawOfScans, WholeScan}
pub use Rattle.resp_command.specs.ScanReplies.{Given, Gives, GivesFirst, IsBatch, IsPage, IsFirstPage}
pub use Rattle.resp_command.specs.ScanReplies.{ReadsPage}
pub use Rattle.resp_command.specs.ScanReplies.{answers_in, latest}
pub use Rattle.resp_command.specs.ScanStates.{borrowed, scan_state, state_of}
pub use Rattle.resp_command.specs.Scans.{Asked, CannotStart, FirstRequest, LaterRequest, Next}
pub use Rattle.resp_command.specs.Scans.{Requests, ScanState, Starts}
pub use Rattle.resp_command.specs.ShownArgs.{args_left, referent, shown_args}
pub use Rattle.resp_command.specs.Subscriptions.{IsUnanswered, is_subscription}
unfoldable pub use Rattle.resp_command.specs.Subscriptions.{is_subscription_name}
pub use Rattle.resp_command.specs.Taken.{ArrivedAsNeeded, IsShort, Taken, Taking, TakesOneThing}
pub use Rattle.resp_command.specs.Taken.{took, met_fault, ended_early, PrefixReads, ListsPushes}
pub use Rattle.resp_command.specs.Taken.{Aside, Frame, MeetsFault, PushPasses, aside_of}
pub use Rattle.resp_command.specs.Taken.{push_bytes, pushes_in, replies_in, values_of}
pub use Rattle.resp_link.specs.Linking.{connection_of}
pub use Rattle.resp_link.specs.Receiving.{Inflow, inflow_of, unread}
pub use Rattle.resp_link.specs.Sink.{SendsAll, Sink, fresh_sink}
pub use Rattle.resp_parse.specs.Source.{Fills, Source, fresh_source}
pub use Rattle.resp_pipeline.specs.Retried.{Retried, TriedAgain}
