-- What the contracts of replies and errors cite, given out for the crates of users.
pub use Rattle.resp_errors.specs.Errors.{kind_of, detail_of, code_of, fault_of, io_kind_of, error_of_io}
pub use Rattle.resp_errors.specs.Errors.{first_server_error_of, server_errors_of}
pub use Rattle.resp_errors.specs.Memory.{OnlyMemory}
pub use Rattle.resp_errors.specs.Redirects.{RedirectsTo}
pub use Rattle.resp_errors.specs.Retries.{is_dropped, is_of_cluster, replaces_connection, retry_of}
pub use Rattle.resp_errors.specs.ServerErrors.{server_code_of, server_details_of}
pub use Rattle.resp_types.specs.Fields.{NamedValues, OfField, OfFieldOr, OfFields, value_of}
pub use Rattle.resp_types.specs.Fields.{without}
pub use Rattle.resp_types.specs.Rows.{OfRow, row_of}
pub use Rattle.resp_types.specs.Structs.{AnyOthers, Field, FieldOr, NoOthers}
pub use Rattle.resp_flat.specs.FlatReplies.{IsFlatOf}
pub use Rattle.resp_flat.specs.FlatValues.{IsShownIn, Shows, ShowsIf}
pub use Rattle.resp_flat.specs.Readable.{IsReadable}
pub use Rattle.resp_from.specs.Conversion.{Converts, ConvertsCall, OfVia}
pub use Rattle.resp_from.specs.Lists.{OfArray, OfVec}
pub use Rattle.resp_from.specs.Maps.{HoldsMap, HoldsSet, OfMap, OfSet}
pub use Rattle.resp_containers.specs.Keyed.{Keying, IsDeduplicated, IsMerged, hashed, sorted}
pub use Rattle.resp_parse.specs.Grammar.{WellFormed, Malformed}
pub use Rattle.resp_parse.specs.Prefixes.{HasWellFormedPrefix, HasMalformedPrefix, FaultShownBy}
pub use Rattle.resp_parse.specs.Prefixes.{IsIncomplete}
pub use Rattle.resp_parse.specs.Reads.{Reads}
pub use Rattle.resp_parse.specs.State.{State, StandsAfter, FailedAfter, IsBetweenValues}
pub use Rattle.resp_parse.specs.State.{KeepsFaultOffset}
pub use Rattle.resp_parse.specs.Limits.{AreLimits, IsDepthLimit, IsSizeLimit, RefusesLimits}
pub use Rattle.resp_parse.specs.Limits.{depth_refused, of_depth, size_refused, usual}
pub use Rattle.resp_parse.specs.Limited.{Awaits, FaultShownAt, Found, WellFormedWithin, HasFault}
pub use Rattle.resp_parse.specs.Limited.{HasValue, OneReading, PassesSize, ReadsWithin}
pub use Rattle.resp_parse.specs.Limited.{first_bytes}
pub use Rattle.resp_parse.specs.Counts.{Counts, nothing_done}
pub use Rattle.resp_parse.specs.Built.{built}
pub use Rattle.resp_parse.specs.Bounds.{not_looked_at, WorksWithin, Bounded, FedBy, OneCall}
pub use Rattle.resp_parse.specs.Bounds.{CallsWithin}
pub use Rattle.resp_types.specs.Refusals.{RefusesField, RefusesFieldOr}
pub use Rattle.resp_types.specs.Doubles.{OfDouble, SpellsDouble}
pub use Rattle.resp_types.specs.Info.{Gets, HoldsText, OfInfo, SameEntry, entries_of, value_at}
pub use Rattle.resp_types.specs.Increx.{AreIntegers, OfIncrex}
pub use Rattle.resp_types.specs.IntegerReplies.{OfIntegerReply, number_of}
pub use Rattle.resp_types.specs.Roles.{OfReplica, OfRole}
pub use Rattle.resp_types.specs.ValueTypes.{OfType, name_of_type, type_named}
