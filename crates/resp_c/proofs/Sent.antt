-- A handle may go to another thread: no part of what it owns, of the parser's lists and of its last
-- reply, speaks of a thread.
use mathlib.Core.List.{[], ◌∷◌}
use mir.Raw.{raw}
use base.Fraction.{full_share}
use base.Shift.{Keyless}
use denote.RattleType.{RattleType}
use denote.Builtin.{u8, usize}
use denote.Hole.{as_row}
use denote.Memory.{lone}
use denote.Param.Send.{IsSend, sendable, view_send, owning_send, part_keyless}
use denote.Param.SendFields.{declared_send, as_row_send}
use denote.RawPtr.{Ptr, block_ptr, null_ptr, lies_at}
use denote.Struct.Field.{row_field, u32-field, bool-field, usize-field}
use Rattle.std.specs.Prelude.{Option, None, Some}
use Rattle.std.specs.Box.Ownership.{box_owns}
use Rattle.std.specs.declared.alloc.Global.{Global}
use Rattle.std.specs.contracts.alloc.Global as heap
use Rattle.std.specs.contracts.impls.GlobalAllocator.TheImpl.{ghosts}
use Rattle.std.specs.contracts.option.Option as option
use Rattle.std.specs.contracts.vec.Vec as vec
use Rattle.std.proofs.Crossing.{frees, send as heap_send}
use Rattle.std.proofs.option.Option.TheSendSync as option_sent
use Rattle.std.proofs.vec.Vec.TheSendSync as vec_sent
use Rattle.resp_flat.specs.contracts.flat_reply.FlatReply as reply
use Rattle.resp_flat.proofs.flat_reply.FlatReply.TheSendSync as reply_sent
use Rattle.resp_parse.specs.contracts.body.Body as body
use Rattle.resp_parse.specs.contracts.flat_builder.FlatBuilder as builder
use Rattle.resp_parse.specs.contracts.flat_builder.FlatBuilderBuilder.TheImpl as flat_builder
use Rattle.resp_parse.specs.contracts.decoder.counter.Counter as counter
use Rattle.resp_parse.specs.contracts.decoder.Decoder as decoder
use Rattle.resp_parse.specs.contracts.decoder.Decoder.TheInside as decoder_inside
use Rattle.resp_parse.specs.contracts.machine.Machine as machine
use Rattle.resp_parse.specs.contracts.open_aggregates.OpenAggregate as open_aggregate
use Rattle.resp_parse.specs.contracts.open_aggregates.OpenAggregates as open_aggregates
use Rattle.resp_parse.specs.contracts.open_aggregates.OpenAggregates.TheInside as open_aggregates_inside
use Rattle.resp_parse.specs.contracts.flat_parser.FlatParser as parser
use Rattle.resp_parse.specs.contracts.flat_parser.FlatParser.TheInside as parser_inside
use Rattle.resp_parse.specs.contracts.seen.Seen as seen
use Rattle.resp_parse.specs.contracts.seen.SeenValues as seen_values
use Rattle.resp_parse.specs.contracts.seen.SeenValues.TheInside as seen_values_inside
use Rattle.resp_parse.specs.contracts.history.History as history
use Rattle.resp_parse.specs.contracts.shape.ElementsKind as elements_kind
use Rattle.resp_parse.proofs.body.Body.TheSendSync as body_sent
use Rattle.resp_parse.proofs.decoder.counter.Counter.TheSendSync as counter_sent
use Rattle.resp_parse.proofs.history.History.TheSendSync as history_sent
use Rattle.resp_parse.proofs.shape.ElementsKind.TheSendSync as elements_kind_sent
use Rattle.resp_c.specs.Held.{owns_some}
use Rattle.resp_c.specs.declared.session.Session.{Session}
use Rattle.resp_c.specs.contracts.session.Session as session
use Rattle.resp_c.specs.contracts.slot.Slot as slot

-- Fields of types that hold no others.

-- a field may go where its row may
once : (R : RattleType) → IsSend R → IsSend (as_row (row_field R))
once R = as_row_send (row_field R)

u32_send : IsSend (as_row u32-field)
u32_send = search sendable depth 12

usize_send : IsSend (as_row usize-field)
usize_send = search sendable depth 12

bool_send : IsSend (as_row bool-field)
bool_send = search sendable depth 12

byte_send : IsSend u8
byte_send = search sendable depth 12

option_send : (R : RattleType) → IsSend R → IsSend (as_row (option.the_field R))
option_send R s = as_row_send (option.the_field R) (option_sent.the_field_send R s)

vec_send : (R : RattleType) → IsSend R → IsSend (as_row (vec.the_field R heap.the_row ghosts))
vec_send R s = as_row_send (vec.the_field R heap.the_row ghosts)
    (vec_sent.the_send R heap.the_row ghosts s heap_send frees)

elements_kind_send : IsSend (as_row elements_kind.the_field)
elements_kind_send = as_row_send elements_kind.the_field elements_kind_sent.the_field_send

-- these, for a search through the fields of a type
ruleset leaves = (tt, once, u32_send, usize_send, bool_send, elements_kind_send)

-- A parser.

-- what contracts alone see owns nothing
seen_send : IsSend seen.the_row
seen_send = record { owned = λ d vs. ((λ vss. (tt, ((λ uss. (tt, tt)), tt))), tt); leaving = λ k f vs. tt }

seen_values_send : IsSend (as_row seen_values.the_field)
seen_values_send = as_row_send seen_values.the_field
    (view_send _ _ _ _ _ (declared_send seen_values_inside.the_type (as_row_send seen.the_field seen_send, tt)))

open_aggregate_send : IsSend open_aggregate.the_row
open_aggregate_send = declared_send open_aggregate.the_type (search (leaves, seen_values_send) depth 60)

open_aggregates_send : IsSend open_aggregates.the_row
open_aggregates_send =
    let outer = vec_send open_aggregate.the_row open_aggregate_send in
    view_send _ _ _ _ _ (declared_send open_aggregates_inside.the_type
    (search (leaves, seen_values_send, outer) depth 60))

builder_send : IsSend builder.the_row
builder_send =
    let shows = as_row_send reply.the_field reply_sent.the_field_send in
    let places = vec_send usize (search sendable depth 12) in
    declared_send builder.the_type (search (leaves, shows, places) depth 60)

machine_send : IsSend (machine.the_row builder.the_row)
machine_send =
    let aggregates = as_row_send open_aggregates.the_field open_aggregates_send in
    let bodies = option_send body.the_row body_sent.the_send in
    declared_send (machine.the_type builder.the_row) (search (leaves, builder_send, aggregates, bodies) depth 60)

-- what a decoder is over this builder
abbrev decoder_row : RattleType
decoder_row = decoder.the_row builder.the_row reply.the_row flat_builder.ghosts

decoder_send : IsSend decoder_row
decoder_send =
    let buffer = vec_send u8 byte_send in
    let offset = option_send usize (search sendable depth 12) in
    let since = as_row_send history.the_field history_sent.the_send in
    let counts = as_row_send counter.the_field counter_sent.the_send in
    view_send _ _ _ _ _ (declared_send (decoder_inside.the_type builder.the_row reply.the_row flat_builder.ghosts)
    (search (leaves, machine_send, buffer, offset, since, counts) depth 60))

parser_send : IsSend parser.the_row
parser_send = view_send _ _ _ _ _ (declared_send parser_inside.the_type (search (leaves, decoder_send) depth 60))

-- A session, and what a slot owns of it.

session_send : IsSend session.the_row
session_send =
    let reads = as_row_send parser.the_field parser_send in
    let shows = as_row_send reply.the_field reply_sent.the_field_send in
    declared_send session.the_type (search (leaves, reads, shows) depth 60)

-- what lies behind a pointer
lies_keyless : (R : RattleType) → IsSend R → (p : Ptr) (x : R.Denot) → Keyless (lies_at R full_share p x)
lies_keyless R s (block_ptr b o) x = part_keyless R s full_share x b o
lies_keyless R s null_ptr x = tt

-- the session on the heap, and the right to free its memory
owned_keyless : (a : Global) (p : Ptr) (o : Option Session)
    → Keyless (owns_some (box_owns (ghosts.dealloc_token a) session.the_row p) o)
owned_keyless a p None = tt
owned_keyless a p (Some x) = (
  lies_keyless session.the_row session_send p x,
  frees.frees a (raw (lone session.the_row.mir)) p,
)

pub slot_send : IsSend slot.the_row
slot_send = owning_send slot.the_type (search sendable depth 12) (λ d. owned_keyless d.alloc d.at d.value) (λ k x w. tt)
