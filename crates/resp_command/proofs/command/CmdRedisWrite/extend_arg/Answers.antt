use Rattle.std.proofs.Common.{◌≡◌, ◌-◌, ◌∙◌, length, take, rules}
use Rattle.resp_command.proofs.LastPieces.{Grown, seen_args, seen_cursor, seen_room, seen_simple, seen_whole}
use Rattle.resp_command.proofs.command.CmdRedisWrite.extend_arg.Goals as goal

pub extend_last-requires : goal.extend_last-requires
extend_last-requires c =
    let i = c.self.inside in
    seen_room i.cursor i.cursors.items i.encoded_args c.args.more.now i.no_response c.args.self.now c.self.invariant
    c.self.view_is c.requires c.if-not-ends_in_cursor.ensures.1

-- an ordinary argument has grown
ordinary : (c : goal.In_ok-extend_last) → Grown c.self.inside.cursor c.self.inside.cursors.items
    c.self.inside.encoded_args c.args.more.now c.self.inside.cursors.items c.extend_last.new.self
ordinary c =
    let i = c.self.inside in
    seen_simple i.cursor i.cursors.items i.encoded_args c.args.more.now i.no_response c.args.self.now c.self.invariant
    c.self.view_is c.requires _ c.in_ok-extend_last.ensures c.if-not-ends_in_cursor.ensures.1

pub invariant_of-self-then-not-ends_in_cursor : goal.invariant_of-self-then-not-ends_in_cursor
invariant_of-self-then-not-ends_in_cursor c = (ordinary c).keeps

pub returns-then-not-ends_in_cursor-clause-ok : goal.returns-then-not-ends_in_cursor-clause-ok
returns-then-not-ends_in_cursor-clause-ok c =
    let i = c.self.inside in
    seen_args i.cursor i.cursors.items i.encoded_args c.args.more.now i.no_response c.args.self.now c.self.invariant
    c.self.view_is c.requires _ _ (ordinary c)

pub returns-then-not-ends_in_cursor-clause-whole : goal.returns-then-not-ends_in_cursor-clause-whole
returns-then-not-ends_in_cursor-clause-whole c =
    let i = c.self.inside in
    seen_whole i.cursor i.cursors.items i.encoded_args c.args.more.now i.no_response c.args.self.now c.self.invariant
    c.self.view_is c.requires _ _ (ordinary c)

-- a cursor argument became an ordinary one
cursor : (c : goal.After-pop) → Grown c.self.inside.cursor c.self.inside.cursors.items c.self.inside.encoded_args
    c.args.more.now c.pop.new.self.items c.push_both.new.self
cursor c =
    let i = c.self.inside in
    let left : c.pop.new.self.items ≡ take (length i.cursors.items - 1) i.cursors.items = search rules in
    seen_cursor i.cursor i.cursors.items i.encoded_args c.args.more.now i.no_response c.args.self.now c.self.invariant
    c.self.view_is c.requires
    _ _ _ _ c.unwrap_or.ensures (c.as_bytes-text.ensures.value ∙ c.format.ensures.text) left c.in_ok-push_both.ensures
    c.if-not-ends_in_cursor.ensures.0

pub invariant_of-self-2 : goal.invariant_of-self-2
invariant_of-self-2 c = (cursor c).keeps

pub returns-clause-ok : goal.returns-clause-ok
returns-clause-ok c =
    let i = c.self.inside in
    seen_args i.cursor i.cursors.items i.encoded_args c.args.more.now i.no_response c.args.self.now c.self.invariant
    c.self.view_is c.requires _ _ (cursor c)

pub returns-clause-whole : goal.returns-clause-whole
returns-clause-whole c =
    let i = c.self.inside in
    seen_whole i.cursor i.cursors.items i.encoded_args c.args.more.now i.no_response c.args.self.now c.self.invariant
    c.self.view_is c.requires _ _ (cursor c)
