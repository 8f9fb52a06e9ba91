-- Cursor arguments (SCAN and its like take a cursor, an integer in decimal, and answer the next
-- one): each is sent as the latest cursor of its command.
use Rattle.std.specs.Prelude.{◌≡◌, ℕ, ◌+◌, ◌-◌, ◌≤◌, List, [], ◌∷◌, ◌++◌, Option, Some, length, decimal, filter, nat_lt}
use Rattle.std.specs.Prelude.{slice_get, slice_set, MatchOption}
use Rattle.resp_args.specs.Args.{Args, extended}
use Rattle.resp_command.specs.Command.{Command}

-- the arguments with this text at the places
abbrev pub with_text_at : List ℕ → List ℕ → Args → Args
with_text_at text [] args = args
with_text_at text (place ∷ places) args = with_text_at text places (slice_set args place text)

-- the command with this cursor, which its cursor arguments hold
abbrev pub with_cursor : ℕ → Command → Command
with_cursor cursor c = record c {
  args = with_text_at (decimal cursor) c.cursors c.args;
  cursor = Some cursor;
}

-- the same with one cursor argument more, at the end
abbrev pub with_cursor_arg : ℕ → Command → Command
with_cursor_arg cursor c = record c {
  args = with_text_at (decimal cursor) c.cursors (c.args ++ decimal cursor ∷ []);
  cursor = Some cursor;
  cursors = c.cursors ++ length c.args ∷ [];
}

-- the command with more bytes at the end of its last argument, which is no cursor argument then
abbrev pub with_extended_arg : List ℕ → Command → Command
with_extended_arg bytes c = record c {
  args = extended c.args bytes;
  cursors = filter (λ place. nat_lt place (length c.args - 1)) c.cursors;
}

-- the places ascend, from the first number on and below the second
abbrev pub AscendWithin : ℕ → ℕ → List ℕ → Type 0
AscendWithin from end [] = from ≤ end
AscendWithin from end (place ∷ places) = (from ≤ place) × AscendWithin (place + 1) end places

-- the arguments at the places have this text
abbrev pub HaveText : List ℕ → Args → List ℕ → Type 0
HaveText text args [] = Unit {0}
HaveText text args (place ∷ places) =
    (slice_get args place ≡ Some text) × HaveText text args places

-- what is true of every command: its cursor arguments are among its arguments, and have the
-- decimal of the latest cursor; where none was set, there are none
pub record HoldsCursor (args : Args) (cursor : Option ℕ) (cursors : List ℕ) : Type 0 where
  pub ascend : AscendWithin 0 (length args) cursors
  pub texts : MatchOption cursor (cursors ≡ []) (λ c. HaveText (decimal c) args cursors)
