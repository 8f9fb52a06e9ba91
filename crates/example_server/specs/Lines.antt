-- Lines, and what the headers of requests announce.
use Rattle.std.specs.Prelude.{ℕ, ◌≤◌, ◌+◌, ◌-◌, ◌==◌, ◌||◌, ◌&&◌, Bool, nat_lt, nat_le, List, length, take, drop}
use Rattle.std.specs.Prelude.{slice_index}
use Rattle.std.specs.Prelude.{if◌then◌else◌, Option, Some, None, ℤ, pos, negsuc}
use Rattle.std.specs.List.{position_or_len}
use Rattle.example_server.specs.Integers.{integer}
use Rattle.example_server.specs.declared.lines.Line.{Line}
use Rattle.example_server.specs.declared.lines.Line.TheVariants as line
use Rattle.example_server.specs.declared.lines.Array.{Array}
use Rattle.example_server.specs.declared.lines.Array.TheVariants as array
use Rattle.example_server.specs.declared.lines.BulkString.{BulkString}
use Rattle.example_server.specs.declared.lines.BulkString.TheVariants as bulk
use Rattle.example_server.specs.declared.protocol_error.ProtocolError.TheVariants as why

-- no line is longer, and no bulk string
abbrev pub longest : ℕ
longest = 65536

abbrev pub largest : ℕ
largest = 536870912

abbrev pub is_end : ℕ → ℕ → Bool
is_end end c = (c == end) || (c == 0)

-- where the first byte is that ends a line, or a NUL
abbrev pub end_at : ℕ → List ℕ → ℕ
end_at end b = position_or_len (is_end end) b

-- the end of the line is there, and so many bytes after it, none of them too far away
abbrev pub is_ended : ℕ → ℕ → List ℕ → Bool
is_ended end after b = nat_lt (end_at end b + after) (length b)
    && (slice_index b (end_at end b) == end) && nat_le (end_at end b + after) longest

abbrev pub line_of : ℕ → ℕ → List ℕ → Line
line_of end after b = if is_ended end after b then line.EndsAt (end_at end b)
    else (if nat_lt longest (length b) then line.TooLong else line.Unended)

-- the text of a header's line, between its first byte and its end
abbrev pub header_text : ℕ → List ℕ → List ℕ
header_text at b = take (at - 1) (drop 1 b)

-- a count of 31 bits; a negative one is 0
abbrev pub as_count : Option ℤ → Option ℕ
as_count (Some (pos n)) = if nat_lt n 2147483648 then Some n else None
as_count (Some (negsuc n)) = Some 0
as_count None = None

abbrev pub count_in : List ℕ → Option ℕ
count_in text = as_count (integer text)

-- a length
abbrev pub as_size : Option ℤ → Option ℕ
as_size (Some (pos n)) = if nat_le n largest then Some n else None
as_size _ = None

abbrev pub size_in : List ℕ → Option ℕ
size_in text = as_size (integer text)

-- an array announces its words
abbrev pub counted_array : ℕ → Option ℕ → Array
counted_array at (Some count) = array.Announced count (at + 2)
counted_array at None = array.Wrong why.Count

abbrev pub array_after : List ℕ → Line → Array
array_after b (line.EndsAt at) = counted_array at (count_in (header_text at b))
array_after b line.Unended = array.Unfinished
array_after b line.TooLong = array.Wrong why.LongCount

abbrev pub array_of : List ℕ → Array
array_of b = array_after b (line_of 13 1 b)

-- a bulk string of this length, and any two bytes
abbrev pub whole_bulk_string : ℕ → List ℕ → Option ℕ → BulkString
whole_bulk_string at b (Some size) = if nat_lt (length b) (at + size + 4) then bulk.Unfinished
    else bulk.Whole (at + 2) size
whole_bulk_string at b None = bulk.Wrong why.Length

-- a bulk string, where the line of its header ends here
abbrev pub sized_bulk_string : ℕ → List ℕ → BulkString
sized_bulk_string at b = if slice_index b 0 == 36
    then whole_bulk_string at b (size_in (header_text at b))
    else bulk.Wrong (why.NoBulkString (slice_index b 0))

abbrev pub bulk_string_after : List ℕ → Line → BulkString
bulk_string_after b (line.EndsAt at) = sized_bulk_string at b
bulk_string_after b line.Unended = bulk.Unfinished
bulk_string_after b line.TooLong = bulk.Wrong why.LongLength

abbrev pub bulk_string_of : List ℕ → BulkString
bulk_string_of b = bulk_string_after b (line_of 13 1 b)

-- the bytes are as many as are spoken of
abbrev pub HasHeader : List ℕ → Array → Type 0
HasHeader b (array.Announced count from) = from ≤ length b
HasHeader b _ = Unit {0}

abbrev pub HasBulkString : List ℕ → BulkString → Type 0
HasBulkString b (bulk.Whole from size) = from + size + 2 ≤ length b
HasBulkString b _ = Unit {0}
