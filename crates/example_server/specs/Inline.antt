-- The words of an inline command (RESP, "Inline commands"), in quotes and with escapes as a server
-- reads them.
use Rattle.std.specs.Prelude.{ℕ, zero, suc, ◌+◌, ◌-◌, ◌*◌, ◌==◌, ◌||◌, ◌&&◌, Bool, nat_le, List, [], ◌∷◌, ◌++◌, length}
use Rattle.std.specs.Prelude.{slice_index}
use Rattle.std.specs.Prelude.{if◌then◌else◌, Option, Some, None, Vec}
use Rattle.std.specs.declared.alloc.Global.{Global}
use Rattle.example_server.specs.declared.inline.Place.{Place}
use Rattle.example_server.specs.declared.inline.Place.TheVariants as place
use Rattle.example_server.specs.declared.inline.Piece.{Piece}
use Rattle.example_server.specs.declared.inline.Piece.TheVariants as piece

-- white space
abbrev pub is_space : ℕ → Bool
is_space c = (c == 32) || (nat_le 9 c && nat_le c 13)

-- the white space that ends a word without quotes
abbrev pub ends_word : ℕ → Bool
ends_word c = (c == 32) || (c == 9) || (c == 10) || (c == 13)

-- what a letter after a backslash stands for
abbrev pub escaped : ℕ → ℕ
escaped c = if c == 110 then 10 else (if c == 114 then 13 else (if c == 116 then 9
    else (if c == 98 then 8 else (if c == 97 then 7 else c))))

abbrev pub hex_digit : ℕ → Option ℕ
hex_digit c = if nat_le 48 c && nat_le c 57 then Some (c - 48)
    else (if nat_le 97 c && nat_le c 102 then Some (c - 87)
    else (if nat_le 65 c && nat_le c 70 then Some (c - 55) else None))

abbrev pub two_digits : Option ℕ → Option ℕ → Option ℕ
two_digits (Some high) (Some low) = Some (16 * high + low)
two_digits _ _ = None

-- the byte of two hexadecimal digits after \x
abbrev pub hex_escape : List ℕ → Option ℕ
hex_escape b = if nat_le 4 (length b) && (slice_index b 1 == 120)
    then two_digits (hex_digit (slice_index b 2)) (hex_digit (slice_index b 3)) else None

-- a backslash in double quotes, and what follows it
abbrev pub escape : List ℕ → Piece
escape b = elim (hex_escape b) [
  | Some byte ↦ piece.Byte byte 3 place.Double
  | None ↦ if nat_le 2 (length b) then piece.Byte (escaped (slice_index b 1)) 1 place.Double
      else piece.Byte 92 0 place.Double
]

-- a quote ends a word before white space and at the end
abbrev pub closing : List ℕ → Piece
closing b = if nat_le 2 (length b)
    then (if is_space (slice_index b 1) then piece.Ends else piece.Unbalanced) else piece.Ends

-- outside quotes
abbrev pub bare : ℕ → Piece
bare c = if c == 34 then piece.Goes place.Double else (if c == 39 then piece.Goes place.Single
    else piece.Byte c 0 place.Bare)

-- in single quotes only a quote is escaped
abbrev pub single : List ℕ → Piece
single b = if slice_index b 0 == 39 then closing b
    else (if (slice_index b 0 == 92) && nat_le 2 (length b) && (slice_index b 1 == 39)
    then piece.Byte 39 1 place.Single else piece.Byte (slice_index b 0) 0 place.Single)

-- what the bytes begin with at a place
abbrev pub piece_at : Place → List ℕ → Piece
piece_at place.Between b =
    if is_space (slice_index b 0) then piece.Goes place.Between else bare (slice_index b 0)
piece_at place.Bare b = if ends_word (slice_index b 0) then piece.Ends else bare (slice_index b 0)
piece_at place.Double b = if slice_index b 0 == 34 then closing b
    else (if slice_index b 0 == 92 then escape b
    else piece.Byte (slice_index b 0) 0 place.Double)
piece_at place.Single b = single b

-- the words, the first of which begins with this byte, too
abbrev pub continued : ℕ → Option (List (List ℕ)) → Option (List (List ℕ))
continued c (Some (word ∷ words)) = Some ((c ∷ word) ∷ words)
continued c (Some []) = Some []
continued c None = None

-- the words, after an empty one
abbrev pub begun : Option (List (List ℕ)) → Option (List (List ℕ))
begun (Some words) = Some ([] ∷ words)
begun None = None

-- no quote is open where the bytes end
abbrev pub at_end : Place → Option (List (List ℕ))
at_end place.Between = Some []
at_end place.Bare = Some ([] ∷ [])
at_end _ = None

-- the words of the bytes at a place, after so many that belong to the byte before; at a place in a
-- word the first is its rest
abbrev pub split : Place → ℕ → List ℕ → Option (List (List ℕ))
split at skip [] = at_end at
split at (suc skip) (c ∷ cs) = split at skip cs
split at zero (c ∷ cs) = elim (piece_at at (c ∷ cs)) [
  | piece.Byte byte more next ↦ continued byte (split next more cs)
  | piece.Goes next ↦ split next 0 cs
  | piece.Ends ↦ begun (split place.Between 0 cs)
  | piece.Unbalanced ↦ None
]

-- the words of a line, if its quotes are balanced
abbrev pub words_in : List ℕ → Option (List (List ℕ))
words_in text = split place.Between 0 text

-- whole words, and the first bytes of one, before others
abbrev pub after : List (List ℕ) → List ℕ → Option (List (List ℕ)) → Option (List (List ℕ))
after done word (Some (rest ∷ words)) = Some (done ++ ((word ++ rest) ∷ words))
after done word (Some []) = Some done
after done word None = None

abbrev pub vec_items : Vec (List ℕ) Global → List (List ℕ)
vec_items v = v.items
